-- The machine goes on with what it has read, and what it has read can be completed.
use Rattle.std.proofs.Common.{◌≡◌, ℕ, suc, ◌+◌, ◌≤◌, max, List, [], ◌∷◌, ◌++◌, refl, sym, ap, ◌∙◌, subst, arith, append_assoc, true}
use Rattle.std.specs.Prelude.{nat_le}
use Rattle.std.proofs.lemmas.List.{append-nil}
use Rattle.flow_base.proofs.Bools.{and_left, and_right}
use Rattle.flow_base.specs.declared.place.Place.{Place}
use Rattle.flow_tree.specs.declared.token.Token.{Token}
use Rattle.flow_tree.specs.declared.token.Token.TheVariants as token
use Rattle.flow_tree.specs.declared.token.Word.TheVariants as word
use Rattle.flow_tree.specs.declared.token.Sign.TheVariants as sign
use Rattle.flow_tree.specs.declared.token.Spot.{Spot}
use Rattle.flow_tree.specs.declared.expr.Op.{Op}
use Rattle.flow_tree.specs.declared.expr.Op.TheVariants.{Sub}
use Rattle.flow_tree.specs.Tree.{indexed, ExprTree, ExprTrees, IntExpr, TextExpr, BoolExpr, VoidExpr, VarExpr, CallExpr, FieldExpr, MethodExpr, NotExpr, NegExpr, BinaryExpr, ParenExpr, NoExprs}
use Rattle.flow_tree.specs.GrammarToken.{Node, Marked, begin, spots_of, Keeps, Good}
use Rattle.flow_tree.specs.Grammar.{sign_at, node_sign, level, op_sign, ExprRule, paren, index, negation, minus, binary, ArgsRule, end_args}
use Rattle.flow_tree.proofs.GrammarLists.{spots_append, spots_begin, keeps_append, keeps_begin}
use Rattle.flow_exprs.specs.declared.kind.Kind.{Kind}
use Rattle.flow_exprs.specs.declared.kind.Kind.TheVariants as kind
use Rattle.flow_exprs.specs.Kinds.{kind_of}
use Rattle.flow_exprs.specs.Machine.{ident, Head, Function, Method, called, Negation, Minus, Stack, Top, InParen, InUnary, InTwo, InArgs, InIndex, State, Want, Have, WantArgs, WantName, WantOpen, WantClose, Dead, push, closed_tree, closed_stack, after_close, after_square, after_comma, after_open, sign_first, step_kind, step, height, heights, head_height, hole, fits_stack}
use Rattle.flow_exprs.proofs.Sound.{spot, sign_spot, name_spot, Front, need, CallOwn, HaveRead, HasRead, KindSpot, kind_spot, join_none, height_some, field_own, index_own, paren_own, void_own, name_own}
use Rattle.flow_exprs.proofs.Steps.{Closed, closed, level_small, need_small, need_below, first_args, next_args, call_none, call_some, function_head, method_head}

called_callee : (h : Head) (ts : ExprTrees) (toks : List Spot) → CallOwn (called h ts) toks
called_callee (Function f) ts toks = tt
called_callee (Method t f) ts toks = tt

close_step : (base : ℕ) (t : ExprTree) (K : Stack) (toks : List Spot) (x : Token) (p : Place) → x ≡ token.Sign sign.CloseRound → Closed base 0 t K toks
    → HasRead base (after_close t K) (toks ++ spot x p ∷ [])
close_step base t (Top d) toks x p e c = tt
close_step base t (InParen K) toks x p e c =
    let s = c.stack in
    record {
      front = s.0;
      own = sign_spot sign.OpenRound s.1 ∷ (c.own ++ sign_spot sign.CloseRound p ∷ []);
      stack = s.2;
      rule = λ m d. paren_own m d s.1 p c.own t (c.rule (suc d));
      callee = tt;
      is = ap (λ y. toks ++ spot y p ∷ []) e ∙ ap (λ z. z ++ sign_spot sign.CloseRound p ∷ []) (c.is ∙ ap (λ z. z ++ c.own) s.3) ∙ simp append_assoc;
    }
close_step base t (InUnary u K) toks x p e c = tt
close_step base t (InTwo op l K) toks x p e c = tt
close_step base t (InArgs h ts K) toks x p e c =
    let s = c.stack in
    record {
      front = s.0;
      own = s.1 ++ ((s.2 ++ c.own) ++ sign_spot sign.CloseRound p ∷ []);
      stack = s.3;
      rule = λ m d. call_some m d h ts t s.1 s.2 c.own p (s.4 d) (s.5 (suc d)) (c.rule (suc d));
      callee = called_callee h (push ts t) (s.1 ++ ((s.2 ++ c.own) ++ sign_spot sign.CloseRound p ∷ []));
      is = ap (λ y. toks ++ spot y p ∷ []) e ∙ ap (λ z. z ++ sign_spot sign.CloseRound p ∷ []) (c.is ∙ ap (λ z. z ++ c.own) s.6) ∙ simp append_assoc;
    }
close_step base t (InIndex l K) toks x p e c = tt

square_step : (base : ℕ) (t : ExprTree) (K : Stack) (toks : List Spot) (x : Token) (p : Place) → x ≡ token.Sign sign.CloseSquare → Closed base 0 t K toks
    → HasRead base (after_square t K) (toks ++ spot x p ∷ [])
square_step base t (Top d) toks x p e c = tt
square_step base t (InParen K) toks x p e c = tt
square_step base t (InUnary u K) toks x p e c = tt
square_step base t (InTwo op l K) toks x p e c = tt
square_step base t (InArgs h ts K) toks x p e c = tt
square_step base t (InIndex l K) toks x p e c =
    let s = c.stack in
    record {
      front = s.0;
      own = s.1 ++ (sign_spot sign.OpenSquare s.2 ∷ (c.own ++ sign_spot sign.CloseSquare p ∷ []));
      stack = s.3;
      rule = λ m d. index_own m d s.2 p s.1 c.own l t (s.4 7 (suc d)) (c.rule (suc d));
      callee = tt;
      is = ap (λ y. toks ++ spot y p ∷ []) e ∙ ap (λ z. z ++ sign_spot sign.CloseSquare p ∷ []) (c.is ∙ ap (λ z. z ++ c.own) s.5) ∙ simp append_assoc;
    }

comma_step : (base : ℕ) (t : ExprTree) (K : Stack) (toks : List Spot) (x : Token) (p : Place) → x ≡ token.Sign sign.Comma → Closed base 0 t K toks
    → HasRead base (after_comma t K) (toks ++ spot x p ∷ [])
comma_step base t (Top d) toks x p e c = tt
comma_step base t (InParen K) toks x p e c = tt
comma_step base t (InUnary u K) toks x p e c = tt
comma_step base t (InTwo op l K) toks x p e c = tt
comma_step base t (InArgs h ts K) toks x p e c =
    let s = c.stack in (
      s.0,
      s.1,
      s.2 ++ (c.own ++ sign_spot sign.Comma p ∷ []),
      s.3,
      s.4,
      (λ d. next_args d ts t s.2 c.own p (s.5 d) (c.rule d)),
      ap (λ y. toks ++ spot y p ∷ []) e ∙ ap (λ z. z ++ sign_spot sign.Comma p ∷ []) (c.is ∙ ap (λ z. z ++ c.own) s.6) ∙ simp append_assoc,
    )
comma_step base t (InIndex l K) toks x p e c = tt

open_step : (base : ℕ) (t : ExprTree) (K : Stack) (toks : List Spot) (x : Token) (p : Place) → x ≡ token.Sign sign.OpenRound → HaveRead base t K toks
    → HasRead base (after_open t K) (toks ++ spot x p ∷ [])
open_step base (VarExpr v) K toks x p e h = (
  h.front,
  name_spot v ∷ sign_spot sign.OpenRound p ∷ [],
  h.stack,
  (λ d. function_head d v p),
  ap (λ y. toks ++ spot y p ∷ []) e ∙ ap (λ z. z ++ sign_spot sign.OpenRound p ∷ []) (h.is ∙ ap (λ z. h.front ++ z) h.callee)
      ∙ append_assoc h.front (name_spot v ∷ []) (sign_spot sign.OpenRound p ∷ []),
)
open_step base (FieldExpr t v) K toks x p e h =
    let c = h.callee in (
      h.front,
      c.0 ++ (sign_spot sign.Dot c.1 ∷ name_spot v ∷ sign_spot sign.OpenRound p ∷ []),
      h.stack,
      (λ d. method_head d t v c.0 c.1 p (c.2 7 (suc d))),
      ap (λ y. toks ++ spot y p ∷ []) e ∙ ap (λ z. z ++ sign_spot sign.OpenRound p ∷ []) (h.is ∙ ap (λ z. h.front ++ z) c.3) ∙ simp append_assoc,
    )
open_step base (IntExpr n) K toks x p e h = tt
open_step base (TextExpr t) K toks x p e h = tt
open_step base (BoolExpr b) K toks x p e h = tt
open_step base VoidExpr K toks x p e h = tt
open_step base (CallExpr f ts) K toks x p e h = tt
open_step base (MethodExpr t f ts) K toks x p e h = tt
open_step base (NotExpr t) K toks x p e h = tt
open_step base (NegExpr t) K toks x p e h = tt
open_step base (BinaryExpr op l r) K toks x p e h = tt
open_step base (ParenExpr t) K toks x p e h = tt

first_sign : (base : ℕ) (op : Op) (K : Stack) (toks : List Spot) (x : Token) (p : Place) → x ≡ token.Sign (op_sign op) → Front base K toks → HasRead base (sign_first op K) (toks ++ spot x p ∷ [])
first_sign base Sub K toks x p e f = (toks, p, f, ap (λ y. toks ++ spot y p ∷ []) e)
first_sign base _ K toks x p e f = tt

want_step : (base : ℕ) (K : Stack) (k : Kind) (toks : List Spot) (x : Token) (p : Place) → KindSpot k x p → Front base K toks → HasRead base (step_kind (Want K) k (spot x p)) (toks ++ spot x p ∷ [])
want_step base K kind.Leaf toks x p e f = record { front = toks; own = spot x p ∷ []; stack = f; rule = e.0; callee = e.1; is = refl }
want_step base K kind.Name toks x p e f =
    let v = ident (spot x p) in
    record { front = toks; own = name_spot v ∷ []; stack = f; rule = λ m d. name_own m d v; callee = refl; is = ap (λ y. toks ++ spot y p ∷ []) e }
want_step base K kind.Void toks x p e f = (toks, p, f, ap (λ y. toks ++ spot y p ∷ []) e)
want_step base K kind.Open toks x p e f = (toks, p, f, ap (λ y. toks ++ spot y p ∷ []) e)
want_step base K kind.Not toks x p e f = (toks, p, f, ap (λ y. toks ++ spot y p ∷ []) e)
want_step base K (kind.Op op) toks x p e f = first_sign base op K toks x p e f
want_step base K kind.Close toks x p e f = tt
want_step base K kind.OpenSquare toks x p e f = tt
want_step base K kind.CloseSquare toks x p e f = tt
want_step base K kind.Comma toks x p e f = tt
want_step base K kind.Dot toks x p e f = tt
want_step base K kind.Other toks x p e f = tt

have_step : (base : ℕ) (t : ExprTree) (K : Stack) (k : Kind) (toks : List Spot) (x : Token) (p : Place) → KindSpot k x p → HaveRead base t K toks
    → HasRead base (step_kind (Have t K) k (spot x p)) (toks ++ spot x p ∷ [])
have_step base t K kind.Open toks x p e h = open_step base t K toks x p e h
have_step base t K kind.Close toks x p e h = close_step base (closed_tree 0 t K) (closed_stack 0 K) toks x p e (closed base 0 t K toks (omega arith) h)
have_step base t K kind.OpenSquare toks x p e h = (
  h.front,
  h.own,
  p,
  h.stack,
  h.rule,
  ap (λ y. toks ++ spot y p ∷ []) e ∙ ap (λ z. z ++ sign_spot sign.OpenSquare p ∷ []) h.is ∙ append_assoc h.front h.own (sign_spot sign.OpenSquare p ∷ []),
)
have_step base t K kind.CloseSquare toks x p e h = square_step base (closed_tree 0 t K) (closed_stack 0 K) toks x p e (closed base 0 t K toks (omega arith) h)
have_step base t K kind.Comma toks x p e h = comma_step base (closed_tree 0 t K) (closed_stack 0 K) toks x p e (closed base 0 t K toks (omega arith) h)
have_step base t K kind.Dot toks x p e h = (
  h.front,
  h.own,
  p,
  h.stack,
  h.rule,
  ap (λ y. toks ++ spot y p ∷ []) e ∙ ap (λ z. z ++ sign_spot sign.Dot p ∷ []) h.is ∙ append_assoc h.front h.own (sign_spot sign.Dot p ∷ []),
)
have_step base t K (kind.Op op) toks x p e h =
    let c = closed base (level op) t K toks (level_small op) h in (
      c.front,
      c.own,
      p,
      c.stack,
      c.rule,
      c.below,
      ap (λ y. toks ++ spot y p ∷ []) e ∙ ap (λ z. z ++ sign_spot (op_sign op) p ∷ []) c.is ∙ append_assoc c.front c.own (sign_spot (op_sign op) p ∷ []),
    )
have_step base t K _ toks x p e h = tt

args_front : (base : ℕ) (h : Head) (K : Stack) (toks : List Spot) → HasRead base (WantArgs h K) toks → Front base (InArgs h NoExprs K) toks
args_front base h K toks f = (f.0, f.1, [], f.2, f.3, (λ d. first_args d), f.4 ∙ ap (λ z. f.0 ++ z) (sym (append-nil f.1)))

args_step : (base : ℕ) (h : Head) (K : Stack) (k : Kind) (toks : List Spot) (x : Token) (p : Place) → KindSpot k x p → HasRead base (WantArgs h K) toks
    → HasRead base (step_kind (WantArgs h K) k (spot x p)) (toks ++ spot x p ∷ [])
args_step base h K kind.Close toks x p e f = record {
  front = f.0;
  own = f.1 ++ sign_spot sign.CloseRound p ∷ [];
  stack = f.2;
  rule = λ m d. call_none m d h f.1 p (f.3 d);
  callee = called_callee h NoExprs (f.1 ++ sign_spot sign.CloseRound p ∷ []);
  is = ap (λ y. toks ++ spot y p ∷ []) e ∙ ap (λ z. z ++ sign_spot sign.CloseRound p ∷ []) f.4 ∙ append_assoc f.0 f.1 (sign_spot sign.CloseRound p ∷ []);
}
args_step base h K kind.Leaf toks x p e f = want_step base (InArgs h NoExprs K) kind.Leaf toks x p e (args_front base h K toks f)
args_step base h K kind.Name toks x p e f = want_step base (InArgs h NoExprs K) kind.Name toks x p e (args_front base h K toks f)
args_step base h K kind.Void toks x p e f = want_step base (InArgs h NoExprs K) kind.Void toks x p e (args_front base h K toks f)
args_step base h K kind.Open toks x p e f = want_step base (InArgs h NoExprs K) kind.Open toks x p e (args_front base h K toks f)
args_step base h K kind.Not toks x p e f = want_step base (InArgs h NoExprs K) kind.Not toks x p e (args_front base h K toks f)
args_step base h K (kind.Op op) toks x p e f = want_step base (InArgs h NoExprs K) (kind.Op op) toks x p e (args_front base h K toks f)
args_step base h K kind.OpenSquare toks x p e f = tt
args_step base h K kind.CloseSquare toks x p e f = tt
args_step base h K kind.Comma toks x p e f = tt
args_step base h K kind.Dot toks x p e f = tt
args_step base h K kind.Other toks x p e f = tt

name_step : (base : ℕ) (t : ExprTree) (K : Stack) (k : Kind) (toks : List Spot) (x : Token) (p : Place) → KindSpot k x p → HasRead base (WantName t K) toks
    → HasRead base (step_kind (WantName t K) k (spot x p)) (toks ++ spot x p ∷ [])
name_step base t K kind.Name toks x p e f =
    let v = ident (spot x p) in
    record {
      front = f.0;
      own = f.1 ++ (sign_spot sign.Dot f.2 ∷ name_spot v ∷ []);
      stack = f.3;
      rule = λ m d. field_own m d f.2 v f.1 t (f.4 7 (suc d));
      callee = (f.1, f.2, f.4, refl);
      is = ap (λ y. toks ++ spot y p ∷ []) e ∙ ap (λ z. z ++ name_spot v ∷ []) f.5 ∙ simp append_assoc;
    }
name_step base t K _ toks x p e f = tt

round_step : (base : ℕ) (K : Stack) (k : Kind) (toks : List Spot) (x : Token) (p : Place) → KindSpot k x p → HasRead base (WantOpen K) toks
    → HasRead base (step_kind (WantOpen K) k (spot x p)) (toks ++ spot x p ∷ [])
round_step base K kind.Open toks x p e f = (
  f.0,
  f.1,
  p,
  f.2,
  ap (λ y. toks ++ spot y p ∷ []) e ∙ ap (λ z. z ++ sign_spot sign.OpenRound p ∷ []) f.3
      ∙ append_assoc f.0 (spot (token.Word word.Void) f.1 ∷ []) (sign_spot sign.OpenRound p ∷ []),
)
round_step base K _ toks x p e f = tt

shut_step : (base : ℕ) (K : Stack) (k : Kind) (toks : List Spot) (x : Token) (p : Place) → KindSpot k x p → HasRead base (WantClose K) toks
    → HasRead base (step_kind (WantClose K) k (spot x p)) (toks ++ spot x p ∷ [])
shut_step base K kind.Close toks x p e f = record {
  front = f.0;
  own = spot (token.Word word.Void) f.1 ∷ sign_spot sign.OpenRound f.2 ∷ sign_spot sign.CloseRound p ∷ [];
  stack = f.3;
  rule = λ m d. void_own m d f.1 f.2 p;
  callee = tt;
  is = ap (λ y. toks ++ spot y p ∷ []) e ∙ ap (λ z. z ++ sign_spot sign.CloseRound p ∷ []) f.4
      ∙ append_assoc f.0 (spot (token.Word word.Void) f.1 ∷ sign_spot sign.OpenRound f.2 ∷ []) (sign_spot sign.CloseRound p ∷ []);
}
shut_step base K _ toks x p e f = tt

kind_step : (base : ℕ) (S : State) (k : Kind) (toks : List Spot) (x : Token) (p : Place) → KindSpot k x p → HasRead base S toks → HasRead base (step_kind S k (spot x p)) (toks ++ spot x p ∷ [])
kind_step base (Want K) k toks x p e f = want_step base K k toks x p e f
kind_step base (Have t K) k toks x p e f = have_step base t K k toks x p e f
kind_step base (WantArgs h K) k toks x p e f = args_step base h K k toks x p e f
kind_step base (WantName t K) k toks x p e f = name_step base t K k toks x p e f
kind_step base (WantOpen K) k toks x p e f = round_step base K k toks x p e f
kind_step base (WantClose K) k toks x p e f = shut_step base K k toks x p e f
kind_step base Dead k toks x p e f = tt

pub step_reads : (base : ℕ) (S : State) (x : Spot) (toks : List Spot) → HasRead base S toks → HasRead base (step S x) (toks ++ x ∷ [])
step_reads base S x toks f = kind_step base S (kind_of x.token) toks x.token x.at (kind_spot x.token x.at) f

pub le_true : (a b : ℕ) → nat_le a b ≡ true → a ≤ b
le_true a b h = grind arith

-- what is read at the place that is wanted, put into what is open around it
pub plug : (n base : ℕ) (K : Stack) (front : List Spot) → Front base K front → (5 ≤ n → fits_stack K ≡ true) → (t : ExprTree) (read rest : List Marked) → ExprRule (need K) (hole K) (read ++ rest) t
    → Keeps n read
    → Good (ExprRule 0 base) n (front ++ spots_of read)
plug n base (Top d) front f h t read rest r k = record {
  read = read;
  rest = rest;
  tree = t;
  rule = subst (λ e. ExprRule 0 e (read ++ rest) t) f.0 r;
  is = ap (λ z. z ++ spots_of read) (sym f.1);
  keeps = k;
}
plug n base (InParen K) front f h t read rest r k =
    let a = f.0 in let p = f.1 in
    let g = plug n base K a f.2 (λ l. and_right (nat_le (hole K) 64) (fits_stack K) (h l)) (ParenExpr t) (node_sign (hole K) sign.OpenRound p ∷ read) (rest ++ sign_at sign.CloseRound p ∷ [])
    (paren p p (read ++ rest) r (ap (λ z. node_sign (hole K) sign.OpenRound p ∷ z) (sym (append_assoc read rest (sign_at sign.CloseRound p ∷ [])))))
    (((λ l. le_true (hole K) 64 (and_left (nat_le (hole K) 64) (fits_stack K) (h l))), tt), k) in
    let e : a ++ (sign_spot sign.OpenRound p ∷ spots_of read) ≡ front ++ spots_of read = sym (ap (λ z. z ++ spots_of read) f.3 ∙ append_assoc a (sign_spot sign.OpenRound p ∷ []) (spots_of read)) in
    subst (Good (ExprRule 0 base) n) e g
plug n base (InUnary Negation K) front f h t read rest r k =
    let a = f.0 in let p = f.1 in
    let g = plug n base K a f.2 (λ l. and_right (nat_le (hole K) 64) (fits_stack K) (h l)) (NotExpr t) (node_sign (hole K) sign.Not p ∷ read) rest
    (negation p (read ++ rest) (need_small K) r refl)
    (((λ l. le_true (hole K) 64 (and_left (nat_le (hole K) 64) (fits_stack K) (h l))), tt), k) in
    let e : a ++ (sign_spot sign.Not p ∷ spots_of read) ≡ front ++ spots_of read = sym (ap (λ z. z ++ spots_of read) f.3 ∙ append_assoc a (sign_spot sign.Not p ∷ []) (spots_of read)) in
    subst (Good (ExprRule 0 base) n) e g
plug n base (InUnary Minus K) front f h t read rest r k =
    let a = f.0 in let p = f.1 in
    let g = plug n base K a f.2 (λ l. and_right (nat_le (hole K) 64) (fits_stack K) (h l)) (NegExpr t) (node_sign (hole K) sign.Minus p ∷ read) rest
    (minus p (read ++ rest) (need_small K) r refl)
    (((λ l. le_true (hole K) 64 (and_left (nat_le (hole K) 64) (fits_stack K) (h l))), tt), k) in
    let e : a ++ (sign_spot sign.Minus p ∷ spots_of read) ≡ front ++ spots_of read = sym (ap (λ z. z ++ spots_of read) f.3 ∙ append_assoc a (sign_spot sign.Minus p ∷ []) (spots_of read)) in
    subst (Good (ExprRule 0 base) n) e g
plug n base (InTwo op l K) front f h t read rest r k =
    let a = f.0 in let b = f.1 in let p = f.2 in
    let o = f.4 (suc (hole K)) in
    let le : 5 ≤ n → hole K + height l ≤ 64 = λ i. le_true (hole K + height l) 64 (and_left (nat_le (hole K + height l) 64) (fits_stack K) (h i)) in
    let left = begin (Node (hole K)) o.marked in
    let g = plug n base K a f.3 (λ i. and_right (nat_le (hole K + height l) 64) (fits_stack K) (h i)) (BinaryExpr op l t) (left ++ (sign_at (op_sign op) p ∷ read)) rest
    (binary op p o.marked (read ++ rest) (need_below (level op) K f.5) o.rule r (append_assoc left (sign_at (op_sign op) p ∷ read) rest))
    (keeps_append n left (sign_at (op_sign op) p ∷ read) (keeps_begin n (Node (hole K)) o.marked (λ i. omega (arith, le i, height_some l)) (o.keeps n (λ i. omega (arith, le i)))) (tt, k)) in
    let e : a ++ spots_of (left ++ (sign_at (op_sign op) p ∷ read)) ≡ front ++ spots_of read =
    ap (λ z. a ++ z) (spots_append left (sign_at (op_sign op) p ∷ read) ∙ ap (λ z. z ++ (sign_spot (op_sign op) p ∷ spots_of read)) (spots_begin (Node (hole K)) o.marked ∙ o.is))
    ∙ sym (ap (λ z. z ++ spots_of read) f.6 ∙ simp append_assoc) in
    subst (Good (ExprRule 0 base) n) e g
plug n base (InIndex l K) front f h t read rest r k =
    let a = f.0 in let p = f.2 in
    let o = f.4 7 (suc (hole K)) in
    let le : 5 ≤ n → hole K + height l ≤ 64 = λ i. le_true (hole K + height l) 64 (and_left (nat_le (hole K + height l) 64) (fits_stack K) (h i)) in
    let left = begin (Node (hole K)) o.marked in
    let opening = sign_at sign.OpenSquare p ∷ read in
    let shut = sign_at sign.CloseSquare p ∷ [] in
    let flat : (left ++ opening) ++ (rest ++ shut) ≡ left ++ (sign_at sign.OpenSquare p ∷ ((read ++ rest) ++ shut)) = simp append_assoc in
    let g = plug n base K a f.3 (λ i. and_right (nat_le (hole K + height l) 64) (fits_stack K) (h i)) (indexed l t) (left ++ opening) (rest ++ shut)
    (index p p o.marked (read ++ rest) o.rule r flat)
    (keeps_append n left opening (keeps_begin n (Node (hole K)) o.marked (λ i. omega (arith, le i, height_some l)) (o.keeps n (λ i. omega (arith, le i)))) (tt, k)) in
    let e : a ++ spots_of (left ++ opening) ≡ front ++ spots_of read =
    ap (λ z. a ++ z) (spots_append left opening ∙ ap (λ z. z ++ (sign_spot sign.OpenSquare p ∷ spots_of read)) (spots_begin (Node (hole K)) o.marked ∙ o.is))
    ∙ sym (ap (λ z. z ++ spots_of read) f.5 ∙ simp append_assoc) in
    subst (Good (ExprRule 0 base) n) e g
plug n base (InArgs c ts K) front f h t read rest r k =
    let a = f.0 in let b = f.1 in
    let x = f.4 (hole K) in
    let y = f.5 (suc (hole K)) in
    let bound = hole K + max (head_height c) (heights ts) in
    let le : 5 ≤ n → bound ≤ 64 = λ i. le_true bound 64 (and_left (nat_le bound 64) (fits_stack K) (h i)) in
    let shut = sign_at sign.CloseRound (record { line = 0; column = 0; byte = 0 }) ∷ [] in
    let args = y.rule (read ++ rest) [] t NoExprs r end_args in
    let args' : ArgsRule (suc (hole K)) (y.marked ++ (read ++ rest)) (push ts t) =
    subst (λ z. ArgsRule (suc (hole K)) (y.marked ++ z) (push ts t)) (append-nil (read ++ rest))
    (subst (λ z. ArgsRule (suc (hole K)) (y.marked ++ ((read ++ rest) ++ [])) z) (join_none (push ts t)) args) in
    let flat : x.marked ++ ((y.marked ++ (read ++ rest)) ++ shut) ≡ (x.marked ++ (y.marked ++ read)) ++ (rest ++ shut) = simp append_assoc in
    let g = plug n base K a f.3 (λ i. and_right (nat_le bound 64) (fits_stack K) (h i)) (called c (push ts t)) (x.marked ++ (y.marked ++ read)) (rest ++ shut)
    (subst (λ z. ExprRule (need K) (hole K) z (called c (push ts t))) flat (x.rule (need K) (record { line = 0; column = 0; byte = 0 }) (y.marked ++ (read ++ rest)) (push ts t) args'))
    (keeps_append n x.marked (y.marked ++ read) (x.keeps n (λ i. omega (arith, le i))) (keeps_append n y.marked read (y.keeps n (λ i. omega (arith, le i))) k)) in
    let e : a ++ spots_of (x.marked ++ (y.marked ++ read)) ≡ front ++ spots_of read =
    ap (λ z. a ++ z) (spots_append x.marked (y.marked ++ read) ∙ ap (λ z. z ++ spots_of (y.marked ++ read)) x.is ∙ ap (λ z. b ++ z) (spots_append y.marked read ∙ ap (λ z. z ++ spots_of read) y.is))
    ∙ sym (ap (λ z. z ++ spots_of read) f.6 ∙ simp append_assoc) in
    subst (Good (ExprRule 0 base) n) e g
