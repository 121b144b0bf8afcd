-- A step of the machine adds its token to what has been read.
use Rattle.std.proofs.Common.{◌≡◌, ℕ, suc, ◌≤◌, ◌<◌, List, [], ◌∷◌, ◌++◌, refl, sym, ap, ◌∙◌, subst, arith, append_assoc, true, false, inl, inr}
use Rattle.std.specs.Prelude.{nat_lt}
use Rattle.std.proofs.lemmas.Bool.{cases_lt}
use Rattle.std.proofs.lemmas.List.{append-nil}
use Rattle.flow_base.specs.declared.place.Place.{Place}
use Rattle.flow_tree.specs.declared.token.Sign.TheVariants as sign
use Rattle.flow_tree.specs.declared.token.Spot.{Spot}
use Rattle.flow_tree.specs.declared.expr.Op.{Op}
use Rattle.flow_tree.specs.declared.expr.Op.TheVariants.{Or, And, Eq, Ne, Lt, Le, Gt, Ge, Add, Sub, Mul, Div, Rem}
use Rattle.flow_tree.specs.declared.ty.Ident.{Ident}
use Rattle.flow_tree.specs.Tree.{ExprTree, ExprTrees, BinaryExpr, NoExprs, MoreExprs}
use Rattle.flow_tree.specs.GrammarToken.{Node, begin, spots_of}
use Rattle.flow_tree.specs.Grammar.{sign_at, name_at, node_name, level, op_sign, call, method, ArgsRule, no_args, some_args, end_args, more_args}
use Rattle.flow_tree.proofs.GrammarLists.{spots_append, spots_begin, keeps_append, keeps_begin}
use Rattle.flow_exprs.specs.Machine.{Head, Function, Method, called, Unary, Negation, Minus, unary, Stack, Top, InParen, InUnary, InTwo, InArgs, InIndex, push, closed_tree, closed_stack, Below}
use Rattle.flow_exprs.proofs.Sound.{sign_spot, name_spot, Own, HeadOwn, ArgsOwn, Front, need, HaveRead, join, join_push, join_none, heights_push, called_height, height_some, not_own, minus_own, two_own}

pub nat_lt_ge : (a b : ℕ) → b ≤ a → nat_lt a b ≡ false
nat_lt_ge a b h = grind arith

pub nat_lt_lt : (a b : ℕ) → a < b → nat_lt a b ≡ true
nat_lt_lt a b h = grind arith

pub level_small : (op : Op) → level op ≤ 5
level_small Or = omega arith
level_small And = omega arith
level_small Eq = omega arith
level_small Ne = omega arith
level_small Lt = omega arith
level_small Le = omega arith
level_small Gt = omega arith
level_small Ge = omega arith
level_small Add = omega arith
level_small Sub = omega arith
level_small Mul = omega arith
level_small Div = omega arith
level_small Rem = omega arith

pub need_small : (K : Stack) → need K ≤ 6
need_small (Top d) = omega arith
need_small (InParen K) = omega arith
need_small (InUnary u K) = omega arith
need_small (InTwo op l K) = omega (arith, level_small op)
need_small (InArgs h ts K) = omega arith
need_small (InIndex l K) = omega arith

pub need_below : (m : ℕ) (K : Stack) → Below m K → need K ≤ m
need_below m (Top d) b = omega arith
need_below m (InParen K) b = omega arith
need_below m (InUnary u K) b = b
need_below m (InTwo op l K) b = omega arith
need_below m (InArgs h ts K) b = omega arith
need_below m (InIndex l K) b = omega arith

-- what closing a level leaves: an operand of that level, over a stack below it
pub record Closed (base n : ℕ) (t : ExprTree) (K : Stack) (toks : List Spot) : Type 0 where
  pub front : List Spot
  pub own : List Spot
  pub stack : Front base K front
  pub below : Below n K
  pub rule : (d : ℕ) → Own n d own t
  pub is : toks ≡ front ++ own

unary_front : (base : ℕ) (u : Unary) (K : Stack) (toks : List Spot) → Front base (InUnary u K) toks
    → (a : List Spot) × (x : Spot) × Front base K a × (toks ≡ a ++ x ∷ []) × ((m d : ℕ) (t : ExprTree) (b : List Spot) → m ≤ 6 → Own 6 (suc d) b t → Own m d (x ∷ b) (unary u t))
unary_front base Negation K toks f = (f.0, sign_spot sign.Not f.1, f.2, f.3, λ m d t b le o. not_own m d f.1 b t le o)
unary_front base Minus K toks f = (f.0, sign_spot sign.Minus f.1, f.2, f.3, λ m d t b le o. minus_own m d f.1 b t le o)

pub closes : (base n : ℕ) (t : ExprTree) (K : Stack) (toks front own : List Spot) → n ≤ 5 → toks ≡ front ++ own → Front base K front
    → ((d : ℕ) → Own n d own t) → ((d : ℕ) → Own (need K) d own t) → Closed base n (closed_tree n t K) (closed_stack n K) toks
closes base n t (Top d) toks front own le e f r q = record { front = front; own = own; stack = f; below = tt; rule = r; is = e }
closes base n t (InParen K) toks front own le e f r q = record { front = front; own = own; stack = f; below = tt; rule = r; is = e }
closes base n t (InArgs h ts K) toks front own le e f r q = record { front = front; own = own; stack = f; below = tt; rule = r; is = e }
closes base n t (InIndex l K) toks front own le e f r q = record { front = front; own = own; stack = f; below = tt; rule = r; is = e }
closes base n t (InUnary u K) toks front own le e f r q =
    let v = unary_front base u K front f in
    let e' : toks ≡ v.0 ++ (v.1 ∷ own) = e ∙ ap (λ x. x ++ own) v.3 ∙ append_assoc v.0 (v.1 ∷ []) own in
    closes base n (unary u t) K toks v.0 (v.1 ∷ own) le e' v.2
    (λ d. v.4 n d t own (omega arith) (q (suc d))) (λ d. v.4 (need K) d t own (need_small K) (q (suc d)))
closes base n t (InTwo op l K) toks front own le e f r q =
    elim (cases_lt (level op) n) [
      | inl h ↦ rw (nat_lt_lt (level op) n h) (record { front = front; own = own; stack = f; below = h; rule = r; is = e })
      | inr h ↦
          let a = f.0 in let b = f.1 in let p = f.2 in
          let whole = b ++ (sign_spot (op_sign op) p ∷ own) in
          let e' : toks ≡ a ++ whole = e ∙ ap (λ x. x ++ own) f.6 ∙ simp append_assoc in
          rw (nat_lt_ge (level op) n h) (closes base n (BinaryExpr op l t) K toks a whole le e' f.3
          (λ d. two_own op n d p b own l t h (f.4 (suc d)) (q (suc d)))
          (λ d. two_own op (need K) d p b own l t (need_below (level op) K f.5) (f.4 (suc d)) (q (suc d))))
    ]

pub closed : (base n : ℕ) (t : ExprTree) (K : Stack) (toks : List Spot) → n ≤ 5 → HaveRead base t K toks → Closed base n (closed_tree n t K) (closed_stack n K) toks
closed base n t K toks le h = closes base n t K toks h.front h.own le h.is h.stack (λ d. h.rule n d) (λ d. h.rule (need K) d)

-- arguments with one more
pub first_args : (d : ℕ) → ArgsOwn d [] NoExprs
first_args d = record { marked = []; rule = λ next more t us r m. some_args next more r m refl; is = refl; keeps = λ n h. tt }

pub next_args : (d : ℕ) (ts : ExprTrees) (t : ExprTree) (a b : List Spot) (p : Place) → ArgsOwn d a ts → Own 0 d b t → ArgsOwn d (a ++ (b ++ sign_spot sign.Comma p ∷ [])) (push ts t)
next_args d ts t a b p x o = record {
  marked = x.marked ++ (o.marked ++ sign_at sign.Comma p ∷ []);
  rule = λ next more u us r m.
      let w = x.rule o.marked (sign_at sign.Comma p ∷ (next ++ more)) t (MoreExprs u us) o.rule (more_args p next more r m refl) in
      let e : x.marked ++ (o.marked ++ (sign_at sign.Comma p ∷ (next ++ more))) ≡ (x.marked ++ (o.marked ++ sign_at sign.Comma p ∷ [])) ++ (next ++ more) = simp append_assoc in
      subst (λ z. ArgsRule d z (join (push (push ts t) u) us)) e (subst (λ z. ArgsRule d (x.marked ++ (o.marked ++ (sign_at sign.Comma p ∷ (next ++ more)))) z) (sym (join_push (push ts t) us u)) w);
  is = spots_append x.marked (o.marked ++ sign_at sign.Comma p ∷ []) ∙ ap (λ z. spots_of x.marked ++ z) (spots_append o.marked (sign_at sign.Comma p ∷ []))
      ∙ ap (λ z. z ++ (spots_of o.marked ++ sign_spot sign.Comma p ∷ [])) x.is ∙ ap (λ z. a ++ (z ++ sign_spot sign.Comma p ∷ [])) o.is;
  keeps = λ n h. keeps_append n x.marked (o.marked ++ sign_at sign.Comma p ∷ []) (x.keeps n (λ i. omega (arith, h i, heights_push ts t)))
      (keeps_append n o.marked (sign_at sign.Comma p ∷ []) (o.keeps n (λ i. omega (arith, h i, heights_push ts t))) (tt, tt));
}

-- a whole call
pub call_none : (m d : ℕ) (h : Head) (a : List Spot) (p : Place) → HeadOwn d a h → Own m d (a ++ sign_spot sign.CloseRound p ∷ []) (called h NoExprs)
call_none m d h a p x = record {
  marked = x.marked ++ sign_at sign.CloseRound p ∷ [];
  rule = x.rule m p [] NoExprs no_args;
  is = spots_append x.marked (sign_at sign.CloseRound p ∷ []) ∙ ap (λ z. z ++ sign_spot sign.CloseRound p ∷ []) x.is;
  keeps = λ n e. keeps_append n x.marked (sign_at sign.CloseRound p ∷ []) (x.keeps n (λ i. omega (arith, e i, called_height h NoExprs))) (tt, tt);
}

pub call_some : (m d : ℕ) (h : Head) (ts : ExprTrees) (t : ExprTree) (a b c : List Spot) (p : Place) → HeadOwn d a h → ArgsOwn (suc d) b ts → Own 0 (suc d) c t
    → Own m d (a ++ ((b ++ c) ++ sign_spot sign.CloseRound p ∷ [])) (called h (push ts t))
call_some m d h ts t a b c p x y o =
    let r = y.rule o.marked [] t NoExprs o.rule end_args in
    let r' : ArgsRule (suc d) (y.marked ++ o.marked) (push ts t) =
    subst (λ z. ArgsRule (suc d) (y.marked ++ z) (push ts t)) (append-nil o.marked) (subst (λ z. ArgsRule (suc d) (y.marked ++ (o.marked ++ [])) z) (join_none (push ts t)) r) in
    record {
      marked = x.marked ++ ((y.marked ++ o.marked) ++ sign_at sign.CloseRound p ∷ []);
      rule = x.rule m p (y.marked ++ o.marked) (push ts t) r';
      is = spots_append x.marked ((y.marked ++ o.marked) ++ sign_at sign.CloseRound p ∷ [])
          ∙ ap (λ z. spots_of x.marked ++ z) (spots_append (y.marked ++ o.marked) (sign_at sign.CloseRound p ∷ []) ∙ ap (λ z. z ++ sign_spot sign.CloseRound p ∷ []) (spots_append y.marked o.marked))
          ∙ ap (λ z. z ++ ((spots_of y.marked ++ spots_of o.marked) ++ sign_spot sign.CloseRound p ∷ [])) x.is
          ∙ ap (λ z. a ++ ((z ++ spots_of o.marked) ++ sign_spot sign.CloseRound p ∷ [])) y.is
          ∙ ap (λ z. a ++ ((b ++ z) ++ sign_spot sign.CloseRound p ∷ [])) o.is;
      keeps = λ n e. keeps_append n x.marked ((y.marked ++ o.marked) ++ sign_at sign.CloseRound p ∷ []) (x.keeps n (λ i. omega (arith, e i, called_height h (push ts t))))
          (keeps_append n (y.marked ++ o.marked) (sign_at sign.CloseRound p ∷ [])
          (keeps_append n y.marked o.marked (y.keeps n (λ i. omega (arith, e i, called_height h (push ts t), heights_push ts t)))
          (o.keeps n (λ i. omega (arith, e i, called_height h (push ts t), heights_push ts t)))) (tt, tt));
    }

-- what is called
pub function_head : (d : ℕ) (f : Ident) (p : Place) → HeadOwn d (name_spot f ∷ sign_spot sign.OpenRound p ∷ []) (Function f)
function_head d f p = record {
  marked = node_name d f ∷ sign_at sign.OpenRound p ∷ [];
  rule = λ m q args ts r. call f p q args r refl;
  is = refl;
  keeps = λ n h. (((λ l. omega (arith, h l)), tt), (tt, tt));
}

pub method_head : (d : ℕ) (t : ExprTree) (f : Ident) (a : List Spot) (p q : Place) → Own 7 (suc d) a t
    → HeadOwn d (a ++ (sign_spot sign.Dot p ∷ name_spot f ∷ sign_spot sign.OpenRound q ∷ [])) (Method t f)
method_head d t f a p q o = record {
  marked = begin (Node d) o.marked ++ (sign_at sign.Dot p ∷ name_at f ∷ sign_at sign.OpenRound q ∷ []);
  rule = λ m r args ts y. method p q r f o.marked args o.rule y (append_assoc (begin (Node d) o.marked) (sign_at sign.Dot p ∷ name_at f ∷ sign_at sign.OpenRound q ∷ [])
      (args ++ sign_at sign.CloseRound r ∷ []));
  is = spots_append (begin (Node d) o.marked) (sign_at sign.Dot p ∷ name_at f ∷ sign_at sign.OpenRound q ∷ [])
      ∙ ap (λ z. z ++ (sign_spot sign.Dot p ∷ name_spot f ∷ sign_spot sign.OpenRound q ∷ [])) (spots_begin (Node d) o.marked ∙ o.is);
  keeps = λ n h. keeps_append n (begin (Node d) o.marked) (sign_at sign.Dot p ∷ name_at f ∷ sign_at sign.OpenRound q ∷ [])
      (keeps_begin n (Node d) o.marked (λ i. omega (arith, h i, height_some t)) (o.keeps n (λ i. omega (arith, h i)))) (tt, (tt, (tt, tt)));
}
