-- What is derived the machine reads.
use Rattle.std.proofs.Common.{◌≡◌, ℕ, suc, ◌≤◌, ◌<◌, List, [], ◌∷◌, ◌++◌, refl, sym, ap, ◌∙◌, subst, arith, append_assoc}
use Rattle.flow_base.specs.declared.place.Place.{Place}
use Rattle.flow_tree.specs.declared.token.Token.TheVariants as token
use Rattle.flow_tree.specs.declared.token.Word.TheVariants as word
use Rattle.flow_tree.specs.declared.token.Sign.TheVariants as sign
use Rattle.flow_tree.specs.declared.token.Spot.{Spot}
use Rattle.flow_tree.specs.declared.expr.Op.{Op}
use Rattle.flow_tree.specs.declared.expr.Op.TheVariants.{Or, And, Eq, Ne, Lt, Le, Gt, Ge, Add, Sub, Mul, Div, Rem}
use Rattle.flow_tree.specs.Tree.{ExprTree, ExprTrees, IntExpr, TextExpr, BoolExpr, VoidExpr, VarExpr, CallExpr, FieldExpr, MethodExpr, NotExpr, NegExpr, BinaryExpr, ParenExpr, NoExprs}
use Rattle.flow_tree.specs.GrammarToken.{Node, Marked, begin, spots_of}
use Rattle.flow_tree.specs.Grammar.{sign_at, name_at, level, op_sign, ExprRule, number, text, truth, falsehood, void, variable, call, paren, field, method, index, negation, minus, binary, ArgsRule, no_args, some_args, MoreArgsRule, end_args, more_args}
use Rattle.flow_tree.proofs.GrammarLists.{spots_append, spots_begin}
use Rattle.flow_exprs.specs.declared.kind.Kind.{Kind}
use Rattle.flow_exprs.specs.declared.kind.Kind.TheVariants as kind
use Rattle.flow_exprs.specs.Kinds.{kind_of, sign_kind}
use Rattle.flow_exprs.specs.Machine.{Head, Function, Method, called, Unary, Negation, Minus, unary, Stack, Top, InParen, InUnary, InTwo, InArgs, InIndex, State, Want, Have, WantArgs, Dead, push, closed_tree, closed_stack, after_open, step_kind, step, Below}
use Rattle.flow_exprs.specs.Answer.{NotCallable, KindStops}
use Rattle.flow_exprs.proofs.Sound.{spot, sign_spot, name_spot, join, join_push, join_none}
use Rattle.flow_exprs.proofs.Steps.{nat_lt_ge, nat_lt_lt, level_small}
use Rattle.flow_exprs.proofs.Goes.{feed}

-- the state with all open signs closed
abbrev pub settle : State → State
settle (Have t K) = Have (closed_tree 0 t K) (closed_stack 0 K)
settle S = S

-- two places of the machine that come to the same
abbrev pub Same : State → List Spot → State → List Spot → Type 0
Same S xs T ys = settle (feed S xs) ≡ settle (feed T ys)

abbrev pub FirstStops : ℕ → ExprTree → List Spot → Type 0
FirstStops m t [] = Unit {0}
FirstStops m t (x ∷ xs) = KindStops m t (kind_of x.token)

pub kind_op : (op : Op) → sign_kind (op_sign op) ≡ kind.Op op
kind_op Or = refl
kind_op And = refl
kind_op Eq = refl
kind_op Ne = refl
kind_op Lt = refl
kind_op Le = refl
kind_op Gt = refl
kind_op Ge = refl
kind_op Add = refl
kind_op Sub = refl
kind_op Mul = refl
kind_op Div = refl
kind_op Rem = refl

pub open_dead : (t : ExprTree) (K : Stack) → NotCallable t → after_open t K ≡ Dead
open_dead (VarExpr x) K h = absurd h
open_dead (FieldExpr t x) K h = absurd h
open_dead (IntExpr n) K h = refl
open_dead (TextExpr t) K h = refl
open_dead (BoolExpr b) K h = refl
open_dead VoidExpr K h = refl
open_dead (CallExpr f ts) K h = refl
open_dead (MethodExpr t f ts) K h = refl
open_dead (NotExpr t) K h = refl
open_dead (NegExpr t) K h = refl
open_dead (BinaryExpr op l r) K h = refl
open_dead (ParenExpr t) K h = refl

-- the machine does at a sign's operand what it does at the whole
pub two_step : (op : Op) (l r : ExprTree) (K : Stack) (k : Kind) (x : Spot) → KindStops (suc (level op)) r k → step_kind (Have r (InTwo op l K)) k x ≡ step_kind (Have (BinaryExpr op l r) K) k x
two_step op l r K kind.Open x h = open_dead r (InTwo op l K) h
two_step op l r K kind.Close x h = rw (nat_lt_ge (level op) 0 (omega arith))
two_step op l r K kind.OpenSquare x h = absurd (omega (arith, level_small op))
two_step op l r K kind.CloseSquare x h = rw (nat_lt_ge (level op) 0 (omega arith))
two_step op l r K kind.Comma x h = rw (nat_lt_ge (level op) 0 (omega arith))
two_step op l r K kind.Dot x h = absurd (omega (arith, level_small op))
two_step op l r K (kind.Op o) x h = rw (nat_lt_ge (level op) (level o) (omega arith))
two_step op l r K _ x h = refl

unary_dead : (u : Unary) (t : ExprTree) (K : Stack) → after_open (unary u t) K ≡ Dead
unary_dead Negation t K = refl
unary_dead Minus t K = refl

pub unary_step : (u : Unary) (t : ExprTree) (K : Stack) (k : Kind) (x : Spot) → KindStops 7 t k → step_kind (Have t (InUnary u K)) k x ≡ step_kind (Have (unary u t) K) k x
unary_step u t K kind.Open x h = open_dead t (InUnary u K) h ∙ sym (unary_dead u t K)
unary_step u t K kind.Dot x h = absurd (omega arith)
unary_step u t K kind.OpenSquare x h = absurd (omega arith)
unary_step u t K _ x h = refl

two_same : (op : Op) (l r : ExprTree) (K : Stack) (rest : List Spot) → FirstStops (suc (level op)) r rest → Same (Have r (InTwo op l K)) rest (Have (BinaryExpr op l r) K) rest
two_same op l r K [] h = rw (nat_lt_ge (level op) 0 (omega arith))
two_same op l r K (x ∷ rest) h = ap (λ S. settle (feed S rest)) (two_step op l r K (kind_of x.token) x h)

unary_same : (u : Unary) (t : ExprTree) (K : Stack) (rest : List Spot) → FirstStops 7 t rest → Same (Have t (InUnary u K)) rest (Have (unary u t) K) rest
unary_same u t K [] h = refl
unary_same u t K (x ∷ rest) h = ap (λ S. settle (feed S rest)) (unary_step u t K (kind_of x.token) x h)

pub open_tree : (n : ℕ) (t : ExprTree) (K : Stack) → n ≤ 5 → Below n K → closed_tree n t K ≡ t
open_tree n t (Top d) le h = refl
open_tree n t (InParen K) le h = refl
open_tree n t (InUnary u K) le h = absurd (omega arith)
open_tree n t (InTwo op l K) le h = rw (nat_lt_lt (level op) n h)
open_tree n t (InArgs c ts K) le h = refl
open_tree n t (InIndex l K) le h = refl

pub open_stack : (n : ℕ) (K : Stack) → n ≤ 5 → Below n K → closed_stack n K ≡ K
open_stack n (Top d) le h = refl
open_stack n (InParen K) le h = refl
open_stack n (InUnary u K) le h = absurd (omega arith)
open_stack n (InTwo op l K) le h = rw (nat_lt_lt (level op) n h)
open_stack n (InArgs c ts K) le h = refl
open_stack n (InIndex l K) le h = refl

pub below_more : (m n : ℕ) (K : Stack) → Below m K → m ≤ n → Below n K
below_more m n (Top d) h le = tt
below_more m n (InParen K) h le = tt
below_more m n (InUnary u K) h le = omega arith
below_more m n (InTwo op l K) h le = omega arith
below_more m n (InArgs c ts K) h le = tt
below_more m n (InIndex l K) h le = tt

pub below_seven : (K : Stack) → Below 7 K
below_seven (Top d) = tt
below_seven (InParen K) = tt
below_seven (InUnary u K) = omega arith
below_seven (InTwo op l K) = omega (arith, level_small op)
below_seven (InArgs c ts K) = tt
below_seven (InIndex l K) = tt

-- a sign takes its left operand
pub sign_step : (op : Op) (t : ExprTree) (K : Stack) (p : Place) → Below (level op) K → step (Have t K) (sign_spot (op_sign op) p) ≡ Want (InTwo op t K)
sign_step op t K p b =
    ap (λ k. step_kind (Have t K) k (sign_spot (op_sign op) p)) (kind_op op)
    ∙ ap (λ w. Want (InTwo op w (closed_stack (level op) K))) (open_tree (level op) t K (level_small op) b)
    ∙ ap (λ Q. Want (InTwo op t Q)) (open_stack (level op) K (level_small op) b)

stops_op : (op : Op) (m : ℕ) (t : ExprTree) (p : Place) (rest : List Spot) → level op < m → FirstStops m t (sign_spot (op_sign op) p ∷ rest)
stops_op op m t p rest h = subst (KindStops m t) (sym (kind_op op)) h

pub kind_stops_more : (m n : ℕ) (t u : ExprTree) (k : Kind) → m ≤ n → (NotCallable t → NotCallable u) → KindStops m t k → KindStops n u k
kind_stops_more m n t u (kind.Op op) le c h = omega arith
kind_stops_more m n t u kind.Dot le c h = omega arith
kind_stops_more m n t u kind.OpenSquare le c h = omega arith
kind_stops_more m n t u kind.Open le c h = c h
kind_stops_more m n t u _ le c h = tt

-- nothing behind an expression opens a bracket
abbrev pub NotOpen : Kind → Type 0
NotOpen kind.Open = ⊥
NotOpen _ = Unit {0}

-- the tokens behind an expression of this level
abbrev pub Follows : ℕ → List Spot → Type 0
Follows n [] = Unit {0}
Follows n (x ∷ xs) = NotOpen (kind_of x.token) × KindStops (suc n) VoidExpr (kind_of x.token)

kind_follows : (n : ℕ) (t : ExprTree) (k : Kind) → NotOpen k → KindStops (suc n) VoidExpr k → KindStops (suc n) t k
kind_follows n t kind.Open h e = absurd h
kind_follows n t kind.Dot h e = e
kind_follows n t kind.OpenSquare h e = e
kind_follows n t (kind.Op op) h e = e
kind_follows n t _ h e = tt

pub first_stops : (n m : ℕ) (t : ExprTree) (rest : List Spot) → suc n ≤ m → Follows n rest → FirstStops m t rest
first_stops n m t [] le h = tt
first_stops n m t (x ∷ xs) le h = kind_stops_more (suc n) m t t (kind_of x.token) le (λ c. c) (kind_follows n t (kind_of x.token) h.0 h.1)

pub follows_more : (m n : ℕ) (rest : List Spot) → m ≤ n → Follows m rest → Follows n rest
follows_more m n [] le h = tt
follows_more m n (x ∷ xs) le h = (h.0, kind_stops_more (suc m) (suc n) VoidExpr VoidExpr (kind_of x.token) (omega arith) (λ c. c) h.1)

not_open_op : (op : Op) → NotOpen (sign_kind (op_sign op))
not_open_op op = subst NotOpen (sym (kind_op op)) tt

pub follows_op : (op : Op) (n : ℕ) (p : Place) (rest : List Spot) → level op ≤ n → Follows n (sign_spot (op_sign op) p ∷ rest)
follows_op op n p rest le = (not_open_op op, subst (KindStops (suc n) VoidExpr) (sym (kind_op op)) (omega arith))

-- what may begin an argument is no closing bracket
abbrev pub NotClose : Kind → Type 0
NotClose kind.Close = ⊥
NotClose _ = Unit {0}

pub record Starts (xs : List Spot) : Type 0 where
  pub first : Spot
  pub rest : List Spot
  pub is : xs ≡ first ∷ rest
  pub begins : NotClose (kind_of first.token)

starts_more : (a b : List Spot) (c : List Spot) → c ≡ a ++ b → Starts a → Starts c
starts_more a b c e s = record { first = s.first; rest = s.rest ++ b; is = e ∙ ap (λ z. z ++ b) s.is; begins = s.begins }

pub starts : {k d : ℕ} {xs : List Marked} {t : ExprTree} → ExprRule k d xs t → Starts (spots_of xs)
starts (number n p) = record { first = spot (token.Number n) p; rest = []; is = refl; begins = tt }
starts (text t p) = record { first = spot (token.Text t) p; rest = []; is = refl; begins = tt }
starts (truth p) = record { first = spot (token.Word word.Yes) p; rest = []; is = refl; begins = tt }
starts (falsehood p) = record { first = spot (token.Word word.No) p; rest = []; is = refl; begins = tt }
starts (void p q r) = record { first = spot (token.Word word.Void) p; rest = sign_spot sign.OpenRound q ∷ sign_spot sign.CloseRound r ∷ []; is = refl; begins = tt }
starts (variable x) = record { first = name_spot x; rest = []; is = refl; begins = tt }
starts (call f p q args r e) = record { first = name_spot f; rest = sign_spot sign.OpenRound p ∷ spots_of (args ++ sign_at sign.CloseRound q ∷ []); is = ap spots_of e; begins = tt }
starts (paren p q of r e) = record { first = sign_spot sign.OpenRound p; rest = spots_of (of ++ sign_at sign.CloseRound q ∷ []); is = ap spots_of e; begins = tt }
starts {k} {d} (field p x of r e) =
    let b = sign_at sign.Dot p ∷ name_at x ∷ [] in
    starts_more (spots_of of) (spots_of b) _ (ap spots_of e ∙ spots_append (begin (Node d) of) b ∙ ap (λ z. z ++ spots_of b) (spots_begin (Node d) of)) (starts r)
starts {k} {d} (method p q s f of args r a e) =
    let b = sign_at sign.Dot p ∷ name_at f ∷ sign_at sign.OpenRound q ∷ (args ++ sign_at sign.CloseRound s ∷ []) in
    starts_more (spots_of of) (spots_of b) _ (ap spots_of e ∙ spots_append (begin (Node d) of) b ∙ ap (λ z. z ++ spots_of b) (spots_begin (Node d) of)) (starts r)
starts {k} {d} (index p q of at r a e) =
    let b = sign_at sign.OpenSquare p ∷ (at ++ sign_at sign.CloseSquare q ∷ []) in
    starts_more (spots_of of) (spots_of b) _ (ap spots_of e ∙ spots_append (begin (Node d) of) b ∙ ap (λ z. z ++ spots_of b) (spots_begin (Node d) of)) (starts r)
starts (negation p of le r e) = record { first = sign_spot sign.Not p; rest = spots_of of; is = ap spots_of e; begins = tt }
starts (minus p of le r e) = record { first = sign_spot sign.Minus p; rest = spots_of of; is = ap spots_of e; begins = tt }
starts {k} {d} (binary op p left right le r s e) =
    let b = sign_at (op_sign op) p ∷ right in
    starts_more (spots_of left) (spots_of b) _ (ap spots_of e ∙ spots_append (begin (Node d) left) b ∙ ap (λ z. z ++ spots_of b) (spots_begin (Node d) left)) (starts r)

pub args_want : (h : Head) (K : Stack) (k : Kind) (x : Spot) → NotClose k → step_kind (WantArgs h K) k x ≡ step_kind (Want (InArgs h NoExprs K)) k x
args_want h K kind.Close x b = absurd b
args_want h K _ x b = refl

first_arg : (h : Head) (K : Stack) (xs rest : List Spot) → Starts xs → Same (WantArgs h K) (xs ++ rest) (Want (InArgs h NoExprs K)) (xs ++ rest)
first_arg h K xs rest s =
    let e = ap (λ z. z ++ rest) s.is in
    ap (λ z. settle (feed (WantArgs h K) z)) e
    ∙ ap (λ S. settle (feed S (s.rest ++ rest))) (args_want h K (kind_of s.first.token) s.first s.begins)
    ∙ ap (λ z. settle (feed (Want (InArgs h NoExprs K)) z)) (sym e)

pub comma_follows : {d : ℕ} {xs : List Marked} {us : ExprTrees} → MoreArgsRule d xs us → (q : Place) (rest : List Spot) → Follows 0 (spots_of xs ++ (sign_spot sign.CloseRound q ∷ rest))
comma_follows end_args q rest = (tt, tt)
comma_follows (more_args p next more r m e) q rest = subst (λ z. Follows 0 (spots_of z ++ (sign_spot sign.CloseRound q ∷ rest))) (sym e) (tt, tt)

mutual
  pub reads : {n d : ℕ} {xs : List Marked} {t : ExprTree} → ExprRule n d xs t → (K : Stack) (rest : List Spot) → Below n K → Follows n rest → Same (Want K) (spots_of xs ++ rest) (Have t K) rest
  reads (number n p) K rest b f = refl
  reads (text t p) K rest b f = refl
  reads (truth p) K rest b f = refl
  reads (falsehood p) K rest b f = refl
  reads (void p q r) K rest b f = refl
  reads (variable x) K rest b f = refl
  reads (call h p q args r e) K rest b f =
      let c = sign_spot sign.CloseRound q in
      let flat : spots_of (args ++ sign_at sign.CloseRound q ∷ []) ++ rest ≡ spots_of args ++ (c ∷ rest) =
      ap (λ z. z ++ rest) (spots_append args (sign_at sign.CloseRound q ∷ [])) ∙ append_assoc (spots_of args) (c ∷ []) rest in
      ap (λ z. settle (feed (Want K) (spots_of z ++ rest))) e
      ∙ ap (λ z. settle (feed (WantArgs (Function h) K) z)) flat
      ∙ reads_args r (Function h) K q rest
  reads (paren p q of r e) K rest b f =
      let c = sign_spot sign.CloseRound q in
      let flat : spots_of (of ++ sign_at sign.CloseRound q ∷ []) ++ rest ≡ spots_of of ++ (c ∷ rest) =
      ap (λ z. z ++ rest) (spots_append of (sign_at sign.CloseRound q ∷ [])) ∙ append_assoc (spots_of of) (c ∷ []) rest in
      ap (λ z. settle (feed (Want K) (spots_of z ++ rest))) e
      ∙ ap (λ z. settle (feed (Want (InParen K)) z)) flat
      ∙ reads r (InParen K) (c ∷ rest) tt (tt, tt)
  reads {n} {d} (field p x of r e) K rest b f =
      let l = sign_at sign.Dot p ∷ name_at x ∷ [] in
      let flat : spots_of (begin (Node d) of ++ l) ++ rest ≡ spots_of of ++ (spots_of l ++ rest) =
      ap (λ z. z ++ rest) (spots_append (begin (Node d) of) l ∙ ap (λ z. z ++ spots_of l) (spots_begin (Node d) of)) ∙ append_assoc (spots_of of) (spots_of l) rest in
      ap (λ z. settle (feed (Want K) (spots_of z ++ rest))) e
      ∙ ap (λ z. settle (feed (Want K) z)) flat
      ∙ reads r K (spots_of l ++ rest) (below_seven K) (tt, omega arith)
  reads {n} {d} (method {t = u} p q s h of args r a e) K rest b f =
      let c = sign_spot sign.CloseRound s in
      let l = sign_at sign.Dot p ∷ name_at h ∷ sign_at sign.OpenRound q ∷ (args ++ sign_at sign.CloseRound s ∷ []) in
      let flat : spots_of (begin (Node d) of ++ l) ++ rest ≡ spots_of of ++ (spots_of l ++ rest) =
      ap (λ z. z ++ rest) (spots_append (begin (Node d) of) l ∙ ap (λ z. z ++ spots_of l) (spots_begin (Node d) of)) ∙ append_assoc (spots_of of) (spots_of l) rest in
      let flat2 : spots_of (args ++ sign_at sign.CloseRound s ∷ []) ++ rest ≡ spots_of args ++ (c ∷ rest) =
      ap (λ z. z ++ rest) (spots_append args (sign_at sign.CloseRound s ∷ [])) ∙ append_assoc (spots_of args) (c ∷ []) rest in
      ap (λ z. settle (feed (Want K) (spots_of z ++ rest))) e
      ∙ ap (λ z. settle (feed (Want K) z)) flat
      ∙ reads r K (spots_of l ++ rest) (below_seven K) (tt, omega arith)
      ∙ ap (λ z. settle (feed (WantArgs (Method u h) K) z)) flat2
      ∙ reads_args a (Method u h) K s rest
  reads {n} {d} (index {t = u} p q of at r a e) K rest b f =
      let c = sign_spot sign.CloseSquare q in
      let l = sign_at sign.OpenSquare p ∷ (at ++ sign_at sign.CloseSquare q ∷ []) in
      let flat : spots_of (begin (Node d) of ++ l) ++ rest ≡ spots_of of ++ (spots_of l ++ rest) =
      ap (λ z. z ++ rest) (spots_append (begin (Node d) of) l ∙ ap (λ z. z ++ spots_of l) (spots_begin (Node d) of)) ∙ append_assoc (spots_of of) (spots_of l) rest in
      let flat2 : spots_of (at ++ sign_at sign.CloseSquare q ∷ []) ++ rest ≡ spots_of at ++ (c ∷ rest) =
      ap (λ z. z ++ rest) (spots_append at (sign_at sign.CloseSquare q ∷ [])) ∙ append_assoc (spots_of at) (c ∷ []) rest in
      ap (λ z. settle (feed (Want K) (spots_of z ++ rest))) e
      ∙ ap (λ z. settle (feed (Want K) z)) flat
      ∙ reads r K (spots_of l ++ rest) (below_seven K) (tt, omega arith)
      ∙ ap (λ z. settle (feed (Want (InIndex u K)) z)) flat2
      ∙ reads a (InIndex u K) (c ∷ rest) tt (tt, tt)
  reads {n} {d} (negation {t = t} p of le r e) K rest b f =
      ap (λ z. settle (feed (Want K) (spots_of z ++ rest))) e
      ∙ reads r (InUnary Negation K) rest (omega arith) (follows_more n 6 rest le f)
      ∙ unary_same Negation t K rest (first_stops n 7 t rest (omega arith) f)
  reads {n} {d} (minus {t = t} p of le r e) K rest b f =
      ap (λ z. settle (feed (Want K) (spots_of z ++ rest))) e
      ∙ reads r (InUnary Minus K) rest (omega arith) (follows_more n 6 rest le f)
      ∙ unary_same Minus t K rest (first_stops n 7 t rest (omega arith) f)
  reads {n} {d} (binary {a = x} {b = y} op p left right le r s e) K rest b f =
      let l = sign_at (op_sign op) p ∷ right in
      let flat : spots_of (begin (Node d) left ++ l) ++ rest ≡ spots_of left ++ (spots_of l ++ rest) =
      ap (λ z. z ++ rest) (spots_append (begin (Node d) left) l ∙ ap (λ z. z ++ spots_of l) (spots_begin (Node d) left)) ∙ append_assoc (spots_of left) (spots_of l) rest in
      let b' = below_more n (level op) K b le in
      ap (λ z. settle (feed (Want K) (spots_of z ++ rest))) e
      ∙ ap (λ z. settle (feed (Want K) z)) flat
      ∙ reads r K (spots_of l ++ rest) b' (follows_op op (level op) p (spots_of right ++ rest) (omega arith))
      ∙ ap (λ S. settle (feed S (spots_of right ++ rest))) (sign_step op x K p b')
      ∙ reads s (InTwo op x K) rest (omega arith) (follows_more n (suc (level op)) rest (omega arith) f)
      ∙ two_same op x y K rest (first_stops n (suc (level op)) y rest (omega arith) f)

  pub reads_args : {d : ℕ} {xs : List Marked} {ts : ExprTrees} → ArgsRule d xs ts → (h : Head) (K : Stack) (q : Place) (rest : List Spot)
      → Same (WantArgs h K) (spots_of xs ++ (sign_spot sign.CloseRound q ∷ rest)) (Have (called h ts) K) rest
  reads_args no_args h K q rest = refl
  reads_args (some_args {t = t} first more r m e) h K q rest =
      let c = sign_spot sign.CloseRound q ∷ rest in
      let flat : spots_of (first ++ more) ++ c ≡ spots_of first ++ (spots_of more ++ c) = ap (λ z. z ++ c) (spots_append first more) ∙ append_assoc (spots_of first) (spots_of more) c in
      ap (λ z. settle (feed (WantArgs h K) (spots_of z ++ c))) e
      ∙ ap (λ z. settle (feed (WantArgs h K) z)) flat
      ∙ first_arg h K (spots_of first) (spots_of more ++ c) (starts r)
      ∙ reads r (InArgs h NoExprs K) (spots_of more ++ c) tt (comma_follows m q rest)
      ∙ reads_more m h NoExprs t K q rest

  pub reads_more : {d : ℕ} {xs : List Marked} {us : ExprTrees} → MoreArgsRule d xs us → (h : Head) (ts : ExprTrees) (t : ExprTree) (K : Stack) (q : Place) (rest : List Spot)
      → Same (Have t (InArgs h ts K)) (spots_of xs ++ (sign_spot sign.CloseRound q ∷ rest)) (Have (called h (join (push ts t) us)) K) rest
  reads_more end_args h ts t K q rest = ap (λ us. settle (feed (Have (called h us) K) rest)) (sym (join_none (push ts t)))
  reads_more (more_args {t = u} {ts = us} p next more r m e) h ts t K q rest =
      let c = sign_spot sign.CloseRound q ∷ rest in
      let flat : spots_of (next ++ more) ++ c ≡ spots_of next ++ (spots_of more ++ c) = ap (λ z. z ++ c) (spots_append next more) ∙ append_assoc (spots_of next) (spots_of more) c in
      ap (λ z. settle (feed (Have t (InArgs h ts K)) (spots_of z ++ c))) e
      ∙ ap (λ z. settle (feed (Want (InArgs h (push ts t) K)) z)) flat
      ∙ reads r (InArgs h (push ts t) K) (spots_of more ++ c) tt (comma_follows m q rest)
      ∙ reads_more m h (push ts t) u K q rest
      ∙ ap (λ vs. settle (feed (Have (called h vs) K) rest)) (join_push (push ts t) us u)
