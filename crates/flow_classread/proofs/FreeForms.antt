-- Expressions whose variables name no place with too great a number, by their tokens.
use Rattle.std.proofs.Common.{◌≡◌, ℕ, ◌^◌, ◌<◌, Bool, true, false, ◌&&◌, ◌||◌, ◌==◌, List, [], ◌∷◌, ◌++◌, refl, sym, ap, ◌∙◌, subst, arith, append_assoc, if◌then◌else◌, ◌⊎◌, inl, inr}
use Rattle.std.specs.Prelude.{is_none}
use Rattle.std.specs.Option.{option_map}
use Rattle.std.specs.declared.option.Option.{Option}
use Rattle.std.specs.declared.option.Option.TheVariants.{None, Some}
use Rattle.flow_base.specs.Names.{digits_from}
use Rattle.flow_base.specs.declared.place.Place.{Place}
use Rattle.flow_tree.specs.declared.token.Token.{Token}
use Rattle.flow_tree.specs.declared.token.Token.TheVariants as token
use Rattle.flow_tree.specs.declared.token.Sign.TheVariants as sign
use Rattle.flow_tree.specs.declared.expr.Op.{Op}
use Rattle.flow_tree.specs.declared.expr.Op.TheVariants.{Or, And, Eq, Ne, Lt, Le, Gt, Ge, Add, Sub, Mul, Div, Rem}
use Rattle.flow_tree.specs.Tree.{ExprTree, ExprTrees}
use Rattle.flow_tree.specs.GrammarToken.{Part, Node, Marked, begin}
use Rattle.flow_tree.specs.Grammar.{sign_at, name_at, in_round, op_sign, ExprRule, number, text, truth, falsehood, void, variable, call, paren, field, method, index, negation, minus, binary, ArgsRule, no_args, some_args, MoreArgsRule, end_args, more_args}
use Rattle.flow_class.specs.declared.class.Slotted.{Slotted}
use Rattle.flow_class.specs.declared.class.Slotted.TheVariants.{Slot, Local}
use Rattle.flow_class.specs.Places.{place_named, number_of, is_number, small, small_place}
use Rattle.flow_classprint.specs.ClassGrammar.{IsPlace, IsFree, AreFree, AllAreFree}
use Rattle.flow_classread.specs.Strays.{names_place, is_far}

-- a name is far where it names a place with too great a number
small_none : (n : ℕ) → is_none (small (Some n)) ≡ false → n < 2 ^ 32
small_none n h = grind arith

small_some : (n : ℕ) → n < 2 ^ 32 → is_none (small (Some n)) ≡ false
small_some n h = grind arith

slot_near : (n : ℕ) → is_none (small_place (Some (Slot n))) ≡ is_none (small (Some n))
slot_near n = of (small (Some n))
  where
    of : (o : Option ℕ) → is_none (option_map Slot o) ≡ is_none o
    of None = refl
    of (Some m) = refl

local_near : (n : ℕ) → is_none (small_place (Some (Local n))) ≡ is_none (small (Some n))
local_near n = of (small (Some n))
  where
    of : (o : Option ℕ) → is_none (option_map Local o) ≡ is_none o
    of None = refl
    of (Some m) = refl

place_free : (p : Slotted) → is_none (small_place (Some p)) ≡ false → IsPlace p
place_free (Slot n) h = small_none n (sym (slot_near n) ∙ h)
place_free (Local n) h = small_none n (sym (local_near n) ∙ h)

free_place : (p : Slotted) → IsPlace p → is_none (small_place (Some p)) ≡ false
free_place (Slot n) h = slot_near n ∙ small_some n h
free_place (Local n) h = local_near n ∙ small_some n h

-- a name that names a place is spelled like one
spelled : (c : ℕ) (ds : List ℕ) (a b d : Bool) → (c == 115) ≡ a → (c == 108) ≡ b → is_number ds ≡ d
    → ((p : Slotted) × (place_named (c ∷ ds) ≡ Some p) × (names_place (c ∷ ds) ≡ true)) ⊎ ((place_named (c ∷ ds) ≡ None) × (names_place (c ∷ ds) ≡ false))
spelled c ds true b true e f g = inl (
  Slot (digits_from 0 ds),
  ap (λ x. if x then option_map Slot (number_of ds) else if c == 108 then option_map Local (number_of ds) else None) e ∙ ap (λ x. option_map Slot (if x then Some (digits_from 0 ds) else None)) g,
  ap (λ x. (x || c == 108) && is_number ds) e ∙ g,
)
spelled c ds true b false e f g = inr (
  ap (λ x. if x then option_map Slot (number_of ds) else if c == 108 then option_map Local (number_of ds) else None) e ∙ ap (λ x. option_map Slot (if x then Some (digits_from 0 ds) else None)) g,
  ap (λ x. (x || c == 108) && is_number ds) e ∙ g,
)
spelled c ds false true true e f g = inl (
  Local (digits_from 0 ds),
  ap (λ x. if x then option_map Slot (number_of ds) else if c == 108 then option_map Local (number_of ds) else None) e
      ∙ ap (λ x. if x then option_map Local (number_of ds) else None) f ∙ ap (λ x. option_map Local (if x then Some (digits_from 0 ds) else None)) g,
  ap (λ x. (x || c == 108) && is_number ds) e ∙ ap (λ x. x && is_number ds) f ∙ g,
)
spelled c ds false true false e f g = inr (
  ap (λ x. if x then option_map Slot (number_of ds) else if c == 108 then option_map Local (number_of ds) else None) e
      ∙ ap (λ x. if x then option_map Local (number_of ds) else None) f ∙ ap (λ x. option_map Local (if x then Some (digits_from 0 ds) else None)) g,
  ap (λ x. (x || c == 108) && is_number ds) e ∙ ap (λ x. x && is_number ds) f ∙ g,
)
spelled c ds false false d e f g = inr (
  ap (λ x. if x then option_map Slot (number_of ds) else if c == 108 then option_map Local (number_of ds) else None) e ∙ ap (λ x. if x then option_map Local (number_of ds) else None) f,
  ap (λ x. (x || c == 108) && is_number ds) e ∙ ap (λ x. x && is_number ds) f,
)

spelling : (x : List ℕ) → ((p : Slotted) × (place_named x ≡ Some p) × (names_place x ≡ true)) ⊎ ((place_named x ≡ None) × (names_place x ≡ false))
spelling [] = inr (refl, refl)
spelling (c ∷ ds) = spelled c ds (c == 115) (c == 108) (is_number ds) refl refl refl

pub near_free : (x : List ℕ) → is_far (Some (token.Name x)) ≡ false → IsFree (place_named x)
near_free x h = elim (spelling x) [
  | inl s ↦
      let e : is_none (small_place (Some s.0)) ≡ false = sym (ap (λ o. is_none (small_place o)) s.1) ∙ sym (ap (λ b. b && is_none (small_place (place_named x))) s.2) ∙ h in
      subst IsFree (sym s.1) (place_free s.0 e)
  | inr s ↦ subst IsFree (sym s.0) tt
]

pub free_near : (x : List ℕ) → IsFree (place_named x) → is_far (Some (token.Name x)) ≡ false
free_near x h = elim (spelling x) [
  | inl s ↦ ap (λ b. b && is_none (small_place (place_named x))) s.2 ∙ ap (λ o. is_none (small_place o)) s.1 ∙ free_place s.0 (subst IsFree s.1 h)
  | inr s ↦ ap (λ b. b && is_none (small_place (place_named x))) s.1
]

-- each far name stands behind a dot or before a bracket
abbrev pub Opens : List Marked → Type 0
Opens [] = ⊥
Opens (y ∷ ys) = y.spot.token ≡ token.Sign sign.OpenRound

abbrev pub is_dot : Token → Bool
is_dot (token.Sign sign.Dot) = true
is_dot _ = false

abbrev pub FreeMarks : (dotted : Bool) → List Marked → Type 0
FreeMarks d [] = Unit {0}
FreeMarks d (x ∷ xs) = (is_far (Some x.spot.token) ≡ true → (d ≡ true) ⊎ Opens xs) × FreeMarks (is_dot x.spot.token) xs

free_begin : (d : Bool) (p : Part) (w v : List Marked) → FreeMarks d (begin p w ++ v) → FreeMarks d (w ++ v)
free_begin d p [] v h = h
free_begin d p (x ∷ w) v h = h

begin_free : (d : Bool) (p : Part) (w v : List Marked) → FreeMarks d (w ++ v) → FreeMarks d (begin p w ++ v)
begin_free d p [] v h = h
begin_free d p (x ∷ w) v h = h

is_bool : (b : Bool) → (b ≡ true → ⊥) → b ≡ false
is_bool true f = absurd (f refl)
is_bool false f = refl

no_true : false ≡ true → ⊥
no_true e = cc

undotted : (x : List ℕ) (v : List Marked) → (Opens v → ⊥) → (is_far (Some (token.Name x)) ≡ true → (false ≡ true) ⊎ Opens v) → is_far (Some (token.Name x)) ≡ false
undotted x v nope f = is_bool (is_far (Some (token.Name x))) (λ e. elim (f e) [
  | inl g ↦ no_true g
  | inr o ↦ nope o
])

sign_no : (s : _) → (s ≡ sign.OpenRound → ⊥) → (p : Place) (v : List Marked) → Opens (sign_at s p ∷ v) → ⊥
sign_no s f p v e = f (let g : token.Sign s ≡ token.Sign sign.OpenRound = e in cc)

op_no : (op : Op) → op_sign op ≡ sign.OpenRound → ⊥
op_no Or e = cc
op_no And e = cc
op_no Eq e = cc
op_no Ne e = cc
op_no Lt e = cc
op_no Le e = cc
op_no Gt e = cc
op_no Ge e = cc
op_no Add e = cc
op_no Sub e = cc
op_no Mul e = cc
op_no Div e = cc
op_no Rem e = cc

op_dot : (op : Op) → is_dot (token.Sign (op_sign op)) ≡ false
op_dot Or = refl
op_dot And = refl
op_dot Eq = refl
op_dot Ne = refl
op_dot Lt = refl
op_dot Le = refl
op_dot Gt = refl
op_dot Ge = refl
op_dot Add = refl
op_dot Sub = refl
op_dot Mul = refl
op_dot Div = refl
op_dot Rem = refl

close_no : (p : Place) (v : List Marked) → Opens (sign_at sign.CloseRound p ∷ v) → ⊥
close_no p v e = sign_no sign.CloseRound (λ f. cc) p v e

-- between brackets
round : (xs v : List Marked) (q : Place) → (xs ++ sign_at sign.CloseRound q ∷ []) ++ v ≡ xs ++ (sign_at sign.CloseRound q ∷ v)
round xs v q = append_assoc xs (sign_at sign.CloseRound q ∷ []) v

square : (xs v : List Marked) (q : Place) → (xs ++ sign_at sign.CloseSquare q ∷ []) ++ v ≡ xs ++ (sign_at sign.CloseSquare q ∷ v)
square xs v q = append_assoc xs (sign_at sign.CloseSquare q ∷ []) v

mutual
  pub free_expr : {k d : ℕ} {w : List Marked} {e : ExprTree} → ExprRule k d w e → (v : List Marked) → (Opens v → ⊥) → FreeMarks false (w ++ v) → AreFree e × FreeMarks false v
  free_expr (number n p) v nope h = (tt, h.1)
  free_expr (text t p) v nope h = (tt, h.1)
  free_expr (truth p) v nope h = (tt, h.1)
  free_expr (falsehood p) v nope h = (tt, h.1)
  free_expr (void p q r) v nope h = (tt, h.1.1.1)
  free_expr (variable x) v nope h = (near_free x.name (undotted x.name v nope h.0), h.1)
  free_expr (call f p q args a e) v nope h =
      let g = subst (λ k. FreeMarks false (k ++ v)) e h in
      let r = free_args a (sign_at sign.CloseRound q ∷ v) (close_no q v) (subst (FreeMarks false) (round args v q) g.1.1) in
      (r.0, r.1.1)
  free_expr (paren p q of r e) v nope h =
      let g = subst (λ k. FreeMarks false (k ++ v)) e h in
      let s = free_expr r (sign_at sign.CloseRound q ∷ v) (close_no q v) (subst (FreeMarks false) (round of v q) g.1) in
      (s.0, s.1.1)
  free_expr {d = d} (field p x of r e) v nope h =
      let tail = sign_at sign.Dot p ∷ name_at x ∷ [] in
      let g = subst (FreeMarks false) (append_assoc (begin (Node d) of) tail v) (subst (λ k. FreeMarks false (k ++ v)) e h) in
      let s = free_expr r (tail ++ v) (sign_no sign.Dot (λ f. cc) p (name_at x ∷ v)) (free_begin false (Node d) of (tail ++ v) g) in
      (s.0, s.1.1.1)
  free_expr {d = d} (method p q r f of args t a e) v nope h =
      let tail = sign_at sign.Dot p ∷ name_at f ∷ in_round q args r [] in
      let g = subst (FreeMarks false) (append_assoc (begin (Node d) of) tail v) (subst (λ k. FreeMarks false (k ++ v)) e h) in
      let s = free_expr t (tail ++ v) (sign_no sign.Dot (λ f. cc) p (name_at f ∷ (in_round q args r [] ++ v))) (free_begin false (Node d) of (tail ++ v) g) in
      let u = free_args a (sign_at sign.CloseRound r ∷ v) (close_no r v) (subst (FreeMarks false) (round args v r) s.1.1.1.1) in
      ((s.0, u.0), u.1.1)
  free_expr {d = d} (index p q of at t i e) v nope h =
      let tail = sign_at sign.OpenSquare p ∷ (at ++ sign_at sign.CloseSquare q ∷ []) in
      let g = subst (FreeMarks false) (append_assoc (begin (Node d) of) tail v) (subst (λ k. FreeMarks false (k ++ v)) e h) in
      let s = free_expr t (tail ++ v) (sign_no sign.OpenSquare (λ f. cc) p ((at ++ sign_at sign.CloseSquare q ∷ []) ++ v)) (free_begin false (Node d) of (tail ++ v) g) in
      let u = free_expr i (sign_at sign.CloseSquare q ∷ v) (sign_no sign.CloseSquare (λ f. cc) q v) (subst (FreeMarks false) (square at v q) s.1.1) in
      ((s.0, (u.0, tt)), u.1.1)
  free_expr (negation p of le r e) v nope h = let g = subst (λ k. FreeMarks false (k ++ v)) e h in free_expr r v nope g.1
  free_expr (minus p of le r e) v nope h = let g = subst (λ k. FreeMarks false (k ++ v)) e h in free_expr r v nope g.1
  free_expr {d = d} (binary op p left right le a b e) v nope h =
      let g = subst (FreeMarks false) (append_assoc (begin (Node d) left) (sign_at (op_sign op) p ∷ right) v) (subst (λ k. FreeMarks false (k ++ v)) e h) in
      let s = free_expr a (sign_at (op_sign op) p ∷ (right ++ v)) (sign_no (op_sign op) (op_no op) p (right ++ v)) (free_begin false (Node d) left (sign_at (op_sign op) p ∷ (right ++ v)) g) in
      let u = free_expr b v nope (subst (λ k. FreeMarks k (right ++ v)) (op_dot op) s.1.1) in
      ((s.0, u.0), u.1)

  free_args : {d : ℕ} {w : List Marked} {es : ExprTrees} → ArgsRule d w es → (v : List Marked) → (Opens v → ⊥) → FreeMarks false (w ++ v) → AllAreFree es × FreeMarks false v
  free_args no_args v nope h = (tt, h)
  free_args (some_args first more r s e) v nope h =
      let g = subst (FreeMarks false) (append_assoc first more v) (subst (λ k. FreeMarks false (k ++ v)) e h) in
      let a = free_expr r (more ++ v) (more_no s v nope) g in
      let b = free_more s v nope a.1 in
      ((a.0, b.0), b.1)

  more_no : {d : ℕ} {w : List Marked} {es : ExprTrees} → MoreArgsRule d w es → (v : List Marked) → (Opens v → ⊥) → Opens (w ++ v) → ⊥
  more_no end_args v nope h = nope h
  more_no (more_args p next more r s e) v nope h = sign_no sign.Comma (λ f. cc) p ((next ++ more) ++ v) (subst (λ k. Opens (k ++ v)) e h)

  free_more : {d : ℕ} {w : List Marked} {es : ExprTrees} → MoreArgsRule d w es → (v : List Marked) → (Opens v → ⊥) → FreeMarks false (w ++ v) → AllAreFree es × FreeMarks false v
  free_more end_args v nope h = (tt, h)
  free_more (more_args p next more r s e) v nope h =
      let g = subst (λ k. FreeMarks false (k ++ v)) e h in
      let a = free_expr r (more ++ v) (more_no s v nope) (subst (FreeMarks false) (append_assoc next more v) g.1) in
      let b = free_more s v nope a.1 in
      ((a.0, b.0), b.1)

-- and the other way round
not_far : (t : Token) → is_far (Some t) ≡ false → {A : Type 0} → is_far (Some t) ≡ true → A
not_far t e f = absurd (no_true (sym e ∙ f))

mutual
  pub expr_free : {k d : ℕ} {w : List Marked} {e : ExprTree} → ExprRule k d w e → AreFree e → (b : Bool) (v : List Marked) → FreeMarks false v → FreeMarks b (w ++ v)
  expr_free (number n p) f b v h = ((λ e. absurd (no_true e)), h)
  expr_free (text t p) f b v h = ((λ e. absurd (no_true e)), h)
  expr_free (truth p) f b v h = ((λ e. absurd (no_true e)), h)
  expr_free (falsehood p) f b v h = ((λ e. absurd (no_true e)), h)
  expr_free (void p q r) f b v h = ((λ e. absurd (no_true e)), ((λ e. absurd (no_true e)), ((λ e. absurd (no_true e)), h)))
  expr_free (variable x) f b v h = ((λ e. not_far (token.Name x.name) (free_near x.name f) e), h)
  expr_free (call g p q args a e) f b v h = subst (λ k. FreeMarks b (k ++ v)) (sym e)
      ((λ x. inr refl), ((λ x. absurd (no_true x)), subst (FreeMarks false) (sym (round args v q)) (args_free a f (sign_at sign.CloseRound q ∷ v) ((λ x. absurd (no_true x)), h))))
  expr_free (paren p q of r e) f b v h = subst (λ k. FreeMarks b (k ++ v)) (sym e)
      ((λ x. absurd (no_true x)), subst (FreeMarks false) (sym (round of v q)) (expr_free r f false (sign_at sign.CloseRound q ∷ v) ((λ x. absurd (no_true x)), h)))
  expr_free {d = d} (field p x of r e) f b v h =
      let tail = sign_at sign.Dot p ∷ name_at x ∷ [] in
      subst (λ k. FreeMarks b (k ++ v)) (sym e) (subst (FreeMarks b) (sym (append_assoc (begin (Node d) of) tail v))
      (begin_free b (Node d) of (tail ++ v) (expr_free r f b (tail ++ v) ((λ y. absurd (no_true y)), ((λ y. inl refl), h)))))
  expr_free {d = d} (method p q r g of args t a e) f b v h =
      let tail = sign_at sign.Dot p ∷ name_at g ∷ in_round q args r [] in
      subst (λ k. FreeMarks b (k ++ v)) (sym e) (subst (FreeMarks b) (sym (append_assoc (begin (Node d) of) tail v))
      (begin_free b (Node d) of (tail ++ v) (expr_free t f.0 b (tail ++ v) (
        (λ y. absurd (no_true y)),
        (
          (λ y. inl refl),
          (
            (λ y. absurd (no_true y)),
            subst (FreeMarks false) (sym (round args v r))
                (args_free a f.1 (sign_at sign.CloseRound r ∷ v) ((λ x. absurd (no_true x)), h)),
          ),
        ),
      ))))
  expr_free {d = d} (index p q of at t i e) f b v h =
      let tail = sign_at sign.OpenSquare p ∷ (at ++ sign_at sign.CloseSquare q ∷ []) in
      subst (λ k. FreeMarks b (k ++ v)) (sym e) (subst (FreeMarks b) (sym (append_assoc (begin (Node d) of) tail v))
      (begin_free b (Node d) of (tail ++ v) (expr_free t f.0 b (tail ++ v) (
        (λ y. absurd (no_true y)),
        subst (FreeMarks false) (sym (square at v q)) (expr_free i f.1.0 false (sign_at sign.CloseSquare q ∷ v) ((λ x. absurd (no_true x)), h)),
      ))))
  expr_free (negation p of le r e) f b v h = subst (λ k. FreeMarks b (k ++ v)) (sym e) ((λ x. absurd (no_true x)), expr_free r f false v h)
  expr_free (minus p of le r e) f b v h = subst (λ k. FreeMarks b (k ++ v)) (sym e) ((λ x. absurd (no_true x)), expr_free r f false v h)
  expr_free {d = d} (binary op p left right le a c e) f b v h =
      subst (λ k. FreeMarks b (k ++ v)) (sym e) (subst (FreeMarks b) (sym (append_assoc (begin (Node d) left) (sign_at (op_sign op) p ∷ right) v))
      (begin_free b (Node d) left (sign_at (op_sign op) p ∷ (right ++ v)) (expr_free a f.0 b (sign_at (op_sign op) p ∷ (right ++ v))
      ((λ x. absurd (no_true x)), subst (λ k. FreeMarks k (right ++ v)) (sym (op_dot op)) (expr_free c f.1 false v h)))))

  args_free : {d : ℕ} {w : List Marked} {es : ExprTrees} → ArgsRule d w es → AllAreFree es → (v : List Marked) → FreeMarks false v → FreeMarks false (w ++ v)
  args_free no_args f v h = h
  args_free (some_args first more r s e) f v h =
      subst (λ k. FreeMarks false (k ++ v)) (sym e) (subst (FreeMarks false) (sym (append_assoc first more v)) (expr_free r f.0 false (more ++ v) (more_free s f.1 v h)))

  more_free : {d : ℕ} {w : List Marked} {es : ExprTrees} → MoreArgsRule d w es → AllAreFree es → (v : List Marked) → FreeMarks false v → FreeMarks false (w ++ v)
  more_free end_args f v h = h
  more_free (more_args p next more r s e) f v h = subst (λ k. FreeMarks false (k ++ v)) (sym e)
      ((λ x. absurd (no_true x)), subst (FreeMarks false) (sym (append_assoc next more v)) (expr_free r f.0 false (more ++ v) (more_free s f.1 v h)))
