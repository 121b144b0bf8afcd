-- A state of the machine that is not dead can be completed.
use Rattle.std.proofs.Common.{◌≡◌, ℕ, suc, ◌+◌, ◌≤◌, List, [], ◌∷◌, ◌++◌, refl, sym, ap, ◌∙◌, subst, arith, append_assoc, true, ◌⊎◌, inl, inr}
use Rattle.std.specs.Prelude.{nat_le}
use Rattle.std.proofs.lemmas.List.{append-nil}
use Rattle.flow_base.specs.declared.place.Place.{Place}
use Rattle.flow_tree.specs.declared.token.Token.TheVariants as token
use Rattle.flow_tree.specs.declared.token.Word.TheVariants as word
use Rattle.flow_tree.specs.declared.token.Sign.TheVariants as sign
use Rattle.flow_tree.specs.declared.token.Spot.{Spot}
use Rattle.flow_tree.specs.declared.ty.Ident.{Ident}
use Rattle.flow_tree.specs.Tree.{ExprTree, IntExpr, VoidExpr, FieldExpr, NoExprs}
use Rattle.flow_tree.specs.GrammarToken.{Node, opens, begin, spots_of, Good}
use Rattle.flow_tree.specs.Grammar.{sign_at, name_at, node_word, ExprRule, number, void, field, no_args}
use Rattle.flow_tree.proofs.GrammarLists.{spots_append, spots_begin, keeps_append, keeps_begin}
use Rattle.flow_exprs.specs.Machine.{called, Stack, Top, State, Want, Have, WantArgs, WantName, WantOpen, WantClose, Dead, closed_tree, closed_stack, step, height, head_height, hole, fits_stack, fits}
use Rattle.std.specs.Prelude.{pos}
use Rattle.flow_base.proofs.Bools.{and_left, and_right}
use Rattle.flow_tree.specs.GrammarToken.{Derives}
use Rattle.flow_exprs.proofs.Sound.{sign_spot, Own, Front, need, HaveRead, HasRead, height_some}
use Rattle.flow_exprs.proofs.Steps.{closed}
use Rattle.flow_exprs.proofs.Reading.{step_reads, plug, le_true}

abbrev pub nowhere : Place
nowhere = record { line = 0; column = 0; byte = 0 }

abbrev pub Alive : State → Type 0
Alive Dead = ⊥
Alive _ = Unit {0}

pub good_state : (n base : ℕ) (S : State) (toks : List Spot) → HasRead base S toks → Alive S → (5 ≤ n → fits S ≡ true) → Good (ExprRule 0 base) n toks
good_state n base (Want K) toks f a h =
    let g = plug n base K toks f h (IntExpr (pos 0)) [] (opens (Node (hole K) ∷ []) (token.Number (pos 0)) nowhere ∷ []) (number (pos 0) nowhere) tt in
    subst (Good (ExprRule 0 base) n) (append-nil toks) g
good_state n base (Have t K) toks f a h =
    let o = f.rule (need K) (hole K) in
    let b : 5 ≤ n → hole K + height t ≤ 65 = λ i. le_true (hole K + height t) 65 (and_left (nat_le (hole K + height t) 65) (fits_stack K) (h i)) in
    let g = plug n base K f.front f.stack (λ i. and_right (nat_le (hole K + height t) 65) (fits_stack K) (h i)) t o.marked []
    (subst (λ z. ExprRule (need K) (hole K) z t) (sym (append-nil o.marked)) o.rule) (o.keeps n b) in
    subst (Good (ExprRule 0 base) n) (ap (λ z. f.front ++ z) o.is ∙ sym f.is) g
good_state n base (WantArgs c K) toks f a h =
    let x = f.3 (hole K) in
    let b : 5 ≤ n → hole K + head_height c ≤ 64 = λ i. le_true (hole K + head_height c) 64 (and_left (nat_le (hole K + head_height c) 64) (fits_stack K) (h i)) in
    let g = plug n base K f.0 f.2 (λ i. and_right (nat_le (hole K + head_height c) 64) (fits_stack K) (h i)) (called c NoExprs) x.marked (sign_at sign.CloseRound nowhere ∷ [])
    (x.rule (need K) nowhere [] NoExprs no_args) (x.keeps n b) in
    subst (Good (ExprRule 0 base) n) (ap (λ z. f.0 ++ z) x.is ∙ sym f.4) g
good_state n base (WantName t K) toks f a h =
    let d = hole K in
    let o = f.4 7 (suc d) in
    let b : 5 ≤ n → d + height t ≤ 64 = λ i. le_true (d + height t) 64 (and_left (nat_le (d + height t) 64) (fits_stack K) (h i)) in
    let v : Ident = record { name = 97 ∷ []; at = nowhere } in
    let left = begin (Node d) o.marked in
    let dot = sign_at sign.Dot f.2 ∷ [] in
    let g = plug n base K f.0 f.3 (λ i. and_right (nat_le (d + height t) 64) (fits_stack K) (h i)) (FieldExpr t v) (left ++ dot) (name_at v ∷ [])
    (field f.2 v o.marked o.rule (append_assoc left dot (name_at v ∷ [])))
    (keeps_append n left dot (keeps_begin n (Node d) o.marked (λ i. omega (arith, b i, height_some t)) (o.keeps n (λ i. omega (arith, b i)))) (tt, tt)) in
    let e : spots_of (left ++ dot) ≡ f.1 ++ sign_spot sign.Dot f.2 ∷ [] = spots_append left dot ∙ ap (λ z. z ++ sign_spot sign.Dot f.2 ∷ []) (spots_begin (Node d) o.marked ∙ o.is) in
    subst (Good (ExprRule 0 base) n) (ap (λ z. f.0 ++ z) e ∙ sym f.5) g
good_state n base (WantOpen K) toks f a h =
    let g = plug n base K f.0 f.2 (λ i. and_right (nat_le (hole K) 64) (fits_stack K) (h i)) VoidExpr (node_word (hole K) word.Void f.1 ∷ [])
    (sign_at sign.OpenRound nowhere ∷ sign_at sign.CloseRound nowhere ∷ []) (void f.1 nowhere nowhere)
    (((λ l. le_true (hole K) 64 (and_left (nat_le (hole K) 64) (fits_stack K) (h l))), tt), tt) in
    subst (Good (ExprRule 0 base) n) (sym f.3) g
good_state n base (WantClose K) toks f a h =
    let g = plug n base K f.0 f.3 (λ i. and_right (nat_le (hole K) 64) (fits_stack K) (h i)) VoidExpr (node_word (hole K) word.Void f.1 ∷ sign_at sign.OpenRound f.2 ∷ [])
    (sign_at sign.CloseRound nowhere ∷ []) (void f.1 f.2 nowhere)
    (((λ l. le_true (hole K) 64 (and_left (nat_le (hole K) 64) (fits_stack K) (h l))), tt), (tt, tt)) in
    subst (Good (ExprRule 0 base) n) (sym f.4) g
good_state n base Dead toks f a h = absurd a

-- the state after these tokens
abbrev pub feed : State → List Spot → State
feed S [] = S
feed S (x ∷ xs) = feed (step S x) xs

pub feed_reads : (base : ℕ) (xs : List Spot) (S : State) (toks : List Spot) → HasRead base S toks → HasRead base (feed S xs) (toks ++ xs)
feed_reads base [] S toks h = subst (HasRead base S) (sym (append-nil toks)) h
feed_reads base (x ∷ xs) S toks h = subst (HasRead base (feed (step S x) xs)) (append_assoc toks (x ∷ []) xs) (feed_reads base xs (step S x) (toks ++ x ∷ []) (step_reads base S x toks h))

pub has_read : (base : ℕ) (xs : List Spot) → HasRead base (feed (Want (Top base)) xs) xs
has_read base xs = feed_reads base xs (Want (Top base)) [] (refl, refl)

pub feed_dead : (xs : List Spot) → feed Dead xs ≡ Dead
feed_dead [] = refl
feed_dead (x ∷ xs) = feed_dead xs

pub feed_append : (xs ys : List Spot) (S : State) → feed S (xs ++ ys) ≡ feed (feed S xs) ys
feed_append [] ys S = refl
feed_append (x ∷ xs) ys S = feed_append xs ys (step S x)

pub alive_or_dead : (S : State) → Alive S ⊎ (S ≡ Dead)
alive_or_dead (Want K) = inl tt
alive_or_dead (Have t K) = inl tt
alive_or_dead (WantArgs c K) = inl tt
alive_or_dead (WantName t K) = inl tt
alive_or_dead (WantOpen K) = inl tt
alive_or_dead (WantClose K) = inl tt
alive_or_dead Dead = inr refl

-- what is whole at the bottom
pub whole_derived : (base : ℕ) (xs : List Spot) (t u : ExprTree) (K : Stack) (d n : ℕ) → feed (Want (Top base)) xs ≡ Have t K → closed_stack 0 K ≡ Top d → closed_tree 0 t K ≡ u
    → (5 ≤ n → base + height u ≤ 65) → Derives (ExprRule 0 base) n xs u
whole_derived base xs t u K d n e s v le =
    let h : HaveRead base t K xs = subst (λ S. HasRead base S xs) e (has_read base xs) in
    let c = closed base 0 t K xs (omega arith) h in
    let f : (d ≡ base) × (c.front ≡ []) = subst (λ Q. Front base Q c.front) s c.stack in
    let o = subst (λ w. Own 0 base c.own w) v (c.rule base) in
    record { marked = o.marked; rule = o.rule; is = o.is ∙ sym (c.is ∙ ap (λ z. z ++ c.own) f.1); keeps = o.keeps n le }
