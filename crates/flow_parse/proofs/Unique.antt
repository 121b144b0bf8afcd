-- Tokens have one meaning as a part: the laws.
use Rattle.std.proofs.Common.{◌≡◌, ℕ, suc, ◌+◌, ◌≤◌, ◌<◌, List, [], ◌∷◌, ◌++◌, length, refl, sym, ap, ◌∙◌, subst, arith, append_assoc, length-append, ◌⊎◌, inl, inr}
use Rattle.std.specs.declared.option.Option.{Option}
use Rattle.std.specs.declared.option.Option.TheVariants.{Some}
use Rattle.flow_base.specs.declared.place.Place.{Place}
use Rattle.flow_tree.specs.declared.token.Token.{Token}
use Rattle.flow_tree.specs.declared.token.Token.TheVariants as token
use Rattle.flow_tree.specs.declared.token.Word.TheVariants as word
use Rattle.flow_tree.specs.declared.token.Sign.TheVariants as sign
use Rattle.flow_tree.specs.declared.token.Spot.{Spot}
use Rattle.flow_tree.specs.GrammarToken.{Part, Marked, opens, begin, spots_of}
use Rattle.flow_tree.specs.GrammarStmt.{Counts, begin_statement, StartsAt}
use Rattle.flow_tree.specs.Grammar.{name_at}
use Rattle.flow_exprs.specs.Machine.{ident}
use Rattle.flow_parse.specs.Openers.{AsFirst, WaitToken}
use Rattle.flow_parse.specs.Reading.{Opening, Named, Then, Any}
use Rattle.flow_parse.specs.Parts.{Placed, Marks, Begun}
use Rattle.flow_parse.proofs.Looking.{Looks, first_of, Back}
use Rattle.flow_parse.proofs.Begins.{Starts}
use Rattle.flow_exprs.proofs.Fits.{length_begin}

-- of fewer than k tokens, what is read is one part, however it is read
abbrev pub Uniq : {A : Type 0} → ℕ → (List Marked → A → Type 0) → (A → List Marked → Type 0) → Type 0
Uniq {A} k R F = (w z v u : List Marked) (a b : A) → length w < k → R w a → F a z → R v b → F b u → spots_of (w ++ z) ≡ spots_of (v ++ u) → (a ≡ b) × (length w ≡ length v)

-- where this is the next token
abbrev pub UniqAt : {A : Type 0} → Option Token → ℕ → (List Marked → A → Type 0) → (A → List Marked → Type 0) → Type 0
UniqAt {A} o k R F = (w z v u : List Marked) (a b : A) → length w < k → R w a → F a z → R v b → F b u → spots_of (w ++ z) ≡ spots_of (v ++ u) → Looks o (w ++ z) → Looks o (v ++ u)
    → (a ≡ b) × (length w ≡ length v)

looks_self : (m : List Marked) → Looks (first_of (spots_of m)) m
looks_self [] = tt
looks_self (x ∷ m) = refl

module _ {A : Type 0} (R : List Marked → A → Type 0) (F : A → List Marked → Type 0) (k : ℕ) where
  pub uniq_by : ((o : Option Token) → UniqAt o k R F) → Uniq k R F
  uniq_by f w z v u a b lt r g s h e = f (first_of (spots_of (w ++ z))) w z v u a b lt r g s h e (looks_self (w ++ z)) (subst (λ t. Looks (first_of t) (v ++ u)) (sym e) (looks_self (v ++ u)))

  pub at_nil : (o : Option Token) (c : A) → ((w z : List Marked) (b : A) → R w b → F b z → Looks o (w ++ z) → (b ≡ c) × (w ≡ [])) → UniqAt o k R F
  at_nil o c f w z v u a b lt r g s h e l m =
      let x = f w z a r g l in
      let y = f v u b s h m in
      (x.0 ∙ sym y.0, ap length (x.1 ∙ sym y.1))

  pub at_none : (o : Option Token) → ((w z : List Marked) (b : A) → R w b → F b z → Looks o (w ++ z) → ⊥) → UniqAt o k R F
  at_none o f w z v u a b lt r g s h e l m = absurd (f w z a r g l)

module _ {B C : Type 0} (V : List Marked → B → Type 0) (FV : B → List Marked → Type 0) (U : List Marked → C → Type 0) (FU : C → List Marked → Type 0) (h : C → B) (k : ℕ) where
  pub at_narrow : (o : Option Token) → ((w z : List Marked) (b : B) → V w b → FV b z → Looks o (w ++ z) → Back V FV U FU h w z b) → Uniq k U FU → UniqAt o k V FV
  at_narrow o back f w z v u a b lt r g s i e l m =
      let x = back w z a r g l in
      let y = back v u b s i m in
      let q = f w z v u x.tree y.tree lt x.rule x.follows y.rule y.follows e in
      (x.is ∙ ap h q.0 ∙ sym y.is, q.1)

  pub narrowed : ((w z : List Marked) (b : B) → V w b → FV b z → Back V FV U FU h w z b) → Uniq k U FU → Uniq k V FV
  narrowed back f w z v u a b lt r g s i e =
      let x = back w z a r g in
      let y = back v u b s i in
      let q = f w z v u x.tree y.tree lt x.rule x.follows y.rule y.follows e in
      (x.is ∙ ap h q.0 ∙ sym y.is, q.1)

-- what stands behind parts of one length
rest_spots : (w z v u : List Marked) → length w ≡ length v → spots_of (w ++ z) ≡ spots_of (v ++ u) → spots_of z ≡ spots_of u
rest_spots [] z [] u l e = e
rest_spots [] z (y ∷ v) u l e = absurd (omega (arith, l))
rest_spots (x ∷ w) z [] u l e = absurd (omega (arith, l))
rest_spots (x ∷ w) z (y ∷ v) u l e = rest_spots w z v u (omega (arith, l)) (ap tail_of e)
  where
    tail_of : List Spot → List Spot
    tail_of [] = []
    tail_of (t ∷ ts) = ts

module _ {A B : Type 0} (R : List Marked → A → Type 0) (FR : A → List Marked → Type 0) (S : A → List Marked → B → Type 0) (F : A × B → List Marked → Type 0)
    (fol : (a : A) (b : B) (v z : List Marked) → S a v b → F (a, b) z → FR a (v ++ z)) where
  split : (w z : List Marked) (x : A × B) → (r : Then R S w x) → spots_of (w ++ z) ≡ spots_of (r.first ++ (r.rest ++ z))
  split w z x r = ap spots_of (ap (λ y. y ++ z) r.is ∙ append_assoc r.first r.rest z)

  -- a sequence; the second part is shorter by so many tokens as the first has at least
  pub uniq_then : (k j : ℕ) → Uniq k R FR → ((a : A) → Uniq j (S a) (λ b. F (a, b))) → ((w : List Marked) (a : A) → R w a → k ≤ j + length w) → Uniq k (Then R S) F
  uniq_then k j f g long w z v u x y lt r p s q e =
      let n : length r.first + length r.rest ≡ length w = sym (ap length r.is ∙ length-append r.first r.rest) in
      let e2 : spots_of (r.first ++ (r.rest ++ z)) ≡ spots_of (s.first ++ (s.rest ++ u)) = sym (split w z x r) ∙ e ∙ split v u y s in
      let a = f r.first (r.rest ++ z) s.first (s.rest ++ u) x.0 y.0 (omega (arith, n)) r.front (fol x.0 x.1 r.rest z r.back p) s.front (fol y.0 y.1 s.rest u s.back q) e2 in
      let back : S x.0 s.rest y.1 = subst (λ c. S c s.rest y.1) (sym a.0) s.back in
      let q2 : F (x.0, y.1) u = subst (λ c. F (c, y.1) u) (sym a.0) q in
      let b = g x.0 r.rest z s.rest u x.1 y.1 (omega (arith, n, long r.first x.0 r.front)) r.back p back q2 (rest_spots r.first (r.rest ++ z) s.first (s.rest ++ u) a.1 e2) in (
        same_pair x y a.0 b.0,
        ap length r.is ∙ length-append r.first r.rest ∙ (let i : length r.first + length r.rest ≡ length s.first + length s.rest = omega (arith, a.1, b.1) in i)
            ∙ sym (ap length s.is ∙ length-append s.first s.rest),
      )
    where
      same_pair : (x y : A × B) → x.0 ≡ y.0 → x.1 ≡ y.1 → x ≡ y
      same_pair x y e f = ap (λ c. (c, x.1)) e ∙ ap (λ c. (y.0, c)) f

-- single tokens
first_spot : (x y : Marked) (z u : List Marked) → spots_of (x ∷ z) ≡ spots_of (y ∷ u) → x.spot ≡ y.spot
first_spot x y z u e = ap (head_of x.spot) e
  where
    head_of : Spot → List Spot → Spot
    head_of t [] = t
    head_of t (s ∷ ss) = s

pub uniq_opening : (ps : List Part) (x : Token) (k : ℕ) → Uniq k (Opening ps x) Any
uniq_opening ps x k w z v u a b lt r g s h e =
    let f : spots_of (opens ps x a ∷ z) ≡ spots_of (opens ps x b ∷ u) = sym (ap (λ y. spots_of (y ++ z)) r) ∙ e ∙ ap (λ y. spots_of (y ++ u)) s in
    (ap (λ t. t.at) (first_spot (opens ps x a) (opens ps x b) z u f), ap length (r) ∙ sym (ap length s))

-- tokens that are marked
spots_begin : (p : Part) (w z : List Marked) → spots_of (begin p w ++ z) ≡ spots_of (w ++ z)
spots_begin p [] z = refl
spots_begin p (x ∷ w) z = refl

pub uniq_marks : {A : Type 0} (R : List Marked → A → Type 0) (F : A → List Marked → Type 0) (p : Part) (k : ℕ) → Uniq k R F → Uniq k (Marks p R) F
uniq_marks R F p k f w z v u a b lt r g s h e =
    let i = ap length r.2 ∙ length_begin p r.0 in
    let j = ap length s.2 ∙ length_begin p s.0 in
    let q = f r.0 z s.0 u a b (omega (arith, i)) r.1 g s.1 h (sym (ap (λ y. spots_of (y ++ z)) r.2 ∙ spots_begin p r.0 z) ∙ e ∙ ap (λ y. spots_of (y ++ u)) s.2 ∙ spots_begin p s.0 u) in
    (q.0, i ∙ q.1 ∙ sym j)

spots_begun : (c : Counts) (d : ℕ) (w z : List Marked) → spots_of (begin_statement c d w ++ z) ≡ spots_of (w ++ z)
spots_begun c d [] z = refl
spots_begun c d (x ∷ w) z = refl

length_begun : (c : Counts) (d : ℕ) (w : List Marked) → length (begin_statement c d w) ≡ length w
length_begun c d [] = refl
length_begun c d (x ∷ w) = refl

pub uniq_begun : {A : Type 0} (R : List Marked → A → Type 0) (F : A → List Marked → Type 0) (c : Counts) (d k : ℕ) → Uniq k R F → Uniq k (Begun c d R) F
uniq_begun R F c d k f w z v u a b lt r g s h e =
    let i = ap length r.2 ∙ length_begun c d r.0 in
    let j = ap length s.2 ∙ length_begun c d s.0 in
    let q = f r.0 z s.0 u a b (omega (arith, i)) r.1 g s.1 h (sym (ap (λ y. spots_of (y ++ z)) r.2 ∙ spots_begun c d r.0 z) ∙ e ∙ ap (λ y. spots_of (y ++ u)) s.2 ∙ spots_begun c d s.0 u) in
    (q.0, i ∙ q.1 ∙ sym j)

pub uniq_placed : {A : Type 0} (R : List Marked → A → Type 0) (F : A → List Marked → Type 0) (k : ℕ) → Uniq k R F → Uniq k (Placed R) (λ x. F x.1)
uniq_placed R F k f w z v u a b lt r g s h e =
    let q = f w z v u a.1 b.1 lt r.1 g s.1 h e in
    (ap (λ y. (a.0, y)) q.0 ∙ ap (λ y. (y, b.1)) (one_place w v r.0 s.0 e), q.1)
  where
    one_place : (w v : List Marked) → StartsAt w a.0 → StartsAt v b.0 → spots_of (w ++ z) ≡ spots_of (v ++ u) → a.0 ≡ b.0
    one_place [] v x y e = absurd x
    one_place (m ∷ w) [] x y e = absurd y
    one_place (m ∷ w) (n ∷ v) x y e = sym x ∙ ap (λ t. t.at) (first_spot m n (w ++ z) (v ++ u) e) ∙ y

-- sequences whose second part is no shorter, or shorter by a token at least
module _ {A B : Type 0} (R : List Marked → A → Type 0) (FR : A → List Marked → Type 0) (S : A → List Marked → B → Type 0) (F : A × B → List Marked → Type 0) (k : ℕ) where
  pub seq : ((a : A) (b : B) (v z : List Marked) → S a v b → F (a, b) z → FR a (v ++ z)) → Uniq k R FR → ((a : A) → Uniq k (S a) (λ b. F (a, b))) → Uniq k (Then R S) F
  seq fol f g = uniq_then R FR S F fol k k f g (λ w a r. omega arith)

  pub seq_less : ((a : A) (b : B) (v z : List Marked) → S a v b → F (a, b) z → FR a (v ++ z)) → Uniq (suc k) R FR → ((a : A) → Uniq k (S a) (λ b. F (a, b))) → (P : Token → Type 0)
      → ((w : List Marked) (a : A) → R w a → Starts P w) → Uniq (suc k) (Then R S) F
  seq_less fol f g P begins = uniq_then R FR S F fol (suc k) k f g (λ w a r. long P w (begins w a r))
    where
      long : (P : Token → Type 0) (w : List Marked) → Starts P w → suc k ≤ k + length w
      long P [] h = absurd h
      long P (x ∷ w) h = omega arith

pub seq_tok : {B : Type 0} (ps : List Part) (x : Token) (S : Place → List Marked → B → Type 0) (F : Place × B → List Marked → Type 0) (k : ℕ) → ((p : Place) → Uniq k (S p) (λ b. F (p, b)))
    → Uniq (suc k) (Then (Opening ps x) S) F
seq_tok ps x S F k g = uniq_then (Opening ps x) Any S F (λ a b v z r f. tt) (suc k) k (uniq_opening ps x (suc k)) g (λ w a r. let e : length w ≡ 1 = ap length r in omega (arith, e))

pub same_tok : {B : Type 0} (ps : List Part) (x : Token) (S : Place → List Marked → B → Type 0) (F : Place × B → List Marked → Type 0) (k : ℕ) → ((p : Place) → Uniq k (S p) (λ b. F (p, b)))
    → Uniq k (Then (Opening ps x) S) F
same_tok ps x S F k g = uniq_then (Opening ps x) Any S F (λ a b v z r f. tt) k k (uniq_opening ps x k) g (λ w a r. omega arith)

-- a name, with or without parts that begin with it
pub uniq_name : (k : ℕ) → Uniq k Named Any
uniq_name k w z v u a b lt r g s h e =
    let f = first_spot (name_at a) (name_at b) z u (sym (ap (λ y. spots_of (y ++ z)) r) ∙ e ∙ ap (λ y. spots_of (y ++ u)) s) in
    (ap ident f, ap length r ∙ sym (ap length s))

-- whether this is the next token
pub at_close : (o : Option Token) → (o ≡ Some (token.Sign sign.CloseRound)) ⊎ (o ≡ Some (token.Sign sign.CloseRound) → ⊥)
at_close (Some (token.Sign sign.CloseRound)) = inl refl
at_close _ = inr (λ e. cc)

pub at_open : (o : Option Token) → (o ≡ Some (token.Sign sign.OpenRound)) ⊎ (o ≡ Some (token.Sign sign.OpenRound) → ⊥)
at_open (Some (token.Sign sign.OpenRound)) = inl refl
at_open _ = inr (λ e. cc)

pub at_comma : (o : Option Token) → (o ≡ Some (token.Sign sign.Comma)) ⊎ (o ≡ Some (token.Sign sign.Comma) → ⊥)
at_comma (Some (token.Sign sign.Comma)) = inl refl
at_comma _ = inr (λ e. cc)

pub at_assign : (o : Option Token) → (o ≡ Some (token.Sign sign.Assign)) ⊎ (o ≡ Some (token.Sign sign.Assign) → ⊥)
at_assign (Some (token.Sign sign.Assign)) = inl refl
at_assign _ = inr (λ e. cc)

pub at_dot : (o : Option Token) → (o ≡ Some (token.Sign sign.Dot)) ⊎ (o ≡ Some (token.Sign sign.Dot) → ⊥)
at_dot (Some (token.Sign sign.Dot)) = inl refl
at_dot _ = inr (λ e. cc)

pub at_semicolon : (o : Option Token) → (o ≡ Some (token.Sign sign.Semicolon)) ⊎ (o ≡ Some (token.Sign sign.Semicolon) → ⊥)
at_semicolon (Some (token.Sign sign.Semicolon)) = inl refl
at_semicolon _ = inr (λ e. cc)

pub at_open_curly : (o : Option Token) → (o ≡ Some (token.Sign sign.OpenCurly)) ⊎ (o ≡ Some (token.Sign sign.OpenCurly) → ⊥)
at_open_curly (Some (token.Sign sign.OpenCurly)) = inl refl
at_open_curly _ = inr (λ e. cc)

pub at_close_curly : (o : Option Token) → (o ≡ Some (token.Sign sign.CloseCurly)) ⊎ (o ≡ Some (token.Sign sign.CloseCurly) → ⊥)
at_close_curly (Some (token.Sign sign.CloseCurly)) = inl refl
at_close_curly _ = inr (λ e. cc)

pub at_state : (o : Option Token) → (o ≡ Some (token.Word word.State)) ⊎ (o ≡ Some (token.Word word.State) → ⊥)
at_state (Some (token.Word word.State)) = inl refl
at_state _ = inr (λ e. cc)

pub at_else : (o : Option Token) → (o ≡ Some (token.Word word.Else)) ⊎ (o ≡ Some (token.Word word.Else) → ⊥)
at_else (Some (token.Word word.Else)) = inl refl
at_else _ = inr (λ e. cc)

pub at_struct : (o : Option Token) → (o ≡ Some (token.Word word.Struct)) ⊎ (o ≡ Some (token.Word word.Struct) → ⊥)
at_struct (Some (token.Word word.Struct)) = inl refl
at_struct _ = inr (λ e. cc)

pub at_no_result : (o : Option Token) → (o ≡ Some (token.Word word.NoResult)) ⊎ (o ≡ Some (token.Word word.NoResult) → ⊥)
at_no_result (Some (token.Word word.NoResult)) = inl refl
at_no_result _ = inr (λ e. cc)

pub at_actor : (o : Option Token) → (o ≡ Some (token.Word word.Actor)) ⊎ (o ≡ Some (token.Word word.Actor) → ⊥)
at_actor (Some (token.Word word.Actor)) = inl refl
at_actor _ = inr (λ e. cc)

pub at_wait : (o : Option Token) → AsFirst WaitToken o ⊎ (AsFirst WaitToken o → ⊥)
at_wait (Some (token.Word word.Wait)) = inl tt
at_wait (Some (token.Word word.WaitNext)) = inl tt
at_wait _ = inr (λ h. h)

pub at_name : (o : Option Token) → ((m : List ℕ) × (o ≡ Some (token.Name m))) ⊎ ((m : List ℕ) → o ≡ Some (token.Name m) → ⊥)
at_name (Some (token.Name m)) = inl (m, refl)
at_name _ = inr (λ m e. cc)
