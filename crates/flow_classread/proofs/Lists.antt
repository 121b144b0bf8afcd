-- Things one after another.
use Rattle.std.proofs.Common.{◌≡◌, ℕ, suc, ◌≤◌, List, [], ◌∷◌, ◌++◌, map, length, refl, sym, ap, ◌∙◌, subst}
use Rattle.std.proofs.lemmas.List.{append-nil}
use Rattle.std.specs.declared.option.Option.{Option}
use Rattle.std.specs.declared.option.Option.TheVariants.{None, Some}
use Rattle.flow_tree.specs.declared.limits.TheConstants.{OF_CLASS_TEXT}
use Rattle.flow_tree.specs.declared.fault.SourceFault.{SourceFault}
use Rattle.flow_tree.specs.declared.token.Token.{Token}
use Rattle.flow_tree.specs.declared.token.Spot.{Spot}
use Rattle.flow_tree.specs.declared.token.Tokens.{Tokens}
use Rattle.flow_tree.specs.GrammarToken.{Marked}
use Rattle.flow_parse.specs.Reading.{token_at, Any, Reads}
use Rattle.flow_parse.specs.Failing.{Fails}
use Rattle.flow_parse.specs.Follow.{NotBefore}
use Rattle.flow_parse.specs.Openers.{AsFirst}
use Rattle.flow_parse.proofs.Looking.{Looks, Back}
use Rattle.flow_parse.proofs.Begins.{Starts, starts_append, starts_looks}
use Rattle.flow_parse.proofs.Leaves.{Leaves, Link, Turns, free, narrow, then_reads, done, means, empty, first_fails}
use Rattle.flow_classread.specs.Parts.{Both, NotFirst}

-- what the next token is
pub first_is : (P : Token → Type 0) (o : Option Token) (x : Token) → o ≡ Some x → P x → AsFirst P o
first_is P o x e h = subst (AsFirst P) (sym e) h

pub is_first : (o : Option Token) (x : Token) → AsFirst (λ t. t ≡ x) o → o ≡ Some x
is_first None x h = absurd h
is_first (Some t) x h = ap Some h

looks_not : {A : Type 0} (P : Token → Type 0) (a : A) (o : Option Token) (z : List Marked) → AsFirst P o → Looks o z → NotFirst P a z → ⊥
looks_not P a None z h l f = h
looks_not P a (Some t) [] h l f = l
looks_not P a (Some t) (x ∷ z) h l f = f (subst P (sym l) h)

pub not_same : {A B : Type 0} (P : Token → Type 0) (a : A) (b : B) (z : List Marked) → NotFirst P a z → NotFirst P b z
not_same P a b [] f = tt
not_same P a b (x ∷ z) f = f

pub not_before : {A B : Type 0} (x : Token) (a : A) (b : B) (z : List Marked) → NotBefore x a z → NotFirst (λ t. t ≡ x) b z
not_before x a b [] f = tt
not_before x a b (y ∷ z) f = f

pub not_first : {A B : Type 0} (x : Token) (a : A) (b : B) (z : List Marked) → NotFirst (λ t. t ≡ x) a z → NotBefore x b z
not_first x a b [] f = tt
not_first x a b (y ∷ z) f = f

pub starts_not : {A : Type 0} (P Q : Token → Type 0) (a : A) (w z : List Marked) → ((t : Token) → Q t → P t → ⊥) → Starts Q w → NotFirst P a (w ++ z)
starts_not P Q a [] z f h = absurd h
starts_not P Q a (x ∷ w) z f h = λ p. f x.spot.token h p

-- what was read, put before what follows
pub push : {X A : Type 0} (view : X → A) (xs : List X) (x : X) (ys : List A) → map view xs ++ (view x ∷ ys) ≡ map view (xs ++ x ∷ []) ++ ys
push view [] x ys = refl
push view (y ∷ xs) x ys = ap (λ z. view y ∷ z) (push view xs x ys)

pub pushed : {X A : Type 0} (view : X → A) (xs zs : List X) (x : X) (ys : List A) → zs ≡ xs ++ x ∷ [] → map view xs ++ (view x ∷ ys) ≡ map view zs ++ ys
pushed view xs zs x ys e = push view xs x ys ∙ ap (λ z. map view z ++ ys) (sym e)

-- no thing is left, or a first one and others
pub data Cut {A : Type 0} (rule : ℕ → List Marked → A → Type 0) (L : ℕ → List Marked → List A → Type 0) (n : ℕ) (w : List Marked) (l : List A) : Type 0 where
  no_more : w ≡ [] → l ≡ [] → Cut rule L n w l
  one_more : (x : A) (xs : List A) (first rest : List Marked) → rule n first x → L (suc n) rest xs → w ≡ first ++ rest → l ≡ x ∷ xs → Cut rule L n w l

module _ {A : Type 0} (rule : ℕ → List Marked → A → Type 0) (L : ℕ → List Marked → List A → Type 0) (P : Token → Type 0) (nil : (n : ℕ) → L n [] [])
    (cons : (n : ℕ) (x : A) (xs : List A) (first rest : List Marked) → rule n first x → L (suc n) rest xs → L n (first ++ rest) (x ∷ xs))
    (cut : (n : ℕ) (w : List Marked) (l : List A) → L n w l → Cut rule L n w l) (starts : (n : ℕ) (w : List Marked) (x : A) → rule n w x → Starts P w) where
  more_turns : (n : ℕ) (o : Option Token) → AsFirst P o → Turns (L n) (NotFirst P) (Both (rule n) (L (suc n))) (λ x. NotFirst P x.1) (λ x. x.0 ∷ x.1) o
  more_turns n o h = record { back = λ w z b r f l. of w z b f l (cut n w b r); forth = λ w c r. subst (λ k. L n k (c.0 ∷ c.1)) (sym r.is) (cons n c.0 c.1 r.first r.rest r.front r.back) }
    where
      of : (w z : List Marked) (b : List A) → NotFirst P b z → Looks o (w ++ z) → Cut rule L n w b → Back (L n) (NotFirst P) (Both (rule n) (L (suc n))) (λ x. NotFirst P x.1) (λ x. x.0 ∷ x.1) w z b
      of w z b f l (no_more e g) = absurd (looks_not P b o z h (subst (λ k. Looks o (k ++ z)) e l) f)
      of w z b f l (one_more x xs first rest r s e g) = record { tree = (x, xs); rule = record { first = first; rest = rest; is = e; front = r; back = s }; is = g; follows = not_same P b xs z f }

  end_reads : (spots : List Spot) (n at : ℕ) → at ≤ length spots → (AsFirst P (token_at spots at) → ⊥) → Reads OF_CLASS_TEXT (L n) (NotFirst P) spots at [] at
  end_reads spots n at h f = empty OF_CLASS_TEXT spots (L n) (NotFirst P) at [] (token_at spots at) h refl (nil n) (λ w z b r g l. of w z b l (cut n w b r))
    where
      of : (w z : List Marked) (b : List A) → Looks (token_at spots at) (w ++ z) → Cut rule L n w b → (b ≡ []) × (w ≡ [])
      of w z b l (no_more e g) = (g, e)
      of w z b l (one_more x xs first rest r s e g) =
          absurd (f (starts_looks P w z (token_at spots at) (subst (Starts P) (sym e) (starts_append P first rest (starts n first x r))) l))

  link : (n : ℕ) → Link (rule n) Any (λ x. L (suc n)) (λ x. NotFirst P x.1)
  link n = free (λ x. record { marked = []; tree = []; rule = nil (suc n) })

  module _ {B : Type 0} {W : List Marked → B → Type 0} {FW : B → List Marked → Type 0} {g : List A → B} (t : Tokens) (n : ℕ) {from at : ℕ} (l : Leaves OF_CLASS_TEXT W FW (L n) (NotFirst P) g t.spots.items from at) where
    more_left : AsFirst P (token_at t.spots.items at) → Leaves OF_CLASS_TEXT W FW (Both (rule n) (L (suc n))) (λ x. NotFirst P x.1) (λ x. g (x.0 ∷ x.1)) t.spots.items from at
    more_left h = narrow OF_CLASS_TEXT t.spots.items refl (more_turns n (token_at t.spots.items at) h) l

    pub each_fails : AsFirst P (token_at t.spots.items at) → (e : SourceFault) → Fails OF_CLASS_TEXT (rule n) Any t at e → Fails OF_CLASS_TEXT W FW t from e
    each_fails h e a = first_fails OF_CLASS_TEXT t (link n) (more_left h) e a

    pub each_reads : AsFirst P (token_at t.spots.items at) → {x : A} {to : ℕ} → Reads OF_CLASS_TEXT (rule n) Any t.spots.items at x to
        → Leaves OF_CLASS_TEXT W FW (L (suc n)) (NotFirst P) (λ xs. g (x ∷ xs)) t.spots.items from to
    each_reads h r = then_reads OF_CLASS_TEXT t.spots.items (link n) (more_left h) r

    pub each_done : (AsFirst P (token_at t.spots.items at) → ⊥) → Reads OF_CLASS_TEXT W FW t.spots.items from (g []) at
    each_done f = done OF_CLASS_TEXT t.spots.items l (end_reads t.spots.items n at l.within f)

    -- the list is ended, and what follows is left
    pub each_ended : (AsFirst P (token_at t.spots.items at) → ⊥) → Reads OF_CLASS_TEXT (L n) (NotFirst P) t.spots.items at [] at
    each_ended f = end_reads t.spots.items n at l.within f

  -- what a loop has read, put before what follows
  module _ {X : Type 0} {W : List Marked → List A → Type 0} {FW : List A → List Marked → Type 0} (view : X → A) (t : Tokens) (n : ℕ) (xs : List X) {from at : ℕ}
      (l : Leaves OF_CLASS_TEXT W FW (L n) (NotFirst P) (λ ys. map view xs ++ ys) t.spots.items from at) where
    pub each_step : (m to : ℕ) (zs : List X) (x : X) → AsFirst P (token_at t.spots.items at) → m ≡ suc n → zs ≡ xs ++ x ∷ [] → Reads OF_CLASS_TEXT (rule n) Any t.spots.items at (view x) to
        → Leaves OF_CLASS_TEXT W FW (L m) (NotFirst P) (λ ys. map view zs ++ ys) t.spots.items from to
    each_step m to zs x h e q r = subst (λ i. Leaves OF_CLASS_TEXT W FW (L i) (NotFirst P) (λ ys. map view zs ++ ys) t.spots.items from to) (sym e)
        (means OF_CLASS_TEXT t.spots.items (λ ys. map view zs ++ ys) (λ ys. pushed view xs zs x ys q) (each_reads t n l h r))

    pub each_end : (AsFirst P (token_at t.spots.items at) → ⊥) → Reads OF_CLASS_TEXT W FW t.spots.items from (map view xs) at
    each_end f = subst (λ z. Reads OF_CLASS_TEXT W FW t.spots.items from z at) (append-nil (map view xs)) (each_done t n l f)
