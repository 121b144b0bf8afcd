-- Where tokens can't be a part, and what a reader of the part answers there. A part is a relation
-- between the tokens that it consists of, each with what begins at it, and what they mean; beside it
-- stands what may follow it.
use Rattle.std.specs.Prelude.{◌≡◌, ℕ, zero, suc, ◌+◌, ◌≤◌, ◌<◌, List, [], ◌∷◌, ◌++◌, take, drop, length}
use Rattle.flow_tree.specs.declared.limits.Limits.{Limits}
use Rattle.flow_base.specs.declared.place.Place.{Place}
use Rattle.flow_tree.specs.declared.token.Spot.{Spot}
use Rattle.flow_tree.specs.declared.token.Tokens.{Tokens}
use Rattle.flow_tree.specs.declared.fault.Rule.TheVariants.{S, L, K}
use Rattle.flow_tree.specs.declared.fault.SourceFault.{SourceFault}
use Rattle.flow_tree.specs.declared.fault.SourceFault.TheVariants.{Refused, AcrossWait, OutOfMemory}
use Rattle.flow_tree.specs.GrammarToken.{Marked, AllInLimitsOf, GoodOf}
use Rattle.flow_tree.specs.GrammarAnswer.{place_at}

-- the first j of these tokens, the end counting as one, are those of a marked list, and what begins
-- with them keeps the limits L3 to Ln
abbrev pub Sees : Limits → ℕ → ℕ → List Spot → List Marked → Type 0
Sees limits n zero ts m = Unit {0}
Sees limits n (suc j) [] [] = Unit {0}
Sees limits n (suc j) [] (x ∷ m) = ⊥
Sees limits n (suc j) (t ∷ ts) [] = ⊥
Sees limits n (suc j) (t ∷ ts) (x ∷ m) = (x.spot ≡ t) × AllInLimitsOf limits n x.parts × Sees limits n j ts m

-- nothing that the part derives begins with these tokens, whatever follows that may
abbrev pub Never : Limits → {A : Type 0} → (List Marked → A → Type 0) → (A → List Marked → Type 0) → ℕ → ℕ → List Spot
    → Type 0
Never limits R F n j ts = (w z : List Marked) (b : _) → R w b → F b z → Sees limits n j ts (w ++ z) → ⊥

-- whatever the part derives that begins with these tokens and the next is this, of so many tokens
abbrev pub Only : Limits → {A : Type 0} → (List Marked → A → Type 0) → (A → List Marked → Type 0) → A → ℕ → List Spot
    → Type 0
Only limits R F a i ts = (n j : ℕ) (w z : List Marked) (b : _) → R w b → F b z → i < j → Sees limits n j ts (w ++ z)
    → (b ≡ a) × (length w ≡ i)

-- With the token of this number, the end counting as one, these tokens stop to be such a part within
-- Ln, whatever may follow it; with the tokens before it one begins that keeps all limits, and with it
-- one that keeps the limits below Ln. At the end no limit is broken.
pub record Stops (limits : Limits) {A : Type 0} (R : List Marked → A → Type 0) (F : A → List Marked → Type 0)
    (n : ℕ) (ts : List Spot) (k : ℕ) : Type 0 where
  pub within : k ≤ length ts
  pub token : 2 < n → k < length ts
  pub bad : Never limits R F n (suc k) ts
  pub good : GoodOf limits R 7 (take k ts)
  pub below : (m : ℕ) → m < n → 2 < n → GoodOf limits R m (take (suc k) ts)

pub record StopsAt (limits : Limits) {A : Type 0} (R : List Marked → A → Type 0) (F : A → List Marked → Type 0)
    (n : ℕ) (t : Tokens) (from : ℕ) (at : Place) : Type 0 where
  pub number : ℕ
  pub place : at ≡ place_at t (from + number)
  pub stops : Stops limits R F n (drop from t.spots.items) number

-- why a part isn't read
abbrev pub Fails : Limits → {A : Type 0} → (List Marked → A → Type 0) → (A → List Marked → Type 0) → Tokens → ℕ
    → SourceFault → Type 0
Fails limits R F t from (Refused (S n) at) = (n ≡ 5) × StopsAt limits R F 2 t from at
Fails limits R F t from (Refused (L n) at) = (3 ≤ n) × (n ≤ 7) × StopsAt limits R F n t from at
Fails limits R F t from (Refused (K n) at) = ⊥
Fails limits R F t from (AcrossWait at declared wait) = ⊥
Fails limits R F t from OutOfMemory = Unit {0}
