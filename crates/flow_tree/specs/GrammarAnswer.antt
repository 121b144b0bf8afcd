-- What a reader of types or expressions answers, by the grammar.
use Rattle.std.specs.Prelude.{◌≡◌, ℕ, suc, ◌+◌, ◌-◌, ◌≤◌, ◌<◌, List, take, drop, length, slice_get, unwrap_or, Result, Ok, Err}
use Rattle.std.specs.Option.{option_map}
use Rattle.flow_base.specs.declared.place.Place.{Place}
use Rattle.flow_tree.specs.declared.token.Spot.{Spot}
use Rattle.flow_tree.specs.declared.token.Tokens.{Tokens}
use Rattle.flow_tree.specs.declared.fault.Rule.TheVariants.{S, L, K}
use Rattle.flow_tree.specs.declared.fault.SourceFault.{SourceFault}
use Rattle.flow_tree.specs.declared.fault.SourceFault.TheVariants.{Refused, AcrossWait, OutOfMemory}
use Rattle.flow_tree.specs.GrammarToken.{Marked, Derives, Good}

-- the place of the token of this number, or of the end
abbrev pub place_at : Tokens → ℕ → Place
place_at t k = unwrap_or (option_map (λ s. s.at) (slice_get t.spots.items k)) t.end

-- the first n of these tokens are read: something begins with them, and nothing with one more; what
-- has begun of it keeps the limit of depth
pub record ReadsAll {A : Type 0} (R : List Marked → A → Type 0) (tokens : List Spot) (n : ℕ) : Type 0 where
  pub within : n ≤ length tokens
  pub good : Good R 5 (take n tokens)
  pub most : n < length tokens → Good R 2 (take (suc n) tokens) → ⊥

-- the token of this number is read, and it is the first with which the limit of depth can't be kept
pub record TooDeep {A : Type 0} (R : List Marked → A → Type 0) (tokens : List Spot) (k : ℕ) : Type 0 where
  pub within : k < length tokens
  pub read : Good R 2 (take (suc k) tokens)
  pub before : Good R 5 (take k tokens)
  pub deep : Good R 5 (take (suc k) tokens) → ⊥

-- the tokens read are derived as this tree
pub record IsRead {A : Type 0} (R : List Marked → A → Type 0) (t : Tokens) (from : ℕ) (tree : A) (to : ℕ) : Type 0 where
  pub after : from ≤ to
  pub reads : ReadsAll R (drop from t.spots.items) (to - from)
  pub derived : Derives R 5 (take (to - from) (drop from t.spots.items)) tree

-- the tokens read are derived as nothing, and this is the place after them
pub record IsMissing {A : Type 0} (R : List Marked → A → Type 0) (t : Tokens) (from : ℕ) (at : Place) : Type 0 where
  pub count : ℕ
  pub reads : ReadsAll R (drop from t.spots.items) count
  pub nothing : (tree : A) → Derives R 2 (take count (drop from t.spots.items)) tree → ⊥
  pub place : at ≡ place_at t (from + count)

-- this is the place of the token that is too deep
pub record IsTooDeep {A : Type 0} (R : List Marked → A → Type 0) (t : Tokens) (from : ℕ) (at : Place) : Type 0 where
  pub number : ℕ
  pub deep : TooDeep R (drop from t.spots.items) number
  pub place : at ≡ place_at t (from + number)

-- what is answered for the tokens from this one on: a tree and the number of the token after it, S5,
-- L5, or want of memory
abbrev pub ReaderAnswer : {A X : Type 0} → (List Marked → A → Type 0) → (X → A) → Tokens → ℕ → Result (X × ℕ) SourceFault → Type 0
ReaderAnswer R view t from (Ok x) = IsRead R t from (view x.0) x.1
ReaderAnswer R view t from (Err (Refused (S n) at)) = (n ≡ 5) × IsMissing R t from at
ReaderAnswer R view t from (Err (Refused (L n) at)) = (n ≡ 5) × IsTooDeep R t from at
ReaderAnswer R view t from (Err (Refused (K n) at)) = ⊥
ReaderAnswer R view t from (Err (AcrossWait at declared wait)) = ⊥
ReaderAnswer R view t from (Err OutOfMemory) = Unit {0}
