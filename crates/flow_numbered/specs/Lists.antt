-- What it is for a list to stand in a slab.
use Rattle.std.specs.Prelude.{◌≡◌, ℕ, nat_eq, false, List, [], ◌∷◌, length}
use Rattle.std.specs.declared.option.Option.{Option}
use Rattle.std.specs.declared.option.Option.TheVariants.{None, Some}
use Rattle.flow_numbered.specs.declared.links.Ends.{Ends}
use Rattle.flow_numbered.specs.Links.{Slots}

module _ {T : Type 0} where
  -- the keys at the two ends of some links with their keys, where these stand between two others
  abbrev pub first_of : List (ℕ × T) → (after : Option ℕ) → Option ℕ
  first_of [] after = after
  first_of (p ∷ ps) after = Some p.0

  abbrev pub last_of : (before : Option ℕ) → List (ℕ × T) → Option ℕ
  last_of before [] = before
  last_of before (p ∷ ps) = last_of (Some p.0) ps

  -- these items stand at these keys, each link naming its neighbours
  abbrev pub IsChain : Slots T → (before : Option ℕ) → List (ℕ × T) → (after : Option ℕ) → Type 0
  IsChain at before [] after = Unit {0}
  IsChain at before (p ∷ ps) after =
      (at p.0 ≡ Some (record { item = p.1; before = before; after = first_of ps after })) × IsChain at (Some p.0) ps after

  -- no link stands at this key; no two stand at the same one
  abbrev pub IsApart : ℕ → List (ℕ × T) → Type 0
  IsApart key [] = Unit {0}
  IsApart key (p ∷ ps) = (nat_eq p.0 key ≡ false) × IsApart key ps

  abbrev pub AreApart : List (ℕ × T) → Type 0
  AreApart [] = Unit {0}
  AreApart (p ∷ ps) = IsApart p.0 ps × AreApart ps

  -- the list with these ends has these items at these keys
  pub record IsList (at : Slots T) (e : Ends) (ps : List (ℕ × T)) : Type 0 where
    pub chain : IsChain at None ps None
    pub apart : AreApart ps
    pub first : e.first ≡ first_of ps None
    pub last : e.last ≡ last_of None ps
    pub length_is : e.length ≡ length ps
