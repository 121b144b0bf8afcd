-- What records hold, by their numbers.
use Rattle.std.specs.Prelude.{◌≡◌, ℕ, Bool, List, map}
use Rattle.std.specs.declared.option.Option.TheVariants.{Some}
use denote.Ref.{Bor}
use Rattle.indexmap.specs.IndexMap.{IndexMap}
use Rattle.flow_types.specs.declared.callee.Meaning as meant
use Rattle.flow_rules.specs.Known.{meaning_holds}
use Rattle.flow_types.specs.View.{meaning_of}
use Rattle.flow_types.specs.MapView.{numbered}

-- whether an entry is a record that holds a reference, where those with these numbers do
abbrev pub row_holds : {S : Type 0} → IndexMap (Bor (List ℕ)) meant.Meaning S → (ℕ → Bool) → Bor (List ℕ) × meant.Meaning → Bool
row_holds m g e = meaning_holds (numbered m g) (Some (meaning_of e.1))
