-- How great the classes are that the code judges: numbers of places are below 2^32.
use Rattle.std.specs.Prelude.{◌≡◌, ℕ, ◌<◌, ◌^◌, List, length, slice_get}
use Rattle.std.specs.declared.option.Option.TheVariants.{Some}
use Rattle.flow_class.specs.Classes.{ClassTree}

pub record HasFewPlaces (c : ClassTree) : Type 0 where
  pub slots : length c.slots < 2 ^ 32
  pub locals : length c.locals < 2 ^ 32

abbrev pub AreFew : List ClassTree → Type 0
AreFew cs = (i : ℕ) (c : ClassTree) → slice_get cs i ≡ Some c → HasFewPlaces c
