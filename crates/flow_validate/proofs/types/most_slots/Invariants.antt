use Rattle.std.proofs.Common.{◌≡◌, ◌≤◌, ℕ, length, map, take, slice_get}
use Rattle.std.specs.declared.option.Option.TheVariants.{Some}
use Rattle.flow_class.specs.Classes.{ClassTree}
use Rattle.flow_class.specs.View.{class_of}
use Rattle.flow_validate.proofs.types.most_slots.Given as goal

abbrev pub invariant-loop-class : goal.invariant-loop-class
invariant-loop-class l = (i : ℕ) (c : ClassTree) → slice_get (map class_of (take l.class-index l.classes)) i ≡ Some c → length c.slots ≤ l.most
