use Rattle.std.proofs.Common.{◌≡◌, drop, map}
use Rattle.std.specs.List.{list_all}
use Rattle.flow_class.specs.View.{class_of}
use Rattle.flow_class.specs.declared.class.Slotted.TheVariants.{Local}
use Rattle.flow_valid.specs.Named.{has_place}
use Rattle.flow_validate.proofs.named.has_locals.Given as goal

abbrev pub invariant-loop-number : goal.invariant-loop-number
invariant-loop-number l =
    list_all (has_place (class_of l.class)) (map Local (drop l.number-index l.numbers)) ≡ list_all (has_place (class_of l.class)) (map Local l.numbers)
