use Rattle.std.proofs.Common.{◌≡◌, drop, map}
use Rattle.std.specs.List.{list_all}
use Rattle.flow_class.specs.View.{class_of, group_of}
use Rattle.flow_valid.specs.Named.{has_operand}
use Rattle.flow_validate.proofs.named.has_groups.Given as goal

abbrev pub invariant-loop-group : goal.invariant-loop-group
invariant-loop-group l =
    list_all (list_all (has_operand (class_of l.class))) (map group_of (drop l.group-index l.groups))
    ≡ list_all (list_all (has_operand (class_of l.class))) (map group_of l.groups)
