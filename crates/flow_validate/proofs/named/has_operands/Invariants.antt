use Rattle.std.proofs.Common.{◌≡◌, drop, map}
use Rattle.std.specs.List.{list_all}
use Rattle.flow_class.specs.View.{class_of, callback_of}
use Rattle.flow_valid.specs.Named.{has_operand}
use Rattle.flow_validate.proofs.named.has_operands.Given as goal

abbrev pub invariant-loop-callback : goal.invariant-loop-callback
invariant-loop-callback l =
    list_all (has_operand (class_of l.class)) (map callback_of (drop l.callback-index l.callbacks)) ≡ list_all (has_operand (class_of l.class)) (map callback_of l.callbacks)
