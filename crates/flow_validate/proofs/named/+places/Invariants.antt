use Rattle.std.proofs.Common.{◌≡◌, drop}
use Rattle.std.specs.List.{list_all}
use Rattle.flow_tree.specs.View.{exprs_of}
use Rattle.flow_class.specs.View.{class_of}
use Rattle.flow_valid.specs.Named.{exprs_places, has_place}
use Rattle.flow_validate.proofs.named.+places.Given as goal

abbrev pub invariant-has_all_in_args-loop-arg : goal.invariant-has_all_in_args-loop-arg
invariant-has_all_in_args-loop-arg l =
    list_all (has_place (class_of l.class)) (exprs_places (exprs_of (drop l.arg-index l.args)))
    ≡ list_all (has_place (class_of l.class)) (exprs_places (exprs_of l.args))
