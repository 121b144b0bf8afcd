use Rattle.std.proofs.Common.{◌≡◌, map, drop, Some}
use Rattle.flow_tree.specs.DeclView.{record_of}
use Rattle.flow_value.specs.View.{value_of}
use Rattle.flow_eval.specs.Functions.{read_in}
use Rattle.flow_eval.proofs.locals.read_in.Given as goal

abbrev pub invariant-loop-name : goal.invariant-loop-name
invariant-loop-name l =
    read_in (map record_of l.records) (Some (value_of l.base)) l.path
    ≡ read_in (map record_of l.records) (Some (value_of l.value)) (drop l.name-index l.path)
