use Rattle.std.proofs.Common.{◌≡◌, drop, Some}
use Rattle.flow_value.specs.View.{value_of}
use Rattle.flow_code.specs.Resolved.View.{places_in}
use Rattle.flow_steps.specs.Points.{field_path}
use Rattle.flow_steps.proofs.calling.part.Given as goal

abbrev pub invariant-loop-name : goal.invariant-loop-name
invariant-loop-name l =
    field_path (places_in l.fields) (drop l.name-index l.path) (Some (value_of l.part)) ≡ field_path (places_in l.fields) l.path (Some (value_of l.value))
