-- Views in memory, as plain data.
use Rattle.std.specs.Prelude.{ℕ, map}
use Rattle.flow_base.specs.declared.ids.CellId.{CellId}
use Rattle.flow_value.specs.View.{value_of}
use Rattle.flow_debug.specs.declared.view.VarView.{VarView}
use Rattle.flow_debug.specs.declared.view.ActorView.{ActorView}
use Rattle.flow_debug.specs.Seen.{VariableSeen, ActorSeen}

abbrev pub cell_number : CellId → ℕ
cell_number c = c.0

abbrev pub variable_of : VarView → VariableSeen
variable_of v = record { name = v.name; value = value_of v.value }

abbrev pub view_of : ActorView → ActorSeen
view_of v = record {
  process = v.process.0;
  actor = v.actor.0;
  name = v.name;
  group = v.group;
  at = v.at;
  cells = map cell_number v.cells.items;
  variables = map variable_of v.vars.items;
}
