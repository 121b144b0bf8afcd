-- The values of the code, seen as plain data.
use Rattle.std.specs.Prelude.{ℕ, List, map}
use Rattle.flow_base.specs.declared.ids.CellId.{CellId}
use Rattle.flow_value.specs.declared.value.Kind.{Kind}
use Rattle.flow_value.specs.declared.value.Value.{Value}
use Rattle.flow_value.specs.declared.value.Value.TheOpen.{Value-F, Int, Bool, Text, Void, Error, Struct, List as Listed, Ref}
use Rattle.flow_value.specs.declared.value.Value.TheFolds.{fold-Value}
use Rattle.flow_value.specs.declared.value.Outcome.{Outcome}
use Rattle.flow_value.specs.declared.value.Outcome.TheVariants as outcome
use Rattle.flow_value.specs.Values.{ValueTree, ValueTrees, IntValue, BoolValue, TextValue, VoidValue, ErrorValue, CompositeValue, RefValue, RecordWhole, ListWhole, OutcomeTree, GoodOutcome, BadOutcome, values_of_list}

-- one layer of a value, with the mirrors of its parts in their places
abbrev pub value_step : Value-F ValueTree → ValueTree
value_step (Int n) = IntValue n
value_step (Bool b) = BoolValue b
value_step (Text t) = TextValue t.value
value_step Void = VoidValue
value_step (Error e) = ErrorValue e.0
value_step (Struct r) = CompositeValue (RecordWhole r.value.id) (values_of_list r.value.fields.items)
value_step (Listed l) = CompositeValue ListWhole (values_of_list l.value.items)
value_step (Ref k c) = RefValue k c.0

abbrev pub value_of : Value → ValueTree
value_of = fold-Value ValueTree value_step

abbrev pub values_of : List Value → ValueTrees
values_of vs = values_of_list (map value_of vs)

abbrev pub outcome_of : Outcome → OutcomeTree
outcome_of (outcome.Value v) = GoodOutcome (value_of v)
outcome_of (outcome.Error e) = BadOutcome e.0

-- a reference by its kind and the number of its cell
abbrev pub ref_of : Kind × CellId → Kind × ℕ
ref_of r = (r.0, r.1.0)
