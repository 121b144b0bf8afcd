-- The fields of record values.
use Rattle.std.specs.Prelude.{ℕ, zero, suc, List, [], ◌∷◌, position, if◌then◌else◌}
use Rattle.std.specs.Option.{option_map}
use Rattle.std.specs.Str.{bytes_eq}
use Rattle.std.specs.declared.option.Option.{Option}
use Rattle.std.specs.declared.option.Option.TheVariants.{None, Some}
use Rattle.flow_tree.specs.Tree.{TypeTree}
use Rattle.flow_tree.specs.Decls.{ParamTree, RecordTree}
use Rattle.flow_ast.specs.Typing.{is_packet, packet_fields}
use Rattle.flow_value.specs.declared.value.RecordId.{RecordId}
use Rattle.flow_value.specs.declared.value.RecordId.TheVariants.{Packet, Declared}
use Rattle.flow_value.specs.Values.{ValueTree, CompositeValue, Whole, RecordWhole, ListWhole, at_place}
use Rattle.flow_eval.specs.Answers.{Answer, Given, NoMeaning}

-- the record of a name, the predefined one first
abbrev pub record_id : List RecordTree → List ℕ → Option RecordId
record_id rs x = if is_packet x then Some Packet else option_map Declared (position (λ (r : RecordTree). bytes_eq r.name.name x) rs)

-- the place of a field in its record
abbrev pub place_in : List RecordTree → ℕ → List ℕ → Option ℕ
place_in [] k x = None
place_in (r ∷ rs) zero x = position (λ (p : ParamTree). bytes_eq p.name.name x) r.fields
place_in (r ∷ rs) (suc k) x = place_in rs k x

-- the place of a part in a whole by its name: fields alone have names
abbrev pub field_place : List RecordTree → Whole → List ℕ → Option ℕ
field_place rs (RecordWhole Packet) x = position (λ (f : List ℕ × TypeTree). bytes_eq f.0 x) packet_fields
field_place rs (RecordWhole (Declared k)) x = place_in rs k x
field_place rs ListWhole x = None

-- a field of a value that has parts
abbrev pub field : List RecordTree → ValueTree → List ℕ → Option ValueTree
field rs (CompositeValue w vs) x = at_place vs (field_place rs w x)
field rs _ x = None

abbrev pub field_answer : Option ValueTree → Answer
field_answer None = NoMeaning
field_answer (Some v) = Given v
