-- The resolved expressions of the code, and what they see, as plain data.
use Rattle.std.specs.Prelude.{◌≡◌, ℕ, zero, suc, nat_eq, nat_lt, List, [], ◌∷◌, map, position, slice_index_or, if◌then◌else◌}
use Rattle.std.specs.Option.{option_map}
use Rattle.std.specs.declared.option.Option.{Option}
use Rattle.std.specs.declared.option.Option.TheVariants.{None, Some}
use Rattle.std.specs.declared.alloc.Global.{Global}
use Rattle.std.specs.declared.vec.Vec.{Vec}
use Rattle.flow_tree.specs.declared.limits.TheConstants.{CALL_DEPTH}
use Rattle.flow_value.specs.declared.value.Value.{Value}
use Rattle.flow_value.specs.declared.value.RecordId.TheVariants.{Packet, Declared}
use Rattle.flow_value.specs.Values.{ValueTree, OutcomeTree, Whole, RecordWhole, ListWhole}
use Rattle.flow_value.specs.View.{value_of}
use Rattle.flow_eval.specs.View.{setting_of}
use Rattle.flow_eval.specs.Functions.{run_function}
use Rattle.flow_code.specs.declared.expr.expr.Resolved.{Resolved}
use Rattle.flow_code.specs.declared.expr.expr.Resolved.TheOpen.{Resolved-F, Int, Text, Bool, VoidValue, EmptyList, Place, Call, Record, Function, Unknown, Field, Method, Index, Not, Neg, Binary, Nothing}
use Rattle.flow_code.specs.declared.expr.expr.Resolved.TheFolds.{fold-Resolved}
use Rattle.flow_code.specs.declared.expr.names.FieldNames.{FieldNames}
use Rattle.flow_code.specs.declared.expr.evaluate.ActorView as code
use Rattle.flow_code.specs.Resolved.Tree.{Node, Nodes, IntNode, TextNode, BoolNode, VoidNode, EmptyNode, PlaceNode, CallNode, RecordNode, FunctionNode, UnknownNode, FieldNode, MethodNode, NotNode, NegNode, BinaryNode, NothingNode, indexed_node, nodes_of_list}
use Rattle.flow_code.specs.Resolved.Evaluation.{ActorViewTree}

-- one layer of an expression, with the mirrors of its parts in their places; an index is a method
abbrev pub node_step : Resolved-F Node → Node
node_step (Int n) = IntNode n
node_step (Text t) = TextNode t
node_step (Bool b) = BoolNode b
node_step VoidValue = VoidNode
node_step EmptyList = EmptyNode
node_step (Place n) = PlaceNode n
node_step (Call p xs) = CallNode p (nodes_of_list xs.items)
node_step (Record r xs) = RecordNode r (nodes_of_list xs.items)
node_step (Function k xs) = FunctionNode k (nodes_of_list xs.items)
node_step (Unknown xs) = UnknownNode (nodes_of_list xs.items)
node_step (Field e f) = FieldNode e.value f
node_step (Method e m xs) = MethodNode e.value m (nodes_of_list xs.items)
node_step (Index e i) = indexed_node e.value i.value
node_step (Not e) = NotNode e.value
node_step (Neg e) = NegNode e.value
node_step (Binary op a b) = BinaryNode op a.value b.value
node_step Nothing = NothingNode

abbrev pub node_of : Resolved → Node
node_of = fold-Resolved Node node_step

abbrev pub nodes_of : List Resolved → Nodes
nodes_of es = nodes_of_list (map node_of es)

-- the place of a field in a record by the number of its name; those of a packet are 0, 1 and 2; elements have no names
abbrev pub place_in : List (Vec ℕ Global) → ℕ → ℕ → Option ℕ
place_in [] k f = None
place_in (fs ∷ rs) zero f = position (λ n. nat_eq n f) fs.items
place_in (fs ∷ rs) (suc k) f = place_in rs k f

abbrev pub places_in : FieldNames → Whole → ℕ → Option ℕ
places_in names (RecordWhole Packet) f = if nat_lt f 3 then Some f else None
places_in names (RecordWhole (Declared k)) f = place_in names.records.items k f
places_in names ListWhole f = None

-- what the places of a frame hold
abbrev pub held_in : List (Option Value) → ℕ → Option ValueTree
held_in places n = option_map value_of (slice_index_or places n None)

abbrev pub actor_view_of : {C : Type 0} → (C → ℕ → Option OutcomeTree) → code.ActorView C → ActorViewTree
actor_view_of content s = record {
  setting = setting_of content s.setting;
  run = run_function (setting_of content s.setting) CALL_DEPTH;
  places = places_in s.fields.now;
  held = held_in s.places.now;
}
