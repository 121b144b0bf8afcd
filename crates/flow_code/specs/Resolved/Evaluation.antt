-- Evaluation of resolved expressions, with turns.
use Rattle.std.specs.Prelude.{ℕ, pos, List, [], ◌∷◌, slice_get}
use Rattle.std.specs.declared.option.Option.{Option}
use Rattle.std.specs.declared.option.Option.TheVariants.{None, Some}
use Rattle.flow_value.specs.Values.{ValueTree, IntValue, BoolValue, TextValue, VoidValue, CompositeValue, NoValues, values_of_list, at_place, Whole, RecordWhole, ListWhole}
use Rattle.flow_eval.specs.Answers.{Answer, Given, NoMeaning}
use Rattle.flow_eval.specs.Operators.{negated, inverted}
use Rattle.flow_eval.specs.Predefined.{call_answer}
use Rattle.flow_eval.specs.Records.{field_answer}
use Rattle.flow_eval.specs.Eval.{Setting, Runner, Res, Done, Meaningless, then, at_once, more_args, found, second, method_called, function_called}
use Rattle.flow_code.specs.Resolved.Tree.{Node, Nodes, IntNode, TextNode, BoolNode, VoidNode, EmptyNode, PlaceNode, CallNode, RecordNode, FunctionNode, UnknownNode, FieldNode, MethodNode, NotNode, NegNode, BinaryNode, NothingNode, NoNodes, MoreNodes}

-- what an expression sees: the setting, what runs a plain function, the place of a field in a record by the number of its
-- name, and what the places of a frame hold
pub record ActorViewTree : Type 0 where
  pub setting : Setting
  pub run : Runner
  pub places : Whole → ℕ → Option ℕ
  pub held : ℕ → Option ValueTree

-- a field of a value that has parts by the number of its name
abbrev pub numbered_field : (Whole → ℕ → Option ℕ) → ValueTree → ℕ → Option ValueTree
numbered_field places (CompositeValue w vs) f = at_place vs (places w f)
numbered_field places _ f = None

abbrev pub field_by : (Whole → ℕ → Option ℕ) → ValueTree → Option ℕ → Option ValueTree
field_by places v None = None
field_by places v (Some f) = numbered_field places v f

module _ (s : ActorViewTree) where
  abbrev mutual
    pub value_at : Node → ℕ → Res ValueTree
    value_at (IntNode n) left = Done (IntValue n) left
    value_at (TextNode t) left = Done (TextValue t) left
    value_at (BoolNode b) left = Done (BoolValue b) left
    value_at VoidNode left = Done VoidValue left
    value_at EmptyNode left = Done (CompositeValue ListWhole NoValues) left
    value_at (PlaceNode n) left = at_once (found (s.held n)) left
    value_at (CallNode p xs) left = then (values_at xs left) (λ vs left. at_once (call_answer p s.setting.now vs) left)
    value_at (RecordNode r xs) left = then (values_at xs left)
        (λ vs left. at_once (Given (CompositeValue (RecordWhole r) (values_of_list vs))) left)
    value_at (FunctionNode k xs) left = then (values_at xs left)
        (λ vs left. function_called s.setting s.run (slice_get s.setting.functions k) vs left)
    value_at (UnknownNode xs) left = then (values_at xs left) (λ vs left. Meaningless)
    value_at (FieldNode e f) left = then (value_at e left) (λ v left. at_once (field_answer (field_by s.places v f)) left)
    value_at (MethodNode e m xs) left =
        then (value_at e left) (λ v left. then (values_at xs left) (λ vs left. at_once (method_called s.setting.cells m v vs) left))
    value_at (NotNode e) left = then (value_at e left) (λ v left. at_once (inverted v) left)
    value_at (NegNode e) left = then (value_at e left) (λ v left. at_once (negated v) left)
    value_at (BinaryNode op a b) left = then (value_at a left) (λ v left. second op v (value_at b) left)
    value_at NothingNode left = Meaningless

    pub values_at : Nodes → ℕ → Res (List ValueTree)
    values_at NoNodes left = Done [] left
    values_at (MoreNodes e es) left = more_args (value_at e left) (values_at es)
