-- What the names of an expression are resolved to, and that this changes nothing of what it means.
use Rattle.std.specs.Prelude.{◌≡◌, ℕ, pos, List}
use Rattle.std.specs.declared.option.Option.{Option}
use Rattle.std.specs.declared.option.Option.TheVariants.{None, Some}
use Rattle.flow_tree.specs.Tree.{ExprTree, ExprTrees, IntExpr, TextExpr, BoolExpr, VoidExpr, VarExpr, CallExpr, FieldExpr, MethodExpr, NotExpr, NegExpr, BinaryExpr, ParenExpr, NoExprs, MoreExprs}
use Rattle.flow_tree.specs.Decls.{RecordTree, RoutineTree}
use Rattle.flow_ast.specs.declared.predefined.Predefined.{Predefined}
use Rattle.flow_ast.specs.TypingNames.{named, selected, call_names, constant_names}
use Rattle.flow_value.specs.declared.value.RecordId.{RecordId}
use Rattle.flow_value.specs.Values.{ValueTree, Whole}
use Rattle.flow_eval.specs.Records.{record_id, field_place}
use Rattle.flow_ast.specs.Typing.{is_there, routine_named}
use Rattle.flow_eval.specs.Functions.{routine_at}
use Rattle.flow_eval.specs.Eval.{eval}
use Rattle.flow_code.specs.Resolved.Tree.{Node, Nodes, IntNode, TextNode, BoolNode, VoidNode, PlaceNode, CallNode, RecordNode, FunctionNode, UnknownNode, FieldNode, MethodNode, NotNode, NegNode, BinaryNode, NothingNode, NoNodes, MoreNodes}
use Rattle.flow_code.specs.Resolved.Evaluation.{ActorViewTree, value_at}

-- what names stand for: records, the places of functions, the numbers of the names of fields, and the places of an actor
pub record Naming : Type 0 where
  pub record_of : List ℕ → Option RecordId
  pub function : List ℕ → Option ℕ
  pub field : List ℕ → Option ℕ
  pub place : List ℕ → Option ℕ

-- a constant, or else a place
abbrev pub place_node : Option ℕ → Node
place_node None = NothingNode
place_node (Some n) = PlaceNode n

abbrev pub variable_node : Option ℕ → Option ℕ → Node
variable_node None place = place_node place
variable_node (Some n) place = IntNode (pos n)

-- what is predefined, or else a record, or else a function
abbrev pub function_node : Option ℕ → Nodes → Node
function_node None xs = UnknownNode xs
function_node (Some k) xs = FunctionNode k xs

abbrev pub declared_node : Option RecordId → Option ℕ → Nodes → Node
declared_node None f xs = function_node f xs
declared_node (Some r) f xs = RecordNode r xs

abbrev pub call_node : Option Predefined → Option RecordId → Option ℕ → Nodes → Node
call_node None r f xs = declared_node r f xs
call_node (Some p) r f xs = CallNode p xs

module _ (n : Naming) where
  abbrev mutual
    pub resolved : ExprTree → Node
    resolved (IntExpr i) = IntNode i
    resolved (TextExpr t) = TextNode t
    resolved (BoolExpr b) = BoolNode b
    resolved VoidExpr = VoidNode
    resolved (VarExpr x) = variable_node (named constant_names x.name) (n.place x.name)
    resolved (CallExpr f xs) = call_node (named call_names f.name) (n.record_of f.name) (n.function f.name) (resolved_all xs)
    resolved (FieldExpr e x) = FieldNode (resolved e) (n.field x.name)
    resolved (MethodExpr e m xs) = MethodNode (resolved e) (selected m) (resolved_all xs)
    resolved (NotExpr e) = NotNode (resolved e)
    resolved (NegExpr e) = NegNode (resolved e)
    resolved (BinaryExpr op a b) = BinaryNode op (resolved a) (resolved b)
    resolved (ParenExpr e) = resolved e

    pub resolved_all : ExprTrees → Nodes
    resolved_all NoExprs = NoNodes
    resolved_all (MoreExprs e es) = MoreNodes (resolved e) (resolved_all es)

-- what a field is by the number of its name, if it has one
abbrev pub place_by : (Whole → ℕ → Option ℕ) → Whole → Option ℕ → Option ℕ
place_by places w None = None
place_by places w (Some f) = places w f

-- the numbers of fields lead where their names lead
abbrev pub IsNumbering : List RecordTree → (List ℕ → Option ℕ) → (Whole → ℕ → Option ℕ) → Type 0
IsNumbering rs field places = (w : Whole) (x : List ℕ) → place_by places w (field x) ≡ field_place rs w x

-- what variables hold is what the places of their names hold
abbrev pub held_by : (ℕ → Option ValueTree) → Option ℕ → Option ValueTree
held_by held None = None
held_by held (Some n) = held n

abbrev pub AreSeen : (List ℕ → Option ValueTree) → (List ℕ → Option ℕ) → (ℕ → Option ValueTree) → Type 0
AreSeen look place held = (x : List ℕ) → look x ≡ held_by held (place x)

-- A resolved expression comes to what its text means, turns included.
pub record SameMeaning (n : Naming) (s : ActorViewTree) (look : List ℕ → Option ValueTree) : Type 0 where
  pub same : (e : ExprTree) (left : ℕ) → value_at s (resolved n e) left ≡ eval s.setting s.run look e left

-- records and functions are those of these names, the first of several
abbrev pub AreRecords : List RecordTree → (List ℕ → Option RecordId) → Type 0
AreRecords rs record_of = (x : List ℕ) → record_of x ≡ record_id rs x

-- and no other name has a number
abbrev pub AreFunctions : List RoutineTree → (List ℕ → Option ℕ) → Type 0
AreFunctions fs function =
    (x : List ℕ) → (routine_named fs x ≡ routine_at fs (function x)) × (is_there (function x) ≡ is_there (routine_named fs x))

abbrev pub ResolvedAlike : Type 0
ResolvedAlike =
    (n : Naming) (s : ActorViewTree) (look : List ℕ → Option ValueTree)
    → AreRecords s.setting.records n.record_of
    → AreFunctions s.setting.functions n.function
    → IsNumbering s.setting.records n.field s.places
    → AreSeen look n.place s.held
    → SameMeaning n s look
