-- Resolved expressions as plain data: the mirror through which contracts see those of the code.
use Rattle.std.specs.Prelude.{ℕ, ℤ, Bool, List, [], ◌∷◌}
use Rattle.std.specs.declared.option.Option.{Option}
use Rattle.flow_tree.specs.declared.expr.Op.{Op}
use Rattle.flow_tree.specs.Tree.{ByIndex}
use Rattle.flow_ast.specs.TypingNames.{selected}
use Rattle.flow_ast.specs.declared.predefined.Predefined.{Predefined}
use Rattle.flow_ast.specs.declared.predefined.Method.{Method}
use Rattle.flow_value.specs.declared.value.RecordId.{RecordId}

-- an expression whose names are numbers, and the arguments of a call in order; besides the empty list, which no expression of a text is
mutual
  pub data Node : Type 0 where
    IntNode : ℤ → Node
    TextNode : List ℕ → Node
    BoolNode : Bool → Node
    VoidNode : Node
    EmptyNode : Node
    PlaceNode : ℕ → Node
    CallNode : Predefined → Nodes → Node
    RecordNode : RecordId → Nodes → Node
    FunctionNode : ℕ → Nodes → Node
    UnknownNode : Nodes → Node
    FieldNode : Node → Option ℕ → Node
    MethodNode : Node → Option Method → Nodes → Node
    NotNode : Node → Node
    NegNode : Node → Node
    BinaryNode : Op → Node → Node → Node
    NothingNode : Node

  pub data Nodes : Type 0 where
    NoNodes : Nodes
    MoreNodes : Node → Nodes → Nodes

-- an index behind a base: a method with one argument
abbrev pub indexed_node : (of index : Node) → Node
indexed_node of i = MethodNode of (selected ByIndex) (MoreNodes i NoNodes)

-- a list of expressions as arguments
abbrev pub nodes_of_list : List Node → Nodes
nodes_of_list [] = NoNodes
nodes_of_list (n ∷ ns) = MoreNodes n (nodes_of_list ns)
