-- How much there is to do in resolved expressions: what falls at each call of the evaluator.
use Rattle.std.proofs.Common.{ℕ, zero, suc, ◌+◌, ◌<◌, ◌≤◌, List, [], ◌∷◌, length, get_or, arith}
use Rattle.flow_code.specs.declared.expr.expr.Resolved.{Resolved}
use Rattle.flow_code.specs.Resolved.Tree.{Node, Nodes, IntNode, TextNode, BoolNode, VoidNode, EmptyNode, PlaceNode, CallNode, RecordNode, FunctionNode, UnknownNode, FieldNode, MethodNode, NotNode, NegNode, BinaryNode, NothingNode, NoNodes, MoreNodes}
use Rattle.flow_code.specs.Resolved.View.{node_of, nodes_of}

abbrev mutual
  pub weight : Node → ℕ
  weight (IntNode n) = 1
  weight (TextNode t) = 1
  weight (BoolNode b) = 1
  weight VoidNode = 1
  weight EmptyNode = 1
  weight (PlaceNode n) = 1
  weight (CallNode p xs) = 4 + weights xs
  weight (RecordNode r xs) = 4 + weights xs
  weight (FunctionNode k xs) = 4 + weights xs
  weight (UnknownNode xs) = 4 + weights xs
  weight (FieldNode e f) = 4 + weight e
  weight (MethodNode e m xs) = 4 + weight e + weights xs
  weight (NotNode e) = 4 + weight e
  weight (NegNode e) = 4 + weight e
  weight (BinaryNode op a b) = 4 + weight a + weight b
  weight NothingNode = 1

  pub weights : Nodes → ℕ
  weights NoNodes = 0
  weights (MoreNodes e es) = weight e + weights es

pub arg_below : (es : List Resolved) (i : ℕ) (d : Resolved) → i < length es → weight (node_of (get_or es i d)) ≤ weights (nodes_of es)
arg_below [] i d lt = absurd (omega arith)
arg_below (e ∷ es) zero d lt = omega arith
arg_below (e ∷ es) (suc i) d lt = let lt' : i < length es = omega arith in omega (arith, arg_below es i d lt')
