-- The types and expressions of the code, seen as plain data.
use Rattle.std.specs.Prelude.{List, map}
use Rattle.std.specs.declared.option.Option.{Option}
use Rattle.std.specs.declared.option.Option.TheVariants as option
use Rattle.flow_tree.specs.declared.ty.Ty.{Ty}
use Rattle.flow_tree.specs.declared.ty.Ty.TheOpen.{Ty-F, Int, Bool, Str, Void, Error, Named, Future, FutureStream, Promise, PromiseStream, Vector}
use Rattle.flow_tree.specs.declared.ty.Ty.TheFolds.{fold-Ty}
use Rattle.flow_tree.specs.declared.expr.Expr.{Expr}
use Rattle.flow_tree.specs.declared.expr.Expr.TheOpen as layer
use Rattle.flow_tree.specs.declared.expr.Expr.TheOpen.{Expr-F, Text, VoidValue, Var, Call, Field, Method, Index, Not, Neg, Binary, Paren}
use Rattle.flow_tree.specs.declared.expr.Expr.TheFolds.{fold-Expr}
use Rattle.flow_tree.specs.Tree.{TypeTree, IntType, BoolType, StringType, VoidType, ErrorType, NamedType, FutureType, FutureStreamType, PromiseType, PromiseStreamType, VectorType, NothingType, ExprTree, ExprTrees, IntExpr, TextExpr, BoolExpr, VoidExpr, VarExpr, CallExpr, FieldExpr, MethodExpr, NotExpr, NegExpr, BinaryExpr, ParenExpr, ByName, indexed, exprs_of_list}

-- one layer of a type, with the mirror of its part in its place
abbrev pub type_step : Ty-F TypeTree → TypeTree
type_step Int = IntType
type_step Bool = BoolType
type_step Str = StringType
type_step Void = VoidType
type_step Error = ErrorType
type_step (Named n) = NamedType n
type_step (Future t) = FutureType t.value
type_step (FutureStream t) = FutureStreamType t.value
type_step (Promise t) = PromiseType t.value
type_step (PromiseStream t) = PromiseStreamType t.value
type_step (Vector t) = VectorType t.value

abbrev pub type_of : Ty → TypeTree
type_of = fold-Ty TypeTree type_step

-- the result of an actor, which a void one has none of
abbrev pub result_of : Option Ty → TypeTree
result_of option.None = NothingType
result_of (option.Some t) = type_of t

-- one layer of an expression, with the mirrors of its parts in their places; an index is a method
abbrev pub expr_step : Expr-F ExprTree → ExprTree
expr_step (layer.Int n) = IntExpr n
expr_step (Text t) = TextExpr t
expr_step (layer.Bool b) = BoolExpr b
expr_step VoidValue = VoidExpr
expr_step (Var x) = VarExpr x
expr_step (Call f xs) = CallExpr f (exprs_of_list xs.items)
expr_step (Field e x) = FieldExpr e.value x
expr_step (Method e f xs) = MethodExpr e.value (ByName f) (exprs_of_list xs.items)
expr_step (Index e i) = indexed e.value i.value
expr_step (Not e) = NotExpr e.value
expr_step (Neg e) = NegExpr e.value
expr_step (Binary op a b) = BinaryExpr op a.value b.value
expr_step (Paren e) = ParenExpr e.value

abbrev pub expr_of : Expr → ExprTree
expr_of = fold-Expr ExprTree expr_step

abbrev pub exprs_of : List Expr → ExprTrees
exprs_of es = exprs_of_list (map expr_of es)
