-- Types and expressions as plain data: the mirror through which contracts see the trees of the code.
use Rattle.std.specs.Prelude.{ℕ, ℤ, Bool, List, [], ◌∷◌}
use Rattle.std.specs.declared.option.Option.{Option}
use Rattle.std.specs.declared.option.Option.TheVariants.{None, Some}
use Rattle.flow_tree.specs.declared.expr.Op.{Op}
use Rattle.flow_tree.specs.declared.ty.Ident.{Ident}

-- a type as it is written; a named type is a record's, and the last is that of what gives nothing, which is no type of a text
pub data TypeTree : Type 0 where
  IntType : TypeTree
  BoolType : TypeTree
  StringType : TypeTree
  VoidType : TypeTree
  ErrorType : TypeTree
  NamedType : List ℕ → TypeTree
  FutureType : TypeTree → TypeTree
  FutureStreamType : TypeTree → TypeTree
  PromiseType : TypeTree → TypeTree
  PromiseStreamType : TypeTree → TypeTree
  VectorType : TypeTree → TypeTree
  NothingType : TypeTree

-- what a method is called by: its name, or the index of an element, which is its one argument
pub data Selector : Type 0 where
  ByName : Ident → Selector
  ByIndex : Selector

-- an expression, and the arguments of a call in order
mutual
  pub data ExprTree : Type 0 where
    IntExpr : ℤ → ExprTree
    TextExpr : List ℕ → ExprTree
    BoolExpr : Bool → ExprTree
    VoidExpr : ExprTree
    VarExpr : Ident → ExprTree
    CallExpr : Ident → ExprTrees → ExprTree
    FieldExpr : ExprTree → Ident → ExprTree
    MethodExpr : ExprTree → Selector → ExprTrees → ExprTree
    NotExpr : ExprTree → ExprTree
    NegExpr : ExprTree → ExprTree
    BinaryExpr : Op → ExprTree → ExprTree → ExprTree
    ParenExpr : ExprTree → ExprTree

  pub data ExprTrees : Type 0 where
    NoExprs : ExprTrees
    MoreExprs : ExprTree → ExprTrees → ExprTrees

-- an index behind a base: a method with one argument
abbrev pub indexed : (of index : ExprTree) → ExprTree
indexed of i = MethodExpr of ByIndex (MoreExprs i NoExprs)

-- what a `return` gives: `return;` is as `return Void();`
abbrev pub returned_expr : Option ExprTree → ExprTree
returned_expr None = VoidExpr
returned_expr (Some e) = e

-- a list of expressions as arguments
abbrev pub exprs_of_list : List ExprTree → ExprTrees
exprs_of_list [] = NoExprs
exprs_of_list (e ∷ es) = MoreExprs e (exprs_of_list es)
