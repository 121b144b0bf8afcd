-- The grammar of types and expressions: a rule for each form. A rule says of which tokens the form
-- consists and of which depth its nodes are.
use Rattle.std.specs.Prelude.{◌≡◌, ℕ, suc, ℤ, ◌≤◌, List, [], ◌∷◌, ◌++◌, true, false}
use Rattle.flow_base.specs.declared.place.Place.{Place}
use Rattle.flow_tree.specs.declared.token.Token.TheVariants as token
use Rattle.flow_tree.specs.declared.token.Word.{Word}
use Rattle.flow_tree.specs.declared.token.Word.TheVariants as word
use Rattle.flow_tree.specs.declared.token.Sign.{Sign}
use Rattle.flow_tree.specs.declared.token.Sign.TheVariants as sign
use Rattle.flow_tree.specs.declared.expr.Op.{Op}
use Rattle.flow_tree.specs.declared.expr.Op.TheVariants.{Or, And, Eq, Ne, Lt, Le, Gt, Ge, Add, Sub, Mul, Div, Rem}
use Rattle.flow_tree.specs.declared.ty.Ident.{Ident}
use Rattle.flow_tree.specs.Tree.{ByName, indexed, TypeTree, IntType, BoolType, StringType, VoidType, ErrorType, NamedType, FutureType, FutureStreamType, PromiseType, PromiseStreamType, VectorType, ExprTree, ExprTrees, IntExpr, TextExpr, BoolExpr, VoidExpr, VarExpr, CallExpr, FieldExpr, MethodExpr, NotExpr, NegExpr, BinaryExpr, ParenExpr, NoExprs, MoreExprs}
use Rattle.flow_tree.specs.GrammarToken.{Node, Marked, opens, begin}

-- a sign, a word or a name with which no part begins
abbrev pub sign_at : Sign → Place → Marked
sign_at s p = opens [] (token.Sign s) p

abbrev pub word_at : Word → Place → Marked
word_at w p = opens [] (token.Word w) p

abbrev pub name_at : Ident → Marked
name_at x = opens [] (token.Name x.name) x.at

-- tokens between brackets that stand at these places, and what follows
abbrev pub in_round : Place → List Marked → Place → List Marked → List Marked
in_round p xs q rest = sign_at sign.OpenRound p ∷ (xs ++ (sign_at sign.CloseRound q ∷ rest))

abbrev pub in_curly : Place → List Marked → Place → List Marked → List Marked
in_curly p xs q rest = sign_at sign.OpenCurly p ∷ (xs ++ (sign_at sign.CloseCurly q ∷ rest))

abbrev pub in_angle : Place → List Marked → Place → List Marked → List Marked
in_angle p xs q rest = sign_at sign.Less p ∷ (xs ++ (sign_at sign.Greater q ∷ rest))

-- a sign, a word or a name with which a node of this depth begins
abbrev pub node_sign : ℕ → Sign → Place → Marked
node_sign d s p = opens (Node d ∷ []) (token.Sign s) p

abbrev pub node_word : ℕ → Word → Place → Marked
node_word d w p = opens (Node d ∷ []) (token.Word w) p

abbrev pub node_name : ℕ → Ident → Marked
node_name d x = opens (Node d ∷ []) (token.Name x.name) x.at

-- the types of one argument, by their words
pub data Wrapper : Type 0 where
  FutureOf : Wrapper
  FutureStreamOf : Wrapper
  PromiseOf : Wrapper
  PromiseStreamOf : Wrapper
  VectorOf : Wrapper

abbrev pub wrapper_word : Wrapper → Word
wrapper_word FutureOf = word.Future
wrapper_word FutureStreamOf = word.FutureStream
wrapper_word PromiseOf = word.Promise
wrapper_word PromiseStreamOf = word.PromiseStream
wrapper_word VectorOf = word.Vector

abbrev pub wrapped : Wrapper → TypeTree → TypeTree
wrapped FutureOf t = FutureType t
wrapped FutureStreamOf t = FutureStreamType t
wrapped PromiseOf t = PromiseType t
wrapped PromiseStreamOf t = PromiseStreamType t
wrapped VectorOf t = VectorType t

-- a type of this depth; a type argument is one deeper than the type around it
pub data TypeRule : ℕ → List Marked → TypeTree → Type 0 where
  int_type : {d : ℕ} (p : Place) → TypeRule d (node_word d word.Int p ∷ []) IntType
  bool_type : {d : ℕ} (p : Place) → TypeRule d (node_word d word.Bool p ∷ []) BoolType
  string_type : {d : ℕ} (p : Place) → TypeRule d (node_word d word.Str p ∷ []) StringType
  void_type : {d : ℕ} (p : Place) → TypeRule d (node_word d word.Void p ∷ []) VoidType
  error_type : {d : ℕ} (p : Place) → TypeRule d (node_word d word.Error p ∷ []) ErrorType
  named_type : {d : ℕ} (x : Ident) → TypeRule d (node_name d x ∷ []) (NamedType x.name)
  wrapped_type : {d : ℕ} {t : TypeTree} {all : List Marked} (w : Wrapper) (p q r : Place) (of : List Marked)
      → TypeRule (suc d) of t
      → all ≡ node_word d (wrapper_word w) p ∷ in_angle q of r []
      → TypeRule d all (wrapped w t)

-- how tight a sign between two operands binds
abbrev pub level : Op → ℕ
level Or = 0
level And = 1
level Eq = 2
level Ne = 2
level Lt = 3
level Le = 3
level Gt = 3
level Ge = 3
level Add = 4
level Sub = 4
level Mul = 5
level Div = 5
level Rem = 5

-- the level of the signs before an operand
abbrev pub unary_level : ℕ
unary_level = 6

-- the level of what no sign splits, behind which a dot or an index may stand
abbrev pub dot_level : ℕ
dot_level = 7

abbrev pub op_sign : Op → Sign
op_sign Or = sign.OrOr
op_sign And = sign.AndAnd
op_sign Eq = sign.Equal
op_sign Ne = sign.NotEqual
op_sign Lt = sign.Less
op_sign Le = sign.LessEqual
op_sign Gt = sign.Greater
op_sign Ge = sign.GreaterEqual
op_sign Add = sign.Plus
op_sign Sub = sign.Minus
op_sign Mul = sign.Star
op_sign Div = sign.Slash
op_sign Rem = sign.Percent

-- An expression of at least this level and of this depth; its operands and arguments are one
-- deeper. Levels 0 to 5 are those of the signs between two operands, which bind to the left.
mutual
  pub data ExprRule : ℕ → ℕ → List Marked → ExprTree → Type 0 where
    number : {k d : ℕ} (n : ℤ) (p : Place) → ExprRule k d (opens (Node d ∷ []) (token.Number n) p ∷ []) (IntExpr n)
    text : {k d : ℕ} (t : List ℕ) (p : Place) → ExprRule k d (opens (Node d ∷ []) (token.Text t) p ∷ []) (TextExpr t)
    truth : {k d : ℕ} (p : Place) → ExprRule k d (node_word d word.Yes p ∷ []) (BoolExpr true)
    falsehood : {k d : ℕ} (p : Place) → ExprRule k d (node_word d word.No p ∷ []) (BoolExpr false)
    void : {k d : ℕ} (p q r : Place) → ExprRule k d (node_word d word.Void p ∷ in_round q [] r []) VoidExpr
    variable : {k d : ℕ} (x : Ident) → ExprRule k d (node_name d x ∷ []) (VarExpr x)
    -- name "(" args ")"
    call : {k d : ℕ} {ts : ExprTrees} {all : List Marked} (f : Ident) (p q : Place) (args : List Marked)
        → ArgsRule (suc d) args ts
        → all ≡ node_name d f ∷ in_round p args q []
        → ExprRule k d all (CallExpr f ts)
    -- "(" expr ")"
    paren : {k d : ℕ} {t : ExprTree} {all : List Marked} (p q : Place) (of : List Marked)
        → ExprRule 0 (suc d) of t
        → all ≡ node_sign d sign.OpenRound p ∷ (of ++ sign_at sign.CloseRound q ∷ [])
        → ExprRule k d all (ParenExpr t)
    -- postfix "." name
    field : {k d : ℕ} {t : ExprTree} {all : List Marked} (p : Place) (x : Ident) (of : List Marked)
        → ExprRule dot_level (suc d) of t
        → all ≡ begin (Node d) of ++ (sign_at sign.Dot p ∷ name_at x ∷ [])
        → ExprRule k d all (FieldExpr t x)
    -- postfix "." name "(" args ")"
    method : {k d : ℕ} {t : ExprTree} {ts : ExprTrees} {all : List Marked} (p q r : Place) (f : Ident) (of args : List Marked)
        → ExprRule dot_level (suc d) of t → ArgsRule (suc d) args ts
        → all ≡ begin (Node d) of ++ (sign_at sign.Dot p ∷ name_at f ∷ in_round q args r [])
        → ExprRule k d all (MethodExpr t (ByName f) ts)
    -- postfix "[" expr "]"
    index : {k d : ℕ} {t i : ExprTree} {all : List Marked} (p q : Place) (of at : List Marked)
        → ExprRule dot_level (suc d) of t → ExprRule 0 (suc d) at i
        → all ≡ begin (Node d) of ++ (sign_at sign.OpenSquare p ∷ (at ++ sign_at sign.CloseSquare q ∷ []))
        → ExprRule k d all (indexed t i)
    -- ( "!" | "-" ) unary
    negation : {k d : ℕ} {t : ExprTree} {all : List Marked} (p : Place) (of : List Marked)
        → k ≤ unary_level → ExprRule unary_level (suc d) of t
        → all ≡ node_sign d sign.Not p ∷ of
        → ExprRule k d all (NotExpr t)
    minus : {k d : ℕ} {t : ExprTree} {all : List Marked} (p : Place) (of : List Marked)
        → k ≤ unary_level → ExprRule unary_level (suc d) of t
        → all ≡ node_sign d sign.Minus p ∷ of
        → ExprRule k d all (NegExpr t)
    -- two operands with a sign between them
    binary : {k d : ℕ} {a b : ExprTree} {all : List Marked} (op : Op) (p : Place) (left right : List Marked)
        → k ≤ level op → ExprRule (level op) (suc d) left a → ExprRule (suc (level op)) (suc d) right b
        → all ≡ begin (Node d) left ++ (sign_at (op_sign op) p ∷ right)
        → ExprRule k d all (BinaryExpr op a b)

  -- the arguments of a call, of this depth, and those that follow a first one
  pub data ArgsRule : ℕ → List Marked → ExprTrees → Type 0 where
    no_args : {d : ℕ} → ArgsRule d [] NoExprs
    some_args : {d : ℕ} {t : ExprTree} {ts : ExprTrees} {all : List Marked} (first more : List Marked)
        → ExprRule 0 d first t → MoreArgsRule d more ts
        → all ≡ first ++ more
        → ArgsRule d all (MoreExprs t ts)

  pub data MoreArgsRule : ℕ → List Marked → ExprTrees → Type 0 where
    end_args : {d : ℕ} → MoreArgsRule d [] NoExprs
    more_args : {d : ℕ} {t : ExprTree} {ts : ExprTrees} {all : List Marked} (p : Place) (next more : List Marked)
        → ExprRule 0 d next t → MoreArgsRule d more ts
        → all ≡ sign_at sign.Comma p ∷ (next ++ more)
        → MoreArgsRule d all (MoreExprs t ts)
