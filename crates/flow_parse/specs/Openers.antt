-- With which tokens the parts of a program begin.
use Rattle.std.specs.declared.option.Option.{Option}
use Rattle.std.specs.declared.option.Option.TheVariants.{None, Some}
use Rattle.flow_tree.specs.declared.token.Token.{Token}
use Rattle.flow_tree.specs.declared.token.Token.TheVariants as token
use Rattle.flow_tree.specs.declared.token.Word.{Word}
use Rattle.flow_tree.specs.declared.token.Word.TheVariants as word
use Rattle.flow_tree.specs.declared.token.Sign.TheVariants as sign
use Rattle.flow_tree.specs.declared.expr.Op.TheVariants.{Sub}
use Rattle.flow_exprs.specs.declared.kind.Kind.{Kind}
use Rattle.flow_exprs.specs.declared.kind.Kind.TheVariants as kind
use Rattle.flow_exprs.specs.Kinds.{kind_of}

-- the next token is such; at the end none is
abbrev pub AsFirst : (Token → Type 0) → Option Token → Type 0
AsFirst P None = ⊥
AsFirst P (Some t) = P t

-- a name
abbrev pub NameToken : Token → Type 0
NameToken (token.Name n) = Unit {0}
NameToken _ = ⊥

-- an expression
abbrev pub OpensExpr : Kind → Type 0
OpensExpr kind.Leaf = Unit {0}
OpensExpr kind.Name = Unit {0}
OpensExpr kind.Void = Unit {0}
OpensExpr kind.Open = Unit {0}
OpensExpr kind.Not = Unit {0}
OpensExpr (kind.Op Sub) = Unit {0}
OpensExpr _ = ⊥

abbrev pub ExprToken : Token → Type 0
ExprToken t = OpensExpr (kind_of t)

-- a type
abbrev pub TypeWord : Word → Type 0
TypeWord word.Int = Unit {0}
TypeWord word.Bool = Unit {0}
TypeWord word.Str = Unit {0}
TypeWord word.Void = Unit {0}
TypeWord word.Error = Unit {0}
TypeWord word.Future = Unit {0}
TypeWord word.FutureStream = Unit {0}
TypeWord word.Promise = Unit {0}
TypeWord word.PromiseStream = Unit {0}
TypeWord word.Vector = Unit {0}
TypeWord _ = ⊥

abbrev pub TypeToken : Token → Type 0
TypeToken (token.Name n) = Unit {0}
TypeToken (token.Word k) = TypeWord k
TypeToken _ = ⊥

-- a declared variable: a type, or the word `state`
abbrev pub IntoWord : Word → Type 0
IntoWord word.State = Unit {0}
IntoWord k = TypeWord k

abbrev pub IntoToken : Token → Type 0
IntoToken (token.Name n) = Unit {0}
IntoToken (token.Word k) = IntoWord k
IntoToken _ = ⊥

-- a wait
abbrev pub WaitWord : Word → Type 0
WaitWord word.Wait = Unit {0}
WaitWord word.WaitNext = Unit {0}
WaitWord _ = ⊥

abbrev pub WaitToken : Token → Type 0
WaitToken (token.Word k) = WaitWord k
WaitToken _ = ⊥

-- a declaration of a variable, a wait, or what begins with a word of its own
abbrev pub StartsWord : Word → Type 0
StartsWord word.Wait = Unit {0}
StartsWord word.WaitNext = Unit {0}
StartsWord k = IntoWord k

abbrev pub StmtWord : Word → Type 0
StmtWord word.If = Unit {0}
StmtWord word.While = Unit {0}
StmtWord word.For = Unit {0}
StmtWord word.Loop = Unit {0}
StmtWord word.Break = Unit {0}
StmtWord word.Continue = Unit {0}
StmtWord word.Return = Unit {0}
StmtWord word.Throw = Unit {0}
StmtWord word.Try = Unit {0}
StmtWord word.Choose = Unit {0}
StmtWord k = StartsWord k

abbrev pub PlainToken : Token → Type 0
PlainToken (token.Name n) = Unit {0}
PlainToken (token.Word k) = StmtWord k
PlainToken _ = ⊥

-- a statement
abbrev pub StmtToken : Token → Type 0
StmtToken (token.Sign sign.OpenCurly) = Unit {0}
StmtToken t = PlainToken t

-- a branch of a `choose`
abbrev pub WhenToken : Token → Type 0
WhenToken (token.Word word.When) = Unit {0}
WhenToken _ = ⊥

-- a declaration
abbrev pub DeclToken : Token → Type 0
DeclToken (token.Word word.Struct) = Unit {0}
DeclToken (token.Word word.Actor) = Unit {0}
DeclToken t = TypeToken t
