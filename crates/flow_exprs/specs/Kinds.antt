-- What a token is to an expression.
use Rattle.std.specs.Prelude.{ℕ, List, slice_get}
use Rattle.std.specs.Option.{option_map}
use Rattle.std.specs.declared.option.Option.{Option}
use Rattle.flow_tree.specs.declared.token.Token.{Token}
use Rattle.flow_tree.specs.declared.token.Token.TheVariants as token
use Rattle.flow_tree.specs.declared.token.Word.{Word}
use Rattle.flow_tree.specs.declared.token.Word.TheVariants as word
use Rattle.flow_tree.specs.declared.token.Sign.{Sign}
use Rattle.flow_tree.specs.declared.token.Sign.TheVariants as sign
use Rattle.flow_tree.specs.declared.token.Spot.{Spot}
use Rattle.flow_tree.specs.declared.expr.Op.TheVariants.{Or, And, Eq, Ne, Lt, Le, Gt, Ge, Add, Sub, Mul, Div, Rem}
use Rattle.flow_exprs.specs.declared.kind.Kind.{Kind}
use Rattle.flow_exprs.specs.declared.kind.Kind.TheVariants.{Leaf, Name, Void, Open, Close, OpenSquare, CloseSquare, Comma, Dot, Not, Op, Other}

abbrev pub sign_kind : Sign → Kind
sign_kind sign.OpenRound = Open
sign_kind sign.CloseRound = Close
sign_kind sign.OpenSquare = OpenSquare
sign_kind sign.CloseSquare = CloseSquare
sign_kind sign.Less = Op Lt
sign_kind sign.Greater = Op Gt
sign_kind sign.Comma = Comma
sign_kind sign.Dot = Dot
sign_kind sign.Equal = Op Eq
sign_kind sign.NotEqual = Op Ne
sign_kind sign.LessEqual = Op Le
sign_kind sign.GreaterEqual = Op Ge
sign_kind sign.AndAnd = Op And
sign_kind sign.OrOr = Op Or
sign_kind sign.Not = Not
sign_kind sign.Plus = Op Add
sign_kind sign.Minus = Op Sub
sign_kind sign.Star = Op Mul
sign_kind sign.Slash = Op Div
sign_kind sign.Percent = Op Rem
sign_kind _ = Other

abbrev pub word_kind : Word → Kind
word_kind word.Yes = Leaf
word_kind word.No = Leaf
word_kind word.Void = Void
word_kind _ = Other

abbrev pub kind_of : Token → Kind
kind_of (token.Name n) = Name
kind_of (token.Number n) = Leaf
kind_of (token.Text t) = Leaf
kind_of (token.Word w) = word_kind w
kind_of (token.Sign s) = sign_kind s

abbrev pub kind_at : List Spot → ℕ → Option Kind
kind_at spots k = option_map (λ s. kind_of s.token) (slice_get spots k)
