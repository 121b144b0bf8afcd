-- A machine that reads the tokens of a type one at a time, with the types around it on a stack.
use Rattle.std.specs.Prelude.{ℕ, suc, ◌+◌, List, [], ◌∷◌, cond, Bool, true, ◌&&◌, nat_le, slice_get}
use Rattle.std.specs.Option.{option_map}
use Rattle.std.specs.declared.option.Option.{Option}
use Rattle.std.specs.declared.option.Option.TheVariants.{None, Some}
use Rattle.flow_tree.specs.declared.token.Token.{Token}
use Rattle.flow_tree.specs.declared.token.Token.TheVariants as token
use Rattle.flow_tree.specs.declared.token.Word.{Word}
use Rattle.flow_tree.specs.declared.token.Word.TheVariants as word
use Rattle.flow_tree.specs.declared.token.Sign.{Sign}
use Rattle.flow_tree.specs.declared.token.Sign.TheVariants as sign
use Rattle.flow_tree.specs.declared.token.Spot.{Spot}
use Rattle.flow_tree.specs.Tree.{TypeTree, IntType, BoolType, StringType, VoidType, ErrorType, NamedType, FutureType, FutureStreamType, PromiseType, PromiseStreamType, VectorType}
use Rattle.flow_tree.specs.Grammar.{Wrapper, FutureOf, FutureStreamOf, PromiseOf, PromiseStreamOf, VectorOf, wrapped}
use Rattle.flow_exprs.specs.declared.ty.TypeKind.{TypeKind}
use Rattle.flow_exprs.specs.declared.ty.TypeKind.TheVariants.{Plain, Future, FutureStream, Promise, PromiseStream, Vector, Less, Greater, Other}
use Rattle.flow_tree.specs.declared.limits.TheConstants.{DEPTH}

abbrev pub type_word_kind : Word → TypeKind
type_word_kind word.Int = Plain
type_word_kind word.Bool = Plain
type_word_kind word.Str = Plain
type_word_kind word.Void = Plain
type_word_kind word.Error = Plain
type_word_kind word.Future = Future
type_word_kind word.FutureStream = FutureStream
type_word_kind word.Promise = Promise
type_word_kind word.PromiseStream = PromiseStream
type_word_kind word.Vector = Vector
type_word_kind _ = Other

abbrev pub type_sign_kind : Sign → TypeKind
type_sign_kind sign.Less = Less
type_sign_kind sign.Greater = Greater
type_sign_kind _ = Other

abbrev pub type_kind_of : Token → TypeKind
type_kind_of (token.Name n) = Plain
type_kind_of (token.Word w) = type_word_kind w
type_kind_of (token.Sign s) = type_sign_kind s
type_kind_of _ = Other

abbrev pub type_kind_at : List Spot → ℕ → Option TypeKind
type_kind_at spots k = option_map (λ s. type_kind_of s.token) (slice_get spots k)

-- the type that one token is
abbrev pub plain_of_word : Word → Option TypeTree
plain_of_word word.Int = Some IntType
plain_of_word word.Bool = Some BoolType
plain_of_word word.Str = Some StringType
plain_of_word word.Void = Some VoidType
plain_of_word word.Error = Some ErrorType
plain_of_word _ = None

abbrev pub plain_of : Token → Option TypeTree
plain_of (token.Name n) = Some (NamedType n)
plain_of (token.Word w) = plain_of_word w
plain_of _ = None

abbrev pub plain_in : Option Spot → Option TypeTree
plain_in None = None
plain_in (Some x) = plain_of x.token

abbrev pub plain_at : List Spot → ℕ → Option TypeTree
plain_at spots k = plain_in (slice_get spots k)

abbrev pub type_or_void : Option TypeTree → TypeTree
type_or_void None = VoidType
type_or_void (Some t) = t

-- the word takes an argument
abbrev pub IsWrapper : TypeKind → Type 0
IsWrapper Future = Unit {0}
IsWrapper FutureStream = Unit {0}
IsWrapper Promise = Unit {0}
IsWrapper PromiseStream = Unit {0}
IsWrapper Vector = Unit {0}
IsWrapper _ = ⊥

abbrev pub wrapper_of : TypeKind → Wrapper
wrapper_of FutureStream = FutureStreamOf
wrapper_of Promise = PromiseOf
wrapper_of PromiseStream = PromiseStreamOf
wrapper_of Vector = VectorOf
wrapper_of _ = FutureOf

abbrev pub wrapped_by : TypeKind → TypeTree → TypeTree
wrapped_by k t = wrapped (wrapper_of k) t

-- what stands around the type that is read; at the bottom, the depth of the whole
pub data Around : Type 0 where
  Bottom : ℕ → Around
  Inside : Wrapper → Around → Around

pub data TypeState : Type 0 where
  WantType : Around → TypeState
  WantLess : Wrapper → Around → TypeState
  HaveType : TypeTree → Around → TypeState
  DeadType : TypeState

abbrev pub type_greater : TypeTree → Around → TypeState
type_greater t (Bottom d) = DeadType
type_greater t (Inside w K) = HaveType (wrapped w t) K

abbrev pub want_type : Around → TypeKind → Spot → TypeState
want_type K Plain x = HaveType (type_or_void (plain_of x.token)) K
want_type K Future x = WantLess FutureOf K
want_type K FutureStream x = WantLess FutureStreamOf K
want_type K Promise x = WantLess PromiseOf K
want_type K PromiseStream x = WantLess PromiseStreamOf K
want_type K Vector x = WantLess VectorOf K
want_type K _ x = DeadType

abbrev pub want_less : Wrapper → Around → TypeKind → TypeState
want_less w K Less = WantType (Inside w K)
want_less w K _ = DeadType

abbrev pub have_type : TypeTree → Around → TypeKind → TypeState
have_type t K Greater = type_greater t K
have_type t K _ = DeadType

abbrev pub type_step_kind : TypeState → TypeKind → Spot → TypeState
type_step_kind (WantType K) k x = want_type K k x
type_step_kind (WantLess w K) k x = want_less w K k
type_step_kind (HaveType t K) k x = have_type t K k
type_step_kind DeadType k x = DeadType

abbrev pub type_step : TypeState → Spot → TypeState
type_step S x = type_step_kind S (type_kind_of x.token) x

-- how many nodes lie below one another
abbrev pub type_height : TypeTree → ℕ
type_height (FutureType t) = suc (type_height t)
type_height (FutureStreamType t) = suc (type_height t)
type_height (PromiseType t) = suc (type_height t)
type_height (PromiseStreamType t) = suc (type_height t)
type_height (VectorType t) = suc (type_height t)
type_height _ = 1

-- the depth of what is wanted
abbrev pub type_hole : Around → ℕ
type_hole (Bottom d) = d
type_hole (Inside w K) = suc (type_hole K)

abbrev pub around_fits : Around → Bool
around_fits (Bottom d) = true
around_fits (Inside w K) = nat_le (type_hole K) DEPTH && around_fits K

abbrev pub type_fits : TypeState → Bool
type_fits (WantType K) = around_fits K
type_fits (WantLess w K) = nat_le (type_hole K) DEPTH && around_fits K
type_fits (HaveType t K) = nat_le (type_hole K + type_height t) (suc DEPTH) && around_fits K
type_fits DeadType = true

pub data TypeOutcome : Type 0 where
  TypeEnded : TypeTree → ℕ → TypeOutcome
  TypeShort : ℕ → TypeOutcome
  TypeDeep : ℕ → TypeOutcome

abbrev pub type_halt : ℕ → TypeState → TypeOutcome
type_halt k (HaveType t (Bottom d)) = TypeEnded t k
type_halt k _ = TypeShort k

abbrev pub type_turn : ℕ → TypeState → TypeState → TypeOutcome → TypeOutcome
type_turn k S DeadType o = type_halt k S
type_turn k S T o = cond (type_fits T) o (TypeDeep k)

-- the machine from a state, at the token of this number
abbrev pub type_run : ℕ → TypeState → List Spot → TypeOutcome
type_run k S [] = type_halt k S
type_run k S (x ∷ xs) = type_turn k S (type_step S x) (type_run (suc k) (type_step S x) xs)
