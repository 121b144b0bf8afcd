-- What it is to be well typed, of values, variables and cells.
use Rattle.std.specs.Prelude.{◌≡◌, ℕ, List, [], ◌∷◌}
use Rattle.std.specs.declared.option.Option.{Option}
use Rattle.std.specs.declared.option.Option.TheVariants.{Some}
use Rattle.flow_tree.specs.Tree.{TypeTree, IntType, BoolType, StringType, VoidType, ErrorType, NamedType, FutureType, FutureStreamType, PromiseType, PromiseStreamType, VectorType}
use Rattle.flow_tree.specs.Decls.{ParamTree, RecordTree}
use Rattle.flow_ast.specs.Typing.{Signature, record_call, param_named}
use Rattle.flow_value.specs.declared.value.RecordId.{RecordId}
use Rattle.flow_value.specs.declared.value.Kind.{Kind}
use Rattle.flow_value.specs.declared.value.Kind.TheVariants.{Promise, Future, PromiseStream, FutureStream}
use Rattle.flow_value.specs.Values.{ValueTree, ValueTrees, NoValues, MoreValues, IntValue, BoolValue, TextValue, VoidValue, ErrorValue, CompositeValue, RefValue, Whole, RecordWhole, ListWhole, OutcomeTree, GoodOutcome}
use Rattle.flow_eval.specs.Records.{record_id}

-- the type of a reference of a kind, to what holds values of this type
abbrev pub reference_type : Kind → TypeTree → TypeTree
reference_type Promise t = PromiseType t
reference_type Future t = FutureType t
reference_type PromiseStream t = PromiseStreamType t
reference_type FutureStream t = FutureStreamType t

-- the type of the future side of what such a reference leads to; it is the type of the cell
abbrev pub future_side : Kind → TypeTree → TypeTree
future_side Promise t = FutureType t
future_side Future t = FutureType t
future_side PromiseStream t = FutureStreamType t
future_side FutureStream t = FutureStreamType t

-- a type is that of a record, whose fields have these types in order
pub record IsRecordType (rs : List RecordTree) (r : RecordId) (t : TypeTree) (ts : List TypeTree) : Type 0 where
  pub name : List ℕ
  pub named : t ≡ NamedType name
  pub placed : record_id rs name ≡ Some r
  pub call : Signature
  pub called : record_call rs name ≡ Some call
  pub fields : ts ≡ call.params

-- each of these types is that one
abbrev pub AllAre : TypeTree → List TypeTree → Type 0
AllAre u [] = Unit {0}
AllAre u (t ∷ ts) = (t ≡ u) × AllAre u ts

-- what a whole of a type is made of: a record of the types of its fields in order, a list of as many of one type as there are
abbrev pub IsMadeOf : List RecordTree → Whole → TypeTree → List TypeTree → Type 0
IsMadeOf rs (RecordWhole r) t ts = IsRecordType rs r t ts
IsMadeOf rs ListWhole t ts = (u : TypeTree) × (t ≡ VectorType u) × AllAre u ts

-- a value has a type, where cells have these types: a whole by its parts in order, a reference by
-- its cell
module _ (rs : List RecordTree) (typed : ℕ → TypeTree → Type 0) where
  abbrev mutual
    pub HasType : ValueTree → TypeTree → Type 0
    HasType (IntValue n) t = t ≡ IntType
    HasType (BoolValue b) t = t ≡ BoolType
    HasType (TextValue s) t = t ≡ StringType
    HasType VoidValue t = t ≡ VoidType
    HasType (ErrorValue e) t = t ≡ ErrorType
    HasType (CompositeValue w vs) t = (ts : List TypeTree) × IsMadeOf rs w t ts × HaveTypes vs ts
    HasType (RefValue k c) t = (u : TypeTree) × (t ≡ reference_type k u) × typed c (future_side k u)

    pub HaveTypes : ValueTrees → List TypeTree → Type 0
    HaveTypes NoValues ts = ts ≡ []
    HaveTypes (MoreValues v vs) ts = (t : TypeTree) × (us : List TypeTree) × (ts ≡ t ∷ us) × HasType v t × HaveTypes vs us

  -- what a set single result holds has the type of its futures
  abbrev pub CellsFit : (ℕ → Option OutcomeTree) → Type 0
  CellsFit cells = (c : ℕ) (t : TypeTree) (v : ValueTree) → typed c (FutureType t) → cells c ≡ Some (GoodOutcome v) → HasType v t

  -- each variable in force has a value of its type
  abbrev pub VariablesFit : (List ℕ → Option ValueTree) → List ParamTree → Type 0
  VariablesFit look vars = (x : List ℕ) (p : ParamTree) → param_named vars x ≡ Some p → (v : ValueTree) × (look x ≡ Some v) × HasType v p.ty
