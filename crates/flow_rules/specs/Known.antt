-- What the names at the top of a program declare, and which types hold a reference.
use Rattle.std.specs.Prelude.{ℕ, zero, suc, Bool, true, false, ◌||◌, List, [], ◌∷◌, map, codes}
use Rattle.std.specs.declared.option.Option.{Option}
use Rattle.std.specs.declared.option.Option.TheVariants.{Some}
use Rattle.flow_tree.specs.Tree.{TypeTree, NamedType, FutureType, FutureStreamType, PromiseType, PromiseStreamType, VectorType}
use Rattle.flow_tree.specs.Decls.{ParamTree, DeclTree, StructDecl, FunctionDecl, ActorDecl}
use Rattle.flow_ast.specs.TypingNames.{named, call_names, constant_names}
use Rattle.flow_ast.specs.Typing.{packet_fields, is_packet, param_types, is_there}

-- a record by its fields, and a function or an actor by the types of its parameters and its result
pub data Meaning : Type 0 where
  RecordOf : List (List ℕ × TypeTree) → Meaning
  FunctionOf : List TypeTree → TypeTree → Meaning
  ActorOf : List TypeTree → TypeTree → Meaning

abbrev pub field_row : ParamTree → List ℕ × TypeTree
field_row p = (p.name.name, p.ty)

abbrev pub row_of : DeclTree → List ℕ × Meaning
row_of (StructDecl r) = (r.name.name, RecordOf (map field_row r.fields))
row_of (FunctionDecl f) = (f.name.name, FunctionOf (param_types f.params) f.returns)
row_of (ActorDecl f) = (f.name.name, ActorOf (param_types f.params) f.returns)

-- the predefined record
abbrev pub packet_row : List ℕ × Meaning
packet_row = (codes "Packet", RecordOf packet_fields)

-- records, functions and actors have one space of names: of several with one name the first is known,
-- and the predefined record before all of them
abbrev pub known : List DeclTree → List ℕ → Option Meaning
known ds = named (packet_row ∷ map row_of ds)

abbrev pub is_record : Option Meaning → Bool
is_record (Some (RecordOf fs)) = true
is_record _ = false

-- the records that a written type names are known
abbrev pub type_known : (List ℕ → Option Meaning) → TypeTree → Bool
type_known k (NamedType x) = is_record (k x)
type_known k (FutureType t) = type_known k t
type_known k (FutureStreamType t) = type_known k t
type_known k (PromiseType t) = type_known k t
type_known k (PromiseStreamType t) = type_known k t
type_known k (VectorType t) = type_known k t
type_known k _ = true

-- a type holds a reference where it is one, or a part of it does
abbrev pub holds_by : (List ℕ → Bool) → TypeTree → Bool
holds_by p (FutureType t) = true
holds_by p (FutureStreamType t) = true
holds_by p (PromiseType t) = true
holds_by p (PromiseStreamType t) = true
holds_by p (VectorType t) = holds_by p t
holds_by p (NamedType x) = p x
holds_by p _ = false

abbrev pub fields_hold : (List ℕ → Bool) → List (List ℕ × TypeTree) → Bool
fields_hold p [] = false
fields_hold p (f ∷ fs) = holds_by p f.1 || fields_hold p fs

abbrev pub meaning_holds : (List ℕ → Bool) → Option Meaning → Bool
meaning_holds p (Some (RecordOf fs)) = fields_hold p fs
meaning_holds p _ = false

-- a record holds a reference where a field of it does, through so many records inside one another
abbrev pub record_holds : (List ℕ → Option Meaning) → ℕ → List ℕ → Bool
record_holds k zero x = false
record_holds k (suc n) x = meaning_holds (record_holds k n) (k x)

abbrev pub holds : (List ℕ → Option Meaning) → ℕ → TypeTree → Bool
holds k n = holds_by (record_holds k n)

-- a name without a base that is known in every program
abbrev pub is_predefined : List ℕ → Bool
is_predefined x = is_packet x || is_there (named call_names x) || is_there (named constant_names x)
