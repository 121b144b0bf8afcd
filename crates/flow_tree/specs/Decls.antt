-- Declarations and programs as plain data.
use Rattle.std.specs.Prelude.{ℕ, List}
use Rattle.flow_base.specs.declared.place.Place.{Place}
use Rattle.flow_tree.specs.declared.ty.Ident.{Ident}
use Rattle.flow_tree.specs.Tree.{TypeTree}
use Rattle.flow_tree.specs.Body.{Body}

-- a parameter, or a field of a record
pub record ParamTree : Type 0 where
  pub ty : TypeTree
  pub name : Ident

-- a place of an actor's frame
pub record SlotTree : Type 0 where
  pub ty : TypeTree
  pub name : List ℕ

pub record RecordTree : Type 0 where
  pub at : Place
  pub name : Ident
  pub fields : List ParamTree

-- a function or an actor: the place of its first token, its result, which a void actor gives none of, its name, its parameters,
-- its body, and the place of its closing brace
pub record RoutineTree : Type 0 where
  pub at : Place
  pub returns : TypeTree
  pub name : Ident
  pub params : List ParamTree
  pub body : Body
  pub close : Place

pub data DeclTree : Type 0 where
  StructDecl : RecordTree → DeclTree
  FunctionDecl : RoutineTree → DeclTree
  ActorDecl : RoutineTree → DeclTree

pub record ProgramTree : Type 0 where
  pub decls : List DeclTree
  pub end : Place
