-- The grammar of declarations and programs, and what a program's tokens are refused for.
use Rattle.std.specs.Prelude.{◌≡◌, ℕ, suc, List, [], ◌∷◌, ◌++◌, length}
use Rattle.flow_base.specs.declared.place.Place.{Place}
use Rattle.flow_tree.specs.declared.token.Word.TheVariants as word
use Rattle.flow_tree.specs.declared.token.Sign.TheVariants as sign
use Rattle.flow_tree.specs.declared.token.Tokens.{Tokens}
use Rattle.flow_tree.specs.declared.ty.Ident.{Ident}
use Rattle.flow_tree.specs.declared.decl.RoutineKind.{RoutineKind}
use Rattle.flow_tree.specs.declared.decl.RoutineKind.TheVariants.{Actor, Function}
use Rattle.flow_tree.specs.Tree.{TypeTree, NothingType}
use Rattle.flow_tree.specs.Body.{Body}
use Rattle.flow_tree.specs.Decls.{ParamTree, RecordTree, RoutineTree, DeclTree, StructDecl, FunctionDecl, ActorDecl, ProgramTree}
use Rattle.flow_tree.specs.GrammarToken.{Declaration, Node, Variable, Marked, begin, Derives}
use Rattle.flow_tree.specs.Grammar.{sign_at, word_at, name_at, in_round, in_curly, in_angle, TypeRule}
use Rattle.flow_tree.specs.GrammarStmt.{Counts, StartsAt, StmtsRule}

-- type name, a parameter or a field, with its number in its declaration
pub data ParamRule : ℕ → List Marked → ParamTree → Type 0 where
  param : {n : ℕ} {t : TypeTree} {all : List Marked} (x : Ident) (of : List Marked)
      → TypeRule 1 of t
      → all ≡ begin (Variable n) (of ++ name_at x ∷ [])
      → ParamRule n all (record { ty = t; name = x })

-- fields one after another, the first with this number: { type name ";" }
pub data FieldsRule : ℕ → List Marked → List ParamTree → Type 0 where
  no_fields : {n : ℕ} → FieldsRule n [] []
  more_fields : {n : ℕ} {f : ParamTree} {fs : List ParamTree} {all : List Marked} (p : Place) (xs more : List Marked)
      → ParamRule n xs f → FieldsRule (suc n) more fs
      → all ≡ xs ++ (sign_at sign.Semicolon p ∷ more)
      → FieldsRule n all (f ∷ fs)

-- further parameters, the first with this number: { "," type name }
pub data MoreParamsRule : ℕ → List Marked → List ParamTree → Type 0 where
  end_params : {n : ℕ} → MoreParamsRule n [] []
  more_params : {n : ℕ} {f : ParamTree} {fs : List ParamTree} {all : List Marked} (p : Place) (xs more : List Marked)
      → ParamRule n xs f → MoreParamsRule (suc n) more fs
      → all ≡ sign_at sign.Comma p ∷ (xs ++ more)
      → MoreParamsRule n all (f ∷ fs)

-- [ type name { "," type name } ]
pub data ParamsRule : List Marked → List ParamTree → Type 0 where
  no_params : ParamsRule [] []
  some_params : {f : ParamTree} {fs : List ParamTree} {all : List Marked} (first more : List Marked)
      → ParamRule 1 first f → MoreParamsRule 2 more fs
      → all ≡ first ++ more
      → ParamsRule all (f ∷ fs)

-- "struct" name "{" fields "}" ";", with one field at least
pub data RecordRule : List Marked → RecordTree → Type 0 where
  fields : {f : ParamTree} {fs : List ParamTree} {all : List Marked} (at p q r : Place) (x : Ident) (xs : List Marked)
      → FieldsRule 1 xs (f ∷ fs)
      → all ≡ word_at word.Struct at ∷ name_at x ∷ in_curly p xs q (sign_at sign.Semicolon r ∷ [])
      → RecordRule all (record { at = at; name = x; fields = f ∷ fs })

-- name "(" params ")" "{" statements "}" of such a routine; its statements have depth 2, and an actor's state
-- variables go on from its parameters
pub data RoutineRule : RoutineKind → Place → TypeTree → List Marked → RoutineTree → Type 0 where
  routine : {home : RoutineKind} {at : Place} {t : TypeTree} {c : Counts} {ps : List ParamTree} {body : Body} {all : List Marked}
      (p q r close : Place) (x : Ident) (params xs : List Marked)
      → ParamsRule params ps → StmtsRule home 2 (record { statements = 0; variables = length ps }) c xs body
      → all ≡ name_at x ∷ in_round p params q (in_curly r xs close [])
      → RoutineRule home at t all (record { at = at; returns = t; name = x; params = ps; body = body; close = close })

-- type routine: a function, of a program or of a class text
pub data FunctionRule : RoutineKind → List Marked → RoutineTree → Type 0 where
  function : {home : RoutineKind} {t : TypeTree} {f : RoutineTree} {all : List Marked} (at : Place) (of xs : List Marked)
      → TypeRule 1 of t → RoutineRule home at t xs f
      → all ≡ of ++ xs
      → StartsAt all at → FunctionRule home all f

-- "ACTOR" ( "Future" "<" type ">" | "void" ) routine; the type in brackets has depth 2
pub data ActorRule : List Marked → RoutineTree → Type 0 where
  actor : {t : TypeTree} {f : RoutineTree} {all : List Marked} (at p q r : Place) (of xs : List Marked)
      → TypeRule 2 of t → RoutineRule Actor at t xs f
      → all ≡ word_at word.Actor at ∷ word_at word.Future p ∷ in_angle q of r xs
      → ActorRule all f
  void_actor : {f : RoutineTree} {all : List Marked} (at p : Place) (xs : List Marked)
      → RoutineRule Actor at NothingType xs f
      → all ≡ word_at word.Actor at ∷ word_at word.NoResult p ∷ xs
      → ActorRule all f

-- record | function | actor
pub data DeclRule : List Marked → DeclTree → Type 0 where
  record_decl : {r : RecordTree} {all : List Marked} → RecordRule all r → DeclRule all (StructDecl r)
  function_decl : {f : RoutineTree} {all : List Marked} → FunctionRule Function all f → DeclRule all (FunctionDecl f)
  actor_decl : {f : RoutineTree} {all : List Marked} → ActorRule all f → DeclRule all (ActorDecl f)

-- declarations one after another, the first with this number; a declaration has depth 1
pub data DeclsRule : ℕ → List Marked → List DeclTree → Type 0 where
  no_decls : {n : ℕ} → DeclsRule n [] []
  more_decls : {n : ℕ} {x : DeclTree} {xs : List DeclTree} {all : List Marked} (first more : List Marked)
      → DeclRule first x → DeclsRule (suc n) more xs
      → all ≡ begin (Declaration n) (begin (Node 1) first) ++ more
      → DeclsRule n all (x ∷ xs)

-- a program, which ends at this place
pub data ProgramRule : Place → List Marked → ProgramTree → Type 0 where
  program : {end : Place} {xs : List DeclTree} {all : List Marked}
      → DeclsRule 1 all xs
      → ProgramRule end all (record { decls = xs; end = end })

-- the tokens are derived as this program, within the limits L3 to L7
abbrev pub IsProgram : Tokens → ProgramTree → Type 0
IsProgram t p = Derives (ProgramRule t.end) 7 t.spots.items p
