-- The classes of a program: one for each actor, with the same slots and groups in the order of the text.
use Rattle.std.specs.Prelude.{◌≡◌, Bool, List, [], ◌∷◌, map, length}
use Rattle.flow_tree.specs.Body.{WaitTree}
use Rattle.flow_tree.specs.Decls.{RoutineTree, ProgramTree}
use Rattle.flow_ast.specs.Slots.{slots_of, groups_of}
use Rattle.flow_class.specs.Classes.{CallbackTree, ClassTree, RawTree}
use Rattle.flow_meaning.specs.Source.{records_in, functions_in, actors_in}

-- what a wait takes, a result or an element of a stream, for each branch of a group
abbrev pub waits_kinds : List WaitTree → List Bool
waits_kinds [] = []
waits_kinds (w ∷ ws) = w.next ∷ waits_kinds ws

abbrev pub callback_kinds : List CallbackTree → List Bool
callback_kinds [] = []
callback_kinds (c ∷ cs) = c.next ∷ callback_kinds cs

-- A class has the name, the result and the parameters of its actor; its slots are the parameters and then the state
-- variables, and each of its groups is a wait or choose, with its branches in order.
pub record IsClassOf (a : RoutineTree) (c : ClassTree) : Type 0 where
  pub name : c.name ≡ a.name.name
  pub returns : c.returns ≡ a.returns
  pub params : c.params ≡ length a.params
  pub slots : c.slots ≡ slots_of a
  pub groups : map callback_kinds c.groups ≡ map waits_kinds (groups_of a)

abbrev pub AreClassesOf : List RoutineTree → List ClassTree → Type 0
AreClassesOf [] [] = Unit {0}
AreClassesOf [] (c ∷ cs) = ⊥
AreClassesOf (a ∷ rest) [] = ⊥
AreClassesOf (a ∷ rest) (c ∷ cs) = IsClassOf a c × AreClassesOf rest cs

-- the classes of a program, with its records and functions
pub record Shape (p : ProgramTree) (c : RawTree) : Type 0 where
  pub records : c.records ≡ records_in p.decls
  pub functions : c.functions ≡ functions_in p.decls
  pub classes : AreClassesOf (actors_in p.decls) c.classes
