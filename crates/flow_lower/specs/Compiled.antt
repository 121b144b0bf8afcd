-- The classes of a program, and the actors that have none.
use Rattle.std.specs.Prelude.{◌≡◌, ℕ, nat_le, List, [], ◌∷◌, map, Result, Ok, Err, if◌then◌else◌}
use Rattle.std.specs.declared.option.Option.{Option}
use Rattle.std.specs.declared.option.Option.TheVariants.{None, Some}
use Rattle.flow_base.specs.declared.place.Place.{Place}
use Rattle.flow_tree.specs.Decls.{RoutineTree, ProgramTree}
use Rattle.flow_class.specs.Classes.{ClassTree, RawTree}
use Rattle.flow_layout.specs.Laying.{layout_of}
use Rattle.flow_meaning.specs.Evaluating.{Names}
use Rattle.flow_meaning.specs.Source.{names_of, records_in, functions_in, actors_in}
use Rattle.flow_split.specs.Lowered.{lowered_class}
use Rattle.flow_lower.specs.declared.compiling.CompileFault.{CompileFault}
use Rattle.flow_lower.specs.declared.compiling.CompileFault.TheVariants.{TooManyBlocks, OutOfMemory}
use Rattle.flow_lower.specs.Weighing.{first_heavy}

-- the class of an actor of a program with these names
abbrev pub class_in : Names → RoutineTree → ClassTree
class_in ns a = lowered_class ns (layout_of a) a

-- the records and functions of a program, and the class of each of its actors, in the order of the text
abbrev pub compiled : ProgramTree → RawTree
compiled p = record {
  records = records_in p.decls;
  functions = functions_in p.decls;
  classes = map (class_in (names_of p)) (actors_in p.decls);
}

-- a program has these classes
abbrev pub Has : ProgramTree → RawTree → Type 0
Has p r = r ≡ compiled p

-- The classes come exactly where no actor weighs too much, and otherwise the first that does is told; want of memory may come
-- anywhere. Classes of any type that shows them as plain data.
abbrev pub Compiles : {C : Type 0} → (C → RawTree) → ProgramTree → Result C CompileFault → Type 0
Compiles seen p (Ok c) = Has p (seen c) × (first_heavy p.decls ≡ None)
Compiles seen p (Err (TooManyBlocks at)) = first_heavy p.decls ≡ Some at
Compiles seen p (Err OutOfMemory) = Unit {0}
