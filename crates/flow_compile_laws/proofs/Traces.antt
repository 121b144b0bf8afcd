-- The classes of an accepted program are carried.
use Rattle.std.specs.Prelude.{List, [], ◌∷◌}
use Rattle.std.specs.List.{AllByRecursion}
use Rattle.flow_tree.specs.declared.decl.Program.{Program}
use Rattle.flow_tree.specs.DeclView.{program_of}
use Rattle.flow_class.specs.Classes.{ClassTree}
use Rattle.flow_lower.specs.Compiled.{compiled}
use Rattle.flow_lowering_laws.specs.Programs.{HasFewPlaces, IsFaithful}
use Rattle.flow_compile_laws.specs.Simulation.Memories.{IsNumbered}
use Rattle.flow_compile_laws.specs.Simulation.Carried.{AreCarried}

numbered : (cs : List ClassTree) → AllByRecursion HasFewPlaces cs → AllByRecursion IsNumbered cs
numbered [] h = tt
numbered (c ∷ cs) h = (record { slots = h.0.slots; locals = h.0.locals }, numbered cs h.1)

pub are_carried : (program : Program) → IsFaithful program → AreCarried (program_of program) (compiled (program_of program))
are_carried program h = record { shape = h.shape; carries = h.carries; numbered = numbered (compiled (program_of program)).classes h.few }
