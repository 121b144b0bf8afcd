-- A process that never ran, and one after a loss of power, are at rest.
use Rattle.flow_class.specs.Classes.{RawTree}
use Rattle.flow_cancel.specs.Heap.{HeapTree, no_heap, cleared}
use Rattle.flow_meaning.specs.Process.{Proc}
use Rattle.flow_meaning.specs.Deliver.{idle, vanish}
use Rattle.flow_meaning.specs.Frame.{Frame}
use Rattle.flow_heap_refinement.specs.Representing.{Represents}
use Rattle.flow_heap_refinement.specs.Rested.{Rested}

abbrev pub IdleRests : Type 0
IdleRests = (r : RawTree) → Rested r no_heap idle

abbrev pub VanishedRests : Type 0
VanishedRests = (r : RawTree) (h : HeapTree) (p : Proc Frame) → Represents r h p → Rested r (cleared h) (vanish p)
