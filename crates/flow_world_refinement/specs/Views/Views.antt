-- What is told of a heap between events are the views of the process that it shows.
use Rattle.std.specs.Prelude.{◌≡◌, map}
use Rattle.flow_class.specs.Classes.{RawTree}
use Rattle.flow_cancel.specs.Heap.{HeapTree, actor_id, cell_id}
use Rattle.flow_steps.specs.declared.views.FrameView.{FrameView}
use Rattle.flow_steps.specs.declared.views.CallbackView.{CallbackView}
use Rattle.flow_steps.specs.Views.{frames_in, callbacks_in}
use Rattle.flow_meaning.specs.Frame.{Frame}
use Rattle.flow_meaning.specs.Law.{AtRest}
use Rattle.flow_meaning.specs.Process.{Proc}
use Rattle.flow_meaning.specs.Views.{Unfinished, WaitingBranch, Frames, Callbacks}
use Rattle.flow_heap_refinement.specs.Representing.{Represents}
use Rattle.flow_heap_refinement.specs.Rested.{Sorted}
use Rattle.flow_world_refinement.specs.Views.Waiting.{InState}

-- an unfinished actor, and a branch at which one waits, as they are told
abbrev pub told_frame : Unfinished → FrameView
told_frame u = record { actor = actor_id u.actor; class = u.class; state = u.group }

abbrev pub told_callback : WaitingBranch → CallbackView
told_callback b = record { actor = actor_id b.actor; callback = b.branch; cell = cell_id b.cell }

-- The frames of a heap in order that shows a process at rest are the unfinished actors of the process, in the
-- order of their numbers, and its callbacks are the branches at which these wait.
abbrev pub ViewsShown : Type 0
ViewsShown =
    (r : RawTree) (h : HeapTree) (p : Proc Frame) → Represents r h p → Sorted h → AtRest p.core → InState p
    → (frames_in h ≡ map told_frame (Frames p)) × (callbacks_in h ≡ map told_callback (Callbacks p))
