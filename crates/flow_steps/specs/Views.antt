-- What is told of a process between bursts.
use Rattle.std.specs.Prelude.{ℕ, List, map}
use Rattle.std.specs.List.{flat_map}
use Rattle.flow_value.specs.declared.value.Value.{Value}
use Rattle.flow_frame.specs.declared.held.Held.{Held}
use Rattle.flow_frame.specs.Frames.{FrameTree}
use Rattle.flow_cancel.specs.Heap.{HeapTree, actor_id}
use Rattle.flow_steps.specs.declared.views.FrameView.{FrameView}
use Rattle.flow_steps.specs.declared.views.CallbackView.{CallbackView}

-- an unfinished actor, by its number and its frame
abbrev pub frame_view : ℕ × FrameTree Value → FrameView
frame_view x = record { actor = actor_id x.0; class = x.1.class; state = x.1.state }

-- the callbacks of an actor, the first first
abbrev pub callback_view : (actor : ℕ) → Held → CallbackView
callback_view n h = record { actor = actor_id n; callback = h.callback; cell = h.cell }

abbrev pub callback_views : ℕ × FrameTree Value → List CallbackView
callback_views x = map (callback_view x.0) x.1.callbacks

-- the unfinished actors of a heap, by rising number, and their callbacks
abbrev pub frames_in : HeapTree → List FrameView
frames_in h = map frame_view h.frames.things

abbrev pub callbacks_in : HeapTree → List CallbackView
callbacks_in h = flat_map callback_views h.frames.things
