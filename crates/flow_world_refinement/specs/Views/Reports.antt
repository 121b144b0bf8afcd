-- What a world in memory answers of its unfinished actors between events.
use Rattle.std.specs.Prelude.{◌≡◌, ℕ, ◌+◌, List, [], ◌∷◌, map, length, slice_get, slice_index_or}
use Rattle.flow_class.specs.Classes.{RawTree}
use Rattle.flow_meaning.specs.Boundaries.{FramesIn, CallbacksIn}
use Rattle.flow_meaning.specs.Frame.{Frame}
use Rattle.flow_meaning.specs.Process.{Proc}
use Rattle.flow_meaning.specs.Views.{Unfinished}
use Rattle.flow_meaning.specs.World.{World}
use Rattle.flow_steps.specs.declared.process.Process.{Process}
use Rattle.flow_world.specs.Ending.{Seen}
use Rattle.flow_world.specs.Views.{frames_at, callbacks_at, live_in}
use Rattle.flow_world_refinement.specs.Order.Showing.{WorldRepresents}
use Rattle.flow_heap_refinement.specs.Representing.{Represents}
use Rattle.flow_heap_refinement.specs.Rested.{Sorted}
use Rattle.flow_world_refinement.specs.Views.Views.{told_frame, told_callback}
use Rattle.flow_world_refinement.specs.Views.Waiting.{WorldWaits}

-- how many unfinished actors all processes have
abbrev pub total : List (List Unfinished) → ℕ
total [] = 0
total (us ∷ rest) = length us + total rest

-- Its answers are the views of the world that it shows: of each process, and how many actors are unfinished.
pub record AreTold (w : Seen) (m : World Frame) : Type 0 where
  pub frames : (n : ℕ) → frames_at (slice_get w.places n) ≡ map told_frame (slice_index_or (FramesIn m) n [])
  pub callbacks : (n : ℕ) → callbacks_at (slice_get w.places n)
      ≡ map told_callback (slice_index_or (CallbacksIn m) n [])
  pub live : live_in w.places ≡ total (FramesIn m)

-- So it is where a process in memory that rests shows the other, its numbers in order.
abbrev pub WorldTold : (Rests : Process → Proc Frame → Type 0) → RawTree → Type 0
WorldTold Rests r =
    ((m : Process) (p : Proc Frame) → Rests m p → Represents r m.heap p × Sorted m.heap)
    → (w : Seen) (m : World Frame) → WorldRepresents Rests w m → WorldWaits m → AreTold w m
