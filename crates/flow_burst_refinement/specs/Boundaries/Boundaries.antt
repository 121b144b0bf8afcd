-- What each process of a run of valid classes keeps where an event of it begins.
use Rattle.std.specs.Prelude.{◌≡◌, ◌<◌, ℕ, true, false, List, ◌∷◌, slice_index_or}
use Rattle.std.specs.List.{AllByRecursion}
use Rattle.std.specs.declared.option.Option.TheVariants.{None, Some}
use Rattle.flow_timers.specs.Pending.{Pending}
use Rattle.flow_worldfile.specs.Worlds as file
use Rattle.flow_value.specs.declared.value.Kind.TheVariants as kind
use Rattle.flow_class.specs.Classes.{RawTree}
use Rattle.flow_meaning.specs.Process.{Proc}
use Rattle.flow_meaning.specs.Orderly.{UnlessStopped}
use Rattle.flow_meaning.specs.Burst.{Live, Burst}
use Rattle.flow_meaning.specs.Deliver.{idle}
use Rattle.flow_meaning.specs.Outside.{What, Outside, host}
use Rattle.flow_meaning.specs.World.{Place, World, Begun, next_of, ready, begun_by, at_start}
use Rattle.flow_meaning.specs.Runs.{before, after}
use Rattle.flow_meaning.specs.Frame.{Frame}
use Rattle.flow_meaning.specs.Class.{classes}
use Rattle.flow_heap_refinement.specs.Rested.{has}
use Rattle.flow_invariants.specs.Fitting.Due.{sets}
use Rattle.flow_invariants.specs.Fitting.Among.{WorldFits}
use Rattle.flow_invariants.specs.Owned.{Unset}
use Rattle.flow_operation_refinement.specs.Working.{Sendable}
use Rattle.flow_burst_refinement.specs.Invariants.Invariant.{ProcessInvariant}

-- Each process of a world fits among the pending events, and the cells that it is to set itself are
-- unset.
pub record WorldKeeps (r : RawTree) (w : World Frame) : Type 0 where
  pub fits : WorldFits r w
  pub unset : AllByRecursion (λ (a : Place Frame). Unset a.proc.core) w.places

-- So it is in the world of a file in range before its first event, and after each event.
abbrev pub StartKeeps : RawTree → Type 0
StartKeeps r = (w : file.World) → file.IsInRange w → WorldKeeps r (at_start w)

abbrev pub EventKeeps : RawTree → Type 0
EventKeeps r =
    (w : World Frame) (b : Begun Frame) (l : Live Outside Frame) → WorldKeeps r w
    → begun_by (classes r) w (next_of w.out) ≡ Some b → Burst (classes r) host (before b) l
    → l.proc.core.halted ≡ None → WorldKeeps r (after w b l)

-- a process between events
abbrev pub process_at : World Frame → ℕ → Proc Frame
process_at w n = (slice_index_or w.places n (record { up = false; proc = idle })).proc

-- It keeps what it has to where an event begins, and where the burst of the event begins.
abbrev pub ReadyKept : RawTree → Type 0
ReadyKept r = (w : World Frame) (n : ℕ) → WorldKeeps r w → n < w.out.file.processes → ProcessInvariant r (ready w n).proc

abbrev pub BegunKept : RawTree → Type 0
BegunKept r =
    (w : World Frame) (b : Begun Frame) → WorldKeeps r w → begun_by (classes r) w (next_of w.out) ≡ Some b
    → UnlessStopped b.place.proc.core.halted (ProcessInvariant r b.place.proc)

-- What the next event sets is the cell of an open request, and unset.
abbrev pub AnswerDue : RawTree → Type 0
AnswerDue r =
    (w : World Frame) (n k : ℕ) (x : Pending What) (left : List (Pending What)) → WorldKeeps r w
    → n < w.out.file.processes → w.out.events.pending ≡ x ∷ left → sets n k x.what ≡ true
    → (has k (process_at w n).core.requests ≡ true) × Sendable (process_at w n) kind.Promise k
