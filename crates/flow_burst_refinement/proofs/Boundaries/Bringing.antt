-- What is brought to a process in memory at the begin of an event leaves it as bursts need it.
use Rattle.std.proofs.Common.{◌⊎◌, inl, inr, ℕ, Bool, true, false, [], refl, subst, ◌∙◌}
use Rattle.std.specs.Prelude.{nat_lt, if◌then◌else◌}
use Rattle.std.specs.declared.option.Option.{Option}
use Rattle.std.specs.declared.option.Option.TheVariants.{None, Some}
use Rattle.flow_base.specs.declared.ids.CellId.{CellId}
use Rattle.flow_value.specs.declared.value.Kind.{Kind}
use Rattle.flow_value.specs.declared.value.Kind.TheVariants as kind
use Rattle.flow_value.specs.declared.value.Outcome.{Outcome}
use Rattle.flow_value.specs.declared.value.Outcome.TheVariants as outcome
use Rattle.flow_class.specs.Classes.{RawTree}
use Rattle.flow_cancel.specs.Heap.{HeapTree}
use Rattle.flow_meaning.specs.Process.{Proc}
use Rattle.flow_meaning.specs.Orderly.{UnlessStopped}
use Rattle.flow_meaning.specs.Frame.{Frame}
use Rattle.flow_heap_refinement.specs.Counted.{nothing_in_hand}
use Rattle.flow_heap_refinement.specs.Holds.{hold_all}
use Rattle.flow_steps.specs.declared.process.Process.{Process}
use Rattle.flow_steps.specs.Doing.{begun, turned}
use Rattle.flow_steps.specs.Holding.{on_heap, outcome_refs}
use Rattle.flow_steps.specs.Delivering.{brought, content_brought, answered, main_dropped}
use Rattle.flow_operation_refinement.specs.Matching.{Matches, shows, ends, AreSpent}
use Rattle.flow_step_refinement.proofs.Effects.Brings.{event_begins, delivered, arrived, stopped}
use Rattle.flow_step_refinement.specs.Resuming.{NoStaleWaits}
use Rattle.flow_step_refinement.proofs.Resuming.Aside as aside
use Rattle.flow_step_refinement.proofs.Resuming.Aside.{Aside}
use Rattle.flow_step_refinement.proofs.Resuming.Steps.{aside_poised, turned_good}
use Rattle.flow_burst_refinement.specs.Invariants.Invariant.{ProcessInvariant}
use Rattle.flow_burst_refinement.specs.Invariants.Allowed.{BetweenTasks}
use Rattle.flow_burst_refinement.proofs.Invariants.Rising.{HeapStays, still, and_then, hold_all_stays, filled_stays}
use Rattle.flow_burst_refinement.proofs.Invariants.Quiet.{Quiet, quiet_still, quiet_then, quiet_speaks, speaks_stay, on_heap_quiet, turned_quiet}
use Rattle.flow_burst_refinement.proofs.Invariants.Once.{sorted_stays}
use Rattle.flow_burst_refinement.specs.Boundaries.Delivering as law
use Rattle.flow_burst_refinement.specs.Boundaries.Delivering.{Resting, IsDelivered}

-- what is brought, and what it does to the heap
module _ (kd : Kind) (k : ℕ) (o : Outcome) (m : Process) where
  content_stays : (h : HeapTree) → HeapStays h (content_brought kd k o h)
  content_stays h = and_then h (hold_all (outcome_refs o) h) (content_brought kd k o h) (hold_all_stays (outcome_refs o) h) (filled_stays kd k o (hold_all (outcome_refs o) h))

  content_aside : (h : HeapTree) → Aside h (content_brought kd k o h)
  content_aside h = aside.and_then h (hold_all (outcome_refs o) h) (content_brought kd k o h) (aside.holding_all (outcome_refs o) h) (aside.filling kd k o (hold_all (outcome_refs o) h))

  brought_quiet : Quiet m (brought kd k o m)
  brought_quiet = by_turn (nat_lt 0 m.left)
    where
      by_turn : (b : Bool) → Quiet m (if b then on_heap (content_brought kd k o) (turned m) else turned m)
      by_turn true = quiet_then m (turned m) (on_heap (content_brought kd k o) (turned m)) (turned_quiet m) (on_heap_quiet (content_brought kd k o) (turned m) (content_stays (turned m).heap))
      by_turn false = turned_quiet m

  brought_poised : NoStaleWaits m.heap → NoStaleWaits (brought kd k o m).heap
  brought_poised p = by_turn (nat_lt 0 m.left)
    where
      by_turn : (b : Bool) → NoStaleWaits (if b then on_heap (content_brought kd k o) (turned m) else turned m).heap
      by_turn true = aside_poised (turned m).heap (content_brought kd k o (turned m).heap) (content_aside (turned m).heap) (turned_good m p)
      by_turn false = turned_good m p

answered_stays : (k : ℕ) (h : HeapTree) → HeapStays h (answered k h)
answered_stays k h = record { rise = λ s. record { cells = s.cells; streams = s.streams; actors = s.actors; frames = s.frames }; ports = refl }

answered_aside : (k : ℕ) (h : HeapTree) → Aside h (answered k h)
answered_aside k h = record { frames = refl; ends = λ i e. inr e }

dropped_stays : (o : Option CellId) (h : HeapTree) → HeapStays h (main_dropped o h)
dropped_stays None h = still h
dropped_stays (Some k) h = record { rise = λ s. record { cells = s.cells; streams = s.streams; actors = s.actors; frames = s.frames }; ports = refl }

dropped_aside : (o : Option CellId) (h : HeapTree) → Aside h (main_dropped o h)
dropped_aside None h = aside.still h
dropped_aside (Some k) h = record { frames = refl; ends = λ i e. inr e }

module _ (r : RawTree) (m : Process) (p : Proc Frame) (now turns : ℕ) where
  abbrev start : Process
  start = begun now turns m

  is_brought : (n : Process) (q : Proc Frame) → Resting r m p → Quiet start n → NoStaleWaits n.heap → Matches r [] nothing_in_hand n q → IsDelivered r now n q
  is_brought n q rest quiet poised follows = record {
    follows = follows;
    sorted = sorted_stays start n (speaks_stay start n (quiet_speaks start n rest.shown.asked quiet)) rest.sorted;
    poised = poised;
    asked = quiet.asked ∙ rest.shown.asked;
    time = quiet.calm.time;
  }

  pub begin_brings : law.BeginBrings r m p now turns
  begin_brings rest = is_brought start _ rest (quiet_still start) rest.poised (shows (event_begins r m p now turns rest.shown))

  pub answer_brings : law.AnswerBrings r m p now turns
  answer_brings k o rest requested can there =
      let n = on_heap (answered k) start in
      is_brought (brought kind.Promise k o n) _ rest
      (quiet_then start n (brought kind.Promise k o n) (on_heap_quiet (answered k) start (answered_stays k start.heap)) (brought_quiet kind.Promise k o n))
      (brought_poised kind.Promise k o n (aside_poised start.heap (answered k start.heap) (answered_aside k start.heap) rest.poised))
      (delivered r m p now turns k o rest.shown requested can there)

  pub element_brings : law.ElementBrings r m p now turns
  element_brings k v rest can there =
      is_brought (brought kind.PromiseStream k (outcome.Value v) start) _ rest (brought_quiet kind.PromiseStream k (outcome.Value v) start)
      (brought_poised kind.PromiseStream k (outcome.Value v) start rest.poised) (arrived r m p now turns k v rest.shown can there)

  pub stop_brings : law.StopBrings r m p now turns
  stop_brings rest =
      let main = start.heap.main in
      is_brought (on_heap (main_dropped main) start) _ rest (on_heap_quiet (main_dropped main) start (dropped_stays main start.heap))
      (aside_poised start.heap (main_dropped main start.heap) (dropped_aside main start.heap) rest.poised) (stopped r m p now turns rest.shown)

pub burst_begins : law.BurstBegins
burst_begins r now n p is kept = by_follows is.follows
  where
    by_follows : Matches r [] nothing_in_hand n p → BetweenTasks r [] n p ⊎ AreSpent [] n p
    by_follows (shows s) = inl (record { shown = s; sorted = is.sorted; kept = subst (λ h. UnlessStopped h (ProcessInvariant r p)) s.goes kept })
    by_follows (ends s) = inr s
