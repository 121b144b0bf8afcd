-- No event of a world in memory is stuck, and one that fails has put a first part of its lines.
use Rattle.std.proofs.Common.{◌≡◌, inl, inr, ℕ, zero, suc, ◌<◌, ◌≤◌, ◌+◌, pos, Bool, true, false, List, [], ◌∷◌, Option, Some, None, length, refl, sym, ap, ap₂, ◌∙◌, subst, arith, if◌then◌else◌}
use Rattle.std.specs.Prelude.{slice_get, is_some, map, nat_eq, Result, Ok, Err}
use Rattle.std.specs.Option.{option_map}
use Rattle.std.specs.List.{AllByRecursion}
use Rattle.flow_numbered.specs.Numbered.{Numbered, thing}
use Rattle.flow_meaning.specs.Cells.{PromiseSide, Cell, Single, Stream}
use Rattle.flow_meaning.specs.References.{one, in_ports, refs_in, value_in}
use Rattle.flow_meaning.specs.Outside.{Outside, host}
use Rattle.flow_meaning.specs.World.{Place, World, Begun, Next, Nothing, Script, Event as ComesEvent, next_of, begun_by, ordered, happened, ready, alone, kept_line, disk_line, counted, with_left, with_core, with_disk, disk_of, disk_outcome, packet, listener, process_of, process_in}
use Rattle.flow_meaning.specs.Burst.{Live, live, Burst}
use Rattle.flow_meaning.specs.Runs.{before, lines_of}
use Rattle.flow_meaning.proofs.BurstOnce.{burst_once}
use Rattle.flow_meaning.specs.Deliver.{deliver, arrive}
use Rattle.flow_meaning.specs.Process.{Core, Proc}
use Rattle.flow_meaning.specs.Orderly.{UnlessStopped}
use Rattle.flow_meaning.proofs.Posture.{same_number}
use Rattle.flow_meaning.proofs.Shifts.{same_of}
use Rattle.flow_meaning.proofs.InOrder.{no_thing}
use Rattle.flow_worldfile.specs.Worlds.{order_of}
use Rattle.flow_worldfile.specs.Directives.{OrderNames}
use Rattle.flow_world.specs.BreakingEvents.{NoProcess, NoLink, NoDisk, PutFails, PutBreaks, unput, line_put, ActsBreaks, ActsAtBreaks, no_process, not_among, acts_break, RunsBreaks, LossBreaks, not_lost, lost}
use Rattle.flow_world.specs.BreakingEvents.{OrderedBreaks, TakenBreaks, ArrivalBreaks, ArrivedBreaks, not_on_way, not_taken, ReplyBreaks, AnsweredBreaks, unserved, served as answers, HappenedBreaks}
use Rattle.flow_world.specs.BreakingEvents.{LineBreaks, PendingBreaks, ComesBreaks, MomentBreaks, too_late, comes_breaks, MomentFails, breaks_off, went_on}
use Rattle.flow_world.specs.Around.{PutsPart, no_more, put_then, put_fails}
use Rattle.flow_world.specs.Answers.{answer_line}
use Rattle.flow_world.specs.FaultedLines.{tells as telling}
use Rattle.flow_world.proofs.Putting.{part_more, part_all}
use Rattle.flow_machine.specs.Cause.{fault_of}
use Rattle.flow_machine.specs.declared.host.RunFault.{RunFault}
use Rattle.flow_machine.specs.declared.host.RunFault.TheVariants.{OutOfMemory, Stuck}
use Rattle.flow_world.specs.Ending.{Seen}
use Rattle.flow_world.specs.Changes.{with_events}
use Rattle.flow_world.specs.Happening.{Comes, HeardIn, begins, ends, with_outside, arrived}
use Rattle.flow_world.specs.Representing.{PendingRepresents, ArrivalRepresents, letter_at, coming}
use Rattle.flow_world.specs.declared.outside.What.{What}
use Rattle.flow_world.specs.declared.action.EventAction.{EventAction}
use Rattle.flow_world.specs.declared.action.EventAction.TheVariants.{Boots, Stops, Delivers, Brings}
use Rattle.flow_world.proofs.Events.{disk_served}
use Rattle.flow_invariants.specs.OpenPorts.{IsOpen}
use Rattle.flow_invariants.proofs.OpenPorts.Worlds.{open_at}
use Rattle.flow_world_refinement.proofs.Invariants.Mid.{clock_tells, next_early}
use Rattle.flow_world_refinement.specs.Effects.Actions.{MayBeDone, done_in}
use Rattle.flow_world_refinement.proofs.Effects.Doing.{deeds_follow}
use Rattle.flow_world_refinement.proofs.Effects.Settling.{stays_settled}
use Rattle.flow_world_refinement.proofs.Events.Placing.{place_of, Found, place_found}
use Rattle.flow_world_refinement.proofs.Events.Acting.{Going, shown_at}
use Rattle.flow_world_refinement.proofs.Events.Beginning.{line_begins, event_begins}
use Rattle.flow_world_refinement.proofs.Events.Doing.{GoesOn, Begins, letter_taken, disk_line_is, answers_plain, void_seen}
use Rattle.flow_world_refinement.proofs.Events.Whole.{happening, spent_happening}
use Rattle.flow_world_refinement.proofs.Effects.Vanishing.{fates_are}
use Rattle.flow_world_refinement.specs.Traces.Traced.{EventBegan}
use Rattle.flow_world_refinement.specs.Invariants.{WorldInvariant, latest}
use Rattle.flow_world_refinement.proofs.Events.Events.{heard_there, none_other}
use Rattle.flow_heap_refinement.specs.Representing.{cell_number}
use Rattle.flow_heap_refinement.specs.Holds.{AllThere}
use Rattle.flow_heap_refinement.specs.Rested.{has}
use Rattle.flow_value.specs.declared.value.Value.TheVariants.{Void}
use Rattle.flow_value.specs.Values.{OutcomeTree, GoodOutcome}
use Rattle.flow_machine.specs.declared.host.Burst as burst_end
use Rattle.flow_machine.specs.declared.host.Burst.TheVariants.{Rested, Spent as SpentBurst}
use Rattle.flow_world_refinement.specs.Order.Coming.{LineNext, EventNext, NextMatches}
use Rattle.flow_world_refinement.proofs.Order.Next.{same_next}
use Rattle.flow_end_to_end.specs.Actions.{MayHear}
use Rattle.flow_end_to_end.specs.Events.{MemoryWorldInvariant, NextInPart}
use Rattle.flow_end_to_end.proofs.Deeds.{deed_fails}
use Rattle.flow_base.specs.declared.ids.CellId.{CellId}
use Rattle.flow_base.specs.declared.ids.ProcId.{ProcId}
use Rattle.flow_base.specs.declared.fault.OutFault.{OutFault}
use Rattle.flow_base.specs.declared.fault.OutFault.TheVariants as put
use Rattle.flow_trace.specs.declared.line.Line.{Line}
use Rattle.flow_trace.specs.declared.line.Line.TheVariants as line
use Rattle.flow_timers.specs.Pending.{Pending}
use Rattle.flow_simnet.specs.declared.packet.Letter.{Letter}
use Rattle.flow_simdisk.specs.declared.ask.DiskAsk.{DiskAsk}
use Rattle.flow_class.specs.Classes.{RawTree}
use Rattle.flow_meaning.specs.Class.{classes}
use Rattle.flow_meaning.specs.Frame.{Frame}
use Rattle.flow_machine.specs.Requests.{call_of}
use Rattle.flow_steps.specs.Evaluating.{program_time}
use Rattle.flow_world_refinement.specs.Order.Showing.{WorldRepresents}
use Rattle.flow_invariants.proofs.Fitting.Dues.{own_sets}
use Rattle.flow_invariants.specs.Fitting.Among.{EventNames}
use Rattle.flow_burst_refinement.proofs.Boundaries.Keeping.{ready_kept, answer_due, begun_kept}
use Rattle.flow_burst_refinement.specs.Enabled.Tasking.{IsProgram}
use Rattle.flow_burst_refinement.specs.Invariants.Invariant.{ProcessInvariant}
use Rattle.flow_world_refinement.specs.Effects.Quiescence.{Quiescent}
use Rattle.flow_worldfile.specs.declared.world.Act.{Act}
use Rattle.flow_worldfile.specs.declared.directive.Order.{Order}
use Rattle.flow_invariants.proofs.Fitting.Worlds.{next_in, order_process}
use Rattle.flow_simnet.specs.Links.{numbered}
use Rattle.flow_simdisk.specs.declared.ask.DiskReply.{DiskReply}
use Rattle.flow_simdisk.specs.Disk.{Disk, served}
use Rattle.flow_operation_refinement.specs.Working.{Sendable}
use Rattle.flow_meaning.specs.Outside as meaning
use Rattle.flow_meaning.specs.World as meaning_world
use Rattle.flow_worldfile.specs.Worlds as file
use Rattle.flow_world.specs.declared.place.Place as memory
use Rattle.flow_world.specs.declared.outside.What.TheVariants as what
use Rattle.flow_world_refinement.proofs.Events.Doing as doing
use Rattle.flow_value.specs.declared.value.Outcome.TheVariants as outcome
use Rattle.flow_end_to_end.specs.Events as law
use Rattle.flow_value.specs.declared.value.Kind.TheVariants as kind
use Rattle.flow_worldfile.specs.declared.world.Act.TheVariants as act

-- what is looked for by a number below the length is there
found_below : {X : Type 0} (xs : List X) (n : ℕ) → n < length xs → slice_get xs n ≡ None → ⊥
found_below [] n l none = omega (arith, l)
found_below (x ∷ xs) zero l none = cc (none)
found_below (x ∷ xs) (suc n) l none = found_below xs n (omega (arith, l)) none

none_some : {X : Type 0} {o : Option X} {x : X} → o ≡ None → o ≡ Some x → ⊥
none_some a b = cc

-- a port that is heard has a stream without an end
one_stands : (k : ℕ) → one PromiseSide k PromiseSide k ≡ 1
one_stands k = ap (λ (b : Bool). if b then 1 else 0) (same_number k)

port_counts : (port k : ℕ) (ps : Numbered ℕ) → thing ps port ≡ Some k → 0 < in_ports PromiseSide k ps
port_counts port k [] e = absurd (no_thing e)
port_counts port k (x ∷ ps) e = by_test (nat_eq port x.0) e (port_counts port k ps)
  where
    by_test : (b : Bool) → (if b then Some x.1 else thing ps port) ≡ Some k → (thing ps port ≡ Some k → 0 < in_ports PromiseSide k ps)
        → 0 < one PromiseSide k PromiseSide x.1 + in_ports PromiseSide k ps
    by_test true f rest = let a = ap (one PromiseSide k PromiseSide) (same_of f) in let b = one_stands k in omega (arith, a, b)
    by_test false f rest = let a = rest f in omega (arith, a)

open_sends : (p : Proc Frame) (k : ℕ) (o : Option Cell) → thing p.core.cells k ≡ o → IsOpen o → Sendable p kind.PromiseStream k
open_sends p k None at h = absurd h
open_sends p k (Some (Single content ws)) at h = absurd h
open_sends p k (Some (Stream queue None w)) at h = record { cell = Stream queue None w; at = at; right = tt; incomplete = refl }
open_sends p k (Some (Stream queue (Some end) w)) at h = absurd h

-- the fault of a put, and want of memory, are no place where it is stuck
pub not_stuck : (x : OutFault) → fault_of x ≡ Stuck → ⊥
not_stuck put.Failed e = cc (e)
not_stuck put.OutOfMemory e = cc (e)

pub memory_not_stuck : (f : RunFault) → f ≡ OutOfMemory → f ≡ Stuck → ⊥
memory_not_stuck f is e = cc (is, e)

-- A begun event fails: it isn't stuck, and what was put is a first part of its lines.
module _ (r : RawTree) {A : Type 0} (puts : A → Line → Result (Unit {0}) OutFault → A → Type 0) where
  record Fails (g : Begun Frame) (a : A) (f : RunFault) (b : A) : Type 0 where
    unstuck : f ≡ Stuck → ⊥
    part : (l : Live Outside Frame) → Burst (classes r) host (before g) l → PutsPart puts a (lines_of g l) b

  -- so does its process, after its line
  abbrev ProcessFails : Place Frame → Outside → A → RunFault → A → Type 0
  ProcessFails x o a f b = (f ≡ Stuck → ⊥) × ((l : Live Outside Frame) → Burst (classes r) host (live x.proc o) l → PutsPart puts a l.proc.core.lines b)

  none_put : (a b : A) (ls : List Line) → b ≡ a → PutsPart puts a ls b
  none_put a b ls same = subst (λ z. PutsPart puts a ls z) (sym same) no_more

  nothing_put : (x : Place Frame) (o : Outside) (a : A) (f : RunFault) (b : A) → (f ≡ Stuck → ⊥) → b ≡ a → ProcessFails x o a f b
  nothing_put x o a f b why same = (why, λ l run. none_put a b l.proc.core.lines same)

  -- the line of the event isn't put, or it is, and what follows breaks off
  line_fails : (h k : Line) (x : Place Frame) (o : Outside) (a : A) (f : RunFault) (b : A) → k ≡ h → PutFails puts k a f b → Fails (alone h x o) a f b
  line_fails h k x o a f b same t = record {
    unstuck = λ e. not_stuck t.fault (sym t.is ∙ e);
    part = λ l run. put_fails (subst (λ z. puts a z (Err t.fault) b) same t.put);
  }

  line_first : (h k : Line) (x : Place Frame) (o : Outside) (a c : A) (f : RunFault) (b : A) → k ≡ h → puts a k (Ok tt) c → ProcessFails x o c f b → Fails (alone h x o) a f b
  line_first h k x o a c f b same told t = record { unstuck = t.0; part = λ l run. put_then (subst (λ z. puts a z (Ok tt) c) same told) (t.1 l run) }

  line_breaks : (h k : Line) (x : Place Frame) (o : Outside) (a : A) (f : RunFault) (b : A) (then_breaks : A → Type 0) → k ≡ h → ((c : A) → then_breaks c → ProcessFails x o c f b)
      → PutBreaks puts k then_breaks a f b → Fails (alone h x o) a f b
  line_breaks h k x o a f b then_breaks same more (unput t) = line_fails h k x o a f b same t
  line_breaks h k x o a f b then_breaks same more (line_put c told t) = line_first h k x o a c f b same told (more c t)

module _ (r : RawTree) {A : Type 0} (puts : A → Line → Result (Unit {0}) OutFault → A → Type 0) (m : World Frame) (up : MemoryWorldInvariant r m) where
  abbrev was : ProcId → Place Frame
  was p = place_of m.places p.0

  -- a deed that is done to a process
  module _ (u : Seen) (o : Outside) (p : ProcId) (g : Begins r puts m u o p) (within : p.0 < m.out.file.processes) where
    here : Found u.places p.0
    here = place_found (Quiescent r) m.out.file.processes 0 p.0 u.places m.places g.going.places (subst (λ k. p.0 < k) (sym up.lasting.keeps.fits.count) within)

    process_there : NoProcess p u → ⊥
    process_there none = none_some none here.there

    among : u.outside.net.processes ≡ m.out.file.processes
    among = g.going.outside.processes ∙ ap (λ (f : file.World). f.processes) g.going.file

    module _ (d : EventAction) (a : A) (f : RunFault) (b : A) (hear : MayHear d (was p).proc)
        (kept : let x = (done_in r m.out.file.turns p.0 d (was p)).proc in UnlessStopped x.core.halted (ProcessInvariant r x)) where
      abbrev Done : Type 0
      Done = ProcessFails r puts (done_in r m.out.file.turns p.0 d (was p)) o a f b

      acts_fail : ((at : memory.Place) → slice_get u.places p.0 ≡ Some at → MayBeDone d (was p).proc) → ActsAtBreaks puts p d u a f b → Done
      acts_fail may (no_process is none) = absurd (process_there none)
      acts_fail may (not_among at is there (inl few)) = absurd (let same = among in omega (arith, few, same, within))
      acts_fail may (not_among at is there (inr other)) =
          absurd (other ((shown_at r m u o p at g.going there).processes_are ∙ sym g.going.outside.processes))
      acts_fail may (acts_break at there breaks) =
          deed_fails puts r u.code g.program m.out.file.turns p d (was p) o at u.outside a f b
          (record {
            shows = shown_at r m u o p at g.going there;
            outside = g.going.outside;
            active = g.active;
            clock = g.clock;
            may = may at there;
            held = g.held;
            kept = kept;
          }) hear (subst (λ n. ActsBreaks puts u.code n p d at u.outside a f b) g.going.turns breaks)

      -- it may be done whether or not it boots
      pub does_fail : MayBeDone d (was p).proc → RunsBreaks puts p d u a f b → Done
      does_fail may (inl none) = absurd (process_there none.1)
      does_fail may (inr (held, breaks)) = acts_fail (λ at there. may) breaks

    -- where the process holds its `main` it doesn't boot
    pub boot_fails : (a : A) (f : RunFault) (b : A) → (let x = (done_in r m.out.file.turns p.0 Boots (was p)).proc in UnlessStopped x.core.halted (ProcessInvariant r x)) → RunsBreaks puts p Boots u a f b
        → ProcessFails r puts (done_in r m.out.file.turns p.0 Boots (was p)) o a f b
    boot_fails a f b kept (inl none) = absurd (process_there none.1)
    boot_fails a f b kept (inr (held, breaks)) = acts_fail Boots a f b tt kept (λ at there. main_none at there) breaks
      where
        some_not : (x : Option CellId) → is_some x ≡ false → x ≡ None
        some_not None e = refl
        some_not (Some k) e = cc (e)

        main_none : (at : memory.Place) → slice_get u.places p.0 ≡ Some at → (was p).proc.core.main ≡ None
        main_none at there =
            let same : held.at ≡ at = same_of (sym held.there ∙ there) in
            let unheld : is_some at.machine.process.heap.main ≡ false = subst (λ (z : memory.Place). is_some z.machine.process.heap.main ≡ false) same (sym held.held_is) in
            (shown_at r m u o p at g.going there).rests.resting.shown.holds.shows.main ∙ ap (option_map cell_number) (some_not at.machine.process.heap.main unheld)

    -- there is a disk of the process
    disk_there : u.outside.disks ≡ m.out.disks → NoDisk p u → ⊥
    disk_there same none =
        let few = up.disks in found_below m.out.disks p.0 (omega (arith, few, within)) (ap (λ ds. slice_get ds p.0) (sym same) ∙ none)

  module _ (w : Seen) (program : IsProgram r w.code) (s : WorldRepresents (Quiescent r) w m) (bound : w.ran < w.bound) where
    -- programs can tell the time of the next event
    tells : (t : ℕ) → t ≤ latest up.lasting.slack m.out.ran → program_time t ≡ pos t
    tells t early =
        let ran = s.ran in
        let events = s.bound in
        let within : m.out.ran < m.out.file.events = omega (arith, bound, ran, events) in
        let many = up.lasting.times.file.events in clock_tells up.lasting.slack t m.out.ran up.lasting.few early (omega (arith, within, many))

    kept_on : (g : Begun Frame) → begun_by (classes r) m (next_of m.out) ≡ Some g → GoesOn r puts g
    kept_on g q = begun_kept r program.whole.valid m g up.lasting.keeps q

    begins_at : (u : Seen) (o : Outside) (p : ProcId) → u.code ≡ w.code → Going r m u o → p.0 ≡ o.active → program_time u.outside.time ≡ pos u.outside.time → p.0 < m.out.file.processes
        → Begins r puts m u o p
    begins_at u o p code going active clock within = record {
      program = subst (IsProgram r) (sym code) program;
      deed = deeds_follow puts r u.code;
      still = stays_settled r;
      going = going;
      active = active;
      clock = clock;
      held = ready_kept r program.whole.valid m p.0 up.lasting.keeps within;
    }

    -- a line of the script
    module _ (t : ℕ) (left : List (ℕ × Order)) (u : Seen) (a : A) (f : RunFault) (b : A) (code : u.code ≡ w.code) (clock : program_time u.outside.time ≡ pos u.outside.time) where
      abbrev out : Act → Outside
      out x = counted t (process_of (order_of x)) (record m.out { script = left })

      abbrev begun_of : Act → Begun Frame
      begun_of x = ordered (classes r) (order_of x) (ready m (process_of (order_of x))) (out x)

      kept_of : (x : Act) → next_of m.out ≡ Script t (order_of x) left → GoesOn r puts (begun_of x)
      kept_of x comes = kept_on (begun_of x) (ap (begun_by (classes r) m) comes)

      same_many : (x : Act) → Going r m u (out x) → u.outside.net.processes ≡ m.out.file.processes
      same_many x going = going.outside.processes

      no_link : (x : Act) (p q : ProcId) → Going r m u (out x) → p.0 < m.out.file.processes → q.0 < m.out.file.processes → NoLink p q u → ⊥
      no_link x p q going first second (inl few) = let same = same_many x going in omega (arith, few, same, first)
      no_link x p q going first second (inr few) = let same = same_many x going in omega (arith, few, same, second)

      -- a loss of power
      loss_fails : (p : ProcId) (g : Begins r puts m u (out (act.Kill p)) p) (within : p.0 < m.out.file.processes) → u.outside.disks ≡ m.out.disks → line.Kill u.ran u.outside.time p ≡ line.Kill (out (act.Kill p)).ran (out (act.Kill p)).time p
          → PutBreaks puts (line.Kill u.ran u.outside.time p) (λ c. LossBreaks puts p u c f b) a f b → Fails r puts (begun_of (act.Kill p)) a f b
      loss_fails p g within disks same (unput t) = record {
        unstuck = λ e. not_stuck t.fault (sym t.is ∙ e);
        part = λ l run. put_fails (subst (λ z. puts a z (Err t.fault) b) same t.put);
      }
      loss_fails p g within disks same (line_put c told (not_lost why none)) = record {
        unstuck = λ e. disk_there u (out (act.Kill p)) p g within disks (why e);
        part = λ l run. put_then (subst (λ z. puts a z (Ok tt) c) same told) (none_put r puts c b _ none);
      }
      loss_fails p g within disks same (line_put c told (lost fates left loses part why)) = record {
        unstuck = λ e. process_there u (out (act.Kill p)) p g within (why e);
        part = λ l run. put_then (subst (λ z. puts a z (Ok tt) c) same told)
            (part_more puts c b _ l.proc.core.lines
            (subst (λ fs. PutsPart puts c (map kept_line fs) b) (sym (fates_are p u.outside left (out (act.Kill p)) fates g.going.outside loses)) part));
      }

      order_fails : (x : Act) → next_of m.out ≡ Script t (order_of x) left → OrderNames m.out.file.processes (order_of x) → Going r m u (out x) → OrderedBreaks puts x u a f b → Fails r puts (begun_of x) a f b
      order_fails (act.Boot p) comes names going breaks =
          let within = order_process m.out.file.processes (order_of (act.Boot p)) names in
          line_breaks r puts _ _ _ (out (act.Boot p)) a f b _ (ap₂ (λ n i. line.Boot n i p) going.ran going.outside.time)
          (λ c runs. boot_fails u (out (act.Boot p)) p (begins_at u (out (act.Boot p)) p code going refl clock within) within c f b (kept_of (act.Boot p) comes) runs) breaks
      order_fails (act.Stop p) comes names going breaks =
          let within = order_process m.out.file.processes (order_of (act.Stop p)) names in
          line_breaks r puts _ _ _ (out (act.Stop p)) a f b _ (ap₂ (λ n i. line.Stop n i p) going.ran going.outside.time)
          (λ c runs. does_fail u (out (act.Stop p)) p (begins_at u (out (act.Stop p)) p code going refl clock within) within Stops c f b tt (kept_of (act.Stop p) comes) tt runs) breaks
      order_fails (act.Kill p) comes names going breaks =
          let within = order_process m.out.file.processes (order_of (act.Kill p)) names in
          loss_fails p (begins_at u (out (act.Kill p)) p code going refl clock within) within going.outside.disks (ap₂ (λ n i. line.Kill n i p) going.ran going.outside.time) breaks
      order_fails (act.Cut p q) comes names going breaks =
          line_breaks r puts _ _ (ready m p.0) (begun_of (act.Cut p q)).out a f b _ (ap₂ (λ n i. line.Cut n i p q) going.ran going.outside.time)
          (λ c t. nothing_put r puts (ready m p.0) _ c f b (λ e. no_link (act.Cut p q) p q going names.0 names.1 (t.0 e)) t.1) breaks
      order_fails (act.Heal p q) comes names going breaks =
          line_breaks r puts _ _ (ready m p.0) (begun_of (act.Heal p q)).out a f b _ (ap₂ (λ n i. line.Heal n i p q) going.ran going.outside.time)
          (λ c t. nothing_put r puts (ready m p.0) _ c f b (λ e. no_link (act.Heal p q) p q going names.0 names.1 (t.0 e)) t.1) breaks
      order_fails (act.DiskFail p n) comes names going breaks =
          let within = order_process m.out.file.processes (order_of (act.DiskFail p n)) names in
          line_breaks r puts _ _ (ready m p.0) (begun_of (act.DiskFail p n)).out a f b _ (ap₂ (λ k i. line.DiskFail k i p n) going.ran going.outside.time)
          (λ c t. nothing_put r puts (ready m p.0) _ c f b
          (λ e. disk_there u (out (act.DiskFail p n)) p (begins_at u (out (act.DiskFail p n)) p code going refl clock within) within going.outside.disks (t.0 e)) t.1) breaks

    -- a pending event
    module _ (u : Seen) (left : List (Pending meaning.What)) (t i : ℕ) (a : A) (f : RunFault) (b : A) (code : u.code ≡ w.code)
        (clock : program_time u.outside.time ≡ pos u.outside.time) where
      abbrev timed : meaning.What → Pending meaning.What
      timed z = record { time = t; number = i; what = z }

      abbrev now : meaning.What → Outside
      now z = counted t (process_in z) (with_left m.out left)

      abbrev begun_as : meaning.What → Begun Frame
      begun_as z = happened (classes r) z (ready m (process_in z)) (now z)

      -- what comes, and begins in memory
      record Coming (z : meaning.What) : Type 0 where
        comes : next_of m.out ≡ ComesEvent (timed z) left
        pending : m.out.events.pending ≡ timed z ∷ left
        going : Going r m u (now z)

      module _ (z : meaning.What) (c : Coming z) where
        within : process_in z < m.out.file.processes
        within = (subst (AllByRecursion (EventNames m.out.file.processes)) c.pending up.lasting.keeps.fits.events).0

        kept_as : GoesOn r puts (begun_as z)
        kept_as = kept_on (begun_as z) (ap (begun_by (classes r) m) c.comes)

        begins_as : (p : ProcId) → p.0 ≡ process_in z → Begins r puts m u (now z) p
        begins_as p same = begins_at u (now z) p code c.going same clock (subst (λ k. k < m.out.file.processes) (sym same) within)

      -- the process of an event once something comes to it
      abbrev KeptWith : ProcId → (Core → Core) → Type 0
      KeptWith p f = let x = (with_core (ready m p.0) f).proc in UnlessStopped x.core.halted (ProcessInvariant r x)

      -- after the line of a disk's answer
      reply_fails : (p : ProcId) (k : CellId) (reply : DiskReply) (v : Seen) (o : Outside) (g : Begins r puts m v o p) (few : p.0 < m.out.file.processes) (d : A)
          → KeptWith p (deliver k.0 (disk_outcome reply)) → has k.0 (was p).proc.core.requests ≡ true → Sendable (was p).proc kind.Promise k.0
          → ReplyBreaks puts p k reply v d f b → ProcessFails r puts (with_core (ready m p.0) (deliver k.0 (disk_outcome reply))) o d f b
      reply_fails p k reply v o g few d kept requested can (inl t) = nothing_put r puts (with_core (ready m p.0) (deliver k.0 (disk_outcome reply))) o d f b (memory_not_stuck f t.0) t.1
      reply_fails p k reply v o g few d kept requested can (inr (y, is, runs)) =
          subst (λ z. ProcessFails r puts (with_core (ready m p.0) (deliver k.0 z)) o d f b) is
          (does_fail v o p g few (Delivers k y) d f b tt (subst (λ z. KeptWith p (deliver k.0 z)) (sym is) kept)
          (requested, can, subst (AllThere (was p).proc) (sym (ap (λ z. refs_in (value_in z)) is ∙ answers_plain reply)) tt) runs)

      boot_now : (p : ProcId) → Coming (meaning.Boots p.0) → OrderedBreaks puts (act.Boot p) u a f b → Fails r puts (begun_as (meaning.Boots p.0)) a f b
      boot_now p c breaks =
          let z = meaning.Boots p.0 in
          line_breaks r puts _ _ _ (now z) a f b _ (ap₂ (λ n j. line.Boot n j p) c.going.ran c.going.outside.time)
          (λ d runs. boot_fails u (now z) p (begins_as z c p refl) (within z c) d f b (kept_as z c) runs) breaks

      timer_now : (p : ProcId) (k : CellId) → Coming (meaning.Rings p.0 k.0) → HappenedBreaks puts (what.Rings p k) u a f b → Fails r puts (begun_as (meaning.Rings p.0 k.0)) a f b
      timer_now p k c breaks =
          let z = meaning.Rings p.0 k.0 in
          let due = answer_due r program.whole.valid m p.0 k.0 (timed z) left up.lasting.keeps (within z c) c.pending (own_sets p.0 k.0) in
          subst (λ y. Fails r puts (alone (line.Timer (now z).ran (now z).time p k) (with_core (ready m p.0) (deliver k.0 (GoodOutcome y))) (now z)) a f b) void_seen
          (line_breaks r puts _ _ _ (now z) a f b _ (ap₂ (λ n j. line.Timer n j p k) c.going.ran c.going.outside.time)
          (λ d runs. does_fail u (now z) p (begins_as z c p refl) (within z c) (Delivers k (outcome.Value Void)) d f b tt
          (subst (λ y. KeptWith p (deliver k.0 (GoodOutcome y))) (sym void_seen) (kept_as z c))
          (due.0, due.1, subst (AllThere (was p).proc) (ap (λ y. refs_in (value_in (GoodOutcome y))) (sym void_seen)) tt) runs) breaks)

      answer_now : (p : ProcId) (k : CellId) (asked : DiskAsk) → Coming (meaning.Answers p.0 k.0 (call_of asked)) → AnsweredBreaks puts p k asked u a f b
          → Fails r puts (begun_as (meaning.Answers p.0 k.0 (call_of asked))) a f b
      answer_now p k asked c (unserved why same) =
          let z = meaning.Answers p.0 k.0 (call_of asked) in record {
            unstuck = λ e. disk_there u (now z) p (begins_as z c p refl) (within z c) c.going.outside.disks (why e);
            part = λ l run. none_put r puts a b _ same;
          }
      answer_now p k asked c (answers served_now reply serves breaks) =
          let z = meaning.Answers p.0 k.0 (call_of asked) in
          let g = begins_as z c p refl in
          let due = answer_due r program.whole.valid m p.0 k.0 (timed z) left up.lasting.keeps (within z c) c.pending (own_sets p.0 k.0) in
          let gives : Disk × DiskReply = served (call_of asked) (disk_of (now z) p.0).fails (disk_of (now z) p.0).files in
          let shown = disk_served u.outside (now z) p (call_of asked) served_now reply c.going.outside serves in
          let then_begun = doing.serves r puts m u (now z) p g served_now gives.0 (ap (λ y. y.time) serves.left) shown.1 in
          let left_out = with_disk (now z) (now z).active gives.0 in
          let place : OutcomeTree → Place Frame = λ y. with_core (ready m p.0) (deliver k.0 y) in
          let kept : KeptWith p (deliver k.0 (disk_outcome reply)) = subst (λ y. KeptWith p (deliver k.0 (disk_outcome y))) (sym shown.0) (kept_as z c) in
          subst (λ y. Fails r puts (alone (disk_line (call_of asked) y (now z) k.0) (place (disk_outcome y)) left_out) a f b) shown.0
          (line_breaks r puts _ _ (place (disk_outcome reply)) left_out a f b _
          (ap₂ (λ n j. answer_line asked reply n j p k) c.going.ran c.going.outside.time ∙ sym (disk_line_is asked reply (now z) k))
          (λ d t. reply_fails p k reply (with_outside served_now u) left_out then_begun (within z c) d kept due.0 due.1 t) breaks)

      -- a packet that comes
      module _ (p : ProcId) (n : ℕ) (l : Letter) (there : letter_at u.outside.net.on_way n ≡ Some l) (none_other_comes : coming n u.outside.timers.pending ≡ 0) where
        abbrev arrives : meaning.What
        arrives = meaning.Arrives n l.from.0 p.0 l.port l.text

        module _ (c : Coming arrives) where
          g : Begins r puts m u (now arrives) p
          g = begins_as arrives c p refl

          arrived_begins : Begins r puts m (arrived n u) (now arrives) p
          arrived_begins =
              let y = c.going in record {
                program = g.program;
                deed = g.deed;
                still = g.still;
                going = record {
                  places = y.places;
                  outside = letter_taken u.outside (now arrives) n none_other_comes y.outside;
                  script = y.script;
                  ran = y.ran;
                  bound = y.bound;
                  turns = y.turns;
                  file = y.file;
                };
                active = g.active;
                clock = g.clock;
                held = g.held;
              }

          heard_up : (up : Bool) (k : ℕ) → (if up then thing (was p).proc.core.ports l.port else None) ≡ Some k → thing (was p).proc.core.ports l.port ≡ Some k
          heard_up true k e = e
          heard_up false k e = absurd (cc (e))

          abbrev comes_to : Option ℕ → Begun Frame
          comes_to y = meaning_world.arrived n l.from.0 l.port l.text (ready m p.0) (now arrives) y

          arrival_line : Line
          arrival_line = line.Arrival u.ran u.outside.time p n

          line_same : line.Arrival u.ran u.outside.time p n ≡ line.Arrival (now arrives).ran (now arrives).time p n
          line_same = ap₂ (λ k j. line.Arrival k j p n) c.going.ran c.going.outside.time

          untold : (y : Option ℕ) → PutFails puts (line.Arrival u.ran u.outside.time p n) a f b → Fails r puts (comes_to y) a f b
          untold None t = record {
            unstuck = λ e. not_stuck t.fault (sym t.is ∙ e);
            part = λ k run. put_fails (subst (λ z. puts a z (Err t.fault) b) line_same t.put);
          }
          untold (Some k) t = line_fails r puts _ _ _ (now arrives) a f b line_same t

          taken : (d : A) (heard : Option CellId) → puts a (line.Arrival u.ran u.outside.time p n) (Ok tt) d → option_map (λ (k : CellId). k.0) heard ≡ listener (ready m p.0) l.port
              → TakenBreaks puts heard p (numbered n l) (arrived n u) d f b → Fails r puts (comes_to (option_map (λ (k : CellId). k.0) heard)) a f b
          taken d None told hears t = record {
            unstuck = λ e. not_stuck t.fault (sym t.is ∙ e);
            part = λ k run. put_then (subst (λ z. puts a z (Ok tt) d) line_same told) (put_fails t.put);
          }
          taken d (Some k) told hears (inl t) = line_first r puts _ _ _ (now arrives) a d f b line_same told (nothing_put r puts (with_core (ready m p.0) (arrive k.0 (packet l.from.0 l.port l.text))) _ d f b (memory_not_stuck f t.0) t.1)
          taken d (Some k) told hears (inr (item, is, runs)) =
              let port = heard_up (was p).up k.0 (sym hears) in
              let there = heard_there r (ready m p.0).proc l.port k.0 g.held port in
              let sends = open_sends (was p).proc k.0 (thing (was p).proc.core.cells k.0) refl (open_at m.places p.0 up.heard k.0 (port_counts l.port k.0 (was p).proc.core.ports port)) in
              let kept : KeptWith p (arrive k.0 (packet l.from.0 l.port l.text)) =
              subst (λ y. GoesOn r puts (comes_to y)) (sym hears) (kept_as arrives c) in
              line_first r puts _ _ _ (now arrives) a d f b line_same told
              (subst (λ y. ProcessFails r puts (with_core (ready m p.0) (arrive k.0 y)) (now arrives) d f b) is
              (does_fail (arrived n u) (now arrives) p arrived_begins (within arrives c) (Brings k item) d f b sends (subst (λ y. KeptWith p (arrive k.0 y)) (sym is) kept)
              (record { cell = there.cell; at = there.at; right = there.right }, subst (AllThere (was p).proc) (ap (λ y. refs_in (value_in (GoodOutcome y))) (sym is)) tt) runs))

          arrival_fails : (d : A) → puts a (line.Arrival u.ran u.outside.time p n) (Ok tt) d → ArrivalBreaks puts p n u d f b → Fails r puts (comes_to (listener (ready m p.0) l.port)) a f b
          arrival_fails d told (not_on_way is none) = absurd (none_some none there)
          arrival_fails d told (not_taken other heard on_way hears t) =
              let same : other ≡ l = same_of (sym on_way ∙ there) in
              let both = doing.heard_is r puts m u (now arrives) p g a a Rested u l.port heard (here u (now arrives) p g (within arrives c))
              (subst (λ (y : Letter). HeardIn (slice_get u.places p.0) y.port heard) same hears) in
              subst (λ y. Fails r puts (comes_to y) a f b) both
              (taken d heard told both (subst (λ y. TakenBreaks puts heard p (numbered n y) (arrived n u) d f b) same t))

          packet_now : ArrivedBreaks puts p n u a f b → Fails r puts (comes_to (listener (ready m p.0) l.port)) a f b
          packet_now (unput t) = untold (listener (ready m p.0) l.port) t
          packet_now (line_put d told t) = arrival_fails d told t

    next_fails : (g : Begun Frame) (a : A) (f : RunFault) (b : A) → begun_by (classes r) m (next_of m.out) ≡ Some g → Fails r puts g a f b → NextInPart puts r m a f b
    next_fails g a f b is t = (t.unstuck, λ h l also run. of_same h l (same_of (sym is ∙ also)) run)
      where
        of_same : (h : Begun Frame) (l : Live Outside Frame) → g ≡ h → Burst (classes r) host (before h) l → PutsPart puts a (lines_of h l) b
        of_same h l same run = subst (λ y. PutsPart puts a (lines_of y l) b) same (t.part l (subst (λ y. Burst (classes r) host (before y) l) (sym same) run))

    -- the line that comes
    line_comes : (time : ℕ) (a : A) (f : RunFault) (b : A) (t : ℕ) (k : Order) (left : List (ℕ × Order)) (n : LineNext time w.script t k left) → next_of m.out ≡ Script t k left
        → OrderedBreaks puts n.line.act (record (begins time w) { script = n.rest }) a f b → NextInPart puts r m a f b
    line_comes time a f b t k left n comes breaks =
        let u : Seen = record (begins time w) { script = n.rest } in
        let early = (next_early up.lasting.slack m.out up.lasting.times).line t k left comes in
        let go = line_begins r w m s time t k left n in
        let names : OrderNames m.out.file.processes k = ((next_in m.out.file.processes m.out up.lasting.keeps.fits.script).script t k left comes).0 in
        let ordered_now = subst (λ z. next_of m.out ≡ Script t z left) (sym n.orders) comes in
        next_fails (begun_of t left u a f b refl (subst (λ z. program_time z ≡ pos z) (sym n.same) (tells t early.0)) n.line.act) a f b (ap (begun_by (classes r) m) ordered_now)
        (order_fails t left u a f b refl (subst (λ z. program_time z ≡ pos z) (sym n.same) (tells t early.0)) n.line.act
        ordered_now (subst (OrderNames m.out.file.processes) (sym n.orders) names)
        (subst (λ z. Going r m u (counted t (process_of z) (record m.out { script = left }))) (sym n.orders) go) breaks)

    -- the event that comes
    event_comes : (time : ℕ) (a : A) (f : RunFault) (b : A) (x : Pending meaning.What) (left : List (Pending meaning.What)) (n : EventNext w time x) → next_of m.out ≡ ComesEvent x left
        → m.out.events.pending ≡ x ∷ left
        → HappenedBreaks puts n.first.what (with_outside (with_events n.rest (begins time w).outside) (begins time w)) a f b → NextInPart puts r m a f b
    event_comes time a f b x left n comes pending breaks = by_what n.first.what refl breaks n.shows.what
      where
        u : Seen
        u = with_outside (with_events n.rest (begins time w).outside) (begins time w)

        early : x.time ≤ latest up.lasting.slack m.out.ran
        early = ((next_early up.lasting.slack m.out up.lasting.times).event x left comes).0

        same_time : x.time ≡ time
        same_time = sym n.shows.time ∙ n.at

        clock : program_time u.outside.time ≡ pos u.outside.time
        clock = subst (λ z. program_time z ≡ pos z) same_time (tells x.time early)

        Now : meaning.What → Type 0
        Now z = Coming u left x.time x.number a f b refl clock z

        coming_as : (z : meaning.What) → x.what ≡ z → Coming u left x.time x.number a f b refl clock z
        coming_as z q = subst (λ y. Coming u left x.time x.number a f b refl clock y) q (record { comes = comes; pending = pending; going = event_begins r w m s time x left n pending })

        begun_next : (z : meaning.What) → Coming u left x.time x.number a f b refl clock z → Fails r puts (begun_as u left x.time x.number a f b refl clock z) a f b → NextInPart puts r m a f b
        begun_next z c t = next_fails (begun_as u left x.time x.number a f b refl clock z) a f b (ap (begun_by (classes r) m) c.comes) t

        by_letter : (p : ProcId) (k : ℕ) (o : Option Letter) → letter_at w.outside.net.on_way k ≡ o → n.first.what ≡ what.Arrives p k → ArrivedBreaks puts p k u a f b → ArrivalRepresents p.0 k o x.what
            → NextInPart puts r m a f b
        by_letter p k None q is d shown = absurd shown
        by_letter p k (Some l) q is d shown =
            let once = subst (λ es. coming k es ≤ 1) n.are (s.outside.packets k).0 in
            let c = coming_as _ shown.1 in
            begun_next _ c (packet_now u left x.time x.number a f b refl clock p k l q (none_other k p n.first n.rest is once) c d)

        by_what : (y : What) → n.first.what ≡ y → HappenedBreaks puts y u a f b → PendingRepresents w.outside.net.on_way y x.what → NextInPart puts r m a f b
        by_what (what.Boots p) is d shown = let c = coming_as _ shown in begun_next _ c (boot_now u left x.time x.number a f b refl clock p c d)
        by_what (what.Rings p k) is d shown = let c = coming_as _ shown in begun_next _ c (timer_now u left x.time x.number a f b refl clock p k c d)
        by_what (what.Answers p k asked) is d shown = let c = coming_as _ shown in begun_next _ c (answer_now u left x.time x.number a f b refl clock p k asked c d)
        by_what (what.Arrives p k) is d shown = by_letter p k (letter_at w.outside.net.on_way k) refl is d shown

    any_fails : (a : A) (f : RunFault) (b : A) (time : ℕ) (scripted : Bool) (x : Next) → next_of m.out ≡ x → NextMatches w (Some (time, scripted)) x m.out → ComesBreaks puts scripted (begins time w) a f b → NextInPart puts r m a f b
    any_fails a f b time true Nothing q n d = absurd n
    any_fails a f b time false Nothing q n d = absurd n
    any_fails a f b time true (ComesEvent x left) q n d = absurd n
    any_fails a f b time false (Script t k left) q n d = absurd n
    any_fails a f b time true (Script t k left) q n d = line_comes time a f b t k left n q (subst (λ ls. LineBreaks puts ls (begins time w) a f b) n.are d)
    any_fails a f b time false (ComesEvent x left) q n d = event_comes time a f b x left n.0 q n.1 (subst (λ es. PendingBreaks puts es (begins time w) a f b) n.0.are d)

    moment_fails : (a : A) (f : RunFault) (b : A) (time : ℕ) (scripted : Bool) → NextMatches w (Some (time, scripted)) (next_of m.out) m.out → MomentBreaks puts time scripted w a f b → NextInPart puts r m a f b
    moment_fails a f b time scripted n (too_late late t) = (memory_not_stuck f t.0, λ g l is run. none_put r puts a b (lines_of g l) t.1)
    moment_fails a f b time scripted n (comes_breaks t) = any_fails a f b time scripted (next_of m.out) refl n t

-- the fault is that of a put
module _ {A : Type 0} (puts : A → Line → Result (Unit {0}) OutFault → A → Type 0) (r : RawTree) (m : World Frame) where
  began_in_part : (a : A) (f : RunFault) (b : A) → (f ≡ Stuck → ⊥) → EventBegan (Quiescent r) (WorldInvariant r) (IsProgram r) puts r m a b → NextInPart puts r m a f b
  began_in_part a f b why t = (why, by_begun)
    where
      by_begun : (g : Begun Frame) (l : Live Outside Frame) → begun_by (classes r) m (next_of m.out) ≡ Some g → Burst (classes r) host (before g) l → PutsPart puts a (lines_of g l) b
      by_begun g l is run =
          let same : t.begun ≡ g = same_of (sym t.begins ∙ is) in
          let ends : t.left ≡ l = burst_once (classes r) host (before t.begun) t.left l t.follows (subst (λ (y : Begun Frame). Burst (classes r) host (before y) l) (sym same) run) in
          subst (λ y. PutsPart puts a (lines_of y l) b) same (subst (λ y. PutsPart puts a (lines_of t.begun y) b) ends (part_all puts a b (lines_of t.begun t.left) t.lines))

pub event_in_part : {A : Type 0} (puts : A → Line → Result (Unit {0}) OutFault → A → Type 0) (r : RawTree) → law.EventFailsInPart puts r
event_in_part {A} puts r w m a f t program s up fails = by_fails fails.fails
  where
    came : (e : burst_end.Burst) (v : Seen) → Comes (telling puts) fails.scripted (begins fails.time w) a e v t → EventBegan (Quiescent r) (WorldInvariant r) (IsProgram r) (telling puts) r m a t
    came Rested v does =
        (happening (telling puts) r w (ends Rested v) m a t program s up.lasting
        (record { time = fails.time; scripted = fails.scripted; left = v; comes = fails.comes; bound = fails.bound; does = does; after = refl })).event
    came SpentBurst v does =
        (spent_happening (telling puts) r w (ends SpentBurst v) m a t program s up.lasting
        (record { time = fails.time; scripted = fails.scripted; left = v; comes = fails.comes; bound = fails.bound; does = does; after = refl })).event

    by_fails : MomentFails puts fails.time fails.scripted w a f t → NextInPart (telling puts) r m a f t
    by_fails (breaks_off x) =
        moment_fails r (telling puts) m up w program s fails.bound a f t fails.time fails.scripted
        (subst (λ n. NextMatches w n (next_of m.out) m.out) fails.comes (same_next (Quiescent r) w m s)) x
    by_fails (went_on fault e v is failed does) = began_in_part (telling puts) r m a f t (λ stuck. not_stuck fault (sym is ∙ stuck)) (came e v does)
