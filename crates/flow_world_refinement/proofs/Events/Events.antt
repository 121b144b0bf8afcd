-- A pending event that comes next is the next event of the definitions.
use Rattle.std.proofs.Common.{◌≡◌, ℕ, ◌<◌, ◌≤◌, pos, List, ◌∷◌, Option, Some, None, refl, sym, ap, ◌∙◌, subst, arith, if◌then◌else◌}
use Rattle.std.specs.Prelude.{Result, codes}
use Rattle.flow_base.specs.declared.ids.CellId.{CellId}
use Rattle.flow_base.specs.declared.ids.ProcId.{ProcId}
use Rattle.flow_base.specs.declared.fault.OutFault.{OutFault}
use Rattle.flow_trace.specs.declared.line.Line.{Line}
use Rattle.flow_timers.specs.Pending.{Pending}
use Rattle.flow_value.specs.declared.value.Kind.TheVariants as kind
use Rattle.flow_simnet.specs.declared.packet.Letter.{Letter}
use Rattle.flow_simdisk.specs.declared.ask.DiskAsk.{DiskAsk}
use Rattle.flow_tree.specs.Tree.{TypeTree, NamedType, FutureType, FutureStreamType}
use Rattle.flow_class.specs.Classes.{RawTree}
use Rattle.flow_meaning.specs.Cells.{Cell, Single, Stream}
use Rattle.flow_meaning.specs.Class.{classes}
use Rattle.flow_meaning.specs.Frame.{Frame}
use Rattle.flow_numbered.specs.Numbered.{thing}
use Rattle.flow_meaning.specs.Outside.{Outside}
use Rattle.flow_meaning.specs.Outside as meaning
use Rattle.flow_meaning.specs.Process.{Proc}
use Rattle.flow_meaning.specs.World.{World, Begun, Event as ComesEvent, next_of, begun_by, happened, ready, counted, with_left, process_in}
use Rattle.flow_heap_refinement.specs.Holds.{There}
use Rattle.flow_progress.specs.Fitting.{CellAt}
use Rattle.flow_machine.specs.Requests.{call_of}
use Rattle.flow_machine.specs.declared.host.Burst as burst_end
use Rattle.flow_steps.specs.Evaluating.{program_time}
use Rattle.flow_world.specs.declared.outside.What.{What}
use Rattle.flow_world.specs.declared.outside.What.TheVariants as what
use Rattle.flow_world.specs.Changes.{with_events}
use Rattle.flow_world.specs.Ending.{Seen}
use Rattle.flow_world.specs.Happening.{Happens, Happened, begins, ends, with_outside}
use Rattle.flow_world.specs.Representing.{PendingRepresents, ArrivalRepresents, letter_at, coming, brings}
use Rattle.flow_world.proofs.Letters.{same_number}
use Rattle.flow_world_refinement.specs.Order.Showing.{WorldRepresents}
use Rattle.flow_world_refinement.specs.Order.Coming.{EventNext}
use Rattle.flow_invariants.proofs.Fitting.Dues.{own_sets}
use Rattle.flow_invariants.specs.Fitting.Among.{EventNames}
use Rattle.std.specs.List.{AllByRecursion}
use Rattle.flow_burst_refinement.proofs.Boundaries.Keeping.{ready_kept, answer_due}
use Rattle.flow_burst_refinement.specs.Enabled.Tasking.{IsProgram}
use Rattle.flow_burst_refinement.specs.Invariants.Invariant.{ProcessInvariant}
use Rattle.flow_world_refinement.specs.Effects.Actions.{ActionRefines}
use Rattle.flow_world_refinement.specs.Effects.Quiescence.{Quiescent, StaysQuiescent}
use Rattle.flow_world_refinement.specs.Invariants.{WorldInvariant}
use Rattle.flow_world_refinement.proofs.Invariants.Mid.{next_early}
use Rattle.flow_world_refinement.proofs.Events.Placing.{place_of, place_found}
use Rattle.flow_world_refinement.proofs.Events.Acting.{Going, Follows}
use Rattle.flow_world_refinement.proofs.Events.Beginning.{event_begins}
use Rattle.flow_world_refinement.proofs.Events.Doing.{GoesOn, Begins, boot_follows, timer_follows, answer_follows, packet_follows}
use Rattle.flow_world_refinement.proofs.Events.Lines.{Event, LossFollows, event_is, tells, goes_on}

-- of what a port's stream is
abbrev packets : TypeTree
packets = FutureStreamType (NamedType (codes "Packet"))

no_single : (u : TypeTree) → packets ≡ FutureType u → ⊥
no_single u e = cc

-- the stream of a port is there
pub heard_there : (r : RawTree) (p : Proc Frame) (port k : ℕ) → ProcessInvariant r p → thing p.core.ports port ≡ Some k → There p (kind.PromiseStream, k)
heard_there r p port k h heard = by_cell (thing p.core.cells k) refl (subst (λ t. CellAt r h.types t (thing p.core.cells k)) (h.fits.ports port k heard) (h.fits.cells k))
  where
    by_cell : (o : Option Cell) → thing p.core.cells k ≡ o → CellAt r h.types (Some packets) o → There p (kind.PromiseStream, k)
    by_cell None q f = elim f [ ]
    by_cell (Some (Single content ws)) q f = absurd (no_single f.0 f.1)
    by_cell (Some (Stream queue end w)) q f = record { cell = Stream queue end w; at = q; right = tt }

-- the packet that comes is brought by no other event
pub none_other : (n : ℕ) (p : ProcId) (e : Pending What) (es : List (Pending What)) → e.what ≡ what.Arrives p n → coming n (e ∷ es) ≤ 1 → coming n es ≡ 0
none_other n p e es is once =
    let one : brings n e.what ≡ 1 = ap (brings n) is ∙ ap (λ (t : _). if t then 1 else 0) (same_number n) in omega (arith, once, one)

module _ (r : RawTree) {A : Type 0} (puts : A → Line → Result (Unit {0}) OutFault → A → Type 0) where
  module _
      (w v : Seen) (m : World Frame) (a b : A) (e : burst_end.Burst) (program : IsProgram r w.code) (s : WorldRepresents (Quiescent r) w m) (lasting : WorldInvariant r m) (h : Happens puts w a e v b)
      (deed : ActionRefines puts r w.code) (still : StaysQuiescent r) (loss : LossFollows r puts) where
    -- the pending event that comes, and what it begins in memory
    record Coming (u : Seen) (left : List (Pending meaning.What)) (x : Pending meaning.What) : Type 0 where
      code : u.code ≡ w.code
      comes : next_of m.out ≡ ComesEvent x left
      pending : m.out.events.pending ≡ x ∷ left
      going : Going r m u (counted x.time (process_in x.what) (with_left m.out left))
      clock : program_time u.outside.time ≡ pos u.outside.time

    abbrev timed : (t n : ℕ) → meaning.What → Pending meaning.What
    timed t n z = record { time = t; number = n; what = z }

    module _ (u : Seen) (left : List (Pending meaning.What)) (t i : ℕ) where
      abbrev begun : meaning.What → Begun Frame
      begun z = happened (classes r) z (ready m (process_in z)) (counted t (process_in z) (with_left m.out left))

      module _ (z : meaning.What) (c : Coming u left (timed t i z)) where
        within : process_in z < m.out.file.processes
        within = (subst (AllByRecursion (EventNames m.out.file.processes)) c.pending lasting.keeps.fits.events).0

        begins_is : begun_by (classes r) m (next_of m.out) ≡ Some (begun z)
        begins_is = ap (begun_by (classes r) m) c.comes

        kept : GoesOn r puts (begun z)
        kept = goes_on r puts w v m a b e program s lasting h deed still loss (begun z) begins_is

        begins_well : (p : ProcId) → p.0 ≡ process_in z → Begins r puts m u (counted t (process_in z) (with_left m.out left)) p
        begins_well p same = record {
          program = subst (IsProgram r) (sym c.code) program;
          deed = subst (ActionRefines puts r) (sym c.code) deed;
          still = still;
          going = c.going;
          active = same;
          clock = c.clock;
          held = ready_kept r program.whole.valid m p.0 lasting.keeps (subst (λ k. k < m.out.file.processes) (sym same) within);
        }

        ended : Follows r puts m (begun z) a e (ends e h.left) b → Event r puts e m a v b
        ended f = subst (λ y. Event r puts e m a y b) (sym h.after) (event_is r puts m (begun z) a b e (ends e h.left) begins_is f)

      -- by what happens
      by_boot : (p : ProcId) → Coming u left (timed t i (meaning.Boots p.0)) → Happened puts (what.Boots p) u a e h.left b → Event r puts e m a v b
      by_boot p c d =
          let z = meaning.Boots p.0 in
          ended z c (boot_follows r puts m u (counted t p.0 (with_left m.out left)) p (begins_well z c p refl) a b e h.left (kept z c) d)

      by_timer : (p : ProcId) (k : CellId) → Coming u left (timed t i (meaning.Rings p.0 k.0)) → Happened puts (what.Rings p k) u a e h.left b → Event r puts e m a v b
      by_timer p k c d =
          let z = meaning.Rings p.0 k.0 in
          let due = answer_due r program.whole.valid m p.0 k.0 (timed t i z) left lasting.keeps (within z c) c.pending (own_sets p.0 k.0) in
          ended z c (timer_follows r puts m u (counted t p.0 (with_left m.out left)) p (begins_well z c p refl) a b e h.left k due.0 due.1 (kept z c) d)

      by_answer : (p : ProcId) (k : CellId) (asked : DiskAsk) → Coming u left (timed t i (meaning.Answers p.0 k.0 (call_of asked))) → Happened puts (what.Answers p k asked) u a e h.left b
          → Event r puts e m a v b
      by_answer p k asked c d =
          let z = meaning.Answers p.0 k.0 (call_of asked) in
          let due = answer_due r program.whole.valid m p.0 k.0 (timed t i z) left lasting.keeps (within z c) c.pending (own_sets p.0 k.0) in
          ended z c (answer_follows r puts m u (counted t p.0 (with_left m.out left)) p (begins_well z c p refl) a b e h.left k asked due.0 due.1 (kept z c) d)

      by_packet : (p : ProcId) (n : ℕ) (l : Letter) → letter_at u.outside.net.on_way n ≡ Some l → coming n u.outside.timers.pending ≡ 0
          → Coming u left (timed t i (meaning.Arrives n l.from.0 p.0 l.port l.text))
          → Happened puts (what.Arrives p n) u a e h.left b → Event r puts e m a v b
      by_packet p n l there none c d =
          let z = meaning.Arrives n l.from.0 p.0 l.port l.text in
          let g = begins_well z c p refl in
          let found = place_found (Quiescent r) m.out.file.processes 0 p.0 u.places m.places c.going.places (subst (λ k. p.0 < k) (sym lasting.keeps.fits.count) (within z c)) in
          ended z c (packet_follows r puts m u (counted t p.0 (with_left m.out left)) p g a b e h.left n l there none found (λ k q. still_there k (heard_there r (ready m p.0).proc l.port k g.held q))
          (kept z c) d)
        where
          still_there : (k : ℕ) → There (ready m p.0).proc (kind.PromiseStream, k) → There (place_of m.places p.0).proc (kind.PromiseStream, k)
          still_there k x = record { cell = x.cell; at = x.at; right = x.right }

    -- the event that comes
    pub pending_event : (x : Pending meaning.What) (left : List (Pending meaning.What)) (n : EventNext w h.time x) → next_of m.out ≡ ComesEvent x left → m.out.events.pending ≡ x ∷ left
        → Happened puts n.first.what (with_outside (with_events n.rest (begins h.time w).outside) (begins h.time w)) a e h.left b → Event r puts e m a v b
    pending_event x left n comes pending does = by_what n.first.what refl does n.shows.what
      where
        u : Seen
        u = with_outside (with_events n.rest (begins h.time w).outside) (begins h.time w)

        early : x.time ≤ Rattle.flow_world_refinement.specs.Invariants.latest lasting.slack m.out.ran
        early = ((next_early lasting.slack m.out lasting.times).event x left comes).0

        same_time : x.time ≡ h.time
        same_time = sym n.shows.time ∙ n.at

        coming_now : Coming u left x
        coming_now = record {
          code = refl;
          comes = comes;
          pending = pending;
          going = event_begins r w m s h.time x left n pending;
          clock = subst (λ z. program_time z ≡ pos z) same_time (tells r puts w v m a b e program s lasting h deed still loss x.time early);
        }

        coming_as : (z : meaning.What) → x.what ≡ z → Coming u left (timed x.time x.number z)
        coming_as z q = subst (λ y. Coming u left (timed x.time x.number y)) q coming_now

        by_letter : (p : ProcId) (k : ℕ) (o : Option Letter) → letter_at w.outside.net.on_way k ≡ o → n.first.what ≡ what.Arrives p k → Happened puts (what.Arrives p k) u a e h.left b
            → ArrivalRepresents p.0 k o x.what → Event r puts e m a v b
        by_letter p k None q is d shown = elim shown [ ]
        by_letter p k (Some l) q is d shown =
            let once = subst (λ es. coming k es ≤ 1) n.are (s.outside.packets k).0 in
            by_packet u left x.time x.number p k l q (none_other k p n.first n.rest is once) (coming_as _ shown.1) d

        by_what : (y : What) → n.first.what ≡ y → Happened puts y u a e h.left b → PendingRepresents w.outside.net.on_way y x.what → Event r puts e m a v b
        by_what (what.Boots p) is d shown = by_boot u left x.time x.number p (coming_as _ shown) d
        by_what (what.Rings p k) is d shown = by_timer u left x.time x.number p k (coming_as _ shown) d
        by_what (what.Answers p k asked) is d shown = by_answer u left x.time x.number p k asked (coming_as _ shown) d
        by_what (what.Arrives p k) is d shown = by_letter p k (letter_at w.outside.net.on_way k) refl is d shown
