-- What an event does to its process, once it has begun in memory and by the definitions.
use Rattle.std.proofs.Common.{◌≡◌, ℕ, ◌+◌, pos, false, List, [], Option, Some, None, refl, sym, ap, ◌∙◌, subst, arith}
use Rattle.std.specs.Prelude.{Result, slice_get, slice_set, is_some}
use Rattle.std.specs.Option.{option_map}
use Rattle.flow_base.specs.declared.ids.CellId.{CellId}
use Rattle.flow_base.specs.declared.ids.ProcId.{ProcId}
use Rattle.flow_base.specs.declared.fault.OutFault.{OutFault}
use Rattle.flow_trace.specs.declared.line.Line.{Line}
use Rattle.flow_class.specs.Classes.{RawTree}
use Rattle.flow_meaning.specs.Burst.{Live, live, Burst, rests}
use Rattle.flow_meaning.specs.Class.{classes}
use Rattle.flow_meaning.specs.Frame.{Frame}
use Rattle.flow_meaning.specs.Orderly.{UnlessStopped}
use Rattle.flow_meaning.specs.Outside.{Outside, host}
use Rattle.flow_meaning.specs.Process as process
use Rattle.flow_meaning.specs.Runs.{before, after, lines_of}
use Rattle.flow_meaning.specs.World.{Place, World, Begun, ready, booted}
use Rattle.flow_heap_refinement.specs.Representing.{cell_number}
use Rattle.flow_steps.specs.Evaluating.{program_time}
use Rattle.flow_machine.specs.declared.host.Burst as burst_end
use Rattle.flow_machine.specs.declared.host.Burst.TheVariants.{Rested, Spent}
use Rattle.flow_machine.specs.declared.machine.Machine.{Machine}
use Rattle.flow_world.specs.declared.action.EventAction.{EventAction}
use Rattle.flow_world.specs.declared.action.EventAction.TheVariants.{Boots}
use Rattle.flow_world.specs.declared.place.Place as memory
use Rattle.flow_world.specs.Around.{Puts, no_line}
use Rattle.flow_world.specs.Changes.{Surroundings}
use Rattle.flow_world.specs.Actions.{holds_already}
use Rattle.flow_world.specs.Ending.{Seen}
use Rattle.flow_world.specs.Happening.{Acts, ActsAt, Runs, RunsUnless, ends, with_place, with_outside}
use Rattle.flow_world.specs.Representing.{OutsideRepresents}
use Rattle.flow_world.proofs.Putting.{puts_more}
use Rattle.flow_world_refinement.specs.Order.Showing.{PlaceRepresents, PlacesRepresent, ScriptRepresents, WorldRepresents}
use Rattle.flow_burst_refinement.specs.Enabled.Tasking.{IsProgram}
use Rattle.flow_burst_refinement.specs.Invariants.Invariant.{ProcessInvariant}
use Rattle.flow_world_refinement.specs.Effects.Actions.{ActionRefines, MayBeDone, Done, EndsAs, done_in}
use Rattle.flow_world_refinement.specs.Effects.Quiescence.{Quiescent, StaysQuiescent}
use Rattle.flow_world_refinement.proofs.Events.Placing.{place_of, set_same, place_at, place_put}

module _ (r : RawTree) where
  -- An event has begun, and its process has done nothing yet: what is in memory and the world of the definitions outside of
  -- their processes, which are those of before.
  pub record Going (m : World Frame) (u : Seen) (o : Outside) : Type 0 where
    pub places : PlacesRepresent (Quiescent r) m.out.file.processes 0 u.places m.places
    pub outside : OutsideRepresents u.outside o
    pub script : ScriptRepresents u.script o.script
    pub ran : u.ran ≡ o.ran
    pub bound : u.bound ≡ m.out.file.events
    pub turns : u.turns ≡ m.out.file.turns
    pub file : o.file ≡ m.out.file

  -- how it ends
  abbrev pub AfterAs : burst_end.Burst → World Frame → Begun Frame → Seen → Live Outside Frame → Type 0
  AfterAs Rested m g v l = (l.proc.core.halted ≡ None) × WorldRepresents (Quiescent r) v (after m g l)
  AfterAs Spent m g v l = l.proc.core.halted ≡ Some process.Spent

  -- the process of the event does all that follows, with the lines of the event
  pub record Follows {A : Type 0} (puts : A → Line → Result (Unit {0}) OutFault → A → Type 0) (m : World Frame) (g : Begun Frame) (a : A) (e : burst_end.Burst) (v : Seen) (b : A)
      : Type 0 where
    pub left : Live Outside Frame
    pub bursts : Burst (classes r) host (before g) left
    pub lines : Puts puts a (lines_of g left) b
    pub ends : AfterAs e m g v left

  -- the process in memory at a number
  pub shown_at : (m : World Frame) (u : Seen) (o : Outside) (p : ProcId) (at : memory.Place) → Going m u o → slice_get u.places p.0 ≡ Some at
      → PlaceRepresents (Quiescent r) o.file.processes p.0 at (place_of m.places p.0)
  shown_at m u o p at s there =
      let here : 0 + p.0 ≡ p.0 = omega arith in
      subst (λ f. PlaceRepresents (Quiescent r) f.processes p.0 at (place_of m.places p.0)) (sym s.file)
      (subst (λ j. PlaceRepresents (Quiescent r) m.out.file.processes j at (place_of m.places p.0)) here
      (place_at (Quiescent r) m.out.file.processes 0 p.0 u.places m.places at s.places there))

  -- another process at the number, and what else there is
  pub shown_after :
      (m : World Frame) (u : Seen) (o : Outside) (p : ProcId) (place : memory.Place) (outside : Surroundings) (x : Place Frame) (l : Outside) → Going m u o
      → PlaceRepresents (Quiescent r) o.file.processes p.0 place x → OutsideRepresents outside l → l.file ≡ o.file → l.ran ≡ o.ran → l.script ≡ o.script → l.active ≡ p.0
      → WorldRepresents (Quiescent r) (record (with_outside outside (with_place p place u)) { ended = false }) (record { places = slice_set m.places l.active x; out = l })
  shown_after m u o p place outside x l s h out file ran script active =
      let whole : l.file ≡ m.out.file = file ∙ s.file in
      let here : p.0 ≡ 0 + p.0 = omega arith in
      let own : PlaceRepresents (Quiescent r) m.out.file.processes (0 + p.0) place x =
      subst (λ j. PlaceRepresents (Quiescent r) m.out.file.processes j place x) here (subst (λ f. PlaceRepresents (Quiescent r) f.processes p.0 place x) s.file h)
      in
      record {
        places =
            subst (λ f. PlacesRepresent (Quiescent r) f.processes 0 (slice_set u.places p.0 place) (slice_set m.places l.active x)) (sym whole)
            (subst (λ j. PlacesRepresent (Quiescent r) m.out.file.processes 0 (slice_set u.places p.0 place) (slice_set m.places j x)) (sym active)
            (place_put (Quiescent r) m.out.file.processes 0 p.0 u.places m.places place x s.places own));
        outside = out;
        script = subst (ScriptRepresents u.script) (sym script) s.script;
        ran = s.ran ∙ sym ran;
        bound = s.bound ∙ ap (λ f. f.events) (sym whole);
        turns = s.turns ∙ ap (λ f. f.turns) (sym whole);
        going = refl;
      }

  module _ {A : Type 0} (puts : A → Line → Result (Unit {0}) OutFault → A → Type 0) where
    -- an event that does nothing to its process
    pub idles :
        (m : World Frame) (u : Seen) (o : Outside) (p : ProcId) (at : memory.Place) (head : List Line) (c a : A) → StaysQuiescent r → Going m u o → p.0 ≡ o.active
        → slice_get u.places p.0 ≡ Some at → Puts puts c head a
        → Follows puts m (record { head = head; place = ready m p.0; out = o }) c Rested (record u { ended = false }) a
    idles m u o p at head c a still s active there put =
        let x = place_of m.places p.0 in
        let h = shown_at m u o p at s there in
        let q = still m.out.file.turns at.machine.process x.proc o h.rests in
        record {
          left = live (ready m p.0).proc o;
          bursts = rests q.0;
          lines = puts_more puts c a a head [] put no_line;
          ends = (
            refl,
            subst (λ ats. WorldRepresents (Quiescent r) (record u { places = ats; ended = false }) (record { places = slice_set m.places o.active (ready m p.0); out = o }))
                (set_same u.places p.0 at there)
                (shown_after m u o p at u.outside (ready m p.0) o s (record { up = h.up; me = h.me; processes_are = h.processes_are; rests = q.1; ports = h.ports }) s.outside refl refl refl
                (sym active)),
          );
        }

    module _
        (m : World Frame) (u : Seen) (o : Outside) (p : ProcId) (head : List Line) (c : A) (program : IsProgram r u.code) (deed : ActionRefines puts r u.code) (s : Going m u o)
        (active : p.0 ≡ o.active)
        (clock : program_time u.outside.time ≡ pos u.outside.time) (held : ProcessInvariant r (ready m p.0).proc) where
      abbrev turns : ℕ
      turns = m.out.file.turns

      abbrev was : Place Frame
      was = place_of m.places p.0

      abbrev done : EventAction → Begun Frame
      done d = record { head = head; place = done_in r turns p.0 d was; out = o }

      -- it does something
      pub acts : (d : EventAction) (a b : A) (e : burst_end.Burst) (v : Seen) → Puts puts c head a → MayBeDone d was.proc
          → UnlessStopped (done d).place.proc.core.halted (ProcessInvariant r (done d).place.proc)
          → ActsAt puts p d u a e v b → Follows puts m (done d) c e (ends e v) b
      acts d a b e v put may kept t =
          let x : Done r turns p d was o puts a e t.acted.place t.acted.outside b =
          deed program turns p d was o t.at t.acted.place u.outside t.acted.outside a b e
          (record { shows = shown_at m u o p t.at s t.there; outside = s.outside; active = active; clock = clock; may = may; held = held; kept = kept })
          (subst (λ n. Acts puts u.code n p d t.at u.outside a e t.acted.place t.acted.outside b) s.turns t.acted.acts)
          in
          record {
            left = x.after;
            bursts = x.bursts;
            lines = puts_more puts c a b head x.after.proc.core.lines put x.lines;
            ends = by_end e x.after t.acted.place t.acted.outside v x.stays.file x.stays.ran x.stays.script (x.stays.active ∙ sym active) t.acted.left x.ends;
          }
        where
          by_end : (e : burst_end.Burst) (l : Live Outside Frame) (place : memory.Place) (outside : Surroundings) (v : Seen)
              → l.out.file ≡ o.file → l.out.ran ≡ o.ran → l.out.script ≡ o.script → l.out.active ≡ p.0 → v ≡ with_outside outside (with_place p place u)
              → EndsAs r turns p d was o e place outside l → AfterAs e m (done d) (ends e v) l
          by_end Rested l place outside v file ran script me left f = (
            f.0,
            subst (λ z. WorldRepresents (Quiescent r) (record z { ended = false }) (after m (done d) l)) (sym left)
                (shown_after m u o p place outside (record { up = (done d).place.up; proc = l.proc }) l.out s f.1 f.2 file ran script me),
          )
          by_end Spent l place outside v file ran script me left f = f

      -- so it does, where it doesn't boot
      pub runs : (d : EventAction) (a b : A) (e : burst_end.Burst) (v : Seen) → ((k : Machine) → holds_already d k ≡ false) → Puts puts c head a → MayBeDone d was.proc
          → UnlessStopped (done d).place.proc.core.halted (ProcessInvariant r (done d).place.proc) → Runs puts p d u a e v b → Follows puts m (done d) c e (ends e v) b
      runs d a b e v never put may kept t =
          acts d a b e v put may kept (subst (λ h. RunsUnless puts h p d u a e v b) (t.known.held_is ∙ never t.known.at.machine) t.runs)

      -- a boot does nothing where the process holds its `main`
      pub boots : (a b : A) (e : burst_end.Burst) (v : Seen) → StaysQuiescent r → Puts puts c head a → UnlessStopped (done Boots).place.proc.core.halted (ProcessInvariant r (done Boots).place.proc)
          → Runs puts p Boots u a e v b → Follows puts m (done Boots) c e (ends e v) b
      boots a b e v still put kept t = by_main t.known.at.machine.process.heap.main refl
        where
          main_is : was.proc.core.main ≡ option_map cell_number t.known.at.machine.process.heap.main
          main_is = (shown_at m u o p t.known.at s t.known.there).rests.resting.shown.holds.shows.main

          by_main : (x : Option CellId) → t.known.at.machine.process.heap.main ≡ x → Follows puts m (done Boots) c e (ends e v) b
          by_main None q =
              acts Boots a b e v put (main_is ∙ ap (option_map cell_number) q) kept (subst (λ h. RunsUnless puts h p Boots u a e v b) (t.known.held_is ∙ ap is_some q) t.runs)
          by_main (Some k) q =
              let y = subst (λ h. RunsUnless puts h p Boots u a e v b) (t.known.held_is ∙ ap is_some q) t.runs in
              let main : was.proc.core.main ≡ Some (cell_number k) = main_is ∙ ap (option_map cell_number) q in
              subst (λ z. Follows puts m (done Boots) c e (ends e v) z) (sym y.2)
              (subst (λ z. Follows puts m (done Boots) c e (ends e z) a) (sym y.1)
              (subst (λ z. Follows puts m (done Boots) c z (ends z u) a) (sym y.0)
              (subst (λ z. Follows puts m (record { head = head; place = booted (classes r) p.0 (ready m p.0) z; out = o }) c Rested (record u { ended = false }) a) (sym main)
              (idles m u o p t.known.at head c a still s active t.known.there put))))
