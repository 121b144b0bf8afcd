-- What a process in memory does after a deed is a burst of the class machine.
use Rattle.std.proofs.Common.{◌≡◌, ℕ, List, [], ◌∷◌, ◌++◌, refl, sym, ap, ◌∙◌, subst}
use Rattle.std.specs.Prelude.{Result}
use Rattle.flow_base.specs.declared.ids.ProcId.{ProcId}
use Rattle.flow_base.specs.declared.fault.OutFault.{OutFault}
use Rattle.flow_trace.specs.declared.line.Line.{Line}
use Rattle.flow_class.specs.Classes.{RawTree}
use Rattle.flow_code.specs.declared.program.Code.{Code}
use Rattle.flow_meaning.specs.Burst.{live}
use Rattle.flow_meaning.specs.Class.{classes}
use Rattle.flow_meaning.specs.Deliver.{begin, boot}
use Rattle.flow_meaning.specs.Frame.{Frame}
use Rattle.flow_meaning.specs.Orderly.{UnlessStopped}
use Rattle.flow_meaning.specs.Outside.{Outside, host}
use Rattle.flow_meaning.specs.Process.{Proc}
use Rattle.flow_meaning.specs.Step.{on_core}
use Rattle.flow_meaning.specs.World as meaning
use Rattle.flow_meaning.specs.World.{booted, with_core}
use Rattle.flow_heap_refinement.specs.Counted.{nothing_in_hand}
use Rattle.flow_steps.specs.declared.process.Process.{Process}
use Rattle.flow_steps.specs.Doing.{begun}
use Rattle.flow_machine.specs.declared.host.Burst.{Burst}
use Rattle.flow_machine.specs.declared.host.Burst.TheVariants as burst
use Rattle.flow_machine.specs.Bursts.{Bursts, MainBursts}
use Rattle.flow_step_refinement.specs.Services as serving
use Rattle.flow_burst_refinement.specs.Enabled.Tasking.{IsProgram}
use Rattle.flow_burst_refinement.specs.Bursts as bursting
use Rattle.flow_burst_refinement.specs.Bursts.{Wrote, no_line, and_more}
use Rattle.flow_burst_refinement.specs.Invariants.Invariant.{ProcessInvariant}
use Rattle.flow_burst_refinement.specs.Boundaries.Delivering.{IsDelivered}
use Rattle.flow_burst_refinement.proofs.Boundaries.Bringing.{answer_brings, stop_brings, element_brings}
use Rattle.flow_burst_refinement.proofs.Programs.Following.{event_follows, event_rests}
use Rattle.flow_world.specs.declared.action.EventAction.{EventAction}
use Rattle.flow_world.specs.declared.action.EventAction.TheVariants.{Boots, Stops, Delivers, Brings}
use Rattle.flow_world.specs.declared.place.Place.{Place}
use Rattle.flow_world.specs.Around.{Inside, Puts, no_line as nothing_put, more_lines, shows, wrote}
use Rattle.flow_world.specs.Changes.{Surroundings}
use Rattle.flow_world.specs.Actions.{BurstsAfter, up_after}
use Rattle.flow_world.specs.Happening.{Acts, inside}
use Rattle.flow_world.specs.Ports.{PortsRepresent}
use Rattle.flow_world_refinement.specs.Effects.Actions as law
use Rattle.flow_world_refinement.specs.Effects.Actions.{done_in, Ready, Done}
use Rattle.flow_world_refinement.proofs.Effects.Booting.{boot_goes}
use Rattle.flow_world_refinement.proofs.Effects.SamePorts.{deed_ports}
use Rattle.flow_world_refinement.proofs.Effects.Steadily.{host_steady, burst_stays}

module _ {A : Type 0} (puts : A → Line → Result (Unit {0}) OutFault → A → Type 0) where
  -- the lines that the host wrote are put
  more_puts : (a b c : A) (ls more : List Line) → Puts puts a ls b → Puts puts b more c → Puts puts a (ls ++ more) c
  more_puts a b c [] more nothing_put rest = rest
  more_puts a b c (l ∷ ls) more (more_lines {b = d} one next) rest = more_lines one (more_puts d b c ls more next rest)

  told_puts : (r : RawTree) (a b : Inside A) (ls : List Line) → serving.WroteOrQuiet host shows (wrote puts) r nothing_in_hand a ls b → Puts puts a.out ls b.out
  told_puts r a b ls serving.quiet = nothing_put
  told_puts r a b ls (serving.told said) = said

  written_puts : (r : RawTree) (code : Code) (processes : ℕ) (a b : Inside A) (ls : List Line) → Wrote host shows (wrote puts) code processes r a ls b → Puts puts a.out ls b.out
  written_puts r code processes a b ls (no_line _) = nothing_put
  written_puts r code processes a b ls (and_more _ between _ first more one rest) =
      more_puts a.out between.out b.out first more (told_puts r a between first one) (written_puts r code processes between b more rest)

  module _ (r : RawTree) (code : Code) (program : IsProgram r code) (turns : ℕ) (p : ProcId) (x : meaning.Place Frame) (o : Outside) (at : Place) (m : Surroundings) (a : A) where
    -- what it did by its machine is what the class machine does
    abbrev Goes : EventAction → Burst → Process → Inside A → Type 0
    Goes d e q b = bursting.SimulatesBurst host shows (wrote puts) code at.machine.processes r [] (inside puts p at.ports m a) (done_in r turns p.0 d x).proc o e q b

    module _ (d : EventAction) (ready : Ready r turns p d x o at m) where
      rests_done : (left : Place) (n : Surroundings) (b : A) (me : ProcId) → left.up ≡ up_after d at.up → left.machine.me ≡ at.machine.me → left.machine.processes ≡ at.machine.processes
          → up_after d x.up ≡ (done_in r turns p.0 d x).up → Goes d burst.Rested left.machine.process (inside puts me left.ports n b) → Done r turns p d x o puts a burst.Rested left n b
      rests_done left n b me up same count stays f =
          let g = event_rests host shows (wrote puts) code at.machine.processes r left.machine.process (inside puts p at.ports m a) (inside puts me left.ports n b)
          (done_in r turns p.0 d x).proc o f in record {
            after = live f.after f.out;
            bursts = f.bursts;
            lines = subst (λ ls. Puts puts a ls b) (sym g.lines) (written_puts r code at.machine.processes (inside puts p at.ports m a) (inside puts me left.ports n b) f.lines f.written);
            stays = burst_stays (classes r) (live (done_in r turns p.0 d x).proc o) (live f.after f.out) f.bursts;
            ends = (
              g.goes,
              record {
                up = up ∙ ap (up_after d) ready.shows.up ∙ stays;
                me = ap (λ (i : ProcId). i.0) same ∙ ready.shows.me;
                processes_are = count ∙ ready.shows.processes_are;
                rests = record { resting = g.resting; tasks = g.tasks };
                ports = g.world.ports;
              },
              g.world.outside,
            );
          }

      spent_done : (left : Place) (n : Surroundings) (b : A) (me : ProcId) → Goes d burst.Spent left.machine.process (inside puts me left.ports n b) → Done r turns p d x o puts a burst.Spent left n b
      spent_done left n b me f = record {
        after = live f.after f.out;
        bursts = f.bursts;
        lines = subst (λ ls. Puts puts a ls b) (sym f.ends.2) (written_puts r code at.machine.processes (inside puts p at.ports m a) (inside puts me left.ports n b) f.lines f.written);
        stays = burst_stays (classes r) (live (done_in r turns p.0 d x).proc o) (live f.after f.out) f.bursts;
        ends = f.ends.1;
      }

    around : (d : EventAction) → Ready r turns p d x o at m → shows (inside puts p at.ports m a) (done_in r turns p.0 d x).proc.core.ports o
    around d ready = record {
      outside = ready.outside;
      active = ready.active;
      ports = subst (PortsRepresent at.ports) (sym (deed_ports r turns p.0 d x)) ready.shows.ports;
    }

    brought_goes : (d : EventAction) (ready : Ready r turns p d x o at m) (start : Process) (e : Burst) (q : Process) (b : Inside A) → IsDelivered r m.time start (done_in r turns p.0 d x).proc
        → Bursts host shows (wrote puts) code at.machine.processes start (inside puts p at.ports m a) e q b → Goes d e q b
    brought_goes d ready start e q b is bursts =
        event_follows host shows (wrote puts) code at.machine.processes r program host_steady m.time start q (inside puts p at.ports m a) b (done_in r turns p.0 d x).proc o e is ready.kept
        (record { shown = around d ready; clock = ready.clock; time = ready.outside.time; among = ready.shows.processes_are }) bursts

    booting_goes : (ready : Ready r turns p Boots x o at m) (e : Burst) (q : Process) (b : Inside A)
        → MainBursts host shows (wrote puts) code at.machine.processes at.machine.me (begun m.time turns at.machine.process) (inside puts p at.ports m a) e q b → Goes Boots e q b
    booting_goes ready e q b bursts =
        let me = at.machine.me in
        let booted_by : ℕ → Proc Frame = λ n. boot (classes r) n (on_core (begin turns) x.proc) in
        let same : booted_by p.0 ≡ (done_in r turns p.0 Boots x).proc = ap (λ h. (booted (classes r) p.0 (with_core x (begin turns)) h).proc) (sym ready.may) in
        let kept : UnlessStopped (booted_by me.0).core.halted (ProcessInvariant r (booted_by me.0)) =
        subst (λ n. UnlessStopped (booted_by n).core.halted (ProcessInvariant r (booted_by n))) (sym ready.shows.me)
        (subst (λ (q : Proc Frame). UnlessStopped q.core.halted (ProcessInvariant r q)) (sym same) ready.kept) in
        let f = boot_goes host shows (wrote puts) code at.machine.processes r program host_steady m.time turns me at.machine.process x.proc o
        (inside puts p at.ports m a) ready.shows.rests.resting ready.held ready.may kept
        (record { outside = ready.outside; active = ready.active; ports = ready.shows.ports }) ready.clock ready.outside.time ready.shows.processes_are e q b bursts in
        subst (λ z. bursting.SimulatesBurst host shows (wrote puts) code at.machine.processes r [] (inside puts p at.ports m a) z o e q b) (ap booted_by ready.shows.me ∙ same) f

    deed_goes : (d : EventAction) → Ready r turns p d x o at m → (e : Burst) (q : Process) (b : Inside A)
        → BurstsAfter host shows (wrote puts) code d at.machine (begun m.time turns at.machine.process) (inside puts p at.ports m a) e q b → Goes d e q b
    deed_goes Boots ready e q b bursts = booting_goes ready e q b bursts
    deed_goes Stops ready e q b bursts =
        brought_goes Stops ready _ e q b (stop_brings r at.machine.process x.proc m.time turns ready.shows.rests.resting) bursts
    deed_goes (Delivers k v) ready e q b bursts =
        brought_goes (Delivers k v) ready _ e q b
        (answer_brings r at.machine.process x.proc m.time turns k.0 v ready.shows.rests.resting ready.may.0 ready.may.1 ready.may.2) bursts
    deed_goes (Brings k v) ready e q b bursts =
        brought_goes (Brings k v) ready _ e q b
        (element_brings r at.machine.process x.proc m.time turns k.0 v ready.shows.rests.resting ready.may.0 ready.may.1) bursts

    -- it is up after a boot, and else stays so
    up_then : (d : EventAction) → Ready r turns p d x o at m → up_after d x.up ≡ (done_in r turns p.0 d x).up
    up_then Boots ready = ap (λ h. (booted (classes r) p.0 (with_core x (begin turns)) h).up) (sym ready.may)
    up_then Stops ready = refl
    up_then (Delivers k v) ready = refl
    up_then (Brings k v) ready = refl

    deed_follows : (d : EventAction) (left : Place) (n : Surroundings) (b : A) (e : Burst) → Ready r turns p d x o at m → Acts puts code turns p d at m a e left n b
        → Done r turns p d x o puts a e left n b
    deed_follows d left n b e ready acts = by_end e acts.up acts.does.me acts.does.processes (deed_goes d ready e left.machine.process (inside puts acts.me left.ports n b) acts.does.follows)
      where
        by_end : (e : Burst) → left.up ≡ up_after d at.up → left.machine.me ≡ at.machine.me → left.machine.processes ≡ at.machine.processes
            → Goes d e left.machine.process (inside puts acts.me left.ports n b) → Done r turns p d x o puts a e left n b
        by_end burst.Rested up same count f = rests_done d ready left n b acts.me up same count (up_then d ready) f
        by_end burst.Spent up same count f = spent_done d ready left n b acts.me f

pub deeds_follow : {A : Type 0} (puts : A → Line → Result (Unit {0}) OutFault → A → Type 0) (r : RawTree) (code : Code) → law.ActionRefines puts r code
deeds_follow puts r code program turns p d x o at left m n a b e ready acts = deed_follows puts r code program turns p x o at m a d left n b e ready acts
