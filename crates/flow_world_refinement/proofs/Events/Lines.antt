-- A line of the script that comes next is the next event of the definitions.
use Rattle.std.proofs.Common.{◌≡◌, ℕ, ◌<◌, ◌≤◌, pos, true, List, [], ◌∷◌, Some, length, refl, sym, ap, subst, arith}
use Rattle.std.specs.Prelude.{Result}
use Rattle.flow_base.specs.declared.ids.ProcId.{ProcId}
use Rattle.flow_base.specs.declared.fault.OutFault.{OutFault}
use Rattle.flow_trace.specs.declared.line.Line.{Line}
use Rattle.flow_trace.specs.declared.line.Line.TheVariants as line
use Rattle.flow_worldfile.specs.declared.world.Act.{Act}
use Rattle.flow_worldfile.specs.declared.world.Act.TheVariants as act
use Rattle.flow_worldfile.specs.declared.world.At.{At}
use Rattle.flow_worldfile.specs.declared.directive.Order.{Order}
use Rattle.flow_worldfile.specs.Directives.{OrderNames}
use Rattle.flow_worldfile.specs.Worlds.{order_of}
use Rattle.flow_class.specs.Classes.{RawTree}
use Rattle.flow_meaning.specs.Class.{classes}
use Rattle.flow_meaning.specs.Frame.{Frame}
use Rattle.flow_meaning.specs.Outside.{Outside, process_id}
use Rattle.flow_meaning.specs.World.{World, Begun, Script, next_of, begun_by, ordered, ready, counted, process_of, killed}
use Rattle.flow_machine.specs.declared.host.Burst as burst_end
use Rattle.flow_machine.specs.declared.host.Burst.TheVariants.{Rested, Spent}
use Rattle.flow_steps.specs.Evaluating.{program_time}
use Rattle.flow_world.specs.Ending.{Seen, next}
use Rattle.flow_world.specs.Happening.{Happens, Ordered, Killed, begins, ends}
use Rattle.flow_world_refinement.specs.Order.Showing.{WorldRepresents}
use Rattle.flow_world_refinement.specs.Order.Coming.{LineNext}
use Rattle.flow_world_refinement.specs.Traces.Traced.{EventShown, SpentShown}
use Rattle.flow_world_refinement.specs.Traces.Quiet.{StaysQuiet}
use Rattle.flow_world_refinement.proofs.Traces.Quietly.{cut_follows, heal_follows, failure_follows}
use Rattle.flow_invariants.proofs.Fitting.Worlds.{next_in, order_process}
use Rattle.flow_burst_refinement.proofs.Boundaries.Keeping.{ready_kept, begun_kept}
use Rattle.flow_burst_refinement.specs.Enabled.Tasking.{IsProgram}
use Rattle.flow_world_refinement.specs.Effects.Actions.{ActionRefines}
use Rattle.flow_world_refinement.specs.Effects.Quiescence.{Quiescent, StaysQuiescent}
use Rattle.flow_world_refinement.specs.Invariants.{WorldInvariant}
use Rattle.flow_world_refinement.proofs.Invariants.Mid.{next_early, clock_tells}
use Rattle.flow_world_refinement.proofs.Events.Acting.{Going, Follows}
use Rattle.flow_world_refinement.proofs.Events.Beginning.{line_begins}
use Rattle.flow_world_refinement.proofs.Events.Doing.{GoesOn, Begins, boot_follows, stop_follows}

module _ (r : RawTree) {A : Type 0} (puts : A → Line → Result (Unit {0}) OutFault → A → Type 0) where
  -- the next event of the definitions, as it ends
  abbrev pub Event : burst_end.Burst → World Frame → A → Seen → A → Type 0
  Event Rested m a v b = EventShown (Quiescent r) (WorldInvariant r) (IsProgram r) puts r m a v b
  Event Spent m a v b = SpentShown (Quiescent r) (WorldInvariant r) (IsProgram r) puts r m a b

  pub event_is : (m : World Frame) (g : Begun Frame) (a b : A) (e : burst_end.Burst) (v : Seen) → begun_by (classes r) m (next_of m.out) ≡ Some g → Follows r puts m g a e v b → Event e m a v b
  event_is m g a b Rested v begins f =
      record { event = record { begun = g; left = f.left; begins = begins; follows = f.bursts; lines = f.lines }; rests = f.ends.0; shows = f.ends.1 }
  event_is m g a b Spent v begins f = record { event = record { begun = g; left = f.left; begins = begins; follows = f.bursts; lines = f.lines }; spent = f.ends }

  -- what a loss of power does
  abbrev pub LossFollows : Type 0
  LossFollows =
      (m : World Frame) (u v : Seen) (o : Outside) (p : ProcId) (a b : A) (e : burst_end.Burst) → Going r m u o → p.0 ≡ o.active → Killed puts p u a e v b
      → Follows r puts m (killed (line.Kill o.ran o.time (process_id p.0) ∷ []) p.0 (ready m p.0) o) a e (ends e v) b

  pub quiet_stays : StaysQuiescent r → StaysQuiet (Quiescent r) (WorldInvariant r) (IsProgram r) r
  quiet_stays still = λ turns p x out h. still turns p x out h

  module _
      (w v : Seen) (m : World Frame) (a b : A) (e : burst_end.Burst) (program : IsProgram r w.code) (s : WorldRepresents (Quiescent r) w m) (lasting : WorldInvariant r m) (h : Happens puts w a e v b)
      (deed : ActionRefines puts r w.code) (still : StaysQuiescent r) (loss : LossFollows) where
    -- fewer events ran than may, and programs can tell the time
    pub tells : (t : ℕ) → t ≤ Rattle.flow_world_refinement.specs.Invariants.latest lasting.slack m.out.ran → program_time t ≡ pos t
    tells t early =
        let within : m.out.ran < m.out.file.events = omega (arith, h.bound, s.ran, s.bound) in
        let many = lasting.times.file.events in clock_tells lasting.slack t m.out.ran lasting.few early (omega (arith, within, many))

    -- what it keeps once it has begun
    pub goes_on : (g : Begun Frame) → begun_by (classes r) m (next_of m.out) ≡ Some g → GoesOn r puts g
    goes_on g q = begun_kept r program.whole.valid m g lasting.keeps q

    module _ (t : ℕ) (x : Act) (left : List (ℕ × Order)) (u : Seen) (code : u.code ≡ w.code) where
      abbrev out : Outside
      out = counted t (process_of (order_of x)) (record m.out { script = left })

      pub follows : next_of m.out ≡ Script t (order_of x) left → Going r m u out → program_time u.outside.time ≡ pos u.outside.time → Ordered puts x u a e h.left b
          → (l : At) (ls : List At) → w.script ≡ l ∷ ls → l.act ≡ x → next w ≡ Some (h.time, true) → Event e m a v b
      follows comes going clock does l ls are is next_is = by_act x refl
        where
          names : OrderNames m.out.file.processes (order_of x)
          names = ((next_in m.out.file.processes m.out lasting.keeps.fits.script).script t (order_of x) left comes).0

          within : (k : ℕ) → k < m.out.file.processes → k < length m.places
          within k l = subst (λ z. k < z) (sym lasting.keeps.fits.count) l

          begins_is : begun_by (classes r) m (next_of m.out) ≡ Some (ordered (classes r) (order_of x) (ready m (process_of (order_of x))) out)
          begins_is = ap (begun_by (classes r) m) comes

          begun : (p : ProcId) → p.0 ≡ process_of (order_of x) → Begins r puts m u out p
          begun p same = record {
            program = subst (IsProgram r) (sym code) program;
            deed = subst (ActionRefines puts r) (sym code) deed;
            still = still;
            going = going;
            active = same;
            clock = clock;
            held = ready_kept r program.whole.valid m p.0 lasting.keeps (subst (λ k. k < m.out.file.processes) (sym same) (order_process m.out.file.processes (order_of x) names));
          }

          ended : Follows r puts m (ordered (classes r) (order_of x) (ready m (process_of (order_of x))) out) a e (ends e h.left) b → Event e m a v b
          ended f = subst (λ z. Event e m a z b) (sym h.after) (event_is m _ a b e (ends e h.left) begins_is f)

          rested : e ≡ Rested → (Happens puts w a Rested v b → Event Rested m a v b) → Event e m a v b
          rested q f = subst (λ z. Event z m a v b) (sym q) (f (subst (λ z. Happens puts w a z v b) q h))

          kept : GoesOn r puts (ordered (classes r) (order_of x) (ready m (process_of (order_of x))) out)
          kept = goes_on _ begins_is

          few : m.out.file.processes ≤ 64
          few = lasting.times.file.processes.1

          by_act : (y : Act) → x ≡ y → Event e m a v b
          by_act y q = f y (subst (λ z. l.act ≡ z) q is) q (subst (λ z. Ordered puts z u a e h.left b) q does) (subst (λ z. OrderNames m.out.file.processes (order_of z)) q names)
              (λ k. ended (subst (λ z. Follows r puts m (ordered (classes r) (order_of z) (ready m (process_of (order_of z))) out) a e (ends e h.left) b) (sym q) k))
              (subst (λ z. GoesOn r puts (ordered (classes r) (order_of z) (ready m (process_of (order_of z))) out)) q kept)
            where
              of : Act → Begun Frame
              of z = ordered (classes r) (order_of z) (ready m (process_of (order_of z))) out

              f : (z : Act) → l.act ≡ z → x ≡ z → Ordered puts z u a e h.left b → OrderNames m.out.file.processes (order_of z)
                  → (Follows r puts m (of z) a e (ends e h.left) b → Event e m a v b) → GoesOn r puts (of z) → Event e m a v b
              f (act.Boot p) own q d named k g = k (boot_follows r puts m u out p (begun p (ap (λ z. process_of (order_of z)) (sym q))) a b e h.left g d)
              f (act.Stop p) own q d named k g = k (stop_follows r puts m u out p (begun p (ap (λ z. process_of (order_of z)) (sym q))) a b e h.left g d)
              f (act.Kill p) own q d named k g = k (loss m u h.left out p a b e going (ap (λ z. process_of (order_of z)) (sym q)) d)
              f (act.Cut p j) own q d named k g =
                  rested d.1 (λ done. cut_follows (Quiescent r) (WorldInvariant r) (IsProgram r) r puts w v m a b p j (quiet_stays still)
                  (record { few = few; stands = within p.0 named.0; first = named.0; second = named.1 })
                  (record { represents = s; time = h.time; line = l; rest = ls; next_is = next_is; script = are; orders = own; happens = done }))
              f (act.Heal p j) own q d named k g =
                  rested d.1 (λ done. heal_follows (Quiescent r) (WorldInvariant r) (IsProgram r) r puts w v m a b p j (quiet_stays still)
                  (record { few = few; stands = within p.0 named.0; first = named.0; second = named.1 })
                  (record { represents = s; time = h.time; line = l; rest = ls; next_is = next_is; script = are; orders = own; happens = done }))
              f (act.DiskFail p i) own q d named k g =
                  rested d.1 (λ done. failure_follows (Quiescent r) (WorldInvariant r) (IsProgram r) r puts w v m a b p i (quiet_stays still) (within p.0 named)
                  (record { represents = s; time = h.time; line = l; rest = ls; next_is = next_is; script = are; orders = own; happens = done }))

    -- the line that comes
    pub line_event : (t : ℕ) (k : Order) (left : List (ℕ × Order)) (n : LineNext h.time w.script t k left) → next_of m.out ≡ Script t k left → next w ≡ Some (h.time, true)
        → Ordered puts n.line.act (record (begins h.time w) { script = n.rest }) a e h.left b → Event e m a v b
    line_event t k left n comes next_is does =
        let u : Seen = record (begins h.time w) { script = n.rest } in
        let early = (next_early lasting.slack m.out lasting.times).line t k left comes in
        let go = line_begins r w m s h.time t k left n in
        let x = n.line.act in
        follows t x left u refl (subst (λ z. next_of m.out ≡ Script t z left) (sym n.orders) comes)
        (subst (λ z. Going r m u (counted t (process_of z) (record m.out { script = left }))) (sym n.orders) go)
        (subst (λ z. program_time z ≡ pos z) (sym n.same) (tells t early.0)) does n.line n.rest n.are refl next_is
