-- What is brought to a process keeps a rule on references.
use Rattle.std.proofs.Common.{◌≡◌, ℕ, suc, true, [], ◌∷◌, refl}
use Rattle.std.specs.Prelude.{pos, slice_get}
use Rattle.std.specs.declared.option.Option.{Option}
use Rattle.std.specs.declared.option.Option.TheVariants.{None, Some}
use Rattle.flow_value.specs.declared.value.Kind.TheVariants as kind
use Rattle.flow_value.specs.Values.{IntValue, GoodOutcome}
use Rattle.flow_meaning.specs.Process.{Drop}
use Rattle.flow_meaning.specs.Work.{pushed, fill}
use Rattle.flow_meaning.specs.Step.{enrol}
use Rattle.flow_meaning.specs.Deliver.{boot_with, stop_main, closed_request}
use Rattle.flow_meaning.specs.Frame.{Frame}
use Rattle.flow_meaning.specs.Class.{classes}
use Rattle.flow_heap_refinement.specs.Naming as law
use Rattle.flow_heap_refinement.specs.Naming.{RefsNamed, CellNamed, CoreNamed, MemoryNamed, FramesNamed, ProcNamed}
use Rattle.flow_heap_refinement.proofs.NamingFrames.{MaybeFrame, fresh_named}
use Rattle.flow_heap_refinement.proofs.NamingWork.{each_added, push_named, turn_named, fill_named}
use Rattle.flow_heap_refinement.proofs.NamingSteps.{enrol_named}

pub deliveries_named : law.DeliveriesNamed
deliveries_named p k o c h a n =
    let d = pushed (Drop kind.Promise k) (record c { requests = closed_request k c.requests }) in
    let m = push_named p (Drop kind.Promise k) (record c { requests = closed_request k c.requests }) h n in
    turn_named p c.left d (λ d. fill k o d) m (λ l. fill_named p k o (record d { left = l }) a m)

pub arrivals_named : law.ArrivalsNamed
arrivals_named p k v c a n =
    turn_named p c.left c (λ d. fill k (GoodOutcome v) d) n (λ l. fill_named p k (GoodOutcome v) (record c { left = l }) a n)

pub stops_named : law.StopsNamed
stops_named p c h n = by_main c.main h
  where
    by_main : (x : Option ℕ) → ((k : ℕ) → x ≡ Some k → p kind.Future k ≡ true) → CoreNamed p (stop_main x c)
    by_main None h = n
    by_main (Some k) h = push_named p (Drop kind.Future k) (record c { main = None }) (h k refl) n

pub boots_named : law.BootsNamed
boots_named r p me q n = by_frame ((classes r).fresh (classes r).main (IntValue (pos me) ∷ [])) (fresh_named p (slice_get r.classes (classes r).main) (IntValue (pos me) ∷ []) (tt, tt))
  where
    by_frame : (x : Option Frame) → MaybeFrame p x → ProcNamed p (boot_with (classes r) x q)
    by_frame None h = (n.0, n.1)
    by_frame (Some f) h = (
      turn_named p q.core.left q.core (λ d. record (enrol (classes r).main ((classes r).label (classes r).main) d) { main = Some (suc d.made) }) n.0
          (λ l. enrol_named p (classes r).main ((classes r).label (classes r).main) (record q.core { left = l }) n.0),
      each_added (λ f. MemoryNamed p f.mem) q.actors (suc q.core.started) f n.1 h,
    )
