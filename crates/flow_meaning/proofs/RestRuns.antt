-- Every state of a run is at rest, with actors of any kind.
use Rattle.std.proofs.Common.{◌≡◌, ℕ, zero, suc, List, [], ◌∷◌, refl, sym, subst}
use Rattle.std.specs.Prelude.{pos, false, replicate, slice_index_or, slice_set}
use Rattle.std.specs.List.{AllByRecursion}
use Rattle.std.specs.declared.option.Option.{Option}
use Rattle.std.specs.declared.option.Option.TheVariants.{None, Some}
use Rattle.flow_worldfile.specs.declared.directive.Order.{Order}
use Rattle.flow_worldfile.specs.declared.directive.Order.TheVariants.{Kill, Stop, Boot, Cut, Heal, DiskFail}
use Rattle.flow_value.specs.Values.{IntValue, VoidValue, GoodOutcome}
use Rattle.flow_meaning.specs.Process.{Engine}
use Rattle.flow_meaning.specs.Deliver.{idle_core, idle, boot_with, stop}
use Rattle.flow_meaning.specs.Burst.{Live, Burst}
use Rattle.flow_meaning.specs.Orderly.{Orderly, OrderlyUnlessStopped, UnlessStopped}
use Rattle.flow_meaning.specs.Law.{AtRest}
use Rattle.flow_meaning.specs.Outside.{What, Boots, Rings, Arrives, Answers, Outside, host}
use Rattle.flow_meaning.specs.World.{Place, World, Begun, Next, Nothing, Script, Event, next_of, booted, ordered, packet, arrived, listener, happened, process_of, process_in, ready, counted, with_left, begun_by, at_start}
use Rattle.flow_meaning.specs.Runs.{before, after, ends, spent, event}
use Rattle.flow_meaning.specs.RunLaw.{WorldAtRest, RunsRest, TracesRest}
use Rattle.flow_meaning.proofs.Posture.{unless}
use Rattle.flow_meaning.proofs.Shifts.{same_of}
use Rattle.flow_meaning.proofs.InOrder.{no_thing, boot_in_order, begin_in_order, stop_in_order, deliver_in_order, arrive_in_order, burst_at_rest}

pub idle_orderly : (made started : ℕ) → Orderly (record idle_core { made = made; started = started })
idle_orderly made started = record { actors = λ i. refl; paired = tt; waiting = tt; numbered = tt }

pub idle_at_rest : AtRest idle_core
idle_at_rest = record { orderly = idle_orderly 0 0; no_tasks = refl; suspended = λ i x h. absurd (no_thing h) }

module _ {A : Type 0} (e : Engine A) where
  abbrev Rests : Place A → Type 0
  Rests a = AtRest a.proc.core

  rests_at : (ps : List (Place A)) (k : ℕ) (a : Place A) → AllByRecursion Rests ps → Rests a → Rests (slice_index_or ps k a)
  rests_at [] k a h r = r
  rests_at (p ∷ ps) zero a h r = h.0
  rests_at (p ∷ ps) (suc k) a h r = rests_at ps k a h.1 r

  rests_set : (ps : List (Place A)) (k : ℕ) (a : Place A) → AllByRecursion Rests ps → Rests a → AllByRecursion Rests (slice_set ps k a)
  rests_set [] k a h r = tt
  rests_set (p ∷ ps) zero a h r = (r, h.1)
  rests_set (p ∷ ps) (suc k) a h r = (h.0, rests_set ps k a h.1 r)

  -- an event begins with its process in order
  abbrev Begins : Begun A → Type 0
  Begins b = OrderlyUnlessStopped b.place.proc.core

  ready_orderly : (w : World A) (k : ℕ) → WorldAtRest w → Orderly (ready w k).proc.core
  ready_orderly w k h =
      let a : Place A = record { up = false; proc = idle } in
      begin_in_order w.out.file.turns (slice_index_or w.places k a).proc.core (rests_at w.places k a h idle_at_rest).orderly

  boot_begins : (x : Option A) (a : Place A) → Orderly a.proc.core → OrderlyUnlessStopped (boot_with e x a.proc).core
  boot_begins None a o = tt
  boot_begins (Some x) a o = boot_in_order e.main (e.label e.main) a.proc.core o

  booted_begins : (p : ℕ) (a : Place A) (held : Option ℕ) → Orderly a.proc.core → OrderlyUnlessStopped (booted e p a held).proc.core
  booted_begins p a (Some held) o = unless a.proc.core.halted o
  booted_begins p a None o = boot_begins (e.fresh e.main (IntValue (pos p) ∷ [])) a o

  ordered_begins : (x : Order) (a : Place A) (w : Outside) → Orderly a.proc.core → Begins (ordered e x a w)
  ordered_begins (Boot p) a w o = booted_begins p a a.proc.core.main o
  ordered_begins (Stop p) a w o = unless (stop a.proc.core).halted (stop_in_order a.proc.core o)
  ordered_begins (Kill p) a w o = idle_orderly a.proc.core.made a.proc.core.started
  ordered_begins (Cut p q) a w o = unless a.proc.core.halted o
  ordered_begins (Heal p q) a w o = unless a.proc.core.halted o
  ordered_begins (DiskFail p n) a w o = unless a.proc.core.halted o

  arrived_begins : (m from port : ℕ) (text : List ℕ) (a : Place A) (w : Outside) (l : Option ℕ) → Orderly a.proc.core → Begins (arrived m from port text a w l)
  arrived_begins m from port text a w None o = unless a.proc.core.halted o
  arrived_begins m from port text a w (Some cell) o = arrive_in_order cell (packet from port text) a.proc.core o

  happened_begins : (x : What) (a : Place A) (w : Outside) → Orderly a.proc.core → Begins (happened e x a w)
  happened_begins (Boots p) a w o = ordered_begins (Boot p) a w o
  happened_begins (Rings p k) a w o = deliver_in_order k (GoodOutcome VoidValue) a.proc.core o
  happened_begins (Arrives m from to port text) a w o = arrived_begins m from port text a w (listener a port) o
  happened_begins (Answers p k call) a w o = deliver_in_order k _ a.proc.core o

  begun_begins : (n : Next) (w : World A) (b : Begun A) → WorldAtRest w → begun_by e w n ≡ Some b → Begins b
  begun_begins Nothing w b h g = absurd (no_thing g)
  begun_begins (Script t o left) w b h g =
      subst Begins (same_of g) (ordered_begins o (ready w (process_of o)) (counted t (process_of o) (record w.out { script = left })) (ready_orderly w (process_of o) h))
  begun_begins (Event p left) w b h g =
      subst Begins (same_of g) (happened_begins p.what (ready w (process_in p.what)) (counted p.time (process_in p.what) (with_left w.out left)) (ready_orderly w (process_in p.what) h))

  after_rests : (w : World A) (b : Begun A) (l : Live Outside A) → WorldAtRest w → begun_by e w (next_of w.out) ≡ Some b → Burst e host (before b) l → l.proc.core.halted ≡ None
      → WorldAtRest (after w b l)
  after_rests w b l h g r x =
      let rest : AtRest l.proc.core = subst (λ o. UnlessStopped o (AtRest l.proc.core)) x (burst_at_rest e host (before b) l (begun_begins (next_of w.out) w b h g) r) in
      rests_set w.places l.out.active (record { up = b.place.up; proc = l.proc }) h rest

  pub runs_rest : RunsRest e
  runs_rest w states lines h (ends last g) = tt
  runs_rest w states lines h (spent b l g k r x) = tt
  runs_rest w states lines h (event {states = states2} {lines = lines2} b l g k r x rest) =
      let a = after_rests w b l h k r x in
      (a, runs_rest (after w b l) states2 lines2 a rest)

  start_rests : (n : ℕ) → AllByRecursion Rests (replicate n (record { up = false; proc = idle }))
  start_rests zero = tt
  start_rests (suc n) = (idle_at_rest, start_rests n)

  pub traces_rest : TracesRest e
  traces_rest w states lines r =
      let s : WorldAtRest (at_start {A = A} w) = start_rests w.processes in
      subst (AllByRecursion WorldAtRest) (sym r.from_start) (s, runs_rest (at_start w) r.later r.rest s r.runs)
