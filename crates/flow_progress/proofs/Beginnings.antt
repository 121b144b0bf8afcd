-- Each event begins with its process in place, and counts as one more.
use Rattle.std.proofs.Common.{◌≡◌, ℕ, zero, suc, List, [], ◌∷◌, refl, subst}
use Rattle.std.specs.Prelude.{pos, false, replicate, slice_index_or, slice_set}
use Rattle.std.specs.List.{AllByRecursion}
use Rattle.std.specs.declared.option.Option.{Option}
use Rattle.std.specs.declared.option.Option.TheVariants.{None, Some}
use Rattle.flow_worldfile.specs.declared.directive.Order.{Order}
use Rattle.flow_worldfile.specs.declared.directive.Order.TheVariants.{Kill, Stop, Boot, Cut, Heal, DiskFail}
use Rattle.flow_value.specs.Values.{IntValue, VoidValue, OutcomeTree, GoodOutcome}
use Rattle.flow_class.specs.Classes.{RawTree}
use Rattle.flow_numbered.specs.Numbered.{Numbered}
use Rattle.flow_meaning.specs.Process.{Core}
use Rattle.flow_meaning.specs.Step.{proc}
use Rattle.flow_meaning.specs.Deliver.{idle_core, idle, boot_core, boot_with, stop, deliver, arrive}
use Rattle.flow_meaning.specs.Orderly.{Orderly, OrderlyUnlessStopped, UnlessStopped, Free}
use Rattle.flow_meaning.specs.Outside.{What, Boots, Rings, Arrives, Answers, Outside}
use Rattle.flow_meaning.specs.World.{Place, World, Begun, Next, Nothing, Script, Event, booted, ordered, packet, arrived, listener, happened, process_of, process_in, ready, counted, with_left, begun_by}
use Rattle.flow_meaning.specs.Frame.{Frame}
use Rattle.flow_meaning.specs.Class.{classes}
use Rattle.flow_meaning.proofs.Posture.{Unless, unless, unless_map, unless_both, Eases}
use Rattle.flow_meaning.proofs.Shifts.{same_of}
use Rattle.flow_meaning.proofs.TaskShifts.{booted_enrolled, stop_eases, deliver_eases, arrive_eases}
use Rattle.flow_meaning.proofs.Relating.{related_eased, related_new}
use Rattle.flow_meaning.proofs.InOrder.{no_thing, boot_in_order, begin_in_order, stop_in_order, deliver_in_order, arrive_in_order}
use Rattle.flow_meaning.proofs.RestRuns.{idle_orderly, idle_at_rest}
use Rattle.flow_progress.specs.Phases.{Placed}
use Rattle.flow_progress.specs.FramesByRequest.{Going}
use Rattle.flow_progress.specs.Ending.{InPlace}
use Rattle.flow_progress.specs.Existing.{RestsInPlace, WorldInPlace}
use Rattle.flow_progress.proofs.KeptPhases.{Itself, itself, related_of, placed_of}
use Rattle.flow_progress.proofs.Goes.{frames_going}

module _ (r : RawTree) where
  abbrev Known : Core → Numbered Frame → Type 0
  Known c xs = Placed (Going r) c xs

  abbrev Stays : Core → Numbered Frame → Type 0
  Stays c xs = UnlessStopped c.halted (InPlace r c xs)

  both : (c : Core) (xs : Numbered Frame) → OrderlyUnlessStopped c → Unless (λ k. Known k xs) c → Stays c xs
  both c xs o p = unless_map c.halted (λ (x : Orderly c × Known c xs). record { orderly = x.0; frames = x.1 }) (unless_both (Orderly c) (Known c xs) c.halted o p)

  -- no phase rises
  eased : (c d : Core) (xs : Numbered Frame) → Known c xs → Eases c d → Known d xs
  eased c d xs k h =
      let going = frames_going r in
      placed_of (classes r) (Going r) going d xs (related_eased (classes r) (classes r) (Itself (classes r) (Going r) going) (itself (classes r) (Going r) going) c d xs xs
      (related_of (classes r) (Going r) going c xs k) h)

  delivered : (c d : Core) (xs : Numbered Frame) → OrderlyUnlessStopped d → Unless (Eases c) d → Known c xs → Stays d xs
  delivered c d xs o h k = both d xs o (unless_map d.halted (eased c d xs k) h)

  unchanged : (c : Core) (xs : Numbered Frame) → Orderly c → Known c xs → Stays c xs
  unchanged c xs o k = unless c.halted (record { orderly = o; frames = k })

  boot_stays : (x : Option Frame) (c : Core) (xs : Numbered Frame) → Orderly c → Known c xs → ((f : Frame) → x ≡ Some f → Going r Free f)
      → Stays (boot_with (classes r) x (proc c xs)).core (boot_with (classes r) x (proc c xs)).actors
  boot_stays None c xs o k h = tt
  boot_stays (Some f) c xs o k h =
      let going = frames_going r in
      let e = classes r in
      let R = Itself e (Going r) going in
      let d = boot_core e.main (e.label e.main) c in
      let ys = Rattle.flow_numbered.specs.Numbered.added xs (suc c.started) f in
      both d ys (boot_in_order e.main (e.label e.main) c o)
      (unless_map d.halted (λ n. placed_of e (Going r) going d ys (related_new e e R (itself e (Going r) going) (suc c.started) c d xs xs f f (related_of e (Going r) going c xs k) n.0 n.1
      (refl, h f refl)))
      (booted_enrolled e.main (e.label e.main) c o.numbered))

  -- an event begins
  abbrev Begins : Begun Frame → Type 0
  Begins b = Stays b.place.proc.core b.place.proc.actors

  booted_begins : (p : ℕ) (a : Place Frame) (held : Option ℕ) → Orderly a.proc.core → Known a.proc.core a.proc.actors
      → Stays (booted (classes r) p a held).proc.core (booted (classes r) p a held).proc.actors
  booted_begins p a (Some held) o k = unchanged a.proc.core a.proc.actors o k
  booted_begins p a None o k =
      let e = classes r in
      let vs = IntValue (pos p) ∷ [] in
      boot_stays (e.fresh e.main vs) a.proc.core a.proc.actors o k ((frames_going r).fresh e.main vs)

  gone : (made started : ℕ) → Stays (record idle_core { made = made; started = started }) []
  gone made started = record { orderly = idle_orderly made started; frames = record { all = tt; phases = λ i f q. absurd (no_thing q) } }

  ordered_begins : (x : Order) (a : Place Frame) (w : Outside) → Orderly a.proc.core → Known a.proc.core a.proc.actors → Begins (ordered (classes r) x a w)
  ordered_begins (Boot p) a w o k = booted_begins p a a.proc.core.main o k
  ordered_begins (Stop p) a w o k =
      let d = stop a.proc.core in
      delivered a.proc.core d a.proc.actors (unless d.halted (stop_in_order a.proc.core o)) (unless d.halted (stop_eases a.proc.core)) k
  ordered_begins (Kill p) a w o k = gone a.proc.core.made a.proc.core.started
  ordered_begins (Cut p q) a w o k = unchanged a.proc.core a.proc.actors o k
  ordered_begins (Heal p q) a w o k = unchanged a.proc.core a.proc.actors o k
  ordered_begins (DiskFail p n) a w o k = unchanged a.proc.core a.proc.actors o k

  answer_begins : (n : ℕ) (v : OutcomeTree) (a : Place Frame) → Orderly a.proc.core → Known a.proc.core a.proc.actors → Stays (deliver n v a.proc.core) a.proc.actors
  answer_begins n v a o k = delivered a.proc.core (deliver n v a.proc.core) a.proc.actors (deliver_in_order n v a.proc.core o) (deliver_eases n v a.proc.core) k

  arrived_begins : (m from port : ℕ) (text : List ℕ) (a : Place Frame) (w : Outside) (l : Option ℕ) → Orderly a.proc.core → Known a.proc.core a.proc.actors → Begins (arrived m from port text a w l)
  arrived_begins m from port text a w None o k = unchanged a.proc.core a.proc.actors o k
  arrived_begins m from port text a w (Some n) o k =
      let v = packet from port text in
      delivered a.proc.core (arrive n v a.proc.core) a.proc.actors (arrive_in_order n v a.proc.core o) (arrive_eases n v a.proc.core) k

  happened_begins : (x : What) (a : Place Frame) (w : Outside) → Orderly a.proc.core → Known a.proc.core a.proc.actors → Begins (happened (classes r) x a w)
  happened_begins (Boots p) a w o k = ordered_begins (Boot p) a w o k
  happened_begins (Rings p n) a w o k = answer_begins n (GoodOutcome VoidValue) a o k
  happened_begins (Arrives m from to port text) a w o k = arrived_begins m from port text a w (listener a port) o k
  happened_begins (Answers p n call) a w o k = answer_begins n _ a o k

  -- the process of an event
  rests_at : (ps : List (Place Frame)) (k : ℕ) (a : Place Frame) → AllByRecursion (λ (a : Place Frame). RestsInPlace r a) ps → RestsInPlace r a → RestsInPlace r (slice_index_or ps k a)
  rests_at [] k a h x = x
  rests_at (p ∷ ps) zero a h x = h.0
  rests_at (p ∷ ps) (suc k) a h x = rests_at ps k a h.1 x

  pub rests_set : (ps : List (Place Frame)) (k : ℕ) (a : Place Frame) → AllByRecursion (λ (a : Place Frame). RestsInPlace r a) ps → RestsInPlace r a
      → AllByRecursion (λ (a : Place Frame). RestsInPlace r a) (slice_set ps k a)
  rests_set [] k a h x = tt
  rests_set (p ∷ ps) zero a h x = (x, h.1)
  rests_set (p ∷ ps) (suc k) a h x = (h.0, rests_set ps k a h.1 x)

  idle_place : RestsInPlace r (record { up = false; proc = idle })
  idle_place = (idle_at_rest, record { all = tt; phases = λ i f q. absurd (no_thing q) })

  at_event : (w : World Frame) (k : ℕ) → WorldInPlace r w → Orderly (ready w k).proc.core × Known (ready w k).proc.core (ready w k).proc.actors
  at_event w k h =
      let a : Place Frame = record { up = false; proc = idle } in
      let p = slice_index_or w.places k a in
      let x = rests_at w.places k a h idle_place in
      (begin_in_order w.out.file.turns p.proc.core x.0.orderly, record { all = x.1.all; phases = x.1.phases })

  pub begun_begins : (n : Next) (w : World Frame) (b : Begun Frame) → WorldInPlace r w → begun_by (classes r) w n ≡ Some b → Begins b
  begun_begins Nothing w b h g = absurd (no_thing g)
  begun_begins (Script t o left) w b h g =
      let x = at_event w (process_of o) h in
      subst Begins (same_of g) (ordered_begins o (ready w (process_of o)) (counted t (process_of o) (record w.out { script = left })) x.0 x.1)
  begun_begins (Event p left) w b h g =
      let x = at_event w (process_in p.what) h in
      subst Begins (same_of g) (happened_begins p.what (ready w (process_in p.what)) (counted p.time (process_in p.what) (with_left w.out left)) x.0 x.1)

  pub start_places : (n : ℕ) → AllByRecursion (λ (a : Place Frame). RestsInPlace r a) (replicate n (record { up = false; proc = idle }))
  start_places zero = tt
  start_places (suc n) = (idle_place, start_places n)
