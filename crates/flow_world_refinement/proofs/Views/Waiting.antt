-- Waiting frames keep the state of their wait, from event to event.
use Rattle.std.proofs.Common.{◌≡◌, ℕ, zero, suc, Bool, true, false, List, [], ◌∷◌, refl, ap, ◌∙◌, subst}
use Rattle.std.specs.Prelude.{pos, replicate, slice_index_or, slice_set}
use Rattle.std.specs.List.{AllByRecursion}
use Rattle.std.specs.declared.option.Option.{Option}
use Rattle.std.specs.declared.option.Option.TheVariants.{None, Some}
use Rattle.flow_worldfile.specs.declared.directive.Order.{Order}
use Rattle.flow_worldfile.specs.declared.directive.Order.TheVariants.{Kill, Stop, Boot, Cut, Heal, DiskFail}
use Rattle.flow_value.specs.Values.{IntValue, VoidValue, OutcomeTree, GoodOutcome}
use Rattle.flow_class.specs.Classes.{RawTree}
use Rattle.flow_numbered.specs.Numbered.{Numbered, thing}
use Rattle.flow_meaning.specs.Process.{Task, Run, Give, Throw, Catch, Store, Keep, Close, Fire, Drop, Entry, Core}
use Rattle.flow_meaning.specs.Step.{proc}
use Rattle.flow_meaning.specs.Deliver.{idle, boot_core, boot_with, stop, deliver, arrive}
use Rattle.flow_meaning.specs.Burst.{Live, Burst}
use Rattle.flow_meaning.specs.Orderly.{Orderly, OrderlyUnlessStopped, UnlessStopped, Free, Waiting, phase_by, phase_first, phase_of, is_suspended, tasks_of}
use Rattle.flow_meaning.specs.Law.{BothOrNone, AllRelated, Related, AtRest, Same}
use Rattle.flow_meaning.specs.Outside.{What, Boots, Rings, Arrives, Answers, Outside, host}
use Rattle.flow_meaning.specs.World.{Place, World, Begun, Next, Nothing, Script, Event, next_of, booted, ordered, packet, arrived, listener, happened, process_of, process_in, ready, counted, with_left, begun_by}
use Rattle.flow_meaning.specs.Runs.{before}
use Rattle.flow_meaning.specs.Frame.{Frame}
use Rattle.flow_meaning.specs.Class.{classes}
use Rattle.flow_meaning.specs.Views.{frame_spot}
use Rattle.flow_meaning.proofs.Posture.{unless, unless_map, unless_both, phase_waits, Unless, Eases}
use Rattle.flow_meaning.proofs.TaskShifts.{booted_enrolled, stop_eases, deliver_eases, arrive_eases}
use Rattle.flow_meaning.proofs.Relating.{related_eased, related_new}
use Rattle.flow_meaning.proofs.InOrder.{boot_in_order, begin_in_order, stop_in_order, deliver_in_order, arrive_in_order, burst_at_rest}
use Rattle.flow_meaning.proofs.RestRuns.{idle_orderly, idle_at_rest}
use Rattle.flow_meaning.proofs.Lift.{bursts_follow}
use Rattle.flow_meaning.proofs.BurstOnce.{burst_once}
use Rattle.flow_heap_refinement.specs.Representing.{wait_spot}
use Rattle.flow_world_refinement.specs.Views.Waiting.{InState, PlaceWaits, WorldWaits, StartWaits, EventWaits}
use Rattle.flow_world_refinement.proofs.Views.Itself.{Itself, itself}

-- the actors of a process are related to themselves
abbrev Own : Core → Numbered Frame → Type 0
Own c xs = Related Itself c xs xs

all_same : (xs : Numbered Frame) → AllRelated (Itself Free) xs xs
all_same [] = tt
all_same (x ∷ xs) = (refl, refl, all_same xs)

first_same : (ts : List Task) (f : Frame) → Itself (phase_first ts) f f
first_same [] f = refl
first_same (Run i ∷ ts) f = refl
first_same (Give i b o ∷ ts) f = refl
first_same (Throw i e ∷ ts) f = refl
first_same (Catch i e ∷ ts) f = refl
first_same (Store i v ∷ ts) f = refl
first_same (Keep i spot q ∷ ts) f = refl
first_same (Close i o ∷ ts) f = refl
first_same (Fire k ∷ ts) f = refl
first_same (Drop kind k ∷ ts) f = refl

phase_same : (o : Option Entry) (ts : List Task) (f : Frame) → ((e : Entry) → o ≡ Some e → e.suspended ≡ true → frame_spot f ≡ wait_spot f) → Itself (phase_by (is_suspended o) ts) f f
phase_same None ts f h = first_same ts f
phase_same (Some e) ts f h = by_test e.suspended refl
  where
    by_test : (b : Bool) → e.suspended ≡ b → Itself (phase_by (Some b) ts) f f
    by_test true s = (refl, h e refl s)
    by_test false s = first_same ts f

own_of : (c : Core) (xs : Numbered Frame) → InState (proc c xs) → Own c xs
own_of c xs h = record { all = all_same xs; phases = λ i. at i (thing xs i) refl }
  where
    at : (i : ℕ) (o : Option Frame) → thing xs i ≡ o → BothOrNone (Itself (phase_of c i)) o o
    at i None k = tt
    at i (Some f) k = phase_same (thing c.entries i) (tasks_of i c.tasks) f (λ e g s. h i e f g k s)

own_states : (c : Core) (xs : Numbered Frame) → Own c xs → InState (proc c xs)
own_states c xs h i e f g k s =
    let waits = phase_waits i c (ap is_suspended g ∙ ap Some s) in
    (subst (λ o. BothOrNone (Itself Waiting) o o) k (subst (λ z. BothOrNone (Itself z) (thing xs i) (thing xs i)) waits (h.phases i))).1

module _ (r : RawTree) where
  -- A process that an event begins: in order, with such actors, unless the event is stopped.
  abbrev Begins : Begun Frame → Type 0
  Begins b = UnlessStopped b.place.proc.core.halted (Orderly b.place.proc.core × Own b.place.proc.core b.place.proc.actors)

  abbrev Fine : Core → Numbered Frame → Type 0
  Fine c xs = UnlessStopped c.halted (Orderly c × Own c xs)

  delivered : (c k : Core) (xs : Numbered Frame) → OrderlyUnlessStopped k → Unless (Eases c) k → Own c xs → Fine k xs
  delivered c k xs o h own =
      unless_both (Orderly k) (Own k xs) k.halted o (unless_map k.halted (related_eased (classes r) (classes r) Itself (itself r) c k xs xs own) h)

  unchanged : (c : Core) (xs : Numbered Frame) → Orderly c → Own c xs → Fine c xs
  unchanged c xs o own = unless c.halted (o, own)

  boot_with_fine : (x : Option Frame) (c : Core) (xs : Numbered Frame) → Orderly c → Own c xs → BothOrNone (Itself Free) x x
      → Fine (boot_with (classes r) x (proc c xs)).core (boot_with (classes r) x (proc c xs)).actors
  boot_with_fine None c xs o own h = tt
  boot_with_fine (Some f) c xs o own h =
      let e = classes r in
      let k = boot_core e.main (e.label e.main) c in
      unless_both (Orderly k) _ k.halted (boot_in_order e.main (e.label e.main) c o)
      (unless_map k.halted (λ n. related_new e e Itself (itself r) (suc c.started) c k xs xs f f own n.0 n.1 h) (booted_enrolled e.main (e.label e.main) c o.numbered))

  booted_fine : (p : ℕ) (up : Bool) (c : Core) (xs : Numbered Frame) (held : Option ℕ) → Orderly c → Own c xs
      → Fine (booted (classes r) p (record { up = up; proc = proc c xs }) held).proc.core (booted (classes r) p (record { up = up; proc = proc c xs }) held).proc.actors
  booted_fine p up c xs (Some held) o own = unchanged c xs o own
  booted_fine p up c xs None o own =
      let e = classes r in
      let vs = IntValue (pos p) ∷ [] in
      boot_with_fine (e.fresh e.main vs) c xs o own ((itself r).fresh e.main vs)

  ordered_begins : (x : Order) (up : Bool) (c : Core) (xs : Numbered Frame) (w : Outside) → Orderly c → Own c xs → Begins (ordered (classes r) x (record { up = up; proc = proc c xs }) w)
  ordered_begins (Boot p) up c xs w o own = booted_fine p up c xs c.main o own
  ordered_begins (Stop p) up c xs w o own = delivered c (stop c) xs (unless (stop c).halted (stop_in_order c o)) (unless (stop c).halted (stop_eases c)) own
  ordered_begins (Kill p) up c xs w o own = (idle_orderly c.made c.started, record { all = tt; phases = λ i. tt })
  ordered_begins (Cut p q) up c xs w o own = unchanged c xs o own
  ordered_begins (Heal p q) up c xs w o own = unchanged c xs o own
  ordered_begins (DiskFail p n) up c xs w o own = unchanged c xs o own

  answer_fine : (k : ℕ) (v : OutcomeTree) (c : Core) (xs : Numbered Frame) → Orderly c → Own c xs → Fine (deliver k v c) xs
  answer_fine k v c xs o own = delivered c (deliver k v c) xs (deliver_in_order k v c o) (deliver_eases k v c) own

  arrived_begins : (m from port : ℕ) (text : List ℕ) (up : Bool) (c : Core) (xs : Numbered Frame) (w : Outside) (l : Option ℕ) → Orderly c → Own c xs
      → Begins (arrived m from port text (record { up = up; proc = proc c xs }) w l)
  arrived_begins m from port text up c xs w None o own = unchanged c xs o own
  arrived_begins m from port text up c xs w (Some cell) o own =
      let v = packet from port text in
      delivered c (arrive cell v c) xs (arrive_in_order cell v c o) (arrive_eases cell v c) own

  happened_begins : (x : What) (up : Bool) (c : Core) (xs : Numbered Frame) (w : Outside) → Orderly c → Own c xs → Begins (happened (classes r) x (record { up = up; proc = proc c xs }) w)
  happened_begins (Boots p) up c xs w o own = ordered_begins (Boot p) up c xs w o own
  happened_begins (Rings p k) up c xs w o own = answer_fine k (GoodOutcome VoidValue) c xs o own
  happened_begins (Arrives m from to port text) up c xs w o own = arrived_begins m from port text up c xs w (listener (record { up = up; proc = proc c xs }) port) o own
  happened_begins (Answers p k call) up c xs w o own = answer_fine k _ c xs o own

  -- the process of an event
  place_at : (ps : List (Place Frame)) (k : ℕ) → AllByRecursion PlaceWaits ps → PlaceWaits (slice_index_or ps k (record { up = false; proc = idle }))
  place_at [] k h = (idle_at_rest, λ i e f a. absurd cc)
  place_at (p ∷ ps) zero h = h.0
  place_at (p ∷ ps) (suc k) h = place_at ps k h.1

  ready_own : (w : World Frame) (k : ℕ) → WorldWaits w → Orderly (ready w k).proc.core × Own (ready w k).proc.core (ready w k).proc.actors
  ready_own w k h =
      let a = slice_index_or w.places k (record { up = false; proc = idle }) in
      let there = place_at w.places k h in
      let own = own_of a.proc.core a.proc.actors there.1 in
      (begin_in_order w.out.file.turns a.proc.core there.0.orderly, record { all = own.all; phases = own.phases })

  begun_by_begins : (n : Next) (w : World Frame) (b : Begun Frame) → WorldWaits w → begun_by (classes r) w n ≡ Some b → Begins b
  begun_by_begins Nothing w b h k = absurd cc
  begun_by_begins (Script t x left) w b h k =
      let at = ready w (process_of x) in
      let own = ready_own w (process_of x) h in
      subst Begins (same_of k) (ordered_begins x at.up at.proc.core at.proc.actors (counted t (process_of x) (record w.out { script = left })) own.0 own.1)
    where
      same_of : {X : Type 0} {x y : X} → Some x ≡ Some y → x ≡ y
      same_of h = cc
  begun_by_begins (Event p left) w b h k =
      let at = ready w (process_in p.what) in
      let own = ready_own w (process_in p.what) h in
      subst Begins (same_of k) (happened_begins p.what at.up at.proc.core at.proc.actors (counted p.time (process_in p.what) (with_left w.out left)) own.0 own.1)
    where
      same_of : {X : Type 0} {x y : X} → Some x ≡ Some y → x ≡ y
      same_of h = cc

  place_set : (ps : List (Place Frame)) (k : ℕ) (a : Place Frame) → AllByRecursion PlaceWaits ps → PlaceWaits a → AllByRecursion PlaceWaits (slice_set ps k a)
  place_set [] k a h s = tt
  place_set (p ∷ ps) zero a h s = (s, h.1)
  place_set (p ∷ ps) (suc k) a h s = (h.0, place_set ps k a h.1 s)

  -- its process after it
  left_waits : (b : Begun Frame) (l : Live Outside Frame) → Begins b → Burst (classes r) host (before b) l → l.proc.core.halted ≡ None → PlaceWaits (record { up = b.place.up; proc = l.proc })
  left_waits b l h run rests =
      let e = classes r in
      let other = bursts_follow e e host Itself (itself r) (before b) l (before b) ((refl, h), refl) run in
      let same = burst_once e host (before b) other.0 l other.1 run in
      let still : Same Itself l l = subst (λ z. Same Itself l z) same other.2 in
      let in_order = unless_map b.place.proc.core.halted (λ z. z.0) h in
      let rest = burst_at_rest e host (before b) l in_order run in (
        subst (λ o. UnlessStopped o (AtRest l.proc.core)) rests rest,
        own_states l.proc.core l.proc.actors (subst (λ o. UnlessStopped o (Orderly l.proc.core × Own l.proc.core l.proc.actors)) rests still.0.1).1,
      )

  pub event_waits : EventWaits r
  event_waits w b l h begins run rests =
      place_set w.places l.out.active (record { up = b.place.up; proc = l.proc }) h (left_waits b l (begun_by_begins (next_of w.out) w b h begins) run rests)

starts : (n : ℕ) → AllByRecursion PlaceWaits (replicate n (record { up = false; proc = idle }))
starts zero = tt
starts (suc n) = ((idle_at_rest, λ i e f a. absurd cc), starts n)

pub start_waits : StartWaits
start_waits w = starts w.processes
