-- Whole events keep a world fitting, and come to nothing that has no meaning.
use Rattle.std.proofs.Common.{◌≡◌, inl, inr, ℕ, ◌+◌, ◌<◌, nat_eq, false, List, ◌∷◌, length, refl, sym, ap, subst, ◌∙◌, arith}
use Rattle.std.specs.Prelude.{◌&&◌, slice_index_or}
use Rattle.std.specs.List.{AllByRecursion}
use Rattle.std.specs.declared.option.Option.{Option}
use Rattle.std.specs.declared.option.Option.TheVariants.{None, Some}
use Rattle.flow_timers.specs.Pending.{Pending}
use Rattle.flow_worldfile.specs.declared.directive.Order.{Order}
use Rattle.flow_worldfile.specs.declared.directive.Order.TheVariants.{Kill, Stop, Boot, Cut, Heal, DiskFail}
use Rattle.flow_tree.specs.Tree.{VoidType}
use Rattle.flow_tree.specs.Decls.{RoutineTree}
use Rattle.flow_value.specs.Values.{VoidValue, GoodOutcome}
use Rattle.flow_simdisk.specs.Disk.{served}
use Rattle.flow_class.specs.Classes.{RawTree}
use Rattle.flow_valid.specs.Validity.{IsValid}
use Rattle.flow_meaning.specs.Process.{Halt}
use Rattle.flow_meaning.specs.Orderly.{UnlessStopped}
use Rattle.flow_meaning.specs.Law.{AtRest}
use Rattle.flow_meaning.specs.Burst.{Live, Burst, rests, steps, serve, advanced, advance}
use Rattle.flow_meaning.specs.Step.{Stepped, step}
use Rattle.flow_meaning.specs.Outside.{What, Boots, Rings, Arrives, Answers, Outside, host}
use Rattle.flow_meaning.specs.World.{Place, World, Begun, Next, Nothing, Script, Event, next_of, ordered, arrived, listener, happened, process_of, process_in, ready, counted, with_left, begun_by, disk_of, disk_outcome}
use Rattle.flow_meaning.specs.Runs.{before, after}
use Rattle.flow_meaning.specs.Frame.{Frame}
use Rattle.flow_meaning.specs.Class.{classes}
use Rattle.flow_meaning.proofs.Shifts.{same_of}
use Rattle.flow_meaning.proofs.Posture.{same_number, unless_map}
use Rattle.flow_meaning.proofs.InOrder.{no_thing, burst_at_rest}
use Rattle.flow_progress.specs.Rules.{ClassRules}
use Rattle.flow_progress.specs.Ending.{LeadOn, InPlace, Reaches, here, onward}
use Rattle.flow_progress.specs.Existing.{IsStuck, GetsStuck, now, later}
use Rattle.flow_progress.specs.Alone.{StepsKeepFitting}
use Rattle.flow_progress.proofs.Ending.{stopped}
use Rattle.flow_progress.proofs.Beginnings.{begun_begins}
use Rattle.flow_progress.proofs.Places.{placed}
use Rattle.flow_invariants.specs.Fitting.Among.{FitsAmong, RestsAmong, EventNames, LineNames, WorldFits}
use Rattle.flow_invariants.proofs.Fitting.Dues.{own_sets, all_filtered}
use Rattle.flow_invariants.proofs.Fitting.Named.{Names, step_named}
use Rattle.flow_invariants.proofs.Fitting.Served.{Fewer, fewer_same, fewer_tail, fewer_left, fits_fewer, after_ask, asked_side, asked_others, asked_events}
use Rattle.flow_invariants.proofs.Fitting.Living.{Meant, NowFits, advanced_fits}
use Rattle.flow_invariants.proofs.Fitting.Starting.{ready_fits, unchanged, boots, stops, arrives, kills, answers, reply_fits, reply_plain}
use Rattle.flow_invariants.proofs.Fitting.Worlds.{rests_at, OthersRest, others_of, others_fewer, set_rest, set_length, all_in_place, NextIn, next_in, order_process}

-- what is outside of the process of an event, from the world before it
pub record Around (r : RawTree) (places : List (Place Frame)) (count n : ℕ) (w : Outside) : Type 0 where
  pub active : w.active ≡ n
  pub processes : w.file.processes ≡ count
  pub is : n < count
  pub others : OthersRest r 0 n w.events.pending places
  pub events : AllByRecursion (EventNames count) w.events.pending
  pub script : AllByRecursion (LineNames count) w.script

module _ (r : RawTree) (valid : IsValid r) (actors : List RoutineTree) (rules : ClassRules r actors) (leads : LeadOn r) (steps_fit : StepsKeepFitting r) where
  -- the process and what is around it
  pub record Good (places : List (Place Frame)) (count n : ℕ) (l : Live Outside Frame) : Type 0 where
    pub own : NowFits r leads steps_fit n l
    pub around : Around r places count n l.out

  module _ (places : List (Place Frame)) (count n : ℕ) where
    -- what the world does for a step
    around_asked : (s : Live Outside Frame) (q : Stepped Frame) → Around r places count n s.out → step (classes r) (host.supply s.out) s.proc ≡ Some q
        → Around r places count n (serve host q.1 q.0 s.out).out
    around_asked s q a e =
        by_ask q.1 (subst (λ m. Names m q.1) a.processes (step_named (host.supply s.out) (classes r) s.proc q e))
      where
        by_ask : (x : Option _) → Names count x → Around r places count n (serve host x q.0 s.out).out
        by_ask None named = a
        by_ask (Some x) named =
            let side = asked_side x s.out in record {
              active = side.active ∙ a.active;
              processes = ap (λ (f : Rattle.flow_worldfile.specs.Worlds.World). f.processes) side.file ∙ a.processes;
              is = a.is;
              others = others_fewer r places 0 n s.out.events.pending (after_ask x s.out).events.pending (λ m o. asked_others x s.out m (λ z. o (z ∙ a.active))) a.others;
              events = asked_events count x s.out (subst (λ m. m < count) (sym a.active) a.is) named a.events;
              script = subst (AllByRecursion (LineNames count)) (sym side.script) a.script;
            }

    around_advanced : (s l : Live Outside Frame) → Around r places count n s.out → advance (classes r) host s ≡ Some l → Around r places count n l.out
    around_advanced s l a e = by_step (step (classes r) (host.supply s.out) s.proc) refl e
      where
        by_step : (x : Option (Stepped Frame)) → step (classes r) (host.supply s.out) s.proc ≡ x → advanced host s.out x ≡ Some l → Around r places count n l.out
        by_step None q b = absurd (no_thing b)
        by_step (Some t) q b = subst (λ (z : Live Outside Frame). Around r places count n z.out) (same_of b) (around_asked s t a q)

    pub next_good : (s l : Live Outside Frame) → Good places count n s → advance (classes r) host s ≡ Some l → Good places count n l
    next_good s l g e = record { own = by_halt s.proc.core.halted refl g.own; around = around_advanced s l g.around e }
      where
        by_halt : (h : Option Halt) → s.proc.core.halted ≡ h → Meant h (FitsAmong r n s.out.events.pending s.proc) → NowFits r leads steps_fit n l
        by_halt None h m = advanced_fits r leads steps_fit n s l (sym g.around.active) m h e
        by_halt (Some x) h m = absurd (no_thing (sym (stopped r leads host s x h) ∙ e))

    reached_good : (s t : Live Outside Frame) → Reaches (classes r) host s t → Good places count n s → Good places count n t
    reached_good s t here g = g
    reached_good s t (onward next e k) g = reached_good next t k (next_good s next g e)

    pub burst_good : (s t : Live Outside Frame) → Burst (classes r) host s t → Good places count n s → Good places count n t
    burst_good s t (rests e) g = g
    burst_good s t (steps next e k) g = burst_good next t k (next_good s next g e)

    -- such a state isn't astray
    not_stuck : (l : Live Outside Frame) → Good places count n l → IsStuck r l → ⊥
    not_stuck l g (inl h) = subst (λ x. Meant x (FitsAmong r n l.out.events.pending l.proc)) h g.own
    not_stuck l g (inr h) =
        let f : FitsAmong r n l.out.events.pending l.proc = subst (λ x. Meant x (FitsAmong r n l.out.events.pending l.proc)) h.0 g.own in
        placed r actors rules l.proc.core l.proc.actors f.in_place.orderly (f.types, f.fits) h.1

  -- an event begins
  abbrev InNow : Place Frame → Type 0
  InNow a = UnlessStopped a.proc.core.halted (InPlace r a.proc.core a.proc.actors)

  abbrev pub BeginsGood : World Frame → ℕ → Begun Frame → Type 0
  BeginsGood w n b = Good w.places w.out.file.processes n (before b)

  around_start : (w : World Frame) (n : ℕ) (v : Outside) → WorldFits r w → n < w.out.file.processes → v.active ≡ n → v.file ≡ w.out.file
      → ((m : ℕ) → (m ≡ n → ⊥) → Fewer m w.out.events.pending v.events.pending)
      → AllByRecursion (EventNames w.out.file.processes) v.events.pending → AllByRecursion (LineNames w.out.file.processes) v.script → Around r w.places w.out.file.processes n v
  around_start w n v h is active same fewer events script = record {
    active = active;
    processes = ap (λ (f : Rattle.flow_worldfile.specs.Worlds.World). f.processes) same;
    is = is;
    others = others_fewer r w.places 0 n w.out.events.pending v.events.pending fewer (others_of r w.places 0 n w.out.events.pending h.places);
    events = events;
    script = script;
  }

  pub at_process : (w : World Frame) (n : ℕ) → WorldFits r w → n < w.out.file.processes → FitsAmong r n w.out.events.pending (ready w n).proc
  at_process w n h is =
      let a : Place Frame = record { up = false; proc = Rattle.flow_meaning.specs.Deliver.idle } in
      let p = slice_index_or w.places n a in
      let zero_plus : 0 + n ≡ n = omega arith in
      let l : n < length w.places = subst (λ m. n < m) (sym h.count) is in
      let x : RestsAmong r n w.out.events.pending p = subst (λ m. RestsAmong r m w.out.events.pending p) zero_plus (rests_at r w.places 0 n a w.out.events.pending l h.places) in
      ready_fits r n w.out.file.turns w.out.events.pending p.proc x.1

  -- a line of the script
  module _ (w : World Frame) (h : WorldFits r w) (t : ℕ) (left : List (ℕ × Order)) (lines : AllByRecursion (LineNames w.out.file.processes) left) where
    abbrev turned : ℕ → Outside
    turned n = counted t n (record w.out { script = left })

    same_around : (n : ℕ) (v : Outside) → n < w.out.file.processes → v.active ≡ n → v.file ≡ w.out.file → v.events.pending ≡ w.out.events.pending → v.script ≡ left
        → Around r w.places w.out.file.processes n v
    same_around n v is active same pending script =
        around_start w n v h is active same (λ m o. subst (Fewer m w.out.events.pending) (sym pending) (fewer_same m w.out.events.pending))
        (subst (AllByRecursion (EventNames w.out.file.processes)) (sym pending) h.events) (subst (AllByRecursion (LineNames w.out.file.processes)) (sym script) lines)

    by_order : (x : Order) → process_of x < w.out.file.processes → InNow (ordered (classes r) x (ready w (process_of x)) (turned (process_of x))).place
        → BeginsGood w (process_of x) (ordered (classes r) x (ready w (process_of x)) (turned (process_of x)))
    by_order (Boot p) is i =
        let a = ready w p in
        record { own = boots r valid actors rules p w.out.events.pending a refl (at_process w p h is) a.proc.core.main i; around = same_around p (turned p) is refl refl refl refl }
    by_order (Stop p) is i =
        let a = ready w p in
        record { own = stops r valid actors rules p w.out.events.pending a refl (at_process w p h is) i; around = same_around p (turned p) is refl refl refl refl }
    by_order (Kill p) is i =
        let a = ready w p in
        record {
          own = kills r valid actors rules p w.out.events.pending a refl (at_process w p h is) i;
          around = around_start w p _ h is refl refl (λ m o. fewer_left m p w.out.events.pending) (all_filtered (EventNames w.out.file.processes) _ w.out.events.pending h.events) lines;
        }
    by_order (Cut p q) is i =
        let a = ready w p in
        record { own = unchanged r valid actors rules p w.out.events.pending a refl (at_process w p h is); around = same_around p _ is refl refl refl refl }
    by_order (Heal p q) is i =
        let a = ready w p in
        record { own = unchanged r valid actors rules p w.out.events.pending a refl (at_process w p h is); around = same_around p _ is refl refl refl refl }
    by_order (DiskFail p n) is i =
        let a = ready w p in
        record { own = unchanged r valid actors rules p w.out.events.pending a refl (at_process w p h is); around = same_around p _ is refl refl refl refl }

  -- a pending event
  module _ (w : World Frame) (h : WorldFits r w) (e : Pending What) (left : List (Pending What)) (is_next : w.out.events.pending ≡ e ∷ left) where
    abbrev count : ℕ
    count = w.out.file.processes

    abbrev n : ℕ
    n = process_in e.what

    abbrev gone : Outside
    gone = counted e.time n (with_left w.out left)

    abbrev a : Place Frame
    a = ready w n

    all_events : AllByRecursion (EventNames count) (e ∷ left)
    all_events = subst (AllByRecursion (EventNames count)) is_next h.events

    fits_all : FitsAmong r n (e ∷ left) a.proc
    fits_all = subst (λ es. FitsAmong r n es a.proc) is_next (at_process w n h all_events.0)

    fits_left : FitsAmong r n left a.proc
    fits_left = fits_fewer r n (e ∷ left) left a.proc (fewer_tail n e left) fits_all

    others_fewer_left : (m : ℕ) → Fewer m w.out.events.pending left
    others_fewer_left m = subst (λ es. Fewer m es left) (sym is_next) (fewer_tail m e left)

    left_around : (v : Outside) → v.active ≡ n → v.file ≡ w.out.file → v.events.pending ≡ left → v.script ≡ w.out.script → Around r w.places count n v
    left_around v active same pending script =
        around_start w n v h all_events.0 active same (λ m o. subst (Fewer m w.out.events.pending) (sym pending) (others_fewer_left m))
        (subst (AllByRecursion (EventNames count)) (sym pending) all_events.1) (subst (AllByRecursion (LineNames count)) (sym script) h.script)

  -- by what happens
  module _ (w : World Frame) (h : WorldFits r w) (t number : ℕ) (left : List (Pending What)) where
    abbrev pending : What → Pending What
    pending x = record { time = t; number = number; what = x }

    abbrev happens : What → Begun Frame
    happens x = happened (classes r) x (ready w (process_in x)) (counted t (process_in x) (with_left w.out left))

    packet_begins : (m from to port : ℕ) (text : List ℕ) (e : w.out.events.pending ≡ pending (Arrives m from to port text) ∷ left) (l : Option ℕ) → listener (ready w to) port ≡ l
        → (let b = arrived m from port text (ready w to) (counted t to (with_left w.out left)) l in InNow b.place → BeginsGood w to b)
    packet_begins m from to port text e None q i =
        let x = pending (Arrives m from to port text) in
        record { own = unchanged r valid actors rules to left (ready w to) refl (fits_left w h x left e); around = left_around w h x left e (counted t to (with_left w.out left)) refl refl refl refl }
    packet_begins m from to port text e (Some k) q i =
        let x = pending (Arrives m from to port text) in
        record {
          own = arrives r valid actors rules to left (ready w to) refl (fits_left w h x left e) from port k text q i;
          around = left_around w h x left e (counted t to (with_left w.out left)) refl refl refl refl;
        }

    by_what : (x : What) → w.out.events.pending ≡ pending x ∷ left → InNow (happens x).place → BeginsGood w (process_in x) (happens x)
    by_what (Boots p) e i =
        let x = pending (Boots p) in
        let a = ready w p in
        record {
          own = boots r valid actors rules p left a refl (fits_left w h x left e) a.proc.core.main i;
          around = left_around w h x left e (counted t p (with_left w.out left)) refl refl refl refl;
        }
    by_what (Rings p k) e i =
        let x = pending (Rings p k) in
        let a = ready w p in
        let f = fits_all w h x left e in
        record {
          own = answers r valid actors rules p x left a refl f k (GoodOutcome VoidValue) VoidType (λ j. ap (λ b. b && nat_eq j k) (same_number p)) (own_sets p k) (f.brought.0 refl) refl (λ j. tt) i;
          around = left_around w h x left e _ refl refl refl refl;
        }
    by_what (Arrives m from to port text) e i = packet_begins m from to port text e (listener (ready w to) port) refl i
    by_what (Answers p k call) e i =
        let x = pending (Answers p k call) in
        let a = ready w p in
        let f = fits_all w h x left e in
        let d = disk_of (counted t p (with_left w.out left)) p in
        record {
          own = answers r valid actors rules p x left a refl f k (disk_outcome (served call d.fails d.files).1) (Rattle.flow_progress.specs.Asking.reply_type call)
              (λ j. ap (λ b. b && nat_eq j k) (same_number p)) (own_sets p k) (f.brought.0 refl)
              (reply_fits r f.types call d.fails d.files) (λ j. reply_plain j call d.fails d.files) i;
          around = left_around w h x left e _ refl refl refl refl;
        }

  -- any event
  pub record BegunWell (w : World Frame) (b : Begun Frame) : Type 0 where
    pub process : ℕ
    pub good : BeginsGood w process b

  in_now : (w : World Frame) (b : Begun Frame) → WorldFits r w → begun_by (classes r) w (next_of w.out) ≡ Some b → InNow b.place
  in_now w b h g = begun_begins r (next_of w.out) w b (all_in_place r w.places 0 w.out.events.pending h.places) g

  pub event_begins : (w : World Frame) (b : Begun Frame) → WorldFits r w → begun_by (classes r) w (next_of w.out) ≡ Some b → BegunWell w b
  event_begins w b h g = by_next (next_of w.out) g (next_in w.out.file.processes w.out h.script) (in_now w b h g)
    where
      by_next : (x : Next) → begun_by (classes r) w x ≡ Some b → NextIn w.out.file.processes w.out.events.pending x → InNow b.place → BegunWell w b
      by_next Nothing e k i = absurd (no_thing e)
      by_next (Script t o left) e k i =
          let s = k.script t o left refl in
          let q = same_of e in
          record {
            process = process_of o;
            good = subst (BeginsGood w (process_of o)) q
                (by_order w h t left s.1 o (order_process w.out.file.processes o s.0) (subst (λ (z : Begun Frame). InNow z.place) (sym q) i));
          }
      by_next (Event p left) e k i =
          let q = same_of e in
          record {
            process = process_in p.what;
            good = subst (BeginsGood w (process_in p.what)) q
                (by_what w h p.time p.number left p.what (k.event p left refl) (subst (λ (z : Begun Frame). InNow z.place) (sym q) i));
          }

  -- the world after it
  pub event_kept : (w : World Frame) (b : Begun Frame) (l : Live Outside Frame) → WorldFits r w → begun_by (classes r) w (next_of w.out) ≡ Some b → Burst (classes r) host (before b) l
      → l.proc.core.halted ≡ None → WorldFits r (after w b l)
  event_kept w b l h g q go =
      let start = event_begins w b h g in
      let count = w.out.file.processes in
      let n = start.process in
      let end = burst_good w.places count n (before b) l q start.good in
      let f : FitsAmong r n l.out.events.pending l.proc = subst (λ x. Meant x (FitsAmong r n l.out.events.pending l.proc)) go end.own in
      let order = unless_map b.place.proc.core.halted (λ (p : InPlace r b.place.proc.core b.place.proc.actors). p.orderly) (in_now w b h g) in
      let rest : AtRest l.proc.core = subst (λ x. UnlessStopped x (AtRest l.proc.core)) go (burst_at_rest (classes r) host (before b) l order q) in
      let a : Place Frame = record { up = b.place.up; proc = l.proc } in
      let x = end.around in
      let zero_plus : 0 + l.out.active ≡ l.out.active = omega arith in
      let here : RestsAmong r l.out.active l.out.events.pending a = subst (λ m. RestsAmong r m l.out.events.pending a) (sym x.active) (rest, f) in
      record {
        places = set_rest r w.places 0 l.out.active l.out.active l.out.events.pending a zero_plus (subst (λ m. OthersRest r 0 m l.out.events.pending w.places) (sym x.active) x.others) here;
        count = set_length r w.places l.out.active a ∙ h.count ∙ sym x.processes;
        events = subst (λ m. AllByRecursion (EventNames m) l.out.events.pending) (sym x.processes) x.events;
        script = subst (λ m. AllByRecursion (LineNames m) l.out.script) (sym x.processes) x.script;
      }

  pub never_gets_stuck : (w : World Frame) → WorldFits r w → GetsStuck r w → ⊥
  never_gets_stuck w h (now b l e g reach stuck) =
      let start = event_begins w b h g in
      not_stuck w.places w.out.file.processes start.process l (reached_good w.places w.out.file.processes start.process (before b) l reach start.good) stuck
  never_gets_stuck w h (later b l e g q go more) = never_gets_stuck (after w b l) (event_kept w b l h g q go) more
