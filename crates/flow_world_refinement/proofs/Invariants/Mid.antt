-- What is to come within an event, once so many had run before it.
use Rattle.std.proofs.Common.{◌≡◌, ℕ, suc, ◌+◌, ◌-◌, ◌^◌, ◌≤◌, Bool, true, false, List, [], ◌∷◌, ◌++◌, Option, Some, None, refl, sym, ap, subst, arith, if◌then◌else◌}
use Rattle.std.specs.Prelude.{◌%◌, nat_le, nat_lt, not, pos}
use Rattle.std.specs.List.{AllByRecursion}
use Rattle.std.proofs.lemmas.Bool.Decides.{nat_tests}
use Rattle.std.proofs.lemmas.Nat.{mod_below}
use Rattle.flow_timers.specs.Pending.{Pending}
use Rattle.flow_draw.specs.declared.question.Question.{Question}
use Rattle.flow_draw.specs.declared.question.Question.TheVariants.{Among}
use Rattle.flow_simnet.specs.declared.packet.Fate.{Fate}
use Rattle.flow_simnet.specs.declared.packet.Fate.TheVariants.{Cut, Drawn, At}
use Rattle.flow_simnet.specs.Links.{width, draw_in, fate_by, questions_of}
use Rattle.flow_worldfile.specs.Directives.{IsSpan}
use Rattle.flow_worldfile.specs.Worlds as file
use Rattle.flow_worldfile.specs.declared.directive.Order.{Order}
use Rattle.flow_worldfile.specs.declared.directive.Order.TheVariants as order
use Rattle.flow_meaning.specs.Requests.{Request, Drew, Timer, Packet, Disks}
use Rattle.flow_meaning.specs.Burst.{Live, Burst, rests, steps, advance, advanced}
use Rattle.flow_meaning.specs.Outside.{What, Boots, Rings, Arrives, Answers, Outside, host, serve, sent_by, drawn_by, fate_in, is_cut, word_in, with_asked, with_pending}
use Rattle.flow_meaning.specs.Process.{Proc, Engine}
use Rattle.flow_meaning.specs.Step.{Stepped, step}
use Rattle.flow_meaning.specs.World.{Place, World, Begun, Next, Nothing, Script, Event, sooner, soonest, first_of, next_of, begun_by, ordered, happened, arrived, listener, ready, counted, with_left, process_of, process_in, is_of}
use Rattle.flow_invariants.proofs.Fitting.Dues.{all_placed, all_filtered}
use Rattle.flow_steps.specs.Evaluating.{program_time, last_time}
use Rattle.flow_world_refinement.specs.Invariants.{latest, IsEarly, LineIsEarly, InTime}
use Rattle.flow_world_refinement.proofs.Invariants.Timely.{IsTimely, step_timely}

-- numbers
in_span : (lo hi word : ℕ) → IsSpan lo hi → draw_in (lo, hi) word ≤ 1000000000
in_span lo hi word h = let m = mod_below word (hi - lo) (omega (arith, h.0)) in omega (arith, h.0, h.1, m)

later : (slack n t d : ℕ) → t ≤ latest slack n → d ≤ 1000000000 → t + d ≤ latest slack (suc n)
later slack n t d h k = omega (arith, h, k)

longer : (slack n t : ℕ) → t ≤ latest slack n → t ≤ latest slack (suc n)
longer slack n t h = omega (arith, h)

timer_early : (slack n t : ℕ) → t ≤ 2 ^ 62 → t ≤ latest slack n
timer_early slack n t h = omega (arith, h)

pub clock_tells : (slack t n : ℕ) → slack ≤ 2 ^ 50 → t ≤ latest slack n → n ≤ 1000000 → program_time t ≡ pos t
clock_tells slack t n few h k = let fits : nat_lt last_time t ≡ false = grind (arith, nat_tests, few, h, k) in rw fits refl

-- each event, one event later
all_longer : (slack n : ℕ) (es : List (Pending What)) → AllByRecursion (IsEarly slack n) es → AllByRecursion (IsEarly slack (suc n)) es
all_longer slack n [] h = tt
all_longer slack n (e ∷ es) h = (longer slack n e.time h.0, all_longer slack n es h.1)

-- the line of the script that comes first, and the others
abbrev Lines : Type 0
Lines = (ℕ × Order) × List (ℕ × Order)

abbrev Early : Lines → Type 0
Early s = LineIsEarly s.0 × AllByRecursion LineIsEarly s.1

sooner_early : (x : ℕ × Order) (xs : List (ℕ × Order)) (o : Option Lines) → LineIsEarly x → AllByRecursion LineIsEarly xs → ((s : Lines) → o ≡ Some s → Early s) → Early (sooner x xs o)
sooner_early x xs None h k f = (h, k)
sooner_early x xs (Some y) h k f = by_test (nat_lt y.0.0 x.0) (f y refl)
  where
    by_test : (b : Bool) → Early y → Early (if b then (y.0, x ∷ y.1) else (x, xs))
    by_test true g = (g.0, (h, g.1))
    by_test false g = (h, k)

soonest_early : (xs : List (ℕ × Order)) (s : Lines) → AllByRecursion LineIsEarly xs → soonest xs ≡ Some s → Early s
soonest_early [] s h e = absurd (cc)
soonest_early (x ∷ xs) s h e = subst Early (same e) (sooner_early x xs (soonest xs) h.0 h.1 (λ t q. soonest_early xs t h.1 q))
  where
    same : {a b : Lines} → Some a ≡ Some b → a ≡ b
    same q = cc

-- by what comes next
pub record NextEarly (slack : ℕ) (o : Outside) (n : Next) : Type 0 where
  pub line : (t : ℕ) (x : Order) (left : List (ℕ × Order)) → n ≡ Script t x left → (t ≤ latest slack o.ran) × AllByRecursion LineIsEarly left
  pub event : (p : Pending What) (left : List (Pending What)) → n ≡ Event p left → (p.time ≤ latest slack o.ran) × AllByRecursion (IsEarly slack o.ran) left

module _ (slack : ℕ) (o : Outside) (h : InTime slack o) where
  script_early : (s : Lines) (es : List (Pending What)) → Early s → NextEarly slack o (Script s.0.0 s.0.1 s.1)
  script_early s es k = record {
    line = λ t x left q. let a : s.0.0 ≡ t = cc in
        let b : s.1 ≡ left = cc in (subst (λ z. z ≤ latest slack o.ran) a (timer_early slack o.ran s.0.0 k.0), subst (AllByRecursion LineIsEarly) b k.1);
    event = λ p left q. absurd (cc);
  }

  pending_early : (e : Pending What) (es : List (Pending What)) → AllByRecursion (IsEarly slack o.ran) (e ∷ es) → NextEarly slack o (Event e es)
  pending_early e es k = record {
    line = λ t x left q. absurd (cc);
    event = λ p left q. let a : e ≡ p = cc in
        let b : es ≡ left = cc in (subst (λ z. z.time ≤ latest slack o.ran) a k.0, subst (AllByRecursion (IsEarly slack o.ran)) b k.1);
  }

  by_next : (x : Option Lines) (es : List (Pending What)) → ((s : Lines) → x ≡ Some s → Early s) → AllByRecursion (IsEarly slack o.ran) es → NextEarly slack o (first_of x es)
  by_next None [] f k = record { line = λ t x left q. absurd (cc); event = λ p left q. absurd (cc) }
  by_next None (e ∷ es) f k = pending_early e es k
  by_next (Some s) [] f k = script_early s [] (f s refl)
  by_next (Some s) (e ∷ es) f k = by_test (nat_le s.0.0 e.time)
    where
      by_test : (b : Bool) → NextEarly slack o (if b then Script s.0.0 s.0.1 s.1 else Event e es)
      by_test true = script_early s (e ∷ es) (f s refl)
      by_test false = pending_early e es k

  pub next_early : NextEarly slack o (next_of o)
  next_early = by_next (soonest o.script) o.events.pending (λ s q. soonest_early o.script s h.script q) h.events

-- within an event
pub record Mid (slack n : ℕ) (o : Outside) : Type 0 where
  pub file : file.IsInRange o.file
  pub script : AllByRecursion LineIsEarly o.script
  pub now : o.time ≤ latest slack n
  pub ran : o.ran ≡ suc n
  pub events : AllByRecursion (IsEarly slack (suc n)) o.events.pending

-- one more pending event
more : (slack n : ℕ) (o : Outside) (t : ℕ) (x : What) → t ≤ latest slack (suc n) → Mid slack n o → Mid slack n (with_pending o t x)
more slack n o t x early h = record {
  file = h.file;
  script = h.script;
  now = h.now;
  ran = h.ran;
  events = all_placed (IsEarly slack (suc n)) (record { time = t; number = suc o.events.made; what = x }) o.events.pending early h.events;
}

-- words are drawn, and packets numbered
drawing : (slack n : ℕ) (o : Outside) (sent : ℕ) (asked : List Question) → Mid slack n o → Mid slack n (record o { sent = sent; asked = asked })
drawing slack n o sent asked h = record { file = h.file; script = h.script; now = h.now; ran = h.ran; events = h.events }

asking : (slack n : ℕ) (o : Outside) (qs : List Question) → Mid slack n o → Mid slack n (with_asked o qs)
asking slack n o qs h = drawing slack n o o.sent (o.asked ++ qs) h

sent_mid : (slack n : ℕ) (f : Fate) (o : Outside) (m q port : ℕ) (text : List ℕ) → ((t : ℕ) → f ≡ At t → t ≤ latest slack (suc n)) → Mid slack n o → Mid slack n (sent_by f o m q port text).1
sent_mid slack n Cut o m q port text early h = h
sent_mid slack n Drawn o m q port text early h = h
sent_mid slack n (At t) o m q port text early h = more slack n o t (Arrives m o.active q port text) (early t refl) h

fate_early : (slack n : ℕ) (o : Outside) (q : ℕ) → Mid slack n o → (t : ℕ) → fate_in o q ≡ At t → t ≤ latest slack (suc n)
fate_early slack n o q h t e = by_cut (is_cut o.cuts o.active q) e
  where
    comes : (t : ℕ) → At (o.time + draw_in o.file.latency (word_in o 1)) ≡ At t → t ≤ latest slack (suc n)
    comes t e =
        let same : o.time + draw_in o.file.latency (word_in o 1) ≡ t = cc in
        subst (λ z. z ≤ latest slack (suc n)) same (later slack n o.time (draw_in o.file.latency (word_in o 1)) h.now (in_span o.file.latency.0 o.file.latency.1 (word_in o 1) h.file.latency))

    by_loss : (b : Bool) → (if b then Drawn else At (o.time + draw_in o.file.latency (word_in o 1))) ≡ At t → t ≤ latest slack (suc n)
    by_loss true e = absurd (cc)
    by_loss false e = comes t e

    by_cut : (b : Bool) → fate_by b o.file.loss o.file.latency o.time (word_in o) ≡ At t → t ≤ latest slack (suc n)
    by_cut true e = absurd (cc)
    by_cut false e = by_loss (nat_lt (word_in o 0 % 1000) o.file.loss) e

-- the world serves a request
asked_mid : (slack n : ℕ) (q : Request) (o : Outside) → IsTimely (Some q) → Mid slack n o → Mid slack n (serve q o).1
asked_mid slack n (Drew w) o early h = asking slack n o (Among w ∷ []) h
asked_mid slack n (Timer k t) o early h = more slack n o t (Rings o.active k) (timer_early slack (suc n) t early) h
asked_mid slack n (Packet q port text) o early h =
    let v : Outside = record o { sent = suc o.sent } in
    let k = drawing slack n o (suc o.sent) o.asked h in
    let f = fate_in v q in
    sent_mid slack n f (drawn_by f v) v.sent q port text (fate_early slack n v q k) (asking slack n v (questions_of v.file.loss v.file.latency f) k)
asked_mid slack n (Disks k call) o early h =
    more slack n (with_asked o (Among (width o.file.diskdelay) ∷ [])) (o.time + draw_in o.file.diskdelay (word_in o 0)) (Answers o.active k call)
    (later slack n o.time (draw_in o.file.diskdelay (word_in o 0)) h.now (in_span o.file.diskdelay.0 o.file.diskdelay.1 (word_in o 0) h.file.diskdelay))
    (asking slack n o (Among (width o.file.diskdelay) ∷ []) h)

some : {Y : Type 0} {x y : Y} → Some x ≡ Some y → x ≡ y
some q = cc

no_some : {Y : Type 0} {x : Y} → None ≡ Some x → ⊥
no_some q = cc

-- a process and the world around it go on
module _ (slack : ℕ) {A : Type 0} (e : Engine A) (n : ℕ) where
  advanced_mid : (s l : Live Outside A) → Mid slack n s.out → advance e host s ≡ Some l → Mid slack n l.out
  advanced_mid s l h a = by_step (step e (host.supply s.out) s.proc) refl a
    where
      by_asked : (q : Option Request) (p : Proc A) → IsTimely q → Mid slack n (Rattle.flow_meaning.specs.Burst.serve host q p s.out).out
      by_asked None p early = h
      by_asked (Some q) p early = asked_mid slack n q s.out early h

      by_step : (x : Option (Stepped A)) → step e (host.supply s.out) s.proc ≡ x → advanced host s.out x ≡ Some l → Mid slack n l.out
      by_step None q b = absurd (no_some b)
      by_step (Some t) q b = subst (λ (z : Live Outside A). Mid slack n z.out) (some b) (by_asked t.1 t.0 (step_timely e (host.supply s.out) s.proc t q))

  pub burst_mid : (s l : Live Outside A) → Burst e host s l → Mid slack n s.out → Mid slack n l.out
  burst_mid s l (rests q) h = h
  burst_mid s l (steps next q k) h = burst_mid next l k (advanced_mid s next h q)

  -- an event begins
  line_mid : (w : World A) (h : InTime slack w.out) (t : ℕ) (x : Order) (left : List (ℕ × Order)) → n ≡ w.out.ran → t ≤ latest slack w.out.ran → AllByRecursion LineIsEarly left
      → Mid slack n (counted t (process_of x) (record w.out { script = left }))
  line_mid w h t x left same early lines = record {
    file = h.file;
    script = lines;
    now = subst (λ k. t ≤ latest slack k) (sym same) early;
    ran = ap suc (sym same);
    events = subst (λ k. AllByRecursion (IsEarly slack (suc k)) w.out.events.pending) (sym same) (all_longer slack w.out.ran w.out.events.pending h.events);
  }

  event_mid : (w : World A) (h : InTime slack w.out) (x : Pending What) (left : List (Pending What)) → n ≡ w.out.ran → x.time ≤ latest slack w.out.ran → AllByRecursion (IsEarly slack w.out.ran) left
      → Mid slack n (counted x.time (process_in x.what) (with_left w.out left))
  event_mid w h x left same early events = record {
    file = h.file;
    script = h.script;
    now = subst (λ k. x.time ≤ latest slack k) (sym same) early;
    ran = ap suc (sym same);
    events = subst (λ k. AllByRecursion (IsEarly slack (suc k)) left) (sym same) (all_longer slack w.out.ran left events);
  }

  ordered_mid : (x : Order) (at : Place A) (o : Outside) → Mid slack n o → Mid slack n (ordered e x at o).out
  ordered_mid (order.Boot p) at o h = h
  ordered_mid (order.Stop p) at o h = h
  ordered_mid (order.Kill p) at o h = record {
    file = h.file;
    script = h.script;
    now = h.now;
    ran = h.ran;
    events = all_filtered (IsEarly slack (suc n)) (λ (e : Pending What). not (is_of p e.what)) o.events.pending h.events;
  }
  ordered_mid (order.Cut p q) at o h = record { file = h.file; script = h.script; now = h.now; ran = h.ran; events = h.events }
  ordered_mid (order.Heal p q) at o h = record { file = h.file; script = h.script; now = h.now; ran = h.ran; events = h.events }
  ordered_mid (order.DiskFail p k) at o h = record { file = h.file; script = h.script; now = h.now; ran = h.ran; events = h.events }

  arrived_mid : (m from port : ℕ) (text : List ℕ) (at : Place A) (o : Outside) (l : Option ℕ) → Mid slack n o → Mid slack n (arrived m from port text at o l).out
  arrived_mid m from port text at o None h = h
  arrived_mid m from port text at o (Some k) h = h

  happened_mid : (x : What) (at : Place A) (o : Outside) → Mid slack n o → Mid slack n (happened e x at o).out
  happened_mid (Boots p) at o h = h
  happened_mid (Rings p k) at o h = h
  happened_mid (Arrives m from to port text) at o h = arrived_mid m from port text at o (listener at port) h
  happened_mid (Answers p k call) at o h = record { file = h.file; script = h.script; now = h.now; ran = h.ran; events = h.events }

  pub begun_mid : (w : World A) (b : Begun A) → n ≡ w.out.ran → InTime slack w.out → begun_by e w (next_of w.out) ≡ Some b → Mid slack n b.out
  begun_mid w b same h g = by_kind (next_of w.out) (next_early slack w.out h) g
    where
      by_kind : (x : Next) → NextEarly slack w.out x → begun_by e w x ≡ Some b → Mid slack n b.out
      by_kind Nothing k q = absurd (no_some q)
      by_kind (Script t x left) k q =
          let early = k.line t x left refl in
          subst (λ (z : Begun A). Mid slack n z.out) (some q) (ordered_mid x (ready w (process_of x)) _ (line_mid w h t x left same early.0 early.1))
      by_kind (Event x left) k q =
          let early = k.event x left refl in
          subst (λ (z : Begun A). Mid slack n z.out) (some q) (happened_mid x.what (ready w (process_in x.what)) _ (event_mid w h x left same early.0 early.1))
