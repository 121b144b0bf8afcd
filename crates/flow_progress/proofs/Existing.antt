-- A run exists, or one comes to what has no meaning.
use Rattle.std.proofs.Common.{◌≡◌, ℕ, zero, suc, ◌-◌, ◌<◌, ◌≤◌, Bool, true, false, List, [], ◌∷◌, ◌++◌, ◌⊎◌, inl, inr, if◌then◌else◌, refl, sym, ap, ◌∙◌, subst, arith}
use Rattle.std.specs.Prelude.{nat_le}
use Rattle.std.specs.declared.option.Option.{Option}
use Rattle.std.specs.declared.option.Option.TheVariants.{None, Some}
use Rattle.flow_trace.specs.declared.line.Line.{Line}
use Rattle.flow_trace.specs.declared.line.Line.TheVariants as line
use Rattle.flow_worldfile.specs.Worlds as file
use Rattle.flow_worldfile.specs.declared.directive.Order.{Order}
use Rattle.flow_worldfile.specs.declared.directive.Order.TheVariants.{Boot}
use Rattle.flow_simnet.specs.declared.packet.Fate.{Fate}
use Rattle.flow_simnet.specs.declared.packet.Fate.TheVariants.{Cut as CutOff, Drawn, At}
use Rattle.flow_class.specs.Classes.{RawTree}
use Rattle.flow_meaning.specs.Requests.{Request, Drew, Timer, Packet, Disks}
use Rattle.flow_meaning.specs.Process.{Halt, Spent, NoMeaning, Proc}
use Rattle.flow_meaning.specs.Step.{Stepped, step}
use Rattle.flow_meaning.specs.Law.{AtRest}
use Rattle.flow_meaning.specs.Orderly.{UnlessStopped}
use Rattle.flow_meaning.specs.Burst.{Live, Burst, rests, steps, serve, advanced, advance}
use Rattle.flow_meaning.specs.Outside.{What, Boots, Rings, Arrives, Answers, Outside, host, sent_by, drawn_by, fate_in}
use Rattle.flow_meaning.specs.Outside as outside
use Rattle.flow_meaning.specs.World.{Place, World, Begun, Next, Nothing, Script, Event, next_of, ordered, arrived, listener, happened, process_of, process_in, ready, counted, with_left, begun_by, ending, at_start}
use Rattle.flow_meaning.specs.Runs.{Runs, ends, spent, event, before, after, lines_of, ClassTrace}
use Rattle.flow_meaning.specs.Frame.{Frame}
use Rattle.flow_meaning.specs.Class.{classes}
use Rattle.flow_meaning.proofs.Posture.{unless_map}
use Rattle.flow_meaning.proofs.Shifts.{same_of}
use Rattle.flow_meaning.proofs.Once.{run_once}
use Rattle.flow_meaning.proofs.InOrder.{no_thing, burst_at_rest}
use Rattle.flow_progress.specs.Ending.{LeadOn, InPlace, Reaches, here, onward, NoPlace}
use Rattle.flow_progress.specs.Existing.{GetsStuck, now, later, RestsInPlace, WorldInPlace, RunsOrGetsStuck, AtMostOneTrace}
use Rattle.flow_progress.proofs.Ending.{InPlaceNow, next_in_place, stopped, bursts_end}
use Rattle.flow_progress.proofs.Beginnings.{rests_set, begun_begins, start_places}

-- The file of the world, and how many events have run, change with no request.
abbrev Clock : Outside → Type 0
Clock w = file.World × ℕ

abbrev SameClock : Outside → Outside → Type 0
SameClock w v = (v.file ≡ w.file) × (v.ran ≡ w.ran)

sent_clock : (f : Fate) (w : Outside) (m q port : ℕ) (text : List ℕ) → SameClock w (sent_by f w m q port text).1
sent_clock CutOff w m q port text = (refl, refl)
sent_clock Drawn w m q port text = (refl, refl)
sent_clock (At time) w m q port text = (refl, refl)

request_clock : (q : Request) (w : Outside) → SameClock w (outside.serve q w).1
request_clock (Drew n) w = (refl, refl)
request_clock (Timer cell time) w = (refl, refl)
request_clock (Packet q port text) w = let v = record w { sent = suc w.sent } in sent_clock (fate_in v q) (drawn_by (fate_in v q) v) v.sent q port text
request_clock (Disks cell call) w = (refl, refl)

module _ (r : RawTree) (leads : LeadOn r) where
  serve_clock : (q : Option Request) (p : Proc Frame) (w : Outside) → SameClock w (serve host q p w).out
  serve_clock None p w = (refl, refl)
  serve_clock (Some q) p w = request_clock q w

  abbrev KeepsClock : Outside → Option (Live Outside Frame) → Type 0
  KeepsClock w None = Unit {0}
  KeepsClock w (Some l) = SameClock w l.out

  advanced_clock : (w : Outside) (o : Option (Stepped Frame)) → KeepsClock w (advanced host w o)
  advanced_clock w None = tt
  advanced_clock w (Some q) = serve_clock q.1 q.0 w

  reached_clock : {s t : Live Outside Frame} → Reaches (classes r) host s t → SameClock s.out t.out
  reached_clock here = (refl, refl)
  reached_clock {s = s} (onward next a k) =
      let one : SameClock s.out next.out = subst (KeepsClock s.out) a (advanced_clock s.out (step (classes r) (host.supply s.out) s.proc)) in
      let rest = reached_clock k in
      (rest.0 ∙ one.0, rest.1 ∙ one.1)

  -- and with each event one more has run
  abbrev Counts : Outside → Begun Frame → Type 0
  Counts w b = (b.out.file ≡ w.file) × (b.out.ran ≡ w.ran)

  ordered_counts : (x : Order) (a : Place Frame) (w : Outside) → Counts w (ordered (classes r) x a w)
  ordered_counts (Boot p) a w = (refl, refl)
  ordered_counts _ a w = (refl, refl)

  arrived_counts : (m from port : ℕ) (text : List ℕ) (a : Place Frame) (w : Outside) (l : Option ℕ) → Counts w (arrived m from port text a w l)
  arrived_counts m from port text a w None = (refl, refl)
  arrived_counts m from port text a w (Some n) = (refl, refl)

  happened_counts : (x : What) (a : Place Frame) (w : Outside) → Counts w (happened (classes r) x a w)
  happened_counts (Boots p) a w = ordered_counts (Boot p) a w
  happened_counts (Rings p n) a w = (refl, refl)
  happened_counts (Arrives m from to port text) a w = arrived_counts m from port text a w (listener a port)
  happened_counts (Answers p n call) a w = (refl, refl)

  begun_counts : (n : Next) (w : World Frame) (b : Begun Frame) → begun_by (classes r) w n ≡ Some b → (b.out.file ≡ w.out.file) × (b.out.ran ≡ suc w.out.ran)
  begun_counts Nothing w b g = absurd (no_thing g)
  begun_counts (Script t o left) w b g =
      let v = counted t (process_of o) (record w.out { script = left }) in
      subst (λ (b : Begun Frame). (b.out.file ≡ w.out.file) × (b.out.ran ≡ suc w.out.ran)) (same_of g) (ordered_counts o (ready w (process_of o)) v)
  begun_counts (Event p left) w b g =
      let v = counted p.time (process_in p.what) (with_left w.out left) in
      subst (λ (b : Begun Frame). (b.out.file ≡ w.out.file) × (b.out.ran ≡ suc w.out.ran)) (same_of g) (happened_counts p.what (ready w (process_in p.what)) v)

  -- an event that begins is within the bound
  within_bound : (n : Next) (w : Outside) → ending w n ≡ None → w.ran < w.file.events
  within_bound Nothing w e = absurd (no_thing (sym e))
  within_bound (Script t o left) w e = by_test (nat_le w.file.events w.ran) refl e
    where
      by_test : (p : Bool) → nat_le w.file.events w.ran ≡ p → (if p then Some line.EndBound else None) ≡ None → w.ran < w.file.events
      by_test true q e = absurd (no_thing (sym e))
      by_test false q e = grind arith
  within_bound (Event p left) w e = by_test (nat_le w.file.events w.ran) refl e
    where
      by_test : (p : Bool) → nat_le w.file.events w.ran ≡ p → (if p then Some line.EndBound else None) ≡ None → w.ran < w.file.events
      by_test true q e = absurd (no_thing (sym e))
      by_test false q e = grind arith

  begins : (n : Next) (w : World Frame) → ending w.out n ≡ None → (b : Begun Frame) × (begun_by (classes r) w n ≡ Some b)
  begins Nothing w e = absurd (no_thing (sym e))
  begins (Script t o left) w e = (_, refl)
  begins (Event p left) w e = (_, refl)

  -- steps to where nothing is left to do are a burst
  burst_of : {s t : Live Outside Frame} → Reaches (classes r) host s t → advance (classes r) host t ≡ None → Burst (classes r) host s t
  burst_of here a = rests a
  burst_of (onward next q k) a = steps next q (burst_of k a)

  reached_place : (s t : Live Outside Frame) → Reaches (classes r) host s t → InPlaceNow r leads host s → InPlaceNow r leads host t
  reached_place s t here k = k
  reached_place s t (onward next a q) k = reached_place next t q (next_in_place r leads host s next k a)

  abbrev Found : World Frame → Type 0
  Found w = ((states : List (World Frame)) × (lines : List Line) × Runs (classes r) w states lines) ⊎ GetsStuck r w

  module _ (w : World Frame) (b : Begun Frame) (e : ending w.out (next_of w.out) ≡ None) (g : begun_by (classes r) w (next_of w.out) ≡ Some b) where
    -- the event is over
    rests_now : (l : Live Outside Frame) → Burst (classes r) host (before b) l → l.proc.core.halted ≡ None → InPlaceNow r leads host (before b) → InPlaceNow r leads host l
        → RestsInPlace r (record { up = b.place.up; proc = l.proc })
    rests_now l q h start k =
        let p : InPlace r l.proc.core l.proc.actors = subst (λ x. UnlessStopped x (InPlace r l.proc.core l.proc.actors)) h k in
        let o = burst_at_rest (classes r) host (before b) l (unless_map b.place.proc.core.halted (λ (x : InPlace r b.place.proc.core b.place.proc.actors). x.orderly) start) q in
        (subst (λ x. UnlessStopped x (AtRest l.proc.core)) h o, p.frames)

    goes_on : (l : Live Outside Frame) → Burst (classes r) host (before b) l → l.proc.core.halted ≡ None → Found (after w b l) → Found w
    goes_on l q h (inl x) = inl (after w b l ∷ x.0, lines_of b l ++ x.1, event b l e g q h x.2)
    goes_on l q h (inr x) = inr (later b l e g q h x)

    by_halt : (l : Live Outside Frame) (x : Option Halt) → l.proc.core.halted ≡ x → Reaches (classes r) host (before b) l → advance (classes r) host l ≡ None
        → (l.proc.core.halted ≡ None → Found (after w b l)) → Found w
    by_halt l None h q a next = goes_on l (burst_of q a) h (next h)
    by_halt l (Some Spent) h q a next = inl ([], lines_of b l ++ line.EndSpent ∷ [], spent b l e g (burst_of q a) h)
    by_halt l (Some NoMeaning) h q a next = inr (now b l e g q (inl h))

    by_end : (l : Live Outside Frame) → Reaches (classes r) host (before b) l → (advance (classes r) host l ≡ None) ⊎ NoPlace r l.proc.core l.proc.actors
        → (advance (classes r) host l ≡ None → l.proc.core.halted ≡ None → Found (after w b l)) → Found w
    by_end l q (inl a) next = by_halt l l.proc.core.halted refl q a (next a)
    by_end l q (inr n) next = by_going l.proc.core.halted refl
      where
        by_going : (x : Option Halt) → l.proc.core.halted ≡ x → Found w
        by_going None h = inr (now b l e g q (inr (h, n)))
        by_going (Some x) h = let a = stopped r leads host l x h in by_halt l l.proc.core.halted refl q a (next a)

  -- how many events may still run
  abbrev bound : World Frame → ℕ
  bound w = w.out.file.events - w.out.ran

  abbrev Rest : World Frame → Type 0
  Rest w = (v : World Frame) → bound v < bound w → WorldInPlace r v → Found v

  fewer_events : (w : World Frame) (b : Begun Frame) (l : Live Outside Frame) → ending w.out (next_of w.out) ≡ None → begun_by (classes r) w (next_of w.out) ≡ Some b
      → Reaches (classes r) host (before b) l → bound (after w b l) < bound w
  fewer_events w b l e g q =
      let one = begun_counts (next_of w.out) w b g in
      let same = reached_clock q in
      let f : l.out.file ≡ w.out.file = same.0 ∙ one.0 in
      let n : l.out.ran ≡ suc w.out.ran = same.1 ∙ one.1 in
      let lt = within_bound (next_of w.out) w.out e in
      let m : w.out.file.events - suc w.out.ran < w.out.file.events - w.out.ran = omega (arith, lt) in
      subst (λ (z : file.World). z.events - l.out.ran < w.out.file.events - w.out.ran) (sym f) (subst (λ z. w.out.file.events - z < w.out.file.events - w.out.ran) (sym n) m)

  event_found : (w : World Frame) → ending w.out (next_of w.out) ≡ None → WorldInPlace r w → Rest w → Found w
  event_found w e h rest =
      let b = begins (next_of w.out) w e in
      let start = begun_begins r (next_of w.out) w b.0 h b.1 in
      let x = bursts_end r leads host (before b.0) start in
      by_end w b.0 e b.1 x.0 x.1 x.2
      (λ a halted. rest (after w b.0 x.0) (fewer_events w b.0 x.0 e b.1 x.1)
      (rests_set r w.places x.0.out.active (record { up = b.0.place.up; proc = x.0.proc }) h
      (rests_now w b.0 e b.1 x.0 (burst_of x.1 a) halted start (reached_place (before b.0) x.0 x.1 start))))

  ending_found : (w : World Frame) (o : Option Line) → ending w.out (next_of w.out) ≡ o → WorldInPlace r w → Rest w → Found w
  ending_found w (Some last) e h rest = inl ([], last ∷ [], ends last e)
  ending_found w None e h rest = event_found w e h rest

  run_found : (m : ℕ) (w : World Frame) → bound w ≤ m → WorldInPlace r w → Found w
  run_found zero w le h = ending_found w (ending w.out (next_of w.out)) refl h (λ v lt k. absurd (omega (arith, lt, le)))
  run_found (suc m) w le h = ending_found w (ending w.out (next_of w.out)) refl h (λ v lt k. run_found m v (omega (arith, lt, le)) k)

  pub runs_or_strays : RunsOrGetsStuck r
  runs_or_strays w = by_found (run_found (bound (at_start w)) (at_start w) (omega arith) (start_places r w.processes))
    where
      by_found : Found (at_start w) → ((lines : List Line) × ClassTrace r w lines) ⊎ GetsStuck r (at_start w)
      by_found (inl x) = inl (line.Head ∷ x.1, (at_start w ∷ x.0, record { later = x.0; rest = x.1; runs = x.2; from_start = refl; with_head = refl }))
      by_found (inr x) = inr x

  pub one_trace : AtMostOneTrace r
  one_trace w lines more a b =
      let rest = (run_once (classes r) (at_start w) a.1.later b.1.later a.1.rest b.1.rest a.1.runs b.1.runs).1 in
      a.1.with_head ∙ ap (λ ls. line.Head ∷ ls) rest ∙ sym b.1.with_head
