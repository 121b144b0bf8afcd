-- What holds of one step of an actor holds of whole runs of a world, in both directions.
use Rattle.std.proofs.Common.{◌≡◌, ℕ, zero, suc, Bool, false, List, [], ◌∷◌, ◌++◌, refl, sym, ap, ◌∙◌, subst}
use Rattle.std.specs.Prelude.{pos, replicate, slice_index_or, slice_set}
use Rattle.std.specs.declared.option.Option.{Option}
use Rattle.std.specs.declared.option.Option.TheVariants.{None, Some}
use Rattle.flow_trace.specs.declared.line.Line.{Line}
use Rattle.flow_trace.specs.declared.line.Line.TheVariants as line
use Rattle.flow_worldfile.specs.Worlds as file
use Rattle.flow_worldfile.specs.declared.directive.Order.{Order}
use Rattle.flow_worldfile.specs.declared.directive.Order.TheVariants.{Kill, Stop, Boot, Cut, Heal, DiskFail}
use Rattle.flow_value.specs.Values.{IntValue, VoidValue, OutcomeTree, GoodOutcome}
use Rattle.flow_numbered.specs.Numbered.{Numbered}
use Rattle.flow_meaning.specs.Process.{Core, Engine}
use Rattle.flow_meaning.specs.Step.{proc}
use Rattle.flow_meaning.specs.Deliver.{idle_core, idle, begin, boot_core, boot_with, boot, stop, deliver, arrive}
use Rattle.flow_meaning.specs.Burst.{Live, Burst}
use Rattle.flow_meaning.specs.Orderly.{Orderly, OrderlyUnlessStopped, UnlessStopped, Phase, Free}
use Rattle.flow_meaning.specs.Law.{BothOrNone, Simulates, Related, SameProc, Same, AtRest}
use Rattle.flow_meaning.specs.Outside.{What, Boots, Rings, Arrives, Answers, Outside, host}
use Rattle.flow_meaning.specs.World.{Place, World, Begun, Next, Nothing, Script, Event, next_of, with_core, booted, ordered, packet, arrived, listener, happened, process_of, process_in, ready, counted, with_left, begun_by, ending, at_start}
use Rattle.flow_meaning.specs.Runs.{before, after, lines_of, Runs, ends, spent, event}
use Rattle.flow_meaning.specs.RunLaw.{SamePlace, SamePlaces, SameWorld, SameStates, RunsFollow, RunsReturn, TracesFollow, TracesReturn}
use Rattle.flow_meaning.proofs.Posture.{Unless, unless, unless_map, unless_both, Eases}
use Rattle.flow_meaning.proofs.TaskShifts.{booted_enrolled, stop_eases, deliver_eases, arrive_eases}
use Rattle.flow_meaning.proofs.Relating.{related_eased, related_new}
use Rattle.flow_meaning.proofs.InOrder.{boot_in_order, begin_in_order, stop_in_order, deliver_in_order, arrive_in_order, burst_at_rest}
use Rattle.flow_meaning.proofs.RestRuns.{idle_orderly, idle_at_rest}
use Rattle.flow_meaning.proofs.Lift.{bursts_follow, bursts_return}

abbrev place : {A : Type 0} → Bool → Core → Numbered A → Place A
place up c xs = record { up = up; proc = proc c xs }

module _ {A B : Type 0} (e : Engine A) (d : Engine B) (R : Phase → A → B → Type 0) (sim : Simulates e d R) where
  -- both begin an event with the same lines, in the same world outside, with the same process
  abbrev SameBegun : Begun A → Begun B → Type 0
  SameBegun b k = (b.head ≡ k.head) × (b.out ≡ k.out) × (b.place.up ≡ k.place.up) × SameProc R b.place.proc k.place.proc

  abbrev BegunBoth : Option (Begun A) → Option (Begun B) → Type 0
  BegunBoth None None = Unit {0}
  BegunBoth None (Some k) = ⊥
  BegunBoth (Some b) None = ⊥
  BegunBoth (Some b) (Some k) = SameBegun b k

  place_at : (ps : List (Place A)) (qs : List (Place B)) (k : ℕ) (a : Place A) (b : Place B) → SamePlaces R ps qs → SamePlace R a b → SamePlace R (slice_index_or ps k a) (slice_index_or qs k b)
  place_at [] [] k a b h s = s
  place_at [] (q ∷ qs) k a b h s = absurd h
  place_at (p ∷ ps) [] k a b h s = absurd h
  place_at (p ∷ ps) (q ∷ qs) zero a b h s = h.0
  place_at (p ∷ ps) (q ∷ qs) (suc k) a b h s = place_at ps qs k a b h.1 s

  place_set : (ps : List (Place A)) (qs : List (Place B)) (k : ℕ) (a : Place A) (b : Place B) → SamePlaces R ps qs → SamePlace R a b → SamePlaces R (slice_set ps k a) (slice_set qs k b)
  place_set [] [] k a b h s = tt
  place_set [] (q ∷ qs) k a b h s = absurd h
  place_set (p ∷ ps) [] k a b h s = absurd h
  place_set (p ∷ ps) (q ∷ qs) zero a b h s = (s, h.1)
  place_set (p ∷ ps) (q ∷ qs) (suc k) a b h s = (h.0, place_set ps qs k a b h.1 s)

  -- nothing is related that isn't there
  idle_related : (made started : ℕ) → Related R (record idle_core { made = made; started = started }) [] []
  idle_related made started = record { all = tt; phases = λ i. tt }

  idle_place : SamePlace R (record { up = false; proc = idle }) (record { up = false; proc = idle })
  idle_place = (refl, refl, idle_at_rest, idle_related 0 0)

  -- a process at the begin of an event
  begun_place : (turns : ℕ) (a : Place A) (b : Place B) → SamePlace R a b → SamePlace R (with_core a (begin turns)) (with_core b (begin turns))
  begun_place turns a b s = (
    s.0,
    ap (begin turns) s.1,
    record { orderly = begin_in_order turns a.proc.core s.2.orderly; no_tasks = s.2.no_tasks; suspended = s.2.suspended },
    record { all = s.3.all; phases = s.3.phases },
  )

  ready_same : (w : World A) (v : World B) (k : ℕ) → SameWorld R w v → SamePlace R (ready w k) (ready v k)
  ready_same w v k h =
      let a : Place A = record { up = false; proc = idle } in
      let b : Place B = record { up = false; proc = idle } in
      let p = slice_index_or v.places k b in
      subst (λ (o : Outside). SamePlace R (ready w k) (with_core p (begin o.file.turns))) h.0
      (begun_place w.out.file.turns (slice_index_or w.places k a) p (place_at w.places v.places k a b h.1 idle_place))

  -- what is delivered to a process in order, whose actors are as they were
  delivered : (c k : Core) (xs : Numbered A) (ys : Numbered B) → OrderlyUnlessStopped k → Unless (Eases c) k → Related R c xs ys → SameProc R (proc k xs) (proc k ys)
  delivered c k xs ys o h rs = (refl, unless_both _ _ k.halted o (unless_map k.halted (related_eased e d R sim c k xs ys rs) h))

  boot_with_same : (x : Option A) (y : Option B) (c : Core) (xs : Numbered A) (ys : Numbered B) → Orderly c → Related R c xs ys → BothOrNone (R Free) x y
      → SameProc R (boot_with e x (proc c xs)) (boot_with d y (proc c ys))
  boot_with_same None None c xs ys o rs h = (refl, tt)
  boot_with_same None (Some y) c xs ys o rs h = absurd h
  boot_with_same (Some x) None c xs ys o rs h = absurd h
  boot_with_same (Some x) (Some y) c xs ys o rs h =
      let k = boot_core e.main (e.label e.main) c in (
        ap (λ n. boot_core e.main n c) (sim.label e.main) ∙ ap (λ k. boot_core k (d.label k) c) sim.main,
        unless_both _ _ k.halted (boot_in_order e.main (e.label e.main) c o)
            (unless_map k.halted (λ n. related_new e d R sim (suc c.started) c k xs ys x y rs n.0 n.1 h) (booted_enrolled e.main (e.label e.main) c o.numbered)),
      )

  boot_same : (p : ℕ) (c : Core) (xs : Numbered A) (ys : Numbered B) → Orderly c → Related R c xs ys → SameProc R (boot e p (proc c xs)) (boot d p (proc c ys))
  boot_same p c xs ys o rs =
      let vs = IntValue (pos p) ∷ [] in
      boot_with_same (e.fresh e.main vs) (d.fresh d.main vs) c xs ys o rs (subst (λ k. BothOrNone (R Free) (e.fresh e.main vs) (d.fresh k vs)) sim.main (sim.fresh e.main vs))

  -- each event
  abbrev Begins : Core → Numbered A → Numbered B → Begun A → Begun B → Type 0
  Begins c xs ys b k = Orderly c → Related R c xs ys → SameBegun b k

  unchanged : (c : Core) (xs : Numbered A) (ys : Numbered B) → Orderly c → Related R c xs ys → SameProc R (proc c xs) (proc c ys)
  unchanged c xs ys o rs = (refl, unless c.halted (o, rs))

  booted_same : (p : ℕ) (up : Bool) (c : Core) (xs : Numbered A) (ys : Numbered B) (held : Option ℕ) (head : List Line) (w : Outside)
      → Begins c xs ys (record { head = head; place = booted e p (place up c xs) held; out = w }) (record { head = head; place = booted d p (place up c ys) held; out = w })
  booted_same p up c xs ys (Some held) head w o rs = (refl, refl, refl, unchanged c xs ys o rs)
  booted_same p up c xs ys None head w o rs = (refl, refl, refl, boot_same p c xs ys o rs)

  ordered_same : (x : Order) (up : Bool) (c : Core) (xs : Numbered A) (ys : Numbered B) (w : Outside) → Begins c xs ys (ordered e x (place up c xs) w) (ordered d x (place up c ys) w)
  ordered_same (Boot p) up c xs ys w o rs = booted_same p up c xs ys c.main _ w o rs
  ordered_same (Stop p) up c xs ys w o rs = (refl, refl, refl, delivered c (stop c) xs ys (unless (stop c).halted (stop_in_order c o)) (unless (stop c).halted (stop_eases c)) rs)
  ordered_same (Kill p) up c xs ys w o rs = (refl, refl, refl, (refl, (idle_orderly c.made c.started, idle_related c.made c.started)))
  ordered_same (Cut p q) up c xs ys w o rs = (refl, refl, refl, unchanged c xs ys o rs)
  ordered_same (Heal p q) up c xs ys w o rs = (refl, refl, refl, unchanged c xs ys o rs)
  ordered_same (DiskFail p n) up c xs ys w o rs = (refl, refl, refl, unchanged c xs ys o rs)

  answer_same : (cell : ℕ) (v : OutcomeTree) (c : Core) (xs : Numbered A) (ys : Numbered B) → Orderly c → Related R c xs ys → SameProc R (proc (deliver cell v c) xs) (proc (deliver cell v c) ys)
  answer_same cell v c xs ys o rs = delivered c (deliver cell v c) xs ys (deliver_in_order cell v c o) (deliver_eases cell v c) rs

  arrived_same : (m from port : ℕ) (text : List ℕ) (up : Bool) (c : Core) (xs : Numbered A) (ys : Numbered B) (w : Outside) (l : Option ℕ)
      → Begins c xs ys (arrived m from port text (place up c xs) w l) (arrived m from port text (place up c ys) w l)
  arrived_same m from port text up c xs ys w None o rs = (refl, refl, refl, unchanged c xs ys o rs)
  arrived_same m from port text up c xs ys w (Some cell) o rs =
      let v = packet from port text in
      (refl, refl, refl, delivered c (arrive cell v c) xs ys (arrive_in_order cell v c o) (arrive_eases cell v c) rs)

  happened_same : (x : What) (up : Bool) (c : Core) (xs : Numbered A) (ys : Numbered B) (w : Outside) → Begins c xs ys (happened e x (place up c xs) w) (happened d x (place up c ys) w)
  happened_same (Boots p) up c xs ys w o rs = ordered_same (Boot p) up c xs ys w o rs
  happened_same (Rings p k) up c xs ys w o rs = (refl, refl, refl, answer_same k (GoodOutcome VoidValue) c xs ys o rs)
  happened_same (Arrives m from to port text) up c xs ys w o rs = arrived_same m from port text up c xs ys w (listener (place up c xs) port) o rs
  happened_same (Answers p k call) up c xs ys w o rs = (refl, refl, refl, answer_same k _ c xs ys o rs)

  rebuilt_place : (up on : Bool) (c k : Core) (ys : Numbered B) → up ≡ on → c ≡ k → place up c ys ≡ place on k ys
  rebuilt_place up on c k ys f g = ap (λ x. place x c ys) f ∙ ap (λ x. place on x ys) g

  ordered_at : (o : Order) (a : Place A) (b : Place B) (w v : Outside) → SamePlace R a b → w ≡ v → SameBegun (ordered e o a w) (ordered d o b v)
  ordered_at o a b w v s f =
      subst (λ z. SameBegun (ordered e o a w) (ordered d o b z)) f
      (subst (λ z. SameBegun (ordered e o a w) (ordered d o z w)) (rebuilt_place a.up b.up a.proc.core b.proc.core b.proc.actors s.0 s.1)
      (ordered_same o a.up a.proc.core a.proc.actors b.proc.actors w s.2.orderly s.3))

  happened_at : (x : What) (a : Place A) (b : Place B) (w v : Outside) → SamePlace R a b → w ≡ v → SameBegun (happened e x a w) (happened d x b v)
  happened_at x a b w v s f =
      subst (λ z. SameBegun (happened e x a w) (happened d x b z)) f
      (subst (λ z. SameBegun (happened e x a w) (happened d x z w)) (rebuilt_place a.up b.up a.proc.core b.proc.core b.proc.actors s.0 s.1)
      (happened_same x a.up a.proc.core a.proc.actors b.proc.actors w s.2.orderly s.3))

  begun_at : (n : Next) (w : World A) (v : World B) → SameWorld R w v → BegunBoth (begun_by e w n) (begun_by d v n)
  begun_at Nothing w v h = tt
  begun_at (Script t o left) w v h =
      ordered_at o (ready w (process_of o)) (ready v (process_of o)) _ _ (ready_same w v (process_of o) h) (ap (λ x. counted t (process_of o) (record x { script = left })) h.0)
  begun_at (Event p left) w v h =
      happened_at p.what (ready w (process_in p.what)) (ready v (process_in p.what)) _ _ (ready_same w v (process_in p.what) h) (ap (λ x. counted p.time (process_in p.what) (with_left x left)) h.0)

  begun_same : (w : World A) (v : World B) → SameWorld R w v → BegunBoth (begun_by e w (next_of w.out)) (begun_by d v (next_of v.out))
  begun_same w v h = subst (λ n. BegunBoth (begun_by e w (next_of w.out)) (begun_by d v n)) (ap next_of h.0) (begun_at (next_of w.out) w v h)

  found : (b : Begun A) (o : Option (Begun B)) → BegunBoth (Some b) o → (k : Begun B) × (o ≡ Some k) × SameBegun b k
  found b None h = absurd h
  found b (Some k) h = (k, refl, h)

  -- an event begins alike
  pub begun_follows : (w : World A) (v : World B) (b : Begun A) → SameWorld R w v → begun_by e w (next_of w.out) ≡ Some b
      → (k : Begun B) × (begun_by d v (next_of v.out) ≡ Some k) × Same R (before b) (before k)
  begun_follows w v b h g =
      let f = found b (begun_by d v (next_of v.out)) (subst (λ o. BegunBoth o (begun_by d v (next_of v.out))) g (begun_same w v h)) in (f.0, f.1, (f.2.3, f.2.1))

  found_back : (o : Option (Begun A)) (k : Begun B) → BegunBoth o (Some k) → (b : Begun A) × (o ≡ Some b) × SameBegun b k
  found_back None k h = absurd h
  found_back (Some b) k h = (b, refl, h)

  lines_same : (b : Begun A) (k : Begun B) (l : Live Outside A) (m : Live Outside B) → SameBegun b k → Same R l m → lines_of b l ≡ lines_of k m
  lines_same b k l m s t = ap (λ x. x ++ l.proc.core.lines) s.0 ∙ ap (λ c. k.head ++ c.lines) t.0.0

  -- the process after an event that wasn't stopped
  rested : (b : Begun A) (k : Begun B) (l : Live Outside A) (m : Live Outside B) → SameBegun b k → Same R l m → Burst e host (before b) l → l.proc.core.halted ≡ None
      → AtRest l.proc.core × Related R l.proc.core l.proc.actors m.proc.actors
  rested b k l m s t r x =
      let rest = burst_at_rest e host (before b) l (unless_map b.place.proc.core.halted (λ z. z.0) s.3.1) r in
      (subst (λ o. UnlessStopped o (AtRest l.proc.core)) x rest, (subst (λ o. UnlessStopped o (Orderly l.proc.core × Related R l.proc.core l.proc.actors m.proc.actors)) x t.0.1).1)

  after_same : (w : World A) (v : World B) (b : Begun A) (k : Begun B) (l : Live Outside A) (m : Live Outside B) → SameWorld R w v → SameBegun b k → Same R l m → Burst e host (before b) l
      → l.proc.core.halted ≡ None
      → SameWorld R (after w b l) (after v k m)
  after_same w v b k l m h s t r q =
      let x : Place A = record { up = b.place.up; proc = l.proc } in
      let y : Place B = record { up = k.place.up; proc = m.proc } in
      let rest = rested b k l m s t r q in (
        t.1,
        subst (λ i. SamePlaces R (slice_set w.places l.out.active x) (slice_set v.places i y)) (ap (λ o. o.active) t.1)
            (place_set w.places v.places l.out.active x y h.1 (s.2, t.0.0, rest.0, rest.1)),
      )

  ending_same : (w : World A) (v : World B) → SameWorld R w v → ending v.out (next_of v.out) ≡ ending w.out (next_of w.out)
  ending_same w v h = ap (λ o. ending o (next_of o)) (sym h.0)

  pub runs_follow : RunsFollow e d R
  runs_follow w v states lines h (ends last g) = ([], ends last (ending_same w v h ∙ g), tt)
  runs_follow w v states lines h (spent b l g k r x) =
      let f = found b (begun_by d v (next_of v.out)) (subst (λ o. BegunBoth o (begun_by d v (next_of v.out))) k (begun_same w v h)) in
      let m = bursts_follow e d host R sim (before b) l (before f.0) (f.2.3, f.2.1) r in (
        [],
        subst (λ ls. Runs d v [] (ls ++ line.EndSpent ∷ [])) (sym (lines_same b f.0 l m.0 f.2 m.2))
            (spent f.0 m.0 (ending_same w v h ∙ g) f.1 m.1 (sym (ap (λ c. c.halted) m.2.0.0) ∙ x)),
        tt,
      )
  runs_follow w v states lines h (event {states = states2} {lines = lines2} b l g k r x rest) =
      let f = found b (begun_by d v (next_of v.out)) (subst (λ o. BegunBoth o (begun_by d v (next_of v.out))) k (begun_same w v h)) in
      let m = bursts_follow e d host R sim (before b) l (before f.0) (f.2.3, f.2.1) r in
      let s = after_same w v b f.0 l m.0 h f.2 m.2 r x in
      let all = runs_follow (after w b l) (after v f.0 m.0) states2 lines2 s rest in (
        after v f.0 m.0 ∷ all.0,
        subst (λ ls. Runs d v (after v f.0 m.0 ∷ all.0) (ls ++ lines2)) (sym (lines_same b f.0 l m.0 f.2 m.2))
            (event {states = all.0} f.0 m.0 (ending_same w v h ∙ g) f.1 m.1 (sym (ap (λ c. c.halted) m.2.0.0) ∙ x) all.1),
        (s, all.2),
      )

  pub runs_return : RunsReturn e d R
  runs_return w v others lines h (ends last g) = ([], ends last (sym (ending_same w v h) ∙ g), tt)
  runs_return w v others lines h (spent k m g j r x) =
      let f = found_back (begun_by e w (next_of w.out)) k (subst (λ o. BegunBoth (begun_by e w (next_of w.out)) o) j (begun_same w v h)) in
      let l = bursts_return e d host R sim (before f.0) (before k) m (f.2.3, f.2.1) r in (
        [],
        subst (λ ls. Runs e w [] (ls ++ line.EndSpent ∷ [])) (lines_same f.0 k l.0 m f.2 l.2)
            (spent f.0 l.0 (sym (ending_same w v h) ∙ g) f.1 l.1 (ap (λ c. c.halted) l.2.0.0 ∙ x)),
        tt,
      )
  runs_return w v others lines h (event {states = others2} {lines = lines2} k m g j r x rest) =
      let f = found_back (begun_by e w (next_of w.out)) k (subst (λ o. BegunBoth (begun_by e w (next_of w.out)) o) j (begun_same w v h)) in
      let l = bursts_return e d host R sim (before f.0) (before k) m (f.2.3, f.2.1) r in
      let s = after_same w v f.0 k l.0 m h f.2 l.2 l.1 (ap (λ c. c.halted) l.2.0.0 ∙ x) in
      let all = runs_return (after w f.0 l.0) (after v k m) others2 lines2 s rest in (
        after w f.0 l.0 ∷ all.0,
        subst (λ ls. Runs e w (after w f.0 l.0 ∷ all.0) (ls ++ lines2)) (lines_same f.0 k l.0 m f.2 l.2)
            (event {states = all.0} f.0 l.0 (sym (ending_same w v h) ∙ g) f.1 l.1 (ap (λ c. c.halted) l.2.0.0 ∙ x) all.1),
        (s, all.2),
      )

  -- whole traces begin in the same world
  starts_same : (n : ℕ) → SamePlaces R (replicate n (record { up = false; proc = idle })) (replicate n (record { up = false; proc = idle }))
  starts_same zero = tt
  starts_same (suc n) = (idle_place, starts_same n)

  start_same : (w : file.World) → SameWorld R (at_start w) (at_start w)
  start_same w = (refl, starts_same w.processes)

  traced : (w : file.World) (states : List (World A)) (later : List (World A)) (others : List (World B)) → states ≡ at_start w ∷ later → SameStates R later others
      → SameStates R states (at_start w ∷ others)
  traced w states later others h s = subst (λ x. SameStates R x (at_start w ∷ others)) (sym h) (start_same w, s)

  traced_back : (w : file.World) (others : List (World B)) (later : List (World B)) (states : List (World A)) → others ≡ at_start w ∷ later → SameStates R states later
      → SameStates R (at_start w ∷ states) others
  traced_back w others later states h s = subst (λ x. SameStates R (at_start w ∷ states) x) (sym h) (start_same w, s)

  pub traces_follow : TracesFollow e d R
  traces_follow w states lines r =
      let all = runs_follow (at_start w) (at_start w) r.later r.rest (start_same w) r.runs in
      (at_start w ∷ all.0, record { later = all.0; rest = r.rest; runs = all.1; from_start = refl; with_head = r.with_head }, traced w states r.later all.0 r.from_start all.2)

  pub traces_return : TracesReturn e d R
  traces_return w others lines r =
      let all = runs_return (at_start w) (at_start w) r.later r.rest (start_same w) r.runs in
      (at_start w ∷ all.0, record { later = all.0; rest = r.rest; runs = all.1; from_start = refl; with_head = r.with_head }, traced_back w others r.later all.0 r.from_start all.2)
