-- The end of an actor in memory is that of the definitions.
use Rattle.std.proofs.Common.{◌≡◌, ℕ, zero, suc, ◌+◌, ◌<◌, ◌-◌, nat_lt, Bool, true, false, List, [], if◌then◌else◌, refl, sym, ap, ◌∙◌, subst, arith}
use Rattle.std.proofs.lemmas.Bool.Decides.{nat_tests}
use Rattle.std.specs.Option.{option_map}
use Rattle.std.specs.declared.option.Option.{Option}
use Rattle.std.specs.declared.option.Option.TheVariants.{None, Some}
use Rattle.flow_base.specs.declared.ids.ActorId.{ActorId}
use Rattle.flow_base.specs.declared.ids.CellId.{CellId}
use Rattle.flow_value.specs.declared.value.Outcome.{Outcome}
use Rattle.flow_value.specs.declared.value.Outcome.TheVariants as outcome
use Rattle.flow_value.specs.declared.value.Kind.TheVariants as kind
use Rattle.flow_value.specs.View.{outcome_of}
use Rattle.flow_class.specs.Classes.{RawTree}
use Rattle.flow_trace.specs.declared.line.Line.{Line}
use Rattle.flow_numbered.specs.Numbered as stored
use Rattle.flow_cell.specs.Cells.{CellTree, Counts, released}
use Rattle.flow_cell.specs.declared.counts.Side.TheVariants.{Promise}
use Rattle.flow_cancel.specs.Heap.{HeapTree, without, finished}
use Rattle.flow_cancel.specs.Dropping.{drop_cell}
use Rattle.flow_numbered.specs.Numbered.{thing}
use Rattle.flow_meaning.specs.Cells.{Side, PromiseSide, FutureSide, Waiter, Cell, Single, Stream}
use Rattle.flow_meaning.specs.Process.{Entry, Proc}
use Rattle.flow_meaning.specs.References.{Scan, one, count, count_maybe, count_kept, count_waiters}
use Rattle.flow_meaning.specs.Lines as lines
use Rattle.flow_meaning.specs.Work.{turn, writes, fill}
use Rattle.flow_meaning.specs.Orderly.{Rising}
use Rattle.flow_meaning.specs.Dropping.{set_result, give_result}
use Rattle.flow_meaning.specs.Step.{proc, on_core}
use Rattle.flow_meaning.specs.Frame.{Frame}
use Rattle.flow_meaning.proofs.Posture.{each_number}
use Rattle.flow_heap_refinement.specs.Representing.{CellRepresents, spot_of_actor, cell_number}
use Rattle.flow_heap_refinement.specs.Counted.{kept_count, count_at, references, frames_hold, nothing_in_hand}
use Rattle.flow_heap_refinement.specs.Rested.{IsUnset, Sorted}
use Rattle.flow_heap_refinement.specs.Changes.{cell_put, without_cell}
use Rattle.flow_heap_refinement.specs.Acting.{without_actor}
use Rattle.flow_heap_refinement.specs.Holds.{with_refs, filled_in}
use Rattle.flow_heap_refinement.proofs.Finds.{stored_gone, stored_removed}
use Rattle.flow_heap_refinement.proofs.Cells.{AsSingle, as_single}
use Rattle.flow_heap_refinement.proofs.Losing.{unwaited, one_is, counts_are}
use Rattle.flow_heap_refinement.proofs.Keeping.{cell_released, no_one}
use Rattle.flow_heap_refinement.proofs.Referring.{of_gone, of_closed}
use Rattle.flow_heap_refinement.proofs.Shown.{cell_counted, cell_gone}
use Rattle.flow_heap_refinement.proofs.Acted.{finished_shown}
use Rattle.flow_steps.specs.declared.process.Process.{Process}
use Rattle.flow_steps.specs.Doing.{turned, telling}
use Rattle.flow_steps.specs.Holding.{on_heap, outcome_refs, refs_dropped, futures_of, lost_by, lost}
use Rattle.flow_steps.specs.Delivering.{promise_ended, without_promise, result_set, end_line, ended_in, ended_with}
use Rattle.flow_operation_refinement.specs.Matching.{ProcessRepresents, Matches, shows, Sound}
use Rattle.flow_operation_refinement.specs.Closing as law
use Rattle.flow_operation_refinement.specs.Closing.{MayClose}
use Rattle.flow_operation_refinement.proofs.Working.{changed, as_many_shown, turn_taken, refs_dropped_shown, cell_filled, telling_shown}
use Rattle.flow_operation_refinement.proofs.Brought.{found_single}

-- the outcome and the actor's own promise in hand
abbrev pub in_hand : Outcome → Option ℕ → Scan
in_hand o result s j = count s j (outcome_refs o) + (count_maybe s j PromiseSide result + 0)

-- the numbers of single results rise
abbrev CellsRise : HeapTree → Type 0
CellsRise h = stored.IsRising 0 h.cells.things h.cells.greatest

-- what is known of the cell of a result whose promise is in hand
pub record Lone (q : Proc Frame) (o : Outcome) (k : ℕ) : Type 0 where
  pub waiters : List Waiter
  pub at : thing q.core.cells k ≡ Some (Single None waiters)
  pub promises : references PromiseSide k q ≡ 0
  pub apart : (s : Side) → count s k (outcome_refs o) ≡ 0
  pub rising : Rising 0 q.core.made q.core.cells

-- a line that is told before or after a result is set
abbrev set_after : ℕ → Outcome → Process → Process
set_after k o n = on_heap (filled_in kind.Future k o) (on_heap (without_promise k) n)

set_told : (k : ℕ) (o : Outcome) (l : Line) (n : Process) → result_set k o (telling l n) ≡ telling l (result_set k o n)
set_told k o l n = by_test (nat_lt 0 n.left)
  where
    by_test : (b : Bool) → (if b then set_after k o (if b then record (telling l n) { left = n.left - 1 } else record (telling l n) { spent = true }) else if b then record (telling l n)
        { left = n.left - 1 } else record (telling l n) { spent = true })
        ≡ telling l (if b then set_after k o (if b then record n { left = n.left - 1 } else record n { spent = true }) else if b then record n { left = n.left - 1 } else record n { spent = true })
    by_test true = refl
    by_test false = refl

module _ (r : RawTree) (ls : List Line) (o : Outcome) (k : ℕ) (n : Process) (q : Proc Frame) (s : ProcessRepresents r ls (in_hand o (Some k)) n q) (lone : Lone q o k) where
  stored_as : (m : CellTree Outcome) × (stored.thing n.heap.cells.things k ≡ Some m)
  stored_as = found_single r n.heap q k None lone.waiters s.holds.shows lone.at

  picture : AsSingle (spot_of_actor q.actors) stored_as.0 (stored.thing n.heap.streams.things k) (thing q.core.cells k)
  picture = as_single (spot_of_actor q.actors) stored_as.0 (stored.thing n.heap.streams.things k) (thing q.core.cells k)
      (subst (λ c. CellRepresents (spot_of_actor q.actors) c (stored.thing n.heap.streams.things k) (thing q.core.cells k)) stored_as.1 (s.holds.shows.cells k))

  same_cell : (Single (option_map outcome_of stored_as.0.content) picture.waiters) ≡ Single None lone.waiters
  same_cell = let a = picture.cell in let b = lone.at in cc (a, b)

  unset : stored_as.0.content ≡ None
  unset = by_content stored_as.0.content (let a = same_cell in cc (a))
    where
      by_content : (c : Option Outcome) → option_map outcome_of c ≡ None → c ≡ None
      by_content None e = refl
      by_content (Some x) e = absurd (cc)

  promises_are : stored_as.0.references.promises ≡ 1
  promises_are =
      let a = sym (ap (λ x. count_at PromiseSide x (stored.thing n.heap.streams.things k)) stored_as.1) ∙ s.holds.counted PromiseSide k in
      let b = lone.promises in
      let c = lone.apart PromiseSide in
      let d = one_is PromiseSide k in omega (arith, a, b, c, d)

  futures_are : stored_as.0.references.futures ≡ references FutureSide k q
  futures_are =
      let a = sym (ap (λ x. count_at FutureSide x (stored.thing n.heap.streams.things k)) stored_as.1) ∙ s.holds.counted FutureSide k in
      let c = lone.apart FutureSide in omega (arith, a, c)

  pub futures_seen : futures_of (stored.thing n.heap.cells.things k) ≡ references FutureSide k q
  futures_seen = ap futures_of stored_as.1 ∙ futures_are

  -- the promise counts no more
  pub promise_shown : ProcessRepresents r ls (with_refs (outcome_refs o) nothing_in_hand) (on_heap (without_promise k) n) q
  promise_shown =
      let less = record stored_as.0 { references = released Promise stored_as.0.references } in
      let some : 0 < stored_as.0.references.promises = let a = promises_are in omega (arith, a) in
      subst (λ c. ProcessRepresents r ls (with_refs (outcome_refs o) nothing_in_hand) (on_heap (promise_ended k c) n) q) (sym stored_as.1)
      (changed r ls (in_hand o (Some k)) (with_refs (outcome_refs o) nothing_in_hand) n q q (cell_put k less n.heap) s (record {
        shows = cell_counted r n.heap q k stored_as.0 (released Promise stored_as.0.references) s.holds.shows stored_as.1;
        counted = λ z j. let a = cell_released n.heap z j k stored_as.0 PromiseSide stored_as.1 some in let b = s.holds.counted z j in omega (arith, a, b);
      }) refl refl refl)

  -- nobody refers to the cell: it goes
  module _ (unheard : references FutureSide k q ≡ 0) (sorted : CellsRise n.heap) where
    alone : stored_as.0 ≡ record stored_as.0 { content = None; references = record { promises = 1; futures = 0 } }
    alone =
        ap (λ c. record stored_as.0 { content = c }) unset
        ∙ ap (λ (z : Counts). record stored_as.0 { content = None; references = z }) (counts_are stored_as.0.references 1 0 promises_are (futures_are ∙ unheard))

    abbrev without_it : HeapTree → HeapTree
    without_it h = record h { cells = without h.cells k }

    pub lost_is : (t : Process) → t.heap ≡ n.heap → lost kind.Promise k t ≡ on_heap without_it t
    lost_is t e =
        ap (λ h. lost_by kind.Promise k (drop_cell Promise k h (stored.thing h.cells.things k)) t) e
        ∙ ap (λ c. lost_by kind.Promise k (drop_cell Promise k n.heap c) t) (stored_as.1 ∙ ap Some alone)
        ∙ ap (λ h. record t { heap = without_it h }) (sym e)

    no_waiter : lone.waiters ≡ []
    no_waiter = unwaited k lone.waiters (let a = of_gone q FutureSide k k (Single None lone.waiters) lone.at in let b = unheard in omega (arith, a, b))

    none_here : (z : Side) → references z k q ≡ 0
    none_here PromiseSide = lone.promises
    none_here FutureSide = unheard

    gone_counts : (z : Side) (j : ℕ) → kept_count z j (without_it n.heap) ≡ references z j (on_core (without_cell k) q) + (count z j (outcome_refs o) + 0)
    gone_counts z =
        each_number k (λ j. kept_count z j (without_it n.heap) ≡ references z j (on_core (without_cell k) q) + (count z j (outcome_refs o) + 0))
        (let a = ap (λ x. count_at z x (stored.thing n.heap.streams.things k)) (stored_gone n.heap.cells.things n.heap.cells.greatest k sorted) ∙ ap (count_at z None) picture.no_stream in
        let b = of_gone q z k k (Single None lone.waiters) lone.at in
        let c = none_here z in
        let d = lone.apart z in omega (arith, a, b, c, d))
        (λ j differ.
        let a = ap (λ x. count_at z x (stored.thing n.heap.streams.things j)) (stored_removed n.heap.cells.things k j differ) in
        let b = of_gone q z j k (Single None lone.waiters) lone.at in
        let c = ap (count_waiters z j k) no_waiter in
        let d = s.holds.counted z j in
        let e = no_one z k j PromiseSide differ in omega (arith, a, b, c, d, e))

    pub gone_shown : ProcessRepresents r ls (with_refs (outcome_refs o) nothing_in_hand) (on_heap without_it n) (on_core (without_cell k) q)
    gone_shown = changed r ls (in_hand o (Some k)) (with_refs (outcome_refs o) nothing_in_hand) n q (on_core (without_cell k) q) (without_it n.heap) s (record {
      shows = cell_gone r n.heap q k stored_as.0 s.holds.shows stored_as.1 sorted lone.rising;
      counted = gone_counts;
    }) refl refl refl

pub lone_by : (q t : Proc Frame) (o : Outcome) (k : ℕ) → t.core.cells ≡ q.core.cells → t.core.made ≡ q.core.made → references PromiseSide k t ≡ references PromiseSide k q → Lone q o k → Lone t o k
lone_by q t o k a b c l = record {
  waiters = l.waiters;
  at = ap (λ cs. thing cs k) a ∙ l.at;
  promises = c ∙ l.promises;
  apart = l.apart;
  rising = subst (λ cs. Rising 0 t.core.made cs) (sym a) (subst (λ n. Rising 0 n q.core.cells) (sym b) l.rising);
}

-- the outcome of an actor goes to its result, with the line told
module _ (r : RawTree) (ls : List Line) (l : Line) (o : Outcome) (n : Process) (q : Proc Frame) where
  result_follows : (k : ℕ) → ProcessRepresents r ls (in_hand o (Some k)) (telling l n) q → Lone q o k
      → Matches r ls nothing_in_hand (telling l (result_set k o n)) (on_core (λ c. turn c (λ d. fill k (outcome_of o) d)) q)
  result_follows k s lone =
      subst (λ t. Matches r ls nothing_in_hand t (on_core (λ c. turn c (λ d. fill k (outcome_of o) d)) q)) (set_told k o l n)
      (turn_taken r ls (in_hand o (Some k)) (telling l n) q nothing_in_hand (λ t. on_heap (filled_in kind.Future k o) (on_heap (without_promise k) t)) (λ d. fill k (outcome_of o) d) s (λ i e now.
      let t : Proc Frame = on_core (λ c. record c { left = i }) q in
      let there = lone_by q t o k refl refl refl lone in
      shows (cell_filled r ls nothing_in_hand (on_heap (without_promise k) (turned (telling l n))) t kind.Future k o (promise_shown r ls o k (turned (telling l n)) t now there)
      (record { cell = Single None there.waiters; at = there.at; right = tt; incomplete = refl }))))

  in_follows : (k : ℕ) → ProcessRepresents r ls (in_hand o (Some k)) (telling l n) q → Lone q o k → CellsRise n.heap
      → Matches r ls nothing_in_hand (telling l (ended_in k o n)) (proc (set_result k (outcome_of o) (references FutureSide k q) q.core) q.actors)
  in_follows k s lone sorted = by_count (references FutureSide k q) refl
    where
      by_count : (f : ℕ) → references FutureSide k q ≡ f → Matches r ls nothing_in_hand (telling l (ended_in k o n)) (proc (set_result k (outcome_of o) (references FutureSide k q) q.core) q.actors)
      by_count zero e =
          let t : nat_lt 0 (futures_of (stored.thing n.heap.cells.things k)) ≡ false = let a = futures_seen r ls o k (telling l n) q s lone ∙ e in grind (arith, nat_tests, a) in
          subst (λ f. Matches r ls nothing_in_hand (telling l (ended_in k o n)) (proc (set_result k (outcome_of o) f q.core) q.actors)) (sym e)
          (subst (λ b. Matches r ls nothing_in_hand (telling l (if b then result_set k o n else on_heap (refs_dropped (outcome_refs o)) (lost kind.Promise k n)))
          (proc (set_result k (outcome_of o) zero q.core) q.actors)) (sym t)
          (subst (λ g. Matches r ls nothing_in_hand (telling l (on_heap (refs_dropped (outcome_refs o)) g)) (proc (set_result k (outcome_of o) zero q.core) q.actors))
          (sym (lost_is r ls o k (telling l n) q s lone e sorted n refl))
          (shows (refs_dropped_shown r ls nothing_in_hand (on_heap (λ h. record h { cells = without h.cells k }) (telling l n)) (on_core (without_cell k) q) (outcome_refs o)
          (gone_shown r ls o k (telling l n) q s lone e sorted)))))
      by_count (suc f) e =
          let t : nat_lt 0 (futures_of (stored.thing n.heap.cells.things k)) ≡ true = let a = futures_seen r ls o k (telling l n) q s lone ∙ e in grind (arith, nat_tests, a) in
          subst (λ f. Matches r ls nothing_in_hand (telling l (ended_in k o n)) (proc (set_result k (outcome_of o) f q.core) q.actors)) (sym e)
          (subst (λ b. Matches r ls nothing_in_hand (telling l (if b then result_set k o n else on_heap (refs_dropped (outcome_refs o)) (lost kind.Promise k n)))
          (proc (set_result k (outcome_of o) (suc f) q.core) q.actors)) (sym t)
          (result_follows k s lone))

  -- where it has one
  with_follows : (x : Option CellId) (y : Option ℕ) → y ≡ option_map cell_number x → ProcessRepresents r ls (in_hand o y) (telling l n) q → ((k : ℕ) → y ≡ Some k → Lone q o k) → CellsRise n.heap
      → Matches r ls nothing_in_hand (telling l (ended_with x o n)) (proc (give_result (frames_hold q.actors) y (outcome_of o) q.core) q.actors)
  with_follows None None e s lone sorted =
      shows (refs_dropped_shown r ls nothing_in_hand (telling l n) q (outcome_refs o)
      (as_many_shown r ls (in_hand o None) (with_refs (outcome_refs o) nothing_in_hand) (telling l n) q (λ z j. omega arith) s))
  with_follows (Some c) (Some k) e s lone sorted =
      let same : c.0 ≡ k = cc (e) in
      subst (λ j. Matches r ls nothing_in_hand (telling l (ended_in j o n)) (proc (give_result (frames_hold q.actors) (Some k) (outcome_of o) q.core) q.actors)) (sym same)
      (in_follows k s (lone k refl) sorted)
  with_follows None (Some k) e s lone sorted = absurd (cc)
  with_follows (Some c) None e s lone sorted = absurd (cc)

-- the line of an end
end_lines : (i : ActorId) (o : Outcome) → end_line i o ≡ lines.end_line i.0 (outcome_of o)
end_lines i (outcome.Value v) = refl
end_lines i (outcome.Error e) = refl

still_unasked : (m : Process) → m.asked ≡ None → (turned m).asked ≡ None
still_unasked m none = by_test (nat_lt 0 m.left)
  where
    by_test : (b : Bool) → (if b then record m { left = m.left - 1 } else record m { spent = true }).asked ≡ None
    by_test true = none
    by_test false = none

still_sorted : (m : Process) → CellsRise m.heap → CellsRise (turned m).heap
still_sorted m s = by_test (nat_lt 0 m.left)
  where
    by_test : (b : Bool) → CellsRise (if b then record m { left = m.left - 1 } else record m { spent = true }).heap
    by_test true = s
    by_test false = s

none_kept : (s : Side) (j : ℕ) (b : Bool) (e : Entry) → e.operands ≡ [] → count_kept s j b e.operands ≡ 0
none_kept s j true e f = refl
none_kept s j false e f = ap (count s j) f

module _ (r : RawTree) (ls : List Line) (m : Process) (p : Proc Frame) (i : ActorId) (o : Outcome) (s : ProcessRepresents r ls (with_refs (outcome_refs o) nothing_in_hand) m p) (sound : Sound p)
    (sorted : Sorted m.heap) (may : MayClose r m.heap p i.0 o) where
  abbrev entry : Entry
  entry = may.actor.entry

  abbrev left_proc : Proc Frame
  left_proc = without_actor i.0 p

  pub forgotten : ProcessRepresents r ls (in_hand o entry.result) (on_heap (finished i.0) m) left_proc
  forgotten = changed r ls (with_refs (outcome_refs o) nothing_in_hand) (in_hand o entry.result) m p left_proc (finished i.0 m.heap) s (record {
    shows = finished_shown r m.heap p i.0 may.most s.holds.shows may.actor may.free sorted.actors sorted.frames sound.entries may.actors;
    counted = λ z j.
        let a = of_closed p z j i.0 entry may.actor.frame may.actor.entered may.actor.acting in
        let b = s.holds.counted z j in
        let c = may.empty z j in
        let d = none_kept z j entry.suspended entry may.operands in omega (arith, a, b, c, d);
  }) refl refl refl

  pub lone : (k : ℕ) → entry.result ≡ Some k → Lone left_proc o k
  lone k e = by_cell (thing p.core.cells k) refl (sound.owned.result i.0 k entry may.actor.entered e)
    where
      none_left : references PromiseSide k p ≡ 1 → references PromiseSide k left_proc ≡ 0
      none_left one =
          let a = of_closed p PromiseSide k i.0 entry may.actor.frame may.actor.entered may.actor.acting in
          let b = ap (count_maybe PromiseSide k PromiseSide) e in
          let c = one_is PromiseSide k in omega (arith, a, b, c, one)

      by_cell : (c : Option Cell) → thing p.core.cells k ≡ c → IsUnset (thing p.core.cells k) × (references PromiseSide k p ≡ 1) → Lone left_proc o k
      by_cell None f u = absurd (subst IsUnset f u.0)
      by_cell (Some (Stream q d w)) f u = absurd (subst IsUnset f u.0)
      by_cell (Some (Single (Some c) ws)) f u = absurd (subst IsUnset f u.0)
      by_cell (Some (Single None ws)) f u = record {
        waiters = ws;
        at = f;
        promises = none_left u.1;
        apart = λ z. may.apart z k e;
        rising = sound.numbers.cells;
      }

pub actor_closed : (r : RawTree) (ls : List Line) (m : Process) (p : Proc Frame) → law.ActorClosed r ls m p
actor_closed r ls m p i o s none sound sorted may =
    let result = may.actor.entry.result in
    let gone : Process = on_heap (finished i.0) m in
    let q : Proc Frame = without_actor i.0 p in
    turn_taken r ls (in_hand o result) gone q nothing_in_hand (λ n. telling (end_line i o) (ended_with may.actor.note.result o n))
    (λ d. give_result (frames_hold q.actors) result (outcome_of o) (writes (lines.end_line i.0 (outcome_of o)) d)) (forgotten r ls m p i o s sound sorted may) (λ n e now.
    let t : Proc Frame = on_core (λ c. record c { left = n }) q in
    let line = lines.end_line i.0 (outcome_of o) in
    let told = telling_shown r ls (in_hand o result) line (turned gone) t now (still_unasked gone none) in
    subst (λ (l : Line). Matches r ls nothing_in_hand (telling l (ended_with may.actor.note.result o (turned gone)))
    (proc (give_result (frames_hold t.actors) result (outcome_of o) (writes line t.core)) t.actors)) (sym (end_lines i o))
    (with_follows r ls line o (turned gone) (on_core (writes line) t) may.actor.note.result result may.actor.same.result told
    (λ k f. lone_by q (on_core (writes line) t) o k refl refl refl (lone r ls m p i o s sound sorted may k f))
    (still_sorted gone sorted.cells)))
