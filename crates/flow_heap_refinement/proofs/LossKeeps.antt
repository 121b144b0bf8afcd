-- No loss of a reference leaves a cell without one, nor an unmarked actor without a future of its result.
use Rattle.std.proofs.Common.{◌≡◌, ℕ, zero, suc, ◌+◌, ◌<◌, ◌≤◌, nat_eq, Bool, true, false, List, if◌then◌else◌, refl, sym, ap, ◌∙◌, subst, arith}
use Rattle.std.specs.Prelude.{is_some as set_in}
use Rattle.std.proofs.lemmas.Bool.Decides.{nat_tests}
use Rattle.std.specs.Option.{option_map}
use Rattle.std.specs.declared.option.Option.{Option}
use Rattle.std.specs.declared.option.Option.TheVariants.{None, Some}
use Rattle.flow_base.specs.declared.ids.CellId.{CellId}
use Rattle.flow_value.specs.declared.value.Kind.{Kind}
use Rattle.flow_value.specs.declared.value.Kind.TheVariants as kind
use Rattle.flow_value.specs.declared.value.Value.{Value}
use Rattle.flow_value.specs.declared.value.Outcome.{Outcome}
use Rattle.flow_value.specs.Values.{ValueTree, OutcomeTree}
use Rattle.flow_class.specs.Classes.{RawTree}
use Rattle.flow_numbered.specs.Numbered as stored
use Rattle.flow_cell.specs.Cells.{CellTree, Counts, count_of, released}
use Rattle.flow_cell.specs.Cells as counts
use Rattle.flow_cell.specs.declared.counts.Loss.{Loss}
use Rattle.flow_cell.specs.declared.counts.Loss.TheVariants as cell_loss
use Rattle.flow_stream.specs.Streams.{StreamTree}
use Rattle.flow_cancel.specs.declared.actors.Note.{Note}
use Rattle.flow_cancel.specs.declared.task.Dropped.{Dropped}
use Rattle.flow_cancel.specs.declared.task.Dropped.TheVariants as dropped
use Rattle.flow_cancel.specs.Heap.{HeapTree, actor_id}
use Rattle.flow_cancel.specs.Heap as heap
use Rattle.flow_cancel.specs.Dropping.{cancel_if_not, cancel_owner, cell_less, cell_lost, drop_cell, stream_less, stream_lost, drop_stream}
use Rattle.flow_cancel.specs.Dropping as lost
use Rattle.flow_numbered.specs.Numbered.{thing}
use Rattle.flow_meaning.specs.Cells.{Side, PromiseSide, FutureSide, side_of, Waiter, Single, Stream}
use Rattle.flow_meaning.specs.Process.{Entry, Proc}
use Rattle.flow_meaning.specs.References.{one, in_entries}
use Rattle.flow_meaning.specs.Frame.{Frame}
use Rattle.flow_meaning.proofs.Posture.{each_number}
use Rattle.flow_heap_refinement.specs.Representing.{cell_number}
use Rattle.flow_heap_refinement.specs.Counted.{memory_side, references}
use Rattle.flow_heap_refinement.specs.Changes.{cell_put, stream_put}
use Rattle.flow_heap_refinement.specs.Losing.{Losing}
use Rattle.flow_heap_refinement.specs.Alive as law
use Rattle.flow_heap_refinement.specs.Alive.{AliveAt, Alive, HasFuture, WantedBut, Wanted}
use Rattle.flow_heap_refinement.proofs.Finds.{stored_other, stored_put, stored_gone, stored_removed}
use Rattle.flow_heap_refinement.proofs.Actors.{by_note}
use Rattle.flow_heap_refinement.proofs.Losing as one_cell
use Rattle.flow_heap_refinement.proofs.LosingStreams as one_stream
use Rattle.flow_heap_refinement.proofs.Loss.{single_at, stream_at}
use Rattle.flow_heap_refinement.proofs.Owners.{note_found, note_unfound, noted_result, result_noted, one_owner}

module _ (r : RawTree) (h : HeapTree) (p : Proc Frame) (kd : Kind) (k : ℕ) (o : Option OutcomeTree) (ws : List Waiter) (l : Losing r h p kd k (Single o ws)) (m : CellTree Outcome)
    (at : stored.thing h.cells.things k ≡ Some m) where
  abbrev sd : Side
  sd = side_of kd

  abbrev P : ℕ
  P = references PromiseSide k p

  abbrev F : ℕ
  F = references FutureSide k p

  abbrev less : CellTree Outcome
  less = record m { references = released (memory_side sd) m.references }

  less_is : less.references ≡ record { promises = P; futures = F }
  less_is = one_cell.less_is r h p kd k o ws l m at

  kept_alive : 0 < P + F → Alive h → Alive (cell_put k less h)
  kept_alive n a =
      each_number k (λ j. AliveAt (stored.thing (stored.put h.cells.things k less) j) (stored.thing h.streams.things j))
      (subst (λ x. AliveAt x (stored.thing h.streams.things k)) (sym (stored_put h.cells.things k m less at)) (subst (λ c. 0 < c.promises + c.futures) (sym less_is) n))
      (λ j d. subst (λ x. AliveAt x (stored.thing h.streams.things j)) (sym (stored_other h.cells.things k j less d)) (a j))

  gone_alive : Alive h → (j : ℕ) → AliveAt (stored.thing (stored.removed h.cells.things k) j) (stored.thing h.streams.things j)
  gone_alive a =
      each_number k (λ j. AliveAt (stored.thing (stored.removed h.cells.things k) j) (stored.thing h.streams.things j))
      (subst (λ x. AliveAt x (stored.thing h.streams.things k)) (sym (stored_gone h.cells.things h.cells.greatest k l.sorted.cells))
      (subst (AliveAt None) (sym (one_cell.single r h p kd k o ws l m at).no_stream) tt))
      (λ j d. subst (λ x. AliveAt x (stored.thing h.streams.things j)) (sym (stored_removed h.cells.things k j d)) (a j))

  alive_by : (side : Side) (a b : ℕ) → P ≡ a → F ≡ b → Alive h → Alive (cell_lost k less h (counts.loss (memory_side side) (record { promises = a; futures = b }))).0
  alive_by PromiseSide zero zero e f al = gone_alive al
  alive_by FutureSide zero zero e f al = gone_alive al
  alive_by PromiseSide zero (suc b) e f al = kept_alive (omega (arith, f)) al
  alive_by FutureSide zero (suc b) e f al = kept_alive (omega (arith, f)) al
  alive_by PromiseSide (suc a) zero e f al = kept_alive (omega (arith, e)) al
  alive_by FutureSide (suc a) zero e f al = kept_alive (omega (arith, e)) al
  alive_by PromiseSide (suc a) (suc b) e f al = kept_alive (omega (arith, e)) al
  alive_by FutureSide (suc a) (suc b) e f al = kept_alive (omega (arith, e)) al

  pub single_alive : Alive h → Alive (drop_cell (memory_side sd) k h (stored.thing h.cells.things k)).0
  single_alive al =
      subst (λ x. Alive (drop_cell (memory_side sd) k h x).0) (sym at)
      (subst (λ c. Alive (cell_lost k less h (counts.loss (memory_side sd) c)).0) (sym less_is) (alive_by sd P F refl refl al))

  -- what is known where the cell is the result of an unmarked actor
  record Result (i : ℕ) (n : Note) : Type 0 where
    entry : Entry
    there : thing p.core.entries i ≡ Some entry
    result : entry.result ≡ Some k
    one_promise : P ≡ 1

  its_result : (i : ℕ) (n : Note) (c : CellId) → stored.thing h.actors.things i ≡ Some n → n.result ≡ Some c → c.0 ≡ k → Result i n
  its_result i n c e q same =
      let a = by_note r (stored.thing h.actors.things i) (stored.thing h.frames.things i) (thing p.core.entries i) (thing p.actors i) n e (l.shows.actors i) in
      let note : a.note ≡ n = let b = a.noted in cc (b, e) in
      let res : a.entry.result ≡ Some k = a.same.result ∙ ap (λ (z : Note). option_map cell_number z.result) note ∙ ap (option_map cell_number) q ∙ ap Some same in record {
        entry = a.entry;
        there = a.entered;
        result = res;
        one_promise = (l.owned.result i k a.entry a.entered res).1;
      }

  future_in : HasFuture k h → 0 < F + one FutureSide k sd k
  future_in f =
      let a = one_cell.kept_is r h p kd k o ws l m at FutureSide in
      let same : f.cell ≡ m = let b = f.there in cc (b, at) in
      let b = ap (λ (c : CellTree Outcome). c.references.futures) same in
      let c = f.future in omega (arith, a, b, c)

  -- another result keeps its futures, and this one where some are left
  kept_future : 0 < F → (j : ℕ) → HasFuture j h → HasFuture j (cell_put k less h)
  kept_future n =
      each_number k (λ j. HasFuture j h → HasFuture j (cell_put k less h))
      (λ f. record { cell = less; there = stored_put h.cells.things k m less at; future = subst (λ c. 0 < c.futures) (sym less_is) n })
      (λ j d f. record { cell = f.cell; there = stored_other h.cells.things k j less d ∙ f.there; future = f.future })

  other_future : (j : ℕ) → (k ≡ j → ⊥) → HasFuture j h → HasFuture j (cell_put k less h)
  other_future j d f = record { cell = f.cell; there = stored_other h.cells.things k j less d ∙ f.there; future = f.future }

  wanted_put : (d : Dropped) → ((i : ℕ) (n : Note) (c : CellId) → stored.thing h.actors.things i ≡ Some n → n.marked ≡ false → n.result ≡ Some c → c.0 ≡ k → HasFuture k h
      → (d ≡ dropped.Cancel (actor_id i) → ⊥) → 0 < F)
      → Wanted h → WantedBut d (cell_put k less h)
  wanted_put d here w i n c e u q x =
      by_cell (λ a. here i n c e u q a (subst (λ j. HasFuture j h) a (w i n c e u q (nothing_more i))) x) (w i n c e u q (nothing_more i))
    where
      nothing_more : (i : ℕ) → dropped.Nothing ≡ dropped.Cancel (actor_id i) → ⊥
      nothing_more i z = cc

      by_cell : (c.0 ≡ k → 0 < F) → HasFuture c.0 h → HasFuture c.0 (cell_put k less h)
      by_cell more f = by_test (nat_eq c.0 k) refl
        where
          by_test : (t : Bool) → nat_eq c.0 k ≡ t → HasFuture c.0 (cell_put k less h)
          by_test true g = kept_future (more (grind (arith, nat_tests))) c.0 f
          by_test false g = other_future c.0 (λ z. differ z g) f
            where
              differ : k ≡ c.0 → nat_eq c.0 k ≡ false → ⊥
              differ z g = grind (arith, nat_tests)

  wanted_gone : ((i : ℕ) (n : Note) (c : CellId) → stored.thing h.actors.things i ≡ Some n → n.result ≡ Some c → c.0 ≡ k → HasFuture k h → ⊥) → Wanted h
      → (i : ℕ) (n : Note) (c : CellId) → stored.thing h.actors.things i ≡ Some n → n.marked ≡ false → n.result ≡ Some c → HasFuture c.0 (lost.freed_cell k h (Some less))
  wanted_gone never w i n c e u q = by_test (nat_eq c.0 k) refl (w i n c e u q (nothing_more i))
    where
      nothing_more : (i : ℕ) → dropped.Nothing ≡ dropped.Cancel (actor_id i) → ⊥
      nothing_more i z = cc

      differ : k ≡ c.0 → nat_eq c.0 k ≡ false → ⊥
      differ z g = grind (arith, nat_tests)

      by_test : (t : Bool) → nat_eq c.0 k ≡ t → HasFuture c.0 h → HasFuture c.0 (lost.freed_cell k h (Some less))
      by_test true g f = let same : c.0 ≡ k = grind (arith, nat_tests) in absurd (never i n c e q same (subst (λ j. HasFuture j h) same f))
      by_test false g f = record { cell = f.cell; there = stored_removed h.cells.things k c.0 (λ z. differ z g) ∙ f.there; future = f.future }

  side_none : (s t : Side) → s ≡ PromiseSide → one FutureSide k s k ≡ 0
  side_none s t e = ap (λ x. one FutureSide k x k) e

  -- the owner that is found is this actor
  owner_is : (i : ℕ) (n : Note) (c : CellId) → stored.thing h.actors.things i ≡ Some n → n.marked ≡ false → n.result ≡ Some c → c.0 ≡ k
      → cancel_owner h.actors.things (heap.owner k h.actors.things) ≡ dropped.Cancel (actor_id i)
  owner_is i n c e u q same = by_owner (heap.owner k h.actors.things) refl
    where
      mine : heap.is_result k n.result ≡ true
      mine = result_noted k n.result (ap (option_map cell_number) q ∙ ap Some same)

      by_owner : (x : Option ℕ) → heap.owner k h.actors.things ≡ x → cancel_owner h.actors.things x ≡ dropped.Cancel (actor_id i)
      by_owner None f = absurd (let a = note_unfound k i n h.actors.things f e in cc (a, mine))
      by_owner (Some y) f =
          let g = note_found k y 0 h.actors.greatest h.actors.things l.sorted.actors f in
          let a = its_result i n c e q same in
          let b = its_result_by y g.0 g.1 (noted_result k g.0.result g.2) in
          let few : in_entries PromiseSide k p.core.entries ≤ 1 = let z = a.one_promise in omega (arith, z) in
          let id : i ≡ y = one_owner k i y a.entry b.entry p.core.entries few a.there b.there a.result b.result in
          subst (λ z. cancel_if_not z (stored.thing h.actors.things z) ≡ dropped.Cancel (actor_id i)) id
          (ap (cancel_if_not i) e ∙ ap (λ t. if t then dropped.Nothing else dropped.Cancel (actor_id i)) u)
        where
          its_result_by : (i : ℕ) (n : Note) → stored.thing h.actors.things i ≡ Some n → option_map cell_number n.result ≡ Some k → Result i n
          its_result_by i n e q = from (n.result) refl q
            where
              from : (x : Option CellId) → n.result ≡ x → option_map cell_number x ≡ Some k → Result i n
              from None f g = absurd (cc)
              from (Some c) f g = its_result i n c e f (cc (g))

  wanted_by : (side : Side) → sd ≡ side → (a b : ℕ) → P ≡ a → F ≡ b → Wanted h
      → WantedBut (cell_lost k less h (counts.loss (memory_side side) (record { promises = a; futures = b }))).1
      (cell_lost k less h (counts.loss (memory_side side) (record { promises = a; futures = b }))).0
  wanted_by PromiseSide s zero zero e f w = λ i n c x u q z. wanted_gone (λ i n c x q same g. let a = future_in g in let d = side_none sd sd s in absurd (omega (arith, a, d, f))) w i n c x u q
  wanted_by FutureSide s zero zero e f w = λ i n c x u q z. wanted_gone (λ i n c x q same g. let a = (its_result i n c x q same).one_promise in absurd (omega (arith, a, e))) w i n c x u q
  wanted_by PromiseSide s zero (suc b) e f w = wanted_put (lost.broken_if_not (set_in m.content)) (λ i n c x u q same g z. omega (arith, f)) w
  wanted_by FutureSide s zero (suc b) e f w = wanted_put dropped.Nothing (λ i n c x u q same g z. omega (arith, f)) w
  wanted_by PromiseSide s (suc a) zero e f w = wanted_put dropped.Nothing (λ i n c x u q same g z. let y = future_in g in let d = side_none sd sd s in absurd (omega (arith, y, d, f))) w
  wanted_by FutureSide s (suc a) zero e f w = wanted_put (cancel_owner h.actors.things (heap.owner k h.actors.things)) (λ i n c x u q same g z. absurd (z (owner_is i n c x u q same))) w
  wanted_by PromiseSide s (suc a) (suc b) e f w = wanted_put dropped.Nothing (λ i n c x u q same g z. omega (arith, f)) w
  wanted_by FutureSide s (suc a) (suc b) e f w = wanted_put dropped.Nothing (λ i n c x u q same g z. omega (arith, f)) w

  pub single_wanted : Wanted h → WantedBut (drop_cell (memory_side sd) k h (stored.thing h.cells.things k)).1 (drop_cell (memory_side sd) k h (stored.thing h.cells.things k)).0
  single_wanted w =
      subst (λ x. WantedBut (drop_cell (memory_side sd) k h x).1 (drop_cell (memory_side sd) k h x).0) (sym at)
      (subst (λ c. WantedBut (cell_lost k less h (counts.loss (memory_side sd) c)).1 (cell_lost k less h (counts.loss (memory_side sd) c)).0) (sym less_is) (wanted_by sd refl P F refl refl w))

module _ (r : RawTree) (h : HeapTree) (p : Proc Frame) (kd : Kind) (k : ℕ) (q : List ValueTree) (x : Option ℕ) (w : Option Waiter) (l : Losing r h p kd k (Stream q x w)) (m : StreamTree Value)
    (at : stored.thing h.streams.things k ≡ Some m) where
  abbrev side : Side
  side = side_of kd

  abbrev promises : ℕ
  promises = references PromiseSide k p

  abbrev futures : ℕ
  futures = references FutureSide k p

  abbrev lesser : StreamTree Value
  lesser = record m { references = released (memory_side side) m.references }

  lesser_is : lesser.references ≡ record { promises = promises; futures = futures }
  lesser_is = one_stream.less_is r h p kd k q x w l m at

  kept_streams : 0 < promises + futures → Alive h → Alive (stream_put k lesser h)
  kept_streams n a =
      each_number k (λ j. AliveAt (stored.thing h.cells.things j) (stored.thing (stored.put h.streams.things k lesser) j))
      (subst (λ y. AliveAt y (stored.thing (stored.put h.streams.things k lesser) k)) (sym (one_stream.stream r h p kd k q x w l m at).no_single)
      (subst (AliveAt None) (sym (stored_put h.streams.things k m lesser at)) (subst (λ c. 0 < c.promises + c.futures) (sym lesser_is) n)))
      (λ j d. subst (AliveAt (stored.thing h.cells.things j)) (sym (stored_other h.streams.things k j lesser d)) (a j))

  gone_streams : Alive h → (j : ℕ) → AliveAt (stored.thing h.cells.things j) (stored.thing (stored.removed h.streams.things k) j)
  gone_streams a =
      each_number k (λ j. AliveAt (stored.thing h.cells.things j) (stored.thing (stored.removed h.streams.things k) j))
      (subst (λ y. AliveAt y (stored.thing (stored.removed h.streams.things k) k)) (sym (one_stream.stream r h p kd k q x w l m at).no_single)
      (subst (AliveAt None) (sym (stored_gone h.streams.things h.streams.greatest k l.sorted.streams)) tt))
      (λ j d. subst (AliveAt (stored.thing h.cells.things j)) (sym (stored_removed h.streams.things k j d)) (a j))

  unheard_alive : (b : Bool) → 0 < promises + futures → Alive h → Alive (lost.unheard k lesser h b).0
  unheard_alive true n a = gone_streams a
  unheard_alive false n a = kept_streams n a

  streams_by : (s : Side) (a b : ℕ) → promises ≡ a → futures ≡ b → Alive h → Alive (stream_lost k lesser h (counts.loss (memory_side s) (record { promises = a; futures = b }))).0
  streams_by PromiseSide zero zero e f al = gone_streams al
  streams_by FutureSide zero zero e f al = gone_streams al
  streams_by PromiseSide zero (suc b) e f al = kept_streams (omega (arith, f)) al
  streams_by FutureSide zero (suc b) e f al = kept_streams (omega (arith, f)) al
  streams_by PromiseSide (suc a) zero e f al = kept_streams (omega (arith, e)) al
  streams_by FutureSide (suc a) zero e f al = unheard_alive (heap.has_number h.ports k) (omega (arith, e)) al
  streams_by PromiseSide (suc a) (suc b) e f al = kept_streams (omega (arith, e)) al
  streams_by FutureSide (suc a) (suc b) e f al = kept_streams (omega (arith, e)) al

  pub stream_alive : Alive h → Alive (drop_stream (memory_side side) k h (stored.thing h.streams.things k)).0
  stream_alive al =
      subst (λ y. Alive (drop_stream (memory_side side) k h y).0) (sym at)
      (subst (λ c. Alive (stream_lost k lesser h (counts.loss (memory_side side) c)).0) (sym lesser_is) (streams_by side promises futures refl refl al))

  -- no result is a stream
  same_singles : (d : HeapTree) (e : Dropped) → d.cells ≡ h.cells → d.actors ≡ h.actors → Wanted h → WantedBut e d
  same_singles d e c a w i n k u v z y = moved (w i n k (ap (λ s. stored.thing s.things i) (sym a) ∙ u) v z (nothing_more i))
    where
      nothing_more : (i : ℕ) → dropped.Nothing ≡ dropped.Cancel (actor_id i) → ⊥
      nothing_more i z = cc

      moved : HasFuture k.0 h → HasFuture k.0 d
      moved f = record { cell = f.cell; there = ap (λ s. stored.thing s.things k.0) c ∙ f.there; future = f.future }

  unheard_wanted : (b : Bool) → Wanted h → WantedBut (lost.unheard k lesser h b).1 (lost.unheard k lesser h b).0
  unheard_wanted true wd = same_singles (lost.unheard k lesser h true).0 dropped.PortFreed refl refl wd
  unheard_wanted false wd = same_singles (lost.unheard k lesser h false).0 dropped.Nothing refl refl wd

  lost_wanted : (y : Loss) → Wanted h → WantedBut (stream_lost k lesser h y).1 (stream_lost k lesser h y).0
  lost_wanted cell_loss.Kept wd = same_singles (stream_put k lesser h) dropped.Nothing refl refl wd
  lost_wanted cell_loss.LastPromise wd = same_singles (stream_put k lesser h) (lost.broken_if_not (set_in m.end)) refl refl wd
  lost_wanted cell_loss.LastFuture wd = unheard_wanted (heap.has_number h.ports k) wd
  lost_wanted cell_loss.Gone wd = same_singles (lost.freed_stream k h (Some lesser)) dropped.Freed refl refl wd

  pub stream_wanted : Wanted h → WantedBut (drop_stream (memory_side side) k h (stored.thing h.streams.things k)).1 (drop_stream (memory_side side) k h (stored.thing h.streams.things k)).0
  stream_wanted wd =
      subst (λ y. WantedBut (drop_stream (memory_side side) k h y).1 (drop_stream (memory_side side) k h y).0) (sym at) (lost_wanted (counts.loss (memory_side side) lesser.references) wd)

module _ (r : RawTree) (h : HeapTree) (p : Proc Frame) where
  pub loss_alive : law.LossAlive r h p
  loss_alive kind.Promise k (Single o ws) l = let m = single_at r h p kind.Promise k o ws l in single_alive r h p kind.Promise k o ws l m.0 m.1
  loss_alive kind.Future k (Single o ws) l = let m = single_at r h p kind.Future k o ws l in single_alive r h p kind.Future k o ws l m.0 m.1
  loss_alive kind.PromiseStream k (Stream q e w) l = let m = stream_at r h p kind.PromiseStream k q e w l in stream_alive r h p kind.PromiseStream k q e w l m.0 m.1
  loss_alive kind.FutureStream k (Stream q e w) l = let m = stream_at r h p kind.FutureStream k q e w l in stream_alive r h p kind.FutureStream k q e w l m.0 m.1
  loss_alive kind.Promise k (Stream q e w) l = absurd l.right
  loss_alive kind.Future k (Stream q e w) l = absurd l.right
  loss_alive kind.PromiseStream k (Single o ws) l = absurd l.right
  loss_alive kind.FutureStream k (Single o ws) l = absurd l.right

  pub loss_wanted : law.LossWanted r h p
  loss_wanted kind.Promise k (Single o ws) l = let m = single_at r h p kind.Promise k o ws l in single_wanted r h p kind.Promise k o ws l m.0 m.1
  loss_wanted kind.Future k (Single o ws) l = let m = single_at r h p kind.Future k o ws l in single_wanted r h p kind.Future k o ws l m.0 m.1
  loss_wanted kind.PromiseStream k (Stream q e w) l = let m = stream_at r h p kind.PromiseStream k q e w l in stream_wanted r h p kind.PromiseStream k q e w l m.0 m.1
  loss_wanted kind.FutureStream k (Stream q e w) l = let m = stream_at r h p kind.FutureStream k q e w l in stream_wanted r h p kind.FutureStream k q e w l m.0 m.1
  loss_wanted kind.Promise k (Stream q e w) l = absurd l.right
  loss_wanted kind.Future k (Stream q e w) l = absurd l.right
  loss_wanted kind.PromiseStream k (Single o ws) l = absurd l.right
  loss_wanted kind.FutureStream k (Single o ws) l = absurd l.right
