-- How often the parts of a heap at rest refer to a side of a cell is how often the process that it shows does.
use Rattle.std.proofs.Common.{◌≡◌, ℕ, ◌+◌, max, nat_eq, Bool, true, false, List, [], ◌∷◌, ◌++◌, map, if◌then◌else◌, refl, sym, ap, ◌∙◌, subst, arith}
use Rattle.std.specs.Prelude.{◌||◌}
use Rattle.std.specs.List.{flat_map}
use Rattle.std.specs.Option.{option_map}
use Rattle.std.specs.declared.option.Option.{Option}
use Rattle.std.specs.declared.option.Option.TheVariants.{None, Some}
use Rattle.flow_base.specs.declared.ids.CellId.{CellId}
use Rattle.flow_value.specs.declared.value.Kind.{Kind}
use Rattle.flow_value.specs.declared.value.Kind.TheVariants as kind
use Rattle.flow_value.specs.declared.value.Value.{Value}
use Rattle.flow_value.specs.declared.value.Outcome.{Outcome}
use Rattle.flow_value.specs.Values.{ValueTree, OutcomeTree, GoodOutcome, BadOutcome, refs_of}
use Rattle.flow_value.specs.View.{value_of, outcome_of}
use Rattle.flow_class.specs.Classes.{RawTree}
use Rattle.flow_numbered.specs.Numbered.{Numbered, thing}
use Rattle.flow_cell.specs.declared.waiter.Waiter as memory
use Rattle.flow_cell.specs.Cells.{CellTree}
use Rattle.flow_stream.specs.Streams.{StreamTree}
use Rattle.flow_frame.specs.Frames.{FrameTree}
use Rattle.flow_cancel.specs.Heap.{HeapTree, has_number}
use Rattle.flow_cancel.proofs.Noted.{at_number}
use Rattle.flow_heapstate.specs.State.{cell_part, stream_part, actor_part, result_noted, parts_of}
use Rattle.flow_heapstate.specs.Referring as parts
use Rattle.flow_heapstate.specs.Referring.{content_refs, place_refs, noted, named, waited, waits_of, cell_refs, stream_refs, actor_refs, result_refs}
use Rattle.flow_meaning.specs.Cells.{Side, PromiseSide, FutureSide, side_of, Ref, Waiter, Cell, Single, Stream, is_some, as_list, good}
use Rattle.flow_meaning.specs.Process.{Proc}
use Rattle.flow_meaning.specs.References.{refs_in, one, count, count_maybe, count_waiters, count_kept, in_cells, in_entries, in_tasks, in_ports, in_requests}
use Rattle.flow_meaning.specs.Orderly.{Rising}
use Rattle.flow_meaning.specs.Dropping.{port_of}
use Rattle.flow_meaning.specs.Frame.{Frame}
use Rattle.flow_heap_refinement.specs.Counted.{references, frames_hold}
use Rattle.flow_heap_refinement.specs.Holding.{held}
use Rattle.flow_heap_refinement.specs.References.{cell_holds, entry_holds, frame_holds}
use Rattle.flow_heap_refinement.specs.Rested.{NumbersRise, PortsRise, IsUnset, IsStream, has}
use Rattle.flow_heap_refinement.specs.Representing.{cell_number, waiter_in, CellRepresents}
use Rattle.flow_heap_refinement.proofs.Sums.{sum_by, cells_sum, entries_sum, frames_sum, count_joined}
use Rattle.flow_heap_refinement.proofs.Holding.{all_held, memory_held}
use Rattle.flow_restore_laws.specs.States.Heaps.{Fitting}
use Rattle.flow_restore_laws.proofs.States.Totals.{upto_same, upto_sum, if_there, sum_upto, rising}
use Rattle.flow_restore_laws.proofs.States.Standing.{spots, ActorStands, actor_stands, nobody_there}

-- numbers, and the cells of ports, as things by number
abbrev numbers : List ℕ → Numbered ℕ
numbers [] = []
numbers (k ∷ ks) = (k, k) ∷ numbers ks

numbers_rise : (low n : ℕ) (ks : List ℕ) → NumbersRise low n ks → Rising low n (numbers ks)
numbers_rise low n [] h = tt
numbers_rise low n (k ∷ ks) h = (h.0, h.1, numbers_rise k n ks h.2)

abbrev swapped : Numbered ℕ → Numbered ℕ
swapped [] = []
swapped (x ∷ xs) = (x.1, x.0) ∷ swapped xs

swapped_rise : (low n : ℕ) (xs : Numbered ℕ) → PortsRise low n xs → Rising low n (swapped xs)
swapped_rise low n [] h = tt
swapped_rise low n (x ∷ xs) h = (h.0, h.1, swapped_rise x.1 n xs h.3)

swapped_at : (k : ℕ) (xs : Numbered ℕ) → thing (swapped xs) k ≡ port_of k xs
swapped_at k [] = refl
swapped_at k (x ∷ xs) = ap (λ o. if nat_eq k x.1 then Some x.0 else o) (swapped_at k xs)

-- whether a number is noted
pub noted_has : (ns : List ℕ) (n : ℕ) → has_number ns n ≡ has n ns
noted_has [] n = refl
noted_has (m ∷ ns) n = ap (λ t. t || has_number ns n) (at_number n m) ∙ by_test (nat_eq n m) (noted_has ns n)
  where
    by_test : (t : Bool) → has_number ns n ≡ has n ns → (t || has_number ns n) ≡ (if t then true else has n ns)
    by_test true e = refl
    by_test false e = e

abbrev if_so : Bool → ℕ → ℕ
if_so b n = if b then n else 0

module _ (s : Side) (j : ℕ) where
  requests_sum : (ks : List ℕ) → in_requests s j ks ≡ sum_by (λ n a. one s j PromiseSide n) (numbers ks)
  requests_sum [] = refl
  requests_sum (k ∷ ks) = let a = requests_sum ks in omega (arith, a)

  request_at : (ks : List ℕ) (k : ℕ) → if_there (λ n a. one s j PromiseSide n) k (thing (numbers ks) k) ≡ if_so (has k ks) (one s j PromiseSide k)
  request_at [] k = refl
  request_at (m ∷ ks) k = by_test (nat_eq k m) (request_at ks k)
    where
      by_test : (t : Bool) → if_there (λ n a. one s j PromiseSide n) k (thing (numbers ks) k) ≡ if_so (has k ks) (one s j PromiseSide k)
          → if_there (λ n a. one s j PromiseSide n) k (if t then Some m else thing (numbers ks) k) ≡ if_so (if t then true else has k ks) (one s j PromiseSide k)
      by_test true e = refl
      by_test false e = e

  ports_sum : (xs : Numbered ℕ) → in_ports s j xs ≡ sum_by (λ n a. one s j PromiseSide n) (swapped xs)
  ports_sum [] = refl
  ports_sum (x ∷ xs) = let a = ports_sum xs in omega (arith, a)

  -- references one after another
  flat_sum : {A P : Type 0} (refs : P → List Ref) (part : ℕ × A → P) (xs : List (ℕ × A)) → count s j (flat_map refs (map part xs)) ≡ sum_by (λ n a. count s j (refs (part (n, a)))) xs
  flat_sum refs part [] = refl
  flat_sum refs part (x ∷ xs) = let a = count_joined s j (refs (part x)) (flat_map refs (map part xs)) in let b = flat_sum refs part xs in omega (arith, a, b)

  noted_count : (b : Bool) (q : Kind) (n : ℕ) → count s j (noted b q n) ≡ if_so b (one s j (side_of q) n)
  noted_count true q n = omega arith
  noted_count false q n = refl

  content_count : (o : Option OutcomeTree) → count s j (refs_in (good o)) ≡ count s j (content_refs o)
  content_count None = refl
  content_count (Some (GoodOutcome v)) = let a = count_joined s j (refs_of v) [] in omega (arith, a)
  content_count (Some (BadOutcome e)) = refl

  waits_count : (f : Waiter → memory.Waiter) (n : ℕ) (ws : List Waiter) → count s j (waits_of n (map f ws)) ≡ count_waiters s j n ws
  waits_count f n [] = refl
  waits_count f n (w ∷ ws) = let a = waits_count f n ws in omega (arith, a)

  waited_count : (f : Waiter → memory.Waiter) (n : ℕ) (o : Option Waiter) → count s j (waited (option_map f o) n) ≡ count_waiters s j n (as_list o)
  waited_count f n None = refl
  waited_count f n (Some w) = omega arith

  queue_count : (vs : List ValueTree) → count s j (flat_map refs_of vs) ≡ count s j (refs_in vs)
  queue_count [] = refl
  queue_count (v ∷ vs) =
      let a = count_joined s j (refs_of v) (flat_map refs_of vs) in
      let b = count_joined s j (refs_of v) (refs_in vs) in
      let c = queue_count vs in omega (arith, a, b, c)

  -- places
  place_count : (o : Option ValueTree) → count s j (place_refs o) ≡ held s j o
  place_count None = refl
  place_count (Some v) = let a = count_joined s j (refs_of v) [] in omega (arith, a)

  places_count : (os : List (Option ValueTree)) → count s j (flat_map place_refs os) ≡ all_held s j os
  places_count [] = refl
  places_count (o ∷ os) =
      let a = count_joined s j (place_refs o) (flat_map place_refs os) in
      let b = place_count o in
      let c = places_count os in omega (arith, a, b, c)

  held_joined : (os us : List (Option ValueTree)) → all_held s j (os ++ us) ≡ all_held s j os + all_held s j us
  held_joined [] us = omega arith
  held_joined (o ∷ os) us = let a = held_joined os us in omega (arith, a)

  named_count : (o : Option CellId) (q : Kind) → count s j (named o q) ≡ count_maybe s j (side_of q) (option_map cell_number o)
  named_count None q = refl
  named_count (Some k) q = omega arith

  module _ (r : RawTree) (h : HeapTree) (p : Proc Frame) (f : Fitting r h p) where
    abbrev w_cell : ℕ → CellTree Outcome → ℕ
    w_cell n m = count s j (cell_refs (cell_part h.requests (n, m)))

    abbrev w_stream : ℕ → StreamTree Value → ℕ
    w_stream n m = count s j (stream_refs (stream_part h.ports (n, m)))

    abbrev w_actor : ℕ → FrameTree Value → ℕ
    w_actor i m = count s j (actor_refs (actor_part h.actors.things (i, m)))

    abbrev w_result : ℕ → FrameTree Value → ℕ
    w_result i m = count s j (result_refs (actor_part h.actors.things (i, m)))

    -- a request and a port at a number
    abbrev request : ℕ → ℕ
    request n = if_so (has n p.core.requests) (one s j PromiseSide n)

    abbrev port : ℕ → ℕ
    port n = if_so (is_some (port_of n p.core.ports)) (one s j PromiseSide n)

    no_request : (n : ℕ) → (IsUnset (thing p.core.cells n) → ⊥) → request n ≡ 0
    no_request n u = by_test (has n p.core.requests) refl
      where
        by_test : (b : Bool) → has n p.core.requests ≡ b → if_so b (one s j PromiseSide n) ≡ 0
        by_test true e = absurd (u (f.rested.running.owned.request n e).0)
        by_test false e = refl

    no_port : (n : ℕ) → (IsStream (thing p.core.cells n) → ⊥) → port n ≡ 0
    no_port n u = by_port (port_of n p.core.ports) refl
      where
        by_port : (o : Option ℕ) → port_of n p.core.ports ≡ o → if_so (is_some o) (one s j PromiseSide n) ≡ 0
        by_port (Some q) e = absurd (u (f.rested.running.owned.port q n e).0)
        by_port None e = refl

    cell_at : (n : ℕ) → if_there w_cell n (thing h.cells.things n) + if_there w_stream n (thing h.streams.things n) ≡ if_there (cell_holds s j) n (thing p.core.cells n) + (request n + port n)
    cell_at n = by_case (thing h.cells.things n) (thing h.streams.things n) (thing p.core.cells n) refl (f.rested.running.shows.cells n)
      where
        requested : has_number h.requests n ≡ has n p.core.requests
        requested = noted_has h.requests n ∙ ap (has n) (sym f.rested.running.shows.requests)

        by_case : (c : Option (CellTree Outcome)) (t : Option (StreamTree Value)) (x : Option Cell) → thing p.core.cells n ≡ x → CellRepresents (spots r h p f) c t x
            → if_there w_cell n c + if_there w_stream n t ≡ if_there (cell_holds s j) n x + (request n + port n)
        by_case None None None e k =
            let a = no_request n (subst IsUnset e) in
            let b = no_port n (subst IsStream e) in omega (arith, a, b)
        by_case (Some m) None (Some (Single content ws)) e k =
            let a = no_port n (subst IsStream e) in
            let b = count_joined s j (content_refs (option_map outcome_of m.content)) (noted (has_number h.requests n) kind.Promise n ++ waits_of n m.waiters) in
            let c = count_joined s j (noted (has_number h.requests n) kind.Promise n) (waits_of n m.waiters) in
            let d = noted_count (has_number h.requests n) kind.Promise n ∙ ap (λ t. if_so t (one s j PromiseSide n)) requested in
            let g = ap (λ o. count s j (refs_in (good o))) k.0 ∙ content_count (option_map outcome_of m.content) in
            let i = ap (λ us. count s j (waits_of n us)) k.1 ∙ waits_count (waiter_in (spots r h p f)) n ws in omega (arith, a, b, c, d, g, i)
        by_case None (Some m) (Some (Stream q x w)) e k =
            let a = no_request n (subst IsUnset e) in
            let b = count_joined s j (flat_map refs_of (map value_of m.queue)) (noted (has_number h.ports n) kind.PromiseStream n ++ waited m.waiter n) in
            let c = count_joined s j (noted (has_number h.ports n) kind.PromiseStream n) (waited m.waiter n) in
            let d = noted_count (has_number h.ports n) kind.PromiseStream n ∙ ap (λ t. if_so t (one s j PromiseSide n)) (f.rested.running.shows.ports n) in
            let g = queue_count (map value_of m.queue) ∙ ap (λ vs. count s j (refs_in vs)) (sym k.0) in
            let i = ap (λ o. count s j (waited o n)) k.2 ∙ waited_count (waiter_in (spots r h p f)) n w in omega (arith, a, b, c, d, g, i)
        by_case None None (Some c) e k = absurd k
        by_case None (Some t) None e k = absurd k
        by_case None (Some t) (Some (Single o ws)) e k = absurd k
        by_case (Some m) None None e k = absurd k
        by_case (Some m) None (Some (Stream q x w)) e k = absurd k
        by_case (Some m) (Some t) x e k = absurd k

    -- an actor's result and places
    actor_counts : (i : ℕ) (m : FrameTree Value) (a : ActorStands r h p f i m) → w_result i m + w_actor i m ≡ entry_holds s j a.entry + frame_holds s j a.frame
    actor_counts i m a =
        let b = ap (λ o. count s j (named (result_noted o) kind.Promise)) a.noted in
        let c = named_count a.note.result kind.Promise in
        let d = ap (count_maybe s j PromiseSide) a.same.result in
        let e = ap (λ t. count_kept s j t a.entry.operands) a.asleep in
        let g = ap (λ os. count s j (flat_map place_refs os)) a.stands.places ∙ places_count (a.frame.mem.slots ++ a.frame.mem.locals) in
        let k = held_joined a.frame.mem.slots a.frame.mem.locals in
        let l = memory_held s j a.frame.mem in omega (arith, b, c, d, e, g, k, l)

    actor_at : (i : ℕ) → if_there w_result i (thing h.frames.things i) + if_there w_actor i (thing h.frames.things i)
        ≡ if_there (λ n e. entry_holds s j e) i (thing p.core.entries i) + if_there (λ n g. frame_holds s j g) i (thing p.actors i)
    actor_at i = by_case (thing h.frames.things i) refl
      where
        by_case : (o : Option (FrameTree Value)) → thing h.frames.things i ≡ o → if_there w_result i o + if_there w_actor i o
            ≡ if_there (λ n e. entry_holds s j e) i (thing p.core.entries i) + if_there (λ n g. frame_holds s j g) i (thing p.actors i)
        by_case None e =
            let a = nobody_there r h p f i e in
            let b = ap (if_there (λ n x. entry_holds s j x) i) a.0 in
            let c = ap (if_there (λ n g. frame_holds s j g) i) a.1 in omega (arith, b, c)
        by_case (Some m) e =
            let a = actor_stands r h p f i m e in
            let b = ap (if_there (λ n e. entry_holds s j e) i) a.entered in
            let c = ap (if_there (λ n g. frame_holds s j g) i) a.acting in
            let d = actor_counts i m a in omega (arith, b, c, d)

    -- sums of two kinds of things, number by number
    cells_total : sum_by w_cell h.cells.things + sum_by w_stream h.streams.things ≡ in_cells s j p.core.cells + (in_requests s j p.core.requests + in_ports s j p.core.ports)
    cells_total =
        let n = p.core.made in
        let made : max h.made (max h.cells.greatest h.streams.greatest) ≡ n = let e = f.rested.running.shows.made in omega (arith, e) in
        let a = sum_upto w_cell h.cells.things 0 n (rising 0 h.cells.greatest n h.cells.things f.rested.running.sorted.cells (grind (arith, made))) in
        let b = sum_upto w_stream h.streams.things 0 n (rising 0 h.streams.greatest n h.streams.things f.rested.running.sorted.streams (grind (arith, made))) in
        let c = cells_sum s j p.core.cells ∙ sum_upto (cell_holds s j) p.core.cells 0 n f.fits.numbered in
        let d = requests_sum p.core.requests ∙ sum_upto (λ k a. one s j PromiseSide k) (numbers p.core.requests) 0 n (numbers_rise 0 n p.core.requests f.rested.running.numbers.requests)
        ∙ upto_same (λ k. if_there (λ k a. one s j PromiseSide k) k (thing (numbers p.core.requests) k)) request (request_at p.core.requests) n in
        let e = ports_sum p.core.ports ∙ sum_upto (λ k a. one s j PromiseSide k) (swapped p.core.ports) 0 n (swapped_rise 0 n p.core.ports f.rested.running.numbers.ports)
        ∙ upto_same (λ k. if_there (λ k a. one s j PromiseSide k) k (thing (swapped p.core.ports) k)) port port_is n in
        let x = upto_sum (λ k. if_there w_cell k (thing h.cells.things k)) (λ k. if_there w_stream k (thing h.streams.things k)) n in
        let y = upto_sum (λ k. if_there (cell_holds s j) k (thing p.core.cells k)) (λ k. request k + port k) n in
        let z = upto_sum request port n in
        let same = upto_same (λ k. if_there w_cell k (thing h.cells.things k) + if_there w_stream k (thing h.streams.things k))
        (λ k. if_there (cell_holds s j) k (thing p.core.cells k) + (request k + port k)) cell_at n in
        omega (arith, a, b, c, d, e, x, y, z, same)
      where
        port_is : (k : ℕ) → if_there (λ k a. one s j PromiseSide k) k (thing (swapped p.core.ports) k) ≡ port k
        port_is k = ap (if_there (λ k a. one s j PromiseSide k) k) (swapped_at k p.core.ports) ∙ by_port (port_of k p.core.ports)
          where
            by_port : (o : Option ℕ) → if_there (λ k a. one s j PromiseSide k) k o ≡ if_so (is_some o) (one s j PromiseSide k)
            by_port None = refl
            by_port (Some q) = refl

    actors_total : sum_by w_result h.frames.things + sum_by w_actor h.frames.things ≡ in_entries s j p.core.entries + frames_hold p.actors s j
    actors_total =
        let n = p.core.started in
        let started : max h.actors.greatest h.frames.greatest ≡ n = let e = f.rested.running.shows.started in omega (arith, e) in
        let up = rising 0 h.frames.greatest n h.frames.things f.rested.running.sorted.frames (grind (arith, started)) in
        let a = sum_upto w_result h.frames.things 0 n up in
        let b = sum_upto w_actor h.frames.things 0 n up in
        let c = entries_sum s j p.core.entries ∙ sum_upto (λ k e. entry_holds s j e) p.core.entries 0 n f.rested.running.orderly.numbered in
        let d = frames_sum s j p.actors ∙ sum_upto (λ k g. frame_holds s j g) p.actors 0 n f.fits.framed in
        let x = upto_sum (λ k. if_there w_result k (thing h.frames.things k)) (λ k. if_there w_actor k (thing h.frames.things k)) n in
        let y = upto_sum (λ k. if_there (λ k e. entry_holds s j e) k (thing p.core.entries k)) (λ k. if_there (λ k g. frame_holds s j g) k (thing p.actors k)) n in
        let same = upto_same (λ k. if_there w_result k (thing h.frames.things k) + if_there w_actor k (thing h.frames.things k))
        (λ k. if_there (λ k e. entry_holds s j e) k (thing p.core.entries k) + if_there (λ k g. frame_holds s j g) k (thing p.actors k)) actor_at n in
        omega (arith, a, b, c, d, x, y, same)

    pub counted : count s j (parts.references (parts_of h)) ≡ references s j p
    counted =
        let q = parts_of h in
        let a = count_joined s j (flat_map result_refs q.actors) (parts.stored_refs q) in
        let b = count_joined s j (flat_map cell_refs q.cells) (flat_map stream_refs q.streams ++ (flat_map actor_refs q.actors ++ named q.main kind.Future)) in
        let c = count_joined s j (flat_map stream_refs q.streams) (flat_map actor_refs q.actors ++ named q.main kind.Future) in
        let d = count_joined s j (flat_map actor_refs q.actors) (named q.main kind.Future) in
        let e1 = flat_sum result_refs (actor_part h.actors.things) h.frames.things in
        let e2 = flat_sum cell_refs (cell_part h.requests) h.cells.things in
        let e3 = flat_sum stream_refs (stream_part h.ports) h.streams.things in
        let e4 = flat_sum actor_refs (actor_part h.actors.things) h.frames.things in
        let m = named_count h.main kind.Future ∙ ap (count_maybe s j FutureSide) (sym f.rested.running.shows.main) in
        let t = ap (in_tasks s j) f.rested.rest.no_tasks in
        omega (arith, a, b, c, d, e1, e2, e3, e4, m, t, cells_total, actors_total)
