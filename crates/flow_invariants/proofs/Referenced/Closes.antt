-- The end of an actor leaves each cell with a reference, where its result is unset.
use Rattle.std.proofs.Common.{◌≡◌, ℕ, zero, suc, ◌+◌, ◌≤◌, nat_eq, Bool, true, false, List, [], ◌∷◌, if◌then◌else◌, refl, sym, ap, subst, ◌∙◌, arith}
use Rattle.std.specs.declared.option.Option.{Option}
use Rattle.std.specs.declared.option.Option.TheVariants.{None, Some}
use Rattle.flow_value.specs.Values.{OutcomeTree}
use Rattle.flow_class.specs.Classes.{RawTree}
use Rattle.flow_numbered.specs.Numbered.{Numbered, thing, put, removed}
use Rattle.flow_meaning.specs.Cells.{Side, PromiseSide, FutureSide, Waiter, Cell, Single, Stream, filled}
use Rattle.flow_meaning.specs.Process.{Task, Close, Fire, Entry, Core}
use Rattle.flow_meaning.specs.References.{reference_count, refs_in, value_in, one, count, count_maybe, count_kept, in_entries}
use Rattle.flow_meaning.specs.Orderly.{Orderly}
use Rattle.flow_meaning.specs.Lines.{end_line}
use Rattle.flow_meaning.specs.Work.{writes, fill_cell, fill, dropping_values}
use Rattle.flow_meaning.specs.Dropping.{set_result, give_result, close}
use Rattle.flow_meaning.specs.Step.{proc, close_actor}
use Rattle.flow_meaning.specs.Frame.{Frame}
use Rattle.flow_meaning.specs.Class.{classes}
use Rattle.flow_meaning.proofs.Posture.{Unless, unless, after_turn, same_number, removed_none, thing_removed_other}
use Rattle.flow_meaning.proofs.Shifts.{close_of}
use Rattle.flow_meaning.proofs.InOrder.{no_thing}
use Rattle.flow_heap_refinement.specs.Counted.{frames_hold}
use Rattle.flow_heap_refinement.specs.CellsTied.{CellsTied}
use Rattle.flow_heap_refinement.specs.References.{frame_holds}
use Rattle.flow_heap_refinement.specs.Rested.{IsUnset}
use Rattle.flow_heap_refinement.proofs.Keeping.{no_one}
use Rattle.flow_heap_refinement.proofs.Referring.{of_popped, of_closed}
use Rattle.flow_progress.specs.Alone.{ResultsAlone}
use Rattle.flow_progress.specs.Fitting.{CellTypes, ProcessFits}
use Rattle.flow_progress.proofs.StepFits.{Actor, actor_here}
use Rattle.flow_invariants.proofs.Referenced.Onward.{IsThere, refs, Wants, Refers, gone_onward, drop_onward, filling_onward, push_onward, refers_on}
use Rattle.flow_invariants.proofs.Referenced.Losses.{wants_counts}

-- a cell that is unset
unset_single : (x : Option Cell) → IsUnset x → (ws : List Waiter) × (x ≡ Some (Single None ws))
unset_single None h = absurd h
unset_single (Some (Single None ws)) h = (ws, refl)
unset_single (Some (Single (Some o) ws)) h = absurd h
unset_single (Some (Stream q e w)) h = absurd h

module _ (k : ℕ) (r : RawTree) (types : CellTypes) (c : Core) (xs : Numbered Frame) (o : Orderly c) (p : ProcessFits r types c xs) (t : CellsTied c) (results : ResultsAlone c xs) (ts : List Task)
    (h : Refers k c xs) (i : ℕ) (oc : OutcomeTree) (top : c.tasks ≡ Close i oc ∷ ts)
    (unset : (j : ℕ) (e : Entry) → thing c.entries i ≡ Some e → e.result ≡ Some j → IsUnset (thing c.cells j)) where
  abbrev ys : Numbered Frame
  ys = removed xs i

  abbrev now : Core
  now = record c { tasks = ts }

  abbrev gone : Core
  gone = record c { tasks = ts; entries = removed c.entries i }

  abbrev Fine : Core → Type 0
  Fine d = Unless (λ d. Refers k d ys) d

  -- who is left wanted it before
  wanted : Wants k gone → Wants k c
  wanted w = by_test (nat_eq i w.0) refl
    where
      by_test : (b : Bool) → nat_eq i w.0 ≡ b → Wants k c
      by_test true q =
          let same : i ≡ w.0 = grind (arith, q) in
          absurd (no_thing (sym (subst (λ n. thing (removed c.entries i) n ≡ None) same (removed_none c.entries 0 c.started i o.numbered)) ∙ w.2))
      by_test false q =
          let other : i ≡ w.0 → ⊥ = (λ z. let f : ⊥ = grind (arith, q, z) in f) in
          (w.0, w.1, sym (thing_removed_other c.entries i w.0 other) ∙ w.2, w.3, w.4)

  module _ (a : Actor r types i (Close i oc) ts c xs) where
    -- its frame holds nothing: what it takes away is the promise of its result, where it has one
    counted : (s : Side) → refs k s c xs ≡ count s k (refs_in (value_in oc)) + count_maybe s k PromiseSide a.entry.result + refs k s gone ys
    counted s =
        let x = of_popped (proc c xs) s k (Close i oc) ts top in
        let y = of_closed (proc now xs) s k i a.entry a.frame a.at a.stands in
        let f : frame_holds s k a.frame ≡ 0 = ap (frame_holds s k) a.doing.1 in
        let v : count_kept s k a.entry.suspended a.entry.operands ≡ 0 = ap (count_kept s k a.entry.suspended) a.doing.2 ∙ ap (λ b. count_kept s k b []) a.awake in omega (arith, x, y, f, v)

    -- that of a void actor is dropped
    dropped : (n : ℕ) → a.entry.result ≡ None → Refers k (dropping_values (value_in oc) (writes (end_line i oc) (record gone { left = n }))) ys
    dropped n none =
        let e = writes (end_line i oc) (record gone { left = n }) in
        refers_on k c xs (dropping_values (value_in oc) e) ys (
          (λ z. z),
          (λ s. let x = counted s in let u = ap (count_maybe s k PromiseSide) none in let m = (drop_onward k (value_in oc) e ys).1 s in omega (arith, x, u, m)),
          wanted,
        ) h

    module _ (result : ℕ) (own : a.entry.result ≡ Some result) where
      counted_with : (s : Side) → refs k s c xs ≡ count s k (refs_in (value_in oc)) + one s k PromiseSide result + refs k s gone ys
      counted_with s = let x = counted s in let u = ap (count_maybe s k PromiseSide) own in omega (arith, x, u)

      module _ (ws : List Waiter) (at : thing c.cells result ≡ Some (Single None ws)) where
        abbrev cell : Cell
        cell = Single None ws

        -- no future of it is left: the cell is gone
        removed_refers : (d : Core) → d.cells ≡ removed c.cells result → d.entries ≡ removed c.entries i
            → ((s : Side) → refs k s gone ys + 0 ≤ refs k s (record gone { cells = removed c.cells result }) ys + 0 → refs k s gone ys + count s k (refs_in (value_in oc)) ≤ refs k s d ys)
            → Refers k d ys
        removed_refers d cs es more = by_test (nat_eq result k) refl
          where
            to_gone : Wants k d → Wants k gone
            to_gone w = (w.0, w.1, subst (λ z. thing z w.0 ≡ Some w.1) es w.2, w.3, w.4)

            by_test : (b : Bool) → nat_eq result k ≡ b → Refers k d ys
            by_test true q =
                let same : result ≡ k = grind (arith, q) in (
                  λ z. absurd (subst IsThere (removed_none c.cells 0 c.made k p.numbered) (subst (λ n. IsThere (thing (removed c.cells n) k)) same (subst (λ x. IsThere (thing x k)) cs z))),
                  λ w. absurd (
                      let g = to_gone w in
                      let m = wants_counts k r types c xs p o.numbered t (removed c.entries i) g.0 g.1 g.2 g.4 in
                      let n = results i result a.entry a.at own in
                      let n2 : refs k PromiseSide c xs ≡ 1 = subst (λ z. reference_count (frames_hold xs) PromiseSide z c ≡ 1) same n in
                      let x = counted_with PromiseSide in
                      let y : one PromiseSide k PromiseSide result ≡ 1 = ap (λ z. one PromiseSide k PromiseSide z) same ∙ ap (λ (b : Bool). if b then 1 else 0) (same_number k) in
                      let less : in_entries PromiseSide k (removed c.entries i) ≤ refs k PromiseSide gone ys = omega arith in omega (arith, m, n2, x, y, less)),
                )
            by_test false q =
                let other : result ≡ k → ⊥ = (λ z. let f : ⊥ = grind (arith, q, z) in f) in
                let g = gone_onward k result cell gone ys at other in
                let less : (s : Side) → refs k s c xs ≤ refs k s d ys = (λ s. let y = counted_with s in let z = no_one s result k PromiseSide other in let m = more s (g.1 s) in omega (arith, y, z, m)) in (
                  λ z. let n = h.0 (g.0 (subst (λ x. IsThere (thing x k)) cs z)) in let u = less PromiseSide in let v = less FutureSide in omega (arith, n, u, v),
                  λ w. let n = h.1 (wanted (to_gone w)) in let v = less FutureSide in omega (arith, n, v),
                )

        -- it is set, and fires
        filled_refers : (m : ℕ) → Refers k (fill_cell result oc (Some cell) (writes (end_line i oc) (record gone { left = m }))) ys
        filled_refers m = by_test (nat_eq result k) refl
          where
            d : Core
            d = fill_cell result oc (Some cell) (writes (end_line i oc) (record gone { left = m }))

            more : (s : Side) → refs k s gone ys + (count s k (refs_in (value_in oc)) + one s k FutureSide result) ≤ refs k s
                (fill_cell result oc (Some cell) (writes (end_line i oc) (record gone { left = m }))) ys
            more s =
                let x = (filling_onward k result cell oc gone ys at tt).1 s in
                let y = (push_onward k (Fire result) (record gone { cells = put c.cells result (filled cell oc) }) ys).1 s in omega (arith, x, y)

            by_test : (b : Bool) → nat_eq result k ≡ b → Refers k (fill_cell result oc (Some cell) (writes (end_line i oc) (record gone { left = m }))) ys
            by_test true q =
                let same : result ≡ k = grind (arith, q) in
                let y : one FutureSide k FutureSide result ≡ 1 = ap (λ z. one FutureSide k FutureSide z) same ∙ ap (λ (b : Bool). if b then 1 else 0) (same_number k) in
                let x = more FutureSide in
                ((λ z. omega (arith, x, y)), (λ w. omega (arith, x, y)))
            by_test false q =
                let other : result ≡ k → ⊥ = (λ z. let f : ⊥ = grind (arith, q, z) in f) in
                let less : (s : Side) → refs k s c xs ≤ refs k s (fill_cell result oc (Some cell) (writes (end_line i oc) (record gone { left = m }))) ys =
                (λ s. let y = counted_with s in let z = no_one s result k PromiseSide other in let n = more s in omega (arith, y, z, n)) in (
                  λ z. let n = h.0 ((filling_onward k result cell oc gone ys at tt).0 z) in let u = less PromiseSide in let v = less FutureSide in omega (arith, n, u, v),
                  λ w. let n = h.1 (wanted w) in let v = less FutureSide in omega (arith, n, v),
                )

        by_futures : (n m : ℕ) → Fine (set_result result oc m (writes (end_line i oc) (record gone { left = n })))
        by_futures n zero =
            let e = record (writes (end_line i oc) (record gone { left = n })) { cells = removed c.cells result } in
            let d = dropping_values (value_in oc) e in
            unless d.halted (removed_refers d refl refl (λ s g. let m = (drop_onward k (value_in oc) e ys).1 s in omega (arith, g, m)))
        by_futures n (suc f) =
            after_turn (λ d. Refers k d ys) (λ d. fill result oc d) (writes (end_line i oc) (record gone { left = n })) n
            (λ m. let d = writes (end_line i oc) (record gone { left = m }) in subst (λ x. Fine (fill_cell result oc x d)) (sym at) (unless c.halted (filled_refers m)))

    closes : Fine (close (frames_hold ys) i a.entry.result oc now)
    closes = by_result a.entry.result refl
      where
        by_result : (x : Option ℕ) → a.entry.result ≡ x → Fine (close (frames_hold ys) i x oc now)
        by_result None own = after_turn (λ d. Refers k d ys) (λ d. give_result (frames_hold ys) None oc (writes (end_line i oc) d)) gone c.left (λ n. unless c.halted (dropped n own))
        by_result (Some result) own =
            let x = unset_single (thing c.cells result) (unset result a.entry a.at own) in
            after_turn (λ d. Refers k d ys) (λ d. give_result (frames_hold ys) (Some result) oc (writes (end_line i oc) d)) gone c.left
            (λ n. by_futures result own x.0 x.1 n (reference_count (frames_hold ys) FutureSide result (writes (end_line i oc) (record gone { left = n }))))

  pub close_refers : Unless (λ d. Refers k d (close_actor (classes r) i oc (thing c.entries i) (proc now xs)).0.actors) (close_actor (classes r) i oc (thing c.entries i) (proc now xs)).0.core
  close_refers =
      let a = actor_here r types i (Close i oc) ts c xs o top (close_of i oc) p in
      subst (λ x. Unless (λ d. Refers k d (close_actor (classes r) i oc x (proc now xs)).0.actors) (close_actor (classes r) i oc x (proc now xs)).0.core) (sym a.at) (closes a)
