-- A lost reference leaves each cell with one, and each unmarked actor with a future of its result.
use Rattle.std.proofs.Common.{◌≡◌, inl, ℕ, zero, suc, ◌+◌, ◌<◌, ◌≤◌, nat_eq, Bool, true, false, [], ◌∷◌, if◌then◌else◌, refl, sym, ap, subst, ◌∙◌, arith}
use Rattle.std.specs.declared.option.Option.{Option}
use Rattle.std.specs.declared.option.Option.TheVariants.{None, Some}
use Rattle.flow_base.specs.ErrorNumbers.{broken_promise, operation_cancelled}
use Rattle.flow_value.specs.Values.{BadOutcome}
use Rattle.flow_class.specs.Classes.{RawTree}
use Rattle.flow_numbered.specs.Numbered.{Numbered, thing, put, removed}
use Rattle.flow_meaning.specs.Cells.{Side, PromiseSide, FutureSide, Cell, Single, Stream, is_complete, held, filled}
use Rattle.flow_meaning.specs.Process.{Throw, Fire, Entry, Core}
use Rattle.flow_meaning.specs.References.{one, count_maybe, count_kept, in_entries, refs_in, count}
use Rattle.flow_meaning.specs.Orderly.{Rising, tasks_of}
use Rattle.flow_meaning.specs.Lines.{cancel_line, broken_line}
use Rattle.flow_meaning.specs.Work.{free_cell, free, fill_cell, fill, writes, dropping_values, owner, marked, cancel_by, cancel, pushed, leave_for}
use Rattle.flow_meaning.specs.Dropping.{port_of, promises_gone, futures_gone, loss, suffer, break_cell}
use Rattle.flow_meaning.specs.Step.{proc}
use Rattle.flow_meaning.specs.Frame.{Frame}
use Rattle.flow_meaning.proofs.Posture.{Unless, unless, after_turn, same_number, removed_none, thing_put, thing_put_other}
use Rattle.flow_meaning.proofs.Shifts.{same_of}
use Rattle.flow_meaning.proofs.InOrder.{no_thing}
use Rattle.flow_heap_refinement.specs.CellsTied.{CellsTied}
use Rattle.flow_heap_refinement.proofs.Owners.{entry_found, entry_unfound, one_owner}
use Rattle.flow_heap_refinement.proofs.Referring.{of_port_gone}
use Rattle.flow_heap_refinement.proofs.Beside.{one_each}
use Rattle.flow_progress.specs.Fitting.{CellTypes, ActorFits, ProcessFits}
use Rattle.flow_progress.proofs.States.{actor_of}
use Rattle.flow_invariants.proofs.Referenced.Onward.{IsThere, no_refs, refs, Wants, Onward, onward_on, Refers, refers_on, entry_onward, replaced_onward, gone_onward, drop_onward, filling_onward, IsOpen, push_onward}
use Rattle.flow_invariants.proofs.Referenced.Tasks.{right_kinds, agree_put}

module _ (k : ℕ) (r : RawTree) (types : CellTypes) (c : Core) (xs : Numbered Frame) (p : ProcessFits r types c xs) (up : Rising 0 c.started c.entries) (t : CellsTied c) where
  abbrev Kept : Core → Type 0
  Kept d = Onward k no_refs no_refs c xs d xs

  still : Kept c
  still = ((λ z. z), (λ s. omega arith), (λ w. w))

  -- an actor that wants a cell holds its promise
  pub wants_counts : (es : Numbered Entry) (i : ℕ) (e : Entry) → thing es i ≡ Some e → e.result ≡ Some k → 0 < in_entries PromiseSide k es
  wants_counts [] i e at own = absurd (no_thing at)
  wants_counts (x ∷ es) i e at own = by_test (nat_eq i x.0) at (λ f. wants_counts es i e f own)
    where
      by_test : (b : Bool) → (if b then Some x.1 else thing es i) ≡ Some e → (thing es i ≡ Some e → 0 < in_entries PromiseSide k es)
          → 0 < count_maybe PromiseSide k PromiseSide x.1.result + count_kept PromiseSide k x.1.suspended x.1.operands + in_entries PromiseSide k es
      by_test true f rest =
          let a = ap (count_maybe PromiseSide k PromiseSide) (ap (λ (y : Entry). y.result) (same_of f) ∙ own) in
          let b : one PromiseSide k PromiseSide k ≡ 1 = ap (λ (b : Bool). if b then 1 else 0) (same_number k) in omega (arith, a, b)
      by_test false f rest = let a = rest f in omega (arith, a)

  wants_promise : Wants k c → 0 < refs k PromiseSide c xs
  wants_promise w = let a = wants_counts c.entries w.0 w.1 w.2 w.4 in omega (arith, a)

  entries_less : in_entries PromiseSide k c.entries ≤ refs k PromiseSide c xs
  entries_less = omega arith

  -- an actor is cancelled
  cancel_by_onward : (b : Bool) (i : ℕ) (e : Entry) → thing c.entries i ≡ Some e → e.suspended ≡ b → Kept (cancel_by b i e (writes (cancel_line i) c))
  cancel_by_onward false i e at s = entry_onward k no_refs no_refs i e (marked e) (writes (cancel_line i) c) xs at (inl refl) (λ z. omega arith)
  cancel_by_onward true i e at s =
      let m = replaced_onward k no_refs i e (marked e) [] (Throw i operation_cancelled) (writes (cancel_line i) c) xs at (inl refl) (λ z. omega arith)
      (agree_put c i e (marked e) at refl t.agree) kinds p.numbered in
      (m.0, (λ s. let n = m.1 s in omega (arith, n)), m.2)
    where
      kinds : Rattle.flow_heap_refinement.specs.Leaving.RightKinds c.cells e.operands
      kinds = by_frame (thing xs i) refl
        where
          by_frame : (x : Option Frame) → thing xs i ≡ x → Rattle.flow_heap_refinement.specs.Leaving.RightKinds c.cells e.operands
          by_frame None q = absurd (subst (λ x. Rattle.flow_progress.specs.Fitting.ActorAt r types (Some e) x (tasks_of i c.tasks)) q
              (subst (λ x. Rattle.flow_progress.specs.Fitting.ActorAt r types x (thing xs i) (tasks_of i c.tasks)) at (p.actors i)))
          by_frame (Some f) q =
              let a = actor_of r types e f (thing c.entries i) (thing xs i) (tasks_of i c.tasks) at q (p.actors i) in
              let o = subst (λ b. Rattle.flow_progress.specs.Fitting.PostureFits r types b a.class e f (tasks_of i c.tasks)) s a.posture in right_kinds r types c p.cells f 0 e.operands o.2

  cancel_onward : (i : ℕ) (e : Entry) → thing c.entries i ≡ Some e → Kept (cancel i e c)
  cancel_onward i e at = cancel_by_onward e.suspended i e at refl

  -- another cell is freed, or broken
  freed_onward : (j : ℕ) (cell : Cell) → thing c.cells j ≡ Some cell → (j ≡ k → ⊥) → Kept (free_cell j (Some cell) c)
  freed_onward j cell at other =
      let d = record c { cells = removed c.cells j } in
      onward_on k no_refs (λ s. count s k (refs_in (held cell))) no_refs c xs d xs (dropping_values (held cell) d) xs (gone_onward k j cell c xs at other) (drop_onward k (held cell) d xs)

  broken_onward : (j : ℕ) (cell : Cell) (m : ℕ) → thing c.cells j ≡ Some cell → is_complete cell ≡ false
      → Kept (fill_cell j (BadOutcome broken_promise) (Some cell) (writes (broken_line j) (record c { left = m })))
  broken_onward j cell m at done =
      let d = record c { cells = put c.cells j (filled cell (BadOutcome broken_promise)) } in
      let a = filling_onward k j cell (BadOutcome broken_promise) c xs at (is_open cell done) in
      let b = push_onward k (Fire j) d xs in
      ((λ z. a.0 z), (λ s. let x = a.1 s in let y = b.1 s in omega (arith, x, y)), a.2)
    where
      is_open : (cell : Cell) → is_complete cell ≡ false → IsOpen k cell
      is_open (Single None ws) e = tt
      is_open (Single (Some o) ws) e = absurd cc
      is_open (Stream q e w) h = tt

  -- a port that nobody hears
  unheard_onward : (j port : ℕ) (cell : Cell) → thing c.cells j ≡ Some cell → port_of j c.ports ≡ Some port → (j ≡ k → ⊥) → Kept (free_cell j (Some cell) (record c { ports = removed c.ports port }))
  unheard_onward j port cell at q other =
      let there = (one_each c.ports 0 c.made t.numbers.ports port j q).0 in
      let d = record c { ports = removed c.ports port } in
      let e = record d { cells = removed c.cells j } in
      let a = gone_onward k j cell d xs at other in
      let b = drop_onward k (held cell) e xs in (
        (λ z. a.0 z),
        (λ s. let x = a.1 s in let y = b.1 s in let z = of_port_gone (proc c xs) s k port j there in let w = Rattle.flow_heap_refinement.proofs.Keeping.no_one s j k PromiseSide other in omega
            (arith, x, y, z, w)),
        (λ w. w),
      )

  -- the loss of a reference to another cell
  module _ (j : ℕ) (cell : Cell) (at : thing c.cells j ≡ Some cell) (other : j ≡ k → ⊥) (h : Refers k c xs) where
    abbrev Now : Core → Type 0
    Now d = Unless (λ d. Refers k d xs) d

    kept_now : (d : Core) → Kept d → Now d
    kept_now d f = unless d.halted (refers_on k c xs d xs f h)

    break_now : is_complete cell ≡ false → Now (break_cell j c)
    break_now q = after_turn (λ d. Refers k d xs) (λ d. fill j (BadOutcome broken_promise) (writes (broken_line j) d)) c c.left by_left
      where
        by_left : (m : ℕ) → Now (fill j (BadOutcome broken_promise) (writes (broken_line j) (record c { left = m })))
        by_left m =
            let d = writes (broken_line j) (record c { left = m }) in
            subst (λ x. Now (fill_cell j (BadOutcome broken_promise) x d)) (sym at) (kept_now (fill_cell j (BadOutcome broken_promise) (Some cell) d) (broken_onward j cell m at q))

    promises_now : (b : Bool) → is_complete cell ≡ b → Now (suffer j (promises_gone b) c)
    promises_now true q = kept_now c still
    promises_now false q = break_now q

    free_now : Now (free j c)
    free_now = subst (λ x. Now (free_cell j x c)) (sym at) (kept_now (free_cell j (Some cell) c) (freed_onward j cell at other))

    futures_now : (o : Option (ℕ × Entry)) → owner j c.entries ≡ o → (x : Option ℕ) → port_of j c.ports ≡ x → Now (suffer j (futures_gone o x) c)
    futures_now (Some o) q x e = kept_now (cancel o.0 o.1 c) (cancel_onward o.0 o.1 (entry_found j 0 c.started o c.entries up q).0)
    futures_now None q (Some port) e =
        let d = record c { ports = removed c.ports port } in
        subst (λ x. Now (free_cell j x d)) (sym at) (kept_now (free_cell j (Some cell) d) (unheard_onward j port cell at e other))
    futures_now None q None e = kept_now c still

    pub other_lost : (s : Side) (m n : ℕ) → Now (suffer j (loss s m n cell (owner j c.entries) (port_of j c.ports)) c)
    other_lost PromiseSide zero zero = free_now
    other_lost FutureSide zero zero = free_now
    other_lost PromiseSide zero (suc n) = promises_now (is_complete cell) refl
    other_lost PromiseSide (suc m) zero = kept_now c still
    other_lost PromiseSide (suc m) (suc n) = kept_now c still
    other_lost FutureSide (suc m) zero = futures_now (owner j c.entries) refl (port_of j c.ports) refl
    other_lost FutureSide zero (suc n) = kept_now c still
    other_lost FutureSide (suc m) (suc n) = kept_now c still

  -- the loss of a reference to the cell itself, of which so many are left
  module _ (cell : Cell) (at : thing c.cells k ≡ Some cell) (few : Wants k c → refs k PromiseSide c xs ≤ 1) where
    abbrev Here : Core → Type 0
    Here d = Unless (λ d. Refers k d xs) d

    -- it is gone
    gone_here : (d : Core) → d.cells ≡ removed c.cells k → (Wants k d → ⊥) → Here d
    gone_here d e none =
        unless d.halted (
          λ z. absurd (subst IsThere (removed_none c.cells 0 c.made k p.numbered) (subst (λ cs. IsThere (thing cs k)) e z)),
          λ w. absurd (none w),
        )

    no_wants : refs k PromiseSide c xs ≡ 0 → Wants k c → ⊥
    no_wants z w = let a = wants_promise w in omega (arith, a, z)

    -- nobody unmarked wants it
    unwanted : owner k c.entries ≡ None → Wants k c → ⊥
    unwanted q w = no_mark (sym (entry_unfound k w.0 w.1 c.entries q w.2 w.4) ∙ w.3)
      where
        no_mark : true ≡ false → ⊥
        no_mark z = cc

    -- whoever wanted it is marked
    cancelled_unwanted : (o : ℕ × Entry) → owner k c.entries ≡ Some o → Wants k (cancel o.0 o.1 c) → ⊥
    cancelled_unwanted o q w =
        let f = entry_found k 0 c.started o c.entries up q in
        by_suspended o.1.suspended w
      where
        found : (thing c.entries o.0 ≡ Some o.1) × (o.1.result ≡ Some k) × (o.1.marked ≡ false)
        found = entry_found k 0 c.started o c.entries up q

        wanted : Wants k c
        wanted = (o.0, o.1, found.0, found.2, found.1)

        by_entries : (e : Entry) → e.marked ≡ true → (i : ℕ) (x : Entry) → thing (put c.entries o.0 e) i ≡ Some x → x.marked ≡ false → x.result ≡ Some k → ⊥
        by_entries e m i x is unmarked own = by_test (nat_eq o.0 i) refl
          where
            no_mark : true ≡ false → ⊥
            no_mark z = cc

            by_test : (b : Bool) → nat_eq o.0 i ≡ b → ⊥
            by_test true z =
                let same : o.0 ≡ i = grind (arith, z) in
                let here = same_of (sym (subst (λ n. thing (put c.entries o.0 e) n ≡ Some e) same (thing_put c.entries o.0 o.1 e found.0)) ∙ is) in
                no_mark (sym m ∙ ap (λ (y : Entry). y.marked) here ∙ unmarked)
            by_test false z =
                let differ : o.0 ≡ i → ⊥ = (λ g. let f : ⊥ = grind (arith, z, g) in f) in
                let a = few wanted in
                differ (one_owner k o.0 i o.1 x c.entries (omega (arith, a)) found.0 (sym (thing_put_other c.entries o.0 i e differ) ∙ is) found.1 own)

        by_suspended : (b : Bool) → Wants k (cancel_by b o.0 o.1 (writes (cancel_line o.0) c)) → ⊥
        by_suspended true w = by_entries (Rattle.flow_meaning.specs.Work.running (marked o.1)) refl w.0 w.1 w.2 w.3 w.4
        by_suspended false w = by_entries (marked o.1) refl w.0 w.1 w.2 w.3 w.4

    kept_here : (d : Core) → Kept d → (IsThere (thing c.cells k) → 0 < refs k PromiseSide c xs + refs k FutureSide c xs) → (Wants k d → 0 < refs k FutureSide c xs) → Here d
    kept_here d f there wants =
        unless d.halted (
          λ z. let a = there (f.0 z) in let b = f.1 PromiseSide in let g = f.1 FutureSide in omega (arith, a, b, g),
          λ w. let a = wants w in let g = f.1 FutureSide in omega (arith, a, g),
        )

    futures_here : (m : ℕ) → refs k PromiseSide c xs ≡ suc m → (o : Option (ℕ × Entry)) → owner k c.entries ≡ o → (x : Option ℕ) → port_of k c.ports ≡ x → Here (suffer k (futures_gone o x) c)
    futures_here m a (Some o) q x e =
        kept_here (cancel o.0 o.1 c) (cancel_onward o.0 o.1 (entry_found k 0 c.started o c.entries up q).0) (λ z. omega (arith, a)) (λ w. absurd (cancelled_unwanted o q w))
    futures_here m a None q (Some port) e =
        let d = record c { ports = removed c.ports port } in
        subst (λ x. Here (free_cell k x d)) (sym at) (gone_here (free_cell k (Some cell) d) refl (unwanted q))
    futures_here m a None q None e = kept_here c still (λ z. omega (arith, a)) (λ w. absurd (unwanted q w))

    free_here : refs k PromiseSide c xs ≡ 0 → Here (free k c)
    free_here z = subst (λ x. Here (free_cell k x c)) (sym at) (gone_here (free_cell k (Some cell) c) refl (no_wants z))

    break_here : (n : ℕ) → refs k FutureSide c xs ≡ suc n → is_complete cell ≡ false → Here (break_cell k c)
    break_here n b q = after_turn (λ d. Refers k d xs) (λ d. fill k (BadOutcome broken_promise) (writes (broken_line k) d)) c c.left by_left
      where
        by_left : (m : ℕ) → Here (fill k (BadOutcome broken_promise) (writes (broken_line k) (record c { left = m })))
        by_left m =
            let d = writes (broken_line k) (record c { left = m }) in
            subst (λ x. Here (fill_cell k (BadOutcome broken_promise) x d)) (sym at)
            (kept_here (fill_cell k (BadOutcome broken_promise) (Some cell) d) (broken_onward k cell m at q) (λ z. omega (arith, b)) (λ w. omega (arith, b)))

    promises_here : (n : ℕ) → refs k FutureSide c xs ≡ suc n → (b : Bool) → is_complete cell ≡ b → Here (suffer k (promises_gone b) c)
    promises_here n b true q = kept_here c still (λ z. omega (arith, b)) (λ w. omega (arith, b))
    promises_here n b false q = break_here n b q

    -- a promise that is lost takes no future
    pub own_lost : (s : Side) (m n : ℕ) → refs k PromiseSide c xs ≡ m → refs k FutureSide c xs ≡ n → (s ≡ PromiseSide → Wants k c → 0 < refs k FutureSide c xs)
        → Here (suffer k (loss s m n cell (owner k c.entries) (port_of k c.ports)) c)
    own_lost PromiseSide zero zero a b h = free_here a
    own_lost FutureSide zero zero a b h = free_here a
    own_lost PromiseSide zero (suc n) a b h = promises_here n b (is_complete cell) refl
    own_lost PromiseSide (suc m) zero a b h = kept_here c still (λ z. omega (arith, a)) (h refl)
    own_lost PromiseSide (suc m) (suc n) a b h = kept_here c still (λ z. omega (arith, a)) (λ w. omega (arith, b))
    own_lost FutureSide (suc m) zero a b h = futures_here m a (owner k c.entries) refl (port_of k c.ports) refl
    own_lost FutureSide zero (suc n) a b h = kept_here c still (λ z. omega (arith, b)) (λ w. omega (arith, b))
    own_lost FutureSide (suc m) (suc n) a b h = kept_here c still (λ z. omega (arith, a)) (λ w. omega (arith, b))
