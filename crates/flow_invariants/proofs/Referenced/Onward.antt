-- One cell and its references, from one state of a process to a later one.
use Rattle.std.proofs.Common.{◌≡◌, ◌⊎◌, inl, inr, ℕ, ◌+◌, ◌<◌, ◌≤◌, nat_eq, Bool, true, false, List, [], ◌∷◌, refl, sym, ap, subst, ◌∙◌, arith}
use Rattle.std.specs.Option.{option_map}
use Rattle.std.specs.declared.option.Option.{Option}
use Rattle.std.specs.declared.option.Option.TheVariants.{None, Some}
use Rattle.flow_value.specs.Values.{ValueTree, OutcomeTree, GoodOutcome, BadOutcome}
use Rattle.flow_numbered.specs.Numbered.{Numbered, thing, put, removed}
use Rattle.flow_meaning.specs.Cells.{Side, PromiseSide, FutureSide, Waiter, Cell, Single, Stream, waiters, held, filled, taken, after_taking, left_by}
use Rattle.flow_meaning.specs.Process.{Task, Entry, Core, Proc}
use Rattle.flow_meaning.specs.References.{refs_in, value_in, count, count_waiters, in_task}
use Rattle.flow_meaning.specs.Orderly.{Rising}
use Rattle.flow_meaning.specs.Work.{pushed, dropping_values, running, leave_for, left_cells}
use Rattle.flow_meaning.specs.Step.{proc}
use Rattle.flow_meaning.specs.Frame.{Frame}
use Rattle.flow_meaning.proofs.Posture.{thing_put, thing_put_other, thing_removed_other}
use Rattle.flow_meaning.proofs.Shifts.{same_of}
use Rattle.flow_heap_refinement.specs.Counted.{references, Agree}
use Rattle.flow_heap_refinement.specs.References.{cell_holds, entry_holds, frame_holds}
use Rattle.flow_heap_refinement.specs.Leaving.{RightKinds}
use Rattle.flow_heap_refinement.proofs.Left.{found_left, put_twice}
use Rattle.flow_heap_refinement.proofs.Sums.{refs_joined}
use Rattle.flow_heap_refinement.proofs.Referring.{of_pushed, of_popped, of_values, of_cell, of_gone, of_entry, of_frame, of_left}

abbrev pub IsThere : Option Cell → Type 0
IsThere None = ⊥
IsThere (Some c) = Unit {0}

-- nothing in hand
abbrev pub no_refs : Side → ℕ
no_refs s = 0

module _ (k : ℕ) where
  abbrev pub refs : Side → Core → Numbered Frame → ℕ
  refs s c xs = references s k (proc c xs)

  -- an unfinished actor that isn't marked, whose result the cell is
  abbrev pub Wants : Core → Type 0
  Wants c = (i : ℕ) × (e : Entry) × (thing c.entries i ≡ Some e) × (e.marked ≡ false) × (e.result ≡ Some k)

  -- With these references in hand before and those after: the cell is there only where it was, no reference is lost, and an
  -- actor wants it only where one did.
  abbrev pub Onward : (a b : Side → ℕ) (c : Core) (xs : Numbered Frame) (d : Core) (ys : Numbered Frame) → Type 0
  Onward a b c xs d ys = (IsThere (thing d.cells k) → IsThere (thing c.cells k)) × ((s : Side) → refs s c xs + a s ≤ refs s d ys + b s) × (Wants d → Wants c)

  pub onward_on : (a b g : Side → ℕ) (c : Core) (xs : Numbered Frame) (d : Core) (ys : Numbered Frame) (e : Core) (zs : Numbered Frame) → Onward a b c xs d ys → Onward b g d ys e zs
      → Onward a g c xs e zs
  onward_on a b g c xs d ys e zs f h = (
    λ t. f.0 (h.0 t),
    λ s. let m = f.1 s in let n = h.1 s in omega (arith, m, n),
    λ w. f.2 (h.2 w),
  )

  -- what is more in hand before and after
  pub onward_more : (a b g : Side → ℕ) (c : Core) (xs : Numbered Frame) (d : Core) (ys : Numbered Frame) → Onward a b c xs d ys → Onward (λ s. a s + g s) (λ s. b s + g s) c xs d ys
  onward_more a b g c xs d ys f = (f.0, λ s. let m = f.1 s in omega (arith, m), f.2)

  pub push_onward : (t : Task) (c : Core) (xs : Numbered Frame) → Onward (λ s. in_task s k t) no_refs c xs (pushed t c) xs
  push_onward t c xs = (
    λ t. t,
    λ s. let m = of_pushed (proc c xs) s k t in omega (arith, m),
    λ w. w,
  )

  pub pop_onward : (t : Task) (ts : List Task) (c : Core) (xs : Numbered Frame) → c.tasks ≡ t ∷ ts → Onward no_refs (λ s. in_task s k t) c xs (record c { tasks = ts }) xs
  pop_onward t ts c xs e = (
    λ t. t,
    λ s. let m = of_popped (proc c xs) s k t ts e in omega (arith, m),
    λ w. w,
  )

  pub drop_onward : (vs : List ValueTree) (c : Core) (xs : Numbered Frame) → Onward (λ s. count s k (refs_in vs)) no_refs c xs (dropping_values vs c) xs
  drop_onward vs c xs = (
    λ t. t,
    λ s. let m = of_values (proc c xs) s k vs in omega (arith, m),
    λ w. w,
  )

  pub frame_onward : (a b : Side → ℕ) (i : ℕ) (f g : Frame) (c : Core) (xs : Numbered Frame) → thing xs i ≡ Some f → ((s : Side) → frame_holds s k f + a s ≤ frame_holds s k g + b s)
      → Onward a b c xs c (put xs i g)
  frame_onward a b i f g c xs at h = (
    λ t. t,
    λ s. let m = of_frame (proc c xs) s k i f g at in let n = h s in omega (arith, m, n),
    λ w. w,
  )

  -- an entry is replaced by one that is marked or wants the same
  entry_wants : (i : ℕ) (e0 e : Entry) (c d : Core) → d.entries ≡ put c.entries i e → thing c.entries i ≡ Some e0 → (e.marked ≡ true) ⊎ ((e.marked ≡ e0.marked) × (e.result ≡ e0.result)) → Wants d
      → Wants c
  entry_wants i e0 e c d same at how w = by_test (nat_eq i w.0) refl
    where
      here : thing (put c.entries i e) w.0 ≡ Some w.1
      here = subst (λ es. thing es w.0 ≡ Some w.1) same w.2

      by_how : w.1 ≡ e → (e.marked ≡ true) ⊎ ((e.marked ≡ e0.marked) × (e.result ≡ e0.result)) → Wants c
      by_how q (inl m) = absurd (no_mark (sym m ∙ sym (ap (λ (x : Entry). x.marked) q) ∙ w.3))
        where
          no_mark : true ≡ false → ⊥
          no_mark z = cc
      by_how q (inr m) = (i, e0, at, sym m.0 ∙ sym (ap (λ (x : Entry). x.marked) q) ∙ w.3, sym m.1 ∙ sym (ap (λ (x : Entry). x.result) q) ∙ w.4)

      by_test : (b : Bool) → nat_eq i w.0 ≡ b → Wants c
      by_test true q =
          let z : i ≡ w.0 = grind (arith, q) in
          by_how (same_of (sym here ∙ subst (λ n. thing (put c.entries i e) n ≡ Some e) z (thing_put c.entries i e0 e at))) how
      by_test false q =
          let o : i ≡ w.0 → ⊥ = (λ z. let f : ⊥ = grind (arith, q, z) in f) in
          (w.0, w.1, sym (thing_put_other c.entries i w.0 e o) ∙ here, w.3, w.4)

  pub entry_onward : (a b : Side → ℕ) (i : ℕ) (e0 e : Entry) (c : Core) (xs : Numbered Frame) → thing c.entries i ≡ Some e0 → (e.marked ≡ true) ⊎ ((e.marked ≡ e0.marked) × (e.result ≡ e0.result))
      → ((s : Side) → entry_holds s k e0 + a s ≤ entry_holds s k e + b s) → Onward a b c xs (record c { entries = put c.entries i e }) xs
  entry_onward a b i e0 e c xs at how h = (
    λ t. t,
    λ s. let m = of_entry (proc c xs) s k i e0 e at in let n = h s in omega (arith, m, n),
    entry_wants i e0 e c (record c { entries = put c.entries i e }) refl at how,
  )

  -- an actor leaves its wait
  left_there : (i : ℕ) (c : Core) → IsThere (thing (left_cells i c.cells) k) → IsThere (thing c.cells k)
  left_there i c h = by_cell (thing c.cells k) (subst IsThere (found_left i c.cells k) h)
    where
      by_cell : (x : Option Cell) → IsThere (option_map (left_by i) x) → IsThere x
      by_cell None z = z
      by_cell (Some cell) z = tt

  pub leave_onward : (i : ℕ) (e : Entry) (vs : List ValueTree) (t : Task) (c : Core) (xs : Numbered Frame) → thing c.entries i ≡ Some e → Agree c → RightKinds c.cells e.operands
      → Rising 0 c.made c.cells
      → Onward (λ s. count s k (refs_in vs) + in_task s k t) no_refs c xs (leave_for i e vs t c) xs
  leave_onward i e vs t c xs at agree kinds up =
      let d = dropping_values vs (pushed t c) in (
        left_there i c,
        λ s.
            let m = of_left (proc d xs) s k i e at agree kinds up in
            let n = of_values (proc (pushed t c) xs) s k vs in
            let l = of_pushed (proc c xs) s k t in omega (arith, m, n, l),
        entry_wants i e (running e) c (leave_for i e vs t c) refl at (inr (refl, refl)),
      )

  -- an entry that is replaced, and leaves
  pub replaced_onward : (g : Side → ℕ) (i : ℕ) (e0 e : Entry) (vs : List ValueTree) (t : Task) (c : Core) (xs : Numbered Frame) → thing c.entries i ≡ Some e0
      → (e.marked ≡ true) ⊎ ((e.marked ≡ e0.marked) × (e.result ≡ e0.result))
      → ((s : Side) → entry_holds s k e0 + g s ≤ entry_holds s k e) → Agree (record c { entries = put c.entries i e }) → RightKinds c.cells e.operands → Rising 0 c.made c.cells
      → Onward (λ s. g s + (count s k (refs_in vs) + in_task s k t)) no_refs c xs (leave_for i e vs t c) xs
  replaced_onward g i e0 e vs t c xs at how h agree kinds up =
      let d = record c { entries = put c.entries i e } in
      let a : Side → ℕ = λ s. count s k (refs_in vs) + in_task s k t in
      let first = entry_onward g no_refs i e0 e c xs at how (λ s. let m = h s in omega (arith, m)) in
      let second = leave_onward i e vs t d xs (thing_put c.entries i e0 e at) agree kinds up in
      let both = onward_on (λ s. g s + a s) a no_refs c xs d xs (leave_for i e vs t d) xs
      ((first.0, λ s. let m = first.1 s in omega (arith, m), first.2)) second in
      subst (λ es. Onward (λ s. g s + a s) no_refs c xs (record (leave_for i e vs t c) { entries = es }) xs) (put_twice c.entries i e (running e)) both

  -- a cell is replaced
  pub cell_onward : (a b : Side → ℕ) (j : ℕ) (cell new : Cell) (c : Core) (xs : Numbered Frame) → thing c.cells j ≡ Some cell → ((s : Side) → cell_holds s k j cell + a s ≤ cell_holds s k j new + b s)
      → Onward a b c xs (record c { cells = put c.cells j new }) xs
  cell_onward a b j cell new c xs at h = (
    put_there,
    λ s. let m = of_cell (proc c xs) s k j cell new at in let n = h s in omega (arith, m, n),
    λ w. w,
  )
    where
      put_there : IsThere (thing (put c.cells j new) k) → IsThere (thing c.cells k)
      put_there h = by_test (nat_eq j k) refl
        where
          by_test : (b : Bool) → nat_eq j k ≡ b → IsThere (thing c.cells k)
          by_test true q = let z : j ≡ k = grind (arith, q) in subst (λ n. IsThere (thing c.cells n)) z (subst IsThere (sym at) tt)
          by_test false q = subst IsThere (thing_put_other c.cells j k new (λ z. let f : ⊥ = grind (arith, q, z) in f)) h

  -- a cell is taken from
  pub taking_onward : (j : ℕ) (cell : Cell) (o : OutcomeTree) (c : Core) (xs : Numbered Frame) → thing c.cells j ≡ Some cell → taken cell ≡ Some o
      → Onward no_refs (λ s. in_task s k (Rattle.flow_meaning.specs.Process.Give 0 0 o)) c xs (record c { cells = put c.cells j (after_taking cell) }) xs
  taking_onward j cell o c xs at got = cell_onward no_refs (λ s. count s k (refs_in (value_in o))) j cell (after_taking cell) c xs at (λ s. by_cell s cell got)
    where
      by_cell : (s : Side) (cell : Cell) → taken cell ≡ Some o → cell_holds s k j cell + 0 ≤ cell_holds s k j (after_taking cell) + count s k (refs_in (value_in o))
      by_cell s (Single content ws) got = omega arith
      by_cell s (Stream [] end w) got = omega arith
      by_cell s (Stream (v ∷ vs) end w) got =
          let same : GoodOutcome v ≡ o = same_of got in
          let m = ap (λ z. count s k (refs_in (value_in z))) same in
          let n = refs_joined s k (v ∷ []) vs in omega (arith, m, n)

  -- a cell that holds nothing to be lost gets content
  abbrev pub IsOpen : Cell → Type 0
  IsOpen (Single None ws) = Unit {0}
  IsOpen (Single (Some o) ws) = ⊥
  IsOpen (Stream q e w) = Unit {0}

  pub filling_onward : (j : ℕ) (cell : Cell) (o : OutcomeTree) (c : Core) (xs : Numbered Frame) → thing c.cells j ≡ Some cell → IsOpen cell
      → Onward (λ s. count s k (refs_in (value_in o))) no_refs c xs (record c { cells = put c.cells j (filled cell o) }) xs
  filling_onward j cell o c xs at free = cell_onward (λ s. count s k (refs_in (value_in o))) no_refs j cell (filled cell o) c xs at (λ s. by_cell s cell o free)
    where
      by_cell : (s : Side) (cell : Cell) (o : OutcomeTree) → IsOpen cell → cell_holds s k j cell + count s k (refs_in (value_in o)) ≤ cell_holds s k j (filled cell o) + 0
      by_cell s (Single None ws) (GoodOutcome v) free = omega arith
      by_cell s (Single None ws) (BadOutcome e) free = omega arith
      by_cell s (Single (Some x) ws) o free = absurd free
      by_cell s (Stream q e w) (GoodOutcome v) free = let m = refs_joined s k q (v ∷ []) in omega (arith, m)
      by_cell s (Stream q e w) (BadOutcome n) free = omega arith

  -- a cell is removed, which is another
  pub gone_onward : (j : ℕ) (cell : Cell) (c : Core) (xs : Numbered Frame) → thing c.cells j ≡ Some cell → (j ≡ k → ⊥)
      → Onward no_refs (λ s. count s k (refs_in (held cell))) c xs (record c { cells = removed c.cells j }) xs
  gone_onward j cell c xs at other = (
    λ h. subst IsThere (thing_removed_other c.cells j k other) h,
    λ s.
        let m = of_gone (proc c xs) s k j cell at in
        let n = none_waits s (waiters cell) in omega (arith, m, n),
    λ w. w,
  )
    where
      none_waits : (s : Side) (ws : List Waiter) → count_waiters s k j ws ≡ 0
      none_waits s [] = refl
      none_waits s (w ∷ ws) =
          let a = none_waits s ws in
          let b = Rattle.flow_heap_refinement.proofs.Keeping.no_one s j k FutureSide other in omega (arith, a, b)

  -- the cell has a reference where it is there, and a future where an actor wants it
  abbrev pub Refers : Core → Numbered Frame → Type 0
  Refers c xs = (IsThere (thing c.cells k) → 0 < refs PromiseSide c xs + refs FutureSide c xs) × (Wants c → 0 < refs FutureSide c xs)

  pub refers_on : (c : Core) (xs : Numbered Frame) (d : Core) (ys : Numbered Frame) → Onward no_refs no_refs c xs d ys → Refers c xs → Refers d ys
  refers_on c xs d ys f h = (
    λ t. let m = f.1 PromiseSide in let n = f.1 FutureSide in let a = h.0 (f.0 t) in omega (arith, m, n, a),
    λ w. let n = f.1 FutureSide in let a = h.1 (f.2 w) in omega (arith, n, a),
  )

  -- one task for another
  pub swap_onward : (u v : Task) (c : Core) (xs : Numbered Frame) → ((s : Side) → in_task s k u ≤ in_task s k v) → Onward (λ s. in_task s k u) no_refs c xs (pushed v c) xs
  swap_onward u v c xs h = (λ t. t, λ s. let m = of_pushed (proc c xs) s k v in let n = h s in omega (arith, m, n), λ w. w)

  -- values that are dropped below a task
  pub drop_push_onward : (vs : List ValueTree) (u : Task) (c : Core) (xs : Numbered Frame) → Onward (λ s. count s k (refs_in vs) + in_task s k u) no_refs c xs (dropping_values vs (pushed u c)) xs
  drop_push_onward vs u c xs = (
    λ t. t,
    λ s. let m = of_values (proc (pushed u c) xs) s k vs in let n = of_pushed (proc c xs) s k u in omega (arith, m, n),
    λ w. w,
  )
