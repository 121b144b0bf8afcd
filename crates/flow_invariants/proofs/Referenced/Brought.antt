-- What is brought to a process leaves each cell with a reference.
use Rattle.std.proofs.Common.{◌≡◌, ℕ, suc, ◌+◌, ◌≤◌, nat_eq, Bool, true, false, [], ◌∷◌, refl, sym, ap, subst, ◌∙◌, arith}
use Rattle.std.specs.Prelude.{pos, List}
use Rattle.std.specs.declared.option.Option.{Option}
use Rattle.std.specs.declared.option.Option.TheVariants.{None, Some}
use Rattle.flow_value.specs.declared.value.Kind.TheVariants as kind
use Rattle.flow_value.specs.Values.{ValueTree, IntValue, OutcomeTree, GoodOutcome}
use Rattle.flow_class.specs.Classes.{RawTree}
use Rattle.flow_numbered.specs.Numbered.{Numbered, thing, added, put}
use Rattle.flow_meaning.specs.Cells.{Side, PromiseSide, FutureSide, Cell, Single, Stream, filled}
use Rattle.flow_meaning.specs.Process.{Drop, Fire, Core, Proc}
use Rattle.flow_meaning.specs.References.{one, count_maybe, in_task}
use Rattle.flow_meaning.specs.Orderly.{Rising}
use Rattle.flow_meaning.specs.Work.{pushed, new_cell, fill_cell, fill}
use Rattle.flow_meaning.specs.Step.{proc, entry_of, enrol}
use Rattle.flow_meaning.specs.Deliver.{boot, boot_with, stop, stop_main, deliver, arrive, closed_request}
use Rattle.flow_meaning.specs.Frame.{Frame}
use Rattle.flow_meaning.specs.Class.{classes}
use Rattle.flow_meaning.proofs.Posture.{Unless, unless, after_turn, thing_added}
use Rattle.flow_meaning.proofs.TaskShifts.{beyond_none, thing_new}
use Rattle.flow_meaning.proofs.Shifts.{same_of}
use Rattle.flow_heap_refinement.specs.Rested.{has, IsUnset, IsStream}
use Rattle.flow_heap_refinement.proofs.Referring.{of_new_cell, of_new_actor, of_answered}
use Rattle.flow_invariants.proofs.Referenced.Onward.{IsThere, refs, Wants, Refers, refers_on, push_onward, filling_onward, IsOpen}
use Rattle.flow_invariants.proofs.Referenced.Acts.{one_side}

module _ (k : ℕ) where
  unset_open : (cell : Cell) → IsUnset (Some cell) → IsOpen k cell
  unset_open (Single None ws) h = tt
  unset_open (Single (Some o) ws) h = absurd h
  unset_open (Stream q e w) h = absurd h

  stream_open : (cell : Cell) → IsStream (Some cell) → IsOpen k cell
  stream_open (Single o ws) h = absurd h
  stream_open (Stream q e w) h = tt

  fill_on : (j : ℕ) (o : OutcomeTree) (c : Core) (ys : Numbered Frame) → ((cell : Cell) → thing c.cells j ≡ Some cell → IsOpen k cell) → Refers k c ys → Unless (λ d. Refers k d ys) (fill j o c)
  fill_on j o c ys is_free h = by_cell (thing c.cells j) refl
    where
      by_cell : (x : Option Cell) → thing c.cells j ≡ x → Unless (λ d. Refers k d ys) (fill_cell j o x c)
      by_cell None q = tt
      by_cell (Some cell) q =
          let x = filling_onward k j cell o c ys q (is_free cell q) in
          let y = push_onward k (Fire j) (record c { cells = put c.cells j (filled cell o) }) ys in
          unless c.halted (refers_on k c ys (fill_cell j o (Some cell) c) ys ((λ z. x.0 z), (λ s. let a = x.1 s in let b = y.1 s in omega (arith, a, b)), (λ w. w)) h)

  pub deliver_refers : (j : ℕ) (o : OutcomeTree) (c : Core) (ys : Numbered Frame) → has j c.requests ≡ true → IsUnset (thing c.cells j) → Refers k c ys → Unless (λ d. Refers k d ys) (deliver j o c)
  deliver_refers j o c ys there unset h =
      let e = record c { requests = closed_request j c.requests } in
      let d = pushed (Drop kind.Promise j) e in
      let g = refers_on k c ys d ys ((λ z. z), (λ s. let a = of_answered (proc c ys) s k j there in let b = (push_onward k (Drop kind.Promise j) e ys).1 s in omega (arith, a, b)), (λ w. w)) h in
      after_turn (λ d. Refers k d ys) (λ d. fill j o d) d c.left (λ n. fill_on j o (record d { left = n }) ys (λ cell at. unset_open cell (subst IsUnset at unset)) g)

  pub arrive_refers : (j : ℕ) (v : ValueTree) (c : Core) (ys : Numbered Frame) → IsStream (thing c.cells j) → Refers k c ys → Unless (λ d. Refers k d ys) (arrive j v c)
  arrive_refers j v c ys stream h = after_turn (λ d. Refers k d ys) (λ d. fill j (GoodOutcome v) d) c c.left
      (λ n. fill_on j (GoodOutcome v) (record c { left = n }) ys (λ cell at. stream_open cell (subst IsStream at stream)) h)

  -- `main` is called, and the process refers to its result
  module _ (class : ℕ) (name : List ℕ) (a : Frame) (c : Core) (ys : Numbered Frame) (none : c.main ≡ None) (up : Rising 0 c.started c.entries) (h : Refers k c ys) where
    abbrev held : Core
    held = record (enrol class name c) { main = Some (suc c.made) }

    more : (s : Side) → refs k s c ys + one s k FutureSide (suc c.made) ≤ refs k s held (added ys (suc c.started) a)
    more s =
        let m = of_new_cell (proc c ys) s k (Single None []) in
        let n = of_new_actor (proc (new_cell (Single None []) c) ys) s k (suc c.started) (entry_of class (Some (suc c.made))) a in
        let z = ap (count_maybe s k FutureSide) none in omega (arith, m, n, z)

    before : (suc c.made ≡ k → ⊥) → Wants k held → Wants k c
    before other w = by_number (nat_eq (suc c.started) w.0) refl
      where
        by_number : (b : Bool) → nat_eq (suc c.started) w.0 ≡ b → Wants k c
        by_number true q =
            let same : suc c.started ≡ w.0 = grind (arith, q) in
            let e = entry_of class (Some (suc c.made)) in
            let new = thing_new c.entries (suc c.started) e (beyond_none c.entries 0 c.started (suc c.started) up (omega arith)) in
            let is = same_of (sym (subst (λ n. thing (added c.entries (suc c.started) e) n ≡ Some e) same new) ∙ w.2) in
            absurd (other (same_of (ap (λ (x : Rattle.flow_meaning.specs.Process.Entry). x.result) is ∙ w.4)))
        by_number false q =
            let differ : suc c.started ≡ w.0 → ⊥ = (λ z. let f : ⊥ = grind (arith, q, z) in f) in
            (w.0, w.1, sym (thing_added c.entries (suc c.started) w.0 (entry_of class (Some (suc c.made))) differ) ∙ w.2, w.3, w.4)

    held_refers : Refers k held (added ys (suc c.started) a)
    held_refers = by_test (nat_eq (suc c.made) k) refl
      where
        by_test : (b : Bool) → nat_eq (suc c.made) k ≡ b → Refers k held (added ys (suc c.started) a)
        by_test true q =
            let same : suc c.made ≡ k = grind (arith, q) in
            let x : one FutureSide k FutureSide (suc c.made) ≡ 1 = let z : one PromiseSide k FutureSide (suc c.made) ≡ 0 = refl in let y =
            one_side k FutureSide (suc c.made) same in omega (arith, y, z) in
            let b = more FutureSide in ((λ z. omega (arith, x, b)), (λ w. omega (arith, x, b)))
        by_test false q =
            let other : suc c.made ≡ k → ⊥ = (λ z. let f : ⊥ = grind (arith, q, z) in f) in
            let x = more PromiseSide in
            let b = more FutureSide in (
              λ z. let n = h.0 (subst IsThere (thing_added c.cells (suc c.made) k (Single None []) other) z) in omega (arith, x, b, n),
              λ w. let n = h.1 (before other w) in omega (arith, b, n),
            )

  pub boot_refers : (r : RawTree) (me : ℕ) (p : Proc Frame) → p.core.main ≡ None → Rising 0 p.core.started p.core.entries → Refers k p.core p.actors
      → Unless (λ d. Refers k d (boot (classes r) me p).actors) (boot (classes r) me p).core
  boot_refers r me p none up h = by_frame ((classes r).fresh (classes r).main (IntValue (pos me) ∷ []))
    where
      by_frame : (x : Option Frame) → Unless (λ d. Refers k d (boot_with (classes r) x p).actors) (boot_with (classes r) x p).core
      by_frame None = tt
      by_frame (Some f) =
          let e = classes r in
          after_turn (λ d. Refers k d (added p.actors (suc p.core.started) f)) (λ d. record (enrol e.main (e.label e.main) d) { main = Some (suc d.made) }) p.core p.core.left
          (λ n. unless p.core.halted (held_refers e.main (e.label e.main) f (record p.core { left = n }) p.actors none up h))

  pub stop_refers : (c : Core) (ys : Numbered Frame) → Refers k c ys → Refers k (stop c) ys
  stop_refers c ys h = by_main c.main refl
    where
      by_main : (x : Option ℕ) → c.main ≡ x → Refers k (stop_main x c) ys
      by_main None q = h
      by_main (Some j) q =
          refers_on k c ys (stop_main (Some j) c) ys (
            (λ z. z),
            (λ s. let a = ap (count_maybe s k FutureSide) q in let b : in_task s k (Drop kind.Future j)
                ≡ one s k FutureSide j = refl in omega (arith, a, b)),
            (λ w. w),
          ) h
