-- A drop, and a fire that ends, leave each cell with a reference.
use Rattle.std.proofs.Common.{◌≡◌, ℕ, ◌+◌, ◌≤◌, nat_eq, Bool, true, false, List, ◌∷◌, refl, sym, ap, subst, arith}
use Rattle.std.specs.declared.option.Option.{Option}
use Rattle.std.specs.declared.option.Option.TheVariants.{None, Some}
use Rattle.flow_value.specs.declared.value.Kind.{Kind}
use Rattle.flow_class.specs.Classes.{RawTree}
use Rattle.flow_numbered.specs.Numbered.{Numbered, thing}
use Rattle.flow_meaning.specs.Cells.{Side, PromiseSide, FutureSide, side_of, Cell}
use Rattle.flow_meaning.specs.Process.{Task, Drop, Core}
use Rattle.flow_meaning.specs.References.{reference_count, one, in_task}
use Rattle.flow_meaning.specs.Orderly.{Orderly, tasks_of}
use Rattle.flow_meaning.specs.Dropping.{lose_cell, lose_ref, drop, suffer, loss, port_of}
use Rattle.flow_meaning.specs.Work.{owner}
use Rattle.flow_meaning.specs.Step.{proc}
use Rattle.flow_meaning.specs.Frame.{Frame}
use Rattle.flow_meaning.proofs.Posture.{Unless, after_turn}
use Rattle.flow_heap_refinement.specs.Counted.{frames_hold}
use Rattle.flow_heap_refinement.specs.CellsTied.{CellsTied}
use Rattle.flow_heap_refinement.proofs.Keeping.{no_one}
use Rattle.flow_heap_refinement.proofs.Referring.{of_popped}
use Rattle.flow_progress.specs.Alone.{ResultsAlone}
use Rattle.flow_progress.specs.Fitting.{CellTypes, ActorAt, TasksFit, ProcessFits}
use Rattle.flow_invariants.proofs.Referenced.Onward.{refs, Wants, Refers}
use Rattle.flow_invariants.proofs.Referenced.Losses.{other_lost, own_lost}

module _ (k : ℕ) (r : RawTree) (types : CellTypes) (c : Core) (xs : Numbered Frame) (o : Orderly c) (p : ProcessFits r types c xs) (t : CellsTied c) (results : ResultsAlone c xs) (ts : List Task)
    (h : Refers k c xs) where
  -- the newest task is off, which is no actor's
  abbrev off : ℕ → Core
  off n = record c { tasks = ts; left = n }

  pub off_fits : (n : ℕ) → TasksFit r types ts → ((i : ℕ) → tasks_of i c.tasks ≡ tasks_of i ts) → ProcessFits r types (off n) xs
  off_fits n work same = record {
    cells = p.cells;
    waiting = p.waiting;
    actors = λ i. subst (ActorAt r types (thing c.entries i) (thing xs i)) (same i) (p.actors i);
    work = work;
    ports = p.ports;
    main = p.main;
    requests = p.requests;
    numbered = p.numbered;
    framed = p.framed;
    registered = p.registered;
  }

  off_tied : (n : ℕ) → CellsTied (off n)
  off_tied n = let m = t.numbers in record { agree = t.agree; numbers = record { ports = m.ports; cells = m.cells; requests = m.requests }; once = t.once }

  module _ (s : Side) (j : ℕ) (u : Task) (top : c.tasks ≡ u ∷ ts) (held : (z : Side) → in_task z k u ≡ one z k s j) (n : ℕ) (q : ProcessFits r types (off n) xs) where
    popped : (z : Side) → refs k z c xs ≡ one z k s j + refs k z (off n) xs
    popped z = let a = of_popped (proc c xs) z k u ts top in let b = held z in omega (arith, a, b)

    few : Wants k (off n) → refs k PromiseSide (off n) xs ≤ 1
    few w = let a = popped PromiseSide in let b = results w.0 k w.1 w.2 w.4 in omega (arith, a, b)

    no_future : s ≡ PromiseSide → one FutureSide k s j ≡ 0
    no_future e = subst (λ z. one FutureSide k z j ≡ 0) (sym e) refl

    others : (j ≡ k → ⊥) → Refers k (off n) xs
    others other = (
      λ z. let a = popped PromiseSide in
          let b = popped FutureSide in
          let d = no_one PromiseSide j k s other in
          let e = no_one FutureSide j k s other in
          let g = h.0 z in omega (arith, a, b, d, e, g),
      λ w. let b = popped FutureSide in let e = no_one FutureSide j k s other in let g = h.1 w in omega (arith, b, e, g),
    )

    pub lose_refers : Unless (λ d. Refers k d xs) (lose_ref (frames_hold xs) s j (off n))
    lose_refers = by_cell (thing c.cells j) refl
      where
        by_number : (cell : Cell) → thing c.cells j ≡ Some cell → (b : Bool) → nat_eq j k ≡ b
            → Unless (λ d. Refers k d xs) (suffer j (loss s (reference_count (frames_hold xs) PromiseSide j (off n)) (reference_count (frames_hold xs) FutureSide j (off n)) cell (owner j c.entries)
            (port_of j c.ports)) (off n))
        by_number cell at true e =
            let same : j ≡ k = grind (arith, e) in
            subst (λ z. Unless (λ d. Refers k d xs) (suffer z (loss s (reference_count (frames_hold xs) PromiseSide z (off n)) (reference_count (frames_hold xs) FutureSide z (off n)) cell
            (owner z c.entries) (port_of z c.ports)) (off n))) (sym same)
            (own_lost k r types (off n) xs q o.numbered (off_tied n) cell (subst (λ z. thing c.cells z ≡ Some cell) same at) few s (refs k PromiseSide (off n) xs)
            (refs k FutureSide (off n) xs) refl refl
            (λ e w. let a = popped FutureSide in let b = no_future e in let g = h.1 w in omega (arith, a, b, g)))
        by_number cell at false e =
            let other : j ≡ k → ⊥ = (λ z. let f : ⊥ = grind (arith, e, z) in f) in
            other_lost k r types (off n) xs q o.numbered (off_tied n) j cell at other (others other) s (reference_count (frames_hold xs) PromiseSide j (off n))
            (reference_count (frames_hold xs) FutureSide j (off n))

        by_cell : (x : Option Cell) → thing c.cells j ≡ x → Unless (λ d. Refers k d xs) (lose_cell (frames_hold xs) s j x (off n))
        by_cell None q = tt
        by_cell (Some cell) q = by_number cell q (nat_eq j k) refl

  -- a drop
  pub drop_refers : (kd : Kind) (j : ℕ) → c.tasks ≡ Drop kd j ∷ ts → Unless (λ d. Refers k d xs) (drop (frames_hold xs) kd j (record c { tasks = ts }))
  drop_refers kd j top =
      after_turn (λ d. Refers k d xs) (λ d. lose_ref (frames_hold xs) (side_of kd) j d) (record c { tasks = ts }) c.left
      (λ n. lose_refers (side_of kd) j (Drop kd j) top (λ z. refl) n (off_fits n (subst (TasksFit r types) top p.work).1 (λ i. ap (tasks_of i) top)))
