-- The references of a process after each thing that it does.
use Rattle.std.proofs.Common.{◌≡◌, ℕ, suc, ◌+◌, nat_eq, Bool, true, false, List, [], ◌∷◌, ◌++◌, if◌then◌else◌, refl, sym, ap, ◌∙◌, arith}
use Rattle.std.specs.Prelude.{◌&&◌}
use Rattle.std.proofs.lemmas.Bool.Decides.{nat_tests}
use Rattle.std.specs.declared.option.Option.{Option}
use Rattle.std.specs.declared.option.Option.TheVariants.{None, Some}
use Rattle.flow_value.specs.Values.{OutcomeTree, GoodOutcome, BadOutcome}
use Rattle.flow_numbered.specs.Numbered.{Numbered, thing, added, put, removed}
use Rattle.flow_meaning.specs.Cells.{Side, PromiseSide, FutureSide, side_of, Ref, Waiter, Cell, Single, Stream, waiters, as_list, without, without_one, left_by, is_complete, is_busy, taken, after_taking, filled, with_waiter}
use Rattle.flow_meaning.specs.Process.{Proc}
use Rattle.flow_meaning.specs.References.{same_side, refs_in, value_in, one, count, count_waiters, count_kept, in_cells, in_tasks, in_requests}
use Rattle.flow_meaning.specs.Work.{fill_cell, left_cells, running}
use Rattle.flow_meaning.specs.Orderly.{Rising}
use Rattle.flow_meaning.specs.Step.{on_core}
use Rattle.flow_meaning.specs.Deliver.{closed_request}
use Rattle.flow_meaning.specs.Frame.{Frame}
use Rattle.flow_heap_refinement.specs.Counted.{references, branches_of, branches_at, waiters_at, waiting_by, waiting_of}
use Rattle.flow_heap_refinement.specs.Rested.{has}
use Rattle.flow_meaning.proofs.Posture.{above_none}
use Rattle.flow_heap_refinement.specs.Leaving.{wait_kind, RightKinds}
use Rattle.flow_heap_refinement.specs.References as of
use Rattle.flow_heap_refinement.specs.References.{cell_holds, entry_holds, frame_holds, given_away}
use Rattle.flow_heap_refinement.proofs.Sums.{sum_by, sum_put, sum_added, sum_removed, cells_sum, entries_sum, frames_sum, ports_sum, refs_joined, drops_count, waiters_joined}

module _ (p : Proc Frame) (s : Side) (j : ℕ) where
  pub of_pushed : of.OfPushed p s j
  of_pushed u = omega arith

  pub of_popped : of.OfPopped p s j
  of_popped u us e = let t = ap (in_tasks s j) e in omega (arith, t)

  pub of_dropped : of.OfDropped p s j
  of_dropped rs = let t = drops_count s j rs p.core.tasks in omega (arith, t)

  pub of_values : of.OfValues p s j
  of_values vs = of_dropped (refs_in vs)

  pub of_new_cell : of.OfNewCell p s j
  of_new_cell c =
      let a = cells_sum s j p.core.cells in
      let b = cells_sum s j (added p.core.cells (suc p.core.made) c) in
      let d = sum_added (cell_holds s j) p.core.cells (suc p.core.made) c in omega (arith, a, b, d)

  pub of_cell : of.OfCell p s j
  of_cell k c d e =
      let a = cells_sum s j p.core.cells in
      let b = cells_sum s j (put p.core.cells k d) in
      let f = sum_put (cell_holds s j) p.core.cells k c d e in omega (arith, a, b, f)

  pub of_gone : of.OfGone p s j
  of_gone k c e =
      let a = cells_sum s j p.core.cells in
      let b = cells_sum s j (removed p.core.cells k) in
      let f = sum_removed (cell_holds s j) p.core.cells k c e in omega (arith, a, b, f)

  filled_holds : (k : ℕ) (c : Cell) (o : OutcomeTree) → is_complete c ≡ false → cell_holds s j k (filled c o) ≡ count s j (refs_in (value_in o)) + cell_holds s j k c
  filled_holds k (Single None ws) (GoodOutcome v) e = omega arith
  filled_holds k (Single None ws) (BadOutcome x) e = omega arith
  filled_holds k (Single (Some x) ws) o e = absurd (cc)
  filled_holds k (Stream q None w) (GoodOutcome v) e = let a = refs_joined s j q (v ∷ []) in omega (arith, a)
  filled_holds k (Stream q None w) (BadOutcome x) e = omega arith
  filled_holds k (Stream q (Some x) w) o e = absurd (cc)

  pub of_filled : of.OfFilled p s j
  of_filled k c o e n =
      ap (λ x. references s j (on_core (fill_cell k o x) p)) e
      ∙ (let a = of_cell k c (filled c o) e in let b = filled_holds k c o n in omega (arith, a, b))

  taken_holds : (k : ℕ) (c : Cell) (o : OutcomeTree) → taken c ≡ Some o → cell_holds s j k c ≡ given_away s j c o + cell_holds s j k (after_taking c)
  taken_holds k (Single x ws) o e = omega arith
  taken_holds k (Stream [] None w) o e = absurd (cc)
  taken_holds k (Stream [] (Some x) w) o e = let f : BadOutcome x ≡ o = cc (e) in let g = ap (λ y. count s j (refs_in (value_in y))) f in omega (arith, g)
  taken_holds k (Stream (v ∷ vs) x w) o e =
      let f : GoodOutcome v ≡ o = cc (e) in
      let g = ap (λ y. count s j (refs_in (value_in y))) f in
      let a = refs_joined s j (v ∷ []) vs in omega (arith, g, a)

  pub of_taken : of.OfTaken p s j
  of_taken k c o e t = let a = of_cell k c (after_taking c) e in let b = taken_holds k c o t in omega (arith, a, b)

  waiter_holds : (k : ℕ) (c : Cell) (w : Waiter) → is_busy c ≡ false → cell_holds s j k (with_waiter c w) ≡ one s j FutureSide k + cell_holds s j k c
  waiter_holds k (Single x ws) w n = let a = waiters_joined s j k ws w in omega (arith, a)
  waiter_holds k (Stream q x None) w n = omega arith
  waiter_holds k (Stream q x (Some y)) w n = absurd (cc)

  pub of_waiter : of.OfWaiter p s j
  of_waiter k c w e n = let a = of_cell k c (with_waiter c w) e in let b = waiter_holds k c w n in omega (arith, a, b)

  pub of_entry : of.OfEntry p s j
  of_entry i d e at =
      let a = entries_sum s j p.core.entries in
      let b = entries_sum s j (put p.core.entries i e) in
      let f = sum_put (λ n x. entry_holds s j x) p.core.entries i d e at in omega (arith, a, b, f)

  pub of_frame : of.OfFrame p s j
  of_frame i f g at =
      let a = frames_sum s j p.actors in
      let b = frames_sum s j (put p.actors i g) in
      let c = sum_put (λ n x. frame_holds s j x) p.actors i f g at in omega (arith, a, b, c)

  pub of_new_actor : of.OfNewActor p s j
  of_new_actor i e f =
      let a = entries_sum s j p.core.entries in
      let b = entries_sum s j (added p.core.entries i e) in
      let c = sum_added (λ n x. entry_holds s j x) p.core.entries i e in
      let d = frames_sum s j p.actors in
      let g = frames_sum s j (added p.actors i f) in
      let h = sum_added (λ n x. frame_holds s j x) p.actors i f in omega (arith, a, b, c, d, g, h)

  pub of_closed : of.OfClosed p s j
  of_closed i e f at acting =
      let a = entries_sum s j p.core.entries in
      let b = entries_sum s j (removed p.core.entries i) in
      let c = sum_removed (λ n x. entry_holds s j x) p.core.entries i e at in
      let d = frames_sum s j p.actors in
      let g = frames_sum s j (removed p.actors i) in
      let h = sum_removed (λ n x. frame_holds s j x) p.actors i f acting in omega (arith, a, b, c, d, g, h)

  pub of_main : of.OfMain p s j
  of_main o = omega arith

  pub of_port : of.OfPort p s j
  of_port q k =
      let a = ports_sum s j p.core.ports in
      let b = ports_sum s j (added p.core.ports q k) in
      let c = sum_added (λ n x. one s j PromiseSide x) p.core.ports q k in omega (arith, a, b, c)

  pub of_port_gone : of.OfPortGone p s j
  of_port_gone q k e =
      let a = ports_sum s j p.core.ports in
      let b = ports_sum s j (removed p.core.ports q) in
      let c = sum_removed (λ n x. one s j PromiseSide x) p.core.ports q k e in omega (arith, a, b, c)

  requests_joined : (ks : List ℕ) (k : ℕ) → in_requests s j (ks ++ k ∷ []) ≡ one s j PromiseSide k + in_requests s j ks
  requests_joined [] k = refl
  requests_joined (x ∷ xs) k = let e = requests_joined xs k in omega (arith, e)

  pub of_request : of.OfRequest p s j
  of_request k = let a = requests_joined p.core.requests k in omega (arith, a)

  requests_less : (ks : List ℕ) (k : ℕ) → has k ks ≡ true → in_requests s j ks ≡ one s j PromiseSide k + in_requests s j (closed_request k ks)
  requests_less [] k e = absurd (cc)
  requests_less (x ∷ xs) k e = by_test (nat_eq k x) refl e (λ f. requests_less xs k f)
    where
      by_test : (t : Bool) → nat_eq k x ≡ t → (if t then true else has k xs) ≡ true → (has k xs ≡ true → in_requests s j xs ≡ one s j PromiseSide k + in_requests s j (closed_request k xs))
          → one s j PromiseSide x + in_requests s j xs ≡ one s j PromiseSide k + in_requests s j (if t then xs else x ∷ closed_request k xs)
      by_test true g f rest =
          let same : k ≡ x = grind (arith, nat_tests) in
          let u = ap (one s j PromiseSide) same in omega (arith, u)
      by_test false g f rest = let a = rest f in omega (arith, a)

  pub of_answered : of.OfAnswered p s j
  of_answered k e = let a = requests_less p.core.requests k e in omega (arith, a)

-- the waiters of an actor, as references
abbrev of_branches : Side → ℕ → (cell : ℕ) → List ℕ → ℕ
of_branches s j k [] = 0
of_branches s j k (b ∷ bs) = one s j FutureSide k + of_branches s j k bs

abbrev mark : Bool → Bool → ℕ
mark t u = if t && u then 1 else 0

module _ (s : Side) (j i : ℕ) where
  others_count : (k : ℕ) (ws : List Waiter) → count_waiters s j k ws ≡ of_branches s j k (branches_of i ws) + count_waiters s j k (without ws i)
  others_count k [] = refl
  others_count k (w ∷ ws) = by_test (nat_eq w.actor i) (others_count k ws)
    where
      by_test : (t : Bool) → count_waiters s j k ws ≡ of_branches s j k (branches_of i ws) + count_waiters s j k (without ws i)
          → one s j FutureSide k + count_waiters s j k ws ≡ of_branches s j k (if t then w.branch ∷ branches_of i ws else branches_of i ws) + count_waiters s j k
          (if t then without ws i else w ∷ without ws i)
      by_test true e = omega (arith, e)
      by_test false e = omega (arith, e)

  one_count : (k : ℕ) (w : Option Waiter) → count_waiters s j k (as_list w) ≡ of_branches s j k (branches_of i (as_list w)) + count_waiters s j k (as_list (without_one w i))
  one_count k None = refl
  one_count k (Some w) = by_test (nat_eq w.actor i)
    where
      by_test : (t : Bool) → one s j FutureSide k + 0 ≡ of_branches s j k (if t then w.branch ∷ [] else []) + count_waiters s j k (as_list (if t then None else Some w))
      by_test true = omega arith
      by_test false = omega arith

  cell_count : (k : ℕ) (c : Cell) → cell_holds s j k c ≡ of_branches s j k (branches_of i (waiters c)) + cell_holds s j k (left_by i c)
  cell_count k (Single x ws) = let a = others_count k ws in omega (arith, a)
  cell_count k (Stream q x w) = let a = one_count k w in omega (arith, a)

  abbrev waits_in : ℕ → Cell → ℕ
  waits_in k c = of_branches s j k (branches_of i (waiters c))

  all_count : (cs : Numbered Cell) → in_cells s j cs ≡ sum_by waits_in cs + in_cells s j (left_cells i cs)
  all_count [] = refl
  all_count (x ∷ xs) = let a = cell_count x.0 x.1 in let b = all_count xs in omega (arith, a, b)

  no_side : (k : ℕ) → nat_eq j k ≡ false → (side : Side) → one s j side k ≡ 0
  no_side k n side = by_side (same_side s side)
    where
      by_side : (t : Bool) → mark t (nat_eq j k) ≡ 0
      by_side true = rw n refl
      by_side false = refl

  none_there : (k : ℕ) (bs : List ℕ) → nat_eq j k ≡ false → of_branches s j k bs ≡ 0
  none_there k [] n = refl
  none_there k (b ∷ bs) n = let a = no_side k n FutureSide in let c = none_there k bs n in omega (arith, a, c)

  -- only those at the cell count
  waits_at : (cs : Numbered Cell) (above most : ℕ) → Rising above most cs → sum_by waits_in cs ≡ of_branches s j j (branches_of i (waiters_at (thing cs j)))
  waits_at [] above most h = refl
  waits_at (x ∷ xs) above most h = by_test (nat_eq j x.0) refl (waits_at xs x.0 most h.2)
    where
      by_test : (t : Bool) → nat_eq j x.0 ≡ t → sum_by waits_in xs ≡ of_branches s j j (branches_of i (waiters_at (thing xs j)))
          → waits_in x.0 x.1 + sum_by waits_in xs ≡ of_branches s j j (branches_of i (waiters_at (if t then Some x.1 else thing xs j)))
      by_test true g rest =
          let same : j ≡ x.0 = grind (arith, nat_tests) in
          let gone : thing xs j ≡ None = above_none xs x.0 most j h.2 (omega (arith, same)) in
          let a = rest ∙ ap (λ o. of_branches s j j (branches_of i (waiters_at o))) gone in
          let b = ap (λ n. of_branches s j n (branches_of i (waiters x.1))) (sym same) in omega (arith, a, b)
      by_test false g rest = let a = none_there x.0 (branches_of i (waiters x.1)) g in omega (arith, a, rest)

  wait_side : (c : Option Cell) → side_of (wait_kind c) ≡ FutureSide
  wait_side None = refl
  wait_side (Some (Single x ws)) = refl
  wait_side (Some (Stream q x w)) = refl

  operands_count : (cs : Numbered Cell) (b : ℕ) (rs : List Ref) → RightKinds cs rs → of_branches s j j (branches_at j b rs) ≡ count s j rs
  operands_count cs b [] h = refl
  operands_count cs b (r ∷ rs) h = by_test (nat_eq r.1 j) refl (operands_count cs (suc b) rs h.1)
    where
      side_is : one s j (side_of r.0) r.1 ≡ one s j FutureSide r.1
      side_is = ap (λ x. one s j x r.1) (ap side_of h.0 ∙ wait_side (thing cs r.1))

      by_test : (t : Bool) → nat_eq r.1 j ≡ t → of_branches s j j (branches_at j (suc b) rs) ≡ count s j rs
          → of_branches s j j (if t then b ∷ branches_at j (suc b) rs else branches_at j (suc b) rs) ≡ one s j (side_of r.0) r.1 + count s j rs
      by_test true g rest =
          let same : r.1 ≡ j = grind (arith, nat_tests) in
          let a = ap (one s j FutureSide) same in omega (arith, a, side_is, rest)
      by_test false g rest = let a = no_side r.1 (turned g) FutureSide in omega (arith, a, side_is, rest)
        where
          turned : nat_eq r.1 j ≡ false → nat_eq j r.1 ≡ false
          turned f = grind (arith, nat_tests, f)

module _ (p : Proc Frame) (s : Side) (j : ℕ) where
  pub of_left : of.OfLeft p s j
  of_left i e at agree kinds rising =
      let a = all_count s j i p.core.cells in
      let b = waits_at s j i p.core.cells 0 p.core.made rising in
      let c = ap (of_branches s j j) (agree i j ∙ ap (λ o. branches_at j 0 (waiting_of o)) at) in
      let d = of_entry p s j i e (running e) at in
      let f = drops_count s j e.operands p.core.tasks in
      let g = by_flag e.suspended in omega (arith, a, b, c, d, f, g)
    where
      by_flag : (t : Bool) → of_branches s j j (branches_at j 0 (waiting_by t e.operands)) + count_kept s j t e.operands ≡ count s j e.operands
      by_flag true = let x = operands_count s j i p.core.cells 0 e.operands kinds in omega (arith, x)
      by_flag false = omega arith
