-- A stream refuses an operand: those before it wait, and leave their cells again.
use Rattle.std.proofs.Common.{◌≡◌, ◌⊎◌, inl, inr, ℕ, suc, ◌+◌, nat_eq, Bool, true, false, List, [], ◌∷◌, ◌++◌, if◌then◌else◌, refl, sym, ap, ◌∙◌, subst, arith}
use Rattle.std.proofs.lemmas.Bool.{false≢true}
use Rattle.std.proofs.lemmas.Bool.Decides.{nat_tests}
use Rattle.std.specs.declared.option.Option.TheVariants.{None, Some}
use Rattle.flow_class.specs.Classes.{RawTree}
use Rattle.flow_frame.specs.declared.held.Held.{Held}
use Rattle.flow_cancel.specs.Heap.{HeapTree, cell_id}
use Rattle.flow_numbered.specs.Numbered.{Numbered, thing, put}
use Rattle.flow_meaning.specs.Cells.{Side, Ref, Waiter, Cell, Single, Stream, with_waiter, is_busy, without, left_by}
use Rattle.flow_meaning.specs.Process.{Proc}
use Rattle.flow_meaning.specs.Work.{left_cells}
use Rattle.flow_meaning.specs.Frame.{Frame}
use Rattle.flow_meaning.proofs.Posture.{each_number, thing_put, thing_put_other}
use Rattle.flow_heap_refinement.specs.Representing.{Represents, held_from}
use Rattle.flow_heap_refinement.specs.Counted.{kept_count, branches_of, branches_at, waiters_at}
use Rattle.flow_heap_refinement.specs.Leaving.{wait_kind, first_part}
use Rattle.flow_steps.specs.Waiting as waiting
use Rattle.flow_operation_refinement.specs.Waiting.{Waitable}
use Rattle.flow_operation_refinement.proofs.Registering.{with_cells, Waited, first, waiter, OneWaits, OneRefused, one_waits, still_waitable}

module _ (i : ℕ) where
  itself : nat_eq i i ≡ true
  itself = grind (arith, nat_tests)

  -- one more waiter of an actor leaves again
  without_more : (b : ℕ) (ws : List Waiter) → without (ws ++ record { actor = i; branch = b } ∷ []) i ≡ without ws i
  without_more b [] = ap (λ t. if t then [] else record { actor = i; branch = b } ∷ []) itself
  without_more b (w ∷ ws) = ap (λ l. if nat_eq w.actor i then l else w ∷ l) (without_more b ws)

  one_leaves : (b : ℕ) (c : Cell) → is_busy c ≡ false → left_by i (with_waiter c (record { actor = i; branch = b })) ≡ left_by i c
  one_leaves b (Single o ws) free = ap (Single o) (without_more b ws)
  one_leaves b (Stream u d None) free = ap (λ t. Stream u d (if t then None else Some (record { actor = i; branch = b }))) itself
  one_leaves b (Stream u d (Some w)) free = absurd (cc (free))

  again_left : (cs : Numbered Cell) (k b : ℕ) (c : Cell) → thing cs k ≡ Some c → is_busy c ≡ false
      → left_cells i (put cs k (with_waiter c (record { actor = i; branch = b }))) ≡ left_cells i cs
  again_left [] k b c at free = refl
  again_left (x ∷ xs) k b c at free = by_test (nat_eq k x.0) refl (again_left xs k b c)
    where
      new : Cell
      new = with_waiter c (record { actor = i; branch = b })

      by_test : (t : Bool) → nat_eq k x.0 ≡ t → (thing xs k ≡ Some c → is_busy c ≡ false → left_cells i (put xs k new) ≡ left_cells i xs)
          → left_cells i (if nat_eq k x.0 then (x.0, new) ∷ xs else x ∷ put xs k new) ≡ left_cells i (x ∷ xs)
      by_test true e rest =
          let there : Some x.1 ≡ Some c = ap (λ t. if t then Some x.1 else thing xs k) (sym e) ∙ at in
          let same : x.1 ≡ c = cc (there) in
          ap (λ t. left_cells i (if t then (x.0, new) ∷ xs else x ∷ put xs k new)) e
          ∙ ap (λ y. (x.0, y) ∷ left_cells i xs) (one_leaves b c free ∙ ap (left_by i) (sym same))
      by_test false e rest =
          let there : thing xs k ≡ Some c = ap (λ t. if t then Some x.1 else thing xs k) (sym e) ∙ at in
          ap (λ t. left_cells i (if t then (x.0, new) ∷ xs else x ∷ put xs k new)) e ∙ ap (λ ys. (x.0, left_by i x.1) ∷ ys) (rest there free)

  -- its branch is the last at its cell
  branches_more : (b : ℕ) (ws : List Waiter) → branches_of i (ws ++ record { actor = i; branch = b } ∷ []) ≡ branches_of i ws ++ b ∷ []
  branches_more b [] = ap (λ t. if t then b ∷ [] else []) itself
  branches_more b (w ∷ ws) = by_test (nat_eq w.actor i) (branches_more b ws)
    where
      by_test : (t : Bool) → branches_of i (ws ++ record { actor = i; branch = b } ∷ []) ≡ branches_of i ws ++ b ∷ []
          → (if t then w.branch ∷ branches_of i (ws ++ record { actor = i; branch = b } ∷ []) else branches_of i (ws ++ record { actor = i; branch = b } ∷ []))
          ≡ (if t then w.branch ∷ branches_of i ws else branches_of i ws) ++ b ∷ []
      by_test true h = ap (λ l. w.branch ∷ l) h
      by_test false h = h

  branch_last : (b : ℕ) (c : Cell) → is_busy c ≡ false → branches_of i (waiters_at (Some (with_waiter c (record { actor = i; branch = b })))) ≡ branches_of i (waiters_at (Some c)) ++ b ∷ []
  branch_last b (Single o ws) free = branches_more b ws
  branch_last b (Stream u d None) free = ap (λ t. if t then b ∷ [] else []) itself
  branch_last b (Stream u d (Some w)) free = absurd (cc (free))

no_more_branches : (xs : List ℕ) → xs ++ [] ≡ xs
no_more_branches [] = refl
no_more_branches (x ∷ xs) = ap (λ l. x ∷ l) (no_more_branches xs)

then_one : (xs : List ℕ) (b : ℕ) (ys : List ℕ) → (xs ++ b ∷ []) ++ ys ≡ xs ++ b ∷ ys
then_one [] b ys = refl
then_one (x ∷ xs) b ys = ap (λ l. x ∷ l) (then_one xs b ys)

module _ (r : RawTree) (h : HeapTree) (p : Proc Frame) (i : ℕ) where
  -- a first part of the operands waits
  pub record Partly (g k : HeapTree) (ds : Numbered Cell) (rs : List Ref) (b : ℕ) : Type 0 where
    pub cells : Numbered Cell
    pub many : ℕ
    pub shows : Represents r k (with_cells cells p)
    pub counts : (s : Side) (j : ℕ) → kept_count s j k ≡ kept_count s j h
    pub kinds : (n : ℕ) → wait_kind (thing cells n) ≡ wait_kind (thing p.core.cells n)
    pub left : left_cells i cells ≡ left_cells i ds
    pub waits : (n : ℕ) → branches_of i (waiters_at (thing cells n)) ≡ branches_of i (waiters_at (thing ds n)) ++ branches_at n b (first_part many rs)
    pub frames : k.frames ≡ h.frames
    pub actors : k.actors ≡ h.actors

  one_more : (g k l : HeapTree) (ds : Numbered Cell) (q : Ref) (rs : List Ref) (b : ℕ) (c : Cell) → thing ds q.1 ≡ Some c → is_busy c ≡ false
      → Partly l k (put ds q.1 (with_waiter c (waiter r h p i b))) rs (suc b) → Partly g k ds (q ∷ rs) b
  one_more g k l ds q rs b c at free a = record {
    cells = a.cells;
    many = suc a.many;
    shows = a.shows;
    counts = a.counts;
    kinds = a.kinds;
    left = a.left ∙ again_left i ds q.1 b c at free;
    waits = λ n. a.waits n ∙ each_number q.1 (λ n. branches_of i (waiters_at (thing (put ds q.1 (with_waiter c (waiter r h p i b))) n)) ++ branches_at n (suc b) (first_part a.many rs)
        ≡ branches_of i (waiters_at (thing ds n)) ++ branches_at n b (q ∷ first_part a.many rs))
        (ap (λ o. branches_of i (waiters_at o) ++ branches_at q.1 (suc b) (first_part a.many rs)) (thing_put ds q.1 c (with_waiter c (waiter r h p i b)) at)
        ∙ ap (λ l. l ++ branches_at q.1 (suc b) (first_part a.many rs)) (branch_last i b c free)
        ∙ then_one (branches_of i (waiters_at (Some c))) b (branches_at q.1 (suc b) (first_part a.many rs))
        ∙ ap (λ o. branches_of i (waiters_at o) ++ b ∷ branches_at q.1 (suc b) (first_part a.many rs)) (sym at)
        ∙ ap (λ t. branches_of i (waiters_at (thing ds q.1)) ++ (if t then b ∷ branches_at q.1 (suc b) (first_part a.many rs) else branches_at q.1 (suc b) (first_part a.many rs))) (sym (itself q.1)))
        (λ n differ.
        ap (λ o. branches_of i (waiters_at o) ++ branches_at n (suc b) (first_part a.many rs)) (thing_put_other ds q.1 n (with_waiter c (waiter r h p i b)) differ)
        ∙ ap (λ t. branches_of i (waiters_at (thing ds n)) ++ (if t then b ∷ branches_at n (suc b) (first_part a.many rs) else branches_at n (suc b) (first_part a.many rs)))
        (sym (not_itself q.1 n differ))) n;
    frames = a.frames;
    actors = a.actors;
  }
    where
      not_itself : (m n : ℕ) → (m ≡ n → ⊥) → nat_eq m n ≡ false
      not_itself m n differ = by_test (nat_eq m n) refl
        where
          by_test : (t : Bool) → nat_eq m n ≡ t → nat_eq m n ≡ false
          by_test true e = absurd (differ (grind (arith, nat_tests, e)))
          by_test false e = e

  pub partly : (rs : List Ref) (b : ℕ) (g k : HeapTree) (ds : Numbered Cell) (done : List Ref) → Waited r h p g ds done → Waitable ds rs
      → waiting.register_all i (held_from (first r h p i + b) rs) g ≡ (false, k) → Partly g k ds rs b
  partly [] b g k ds done w has reg = absurd (false≢true (ap (λ (y : waiting.Registered). y.0) (sym reg)))
  partly (q ∷ rs) b g k ds done w has reg =
      by_one (λ l v number. partly rs (suc b) l k (put ds q.1 (with_waiter c (waiter r h p i b))) (done ++ q ∷ []) v (still_waitable r h p i ds q.1 c (waiter r h p i b) at rs has.1) number)
      (one_waits r h p i g ds done q b c w at has.0.2)
    where
      c : Cell
      c = has.0.0

      at : thing ds q.1 ≡ Some c
      at = has.0.1

      x : Held
      x = record { callback = first r h p i + b; cell = cell_id q.1 }

      rest : waiting.Registered → waiting.Registered
      rest = waiting.registered_then (waiting.register_all i (held_from (suc (first r h p i + b)) rs))

      by_one : ((l : HeapTree) → Waited r h p l (put ds q.1 (with_waiter c (waiter r h p i b))) (done ++ q ∷ []) → waiting.register_all i (held_from (first r h p i + suc b) rs) l ≡ (false, k)
          → Partly l k (put ds q.1 (with_waiter c (waiter r h p i b))) rs (suc b))
          → OneWaits r h p i g ds done q b c ⊎ OneRefused r h p i g q b c → Partly g k ds (q ∷ rs) b
      by_one others (inl a) =
          let number : suc (first r h p i + b) ≡ first r h p i + suc b = omega arith in
          one_more g k a.1.0 ds q rs b c at a.0
          (others a.1.0 a.1.2 (ap (λ n. waiting.register_all i (held_from n rs) a.1.0) (sym number) ∙ ap rest (sym a.1.1) ∙ reg))
      by_one others (inr a) =
          let same : g ≡ k = ap (λ (y : waiting.Registered). y.1) (ap rest (sym a.1) ∙ reg) in record {
            cells = ds;
            many = 0;
            shows = subst (λ y. Represents r y (with_cells ds p)) same w.shows;
            counts = λ s j. ap (kept_count s j) (sym same) ∙ w.counts s j;
            kinds = w.kinds;
            left = refl;
            waits = λ n. sym (no_more_branches (branches_of i (waiters_at (thing ds n))));
            frames = ap (λ (y : HeapTree). y.frames) (sym same) ∙ w.frames;
            actors = ap (λ (y : HeapTree). y.actors) (sym same) ∙ w.actors;
          }
