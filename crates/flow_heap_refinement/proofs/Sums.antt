-- Sums over things by number.
use Rattle.std.proofs.Common.{◌≡◌, ℕ, ◌+◌, nat_eq, Bool, true, false, List, [], ◌∷◌, ◌++◌, if◌then◌else◌, refl, sym, ap, ◌∙◌, arith}
use Rattle.std.proofs.lemmas.Bool.Decides.{nat_tests}
use Rattle.std.specs.declared.option.Option.TheVariants.{Some}
use Rattle.flow_value.specs.Values.{ValueTree, refs_of, ValueTrees, NoValues, MoreValues, refs_of_all, with_last}
use Rattle.flow_numbered.specs.Numbered.{Numbered, thing, added, put, removed}
use Rattle.flow_meaning.specs.Cells.{Side, PromiseSide, FutureSide, Ref, Waiter, Cell}
use Rattle.flow_meaning.specs.Process.{Task, Entry}
use Rattle.flow_meaning.specs.References.{refs_in, one, count, count_waiters, in_cells, in_entries, in_tasks, in_ports}
use Rattle.flow_meaning.specs.Work.{drops}
use Rattle.flow_meaning.specs.Frame.{Frame}
use Rattle.flow_heap_refinement.specs.Counted.{frames_hold}
use Rattle.flow_heap_refinement.specs.References.{cell_holds, entry_holds, frame_holds}

abbrev pub sum_by : {A : Type 0} → (ℕ → A → ℕ) → Numbered A → ℕ
sum_by w [] = 0
sum_by w (x ∷ xs) = w x.0 x.1 + sum_by w xs

module _ {A : Type 0} (w : ℕ → A → ℕ) where
  pub sum_put : (xs : Numbered A) (n : ℕ) (a b : A) → thing xs n ≡ Some a → sum_by w (put xs n b) + w n a ≡ sum_by w xs + w n b
  sum_put [] n a b e = absurd (cc)
  sum_put (x ∷ xs) n a b e = by_test (nat_eq n x.0) refl e (λ f. sum_put xs n a b f)
    where
      by_test : (t : Bool) → nat_eq n x.0 ≡ t → (if t then Some x.1 else thing xs n) ≡ Some a → (thing xs n ≡ Some a → sum_by w (put xs n b) + w n a ≡ sum_by w xs + w n b)
          → sum_by w (if t then (x.0, b) ∷ xs else x ∷ put xs n b) + w n a ≡ w x.0 x.1 + sum_by w xs + w n b
      by_test true g f rest =
          let same : n ≡ x.0 = grind (arith, nat_tests) in
          let is : x.1 ≡ a = cc (f) in
          let u : w x.0 x.1 ≡ w n a = ap (λ m. w m x.1) (sym same) ∙ ap (w n) is in
          let v : w x.0 b ≡ w n b = ap (λ m. w m b) (sym same) in omega (arith, u, v)
      by_test false g f rest = let e = rest f in omega (arith, e)

  pub sum_added : (xs : Numbered A) (n : ℕ) (a : A) → sum_by w (added xs n a) ≡ w n a + sum_by w xs
  sum_added [] n a = refl
  sum_added (x ∷ xs) n a = let e = sum_added xs n a in omega (arith, e)

  pub sum_removed : (xs : Numbered A) (n : ℕ) (a : A) → thing xs n ≡ Some a → sum_by w xs ≡ w n a + sum_by w (removed xs n)
  sum_removed [] n a e = absurd (cc)
  sum_removed (x ∷ xs) n a e = by_test (nat_eq n x.0) refl e (λ f. sum_removed xs n a f)
    where
      by_test : (t : Bool) → nat_eq n x.0 ≡ t → (if t then Some x.1 else thing xs n) ≡ Some a → (thing xs n ≡ Some a → sum_by w xs ≡ w n a + sum_by w (removed xs n))
          → w x.0 x.1 + sum_by w xs ≡ w n a + sum_by w (if t then xs else x ∷ removed xs n)
      by_test true g f rest =
          let same : n ≡ x.0 = grind (arith, nat_tests) in
          let is : x.1 ≡ a = cc (f) in
          let u : w x.0 x.1 ≡ w n a = ap (λ m. w m x.1) (sym same) ∙ ap (w n) is in omega (arith, u)
      by_test false g f rest = let e = rest f in omega (arith, e)

-- what a process holds as such sums
pub cells_sum : (s : Side) (j : ℕ) (xs : Numbered Cell) → in_cells s j xs ≡ sum_by (cell_holds s j) xs
cells_sum s j [] = refl
cells_sum s j (x ∷ xs) = let e = cells_sum s j xs in omega (arith, e)

pub entries_sum : (s : Side) (j : ℕ) (xs : Numbered Entry) → in_entries s j xs ≡ sum_by (λ n e. entry_holds s j e) xs
entries_sum s j [] = refl
entries_sum s j (x ∷ xs) = let e = entries_sum s j xs in omega (arith, e)

pub frames_sum : (s : Side) (j : ℕ) (xs : Numbered Frame) → frames_hold xs s j ≡ sum_by (λ n f. frame_holds s j f) xs
frames_sum s j [] = refl
frames_sum s j (x ∷ xs) = let e = frames_sum s j xs in omega (arith, e)

pub ports_sum : (s : Side) (j : ℕ) (xs : Numbered ℕ) → in_ports s j xs ≡ sum_by (λ n k. one s j PromiseSide k) xs
ports_sum s j [] = refl
ports_sum s j (x ∷ xs) = let e = ports_sum s j xs in omega (arith, e)

-- references one after another
pub count_joined : (s : Side) (j : ℕ) (rs qs : List Ref) → count s j (rs ++ qs) ≡ count s j rs + count s j qs
count_joined s j [] qs = omega arith
count_joined s j (r ∷ rs) qs = let e = count_joined s j rs qs in omega (arith, e)

pub refs_joined : (s : Side) (j : ℕ) (vs us : List ValueTree) → count s j (refs_in (vs ++ us)) ≡ count s j (refs_in vs) + count s j (refs_in us)
refs_joined s j [] us = omega arith
refs_joined s j (v ∷ vs) us =
    let a = count_joined s j (refs_of v) (refs_in (vs ++ us)) in
    let b = count_joined s j (refs_of v) (refs_in vs) in
    let c = refs_joined s j vs us in omega (arith, a, b, c)

-- what a longer vector refers to, and what one value does
pub longer_refs : (s : Side) (j : ℕ) (es : ValueTrees) (u : ValueTree) → count s j (refs_of_all (with_last es u)) ≡ count s j (refs_of_all es) + count s j (refs_of u)
longer_refs s j NoValues u = let a = count_joined s j (refs_of u) [] in omega (arith, a)
longer_refs s j (MoreValues v vs) u =
    let a = count_joined s j (refs_of v) (refs_of_all (with_last vs u)) in
    let b = count_joined s j (refs_of v) (refs_of_all vs) in
    let c = longer_refs s j vs u in omega (arith, a, b, c)

pub one_refs : (s : Side) (j : ℕ) (u : ValueTree) → count s j (refs_in (u ∷ [])) ≡ count s j (refs_of u)
one_refs s j u = let a = count_joined s j (refs_of u) [] in omega (arith, a)

pub drops_count : (s : Side) (j : ℕ) (rs : List Ref) (ts : List Task) → in_tasks s j (drops rs ts) ≡ count s j rs + in_tasks s j ts
drops_count s j [] ts = omega arith
drops_count s j (r ∷ rs) ts = let e = drops_count s j rs ts in omega (arith, e)

pub waiters_joined : (s : Side) (j k : ℕ) (ws : List Waiter) (w : Waiter) → count_waiters s j k (ws ++ w ∷ []) ≡ one s j FutureSide k + count_waiters s j k ws
waiters_joined s j k [] w = refl
waiters_joined s j k (x ∷ ws) w = let e = waiters_joined s j k ws w in omega (arith, e)
