-- What holds of the cell with a number, where cells are written.
use Rattle.std.proofs.Common.{◌≡◌, ℕ, suc, nat_eq, Bool, true, false, refl, sym, subst, arith}
use Rattle.std.specs.Option.{option_map}
use Rattle.std.specs.declared.option.Option.{Option}
use Rattle.std.specs.declared.option.Option.TheVariants.{Some}
use Rattle.flow_numbered.specs.Numbered.{Numbered, thing, added, put, removed}
use Rattle.flow_meaning.specs.Cells.{Cell, left_by}
use Rattle.flow_meaning.specs.Orderly.{Rising}
use Rattle.flow_meaning.specs.Work.{left_cells}
use Rattle.flow_meaning.proofs.Posture.{thing_put, thing_put_other, thing_removed_other, thing_added}
use Rattle.flow_heap_refinement.proofs.Finds.{thing_new, none_above}
use Rattle.flow_heap_refinement.proofs.Left.{found_left}

-- a number is another, or the same
pub by_number : (j k : ℕ) (X : Type 0) → ((j ≡ k) → X) → ((j ≡ k → ⊥) → X) → X
by_number j k X same other = by_test (nat_eq j k) refl
  where
    by_test : (b : Bool) → nat_eq j k ≡ b → X
    by_test true e = same (grind (arith, e))
    by_test false e = other (λ q. let f : ⊥ = grind (arith, e, q) in f)

module _ (Q : Option Cell → Type 0) (cells : Numbered Cell) (k : ℕ) where
  pub put_other : (j : ℕ) (new : Cell) → (j ≡ k → ⊥) → Q (thing cells k) → Q (thing (put cells j new) k)
  put_other j new other h = subst Q (sym (thing_put_other cells j k new other)) h

  pub removed_other : (j : ℕ) → (j ≡ k → ⊥) → Q (thing cells k) → Q (thing (removed cells j) k)
  removed_other j other h = subst Q (sym (thing_removed_other cells j k other)) h

  -- a cell that becomes another
  pub put_changed : (j : ℕ) (old new : Cell) → thing cells j ≡ Some old → (Q (Some old) → Q (Some new)) → Q (thing cells k) → Q (thing (put cells j new) k)
  put_changed j old new at f h =
      by_number j k (Q (thing (put cells j new) k))
      (λ q. subst (λ n. Q (thing (put cells j new) n)) q (subst Q (sym (thing_put cells j old new at)) (f (subst Q at (subst (λ n. Q (thing cells n)) (sym q) h)))))
      (λ other. put_other j new other h)

  -- an actor's waiters leave
  pub left_changed : (i : ℕ) → (Q (thing cells k) → Q (option_map (left_by i) (thing cells k))) → Q (thing cells k) → Q (thing (left_cells i cells) k)
  left_changed i f h = subst Q (sym (found_left i cells k)) (f h)

  -- a new cell
  pub new_cell_holds : (made : ℕ) (cell : Cell) → Rising 0 made cells → (suc made ≡ k → Q (Some cell)) → ((suc made ≡ k → ⊥) → Q (thing cells k)) → Q (thing (added cells (suc made) cell) k)
  new_cell_holds made cell up fresh old =
      by_number (suc made) k (Q (thing (added cells (suc made) cell) k))
      (λ q. subst (λ n. Q (thing (added cells (suc made) cell) n)) q (subst Q (sym (thing_new cells (suc made) cell (none_above cells 0 made (suc made) up (omega arith)))) (fresh q)))
      (λ o. subst Q (sym (thing_added cells (suc made) k cell o)) (old o))
