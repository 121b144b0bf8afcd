use Rattle.std.proofs.Common.{◌≡◌, ℕ, ◌+◌, ◌<◌, ◌^◌, true, Bool, Option, Some, None, sym, [], ◌∷◌, refl, ap, ◌∙◌, arith}
use Rattle.flow_numbered.specs.Numbered.{Store, added, with_thing}
use Rattle.flow_cell.specs.Cells.{CellTree, Counts, held, released, unset, count_of}
use Rattle.flow_cell.specs.Waiting.{has_waiter, without_newest}
use Rattle.flow_parts_tests.proofs.cells.lone_waiter_leaves.Goals as goal

abbrev waits : Option (CellTree ℕ) → Bool
waits None = true
waits (Some c) = has_waiter c.waiters (record { actor = record { 0 = 1 }; callback = 3 })

pub remove_waiter-requires-clause-there : goal.remove_waiter-requires-clause-there
remove_waiter-requires-clause-there c =
    let s0 = c.in_ok-make.ensures.ok ∙ ap (λ (s : Store (CellTree ℕ)). record { things = added s.things 1 unset; greatest = 1 }) c.requires in
    let s1 = (rw s0 at c.in_ok-add_waiter.ensures.ok) _ refl in
    rw s1 refl

pub remove_waiter-requires-clause-waits : goal.remove_waiter-requires-clause-waits
remove_waiter-requires-clause-waits c =
    let s0 = c.in_ok-make.ensures.ok ∙ ap (λ (s : Store (CellTree ℕ)). record { things = added s.things 1 unset; greatest = 1 }) c.requires in
    let s1 = (rw s0 at c.in_ok-add_waiter.ensures.ok) _ refl in
    rw s1 (λ x is. ap waits (sym is))
