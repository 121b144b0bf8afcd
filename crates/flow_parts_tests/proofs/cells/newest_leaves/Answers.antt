use Rattle.std.proofs.Common.{◌≡◌, ℕ, ◌+◌, ◌<◌, ◌^◌, true, Bool, Option, Some, None, sym, [], ◌∷◌, refl, ap, ◌∙◌, arith}
use Rattle.flow_numbered.specs.Numbered.{Store, added, with_thing}
use Rattle.flow_cell.specs.Cells.{CellTree, Counts, held, released, unset, count_of}
use Rattle.flow_cell.specs.Waiting.{has_waiter, without_newest}
use Rattle.flow_parts_tests.proofs.cells.newest_leaves.Goals as goal

abbrev waits : Option (CellTree ℕ) → Bool
waits None = true
waits (Some c) = has_waiter c.waiters (record { actor = record { 0 = 1 }; callback = 3 })

pub add_waiter-requires-2 : goal.add_waiter-requires-2
add_waiter-requires-2 c =
    let s0 = c.in_ok-make.ensures.ok ∙ ap (λ (s : Store (CellTree ℕ)). record { things = added s.things 1 unset; greatest = 1 }) c.requires in
    let s1 = (rw s0 at c.in_ok-add_waiter.ensures.ok) _ refl in
    rw s1 refl

pub remove_waiter-requires-clause-there : goal.remove_waiter-requires-clause-there
remove_waiter-requires-clause-there c =
    let s0 = c.in_ok-make.ensures.ok ∙ ap (λ (s : Store (CellTree ℕ)). record { things = added s.things 1 unset; greatest = 1 }) c.requires in
    let s1 = (rw s0 at c.in_ok-add_waiter.ensures.ok) _ refl in
    let s2 = (rw s1 at c.in_ok-add_waiter-2.ensures.ok) _ refl in
    rw s2 refl

pub remove_waiter-requires-clause-waits : goal.remove_waiter-requires-clause-waits
remove_waiter-requires-clause-waits c =
    let s0 = c.in_ok-make.ensures.ok ∙ ap (λ (s : Store (CellTree ℕ)). record { things = added s.things 1 unset; greatest = 1 }) c.requires in
    let s1 = (rw s0 at c.in_ok-add_waiter.ensures.ok) _ refl in
    let s2 = (rw s1 at c.in_ok-add_waiter-2.ensures.ok) _ refl in
    rw s2 (λ x is. ap waits (sym is))

pub waiter_at-requires : goal.waiter_at-requires
waiter_at-requires c =
    let s0 = c.in_ok-make.ensures.ok ∙ ap (λ (s : Store (CellTree ℕ)). record { things = added s.things 1 unset; greatest = 1 }) c.requires in
    let s1 = (rw s0 at c.in_ok-add_waiter.ensures.ok) _ refl in
    let s2 = (rw s1 at c.in_ok-add_waiter-2.ensures.ok) _ refl in
    let s3 = (rw s2 at c.remove_waiter.ensures) _ refl in
    rw s3 refl

pub waiter_at-requires-2 : goal.waiter_at-requires-2
waiter_at-requires-2 c =
    let s0 = c.in_ok-make.ensures.ok ∙ ap (λ (s : Store (CellTree ℕ)). record { things = added s.things 1 unset; greatest = 1 }) c.requires in
    let s1 = (rw s0 at c.in_ok-add_waiter.ensures.ok) _ refl in
    let s2 = (rw s1 at c.in_ok-add_waiter-2.ensures.ok) _ refl in
    let s3 = (rw s2 at c.remove_waiter.ensures) _ refl in
    rw s3 refl
