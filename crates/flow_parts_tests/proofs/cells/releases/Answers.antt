use Rattle.std.proofs.Common.{◌≡◌, ℕ, ◌+◌, ◌<◌, ◌^◌, true, Some, None, [], ◌∷◌, refl, ap, ◌∙◌, arith}
use Rattle.flow_numbered.specs.Numbered.{Store, added, with_thing}
use Rattle.flow_cell.specs.Cells.{CellTree, Counts, held, released, unset, count_of}
use Rattle.flow_cell.specs.Waiting.{has_waiter, without_newest}
use Rattle.flow_parts_tests.proofs.cells.releases.Goals as goal

pub release-requires-clause-there : goal.release-requires-clause-there
release-requires-clause-there c =
    let s0 = c.in_ok-make.ensures.ok ∙ ap (λ (s : Store (CellTree ℕ)). record { things = added s.things 4 unset; greatest = 4 }) c.requires in
    let s1 = (rw s0 at c.hold.ensures) _ refl in
    rw s1 refl

pub release-requires-clause-counts : goal.release-requires-clause-counts
release-requires-clause-counts c =
    let s0 = c.in_ok-make.ensures.ok ∙ ap (λ (s : Store (CellTree ℕ)). record { things = added s.things 4 unset; greatest = 4 }) c.requires in
    let s1 = (rw s0 at c.hold.ensures) _ refl in
    rw s1 (λ x is. let same : record unset { references = record { promises = 0; futures = 1 } } ≡ x = cc is in rw (← same) (omega arith))
