use Rattle.std.proofs.Common.{◌≡◌, ℕ, ◌+◌, ◌<◌, ◌^◌, true, Some, None, [], ◌∷◌, refl, ap, ◌∙◌, arith}
use Rattle.flow_numbered.specs.Numbered.{Store, added, with_thing}
use Rattle.flow_cell.specs.Cells.{CellTree, Counts, held, released, unset, count_of}
use Rattle.flow_cell.specs.Waiting.{has_waiter, without_newest}
use Rattle.flow_parts_tests.proofs.cells.tells_content.Goals as goal

pub content-requires-2 : goal.content-requires-2
content-requires-2 c =
    let s0 = c.in_ok-make.ensures.ok ∙ ap (λ (s : Store (CellTree ℕ)). record { things = added s.things 4 unset; greatest = 4 }) c.requires in
    let s1 = (rw s0 at c.set.ensures) _ refl in
    rw s1 refl
