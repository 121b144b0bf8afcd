use Rattle.std.proofs.Common.{◌≡◌, refl, sym, ap}
use Rattle.flow_cell.specs.Cells.{unset}
use Rattle.flow_heapstate.proofs.Building.{new_is, then_new}
use Rattle.flow_heapstate.proofs.restoring.make_cell.Goals as goal

pub set_cell-requires-clause-there : goal.set_cell-requires-clause-there
set_cell-requires-clause-there c = rw (new_is _ _ _ _ c.requires.rising c.requires.above c.in_ok-make.ensures.ok) refl

pub set_cell-requires-clause-unset : goal.set_cell-requires-clause-unset
set_cell-requires-clause-unset c = λ x e.
    let now = new_is _ _ _ _ c.requires.rising c.requires.above c.in_ok-make.ensures.ok in
    let same : unset ≡ x = cc (now, e) in
    sym (ap (λ y. y.content) same)

pub add_waiters-requires : goal.add_waiters-requires
add_waiters-requires c =
    let now = new_is _ _ _ _ c.requires.rising c.requires.above c.in_ok-make.ensures.ok in
    let done = then_new _ _ _ _ _ _ c.requires.rising c.requires.above c.in_ok-make.ensures.ok (c.set_cell.ensures _ now) in
    rw (new_is _ _ _ _ c.requires.rising c.requires.above done) refl

pub returns : goal.returns
returns c =
    let now = new_is _ _ _ _ c.requires.rising c.requires.above c.in_ok-make.ensures.ok in
    let done = then_new _ _ _ _ _ _ c.requires.rising c.requires.above c.in_ok-make.ensures.ok (c.set_cell.ensures _ now) in
    let then_now = new_is _ _ _ _ c.requires.rising c.requires.above done in
    then_new _ _ _ _ _ _ c.requires.rising c.requires.above done (c.in_ok-add_waiters.ensures _ then_now)
