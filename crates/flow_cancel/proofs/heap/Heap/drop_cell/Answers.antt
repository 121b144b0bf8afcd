use Rattle.std.proofs.Common.{◌≡◌, ℕ, Bool, is_some, Some, None, refl, sym, ap, ap₂, ◌∙◌, subst}
use Rattle.flow_value.specs.declared.value.Outcome.{Outcome}
use Rattle.flow_numbered.specs.Numbered.{Store, thing, with_thing}
use Rattle.flow_cell.specs.declared.counts.Side.{Side}
use Rattle.flow_cell.specs.declared.counts.Loss.{Loss}
use Rattle.flow_cell.specs.declared.counts.Loss.TheVariants as loss
use Rattle.flow_cell.specs.Cells.{CellTree, loss, released}
use Rattle.flow_cancel.specs.declared.task.Dropped.{Dropped}
use Rattle.flow_cancel.specs.declared.task.Dropped.TheVariants.{Freed}
use Rattle.flow_cancel.specs.contracts.heap.Heap.{the_view}
use Rattle.flow_cancel.specs.Heap.{HeapTree}
use Rattle.flow_cancel.specs.Dropping.{Lost, broken_if_not, cell_less, cell_lost, drop_cell, freed_cell, put_cell}
use Rattle.flow_cancel.proofs.Puts.{found_put}
use Rattle.flow_cancel.proofs.Losses.{CellLoses, cell_loses, none_left, freed_less}
use Rattle.flow_cancel.proofs.heap.Heap.drop_cell.Goals as goal

-- the cell after the loss
less : (s : Side) (k : ℕ) (old new : Store (CellTree Outcome)) (l : CellLoses s (thing old.things k)) → new ≡ with_thing old k (cell_less s l.cell)
    → thing new.things k ≡ Some (cell_less s l.cell)
less s k old new l e = ap (λ (x : Store (CellTree Outcome)). thing x.things k) e ∙ found_put old.things k l.cell (cell_less s l.cell) l.there

pub is_set-requires : goal.is_set-requires
is_set-requires c =
    let l = cell_loses c.args.side (thing c.self.inside.cells.things c.args.cell.0) (rw (← c.self.view_is) at c.requires) in
    rw (less c.args.side c.args.cell.0 c.self.inside.cells c.release.new.self l (c.release.ensures.counts l.cell l.there)) refl

pub free_cell-requires-clause-there : goal.free_cell-requires-clause-there
free_cell-requires-clause-there c =
    let l = cell_loses c.args.side (thing c.self.inside.cells.things c.args.cell.0) (rw (← c.self.view_is) at c.requires) in
    rw (less c.args.side c.args.cell.0 c.self.inside.cells c.release.new.self l (c.release.ensures.counts l.cell l.there)) refl

pub free_cell-requires-clause-references : goal.free_cell-requires-clause-references
free_cell-requires-clause-references c = λ x is.
    let l = cell_loses c.args.side (thing c.self.inside.cells.things c.args.cell.0) (rw (← c.self.view_is) at c.requires) in
    let there = less c.args.side c.args.cell.0 c.self.inside.cells c.release.new.self l (c.release.ensures.counts l.cell l.there) in
    let same : x ≡ cell_less c.args.side l.cell = cc (there, is) in
    ap (λ (y : CellTree Outcome). y.references) same ∙ none_left c.args.side _ (sym (c.release.ensures.loss l.cell l.there) ∙ c.in-Gone.is)

pub free_cell-requires-clause-waiters : goal.free_cell-requires-clause-waiters
free_cell-requires-clause-waiters c = λ x is.
    let l = cell_loses c.args.side (thing c.self.inside.cells.things c.args.cell.0) (rw (← c.self.view_is) at c.requires) in
    let there = less c.args.side c.args.cell.0 c.self.inside.cells c.release.new.self l (c.release.ensures.counts l.cell l.there) in
    let same : x ≡ cell_less c.args.side l.cell = cc (there, is) in
    ap (λ (y : CellTree Outcome). y.waiters) same ∙ l.alone (sym (c.release.ensures.loss l.cell l.there) ∙ c.in-Gone.is)

-- the heap after the loss, by what the loss leaves
lost : (s : Side) (k : ℕ) (h : HeapTree) (l : CellLoses s (thing h.cells.things k)) (m : Loss) → loss s (released s l.cell.references) ≡ m
    → drop_cell s k h (thing h.cells.things k) ≡ cell_lost k (cell_less s l.cell) h m
lost s k h l m e = ap (drop_cell s k h) l.there ∙ ap (cell_lost k (cell_less s l.cell) h) e

pub returns-in-LastPromise : goal.returns-in-LastPromise
returns-in-LastPromise c =
    let h = the_view c.self.inside in
    let k = c.args.cell.0 in
    let l = cell_loses c.args.side (thing c.self.inside.cells.things k) (rw (← c.self.view_is) at c.requires) in
    let counts = c.release.ensures.counts l.cell l.there in
    let there = less c.args.side k c.self.inside.cells c.release.new.self l counts in
    rw (← c.self.view_is)
    (ap₂ (λ (s : Store (CellTree Outcome)) (d : Dropped). (record h { cells = s }, d)) counts
    (c.broken_if_not.ensures ∙ ap broken_if_not (c.is_set.ensures (cell_less c.args.side l.cell) there))
    ∙ sym (lost c.args.side k h l loss.LastPromise (sym (c.release.ensures.loss l.cell l.there) ∙ c.in-LastPromise.is)))

pub returns-in_ok-free_cell-in-Gone : goal.returns-in_ok-free_cell-in-Gone
returns-in_ok-free_cell-in-Gone c =
    let h = the_view c.self.inside in
    let k = c.args.cell.0 in
    let l = cell_loses c.args.side (thing c.self.inside.cells.things k) (rw (← c.self.view_is) at c.requires) in
    let counts = c.release.ensures.counts l.cell l.there in
    let gone =
    c.in_ok-free_cell-in-Gone.ensures ∙ ap (λ (s : Store (CellTree Outcome)). freed_cell k (record h { cells = s }) (thing s.things k)) counts
    ∙ freed_less k l.cell (cell_less c.args.side l.cell) h l.there in
    rw (← c.self.view_is)
    (ap (λ (x : HeapTree). (x, Freed)) gone
    ∙ sym (lost c.args.side k h l loss.Gone (sym (c.release.ensures.loss l.cell l.there) ∙ c.in-Gone.is)))
