-- Cells in memory, seen as plain data.
use Rattle.std.specs.Prelude.{ℕ, [], ◌∷◌}
use Rattle.std.specs.declared.option.Option.{Option}
use Rattle.std.specs.declared.option.Option.TheVariants.{None, Some}
use Rattle.flow_numbered.specs.declared.links.Ends.{Ends}
use Rattle.flow_numbered.specs.Links.{Slots}
use Rattle.flow_numbered.specs.Numbered.{Numbered, thing}
use Rattle.flow_cell.specs.Cells.{CellTree}
use Rattle.flow_cell.specs.Lines.{list_ends, waiters_at}
use Rattle.flow_cell.specs.declared.queue.Waiting.{Waiting}
use Rattle.flow_cell.specs.declared.cell.Cell.{Cell}

module _ {T : Type 0} where
  abbrev pub tree : Slots Waiting → Cell T → CellTree T
  tree at c = record { content = c.content; references = c.references; waiters = waiters_at at c.waiters }

  abbrev pub seen : Slots Waiting → Numbered (Cell T) → Numbered (CellTree T)
  seen at [] = []
  seen at (x ∷ xs) = (x.0, tree at x.1) ∷ seen at xs

  -- the ends of the list of a cell's waiters
  abbrev pub ends_of : Option (Cell T) → Option Ends
  ends_of None = None
  ends_of (Some c) = Some (list_ends c.waiters)

  abbrev pub ends_in : Numbered (Cell T) → ℕ → Option Ends
  ends_in cells n = ends_of (thing cells n)
