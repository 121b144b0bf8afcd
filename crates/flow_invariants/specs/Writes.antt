-- What a step writes, write by write. What each of these writes keeps of the things that stand in a process, each step and each kind of
-- event keeps: an invariant of what stands in a process owes this record alone, and `proofs/Writes` gives its `Invariant`.
use Rattle.std.specs.Prelude.{◌≡◌, ℕ, suc, true, List, [], ◌∷◌, ◌++◌}
use Rattle.std.specs.declared.option.Option.TheVariants.{None, Some}
use Rattle.flow_value.specs.Values.{ValueTree, GoodOutcome}
use Rattle.flow_numbered.specs.Numbered.{Numbered, thing, added, put, removed}
use Rattle.flow_meaning.specs.Cells.{Cell, Single, Stream, Waiter, filled, after_taking, with_waiter}
use Rattle.flow_meaning.specs.Process.{Entry, Core}
use Rattle.flow_meaning.specs.Orderly.{Rising}
use Rattle.flow_meaning.specs.Deliver.{closed_request}
use Rattle.flow_meaning.specs.Step.{entry_of}
use Rattle.flow_meaning.specs.Work.{left_cells}
use Rattle.flow_heap_refinement.specs.Alone.{owners_of}
use Rattle.flow_heap_refinement.specs.CellsTied.{CellsTied}
use Rattle.flow_heap_refinement.specs.Rested.{has}

-- what stands in a process: its tasks, lines and turns aside, and whether it holds its `main`
pub record Things : Type 0 where
  pub cells : Numbered Cell
  pub made : ℕ
  pub entries : Numbered Entry
  pub started : ℕ
  pub ports : Numbered ℕ
  pub requests : List ℕ

abbrev pub things_of : Core → Things
things_of c = record { cells = c.cells; made = c.made; entries = c.entries; started = c.started; ports = c.ports; requests = c.requests }

abbrev pub HoldsOfThings : (Things → Type 0) → Core → Type 0
HoldsOfThings P c = P (things_of c)

-- an actor's entry becomes another: of the same result, and marked as cancelled if the first was
pub record EntryBecomes (old new : Entry) : Type 0 where
  pub result : new.result ≡ old.result
  pub marked : old.marked ≡ true → new.marked ≡ true

-- a new cell with the next number
abbrev pub with_cell : Core → Cell → Core
with_cell c cell = record c { made = suc c.made; cells = added c.cells (suc c.made) cell }

-- Each write keeps it.
pub record KeptByWrites (P : Things → Type 0) : Type 0 where
  -- a cell that the process didn't make for itself is set, or goes
  pub sets : (c : Core) (k : ℕ) (old new : Cell) → owners_of k c ≡ 0 → thing c.cells k ≡ Some old → HoldsOfThings P c
      → HoldsOfThings P (record c { cells = put c.cells k new })
  pub goes : (c : Core) (k : ℕ) → owners_of k c ≡ 0 → HoldsOfThings P c → HoldsOfThings P (record c { cells = removed c.cells k })
  -- a cell is taken from, gets a waiter, an element more, or loses an actor's waiters
  pub taken : (c : Core) (k : ℕ) (old : Cell) → thing c.cells k ≡ Some old → HoldsOfThings P c
      → HoldsOfThings P (record c { cells = put c.cells k (after_taking old) })
  pub waited : (c : Core) (k : ℕ) (old : Cell) (w : Waiter) → thing c.cells k ≡ Some old → HoldsOfThings P c
      → HoldsOfThings P (record c { cells = put c.cells k (with_waiter old w) })
  pub element : (c : Core) (port k : ℕ) (old : Cell) (v : ValueTree) → CellsTied c → thing c.ports port ≡ Some k
      → thing c.cells k ≡ Some old → HoldsOfThings P c → HoldsOfThings P (record c { cells = put c.cells k (filled old (GoodOutcome v)) })
  pub left : (c : Core) (actor : ℕ) → HoldsOfThings P c → HoldsOfThings P (record c { cells = left_cells actor c.cells })
  -- an actor's entry changes, or is gone
  pub entry : (c : Core) (actor : ℕ) (old new : Entry) → thing c.entries actor ≡ Some old → EntryBecomes old new → HoldsOfThings P c
      → HoldsOfThings P (record c { entries = put c.entries actor new })
  pub ends : (c : Core) (actor : ℕ) → Rising 0 c.started c.entries → HoldsOfThings P c
      → HoldsOfThings P (record c { entries = removed c.entries actor })
  -- a port or a request is gone
  pub unheard : (c : Core) (port : ℕ) → HoldsOfThings P c → HoldsOfThings P (record c { ports = removed c.ports port })
  pub answered : (c : Core) (cell : ℕ) → has cell c.requests ≡ true → HoldsOfThings P c
      → HoldsOfThings P (record c { requests = closed_request cell c.requests })
  -- a cell is made: for a value, for a request, for a port, for the result of an actor
  pub makes : (c : Core) (cell : Cell) → CellsTied c → HoldsOfThings P c → HoldsOfThings P (with_cell c cell)
  pub asks : (c : Core) → CellsTied c → HoldsOfThings P c
      → HoldsOfThings P (with_cell (record c { requests = c.requests ++ suc c.made ∷ [] }) (Single None []))
  pub listens : (c : Core) (port : ℕ) → CellsTied c → HoldsOfThings P c
      → HoldsOfThings P (with_cell (record c { ports = added c.ports port (suc c.made) }) (Stream [] None None))
  pub starts : (c : Core) (class : ℕ) → CellsTied c → HoldsOfThings P c
      → HoldsOfThings P (record (with_cell c (Single None [])) {
        entries = added c.entries (suc c.started) (entry_of class (Some (suc c.made)));
        started = suc c.started;
      })
  -- a void actor starts without one
  pub starts_alone : (c : Core) (class : ℕ) → HoldsOfThings P c
      → HoldsOfThings P (record c { entries = added c.entries (suc c.started) (entry_of class None); started = suc c.started })
