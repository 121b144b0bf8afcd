-- How often the state of a process refers to one side of a cell, by a scan of the whole state.
use Rattle.std.specs.Prelude.{ℕ, ◌+◌, nat_eq, Bool, true, false, ◌&&◌, List, [], ◌∷◌, ◌++◌, if◌then◌else◌}
use Rattle.std.specs.declared.option.Option.{Option}
use Rattle.std.specs.declared.option.Option.TheVariants.{None, Some}
use Rattle.flow_value.specs.Values.{ValueTree, OutcomeTree, GoodOutcome, BadOutcome, refs_of}
use Rattle.flow_numbered.specs.Numbered.{Numbered}
use Rattle.flow_meaning.specs.Cells.{Side, PromiseSide, FutureSide, Ref, side_of, Waiter, Cell, waiters, held}
use Rattle.flow_meaning.specs.Process.{Task, Run, Give, Throw, Catch, Store, Keep, Close, Fire, Drop, Entry, Core}

abbrev pub same_side : Side → Side → Bool
same_side PromiseSide PromiseSide = true
same_side PromiseSide FutureSide = false
same_side FutureSide PromiseSide = false
same_side FutureSide FutureSide = true

-- the references of values in order
abbrev pub refs_in : List ValueTree → List Ref
refs_in [] = []
refs_in (v ∷ vs) = refs_of v ++ refs_in vs

-- the values that an outcome holds
abbrev pub value_in : OutcomeTree → List ValueTree
value_in (GoodOutcome v) = v ∷ []
value_in (BadOutcome e) = []

-- What is counted: one side of the cell with number k.
module _ (s : Side) (k : ℕ) where
  -- a place that refers to that side of a cell
  abbrev pub one : Side → ℕ → ℕ
  one side cell = if same_side s side && nat_eq k cell then 1 else 0

  abbrev pub count : List Ref → ℕ
  count [] = 0
  count (r ∷ rs) = one (side_of r.0) r.1 + count rs

  abbrev pub count_maybe : Side → Option ℕ → ℕ
  count_maybe side None = 0
  count_maybe side (Some cell) = one side cell

  -- each waiter of a cell is a future reference to it
  abbrev pub count_waiters : (cell : ℕ) → List Waiter → ℕ
  count_waiters cell [] = 0
  count_waiters cell (w ∷ ws) = one FutureSide cell + count_waiters cell ws

  -- cells: their waiters, and what stands in them
  abbrev pub in_cells : Numbered Cell → ℕ
  in_cells [] = 0
  in_cells (x ∷ xs) = count_waiters x.0 (waiters x.1) + count (refs_in (held x.1)) + in_cells xs

  -- an operand that is kept counts; a suspended actor's operands are counted as waiters
  abbrev pub count_kept : (suspended : Bool) → List Ref → ℕ
  count_kept true rs = 0
  count_kept false rs = count rs

  -- unfinished actors: each is a promise reference of its result
  abbrev pub in_entries : Numbered Entry → ℕ
  in_entries [] = 0
  in_entries (x ∷ xs) = count_maybe PromiseSide x.1.result + count_kept x.1.suspended x.1.operands + in_entries xs

  -- tasks: what they hold, and a fire in progress as a future reference
  abbrev pub in_task : Task → ℕ
  in_task (Run i) = 0
  in_task (Give i b o) = count (refs_in (value_in o))
  in_task (Throw i e) = 0
  in_task (Catch i e) = 0
  in_task (Store i v) = count (refs_of v)
  in_task (Keep i spot r) = one (side_of r.0) r.1
  in_task (Close i o) = count (refs_in (value_in o))
  in_task (Fire cell) = one FutureSide cell
  in_task (Drop kind cell) = one (side_of kind) cell

  abbrev pub in_tasks : List Task → ℕ
  in_tasks [] = 0
  in_tasks (t ∷ ts) = in_task t + in_tasks ts

  -- a port is a promise reference of its stream, and an open timer or disk request one of its cell
  abbrev pub in_ports : Numbered ℕ → ℕ
  in_ports [] = 0
  in_ports (x ∷ xs) = one PromiseSide x.1 + in_ports xs

  abbrev pub in_requests : List ℕ → ℕ
  in_requests [] = 0
  in_requests (cell ∷ cells) = one PromiseSide cell + in_requests cells

  -- what is found outside the variables of actors
  abbrev pub in_core : Core → ℕ
  in_core c =
      in_cells c.cells + in_entries c.entries + in_tasks c.tasks + in_ports c.ports + in_requests c.requests + count_maybe FutureSide c.main

-- the references to a side of a cell that actors' variables hold
abbrev pub Scan : Type 0
Scan = Side → ℕ → ℕ

-- the references to a side of a cell in the whole state
abbrev pub reference_count : Scan → Side → ℕ → Core → ℕ
reference_count scan s k c = scan s k + in_core s k c

-- what the variables of all actors hold
abbrev pub scan_of : {A : Type 0} → (Side → ℕ → A → ℕ) → Numbered A → Scan
scan_of occ [] s k = 0
scan_of occ (x ∷ xs) s k = occ s k x.1 + scan_of occ xs s k
