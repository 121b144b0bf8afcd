-- What a process does to its own state: turns, lines, cells, waits, drops and cancelling. An act that takes a turn is
-- done after it, and not at all where no turn is left.
use Rattle.std.specs.Prelude.{ℕ, zero, suc, nat_eq, Bool, true, false, not, ◌&&◌, List, [], ◌∷◌, ◌++◌, if◌then◌else◌}
use Rattle.std.specs.declared.option.Option.{Option}
use Rattle.std.specs.declared.option.Option.TheVariants.{None, Some}
use Rattle.flow_value.specs.Values.{ValueTree, OutcomeTree}
use Rattle.flow_trace.specs.declared.line.Line.{Line}
use Rattle.flow_base.specs.ErrorNumbers.{operation_cancelled}
use Rattle.flow_numbered.specs.Numbered.{Numbered, thing, added, put, removed}
use Rattle.flow_meaning.specs.Cells.{Ref, Waiter, Cell, is_ready, held, filled, taken, after_taking, with_waiter, is_busy, left_by}
use Rattle.flow_meaning.specs.Process.{Task, Give, Throw, Fire, Drop, Entry, Halt, Spent, NoMeaning, Core}
use Rattle.flow_meaning.specs.Lines.{take_line, cancel_line}
use Rattle.flow_meaning.specs.References.{refs_in}

-- the event is stopped
abbrev pub halt : Halt → Core → Core
halt h c = record c { halted = Some h }

-- a turn is taken and then the act is done; where no turn is left, the event is spent
abbrev pub turn_of : ℕ → Core → (Core → Core) → Core
turn_of zero c act = halt Spent c
turn_of (suc n) c act = act (record c { left = n })

abbrev pub turn : Core → (Core → Core) → Core
turn c act = turn_of c.left c act

-- a line is written
abbrev pub writes : Line → Core → Core
writes line c = record c { lines = c.lines ++ line ∷ [] }

-- a task comes on top
abbrev pub pushed : Task → Core → Core
pushed t c = record c { tasks = t ∷ c.tasks }

-- drops of references on top of tasks, the first reference first
abbrev pub drops : List Ref → List Task → List Task
drops [] ts = ts
drops (r ∷ rs) ts = Drop r.0 r.1 ∷ drops rs ts

-- references, and those of values, are dropped in order
abbrev pub dropping : List Ref → Core → Core
dropping rs c = record c { tasks = drops rs c.tasks }

abbrev pub dropping_values : List ValueTree → Core → Core
dropping_values vs c = dropping (refs_in vs) c

-- a new cell with the next number
abbrev pub new_cell : Cell → Core → Core
new_cell cell c = record c { made = suc c.made; cells = added c.cells (suc c.made) cell }

-- a cell gets content and fires
abbrev pub fill_cell : ℕ → OutcomeTree → Option Cell → Core → Core
fill_cell k o None c = halt NoMeaning c
fill_cell k o (Some cell) c = record c { cells = put c.cells k (filled cell o); tasks = Fire k ∷ c.tasks }

abbrev pub fill : ℕ → OutcomeTree → Core → Core
fill k o c = fill_cell k o (thing c.cells k) c

-- a cell is gone, and what stood in it is dropped in order
abbrev pub free_cell : ℕ → Option Cell → Core → Core
free_cell k None c = halt NoMeaning c
free_cell k (Some cell) c = dropping_values (held cell) (record c { cells = removed c.cells k })

abbrev pub free : ℕ → Core → Core
free k c = free_cell k (thing c.cells k) c

-- An actor leaves its wait: its waiters leave all cells at once, and it runs with no operand.
abbrev pub left_cells : (actor : ℕ) → Numbered Cell → Numbered Cell
left_cells i [] = []
left_cells i (x ∷ xs) = (x.0, left_by i x.1) ∷ left_cells i xs

abbrev pub running : Entry → Entry
running e = record e { suspended = false; operands = [] }

abbrev pub leave : (actor : ℕ) → Entry → Core → Core
leave i e c = record c { cells = left_cells i c.cells; entries = put c.entries i (running e) }

-- The actor leaves its wait: the operands are dropped in order, then these values, and then it goes on by the task.
abbrev pub leave_for : (actor : ℕ) → Entry → List ValueTree → Task → Core → Core
leave_for i e vs t c = record (leave i e c) { tasks = drops e.operands (drops (refs_in vs) (t ∷ c.tasks)) }

-- A branch is taken: a turn, the line, what the cell gives; then the actor leaves the wait with these values.
abbrev pub give : (actor branch : ℕ) → Entry → List ValueTree → Option OutcomeTree → Core → Core
give i b e vs None c = halt NoMeaning c
give i b e vs (Some o) c = leave_for i e vs (Give i b o) c

abbrev pub take_from : (actor branch cell : ℕ) → Entry → List ValueTree → Cell → Core → Core
take_from i b k e vs cell c =
    turn c (λ d. give i b e vs (taken cell) (record (writes (take_line i e.spot.group b) d) { cells = put d.cells k (after_taking cell) }))

abbrev pub take_branch : (actor branch cell : ℕ) → Entry → List ValueTree → Option Cell → Core → Core
take_branch i b k e vs None c = halt NoMeaning c
take_branch i b k e vs (Some cell) c = take_from i b k e vs cell c

-- the first of the operands that is ready: its branch and its cell
abbrev pub is_ready_at : Option Cell → Bool
is_ready_at None = false
is_ready_at (Some cell) = is_ready cell

abbrev pub first_ready : Numbered Cell → (branch : ℕ) → List Ref → Option (ℕ × ℕ)
first_ready cells b [] = None
first_ready cells b (r ∷ rs) = if is_ready_at (thing cells r.1) then Some (b, r.1) else first_ready cells (suc b) rs

-- the actor's registration at all operands in order: the cells afterwards; a stream that has a waiter refuses; a cell
-- that isn't there has no meaning
pub data Registration : Type 0 where
  Registered : Numbered Cell → Registration
  Refused : Registration
  Missing : Registration

abbrev pub register_at : Waiter → (cell : ℕ) → Numbered Cell → Option Cell → Registration
register_at w k cells None = Missing
register_at w k cells (Some cell) = if is_busy cell then Refused else Registered (put cells k (with_waiter cell w))

abbrev pub register_one : Waiter → (cell : ℕ) → Registration → Registration
register_one w k (Registered cells) = register_at w k cells (thing cells k)
register_one w k Refused = Refused
register_one w k Missing = Missing

abbrev pub register : (actor branch : ℕ) → List Ref → Registration → Registration
register i b [] cells = cells
register i b (r ∷ rs) cells = register i (suc b) rs (register_one (record { actor = i; branch = b }) r.1 cells)

-- The actor whose result a cell is, if it is unfinished and unmarked.
abbrev pub is_result : ℕ → Option ℕ → Bool
is_result k None = false
is_result k (Some cell) = nat_eq k cell

abbrev pub owner : ℕ → Numbered Entry → Option (ℕ × Entry)
owner k [] = None
owner k (x ∷ xs) = if is_result k x.1.result && not x.1.marked then Some x else owner k xs

-- The actor is marked; a suspended one leaves its wait, and `operation_cancelled` is thrown there.
abbrev pub marked : Entry → Entry
marked e = record e { marked = true }

abbrev pub cancel_by : (suspended : Bool) → (actor : ℕ) → Entry → Core → Core
cancel_by true i e c = leave_for i (marked e) [] (Throw i operation_cancelled) c
cancel_by false i e c = record c { entries = put c.entries i (marked e) }

abbrev pub cancel : (actor : ℕ) → Entry → Core → Core
cancel i e c = cancel_by e.suspended i e (writes (cancel_line i) c)

abbrev pub cancel_owner : Option (ℕ × Entry) → Core → Core
cancel_owner None c = c
cancel_owner (Some o) c = cancel o.0 o.1 c
