-- Frames: actors that are run from classes. A frame has numbered slots and locals, and stands at an instruction.
use Rattle.std.specs.Prelude.{ℕ, suc, true, false, List, [], ◌∷◌, ◌++◌, slice_get, slice_set}
use Rattle.std.specs.declared.option.Option.{Option}
use Rattle.std.specs.declared.option.Option.TheVariants.{None, Some}
use Rattle.flow_tree.specs.declared.ty.Ident.{Ident}
use Rattle.flow_tree.specs.Tree.{VoidType}
use Rattle.flow_tree.specs.Decls.{RecordTree}
use Rattle.flow_value.specs.Values.{ValueTree, ErrorValue}
use Rattle.flow_eval.specs.Functions.{put_in, read_in}
use Rattle.flow_class.specs.declared.class.Slotted.{Slotted}
use Rattle.flow_class.specs.declared.class.Slotted.TheVariants.{Slot, Local}
use Rattle.flow_class.specs.Classes.{CatcherTree, ClassTree}
use Rattle.flow_class.specs.Places.{place_named}
use Rattle.flow_class.specs.Code.{catcher_at, callbacks_before}
use Rattle.flow_meaning.specs.Cells.{Side}
use Rattle.flow_meaning.specs.Requests.{Spot}
use Rattle.flow_meaning.specs.References.{count, refs_in}
use Rattle.flow_meaning.specs.Process.{Raised}
use Rattle.flow_meaning.specs.Evaluating.{bind}
use Rattle.flow_meaning.specs.Variables.{flat, filled}

-- what stands in the slots and in the locals
pub record Memory : Type 0 where
  pub slots : List (Option ValueTree)
  pub locals : List (Option ValueTree)

-- A frame: its class, its memory, its block and instruction, and its state number: the group at which it waits with all
-- operands, and else 0.
pub record Frame : Type 0 where
  pub code : ClassTree
  pub mem : Memory
  pub block : ℕ
  pub instr : ℕ
  pub state : ℕ

-- what stands at a place
abbrev pub read : Memory → Slotted → Option ValueTree
read m (Slot n) = flat (slice_get m.slots n)
read m (Local n) = flat (slice_get m.locals n)

abbrev pub look : Memory → List ℕ → Option ValueTree
look m x = bind (place_named x) (read m)

abbrev pub write : Memory → Slotted → Option ValueTree → Memory
write m (Slot n) o = record m { slots = slice_set m.slots n o }
write m (Local n) o = record m { locals = slice_set m.locals n o }

-- Locals by number, one after another: each is emptied as it is read, so that one that is named twice is dropped once.
-- What they held, and the memory without it.
abbrev pub held_in : Memory → List ℕ → List ValueTree
held_in m [] = []
held_in m (n ∷ ns) = filled (read m (Local n) ∷ []) ++ held_in (write m (Local n) None) ns

abbrev pub emptied : List ℕ → Memory → Memory
emptied [] m = m
emptied (n ∷ ns) m = emptied ns (write m (Local n) None)

-- the last one first
abbrev pub reversed : {A : Type 0} → List A → List A
reversed [] = []
reversed (x ∷ xs) = reversed xs ++ x ∷ []

abbrev pub blanks : {A : Type 0} → List A → List (Option ValueTree)
blanks [] = []
blanks (x ∷ xs) = None ∷ blanks xs

abbrev pub all_emptied : Memory → Memory
all_emptied m = record m { locals = blanks m.locals }

-- everything that a memory holds: the locals and then the slots, each by falling number
abbrev pub everything : Memory → List ValueTree
everything m = filled (reversed m.locals) ++ filled (reversed m.slots)

abbrev pub occ_memory : Side → ℕ → Memory → ℕ
occ_memory s k m = count s k (refs_in (everything m))

-- what a path leads to gets a value: what stood there, and the memory afterwards
abbrev pub put_root : Memory → Slotted → List ValueTree → Option ValueTree → Option (List ValueTree × Memory)
put_root m p old None = None
put_root m p old (Some root) = Some (old, write m p (Some root))

abbrev pub put_at : List RecordTree → Memory → Slotted → List Ident → ValueTree → Option (List ValueTree × Memory)
put_at rs m p [] v = Some (filled (read m p ∷ []), write m p (Some v))
put_at rs m p (y ∷ ys) v = put_root m p (filled (read_in rs (read m p) (y ∷ ys) ∷ [])) (put_in rs (read m p) (y ∷ ys) v)

abbrev pub assign : List RecordTree → Memory → List Ident → ValueTree → Option (List ValueTree × Memory)
assign rs m [] v = None
assign rs m (x ∷ xs) v = bind (place_named x.name) (λ p. put_at rs m p xs v)

-- the group of a class, with the number of its first callback
abbrev pub spot_of : ClassTree → (group : ℕ) → Spot
spot_of c g = record { group = g; first = callbacks_before c.groups g }

-- a frame goes on at a block, at its next instruction, or is over
abbrev pub go : (block : ℕ) → Memory → Frame → Frame
go b m f = record { code = f.code; mem = m; block = b; instr = 0; state = 0 }

abbrev pub next_instr : Memory → Frame → Frame
next_instr m f = record f { mem = m; instr = suc f.instr }

abbrev pub no_class : ClassTree
no_class = record { name = []; returns = VoidType; params = 0; slots = []; locals = []; blocks = []; groups = [] }

abbrev pub over : Frame
over = record { code = no_class; mem = record { slots = []; locals = [] }; block = 0; instr = 0; state = 0 }

-- all locals are emptied, by falling number
abbrev pub lose : Frame → List ValueTree × Frame
lose f = (filled (reversed f.mem.locals), record f { mem = all_emptied f.mem })

-- an error goes to the handler of the block, or out of the actor
abbrev pub with_error : Option ℕ → (error : ℕ) → Memory → Memory
with_error None err m = m
with_error (Some n) err m = write m (Local n) (Some (ErrorValue err))

abbrev pub raised : (error : ℕ) → Frame → Option CatcherTree → Raised × Frame
raised err f None = (record { caught = false; values = everything f.mem }, over)
raised err f (Some c) =
    (record { caught = true; values = held_in f.mem c.drops }, go c.block (with_error c.error err (emptied c.drops f.mem)) f)

abbrev pub raise : (error : ℕ) → Frame → Raised × Frame
raise err f = raised err f (catcher_at f.code f.block)
