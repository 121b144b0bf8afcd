-- When operands, branches and waits go astray: what is looked for isn't there.
use Rattle.std.specs.Prelude.{◌≡◌, ◌⊎◌, ◌<◌, ℕ, true, List, [], ◌∷◌}
use Rattle.std.specs.declared.option.Option.{Option}
use Rattle.std.specs.declared.option.Option.TheVariants.{None, Some}
use Rattle.flow_value.specs.declared.value.Value.{Value}
use Rattle.flow_value.specs.declared.value.Outcome.{Outcome}
use Rattle.flow_numbered.specs.Numbered.{thing}
use Rattle.flow_code.specs.declared.class.Block.{Block}
use Rattle.flow_code.specs.declared.class.Group.{Group}
use Rattle.flow_code.specs.declared.class.Last.TheVariants as last
use Rattle.flow_code.specs.View.{group_numbered}
use Rattle.flow_cell.specs.Cells.{CellTree}
use Rattle.flow_stream.specs.Streams.{StreamTree, head}
use Rattle.flow_stream.specs.declared.head.Head.TheVariants.{Nothing}
use Rattle.flow_frame.specs.declared.held.Held.{Held}
use Rattle.flow_cancel.specs.Heap.{HeapTree}
use Rattle.flow_steps.specs.declared.frames.ControlPoint.{ControlPoint}
use Rattle.flow_steps.specs.Holding.{outcome_refs}
use Rattle.flow_steps.specs.Waiting.{callbacks_of, first_ready, ready_at}
use Rattle.flow_steps.specs.Stuck.{CellMissing, StreamMissing, SomeMissing, FrameMissing}

-- a block ends with no wait
abbrev pub NoWait : Block → Type 0
NoWait b = (g : ℕ) → b.last ≡ last.Choose g → ⊥

-- An actor's wait has no branch of a number through its class: there is no wait, or no such group, or its branches begin later.
pub data NoBranchOf (s : ControlPoint) (callback : ℕ) : Type 0 where
  no_wait : NoWait s.block.now → NoBranchOf s callback
  no_group : (g : ℕ) → s.block.now.last ≡ last.Choose g → group_numbered g s.class.now.groups.items ≡ None
      → NoBranchOf s callback
  before_first : (g : ℕ) (of : Group) → s.block.now.last ≡ last.Choose g
      → group_numbered g s.class.now.groups.items ≡ Some of → callback < of.first → NoBranchOf s callback

-- A branch can take nothing from a cell: there is no such cell; or a single result isn't set, or a reference of what it holds is
-- missing; or a stream has neither an element nor an end.
abbrev pub NoCopy : Option Outcome → HeapTree → Type 0
NoCopy None h = Unit {0}
NoCopy (Some o) h = SomeMissing (outcome_refs o) h

abbrev pub NoCopyIn : Option (CellTree Outcome) → HeapTree → Type 0
NoCopyIn None h = Unit {0}
NoCopyIn (Some c) h = NoCopy c.content h

abbrev pub NoHead : Option (StreamTree Value) → Type 0
NoHead None = Unit {0}
NoHead (Some s) = head s.queue s.end ≡ Nothing

abbrev pub NothingIn : Option (CellTree Outcome) → Option (StreamTree Value) → HeapTree → Type 0
NothingIn (Some c) s h = NoCopyIn (Some c) h
NothingIn None s h = NoHead s

abbrev pub NothingTaken : (cell : ℕ) → HeapTree → Type 0
NothingTaken k h = NothingIn (thing h.cells.things k) (thing h.streams.things k) h

-- a branch of an actor's wait doesn't take what a cell gives: there is no wait, or nothing to take, or no frame
abbrev pub TakesStuck : ControlPoint → (cell : ℕ) → HeapTree → Type 0
TakesStuck s k h = NoWait s.block.now ⊎ NothingTaken k h ⊎ FrameMissing s.actor.0 h

-- an operand that is ready has no branch, or that doesn't take what the cell gives
abbrev pub ReadyStuck : ControlPoint → Held → HeapTree → Type 0
ReadyStuck s x h = NoBranchOf s x.callback ⊎ TakesStuck s x.cell.0 h

-- An operand isn't kept: the actor is no unfinished one, or has no frame; or the operand is ready, and that goes amiss.
pub data KeepsStuck (s : ControlPoint) (x : Held) (h : HeapTree) : Type 0 where
  finished : thing h.actors.things s.actor.0 ≡ None → KeepsStuck s x h
  no_frame : FrameMissing s.actor.0 h → KeepsStuck s x h
  when_ready : ready_at x.cell.0 h ≡ true → ReadyStuck s x h → KeepsStuck s x h

-- at a number there is neither a single result nor a stream; so it is at one of the operands' cells
abbrev pub NoCell : (cell : ℕ) → HeapTree → Type 0
NoCell k h = CellMissing k h × StreamMissing k h

abbrev pub SomeNoCell : List Held → HeapTree → Type 0
SomeNoCell [] h = ⊥
SomeNoCell (x ∷ xs) h = NoCell x.cell.0 h ⊎ SomeNoCell xs h

-- A wait doesn't begin: the first operand that is ready goes amiss, or one has no cell, or the actor has no frame.
pub data WaitsStuck (s : ControlPoint) (h : HeapTree) : Type 0 where
  first_stuck : (x : Held) → first_ready h (callbacks_of s.actor.0 h) ≡ Some x → ReadyStuck s x h → WaitsStuck s h
  no_cell : SomeNoCell (callbacks_of s.actor.0 h) h → WaitsStuck s h
  frameless : FrameMissing s.actor.0 h → WaitsStuck s h
