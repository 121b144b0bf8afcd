-- One process, generic in its actors: its state, and what it means to be an actor.
use Rattle.std.specs.Prelude.{ℕ, Bool, List}
use Rattle.std.specs.declared.option.Option.{Option}
use Rattle.flow_value.specs.declared.value.Kind.{Kind}
use Rattle.flow_value.specs.Values.{ValueTree, OutcomeTree}
use Rattle.flow_trace.specs.declared.line.Line.{Line}
use Rattle.flow_numbered.specs.Numbered.{Numbered}
use Rattle.flow_meaning.specs.Cells.{Side, Ref, Cell}
use Rattle.flow_meaning.specs.Requests.{Spot, Ask}

-- Work that a process still has to do. The values and references in it count as stored.
pub data Task : Type 0 where
  -- the actor takes its next step
  Run : (actor : ℕ) → Task
  -- the actor goes on at a branch that was taken, with what it took
  Give : (actor branch : ℕ) → OutcomeTree → Task
  -- an error is thrown where the actor stands
  Throw : (actor error : ℕ) → Task
  -- the actor's handler begins
  Catch : (actor error : ℕ) → Task
  -- the result of an effect is stored by the actor
  Store : (actor : ℕ) → ValueTree → Task
  -- an operand of the actor's wait is kept
  Keep : (actor : ℕ) → Spot → Ref → Task
  -- the actor ends
  Close : (actor : ℕ) → OutcomeTree → Task
  -- the waiters of a cell take their branches
  Fire : (cell : ℕ) → Task
  -- a reference is dropped
  Drop : Kind → (cell : ℕ) → Task

-- What a process keeps of an unfinished actor: the place of its declaration among the actors, its result, whether it is
-- marked as cancelled, whether it is suspended, and its wait in progress with the operands kept so far, or, where it
-- is suspended, those at whose cells it waits.
pub record Entry : Type 0 where
  pub class : ℕ
  pub result : Option ℕ
  pub marked : Bool
  pub suspended : Bool
  pub spot : Spot
  pub operands : List Ref

-- why an event was stopped: it needed more turns than there were, or the text has no meaning
pub data Halt : Type 0 where
  Spent : Halt
  NoMeaning : Halt

-- What a process holds beside its actors: cells and unfinished actors by number, and how many were numbered so far;
-- the hold on the result of `main`; the stream of each port; the cells for which a timer or a disk request is
-- open; the tasks, newest first; and of the event the lines so far, the turns left, and why it was stopped.
pub record Core : Type 0 where
  pub cells : Numbered Cell
  pub made : ℕ
  pub entries : Numbered Entry
  pub started : ℕ
  pub main : Option ℕ
  pub ports : Numbered ℕ
  pub requests : List ℕ
  pub tasks : List Task
  pub lines : List Line
  pub left : ℕ
  pub halted : Option Halt

pub record Proc (A : Type 0) : Type 0 where
  pub core : Core
  pub actors : Numbered A

-- what an actor sees while it evaluates: what the set cells hold, the time, the turns left, and how many operands of
-- its wait in progress are kept
pub record View : Type 0 where
  pub cells : ℕ → Option OutcomeTree
  pub now : ℕ
  pub left : ℕ
  pub kept : ℕ

-- where an error goes: to a handler or out of the actor, and the values that left the variables, newest first
pub record Raised : Type 0 where
  pub caught : Bool
  pub values : List ValueTree

-- How actors of a kind run. Each answer is what the actor hands out, and the actor afterwards.
pub record Engine (A : Type 0) : Type 0 where
  -- the place of `main` among the actors, and the name of the actor at a place
  pub main : ℕ
  pub label : ℕ → List ℕ
  -- an actor that starts, from its place and its arguments
  pub fresh : ℕ → List ValueTree → Option A
  -- its next step: it asks for one thing, or for nothing
  pub next : View → A → Option Ask × A
  -- all locals leave the variables, newest first
  pub lose : A → List ValueTree × A
  -- the result of an effect comes: the values that it replaces
  pub store : ValueTree → A → List ValueTree × A
  -- a branch is taken with a value: the values that it replaces
  pub take : (branch : ℕ) → ValueTree → A → List ValueTree × A
  -- an error is thrown: the actor stands before its handler, or is over
  pub raise : (error : ℕ) → A → Raised × A
  -- how often its variables refer to a side of a cell
  pub occ : Side → (cell : ℕ) → A → ℕ
