-- What actors ask of their process, and what a process asks of the world: plain data, with no actor inside.
use Rattle.std.specs.Prelude.{ℕ, ℤ, List}
use Rattle.flow_value.specs.declared.value.Kind.{Kind}
use Rattle.flow_value.specs.Values.{ValueTree, OutcomeTree}
pub use Rattle.flow_simdisk.specs.Asks.{DiskCall, ReadCall, WriteCall, SyncCall, SizeCall}
use Rattle.flow_meaning.specs.Cells.{Ref}

-- a wait or choose of an actor's text: its number, from 1, and the number of its first branch among all branches of
-- the text, from 0
pub record Spot : Type 0 where
  pub group : ℕ
  pub first : ℕ

-- An effect: a new cell for a promise or for the promise side of a stream; the call of the actor at a place among the
-- declared actors; a drawn number; a timer; a result that never comes; a port; a request to the disk.
pub data Effect : Type 0 where
  Make : Kind → Effect
  Start : (class : ℕ) (args : List ValueTree) → Effect
  Draw : (lo hi : ℤ) → Effect
  Delay : (ticks : ℤ) → Effect
  Never : Effect
  Listen : (port : ℤ) → Effect
  Disk : DiskCall ℤ → Effect

-- where the result of an effect goes: into the actor's variables, or among the operands of the wait in progress
pub data Goal : Type 0 where
  Stored : Goal
  Kept : Spot → Goal

-- What one step of an actor asks.
pub data Act : Type 0 where
  -- nothing but the turns that were spent in evaluation
  Goes : Act
  -- a pass of a loop begins
  Pass : Act
  -- these values have left the variables and are dropped in order
  Drops : List ValueTree → Act
  -- an effect, and where its result goes
  Effects : Goal → Effect → Act
  -- a void actor is called, the one at a place among the declared actors: nothing comes back
  Starts : (class : ℕ) (args : List ValueTree) → Act
  -- the next operand of a wait
  Operand : Spot → Ref → Act
  -- all operands are kept; the locals have left the variables, newest first
  Waits : Spot → List ValueTree → Act
  -- a value or an error is sent into a cell
  Sends : (cell : ℕ) → OutcomeTree → Act
  -- the actor whose result a cell is is cancelled
  Cancels : (cell : ℕ) → Act
  -- a value is printed
  Prints : ValueTree → Act
  -- a text is sent to a port of a process
  SendsTo : (process port : ℤ) (text : List ℕ) → Act
  -- the actor ends with a value; everything has left the variables, newest first
  Returns : ValueTree → List ValueTree → Act
  -- an error is thrown
  Throws : (error : ℕ) → Act
  -- evaluation needed a turn, and none was left
  RunsOut : Act
  -- the text has no meaning here; in a checked program this never comes
  Stuck : Act

-- an act, with the turns that evaluation left
pub record Ask : Type 0 where
  pub left : ℕ
  pub act : Act

-- what a process asks of the world after a step: a word was drawn for one of so many numbers; a timer is wanted that sets a
-- cell at a time; a packet is sent; a disk is asked, and the answer goes into a cell
pub data Request : Type 0 where
  Drew : (width : ℕ) → Request
  Timer : (cell time : ℕ) → Request
  Packet : (process port : ℕ) (text : List ℕ) → Request
  Disks : (cell : ℕ) → DiskCall ℕ → Request

-- what the world hands to a step: the time, the number of processes, and the drawn word that is next
pub record Supply : Type 0 where
  pub now : ℕ
  pub processes : ℕ
  pub word : ℕ
