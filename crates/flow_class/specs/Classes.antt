-- Classes as plain data: the mirror through which contracts see the classes of the code. Slots, locals, blocks and
-- callbacks are numbered from 0, groups from 1.
use Rattle.std.specs.Prelude.{ℕ, Bool, List}
use Rattle.std.specs.declared.option.Option.{Option}
use Rattle.flow_tree.specs.declared.ty.Ident.{Ident}
use Rattle.flow_tree.specs.Tree.{TypeTree, ExprTree, ExprTrees}
use Rattle.flow_tree.specs.Decls.{SlotTree, RecordTree, RoutineTree}
use Rattle.flow_class.specs.declared.class.Slotted.{Slotted}

-- where an error of a block goes on: the handler's block, the local that takes the error, and the locals that are
-- dropped before, in order
pub record CatcherTree : Type 0 where
  pub block : ℕ
  pub error : Option ℕ
  pub drops : List ℕ

-- an instruction: an assignment, an assignment of what an effect gives, a new cell or an empty vector put in place, a call
-- statement, or locals that are emptied and dropped in order
pub data InstrTree : Type 0 where
  SetInstr : List Ident → ExprTree → InstrTree
  EffectInstr : List Ident → ExprTree → InstrTree
  NewInstr : Slotted → InstrTree
  ActInstr : List Ident → ExprTrees → InstrTree
  DropInstr : List ℕ → InstrTree

-- the last instruction of a block
pub data LastTree : Type 0 where
  GotoLast : (block : ℕ) → LastTree
  PassLast : (block : ℕ) → LastTree
  TestLast : ExprTree → (yes no : ℕ) → LastTree
  ChooseLast : (group : ℕ) → LastTree
  ReturnLast : Option ExprTree → LastTree
  ThrowLast : ExprTree → LastTree

pub record BlockTree : Type 0 where
  pub catcher : Option CatcherTree
  pub body : List InstrTree
  pub last : LastTree

-- a branch of a wait: whether it takes the next element of a stream, its operand, the place that takes the value, and
-- the block where the branch goes on
pub record CallbackTree : Type 0 where
  pub next : Bool
  pub operand : ExprTree
  pub into : Option Slotted
  pub block : ℕ

pub record ClassTree : Type 0 where
  pub name : List ℕ
  pub returns : TypeTree
  pub params : ℕ
  pub slots : List SlotTree
  pub locals : List TypeTree
  pub blocks : List BlockTree
  pub groups : List (List CallbackTree)

pub record RawTree : Type 0 where
  pub records : List RecordTree
  pub functions : List RoutineTree
  pub classes : List ClassTree
