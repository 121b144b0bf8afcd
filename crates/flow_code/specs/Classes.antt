-- Classes as they are run, as plain data: the mirror through which contracts see those of the code. Places, blocks and
-- branches are numbered from 0, groups from 1.
use Rattle.std.specs.Prelude.{ℕ, List}
use Rattle.std.specs.declared.option.Option.{Option}
use Rattle.flow_value.specs.declared.value.Kind.{Kind}
use Rattle.flow_ast.specs.declared.predefined.Method.{Method}
use Rattle.flow_class.specs.Classes.{CatcherTree}
use Rattle.flow_code.specs.Resolved.Tree.{Node, Nodes}
use Rattle.flow_code.specs.declared.class.Effect.{Effect}
use Rattle.flow_code.specs.declared.class.Act.{Act}

-- where a value goes: a place of a frame, or the part of it to which the fields with names of these numbers lead
pub record AimTree : Type 0 where
  pub place : ℕ
  pub path : List ℕ

-- an instruction: an assignment, an assignment of what an effect gives, a new cell for a reference of a kind, a call
-- statement, a method of a reference, places that are emptied and dropped in order, or what no valid class has
pub data InstructionTree : Type 0 where
  SetCode : AimTree → Node → InstructionTree
  EffectCode : AimTree → Effect → Nodes → InstructionTree
  NewCode : (place : ℕ) → Kind → InstructionTree
  ActCode : Act → Nodes → InstructionTree
  MethodCode : AimTree → Method → Nodes → InstructionTree
  DropCode : List ℕ → InstructionTree
  NoCode : InstructionTree

-- the last instruction of a block
pub data EndTree : Type 0 where
  GotoEnd : (block : ℕ) → EndTree
  PassEnd : (block : ℕ) → EndTree
  TestEnd : Node → (yes no : ℕ) → EndTree
  ChooseEnd : (group : ℕ) → EndTree
  ReturnEnd : Node → EndTree
  ThrowEnd : Node → EndTree

-- a catcher has places where that of class text has locals
pub record BlockCode : Type 0 where
  pub catcher : Option CatcherTree
  pub body : List InstructionTree
  pub last : EndTree

-- what a branch of a wait waits for
pub data OperandTree : Type 0 where
  ValueOperand : Node → OperandTree
  EffectOperand : Effect → Nodes → OperandTree

pub record BranchCode : Type 0 where
  pub operand : OperandTree
  pub into : Option ℕ
  pub block : ℕ

-- the block that ends in a wait, the number of its first branch through the class, and its branches
pub record GroupCode : Type 0 where
  pub block : ℕ
  pub first : ℕ
  pub branches : List BranchCode

pub record ClassCode : Type 0 where
  pub name : List ℕ
  pub params : ℕ
  pub slots : ℕ
  pub places : ℕ
  pub blocks : List BlockCode
  pub groups : List GroupCode
