-- The classes of the code as they are run, seen as plain data.
use Rattle.std.specs.Prelude.{ℕ, zero, suc, List, map, slice_get}
use Rattle.std.specs.Option.{option_map}
use Rattle.std.specs.declared.option.Option.{Option}
use Rattle.std.specs.declared.option.Option.TheVariants.{None}
use Rattle.flow_class.specs.Classes.{CatcherTree}
use Rattle.flow_code.specs.Resolved.View.{node_of, nodes_of}
use Rattle.flow_code.specs.declared.class.Aim.{Aim}
use Rattle.flow_code.specs.declared.class.Instruction.{Instruction}
use Rattle.flow_code.specs.declared.class.Instruction.TheVariants.{Set, Effect, New, Act, Method, Drop, Invalid}
use Rattle.flow_code.specs.declared.class.Last.{Last}
use Rattle.flow_code.specs.declared.class.Last.TheVariants.{Goto, Pass, Test, Choose, Return, Throw}
use Rattle.flow_code.specs.declared.class.Operand.{Operand}
use Rattle.flow_code.specs.declared.class.Operand.TheVariants as operand
use Rattle.flow_code.specs.declared.class.Catcher.{Catcher}
use Rattle.flow_code.specs.declared.class.Block.{Block}
use Rattle.flow_code.specs.declared.class.Branch.{Branch}
use Rattle.flow_code.specs.declared.class.Group.{Group}
use Rattle.flow_code.specs.declared.class.Class.{Class}
use Rattle.flow_code.specs.Classes.{AimTree, InstructionTree, SetCode, EffectCode, NewCode, ActCode, MethodCode, DropCode, NoCode, EndTree, GotoEnd, PassEnd, TestEnd, ChooseEnd, ReturnEnd, ThrowEnd, BlockCode, OperandTree, ValueOperand, EffectOperand, BranchCode, GroupCode, ClassCode}

abbrev pub aim_of : Aim → AimTree
aim_of a = record { place = a.place; path = a.path.items }

abbrev pub instruction_of : Instruction → InstructionTree
instruction_of (Set a e) = SetCode (aim_of a) (node_of e)
instruction_of (Effect a f es) = EffectCode (aim_of a) f (nodes_of es.items)
instruction_of (New n k) = NewCode n k
instruction_of (Act f es) = ActCode f (nodes_of es.items)
instruction_of (Method a m es) = MethodCode (aim_of a) m (nodes_of es.items)
instruction_of (Drop ns) = DropCode ns.items
instruction_of Invalid = NoCode

abbrev pub end_of : Last → EndTree
end_of (Goto b) = GotoEnd b
end_of (Pass b) = PassEnd b
end_of (Test e b c) = TestEnd (node_of e) b c
end_of (Choose g) = ChooseEnd g
end_of (Return e) = ReturnEnd (node_of e)
end_of (Throw e) = ThrowEnd (node_of e)

abbrev pub catcher_of : Catcher → CatcherTree
catcher_of c = record { block = c.block; error = c.error; drops = c.drops.items }

abbrev pub block_of : Block → BlockCode
block_of b = record { catcher = option_map catcher_of b.catcher; body = map instruction_of b.body.items; last = end_of b.last }

abbrev pub operand_of : Operand → OperandTree
operand_of (operand.Value e) = ValueOperand (node_of e)
operand_of (operand.Effect f es) = EffectOperand f (nodes_of es.items)

abbrev pub branch_of : Branch → BranchCode
branch_of b = record { operand = operand_of b.operand; into = b.into; block = b.block }

abbrev pub group_of : Group → GroupCode
group_of g = record { block = g.block; first = g.first; branches = map branch_of g.branches.items }

abbrev pub code_of : Class → ClassCode
code_of c = record {
  name = c.name;
  params = c.params;
  slots = c.slots;
  places = c.places;
  blocks = map block_of c.blocks.items;
  groups = map group_of c.groups.items;
}

-- the group of a number from 1
abbrev pub group_numbered : ℕ → List Group → Option Group
group_numbered zero gs = None
group_numbered (suc n) gs = slice_get gs n
