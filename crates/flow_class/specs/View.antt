-- The classes of the code, seen as plain data.
use Rattle.std.specs.Prelude.{List, map}
use Rattle.std.specs.Option.{option_map}
use Rattle.flow_tree.specs.View.{type_of, result_of, expr_of, exprs_of}
use Rattle.flow_tree.specs.DeclView.{slot_of, record_of, function_of}
use Rattle.flow_class.specs.declared.class.Catcher.{Catcher}
use Rattle.flow_class.specs.declared.class.Instr.{Instr}
use Rattle.flow_class.specs.declared.class.Instr.TheVariants.{Set, Effect, New, Act, Drop}
use Rattle.flow_class.specs.declared.class.Last.{Last}
use Rattle.flow_class.specs.declared.class.Last.TheVariants.{Goto, Pass, Test, Choose, Return, Throw}
use Rattle.flow_class.specs.declared.class.Block.{Block}
use Rattle.flow_class.specs.declared.class.Callback.{Callback}
use Rattle.flow_class.specs.declared.class.Group.{Group}
use Rattle.flow_class.specs.declared.class.Class.{Class}
use Rattle.flow_class.specs.declared.class.RawClasses.{RawClasses}
use Rattle.flow_class.specs.Classes.{CatcherTree, InstrTree, SetInstr, EffectInstr, NewInstr, ActInstr, DropInstr, LastTree, GotoLast, PassLast, TestLast, ChooseLast, ReturnLast, ThrowLast, BlockTree, CallbackTree, ClassTree, RawTree}

abbrev pub catcher_of : Catcher → CatcherTree
catcher_of c = record { block = c.block; error = c.error; drops = c.drops.items }

abbrev pub instr_of : Instr → InstrTree
instr_of (Set t e) = SetInstr t.path.items (expr_of e)
instr_of (Effect t e) = EffectInstr t.path.items (expr_of e)
instr_of (New p) = NewInstr p
instr_of (Act t es) = ActInstr t.path.items (exprs_of es.items)
instr_of (Drop ns) = DropInstr ns.items

abbrev pub last_of : Last → LastTree
last_of (Goto b) = GotoLast b
last_of (Pass b) = PassLast b
last_of (Test e b c) = TestLast (expr_of e) b c
last_of (Choose g) = ChooseLast g
last_of (Return e) = ReturnLast (option_map expr_of e)
last_of (Throw e) = ThrowLast (expr_of e)

abbrev pub block_of : Block → BlockTree
block_of b = record { catcher = option_map catcher_of b.catcher; body = map instr_of b.body.items; last = last_of b.last }

abbrev pub callback_of : Callback → CallbackTree
callback_of c = record { next = c.next; operand = expr_of c.operand; into = c.into; block = c.block }

abbrev pub group_of : Group → List CallbackTree
group_of g = map callback_of g.callbacks.items

abbrev pub class_of : Class → ClassTree
class_of c = record {
  name = c.name;
  returns = result_of c.returns;
  params = c.params;
  slots = map slot_of c.slots.items;
  locals = map type_of c.locals.items;
  blocks = map block_of c.blocks.items;
  groups = map group_of c.groups.items;
}

abbrev pub raw_of : RawClasses → RawTree
raw_of r = record {
  records = map record_of r.records.items;
  functions = map function_of r.functions.items;
  classes = map class_of r.classes.items;
}
