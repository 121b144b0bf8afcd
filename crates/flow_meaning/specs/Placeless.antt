-- Classes and evaluation with every place the first one, as `bare` makes programs; and that places don't matter.
use Rattle.std.specs.Prelude.{◌≡◌, ℕ, List, map}
use Rattle.std.specs.Option.{option_map}
use Rattle.std.specs.declared.option.Option.{Option}
use Rattle.flow_tree.specs.Tree.{ExprTree}
use Rattle.flow_tree.specs.Canon.{bare, placeless_ident, placeless_expr, placeless_exprs, placeless_record, placeless_routine}
use Rattle.flow_tree.specs.Decls.{ProgramTree}
use Rattle.flow_class.specs.Classes.{InstrTree, SetInstr, EffectInstr, NewInstr, ActInstr, DropInstr, LastTree, GotoLast, PassLast, TestLast, ChooseLast, ReturnLast, ThrowLast, BlockTree, CallbackTree, ClassTree, RawTree}
use Rattle.flow_trace.specs.declared.line.Line.{Line}
use Rattle.flow_worldfile.specs.Worlds as file
use Rattle.flow_value.specs.Values.{ValueTree}
use Rattle.flow_eval.specs.Eval.{Setting}
use Rattle.flow_eval.specs.Functions.{Eval}
use Rattle.flow_meaning.specs.Observations.{Observation, SourceSeen, ClassSeen}

abbrev pub placeless_instr : InstrTree → InstrTree
placeless_instr (SetInstr xs e) = SetInstr (map placeless_ident xs) (placeless_expr e)
placeless_instr (EffectInstr xs e) = EffectInstr (map placeless_ident xs) (placeless_expr e)
placeless_instr (NewInstr p) = NewInstr p
placeless_instr (ActInstr xs es) = ActInstr (map placeless_ident xs) (placeless_exprs es)
placeless_instr (DropInstr ns) = DropInstr ns

abbrev pub placeless_last : LastTree → LastTree
placeless_last (GotoLast b) = GotoLast b
placeless_last (PassLast b) = PassLast b
placeless_last (TestLast e b c) = TestLast (placeless_expr e) b c
placeless_last (ChooseLast g) = ChooseLast g
placeless_last (ReturnLast e) = ReturnLast (option_map placeless_expr e)
placeless_last (ThrowLast e) = ThrowLast (placeless_expr e)

abbrev pub placeless_block : BlockTree → BlockTree
placeless_block b = record { catcher = b.catcher; body = map placeless_instr b.body; last = placeless_last b.last }

abbrev pub placeless_callback : CallbackTree → CallbackTree
placeless_callback c = record { next = c.next; operand = placeless_expr c.operand; into = c.into; block = c.block }

abbrev pub placeless_class : ClassTree → ClassTree
placeless_class c = record {
  name = c.name;
  returns = c.returns;
  params = c.params;
  slots = c.slots;
  locals = c.locals;
  blocks = map placeless_block c.blocks;
  groups = map (map placeless_callback) c.groups;
}

-- classes with every place the first one
abbrev pub placeless_classes : RawTree → RawTree
placeless_classes r = record {
  records = map placeless_record r.records;
  functions = map placeless_routine r.functions;
  classes = map placeless_class r.classes;
}

-- what is the same throughout an evaluation, with every place the first one
abbrev pub placeless_setting : Setting → Setting
placeless_setting s = record {
  records = map placeless_record s.records;
  functions = map placeless_routine s.functions;
  cells = s.cells;
  now = s.now;
}

-- An expression comes to the same with every place the first one.
abbrev pub EvaluatesAlike : Type 0
EvaluatesAlike =
    (s : Setting) (look : List ℕ → Option ValueTree) (e : ExprTree) (left : ℕ)
    → Eval (placeless_setting s) look (placeless_expr e) left ≡ Eval s look e left

-- Of programs that are equal but for places the same is seen in every world, and so of classes.
abbrev pub ProgramsAlike : Type 0
ProgramsAlike =
    (p q : ProgramTree) (w : file.World) (lines : List Line) (sights : List Observation) → bare p ≡ bare q → SourceSeen p w lines sights
    → SourceSeen q w lines sights

abbrev pub ClassesAlike : Type 0
ClassesAlike =
    (r s : RawTree) (w : file.World) (lines : List Line) (sights : List Observation) → placeless_classes r ≡ placeless_classes s
    → ClassSeen r w lines sights → ClassSeen s w lines sights
