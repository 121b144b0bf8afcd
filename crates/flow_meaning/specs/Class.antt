-- The step of a frame by its instruction, and frames as actors of a process.
use Rattle.std.specs.Prelude.{ℕ, nat_eq, Bool, true, false, List, [], ◌∷◌, ◌++◌, map, length, drop, slice_get, unwrap_or, if◌then◌else◌}
use Rattle.std.specs.declared.option.Option.{Option}
use Rattle.std.specs.declared.option.Option.TheVariants.{None, Some}
use Rattle.std.specs.Option.{option_map}
use Rattle.flow_tree.specs.declared.ty.Ident.{Ident}
use Rattle.flow_tree.specs.Tree.{TypeTree, PromiseType, PromiseStreamType, ExprTree, ExprTrees, returned_expr}
use Rattle.flow_value.specs.declared.value.Kind.{Kind}
use Rattle.flow_value.specs.declared.value.Kind.TheVariants as kind
use Rattle.flow_value.specs.Values.{ValueTree, RefValue}
use Rattle.flow_eval.specs.Answers.{bool_of, error_of}
use Rattle.flow_eval.specs.Functions.{default_value}
use Rattle.flow_class.specs.declared.class.Slotted.{Slotted}
use Rattle.flow_class.specs.Classes.{InstrTree, SetInstr, EffectInstr, NewInstr, ActInstr, DropInstr, LastTree, GotoLast, PassLast, TestLast, ChooseLast, ReturnLast, ThrowLast, CallbackTree, ClassTree, RawTree}
use Rattle.flow_meaning.specs.Requests.{Spot, Make, Goal, Stored, Kept, Goes, Pass, Drops, Effects, Operand, Waits, Returns, Throws}
use Rattle.flow_meaning.specs.Process.{View, Engine}
use Rattle.flow_meaning.specs.Evaluating.{Names, StepOf, asks, quietly, stuck, given, evaluated, Effectful, effect_in, effect_of, value, values, call_statement}
use Rattle.flow_meaning.specs.Source.{main_of}
use Rattle.flow_class.specs.Code.{type_at, Fetched, Body, Last, Nothing, fetch, callback_at}
use Rattle.flow_meaning.specs.Frame.{Memory, Frame, look, held_in, emptied, blanks, everything, occ_memory, put_at, assign, spot_of, go, next_instr, over, lose, raise}

-- what a new cell of a promise's type is
abbrev pub promise_kind : TypeTree → Option Kind
promise_kind (PromiseType t) = Some kind.Promise
promise_kind (PromiseStreamType t) = Some kind.PromiseStream
promise_kind _ = None

module _ (ns : Names) (v : View) (f : Frame) where
  -- a value is put in place, what stood there is dropped, and the next instruction follows
  abbrev pub placed : ℕ → List ValueTree × Memory → StepOf Frame
  placed left p = asks left (Drops p.0) (next_instr p.1 f)

  -- an effect, whose result goes into place or among the operands; the frame stays where it is
  abbrev pub effects : Goal → Effectful × ExprTrees → StepOf Frame
  effects goal e = evaluated f (values ns v (look f.mem) e.1)
      (λ vs left. given f (effect_of e.0 vs) (λ eff. asks left (Effects goal eff) f))

  -- `new` puts a new cell in place, or the value that the type has at first
  abbrev pub new_by : Slotted → TypeTree → Option Kind → StepOf Frame
  new_by p t (Some k) = asks v.left (Effects Stored (Make k)) f
  new_by p t None = given f (default_value t) (λ u. given f (put_at ns.records f.mem p [] u) (placed v.left))

  -- a call statement changes what a path leads to, and the next instruction follows
  abbrev pub put_path : List Ident → ValueTree → Option Frame
  put_path xs u = option_map (λ (p : List ValueTree × Memory). next_instr p.1 f) (assign ns.records f.mem xs u)

  abbrev pub instruction : InstrTree → StepOf Frame
  instruction (SetInstr path e) = evaluated f (value ns v (look f.mem) e) (λ u left. given f (assign ns.records f.mem path u) (placed left))
  instruction (EffectInstr path e) = given f (effect_in ns e) (effects Stored)
  instruction (NewInstr p) = given f (type_at f.code p) (λ t. new_by p t (promise_kind t))
  instruction (ActInstr path es) = call_statement ns v (look f.mem) f (next_instr f.mem f) put_path path es
  instruction (DropInstr locals) = asks v.left (Drops (held_in f.mem locals)) (next_instr (emptied locals f.mem) f)

  abbrev pub test : (left : ℕ) → Option Bool → (yes no : ℕ) → StepOf Frame
  test left None b c = stuck f
  test left (Some true) b c = asks left Goes (go b f.mem f)
  test left (Some false) b c = asks left Goes (go c f.mem f)

  -- the next operand of a group is asked for; when all are kept, the frame waits with the group as its state number
  abbrev pub operand_ref : (left : ℕ) → Spot → ValueTree → StepOf Frame
  operand_ref left spot (RefValue k cell) = asks left (Operand spot (k, cell)) f
  operand_ref left spot _ = stuck f

  abbrev pub operand_by : Spot → ExprTree → Option (Effectful × ExprTrees) → StepOf Frame
  operand_by spot e (Some g) = effects (Kept spot) g
  operand_by spot e None = evaluated f (value ns v (look f.mem) e) (λ u left. operand_ref left spot u)

  abbrev pub waits : Spot → List ValueTree × Frame → StepOf Frame
  waits spot l = asks v.left (Waits spot l.0) (record l.1 { state = spot.group })

  abbrev pub choose : Spot → Option CallbackTree → StepOf Frame
  choose spot (Some c) = operand_by spot c.operand (effect_in ns c.operand)
  choose spot None = waits spot (lose f)

  abbrev pub throw_value : ℕ → Option ℕ → StepOf Frame
  throw_value left None = stuck f
  throw_value left (Some err) = asks left (Throws err) f

  abbrev pub last : LastTree → StepOf Frame
  last (GotoLast b) = quietly (go b f.mem f)
  last (PassLast b) = asks v.left Pass (go b f.mem f)
  last (TestLast e b c) = evaluated f (value ns v (look f.mem) e) (λ u left. test left (bool_of u) b c)
  last (ChooseLast g) = choose (spot_of f.code g) (callback_at f.code g v.kept)
  last (ReturnLast e) = evaluated f (value ns v (look f.mem) (returned_expr e)) (λ u left. asks left (Returns u (everything f.mem)) over)
  last (ThrowLast e) = evaluated f (value ns v (look f.mem) e) (λ u left. throw_value left (error_of u))

  abbrev pub fetched : Fetched → StepOf Frame
  fetched (Body i) = instruction i
  fetched (Last l) = last l
  fetched Nothing = stuck f

-- the instruction decides
abbrev pub next_step : Names → View → Frame → StepOf Frame
next_step ns v f = fetched ns v f (fetch f.code f.block f.instr)

-- the result of an effect goes into the place of the instruction
abbrev pub stored : Frame → Option (List ValueTree × Memory) → List ValueTree × Frame
stored f None = ([], f)
stored f (Some p) = (p.0, next_instr p.1 f)

abbrev pub store_at : Names → ValueTree → Frame → Fetched → List ValueTree × Frame
store_at ns u f (Body (EffectInstr path e)) = stored f (assign ns.records f.mem path u)
store_at ns u f (Body (NewInstr p)) = stored f (put_at ns.records f.mem p [] u)
store_at ns u f _ = ([], f)

-- a branch is taken: its value goes into the place of the callback, or is dropped
abbrev pub bound : Names → ValueTree → Memory → Option Slotted → Option (List ValueTree × Memory)
bound ns u m None = Some (u ∷ [], m)
bound ns u m (Some p) = put_at ns.records m p [] u

abbrev pub onward : Frame → ℕ → Option (List ValueTree × Memory) → List ValueTree × Frame
onward f b None = ([], f)
onward f b (Some p) = (p.0, go b p.1 f)

abbrev pub take_callback : Names → ValueTree → Frame → Option CallbackTree → List ValueTree × Frame
take_callback ns u f None = ([], f)
take_callback ns u f (Some c) = onward f c.block (bound ns u f.mem c.into)

abbrev pub take_at : Names → (branch : ℕ) → ValueTree → Frame → Fetched → List ValueTree × Frame
take_at ns n u f (Last (ChooseLast g)) = take_callback ns u f (callback_at f.code g n)
take_at ns n u f _ = ([], f)

-- a frame that begins: the parameters are filled, and all else is empty
abbrev pub begun : ClassTree → List ValueTree → Frame
begun c vs = record {
  code = c;
  mem = record { slots = map Some vs ++ blanks (drop c.params c.slots); locals = blanks c.locals };
  block = 0;
  instr = 0;
  state = 0;
}

abbrev pub fresh_from : Option ClassTree → List ValueTree → Option Frame
fresh_from None vs = None
fresh_from (Some c) vs = if nat_eq (length vs) c.params then Some (begun c vs) else None

abbrev pub class_name : ClassTree → List ℕ
class_name c = c.name

abbrev pub class_names : RawTree → Names
class_names r = record { records = r.records; functions = r.functions; actors = map class_name r.classes }

-- the actors of a class program
abbrev pub classes : RawTree → Engine Frame
classes r = record {
  main = main_of (class_names r).actors;
  label = λ k. unwrap_or (slice_get (class_names r).actors k) [];
  fresh = λ k vs. fresh_from (slice_get r.classes k) vs;
  next = next_step (class_names r);
  lose = lose;
  store = λ u f. store_at (class_names r) u f (fetch f.code f.block f.instr);
  take = λ n u f. take_at (class_names r) n u f (fetch f.code f.block f.instr);
  raise = raise;
  occ = λ s k f. occ_memory s k f.mem;
}
