-- A frame that asks to wait is then in the state of the wait at which it stands.
use Rattle.std.proofs.Common.{◌≡◌, ℕ, Bool, true, false, List, [], refl, sym, ap}
use Rattle.std.specs.declared.option.Option.{Option}
use Rattle.std.specs.declared.option.Option.TheVariants.{None, Some}
use Rattle.flow_tree.specs.declared.ty.Ident.{Ident}
use Rattle.flow_tree.specs.Tree.{TypeTree, ExprTree, ExprTrees, returned_expr}
use Rattle.flow_value.specs.declared.value.Kind.{Kind}
use Rattle.flow_value.specs.Values.{ValueTree, RefValue}
use Rattle.flow_eval.specs.Answers.{bool_of, error_of}
use Rattle.flow_eval.specs.Eval.{Res, Done, Fails, Spent, Meaningless}
use Rattle.flow_eval.specs.Functions.{default_value}
use Rattle.flow_class.specs.declared.class.Slotted.{Slotted}
use Rattle.flow_class.specs.Classes.{InstrTree, SetInstr, EffectInstr, NewInstr, ActInstr, DropInstr, LastTree, GotoLast, PassLast, TestLast, ChooseLast, ReturnLast, ThrowLast, CallbackTree}
use Rattle.flow_class.specs.Code.{type_at, Fetched, Body, Last, Nothing, fetch, callback_at}
use Rattle.flow_meaning.specs.Requests.{Spot, Goal, Stored, Kept, Act, Drops, Waits, Effects, Returns}
use Rattle.flow_meaning.specs.Process.{View}
use Rattle.flow_meaning.specs.Evaluating.{Names, StepOf, asks, given, evaluated, Effectful, effect_in, effect_of, value, values, Change, change_of, base_of, call_act, storing, call_by}
use Rattle.flow_meaning.specs.Class.{promise_kind, placed, effects, new_by, put_path, instruction, test, operand_ref, operand_by, choose, throw_value, last, fetched, next_step}
use Rattle.flow_meaning.specs.Frame.{Frame, look, put_at, assign, spot_of, next_instr, over, everything}
use Rattle.flow_meaning.specs.Views.{frame_spot}
use Rattle.flow_heap_refinement.specs.Representing.{wait_spot, spot_by}
use Rattle.flow_compile_laws.proofs.Simulation.Evals.{AllMild, IsMild, call_mild}

-- what is so of a frame that asked this
abbrev pub Waited : Act → Frame → Type 0
Waited (Waits spot vs) g = frame_spot g ≡ wait_spot g
Waited act g = Unit {0}

abbrev pub Well : StepOf Frame → Type 0
Well (None, g) = Unit {0}
Well (Some a, g) = Waited a.act g

given_well : {B : Type 0} (f : Frame) (o : Option B) (on : B → StepOf Frame) → ((x : B) → Well (on x)) → Well (given f o on)
given_well f None on h = tt
given_well f (Some x) on h = h x

evaluated_well : {B : Type 0} (f : Frame) (x : Res B) (on : B → ℕ → StepOf Frame) → ((y : B) (left : ℕ) → Well (on y left)) → Well (evaluated f x on)
evaluated_well f (Done y left) on h = h y left
evaluated_well f (Fails e left) on h = tt
evaluated_well f Spent on h = tt
evaluated_well f Meaningless on h = tt

mild_well : (act : Act) (left : ℕ) (g : Frame) → IsMild act → Well (asks left act g)
mild_well (Waits spot vs) left g h = absurd h
mild_well act left g h = tt

act_well : (f g : Frame) (x : Res Act) → AllMild x → Well (evaluated f x (λ act left. asks left act g))
act_well f g (Done act left) h = mild_well act left g h
act_well f g (Fails e left) h = tt
act_well f g Spent h = tt
act_well f g Meaningless h = tt

module _ (ns : Names) (v : View) (f : Frame) where
  effects_well : (goal : Goal) (e : Effectful × ExprTrees) → Well (effects ns v f goal e)
  effects_well goal e =
      evaluated_well f (values ns v (look f.mem) e.1) (λ vs left. given f (effect_of e.0 vs) (λ eff. asks left (Effects goal eff) f))
      (λ vs left. given_well f (effect_of e.0 vs) (λ eff. asks left (Effects goal eff) f) (λ eff. tt))

  new_well : (p : Slotted) (t : TypeTree) (o : Option Kind) → Well (new_by ns v f p t o)
  new_well p t (Some k) = tt
  new_well p t None =
      given_well f (default_value t) (λ u. given f (put_at ns.records f.mem p [] u) (placed ns v f v.left))
      (λ u. given_well f (put_at ns.records f.mem p [] u) (placed ns v f v.left) (λ q. tt))

  call_well : (path : List Ident) (es : ExprTrees) (o : Option Change) → Well (call_by ns v (look f.mem) o f (next_instr f.mem f) (put_path ns v f) path es)
  call_well path es None = act_well f (next_instr f.mem f) (call_act ns v (look f.mem) path es) (call_mild ns v (look f.mem) path es)
  call_well path es (Some how) =
      evaluated_well f (storing ns v (look f.mem) how (base_of path) es) (λ s left. given f (put_path ns v f (base_of path) s.0) (λ a. asks left (Drops s.1) a))
      (λ s left. given_well f (put_path ns v f (base_of path) s.0) (λ a. asks left (Drops s.1) a) (λ a. tt))

  instruction_well : (i : InstrTree) → Well (instruction ns v f i)
  instruction_well (SetInstr path e) =
      evaluated_well f (value ns v (look f.mem) e) (λ u left. given f (assign ns.records f.mem path u) (placed ns v f left))
      (λ u left. given_well f (assign ns.records f.mem path u) (placed ns v f left) (λ p. tt))
  instruction_well (EffectInstr path e) = given_well f (effect_in ns e) (effects ns v f Stored) (λ g. effects_well Stored g)
  instruction_well (NewInstr p) = given_well f (type_at f.code p) (λ t. new_by ns v f p t (promise_kind t)) (λ t. new_well p t (promise_kind t))
  instruction_well (ActInstr path es) = call_well path es (change_of path)
  instruction_well (DropInstr locals) = tt

  test_well : (left : ℕ) (o : Option Bool) (b c : ℕ) → Well (test ns v f left o b c)
  test_well left None b c = tt
  test_well left (Some true) b c = tt
  test_well left (Some false) b c = tt

  ref_well : (left : ℕ) (spot : Spot) (u : ValueTree) → Well (operand_ref ns v f left spot u)
  ref_well left spot (RefValue k cell) = tt
  ref_well left spot u = tt

  operand_well : (spot : Spot) (e : ExprTree) (o : Option (Effectful × ExprTrees)) → Well (operand_by ns v f spot e o)
  operand_well spot e (Some g) = effects_well (Kept spot) g
  operand_well spot e None = evaluated_well f (value ns v (look f.mem) e) (λ u left. operand_ref ns v f left spot u) (λ u left. ref_well left spot u)

  choose_well : (g : ℕ) (o : Option CallbackTree) → fetch f.code f.block f.instr ≡ Last (ChooseLast g) → Well (choose ns v f (spot_of f.code g) o)
  choose_well g (Some c) h = operand_well (spot_of f.code g) c.operand (effect_in ns c.operand)
  choose_well g None h = sym (ap (spot_by f.code) h)

  throw_well : (left : ℕ) (o : Option ℕ) → Well (throw_value ns v f left o)
  throw_well left None = tt
  throw_well left (Some e) = tt

  last_well : (l : LastTree) → fetch f.code f.block f.instr ≡ Last l → Well (last ns v f l)
  last_well (GotoLast b) h = tt
  last_well (PassLast b) h = tt
  last_well (TestLast e b c) h =
      evaluated_well f (value ns v (look f.mem) e) (λ u left. test ns v f left (bool_of u) b c) (λ u left. test_well left (bool_of u) b c)
  last_well (ChooseLast g) h = choose_well g (callback_at f.code g v.kept) h
  last_well (ReturnLast e) h =
      evaluated_well f (value ns v (look f.mem) (returned_expr e)) (λ u left. asks left (Returns u (everything f.mem)) over) (λ u left. tt)
  last_well (ThrowLast e) h = evaluated_well f (value ns v (look f.mem) e) (λ u left. throw_value ns v f left (error_of u)) (λ u left. throw_well left (error_of u))

  pub step_well : Well (next_step ns v f)
  step_well = by_fetch (fetch f.code f.block f.instr) refl
    where
      by_fetch : (o : Fetched) → fetch f.code f.block f.instr ≡ o → Well (fetched ns v f o)
      by_fetch (Body i) h = instruction_well i
      by_fetch (Last l) h = last_well l h
      by_fetch Nothing h = tt
