-- A frame keeps its class, unless it is over.
use Rattle.std.proofs.Common.{◌≡◌, ◌⊎◌, inl, inr, ℕ, Bool, true, false, List, [], refl, ◌∙◌}
use Rattle.std.specs.declared.option.Option.{Option}
use Rattle.std.specs.declared.option.Option.TheVariants.{None, Some}
use Rattle.std.specs.Option.{option_map}
use Rattle.flow_tree.specs.declared.ty.Ident.{Ident}
use Rattle.flow_tree.specs.Tree.{TypeTree, ExprTree, ExprTrees, returned_expr}
use Rattle.flow_value.specs.declared.value.Kind.{Kind}
use Rattle.flow_value.specs.Values.{ValueTree, RefValue}
use Rattle.flow_eval.specs.Answers.{bool_of, error_of}
use Rattle.flow_eval.specs.Eval.{Res, Done, Fails, Spent, Meaningless}
use Rattle.flow_eval.specs.Functions.{default_value}
use Rattle.flow_class.specs.declared.class.Slotted.{Slotted}
use Rattle.flow_class.specs.Classes.{InstrTree, SetInstr, EffectInstr, NewInstr, ActInstr, DropInstr, LastTree, GotoLast, PassLast, TestLast, ChooseLast, ReturnLast, ThrowLast, CallbackTree, CatcherTree, ClassTree}
use Rattle.flow_class.specs.Code.{type_at, Fetched, Body, Last, Nothing, fetch, callback_at, catcher_at}
use Rattle.flow_meaning.specs.Requests.{Spot, Goal, Stored, Kept, Drops, Effects, Returns}
use Rattle.flow_meaning.specs.Process.{View}
use Rattle.flow_meaning.specs.Evaluating.{Names, StepOf, asks, given, evaluated, Effectful, effect_in, effect_of, value, values, Change, change_of, base_of, call_act, storing, call_by}
use Rattle.flow_meaning.specs.Class.{promise_kind, placed, effects, new_by, put_path, instruction, test, operand_ref, operand_by, choose, throw_value, last, fetched, next_step, stored, store_at, bound, onward, take_callback, take_at}
use Rattle.flow_meaning.specs.Frame.{Memory, Frame, look, assign, put_at, spot_of, next_instr, no_class, over, everything, lose, raised, raise}

-- the class is this one, or the frame is over
abbrev pub KeepsClass : ClassTree → Frame → Type 0
KeepsClass c g = (g.code ≡ c) ⊎ (g.code ≡ no_class)

abbrev Well : Frame → StepOf Frame → Type 0
Well f x = KeepsClass f.code x.1

given_well : {B : Type 0} (f : Frame) (o : Option B) (on : B → StepOf Frame) → ((x : B) → Well f (on x)) → Well f (given f o on)
given_well f None on h = inl refl
given_well f (Some x) on h = h x

evaluated_well : {B : Type 0} (f : Frame) (x : Res B) (on : B → ℕ → StepOf Frame) → ((y : B) (left : ℕ) → Well f (on y left)) → Well f (evaluated f x on)
evaluated_well f (Done y left) on h = h y left
evaluated_well f (Fails e left) on h = inl refl
evaluated_well f Spent on h = inl refl
evaluated_well f Meaningless on h = inl refl

module _ (ns : Names) (v : View) (f : Frame) where
  effects_well : (goal : Goal) (e : Effectful × ExprTrees) → Well f (effects ns v f goal e)
  effects_well goal e =
      evaluated_well f (values ns v (look f.mem) e.1) (λ vs left. given f (effect_of e.0 vs) (λ eff. asks left (Effects goal eff) f))
      (λ vs left. given_well f (effect_of e.0 vs) (λ eff. asks left (Effects goal eff) f) (λ eff. inl refl))

  new_well : (p : Slotted) (t : TypeTree) (o : Option Kind) → Well f (new_by ns v f p t o)
  new_well p t (Some k) = inl refl
  new_well p t None =
      given_well f (default_value t) (λ u. given f (put_at ns.records f.mem p [] u) (placed ns v f v.left))
      (λ u. given_well f (put_at ns.records f.mem p [] u) (placed ns v f v.left) (λ q. inl refl))

  put_well : (left : ℕ) (dropped : List ValueTree) (o : Option (List ValueTree × Memory))
      → Well f (given f (option_map (λ (p : List ValueTree × Memory). next_instr p.1 f) o) (λ g. asks left (Drops dropped) g))
  put_well left dropped None = inl refl
  put_well left dropped (Some p) = inl refl

  call_well : (o : Option Change) (path : List Ident) (es : ExprTrees) → Well f (call_by ns v (look f.mem) o f (next_instr f.mem f) (put_path ns v f) path es)
  call_well None path es =
      evaluated_well f (call_act ns v (look f.mem) path es) (λ act left. asks left act (next_instr f.mem f)) (λ act left. inl refl)
  call_well (Some how) path es =
      evaluated_well f (storing ns v (look f.mem) how (base_of path) es) (λ s left. given f (put_path ns v f (base_of path) s.0) (λ g. asks left (Drops s.1) g))
      (λ s left. put_well left s.1 (assign ns.records f.mem (base_of path) s.0))

  instruction_well : (i : InstrTree) → Well f (instruction ns v f i)
  instruction_well (SetInstr path e) =
      evaluated_well f (value ns v (look f.mem) e) (λ u left. given f (assign ns.records f.mem path u) (placed ns v f left))
      (λ u left. given_well f (assign ns.records f.mem path u) (placed ns v f left) (λ p. inl refl))
  instruction_well (EffectInstr path e) = given_well f (effect_in ns e) (effects ns v f Stored) (λ g. effects_well Stored g)
  instruction_well (NewInstr p) = given_well f (type_at f.code p) (λ t. new_by ns v f p t (promise_kind t)) (λ t. new_well p t (promise_kind t))
  instruction_well (ActInstr path es) = call_well (change_of path) path es
  instruction_well (DropInstr locals) = inl refl

  test_well : (left : ℕ) (o : Option Bool) (b c : ℕ) → Well f (test ns v f left o b c)
  test_well left None b c = inl refl
  test_well left (Some true) b c = inl refl
  test_well left (Some false) b c = inl refl

  ref_well : (left : ℕ) (spot : Spot) (u : ValueTree) → Well f (operand_ref ns v f left spot u)
  ref_well left spot (RefValue k cell) = inl refl
  ref_well left spot u = inl refl

  operand_well : (spot : Spot) (e : ExprTree) (o : Option (Effectful × ExprTrees)) → Well f (operand_by ns v f spot e o)
  operand_well spot e (Some g) = effects_well (Kept spot) g
  operand_well spot e None = evaluated_well f (value ns v (look f.mem) e) (λ u left. operand_ref ns v f left spot u) (λ u left. ref_well left spot u)

  choose_well : (spot : Spot) (o : Option CallbackTree) → Well f (choose ns v f spot o)
  choose_well spot (Some c) = operand_well spot c.operand (effect_in ns c.operand)
  choose_well spot None = inl refl

  throw_well : (left : ℕ) (o : Option ℕ) → Well f (throw_value ns v f left o)
  throw_well left None = inl refl
  throw_well left (Some e) = inl refl

  last_well : (l : LastTree) → Well f (last ns v f l)
  last_well (GotoLast b) = inl refl
  last_well (PassLast b) = inl refl
  last_well (TestLast e b c) =
      evaluated_well f (value ns v (look f.mem) e) (λ u left. test ns v f left (bool_of u) b c) (λ u left. test_well left (bool_of u) b c)
  last_well (ChooseLast g) = choose_well (spot_of f.code g) (callback_at f.code g v.kept)
  last_well (ReturnLast e) =
      evaluated_well f (value ns v (look f.mem) (returned_expr e)) (λ u left. asks left (Returns u (everything f.mem)) over) (λ u left. inr refl)
  last_well (ThrowLast e) = evaluated_well f (value ns v (look f.mem) e) (λ u left. throw_value ns v f left (error_of u)) (λ u left. throw_well left (error_of u))

  fetched_well : (o : Fetched) → Well f (fetched ns v f o)
  fetched_well (Body i) = instruction_well i
  fetched_well (Last l) = last_well l
  fetched_well Nothing = inl refl

  pub step_keeps : KeepsClass f.code (next_step ns v f).1
  step_keeps = fetched_well (fetch f.code f.block f.instr)

-- of what came after
pub keeps_on : (c : ClassTree) (f g : Frame) → KeepsClass c f → KeepsClass f.code g → KeepsClass c g
keeps_on c f g (inl e) (inl h) = inl (h ∙ e)
keeps_on c f g (inl e) (inr h) = inr h
keeps_on c f g (inr e) (inl h) = inr (h ∙ e)
keeps_on c f g (inr e) (inr h) = inr h

stored_keeps : (f : Frame) (o : Option (List ValueTree × Memory)) → KeepsClass f.code (stored f o).1
stored_keeps f None = inl refl
stored_keeps f (Some p) = inl refl

store_at_keeps : (ns : Names) (u : ValueTree) (f : Frame) (o : Fetched) → KeepsClass f.code (store_at ns u f o).1
store_at_keeps ns u f (Body (EffectInstr path e)) = stored_keeps f (assign ns.records f.mem path u)
store_at_keeps ns u f (Body (NewInstr p)) = stored_keeps f (put_at ns.records f.mem p [] u)
store_at_keeps ns u f _ = inl refl

pub store_keeps : (ns : Names) (u : ValueTree) (f : Frame) → KeepsClass f.code (store_at ns u f (fetch f.code f.block f.instr)).1
store_keeps ns u f = store_at_keeps ns u f (fetch f.code f.block f.instr)

onward_keeps : (f : Frame) (b : ℕ) (o : Option (List ValueTree × Memory)) → KeepsClass f.code (onward f b o).1
onward_keeps f b None = inl refl
onward_keeps f b (Some p) = inl refl

callback_keeps : (ns : Names) (u : ValueTree) (f : Frame) (o : Option CallbackTree) → KeepsClass f.code (take_callback ns u f o).1
callback_keeps ns u f None = inl refl
callback_keeps ns u f (Some c) = onward_keeps f c.block (bound ns u f.mem c.into)

take_at_keeps : (ns : Names) (n : ℕ) (u : ValueTree) (f : Frame) (o : Fetched) → KeepsClass f.code (take_at ns n u f o).1
take_at_keeps ns n u f (Last (ChooseLast g)) = callback_keeps ns u f (callback_at f.code g n)
take_at_keeps ns n u f _ = inl refl

pub take_keeps : (ns : Names) (n : ℕ) (u : ValueTree) (f : Frame) → KeepsClass f.code (take_at ns n u f (fetch f.code f.block f.instr)).1
take_keeps ns n u f = take_at_keeps ns n u f (fetch f.code f.block f.instr)

pub lose_keeps : (f : Frame) → KeepsClass f.code (lose f).1
lose_keeps f = inl refl

raised_keeps : (err : ℕ) (f : Frame) (o : Option CatcherTree) → KeepsClass f.code (raised err f o).1
raised_keeps err f None = inr refl
raised_keeps err f (Some c) = inl refl

pub raise_keeps : (err : ℕ) (f : Frame) → KeepsClass f.code (raise err f).1
raise_keeps err f = raised_keeps err f (catcher_at f.code f.block)
