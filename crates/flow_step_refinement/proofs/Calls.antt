-- A call statement of a plain function in memory is a step of the class machine.
use Rattle.std.proofs.Common.{◌≡◌, ◌⊎◌, inl, inr, ℕ, List, [], refl, sym, ap, ◌∙◌, arith}
use Rattle.std.specs.Prelude.{slice_get}
use Rattle.std.specs.declared.option.Option.{Option}
use Rattle.std.specs.declared.option.Option.TheVariants.{None, Some}
use Rattle.flow_ast.specs.TypingNames.{named, call_names}
use Rattle.flow_tree.specs.declared.limits.TheConstants.{CALL_DEPTH}
use Rattle.flow_tree.specs.declared.ty.Ident.{Ident}
use Rattle.flow_tree.specs.Decls.{RoutineTree}
use Rattle.flow_value.specs.Values.{ValueTree}
use Rattle.flow_value.specs.View.{value_of}
use Rattle.flow_eval.specs.Eval.{Res, Done, Fails, Spent, Meaningless, Setting, then, function_called}
use Rattle.flow_eval.specs.Functions.{Call, run_function}
use Rattle.flow_class.specs.Classes.{RawTree}
use Rattle.flow_code.specs.declared.class.Act.TheVariants as act
use Rattle.flow_code.specs.declared.program.Code.{Code}
use Rattle.flow_trace.specs.declared.line.Line.{Line}
use Rattle.flow_numbered.specs.Numbered.{put}
use Rattle.flow_meaning.specs.Requests.{Act, Goes, Supply}
use Rattle.flow_meaning.specs.Evaluating.{StepOf, evaluated, asks, setting, function_act, plain_act}
use Rattle.flow_meaning.specs.Process.{Run, Entry, Proc}
use Rattle.flow_meaning.specs.References.{Scan}
use Rattle.flow_meaning.specs.Work.{pushed}
use Rattle.flow_meaning.specs.Step.{view, proc, on_core}
use Rattle.flow_meaning.specs.Class.{fetched, next_step, class_names}
use Rattle.flow_meaning.specs.Frame.{Frame, look, next_instr}
use Rattle.flow_heap_refinement.specs.Acting.{put_frame}
use Rattle.flow_heap_refinement.specs.Holds.{with_refs}
use Rattle.flow_steps.specs.declared.frames.ControlPoint.{ControlPoint}
use Rattle.flow_steps.specs.declared.next.Pace.{Pace}
use Rattle.flow_steps.specs.declared.next.Pace.TheVariants.{On}
use Rattle.flow_steps.specs.Points.{next_stand}
use Rattle.flow_steps.specs.declared.process.Process.{Process}
use Rattle.flow_steps.specs.Acting.{Values, args_of}
use Rattle.flow_steps.specs.Evaluating.{with_left, Evaluates, gives, throws, runs_out, setting_in}
use Rattle.flow_steps.specs.Stepping.{GoesNext, function_result, FunctionCalled, IsAct}
use Rattle.flow_operation_refinement.specs.Continuing.{stale, MayBeStale}
use Rattle.flow_operation_refinement.specs.Carried.{StepsAs}
use Rattle.flow_operation_refinement.specs.Evaluated.{GivesValue}
use Rattle.flow_operation_refinement.proofs.Places.{as_many_stood}
use Rattle.flow_operation_refinement.proofs.Lost.{unchanged}
use Rattle.flow_operation_refinement.proofs.Carrying.{asked}
use Rattle.flow_operation_refinement.proofs.Evaluations.{evaluation_follows}
use Rattle.flow_step_refinement.specs.Calling as law
use Rattle.flow_step_refinement.specs.Calling.{CallsFunction}
use Rattle.flow_step_refinement.proofs.Onward.{carries_over, stale_left}

-- evaluation with turns that an evaluation left
later : {A B : Type 0} (s : ControlPoint) (seen : B → A) (c : Res A) (m : Process) (left : ℕ) (goal : B → Process → Pace → Process → Type 0) (pace : Pace) (n : Process)
    → Evaluates s seen c (with_left left m) goal pace n → Evaluates s seen c m goal pace n
later s seen c m left goal pace n (gives b l a q done goes) = gives b l a q done goes
later s seen c m left goal pace n (throws err l q fails halted) = throws err l q fails halted
later s seen c m left goal pace n (runs_out q spent halted) = runs_out q spent halted

-- what has no meaning comes to nothing
no_meaning : {A B : Type 0} (s : ControlPoint) (seen : B → A) (c : Res A) (p : Process) (goal : B → Process → Pace → Process → Type 0) (pace : Pace) (n : Process)
    → c ≡ Meaningless → Evaluates s seen c p goal pace n → ⊥
no_meaning s seen c p goal pace n h (gives b l a q done goes) = cc (h, done)
no_meaning s seen c p goal pace n h (throws err l q fails halted) = cc (h, fails)
no_meaning s seen c p goal pace n h (runs_out q spent halted) = cc (h, spent)

-- a step by one evaluation after another
then_evaluated : {A B C : Type 0} (f : C) (c : Res A) (k : A → ℕ → Res B) (go : B → ℕ → StepOf C) → evaluated f (then c k) go ≡ evaluated f c (λ a l. evaluated f (k a l) go)
then_evaluated f (Done a l) k go = refl
then_evaluated f (Fails err l) k go = refl
then_evaluated f Spent k go = refl
then_evaluated f Meaningless k go = refl

module _ (r : RawTree) (ls : List Line) (m : Process) (p : Proc Frame) (i : ℕ) (e : Entry) (f : Frame) where
  -- a call with its arguments known
  abbrev called : Supply → Ident → List ValueTree → ℕ → StepOf Frame
  called w name vs left =
      evaluated f (plain_act (class_names r) (view w i p.core) (look f.mem) (named call_names name.name) name.name vs left) (λ a l. asks l a (next_instr f.mem f))

  -- the actor goes on at the next instruction with these turns
  goes_next : (x : Scan) (s : ControlPoint) (w : Supply) (left : ℕ) (pace : Pace) (n : Process) → MayBeStale r ls x s m p i e f
      → next_step (class_names r) (view w i p.core) f ≡ asks left Goes (next_instr f.mem f) → (pace ≡ On (next_stand s)) × (n ≡ with_left left m)
      → StepsAs r ls x w p i e pace n
  goes_next x s w left pace n st next goes =
      let q : Proc Frame = on_core (λ c. record c { left = left }) p in
      let m1 : Process = with_left left m in
      let st1 = stale_left r ls m p i e f x s st left in
      let o : Frame = stale st1.block st1.instr st1.state f in
      let again = unchanged r ls i e x m1 (put_frame i o q) o st1.stood in
      let held = as_many_stood r ls x (with_refs [] x) m1 (put_frame i o (put_frame i o q)) i e o (λ z j. omega arith) again in record {
        after = proc (pushed (Run i) q.core) (put p.actors i (next_instr f.mem f));
        steps = asked r ls m p i e f w (asks left Goes (next_instr f.mem f)) st.stood.shown.goes st.acting next;
        carries = carries_over r ls m1 q i e f x s st1 f.mem [] [] m1 pace n held refl goes;
      }

  module _ (x : Scan) (s : ControlPoint) (w : Supply) (code : Code) (name : Ident) (k : ℕ) (function : RoutineTree) (is : slice_get r.functions k ≡ Some function) (calls : CallsFunction r name k)
      (same_setting : setting_in code m ≡ setting (class_names r) (view w i p.core)) where
    abbrev set : Setting
    set = setting (class_names r) (view w i p.core)

    abbrev go : Act → ℕ → StepOf Frame
    go a left = asks left a (next_instr f.mem f)

    -- the value is forgotten
    abbrev forgotten : ValueTree → ℕ → StepOf Frame
    forgotten u left = asks left Goes (next_instr f.mem f)

    function_next : (vs : List ValueTree) (left : ℕ) → called w name vs left ≡ evaluated f (Call set function vs left) forgotten
    function_next vs left =
        ap (λ o. evaluated f (plain_act (class_names r) (view w i p.core) (look f.mem) o name.name vs left) go) calls.own
        ∙ ap (λ o. evaluated f (function_act (class_names r) (view w i p.core) (look f.mem) o name.name vs left) go) (calls.same ∙ is)
        ∙ then_evaluated f (Call set function vs left) (λ u l. Done Goes l) go

    result_is : (vs : Values) (left : ℕ) → function_result code k vs (with_left left m) ≡ Call set function (args_of vs) left
    result_is vs left =
        ap (λ (y : Setting). function_called y (run_function y CALL_DEPTH) (slice_get y.functions k) (args_of vs) left) same_setting
        ∙ ap (λ o. function_called set (run_function set CALL_DEPTH) o (args_of vs) left) is

    function_called_then : (vs : Values) (left : ℕ) (pace : Pace) (n : Process) → MayBeStale r ls x s m p i e f
        → next_step (class_names r) (view w i p.core) f ≡ called w name (args_of vs) left
        → FunctionCalled code s k vs (with_left left m) pace n → StepsAs r ls x w p i e pace n
    function_called_then vs left pace n st next called_then =
        by_result (evaluation_follows r ls m p i e f x s w value_of (function_result code k vs (with_left left m)) forgotten (GoesNext s) pace n st
        (next ∙ function_next (args_of vs) left ∙ ap (λ c. evaluated f c forgotten) (sym (result_is vs left)))
        (later s value_of (function_result code k vs (with_left left m)) m left (GoesNext s) pace n called_then))
      where
        by_result : GivesValue value_of (function_result code k vs (with_left left m)) m (GoesNext s) pace n ⊎ StepsAs r ls x w p i e pace n → StepsAs r ls x w p i e pace n
        by_result (inl g) =
            goes_next x s w g.left pace n st
            (next ∙ function_next (args_of vs) left ∙ ap (λ c. evaluated f c forgotten) (sym (result_is vs left) ∙ g.done)) g.goes
        by_result (inr a) = a

  pub function_step : law.FunctionStep r ls m p i e f
  function_step x s w code name es k comes_to pace n st there calls same_setting same evaluates =
      by_args (evaluation_follows r ls m p i e f x s w args_of comes_to (called w name) (IsAct code s (act.Function k)) pace n st next evaluates)
    where
      next : next_step (class_names r) (view w i p.core) f ≡ evaluated f comes_to (called w name)
      next =
          ap (fetched (class_names r) (view w i p.core) f) there
          ∙ ap (λ c. evaluated f (then c (λ vs left. plain_act (class_names r) (view w i p.core) (look f.mem) (named call_names name.name) name.name vs left))
          (λ a left. asks left a (next_instr f.mem f))) (sym same)
          ∙ then_evaluated f comes_to (λ vs left. plain_act (class_names r) (view w i p.core) (look f.mem) (named call_names name.name) name.name vs left) (λ a left. asks left a (next_instr f.mem f))

      by_function : (o : Option RoutineTree) → slice_get r.functions k ≡ o → (vs : Values) (left : ℕ) → comes_to ≡ Done (args_of vs) left → FunctionCalled code s k vs (with_left left m) pace n
          → StepsAs r ls x w p i e pace n
      by_function None is vs left done called_then =
          absurd (no_meaning s value_of (function_result code k vs (with_left left m)) (with_left left m) (GoesNext s) pace n
          (ap (λ (y : Setting). function_called y (run_function y CALL_DEPTH) (slice_get y.functions k) (args_of vs) left) same_setting
          ∙ ap (λ o. function_called (setting (class_names r) (view w i p.core)) (run_function (setting (class_names r) (view w i p.core)) CALL_DEPTH) o (args_of vs) left) is) called_then)
      by_function (Some function) is vs left done called_then =
          function_called_then x s w code name k function is calls same_setting vs left pace n st (next ∙ ap (λ c. evaluated f c (called w name)) done) called_then

      by_args : GivesValue args_of comes_to m (IsAct code s (act.Function k)) pace n ⊎ StepsAs r ls x w p i e pace n → StepsAs r ls x w p i e pace n
      by_args (inl g) = by_function (slice_get r.functions k) refl g.value g.left g.done g.goes
      by_args (inr a) = a
