-- A call statement without a base has a meaning.
use Rattle.std.proofs.Common.{◌≡◌, ◌⊎◌, inl, inr, ℕ, true, List, [], ◌∷◌, refl, sym, ap, ◌∙◌, subst}
use Rattle.std.specs.Prelude.{ℤ, slice_get}
use Rattle.std.specs.declared.option.Option.{Option}
use Rattle.std.specs.declared.option.Option.TheVariants.{None, Some}
use Rattle.flow_base.specs.declared.ids.ActorId.{ActorId}
use Rattle.flow_ast.specs.declared.predefined.Predefined.{Predefined}
use Rattle.flow_ast.specs.declared.predefined.Predefined.TheVariants as predefined
use Rattle.flow_ast.specs.Typing.{is_there, routine_named}
use Rattle.flow_ast.specs.TypingNames.{named, call_names}
use Rattle.flow_tree.specs.declared.limits.TheConstants.{CALL_DEPTH}
use Rattle.flow_tree.specs.declared.ty.Ident.{Ident}
use Rattle.flow_tree.specs.Tree.{ExprTrees}
use Rattle.flow_tree.specs.Decls.{RoutineTree}
use Rattle.flow_value.specs.Values.{ValueTree}
use Rattle.flow_value.specs.View.{value_of}
use Rattle.flow_eval.specs.Answers.{int_of, text_of, arg}
use Rattle.flow_eval.specs.Eval.{Res, Done, Meaningless, Setting, function_called}
use Rattle.flow_eval.specs.Functions.{Call, run_function, routine_at}
use Rattle.flow_code.specs.declared.expr.expr.Resolved.{Resolved}
use Rattle.flow_code.specs.Resolved.View.{nodes_of}
use Rattle.flow_code.specs.Resolved.Resolving.{resolved_all}
use Rattle.flow_class.specs.Classes.{ActInstr, RawTree}
use Rattle.flow_class.specs.Code.{Body, fetch}
use Rattle.flow_code.specs.declared.class.Act.TheVariants as act
use Rattle.flow_code.specs.declared.program.Code.{Code}
use Rattle.flow_code.specs.Coding.{act_named}
use Rattle.flow_trace.specs.declared.line.Line.{Line}
use Rattle.flow_meaning.specs.Requests as asks
use Rattle.flow_meaning.specs.Requests.{Supply}
use Rattle.flow_meaning.specs.Evaluating.{StepOf, evaluated, bind, done, setting, values, function_act, plain_act}
use Rattle.flow_meaning.specs.Evaluating as evaluating
use Rattle.flow_meaning.specs.Process.{Entry, Proc, View}
use Rattle.flow_meaning.specs.References.{Scan}
use Rattle.flow_meaning.specs.Step.{view}
use Rattle.flow_meaning.specs.Class.{class_names}
use Rattle.flow_meaning.specs.Frame.{Frame, look, next_instr}
use Rattle.flow_steps.specs.declared.frames.ControlPoint.{ControlPoint}
use Rattle.flow_steps.specs.declared.process.Process.{Process}
use Rattle.flow_steps.specs.Acting.{Values, args_of}
use Rattle.flow_steps.specs.Evaluating.{with_left, setting_in}
use Rattle.flow_steps.specs.Points.{noted, next_stand}
use Rattle.flow_steps.specs.Stepping.{values_for, function_result}
use Rattle.flow_steps.specs.StuckRequests.{PredefinedStuck}
use Rattle.flow_steps.specs.StuckCalls.{EvaluatesStuck}
use Rattle.flow_steps.specs.StuckSteps.{NothingStuck, ActStuck}
use Rattle.flow_operation_refinement.specs.Continuing.{MayBeStale}
use Rattle.flow_operation_refinement.proofs.Arguments.{same_setting}
use Rattle.flow_step_refinement.specs.Effects.Asking.{resumed}
use Rattle.flow_step_refinement.specs.Effects.Calling.{StartsClass}
use Rattle.flow_step_refinement.proofs.Effects.Answering.{evaluated_then}
use Rattle.flow_step_refinement.proofs.Effects.Calls.{next_stood}
use Rattle.flow_step_refinement.proofs.Effects.Starts.{may_resumed}
use Rattle.flow_burst_refinement.specs.Enabled.Allowing.{Running}
use Rattle.flow_burst_refinement.specs.Requests.Next.{MayStartBy, MayAskNext}
use Rattle.flow_burst_refinement.proofs.Requests.Allowed.{ask_allowed}
use Rattle.flow_machine_progress.proofs.Lookups.References.{some_none}
use Rattle.flow_step_refinement.proofs.Executes.{function_is}
use Rattle.flow_machine_progress.specs.Actors.{AtStep}
use Rattle.flow_machine_progress.proofs.Actors.Here.{Fit, evaluation_there, fits_at, has_meaning, fits_onward}
use Rattle.flow_machine_progress.proofs.Actors.Assigns.{coding_now, old, seen, framed, values_are}
use Rattle.flow_machine_progress.proofs.Actors.Enrolling.{enrols_alone_found}

module _ (r : RawTree) (w : Supply) (p : Proc Frame) (i : ℕ) (e : Entry) (f : Frame) (run : Running r p i e f) where
  abbrev sees : View
  sees = view w i p.core

  abbrev onward : asks.Act → ℕ → StepOf Frame
  onward a left = evaluating.asks left a (next_instr f.mem f)

  -- what is called has a meaning
  abbrev CallFits : Option Predefined → List ℕ → List ValueTree → ℕ → Type 0
  CallFits o name us left = Fit r w p i e f run (evaluated f (plain_act (class_names r) sees (look f.mem) o name us left) onward)

  -- a text that is sent has a process, a port and a text
  abbrev message : Option ℤ → Option ℤ → Option (List ℕ) → Option asks.Act
  message a b c = bind a (λ q. bind b (λ port. bind c (λ text. Some (asks.SendsTo q port text))))

  sends_all : (a b : Option ℤ) (c : Option (List ℕ)) (left : ℕ) → Fit r w p i e f run (evaluated f (done (message a b c) left) onward) → (a ≡ None) ⊎ (b ≡ None) ⊎ (c ≡ None) → ⊥
  sends_all None b c left fit is = fit.0
  sends_all (Some a) None c left fit is = fit.0
  sends_all (Some a) (Some b) None left fit is = fit.0
  sends_all (Some a) (Some b) (Some c) left fit (inl is) = some_none is
  sends_all (Some a) (Some b) (Some c) left fit (inr (inl is)) = some_none is
  sends_all (Some a) (Some b) (Some c) left fit (inr (inr is)) = some_none is

  predefined_there : (called : Predefined) (name : List ℕ) (vs : Values) (left : ℕ) (a : ActorId) → CallFits (Some called) name (args_of vs) left → PredefinedStuck a called vs → ⊥
  predefined_there predefined.Trace name vs left a fit none = let prints = fit.0.1 a.0 in some_none (sym prints.1 ∙ none)
  predefined_there predefined.SendTo name vs left a fit none = sends_all (int_of (arg (args_of vs) 0)) (int_of (arg (args_of vs) 1)) (text_of (arg (args_of vs) 2)) left fit none
  predefined_there called name vs left a fit none = fit.0

  -- a function that is called is there, and comes to something
  abbrev forgotten : ValueTree → ℕ → StepOf Frame
  forgotten u left = evaluating.asks left asks.Goes (next_instr f.mem f)

  abbrev now_set : Setting
  now_set = setting (class_names r) sees

  abbrev result_by : ℕ → List ValueTree → ℕ → Res ValueTree
  result_by k us left = function_called now_set (run_function now_set CALL_DEPTH) (slice_get r.functions k) us left

  function_there : (k : ℕ) (name : List ℕ) (us : List ValueTree) (left : ℕ) (o : Option RoutineTree) → slice_get r.functions k ≡ o → is_there o ≡ true
      → Fit r w p i e f run (evaluated f (function_act (class_names r) sees (look f.mem) o name us left) onward) → result_by k us left ≡ Meaningless → ⊥
  function_there k name us left None is there fit none = cc (there)
  function_there k name us left (Some g) is there fit none =
      has_meaning r w p i e f run (Call now_set g us left) forgotten
      (subst (λ z. Fit r w p i e f run z) (evaluated_then f (Call now_set g us left) (λ u l. Done asks.Goes l) onward) fit)
      (sym (ap (λ o. function_called now_set (run_function now_set CALL_DEPTH) o us left) is) ∙ none)

module _ (r : RawTree) (code : Code) (w : Supply) (ls : List Line) (x : Scan) (s : ControlPoint) (m : Process) (p : Proc Frame) (i : ℕ) (e : Entry) (f : Frame)
    (now : AtStep r code w ls x s m p i e f) (st : MayBeStale r ls x s m p i e f) where
  abbrev run : Running r p i e f
  run = now.running

  -- a call with its arguments known
  abbrev called : Ident → List ValueTree → ℕ → StepOf Frame
  called g us left = evaluated f (plain_act (class_names r) (view w i p.core) (look f.mem) (named call_names g.name) g.name us left) (onward r w p i e f run)

  module _ (g : Ident) (es : ExprTrees) (args : List Resolved) (there : fetch f.code f.block f.instr ≡ Body (ActInstr (g ∷ []) es))
      (nodes : nodes_of args ≡ resolved_all (coding_now r code w ls x s m p i e f now st).names es) where
    abbrev comes_to : Res (List ValueTree)
    comes_to = values (class_names r) (view w i p.core) (look f.mem) es

    is : values_for code s.actor.0 args m ≡ comes_to
    is = values_are r code w ls x s m p i e f now st es args nodes

    fit : Fit r w p i e f run (evaluated f comes_to (called g))
    fit =
        subst (λ z. Fit r w p i e f run z)
        (evaluated_then f comes_to (λ us left. plain_act (class_names r) (view w i p.core) (look f.mem) (named call_names g.name) g.name us left) (onward r w p i e f run))
        (fits_at r w p i e f run (Body (ActInstr (g ∷ []) es)) there)

    meant : values_for code s.actor.0 args m ≡ Meaningless → ⊥
    meant none = has_meaning r w p i e f run comes_to (called g) fit (sym is ∙ none)

    fit_then : (o : Option Predefined) → named call_names g.name ≡ o → (us : List ValueTree) (left : ℕ) → values_for code s.actor.0 args m ≡ Done us left → CallFits r w p i e f run o g.name us left
    fit_then o name us left done =
        subst (λ z. CallFits r w p i e f run z g.name us left) name (fits_onward r w p i e f run comes_to (called g) us left fit (sym is ∙ done))

    pub world_meant : (called : Predefined) → named call_names g.name ≡ Some called → EvaluatesStuck s args_of (values_for code s.actor.0 args m) m (ActStuck code s (act.World called)) → ⊥
    world_meant called name = evaluation_there s args_of (values_for code s.actor.0 args m) m (ActStuck code s (act.World called)) meant (framed r code w ls x s m p i e f now st) onward_there
      where
        onward_there : (vs : Values) (left : ℕ) → values_for code s.actor.0 args m ≡ Done (args_of vs) left → ActStuck code s (act.World called) vs (with_left left m) → ⊥
        onward_there vs left done (inl none) = framed r code w ls x s m p i e f now st none
        onward_there vs left done (inr stuck) = predefined_there r w p i e f run called g.name vs left s.actor (fit_then (Some called) name (args_of vs) left done) stuck

    pub function_meant : (k : ℕ)
        → act_named (named call_names g.name) ((coding_now r code w ls x s m p i e f now st).names.function g.name) ((coding_now r code w ls x s m p i e f now st).class g.name)
        ≡ Some (act.Function k)
        → EvaluatesStuck s args_of (values_for code s.actor.0 args m) m (ActStuck code s (act.Function k)) → ⊥
    function_meant k name = evaluation_there s args_of (values_for code s.actor.0 args m) m (ActStuck code s (act.Function k)) meant (framed r code w ls x s m p i e f now st) onward_there
      where
        own : (named call_names g.name ≡ None) × ((coding_now r code w ls x s m p i e f now st).names.function g.name ≡ Some k)
        own = function_is (named call_names g.name) ((coding_now r code w ls x s m p i e f now st).names.function g.name) ((coding_now r code w ls x s m p i e f now st).class g.name) k name

        same_set : setting_in code m ≡ setting (class_names r) (view w i p.core)
        same_set = same_setting r ls x m (seen r code w ls x s m p i e f now st) i e (old r code w ls x s m p i e f now st) code w st.stood now.standing.program now.clock

        result_is : (vs : Values) (left : ℕ) → function_result code k vs (with_left left m) ≡ result_by r w p i e f run k (args_of vs) left
        result_is vs left = ap (λ (y : Setting). function_called y (run_function y CALL_DEPTH) (slice_get y.functions k) (args_of vs) left) same_set

        -- a name with a number is that of a function
        same_routine : routine_named r.functions g.name ≡ slice_get r.functions k
        same_routine = (now.standing.program.coded.are_functions g.name).0 ∙ ap (routine_at r.functions) own.1

        function_is_there : is_there (slice_get r.functions k) ≡ true
        function_is_there = ap is_there (sym same_routine) ∙ sym (now.standing.program.coded.are_functions g.name).1 ∙ ap is_there own.1

        function_fits : (us : List ValueTree) (left : ℕ) → CallFits r w p i e f run None g.name us left
            → Fit r w p i e f run (evaluated f (function_act (class_names r) (view w i p.core) (look f.mem) (slice_get r.functions k) g.name us left) (onward r w p i e f run))
        function_fits us left fit =
            subst (λ o. Fit r w p i e f run (evaluated f (function_act (class_names r) (view w i p.core) (look f.mem) o g.name us left) (onward r w p i e f run))) same_routine fit

        onward_there : (vs : Values) (left : ℕ) → values_for code s.actor.0 args m ≡ Done (args_of vs) left → ActStuck code s (act.Function k) vs (with_left left m) → ⊥
        onward_there vs left done =
            evaluation_there s value_of (function_result code k vs (with_left left m)) (with_left left m) NothingStuck
            (λ none. function_there r w p i e f run k g.name (args_of vs) left (slice_get r.functions k) refl function_is_there
            (function_fits (args_of vs) left (fit_then None own.0 (args_of vs) left done)) (sym (result_is vs left) ∙ none))
            (framed r code w ls x s m p i e f now st) (λ v l is stuck. stuck)

    -- a void actor starts
    pub void_meant : (class : ℕ) → StartsClass r g class → EvaluatesStuck s args_of (values_for code s.actor.0 args m) m (ActStuck code s (act.Actor class)) → ⊥
    void_meant class starts = evaluation_there s args_of (values_for code s.actor.0 args m) m (ActStuck code s (act.Actor class)) meant (framed r code w ls x s m p i e f now st) onward_there
      where
        may : MayStartBy r code w p i e f g es
        may = subst (MayAskNext r code w p i e f) there (ask_allowed r code w p i e f run now.standing.program)

        onward_there : (vs : Values) (left : ℕ) → values_for code s.actor.0 args m ≡ Done (args_of vs) left → ActStuck code s (act.Actor class) vs (with_left left m) → ⊥
        onward_there vs left done (inl none) = framed r code w ls x s m p i e f now st none
        onward_there vs left done (inr stuck) =
            let next = next_instr f.mem f in
            let started = may class starts (args_of vs) left (sym is ∙ done) in
            let later = may_resumed r p code class (args_of vs) i next left started in
            enrols_alone_found r ls x (noted (next_stand s) (with_left left m)) (resumed i next left p) (next_stood r ls m p i e f x s left st).shown later.cells code class vs.items later stuck
