-- A call statement of an actor in memory is a step of the class machine.
use Rattle.std.proofs.Common.{◌≡◌, ◌⊎◌, inl, inr, ℕ, suc, List, refl, sym, ap, ◌∙◌, subst, arith}
use Rattle.std.specs.declared.option.Option.TheVariants.{None, Some}
use Rattle.flow_base.specs.declared.ids.ActorId.{ActorId}
use Rattle.flow_ast.specs.declared.predefined.Predefined.{Predefined}
use Rattle.flow_ast.specs.declared.predefined.Predefined.TheVariants as predefined
use Rattle.flow_ast.specs.TypingNames.{named, call_names}
use Rattle.flow_value.specs.declared.value.Value.{Value}
use Rattle.flow_value.specs.Values.{ValueTree}
use Rattle.std.specs.declared.option.Option.{Option}
use Rattle.flow_eval.specs.Answers.{int_of, text_of, arg}
use Rattle.flow_class.specs.Classes.{RawTree}
use Rattle.flow_code.specs.declared.class.Act.TheVariants as act
use Rattle.flow_trace.specs.declared.line.Line.{Line}
use Rattle.flow_trace.specs.declared.line.Line.TheVariants as line
use Rattle.flow_cancel.specs.Heap.{actor_id}
use Rattle.flow_cancel.specs.declared.task.Task.TheVariants as task
use Rattle.flow_meaning.specs.Requests as asks
use Rattle.flow_meaning.specs.Requests.{Supply}
use Rattle.flow_meaning.specs.Evaluating.{StepOf, bind, evaluated, done, plain_act, function_act, started_act, values, asks as asking_for}
use Rattle.flow_meaning.specs.Process.{Run, Entry, Proc}
use Rattle.flow_meaning.specs.References.{Scan}
use Rattle.flow_meaning.specs.Lines.{print_line}
use Rattle.flow_meaning.specs.Work.{writes, pushed}
use Rattle.flow_meaning.specs.React.{print}
use Rattle.flow_meaning.specs.Step.{view, step, silent, start_alone, run_next, proc, on_core}
use Rattle.flow_meaning.specs.Class.{fetched, next_step, class_names, classes}
use Rattle.flow_meaning.specs.Frame.{Frame, look, next_instr}
use Rattle.flow_heap_refinement.specs.Acting.{put_frame}
use Rattle.flow_steps.specs.declared.call.Call.{Call}
use Rattle.flow_steps.specs.declared.call.Call.TheVariants as call
use Rattle.flow_steps.specs.declared.frames.ControlPoint.{ControlPoint}
use Rattle.flow_steps.specs.declared.next.Pace.TheVariants.{Off}
use Rattle.flow_steps.specs.declared.process.Process.{Process}
use Rattle.flow_steps.specs.Doing.{doing, asking, telling}
use Rattle.flow_steps.specs.Points.{noted, next_stand}
use Rattle.flow_steps.specs.Evaluating.{with_left}
use Rattle.flow_steps.specs.Acting.{Values, args_of, IsMessage, PredefinedCalled, VoidCalled, void_not_called, void_starts}
use Rattle.flow_steps.specs.Stepping.{IsAct}
use Rattle.flow_operation_refinement.specs.Stepped.{OnlyTells}
use Rattle.flow_operation_refinement.proofs.Takings.{turned_asked}
use Rattle.flow_operation_refinement.specs.Matching.{ProcessRepresents, shows, with_task}
use Rattle.flow_operation_refinement.specs.Placing.{RepresentsActor}
use Rattle.flow_operation_refinement.specs.Continuing.{MayBeStale}
use Rattle.flow_operation_refinement.specs.Carried.{StepsAs}
use Rattle.flow_operation_refinement.specs.Evaluated.{GivesValue}
use Rattle.flow_operation_refinement.proofs.Working.{as_many_shown, task_done, telling_shown}
use Rattle.flow_operation_refinement.proofs.Lost.{put_over}
use Rattle.flow_operation_refinement.proofs.Gone.{told_there, Stands}
use Rattle.flow_operation_refinement.proofs.Carrying.{old, seen, may, noted_follows, with_turns, asked}
use Rattle.flow_step_refinement.specs.Effects.Asking.{sends, resumed, Answered, by_itself, by_the_world, MayAsk}
use Rattle.flow_step_refinement.specs.Effects.Calling as law
use Rattle.flow_step_refinement.proofs.Effects.Answering.{nothing_told, line_told, evaluated_then, evaluation_at}
use Rattle.flow_step_refinement.proofs.Effects.Effecting.{asks_the_world}
use Rattle.flow_step_refinement.proofs.Effects.Starts.{may_resumed}
use Rattle.flow_step_refinement.proofs.Effects.Starts.{void_starts as start_follows}

-- an actor whose frame may be stale may ask
pub may_ask : (r : RawTree) (ls : List Line) (m : Process) (p : Proc Frame) (i : ℕ) (e : Entry) (f : Frame) (x : Scan) (s : ControlPoint) → MayBeStale r ls x s m p i e f → m.asked ≡ None
    → MayAsk r ls x s m p i e f
may_ask r ls m p i e f x s st none = record { actor = st.standing.actor; stood = noted_follows r ls m p i e f x s st; asked = none }

module _ (r : RawTree) (ls : List Line) (m : Process) (p : Proc Frame) (i : ℕ) (e : Entry) (f : Frame) where
  -- the frame at the next instruction
  abbrev pub next : Frame
  next = next_instr f.mem f

  -- memory shows the process once the frame is told that it stands there, with the turns that evaluation left
  pub next_stood : (x : Scan) (s : ControlPoint) (left : ℕ) → MayBeStale r ls x s m p i e f → RepresentsActor r ls x (noted (next_stand s) (with_left left m)) (resumed i next left p) i e next
  next_stood x s left st =
      let before : Frame = old r ls m p i e f x s st in
      let q : Proc Frame = seen r ls m p i e f x s st in
      let to : Stands s s.place (suc s.instruction) (next_stand s) = record { actor = refl; class = refl; place = refl; instruction = refl; noted = refl } in
      let there = told_there r ls m q i e before x s (next_stand s) s.place (suc s.instruction) f.state st.stood (may r ls m p i e f x s st) to in
      let here : record before { block = s.place; instr = suc s.instruction; state = f.state } ≡ next =
      ap (λ b. record f { block = b; instr = suc s.instruction }) st.standing.place ∙ ap (λ k. record f { instr = suc k }) st.instruction in
      let now : RepresentsActor r ls x (noted (next_stand s) m) (put_frame i next q) i e next = subst (λ g. RepresentsActor r ls x (noted (next_stand s) m) (put_frame i g q) i e g) here there in
      let over : RepresentsActor r ls x (noted (next_stand s) m) (put_frame i next p) i e next =
      subst (λ xs. RepresentsActor r ls x (noted (next_stand s) m) (proc p.core xs) i e next) (put_over p.actors i before next) now in
      with_turns r ls (noted (next_stand s) m) (put_frame i next p) i e next x left over

  module _ (x : Scan) (s : ControlPoint) (w : Supply) (st : MayBeStale r ls x s m p i e f) where
    -- the step of the process by what its actor asks
    pub stepped : (left : ℕ) (a : asks.Act) → next_step (class_names r) (view w i p.core) f ≡ asking_for left a next
        → step (classes r) w (on_core (pushed (Run i)) p) ≡ Some (run_next (classes r) w i p.core.tasks (asking_for left a next) (on_core (pushed (Run i)) p))
    stepped left a is = asked r ls m p i e f w (asking_for left a next) st.stood.shown.goes st.acting is

    -- a value is printed
    printed : (left : ℕ) (v : ValueTree) (line : Line) (n : Process) → m.asked ≡ None → print_line i v ≡ Some line
        → n ≡ telling line (doing (task.Run (actor_id i)) (noted (next_stand s) (with_left left m)))
        → next_step (class_names r) (view w i p.core) f ≡ asking_for left (asks.Prints v) next → StepsAs r ls x w p i e Off n
    printed left v line n none prints out is =
        let k : Process = noted (next_stand s) (with_left left m) in
        let q : Proc Frame = resumed i next left p in
        let there = next_stood x s left st in
        let ran = task_done r ls x k q (task.Run (actor_id i)) (Run i) (as_many_shown r ls x (with_task (Run i) x) k q (λ z j. omega arith) there.shown) refl in
        let told = telling_shown r ls x line (doing (task.Run (actor_id i)) k) (on_core (pushed (Run i)) q) ran none in
        record {
          after = on_core (λ c. pushed (Run i) (writes line c)) q;
          steps = stepped left (asks.Prints v) is ∙ ap (λ o. Some (silent (on_core (print i o) q))) prints;
          carries = shows (subst (λ z. ProcessRepresents r ls x z (on_core (λ c. pushed (Run i) (writes line c)) q)) (sym out) told);
        }

    -- a text is sent
    sent : (left : ℕ) (args : List ValueTree) (c : Call) (n : Process) → m.asked ≡ None → IsMessage (actor_id i) args c → n ≡ asking c (noted (next_stand s) (with_left left m))
        → next_step (class_names r) (view w i p.core) f
        ≡ evaluated f (done (bind (int_of (arg args 0)) (λ q. bind (int_of (arg args 1)) (λ port. bind (text_of (arg args 2)) (λ text. Some (asks.SendsTo q port text))))) left)
        (λ a left. asking_for left a next)
        → Answered r ls x w p i e Off n
    sent left args (call.SendTo j process port text) n none is out step_is =
        let act_is : next_step (class_names r) (view w i p.core) f ≡ asking_for left (asks.SendsTo process port text) next =
        step_is
        ∙ ap (λ o. evaluated f (done (bind o (λ q. bind (int_of (arg args 1)) (λ port. bind (text_of (arg args 2)) (λ text. Some (asks.SendsTo q port text))))) left)
        (λ a left. asking_for left a next)) is.1
        ∙ ap (λ o. evaluated f (done (bind o (λ port. bind (text_of (arg args 2)) (λ text. Some (asks.SendsTo process port text)))) left) (λ a left. asking_for left a next)) is.2
        ∙ ap (λ o. evaluated f (done (bind o (λ text. Some (asks.SendsTo process port text))) left) (λ a left. asking_for left a next)) is.3 in
        by_the_world refl (asks_the_world r ls m p i e f x s w next left (call.SendTo (actor_id i) process port text) (asks.SendsTo process port text) (noted (next_stand s) (with_left left m)) n
        (next_stood x s left st) none
        (sends process port text refl refl) (out ∙ ap (λ a. asking (call.SendTo a process port text) (noted (next_stand s) (with_left left m))) is.0)
        (stepped left (asks.SendsTo process port text) act_is))
    sent left args (call.Line l) n none is out step_is = absurd is
    sent left args (call.Draw a g lo hi) n none is out step_is = absurd is
    sent left args (call.Delay a g ticks) n none is out step_is = absurd is
    sent left args (call.Listen a g port) n none is out step_is = absurd is
    sent left args (call.Disk a g d) n none is out step_is = absurd is
    sent left args (call.Unlisten k) n none is out step_is = absurd is

    -- how it goes on with the arguments of a predefined call
    abbrev onward : Predefined → List ℕ → List ValueTree → ℕ → StepOf Frame
    onward called name vs left = evaluated f (plain_act (class_names r) (view w i p.core) (look f.mem) (Some called) name vs left) (λ a left. asking_for left a next)

    -- a predefined call with its arguments known
    by_called : (called : Predefined) (name : List ℕ) (args : Values) (left : ℕ) (n : Process) → m.asked ≡ None
        → PredefinedCalled (actor_id i) called args (noted (next_stand s) (with_left left m)) n
        → next_step (class_names r) (view w i p.core) f
        ≡ evaluated f (plain_act (class_names r) (view w i p.core) (look f.mem) (Some called) name (args_of args) left) (λ a left. asking_for left a next)
        → Answered r ls x w p i e Off n
    by_called predefined.Trace name args left n none t is =
        by_itself (printed left (arg (args_of args) 0) t.line n none t.prints t.told is) (line_told n.asked t.line (ap (λ (k : Process). k.asked) t.told))
    by_called predefined.SendTo name args left n none t is = sent left (args_of args) t.message n none t.is_message t.asks is
    by_called called name args left n none t is = absurd t

  pub predefined_step : law.PredefinedStep r ls m p i e f
  predefined_step x s w code name es called comes_to pace n st none there is_called same evaluates =
      by_case (evaluation_at r ls m p i e f x s w args_of comes_to (onward x s w st called name.name) (IsAct code s (act.World called)) pace n (may_ask r ls m p i e f x s st none) next_is evaluates)
    where
      next_is : next_step (class_names r) (view w i p.core) f ≡ evaluated f comes_to (onward x s w st called name.name)
      next_is =
          ap (fetched (class_names r) (view w i p.core) f) there
          ∙ evaluated_then f (values (class_names r) (view w i p.core) (look f.mem) es)
          (λ vs left. plain_act (class_names r) (view w i p.core) (look f.mem) (named call_names name.name) name.name vs left) (λ a left. asking_for left a next)
          ∙ ap (λ o. evaluated f (values (class_names r) (view w i p.core) (look f.mem) es)
          (λ vs left. evaluated f (plain_act (class_names r) (view w i p.core) (look f.mem) o name.name vs left) (λ a left. asking_for left a next))) is_called
          ∙ ap (λ k. evaluated f k (onward x s w st called name.name)) (sym same)

      by_case : GivesValue args_of comes_to m (IsAct code s (act.World called)) pace n ⊎ Answered r ls x w p i e pace n → Answered r ls x w p i e pace n
      by_case (inl v) =
          subst (λ z. Answered r ls x w p i e z n) (sym v.goes.0)
          (by_called x s w st called name.name v.value v.left n none
          (subst (λ (a : ActorId). PredefinedCalled a called v.value (noted (next_stand s) (with_left v.left m)) n) st.standing.actor v.goes.1)
          (next_is ∙ ap (λ k. evaluated f k (onward x s w st called name.name)) v.done))
      by_case (inr a) = a

  -- how it goes on with the arguments of a void actor
  abbrev starting : ℕ → List ValueTree → ℕ → StepOf Frame
  starting class vs left = asking_for left (asks.Starts class vs) next

  pub void_step : law.VoidStep r ls m p i e f
  void_step x s w code name es class comes_to pace n st none there starts may same evaluates =
      by_case (evaluation_at r ls m p i e f x s w args_of comes_to (starting class) (IsAct code s (act.Actor class)) pace n (may_ask r ls m p i e f x s st none) next_is evaluates)
    where
      next_is : next_step (class_names r) (view w i p.core) f ≡ evaluated f comes_to (starting class)
      next_is =
          ap (fetched (class_names r) (view w i p.core) f) there
          ∙ evaluated_then f (values (class_names r) (view w i p.core) (look f.mem) es)
          (λ vs left. plain_act (class_names r) (view w i p.core) (look f.mem) (named call_names name.name) name.name vs left) (λ a left. asking_for left a next)
          ∙ ap (λ o. evaluated f (values (class_names r) (view w i p.core) (look f.mem) es)
          (λ vs left. evaluated f (plain_act (class_names r) (view w i p.core) (look f.mem) o name.name vs left) (λ a left. asking_for left a next))) starts.own
          ∙ ap (λ o. evaluated f (values (class_names r) (view w i p.core) (look f.mem) es)
          (λ vs left. evaluated f (function_act (class_names r) (view w i p.core) (look f.mem) o name.name vs left) (λ a left. asking_for left a next))) starts.function
          ∙ ap (λ o. evaluated f (values (class_names r) (view w i p.core) (look f.mem) es)
          (λ vs left. evaluated f (started_act (class_names r) (view w i p.core) (look f.mem) o vs left) (λ a left. asking_for left a next))) starts.same
          ∙ ap (λ k. evaluated f k (starting class)) (sym same)

      silent_start : (o : Option Frame) (q : Proc Frame) → Some (start_alone (classes r) i class o q) ≡ Some (silent (start_alone (classes r) i class o q).0)
      silent_start None q = refl
      silent_start (Some a) q = refl

      start_told : (k : Process) (caller : ActorId) (vs : List Value) (n : Process) → k.asked ≡ None → VoidCalled code caller class vs k n → OnlyTells n.asked
      start_told k caller vs n none (void_not_called l q) = nothing_told n.asked (ap (λ (z : Process). z.asked) q ∙ turned_asked k ∙ none)
      start_told k caller vs n none (void_starts l z) = line_told n.asked (line.Start z.actor z.starts.of.name) (ap (λ (z : Process). z.asked) z.starts.told)

      by_case : GivesValue args_of comes_to m (IsAct code s (act.Actor class)) pace n ⊎ Answered r ls x w p i e pace n → Answered r ls x w p i e pace n
      by_case (inl v) =
          let left = v.left in
          let us = args_of v.value in
          let q : Proc Frame = resumed i next left p in
          let k : Process = noted (next_stand s) (with_left left m) in
          let here = next_stood x s left st in
          let is = next_is ∙ ap (λ k. evaluated f k (starting class)) v.done in
          let started = may_resumed r p code class us i next left (may us left v.done) in
          subst (λ z. Answered r ls x w p i e z n) (sym v.goes.0)
          (by_itself (record {
            after = (start_alone (classes r) i class ((classes r).fresh class us) q).0;
            steps = stepped x s w st left (asks.Starts class us) is ∙ silent_start ((classes r).fresh class us) q;
            carries = start_follows r ls x k q code (actor_id i) class v.value.items e next n here.shown none here.acts started
                (subst (λ (a : ActorId). VoidCalled code a class v.value.items k n) st.standing.actor v.goes.1);
          }) (start_told k s.actor v.value.items n none v.goes.1))
      by_case (inr a) = a
