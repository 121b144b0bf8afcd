-- What an actor in memory does with what evaluation comes to is a step of the class machine.
use Rattle.std.proofs.Common.{◌≡◌, ◌⊎◌, inl, inr, ℕ, List, refl, sym, ap, ◌∙◌, subst, arith}
use Rattle.std.specs.declared.option.Option.{Option}
use Rattle.std.specs.declared.option.Option.TheVariants.{None, Some}
use Rattle.flow_base.specs.declared.ids.ActorId.{ActorId}
use Rattle.flow_base.specs.declared.ids.ErrorCode.{ErrorCode}
use Rattle.flow_eval.specs.Eval.{Res, Done, Fails, Spent, Meaningless, then}
use Rattle.flow_eval.specs.declared.stop.Halt.TheVariants as halt
use Rattle.flow_class.specs.Classes.{RawTree}
use Rattle.flow_trace.specs.declared.line.Line.{Line}
use Rattle.flow_cancel.specs.declared.task.Task.TheVariants as task
use Rattle.flow_cancel.specs.Heap.{actor_id}
use Rattle.flow_numbered.specs.Numbered.{put}
use Rattle.flow_meaning.specs.Requests.{Throws, RunsOut, Supply}
use Rattle.flow_meaning.specs.Evaluating.{StepOf, evaluated, asks as asking}
use Rattle.flow_meaning.specs.Process.{Throw, Spent as TurnsSpent, Entry, Proc}
use Rattle.flow_meaning.specs.References.{Scan}
use Rattle.flow_meaning.specs.Work.{halt, pushed}
use Rattle.flow_meaning.specs.Step.{view, proc, on_core}
use Rattle.flow_meaning.specs.Class.{next_step, class_names}
use Rattle.flow_meaning.specs.Frame.{Frame}
use Rattle.flow_heap_refinement.proofs.Acted.{same_put}
use Rattle.flow_steps.specs.declared.call.Call.{Call}
use Rattle.flow_steps.specs.declared.call.Call.TheVariants as call
use Rattle.flow_steps.specs.declared.frames.ControlPoint.{ControlPoint}
use Rattle.flow_steps.specs.declared.next.Pace.{Pace}
use Rattle.flow_steps.specs.declared.next.Pace.TheVariants.{Off}
use Rattle.flow_steps.specs.declared.process.Process.{Process}
use Rattle.flow_steps.specs.Doing.{doing}
use Rattle.flow_steps.specs.Points.{noted}
use Rattle.flow_steps.specs.Evaluating.{with_left, Halted, Evaluates, gives, throws, runs_out}
use Rattle.flow_operation_refinement.specs.Stepped.{OnlyTells}
use Rattle.flow_operation_refinement.specs.Matching.{ProcessRepresents, AreSpent, shows, ends, with_task}
use Rattle.flow_operation_refinement.specs.Placing.{RepresentsActor}
use Rattle.flow_operation_refinement.specs.Carried.{StepsAs}
use Rattle.flow_operation_refinement.specs.Evaluated.{GivesValue}
use Rattle.flow_operation_refinement.proofs.Working.{as_many_shown, task_done}
use Rattle.flow_operation_refinement.proofs.Carrying.{with_turns, asked}
use Rattle.flow_step_refinement.specs.Effects.Asking.{resumed, Answered, by_itself, MayAsk}

-- nothing is asked, or a line is told
pub nothing_told : (o : Option Call) → o ≡ None → OnlyTells o
nothing_told o e = subst OnlyTells (sym e) tt

pub line_told : (o : Option Call) (l : Line) → o ≡ Some (call.Line l) → OnlyTells o
line_told o l e = subst OnlyTells (sym e) tt

-- one evaluation after another
pub evaluated_then : {A B C : Type 0} (a : A) (o : Res B) (go : B → ℕ → Res C) (on : C → ℕ → StepOf A)
    → evaluated a (then o go) on ≡ evaluated a o (λ b left. evaluated a (go b left) on)
evaluated_then a (Done b left) go on = refl
evaluated_then a (Fails c left) go on = refl
evaluated_then a Spent go on = refl
evaluated_then a Meaningless go on = refl

module _ (r : RawTree) (ls : List Line) (m : Process) (p : Proc Frame) (i : ℕ) (e : Entry) (f : Frame) where
  -- memory shows the process with the turns that evaluation left
  pub resumed_stood : (x : Scan) (s : ControlPoint) (left : ℕ) → MayAsk r ls x s m p i e f → RepresentsActor r ls x (noted s (with_left left m)) (resumed i f left p) i e f
  resumed_stood x s left st =
      subst (λ xs. RepresentsActor r ls x (noted s (with_left left m)) (proc (record p.core { left = left }) xs) i e f) (sym (same_put p.actors i f st.stood.acts.acting))
      (with_turns r ls (noted s m) p i e f x left st.stood)

  error_at : (x : Scan) (s : ControlPoint) (w : Supply) (err : ErrorCode) (left : ℕ) (n : Process) → MayAsk r ls x s m p i e f → Halted s (halt.Thrown err) (with_left left m) n
      → next_step (class_names r) (view w i p.core) f ≡ asking left (Throws err.0) f → StepsAs r ls x w p i e Off n
  error_at x s w err left n st halted next =
      let there = resumed_stood x s left st in
      let q : Proc Frame = resumed i f left p in
      let k : Process = noted s (with_left left m) in
      let u = Throw i err.0 in
      let thrown = task_done r ls x k q (task.Throw (actor_id i) err) u (as_many_shown r ls x (with_task u x) k q (λ z j. omega arith) there.shown) refl in
      record {
        after = on_core (pushed u) q;
        steps = asked r ls m p i e f w (asking left (Throws err.0) f) st.stood.shown.goes st.stood.acts.acting next;
        carries = shows
            (subst (λ z. ProcessRepresents r ls x z (on_core (pushed u) q)) (sym halted)
            (subst (λ (a : ActorId). ProcessRepresents r ls x (doing (task.Throw a err) k) (on_core (pushed u) q)) (sym st.actor) thrown));
      }

  out_at : (x : Scan) (s : ControlPoint) (w : Supply) (n : Process) → MayAsk r ls x s m p i e f → Halted s halt.Spent (with_left 0 m) n
      → next_step (class_names r) (view w i p.core) f ≡ asking 0 RunsOut f → StepsAs r ls x w p i e Off n
  out_at x s w n st halted next = record {
    after = proc (halt TurnsSpent (record p.core { left = 0 })) (put p.actors i f);
    steps = asked r ls m p i e f w (asking 0 RunsOut f) st.stood.shown.goes st.stood.acts.acting next;
    carries = ends (subst (λ z. AreSpent ls z (proc (halt TurnsSpent (record p.core { left = 0 })) (put p.actors i f))) (sym halted) (record {
      spent = refl;
      halted = refl;
      lines = st.stood.shown.lines;
    }));
  }

  pub evaluation_at : {A B : Type 0} (x : Scan) (s : ControlPoint) (w : Supply) (seen : B → A) (comes_to : Res A) (go : A → ℕ → StepOf Frame)
      (goal : B → Process → Pace → Process → Type 0) (pace : Pace) (n : Process) → MayAsk r ls x s m p i e f
      → next_step (class_names r) (view w i p.core) f ≡ evaluated f comes_to go → Evaluates s seen comes_to m goal pace n
      → GivesValue seen comes_to m goal pace n ⊎ Answered r ls x w p i e pace n
  evaluation_at x s w seen comes_to go goal pace n st next (gives b left a q done goes) = inl (record { value = b; left = left; done = done; goes = goes })
  evaluation_at x s w seen comes_to go goal pace n st next (throws err left q fails halted) =
      inr (by_itself (error_at x s w err left n st halted (next ∙ ap (λ k. evaluated f k go) fails)) (nothing_told n.asked (ap (λ (k : Process). k.asked) halted ∙ st.asked)))
  evaluation_at x s w seen comes_to go goal pace n st next (runs_out q spent halted) =
      inr (by_itself (out_at x s w n st halted (next ∙ ap (λ k. evaluated f k go) spent)) (nothing_told n.asked (ap (λ (k : Process). k.asked) halted ∙ st.asked)))
