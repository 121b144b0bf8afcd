-- Evaluation that breaks off where an actor stands whose frame says so.
use Rattle.std.proofs.Common.{◌≡◌, ◌⊎◌, inl, inr, ℕ, true, List, refl, sym, ap, ◌∙◌, subst, arith}
use Rattle.flow_base.specs.declared.ids.ActorId.{ActorId}
use Rattle.flow_base.specs.declared.ids.ErrorCode.{ErrorCode}
use Rattle.flow_eval.specs.Eval.{Res}
use Rattle.flow_eval.specs.declared.stop.Halt.TheVariants as halt
use Rattle.flow_class.specs.Classes.{RawTree}
use Rattle.flow_trace.specs.declared.line.Line.{Line}
use Rattle.flow_cancel.specs.declared.task.Task.TheVariants as task
use Rattle.flow_cancel.specs.Heap.{actor_id}
use Rattle.flow_numbered.specs.Numbered.{put}
use Rattle.flow_meaning.specs.Requests.{Throws, RunsOut, Supply}
use Rattle.flow_meaning.specs.Evaluating.{StepOf, evaluated, asks}
use Rattle.flow_meaning.specs.Process.{Run, Throw, Spent, Entry, Proc}
use Rattle.flow_meaning.specs.References.{Scan}
use Rattle.flow_meaning.specs.Work.{halt, pushed}
use Rattle.flow_meaning.specs.Step.{view, proc, on_core}
use Rattle.flow_meaning.specs.Class.{next_step, class_names}
use Rattle.flow_meaning.specs.Frame.{Frame}
use Rattle.flow_heap_refinement.proofs.Acted.{same_put}
use Rattle.flow_steps.specs.declared.frames.ControlPoint.{ControlPoint}
use Rattle.flow_steps.specs.declared.next.Pace.{Pace}
use Rattle.flow_steps.specs.declared.next.Pace.TheVariants.{Off}
use Rattle.flow_steps.specs.declared.process.Process.{Process}
use Rattle.flow_steps.specs.Doing.{doing}
use Rattle.flow_steps.specs.Holding.{on_heap}
use Rattle.flow_steps.specs.Evaluating.{with_left, Halted, Evaluates, gives, throws, runs_out}
use Rattle.flow_steps.specs.Points.{noting, noted}
use Rattle.flow_operation_refinement.specs.Matching.{ProcessRepresents, AreSpent, shows, ends, with_task}
use Rattle.flow_operation_refinement.specs.Placing.{RepresentsActor}
use Rattle.flow_operation_refinement.specs.Evaluated.{GivesValue}
use Rattle.flow_operation_refinement.proofs.Working.{as_many_shown, task_done}
use Rattle.flow_operation_refinement.proofs.Carrying.{with_turns, asked}
use Rattle.flow_step_refinement.specs.Continuing.{no_more, then_on, GoesBy}

-- a frame that says where it stands isn't told
pub noted_same : (s : ControlPoint) (m : Process) → s.noted ≡ true → noted s m ≡ m
noted_same s m h = ap (λ b. on_heap (noting b s.actor.0 s.place s.instruction) m) h

module _ (r : RawTree) (ls : List Line) (m : Process) (p : Proc Frame) (i : ℕ) (e : Entry) (f : Frame) (x : Scan) (s : ControlPoint) (w : Supply)
    (actor : s.actor ≡ actor_id i) (noted_there : s.noted ≡ true) (st : RepresentsActor r ls x m p i e f) where
  pub error_off : (err : ErrorCode) (left : ℕ) (n : Process) → Halted s (halt.Thrown err) (with_left left m) n
      → next_step (class_names r) (view w i p.core) f ≡ asks left (Throws err.0) f → GoesBy r ls x w i e.class (on_core (pushed (Run i)) p) Off n
  error_off err left n halted next =
      let there = with_turns r ls m p i e f x left st in
      let q : Proc Frame = on_core (λ c. record c { left = left }) p in
      let u = Throw i err.0 in
      let after : Proc Frame = proc (pushed u q.core) (put p.actors i f) in
      let thrown = task_done r ls x (with_left left m) q (task.Throw (actor_id i) err) u
      (as_many_shown r ls x (with_task u x) (with_left left m) q (λ z j. omega arith) there.shown) refl in
      record {
        after = after;
        steps = then_on (on_core (pushed (Run i)) p) after after (asked r ls m p i e f w (asks left (Throws err.0) f) st.shown.goes st.acts.acting next) (no_more after);
        onward = shows
            (subst (λ z. ProcessRepresents r ls x z after) (sym (halted ∙ ap (doing (task.Throw s.actor err)) (noted_same s (with_left left m) noted_there)))
            (subst (λ (a : ActorId). ProcessRepresents r ls x (doing (task.Throw a err) (with_left left m)) after) (sym actor)
            (subst (λ xs. ProcessRepresents r ls x (doing (task.Throw (actor_id i) err) (with_left left m)) (proc (pushed u q.core) xs)) (sym (same_put p.actors i f st.acts.acting)) thrown)));
      }

  pub ran_off : (n : Process) → Halted s halt.Spent (with_left 0 m) n → next_step (class_names r) (view w i p.core) f ≡ asks 0 RunsOut f
      → GoesBy r ls x w i e.class (on_core (pushed (Run i)) p) Off n
  ran_off n halted next =
      let after : Proc Frame = proc (halt Spent (record p.core { left = 0 })) (put p.actors i f) in record {
        after = after;
        steps = then_on (on_core (pushed (Run i)) p) after after (asked r ls m p i e f w (asks 0 RunsOut f) st.shown.goes st.acts.acting next) (no_more after);
        onward = ends (subst (λ z. AreSpent ls z after) (sym (halted ∙ ap (λ (y : Process). record y { spent = true }) (noted_same s (with_left 0 m) noted_there))) (record {
          spent = refl;
          halted = refl;
          lines = st.shown.lines;
        }));
      }

  pub evaluation_there : {A B : Type 0} (seen : B → A) (comes_to : Res A) (go : A → ℕ → StepOf Frame) (goal : B → Process → Pace → Process → Type 0) (pace : Pace) (n : Process)
      → next_step (class_names r) (view w i p.core) f ≡ evaluated f comes_to go → Evaluates s seen comes_to m goal pace n
      → GivesValue seen comes_to m goal pace n ⊎ GoesBy r ls x w i e.class (on_core (pushed (Run i)) p) pace n
  evaluation_there seen comes_to go goal pace n next (gives b left a q done goes) = inl (record { value = b; left = left; done = done; goes = goes })
  evaluation_there seen comes_to go goal pace n next (throws err left q fails halted) = inr (error_off err left n halted (next ∙ ap (λ k. evaluated f k go) fails))
  evaluation_there seen comes_to go goal pace n next (runs_out q spent halted) = inr (ran_off n halted (next ∙ ap (λ k. evaluated f k go) spent))
