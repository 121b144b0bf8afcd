-- A step of an actor in memory by an instruction that evaluates nothing is a step of the class machine.
use Rattle.std.proofs.Common.{◌≡◌, ℕ, suc, List, Bool, true, false, refl, sym, ap, ◌∙◌, subst, arith}
use Rattle.std.specs.declared.option.Option.TheVariants.{None, Some}
use Rattle.flow_base.specs.declared.ids.ActorId.{ActorId}
use Rattle.flow_class.specs.Classes.{DropInstr, GotoLast, PassLast, RawTree}
use Rattle.flow_class.specs.Code.{Fetched, Body, Last, fetch}
use Rattle.flow_trace.specs.declared.line.Line.{Line}
use Rattle.flow_numbered.specs.Numbered.{thing, put}
use Rattle.flow_cancel.specs.declared.task.Task.TheVariants as task
use Rattle.flow_cancel.specs.Heap.{actor_id}
use Rattle.flow_meaning.specs.Requests.{Throws, RunsOut, Supply}
use Rattle.flow_meaning.specs.Evaluating.{StepOf, asks}
use Rattle.flow_meaning.specs.Cells.{Ref}
use Rattle.flow_meaning.specs.Process.{Run, Throw, Spent, Entry, Proc}
use Rattle.flow_meaning.specs.References.{Scan, refs_in}
use Rattle.flow_meaning.specs.Work as work
use Rattle.flow_meaning.specs.Work.{turn, turn_of, halt, pushed}
use Rattle.flow_meaning.specs.Step.{view, run, run_next, step_if, step, proc, on_core}
use Rattle.flow_meaning.specs.Class.{fetched, next_step, class_names, classes}
use Rattle.flow_meaning.specs.Frame.{Frame, held_in, emptied, go, next_instr}
use Rattle.flow_heap_refinement.specs.Acting.{put_frame}
use Rattle.flow_steps.specs.declared.frames.ControlPoint.{ControlPoint}
use Rattle.flow_steps.specs.declared.next.Pace.{Pace}
use Rattle.flow_steps.specs.declared.next.Pace.TheVariants.{On, Off}
use Rattle.flow_steps.specs.declared.process.Process.{Process}
use Rattle.flow_steps.specs.Doing.{doing}
use Rattle.flow_steps.specs.Holding.{on_heap}
use Rattle.flow_steps.specs.Evaluating.{with_left}
use Rattle.flow_steps.specs.Points.{gone, noting, noted, next_stand}
use Rattle.flow_operation_refinement.specs.Matching.{ProcessRepresents, AreSpent, shows, ends, with_task}
use Rattle.flow_operation_refinement.specs.Placing.{RepresentsActor}
use Rattle.flow_operation_refinement.specs.Continuing.{stale, MayBeStale, MayMove}
use Rattle.flow_operation_refinement.specs.Carried.{Carries, StepsAs}
use Rattle.flow_heap_refinement.proofs.Acted.{same_put}
use Rattle.flow_operation_refinement.proofs.Working.{as_many_shown, holds_aside, task_done}
use Rattle.flow_operation_refinement.proofs.Parting.{acts_by}
use Rattle.flow_operation_refinement.proofs.Moving.{goes_in}
use Rattle.flow_operation_refinement.proofs.Lost.{put_over}
use Rattle.flow_operation_refinement.specs.Carried as law
use Rattle.flow_operation_refinement.specs.Continuing as going
use Rattle.flow_operation_refinement.proofs.Gone.{locals_dropped, went_to, pass_began}

module _ (r : RawTree) (ls : List Line) (m : Process) (p : Proc Frame) (i : ℕ) (e : Entry) (f : Frame) (x : Scan) (s : ControlPoint) (st : MayBeStale r ls x s m p i e f) where
  -- the frame as memory has it, and the process with that
  abbrev pub old : Frame
  old = stale st.block st.instr st.state f

  abbrev pub seen : Proc Frame
  seen = put_frame i old p

  pub may : MayMove s seen i e old
  may = record {
    actor = st.standing.actor;
    slots = st.standing.slots;
    free = record { waits = st.free.waits; keeps = st.free.keeps };
    operands = st.operands;
  }

  -- the step of the process by what stands where the frame stands
  pub stepped : (w : Supply) (k : Fetched) → fetch f.code f.block f.instr ≡ k
      → step (classes r) w (on_core (pushed (Run i)) p)
      ≡ Some (run_next (classes r) w i p.core.tasks (fetched (class_names r) (view w i (pushed (Run i) p.core)) f k) (on_core (pushed (Run i)) p))
  stepped w k at =
      ap (λ h. step_if (classes r) w h (on_core (pushed (Run i)) p)) st.stood.shown.goes
      ∙ ap (λ a. Some (run (classes r) w i p.core.tasks a (on_core (pushed (Run i)) p))) st.acting
      ∙ ap (λ l. Some (run_next (classes r) w i p.core.tasks (fetched (class_names r) (view w i (pushed (Run i) p.core)) f l) (on_core (pushed (Run i)) p))) at

  -- values that are left over
  pub after_values : (t : ControlPoint) (rs : List Ref) (g : Frame) (pace : Pace) (n : Process) → going.AfterValues r ls m seen i e old x t rs g pace n
      → Carries r ls x i e pace n (proc (work.dropping rs (pushed (Run i) p.core)) (put p.actors i g))
  after_values t rs g (On u) n a = (
    seen,
    (
      g,
      (
        ap (λ us. proc (work.dropping us (pushed (Run i) p.core)) (put p.actors i g)) a.1 ∙ ap (λ xs. proc (pushed (Run i) p.core) xs) (sym (put_over p.actors i old g)),
        subst (λ (v : ControlPoint). going.ContinuesAt r ls x v n seen i e g) (sym a.0) a.2,
      ),
    ),
  )
  after_values t rs g Off n a = shows (subst (λ xs. ProcessRepresents r ls x n (proc (work.dropping rs (pushed (Run i) p.core)) xs)) (put_over p.actors i old g) a)

  -- a block
  pub at_block : (g : Frame) (pace : Pace) (n : Process) → going.GoesAt r ls m seen i e old x g pace n → Carries r ls x i e pace n (on_core (pushed (Run i)) (put_frame i g p))
  at_block g (On t) n a = (seen, (g, (ap (λ xs. proc (pushed (Run i) p.core) xs) (sym (put_over p.actors i old g)), a)))
  at_block g Off n a = absurd a

  -- a pass
  pub after_pass : (g : Frame) (pace : Pace) (n : Process) → going.AfterPass r ls m seen i e old x g pace n
      → Carries r ls x i e pace n (proc (turn p.core (λ d. pushed (Run i) d)) (put p.actors i g))
  after_pass g (On t) n a = (
    on_core (λ c. record c { left = a.0 }) seen,
    (
      g,
      (
        ap (λ k. proc (turn_of k p.core (λ d. pushed (Run i) d)) (put p.actors i g)) (st.stood.shown.left ∙ a.1)
            ∙ ap (λ xs. proc (pushed (Run i) (record p.core { left = a.0 })) xs) (sym (put_over p.actors i old g)),
        a.2,
      ),
    ),
  )
  after_pass g Off n a = ends (record { spent = a.spent; halted = a.halted; lines = a.lines })

module _ (r : RawTree) (ls : List Line) (m : Process) (p : Proc Frame) (i : ℕ) (e : Entry) (f : Frame) where
  pub drop_step : law.DropStep r ls m p i e f
  drop_step x s w ns pace n st has there after =
      let g : Frame = next_instr (emptied ns f.mem) f in
      let out : Proc Frame = proc (work.dropping (refs_in (held_in f.mem ns)) (pushed (Run i) p.core)) (put p.actors i g) in
      let dropped = locals_dropped r ls m (put_frame i (stale st.block st.instr st.state f) p) i e (stale st.block st.instr st.state f) x s ns f.state pace n st.stood
      (may r ls m p i e f x s st) has after in
      let here : record f { mem = emptied ns f.mem; block = s.place; instr = suc s.instruction; state = f.state } ≡ g =
      ap (λ b. record f { mem = emptied ns f.mem; block = b; instr = suc s.instruction }) st.standing.place ∙ ap (λ k. record f { mem = emptied ns f.mem; instr = suc k }) st.instruction in
      record {
        after = out;
        steps = stepped r ls m p i e f x s st w (Body (DropInstr ns)) there;
        carries = subst (λ k. Carries r ls x i e pace n (proc (work.dropping (refs_in (held_in f.mem ns)) (pushed (Run i) p.core)) (put p.actors i k))) here
            (after_values r ls m p i e f x s st (next_stand s) (refs_in (held_in f.mem ns)) (record f { mem = emptied ns f.mem; block = s.place; instr = suc s.instruction; state = f.state }) pace n
            dropped);
      }

  pub goto_step : law.GotoStep r ls m p i e f
  goto_step x s w b pace n st there goes = record {
    after = on_core (pushed (Run i)) (put_frame i (go b f.mem f) p);
    steps = stepped r ls m p i e f x s st w (Last (GotoLast b)) there;
    carries = at_block r ls m p i e f x s st (go b f.mem f) pace n
        (went_to r ls m (put_frame i (stale st.block st.instr st.state f) p) i e (stale st.block st.instr st.state f) x s b pace n st.stood (may r ls m p i e f x s st) goes);
  }

  pub pass_step : law.PassStep r ls m p i e f
  pass_step x s w b pace n st there passes = record {
    after = proc (turn p.core (λ d. pushed (Run i) d)) (put p.actors i (go b f.mem f));
    steps = stepped r ls m p i e f x s st w (Last (PassLast b)) there;
    carries = after_pass r ls m p i e f x s st (go b f.mem f) pace n
        (pass_began r ls m (put_frame i (stale st.block st.instr st.state f) p) i e (stale st.block st.instr st.state f) x s b pace n st.stood (may r ls m p i e f x s st) passes);
  }

module _ (r : RawTree) (ls : List Line) (m : Process) (p : Proc Frame) (i : ℕ) (e : Entry) (f : Frame) where
  pub noted_follows : law.NotedFollows r ls m p i e f
  noted_follows x s st = by_flag s.noted refl
    where
      before : Frame
      before = stale st.block st.instr st.state f

      seen_then : Proc Frame
      seen_then = put_frame i (stale st.block st.instr st.state f) p

      same : put p.actors i f ≡ p.actors
      same = same_put p.actors i f st.acting

      by_flag : (b : Bool) → s.noted ≡ b → RepresentsActor r ls x (noted s m) p i e f
      by_flag true h =
          subst (λ b. RepresentsActor r ls x (on_heap (noting b s.actor.0 s.place s.instruction) m) p i e f) (sym h)
          (subst (λ xs. RepresentsActor r ls x m (proc p.core xs) i e f) same
          (subst (λ g. RepresentsActor r ls x m (put_frame i g p) i e g) (st.told h) st.stood))
      by_flag false h =
          let gone_there = goes_in r ls x m (put_frame i (stale st.block st.instr st.state f) p) i e (stale st.block st.instr st.state f) f.block f.instr f.state st.stood st.operands
          (record { waits = st.free.waits; keeps = st.free.keeps }) in
          subst (λ b. RepresentsActor r ls x (on_heap (noting b s.actor.0 s.place s.instruction) m) p i e f) (sym h)
          (subst (λ (a : ActorId). RepresentsActor r ls x (on_heap (gone a.0 s.place s.instruction) m) p i e f) (sym st.standing.actor)
          (subst (λ b. RepresentsActor r ls x (on_heap (gone i b s.instruction) m) p i e f) (sym st.standing.place)
          (subst (λ k. RepresentsActor r ls x (on_heap (gone i f.block k) m) p i e f) (sym st.instruction)
          (subst (λ xs. RepresentsActor r ls x (on_heap (gone i f.block f.instr) m) (proc p.core xs) i e f) (put_over p.actors i (stale st.block st.instr st.state f) f ∙ same) gone_there))))

-- with other turns
pub with_turns : (r : RawTree) (ls : List Line) (m : Process) (p : Proc Frame) (i : ℕ) (e : Entry) (f : Frame) (x : Scan) (n : ℕ) → RepresentsActor r ls x m p i e f
    → RepresentsActor r ls x (with_left n m) (on_core (λ c. record c { left = n }) p) i e f
with_turns r ls m p i e f x n st = record {
  shown = record { holds = holds_aside r x m.heap p p.core.lines n st.shown.holds; left = refl; lines = st.shown.lines; unspent = st.shown.unspent; goes = st.shown.goes };
  acts = acts_by r m.heap m.heap p (on_core (λ c. record c { left = n }) p) i e f refl refl refl refl st.acts;
}

module _ (r : RawTree) (ls : List Line) (m : Process) (p : Proc Frame) (i : ℕ) (e : Entry) (f : Frame) where
  -- the step of the process by what its actor asks
  pub asked : (w : Supply) (k : StepOf Frame) → p.core.halted ≡ None → thing p.actors i ≡ Some f → next_step (class_names r) (view w i p.core) f ≡ k
      → step (classes r) w (on_core (pushed (Run i)) p) ≡ Some (run_next (classes r) w i p.core.tasks k (on_core (pushed (Run i)) p))
  asked w k goes at next =
      ap (λ h. step_if (classes r) w h (on_core (pushed (Run i)) p)) goes
      ∙ ap (λ a. Some (run (classes r) w i p.core.tasks a (on_core (pushed (Run i)) p))) at
      ∙ ap (λ l. Some (run_next (classes r) w i p.core.tasks l (on_core (pushed (Run i)) p))) next

  pub error_thrown : law.ErrorThrown r ls m p i e f
  error_thrown x s w err left n st halted next =
      let there = with_turns r ls (noted s m) p i e f x left (noted_follows r ls m p i e f x s st) in
      let q : Proc Frame = on_core (λ c. record c { left = left }) p in
      let u = Throw i err.0 in
      let thrown = task_done r ls x (with_left left (noted s m)) q (task.Throw (actor_id i) err) u
      (as_many_shown r ls x (with_task u x) (with_left left (noted s m)) q (λ z j. omega arith) there.shown) refl in
      record {
        after = proc (pushed u q.core) (put p.actors i f);
        steps = asked w (asks left (Throws err.0) f) st.stood.shown.goes st.acting next;
        carries = shows
            (subst (λ z. ProcessRepresents r ls x z (proc (pushed u q.core) (put p.actors i f))) (sym halted)
            (subst (λ (a : ActorId). ProcessRepresents r ls x (doing (task.Throw a err) (with_left left (noted s m))) (proc (pushed u q.core) (put p.actors i f))) (sym st.standing.actor)
            (subst (λ xs. ProcessRepresents r ls x (doing (task.Throw (actor_id i) err) (with_left left (noted s m))) (proc (pushed u q.core) xs)) (sym (same_put p.actors i f st.acting)) thrown)));
      }

  pub ran_out : law.RanOut r ls m p i e f
  ran_out x s w n st halted next =
      let there = noted_follows r ls m p i e f x s st in record {
        after = proc (halt Spent (record p.core { left = 0 })) (put p.actors i f);
        steps = asked w (asks 0 RunsOut f) st.stood.shown.goes st.acting next;
        carries = ends (subst (λ z. AreSpent ls z (proc (halt Spent (record p.core { left = 0 })) (put p.actors i f))) (sym halted) (record {
          spent = refl;
          halted = refl;
          lines = there.shown.lines;
        }));
      }
