-- A step of an actor in memory at its wait is a step of the class machine, or two.
use Rattle.std.proofs.Common.{◌≡◌, ◌⊎◌, inl, inr, ℕ, zero, suc, Bool, true, false, List, [], ◌∷◌, ◌++◌, length, refl, sym, ap, ◌∙◌, subst}
use Rattle.std.specs.declared.option.Option.{Option}
use Rattle.std.specs.declared.option.Option.TheVariants.{None, Some}
use Rattle.flow_base.specs.declared.ids.ActorId.{ActorId}
use Rattle.flow_value.specs.declared.value.Value.{Value}
use Rattle.flow_value.specs.Values.{ValueTree, IntValue, BoolValue, TextValue, VoidValue, ErrorValue, CompositeValue, RefValue}
use Rattle.flow_value.specs.View.{value_of}
use Rattle.flow_eval.specs.Eval.{Done}
use Rattle.flow_class.specs.Classes.{RawTree}
use Rattle.flow_class.specs.Code.{callback_at}
use Rattle.flow_trace.specs.declared.line.Line.{Line}
use Rattle.flow_numbered.specs.Numbered as stored
use Rattle.flow_frame.specs.declared.held.Held.{Held}
use Rattle.flow_frame.specs.Frames.{FrameTree}
use Rattle.flow_cancel.specs.Heap.{cell_id}
use Rattle.flow_cancel.specs.Leaving.{waits}
use Rattle.flow_numbered.specs.Numbered.{thing, put}
use Rattle.flow_meaning.specs.Requests.{Operand, Waits, Supply}
use Rattle.flow_meaning.specs.Cells.{Ref}
use Rattle.flow_meaning.specs.Evaluating.{StepOf, evaluated, asks, value}
use Rattle.flow_meaning.specs.Process.{Run, Keep, Entry, Proc}
use Rattle.flow_meaning.specs.References.{Scan, refs_in, value_in}
use Rattle.flow_meaning.specs.React.{wait}
use Rattle.flow_meaning.specs.Work.{pushed}
use Rattle.flow_meaning.specs.Step.{kept_by, view, OperandFate, GoesOn, Cancelled, Ready, keep_by, keep, silent, step_if, step, proc, on_core}
use Rattle.flow_meaning.specs.Class.{operand_ref, operand_by, choose, fetched, next_step, class_names, classes}
use Rattle.flow_meaning.specs.Frame.{Frame, look, spot_of, lose}
use Rattle.flow_heap_refinement.specs.Representing.{LiveFrameRepresents, spot_by, wait_spot, held_from}
use Rattle.flow_heap_refinement.specs.Leaving.{wait_kind}
use Rattle.flow_heap_refinement.specs.FrameChanges.{next_callback}
use Rattle.flow_heap_refinement.specs.Holds.{hold}
use Rattle.flow_heap_refinement.proofs.Acted.{same_put}
use Rattle.flow_heap_refinement.proofs.Finds.{stored_put}
use Rattle.flow_steps.specs.declared.frames.ControlPoint.{ControlPoint}
use Rattle.flow_steps.specs.declared.next.Pace.{Pace}
use Rattle.flow_steps.specs.declared.next.Pace.TheVariants.{On, Off}
use Rattle.flow_steps.specs.declared.process.Process.{Process}
use Rattle.flow_steps.specs.Holding.{on_heap}
use Rattle.flow_steps.specs.Evaluating.{with_left}
use Rattle.flow_steps.specs.Delivering.{gone_to}
use Rattle.flow_steps.specs.Points.{reframed, gone, noting, noted}
use Rattle.flow_steps.specs.Stepping.{ReferenceKept, OperandKept}
use Rattle.flow_steps.specs.Waiting.{KeepsOperand}
use Rattle.flow_operation_refinement.specs.Placing.{Acts, RepresentsActor}
use Rattle.flow_operation_refinement.specs.Continuing.{MayBeStale}
use Rattle.flow_operation_refinement.specs.Operands.{MayKeep, with_one}
use Rattle.flow_operation_refinement.specs.Operands as keeping
use Rattle.flow_operation_refinement.specs.Evaluated.{GivesValue}
use Rattle.flow_operation_refinement.proofs.Brought.{there_by, all_there_by}
use Rattle.flow_operation_refinement.proofs.Takings.{all_frames}
use Rattle.flow_operation_refinement.proofs.Kept.{go_with_one, operand_follows}
use Rattle.flow_operation_refinement.proofs.Waited.{wait_done}
use Rattle.flow_operation_refinement.proofs.Carrying.{noted_follows, with_turns, asked}
use Rattle.flow_step_refinement.specs.Continuing.{Silent, no_more, then_on, AtOperands, chooses, GoesBy}
use Rattle.flow_step_refinement.specs.Choosing as law
use Rattle.flow_step_refinement.specs.Choosing.{CanWaitAt}
use Rattle.flow_step_refinement.proofs.Onward.{same_memory, with_held, awake_without}
use Rattle.flow_step_refinement.proofs.Breaking.{evaluation_there}

-- an actor that runs with operands is in no state of a wait
in_no_state : (n : ℕ) (xs : List Held) (y : Held) (ys : List Held) → xs ≡ y ∷ ys → waits n xs ≡ false → n ≡ 0
in_no_state zero xs y ys e h = refl
in_no_state (suc n) [] y ys e h = absurd (cc (e))
in_no_state (suc n) (x ∷ xs) y ys e h = absurd (cc (h))

runs_with : (r : RawTree) (m : FrameTree Value) (e : Entry) (f : Frame) (q : Ref) (qs : List Ref) → LiveFrameRepresents r m e f → e.operands ≡ q ∷ qs → e.suspended ≡ false → m.state ≡ 0
runs_with r m e f q qs s many awake =
    in_no_state m.state m.callbacks (record { callback = (wait_spot f).first; cell = cell_id q.1 }) (held_from (suc (wait_spot f).first) qs)
    (s.callbacks ∙ ap (held_from (wait_spot f).first) many) (s.suspended ∙ awake)

appended_first : (qs : List Ref) (q : Ref) → (y : Ref) × ((ys : List Ref) × (qs ++ q ∷ [] ≡ y ∷ ys))
appended_first [] q = (q, ([], refl))
appended_first (y ∷ ys) q = (y, (ys ++ q ∷ [], refl))

-- a step by the task Keep asks nothing of the world
kept_silently : (r : RawTree) (i b : ℕ) (v : OperandFate) (q : Ref) (en : Entry) (f : Frame) (p : Proc Frame)
    → keep_by (classes r) i b v q en f p ≡ silent (keep_by (classes r) i b v q en f p).0
kept_silently r i b GoesOn q en f p = refl
kept_silently r i b Cancelled q en f p = refl
kept_silently r i b Ready q en f p = refl

-- where its frame is told, it is in no state of a wait
module _ (r : RawTree) (ls : List Line) (m : Process) (p : Proc Frame) (i : ℕ) (e : Entry) (f : Frame) (x : Scan) (s : ControlPoint) (st : MayBeStale r ls x s m p i e f) where
  runs_noted : (s.noted ≡ true → st.stood.acts.memory.state ≡ 0) → (there : RepresentsActor r ls x (noted s m) p i e f) → there.acts.memory.state ≡ 0
  runs_noted zero_state there = by_flag s.noted refl
    where
      state_in : Option (FrameTree Value) → ℕ
      state_in None = 0
      state_in (Some y) = y.state

      framed : state_in (stored.thing (noted s m).heap.frames.things i) ≡ there.acts.memory.state
      framed = ap state_in there.acts.framed

      by_flag : (b : Bool) → s.noted ≡ b → there.acts.memory.state ≡ 0
      by_flag true h =
          sym framed ∙ ap (λ y. state_in (stored.thing (noting y s.actor.0 s.place s.instruction m.heap).frames.things i)) h
          ∙ ap state_in st.stood.acts.framed ∙ zero_state h
      by_flag false h =
          sym framed ∙ ap (λ y. state_in (stored.thing (noting y s.actor.0 s.place s.instruction m.heap).frames.things i)) h
          ∙ ap (λ (a : ActorId). state_in (stored.thing (gone a.0 s.place s.instruction m.heap).frames.things i)) st.standing.actor
          ∙ ap (λ o. state_in (stored.thing (reframed (gone_to s.place s.instruction) i o m.heap).frames.things i)) st.stood.acts.framed
          ∙ ap state_in (stored_put m.heap.frames.things i st.stood.acts.memory (gone_to s.place s.instruction st.stood.acts.memory) st.stood.acts.framed)

-- a row of steps and one more
pub with_last : (r : RawTree) (w : Supply) (start p q : Proc Frame) → Silent r w start p → step (classes r) w p ≡ Some (silent q) → Silent r w start q
with_last r w start p q (no_more a) last = then_on a q q last (no_more q)
with_last r w start p q (then_on a b c one rest) last = then_on a b q one (with_last r w b c q rest last)

module _ (r : RawTree) (ls : List Line) (m : Process) (p : Proc Frame) (i : ℕ) (e : Entry) (f : Frame) (x : Scan) (s : ControlPoint) (w : Supply) (q : Ref) where
  abbrev running_then : Proc Frame
  running_then = on_core (pushed (Run i)) p

  abbrev kept_by_then : Proc Frame
  kept_by_then = (keep_by (classes r) i (length e.operands) (keeping.verdict_on r ls m p i e f q) q (with_one e f q) f running_then).0

  abbrev to_keep : Proc Frame
  to_keep = on_core (pushed (Keep i (wait_spot f) q)) running_then

  -- the step of the class machine by the task Keep
  keep_step : p.core.halted ≡ None → Acts r m.heap p i e f → step (classes r) w to_keep ≡ Some (silent kept_by_then)
  keep_step goes acts =
      ap (λ h. step_if (classes r) w h to_keep) goes
      ∙ ap (λ a. Some (keep (classes r) i (wait_spot f) q a (thing p.core.entries i) running_then)) acts.acting
      ∙ ap (λ a. Some (keep (classes r) i (wait_spot f) q (Some f) a running_then)) acts.entered
      ∙ ap (λ a. Some a) (kept_silently r i (length e.operands) (keeping.verdict_on r ls m p i e f q) q (with_one e f q) f running_then)

  -- what comes of an operand that is kept
  pub goes_kept : (group : ℕ) (start : Proc Frame) (pace : Pace) (n : Process) → p.core.halted ≡ None → Acts r m.heap p i e f → s.noted ≡ true → s.instruction ≡ f.instr
      → MayKeep s p i group q e f → Silent r w start to_keep → keeping.AfterKeeping r ls m p i e f x s q pace n → GoesBy r ls x w i e.class start pace n
  goes_kept group start (On t) n goes acts told instruction may row after = record {
    after = on_core (pushed (Run i)) (keeping.kept_in r ls m p i e f q);
    steps = with_last r w start to_keep (on_core (pushed (Run i)) (keeping.kept_in r ls m p i e f q)) row
        (keep_step goes acts ∙ ap (λ v. Some (silent (keep_by (classes r) i (length e.operands) v q (with_one e f q) f running_then).0)) after.1);
    onward = record {
      process = keeping.kept_in r ls m p i e f q;
      entry = with_one e f q;
      frame = f;
      runs = refl;
      same = refl;
      next = chooses (subst (λ (y : ControlPoint). AtOperands r ls x y n (keeping.kept_in r ls m p i e f q) i (with_one e f q) f) (sym after.0) (record {
        group = group;
        stood = after.2;
        runs = let a = appended_first e.operands q in runs_with r after.2.acts.memory (with_one e f q) f a.0 a.1.0 after.2.acts.stands a.1.1 may.awake;
        noted = told;
        standing = may.standing;
        instruction = instruction;
        wait = may.wait;
        go = go_with_one r ls m p i e f q acts may.awake may.go (may.kind ∙ sym (ap wait_kind may.takeable.at));
        awake = may.awake;
      }));
    };
  }
  goes_kept group start Off n goes acts told instruction may row after = record {
    after = kept_by_then;
    steps = with_last r w start to_keep kept_by_then row (keep_step goes acts);
    onward = after;
  }

module _ (r : RawTree) (ls : List Line) (m : Process) (p : Proc Frame) (i : ℕ) (e : Entry) (f : Frame) where
  pub choice_begins : law.ChoiceBegins r ls m p i e f
  choice_begins x s group st wait go zero_state =
      let there = noted_follows r ls m p i e f x s st in record {
        group = group;
        stood = there;
        runs = runs_noted r ls m p i e f x s st zero_state there;
        noted = refl;
        standing = record { actor = st.standing.actor; slots = st.standing.slots; place = st.standing.place };
        instruction = st.instruction;
        wait = record { last = wait.last; fetched = wait.fetched; end = wait.end; first = wait.first };
        go = go;
        awake = awake_without r there.acts.memory e f there.acts.stands st.operands;
      }

  -- the next operand, with its value known
  operand_given : (x : Scan) (s : ControlPoint) (w : Supply) (at : AtOperands r ls x s m p i e f) → m.asked ≡ None → (q : Ref) → CanWaitAt p q → (left : ℕ)
      → next_step (class_names r) (view w i p.core) f ≡ asks left (Operand (wait_spot f) q) f → (pace : Pace) (n : Process)
      → KeepsOperand s (record { callback = next_callback e f; cell = cell_id q.1 }) (on_heap (hold q.0 q.1) (with_left left m)) pace n
      → GoesBy r ls x w i e.class (on_core (pushed (Run i)) p) pace n
  operand_given x s w at none q can left next pace n keeps =
      let p1 : Proc Frame = on_core (λ c. record c { left = left }) p in
      let m1 : Process = with_left left m in
      let m2 : Process = on_heap (hold q.0 q.1) m1 in
      let st1 = with_turns r ls m p i e f x left at.stood in
      let st2 = with_held r ls m1 p1 i e f x (q ∷ []) st1 (there_by p p1 q refl can.there, tt) in
      let may : MayKeep s p1 i at.group q e f = record {
        standing = at.standing;
        wait = at.wait;
        go = record { agree = at.go.agree; cells = at.go.cells; kinds = at.go.kinds; keeps = at.go.keeps };
        awake = at.awake;
        cell = can.cell;
        takeable = record { at = can.takeable.at; there = λ o h. all_there_by p p1 (refs_in (value_in o)) refl (can.takeable.there o h) };
        kind = can.kind;
      } in
      let state = ap (λ (y : FrameTree Value). y.state) (same_memory r m.heap m2.heap p p1 i e e f f (all_frames (q ∷ []) m.heap).0 at.stood.acts st2.acts) ∙ at.runs in
      let after = operand_follows r ls m2 p1 i e f x s at.group q pace n st2 state none may keeps in
      let then_kept : Proc Frame = on_core (pushed (Keep i (wait_spot f) q)) (on_core (pushed (Run i)) p1) in
      let first : step (classes r) w (on_core (pushed (Run i)) p) ≡ Some (silent then_kept) =
      asked r ls m p i e f w (asks left (Operand (wait_spot f) q) f) at.stood.shown.goes at.stood.acts.acting next
      ∙ ap (λ xs. Some (silent (proc then_kept.core xs))) (same_put p.actors i f at.stood.acts.acting) in
      goes_kept r ls m2 p1 i e f x s w q at.group (on_core (pushed (Run i)) p) pace n at.stood.shown.goes st2.acts at.noted at.instruction may
      (then_on (on_core (pushed (Run i)) p) then_kept then_kept first (no_more then_kept)) after

  abbrev given : Supply → ValueTree → ℕ → StepOf Frame
  given w u left = operand_ref (class_names r) (view w i p.core) f left (wait_spot f) u

  pub operand_step : law.OperandStep r ls m p i e f
  operand_step x s w b comes_to pace n at none branch no_effect same gives evaluates =
      by_case (evaluation_there r ls m p i e f x s w at.standing.actor at.noted at.stood value_of comes_to (given w) (OperandKept s (next_callback e f)) pace n next evaluates)
    where
      spot : spot_of f.code at.group ≡ wait_spot f
      spot = sym (ap (spot_by f.code) at.wait.fetched)

      next : next_step (class_names r) (view w i p.core) f ≡ evaluated f comes_to (given w)
      next =
          ap (fetched (class_names r) (view w i p.core) f) at.wait.fetched
          ∙ ap (λ o. choose (class_names r) (view w i p.core) f (spot_of f.code at.group) (callback_at f.code at.group (kept_by o))) at.stood.acts.entered
          ∙ ap (choose (class_names r) (view w i p.core) f (spot_of f.code at.group)) branch
          ∙ ap (operand_by (class_names r) (view w i p.core) f (spot_of f.code at.group) b.operand) no_effect
          ∙ ap (λ y. evaluated f (value (class_names r) (view w i p.core) (look f.mem) b.operand) (λ u left. operand_ref (class_names r) (view w i p.core) f left y u)) spot
          ∙ ap (λ c. evaluated f c (given w)) (sym same)

      by_value : (v : ValueTree) (left : ℕ) → comes_to ≡ Done v left → ReferenceKept s (next_callback e f) v (with_left left m) pace n
          → GoesBy r ls x w i e.class (on_core (pushed (Run i)) p) pace n
      by_value (RefValue kd k) left done keeps =
          operand_given x s w at none (kd, k) (gives kd k left done) left (next ∙ ap (λ c. evaluated f c (given w)) done) pace n keeps
      by_value (IntValue k) left done keeps = absurd keeps
      by_value (BoolValue k) left done keeps = absurd keeps
      by_value (TextValue k) left done keeps = absurd keeps
      by_value VoidValue left done keeps = absurd keeps
      by_value (ErrorValue k) left done keeps = absurd keeps
      by_value (CompositeValue d vs) left done keeps = absurd keeps

      by_case : GivesValue value_of comes_to m (OperandKept s (next_callback e f)) pace n ⊎ GoesBy r ls x w i e.class (on_core (pushed (Run i)) p) pace n
          → GoesBy r ls x w i e.class (on_core (pushed (Run i)) p) pace n
      by_case (inl g) = by_value (value_of g.value) g.left g.done g.goes
      by_case (inr a) = a

  pub wait_step : law.WaitStep r ls m p i e f
  wait_step x s w group n st none may no_more_operands waits_then =
      let spot : spot_of f.code (suc group) ≡ wait_spot f = sym (ap (spot_by f.code) may.wait.fetched) in
      let next : next_step (class_names r) (view w i p.core) f ≡ asks p.core.left (Waits (spot_of f.code (suc group)) (lose f).0) (record (lose f).1 { state = suc group }) =
      ap (fetched (class_names r) (view w i p.core) f) may.wait.fetched
      ∙ ap (λ o. choose (class_names r) (view w i p.core) f (spot_of f.code (suc group)) (callback_at f.code (suc group) (kept_by o))) st.acts.entered
      ∙ ap (choose (class_names r) (view w i p.core) f (spot_of f.code (suc group))) no_more_operands in
      let after : Proc Frame = proc (wait i (wait_spot f) (thing p.core.entries i) (lose f).0 p.core) (put p.actors i (record (lose f).1 { state = suc group })) in
      let one : step (classes r) w (on_core (pushed (Run i)) p) ≡ Some (silent after) =
      asked r ls m p i e f w (asks p.core.left (Waits (spot_of f.code (suc group)) (lose f).0) (record (lose f).1 { state = suc group })) st.shown.goes st.acts.acting next
      ∙ ap (λ y. Some (silent (proc (wait i y (thing p.core.entries i) (lose f).0 p.core) (put p.actors i (record (lose f).1 { state = suc group }))))) spot in record {
        after = after;
        steps = then_on (on_core (pushed (Run i)) p) after after one (no_more after);
        onward = wait_done r ls m p x s i group e f n st none may waits_then;
      }
