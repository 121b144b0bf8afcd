-- An actor that leaves its wait in memory does so in the process.
use Rattle.std.proofs.Common.{◌≡◌, ℕ, zero, suc, Bool, true, false, List, [], ◌∷◌, length, refl, sym, ap, ◌∙◌, subst, arith}
use Rattle.std.specs.declared.option.Option.{Option}
use Rattle.std.specs.declared.option.Option.TheVariants.{None, Some}
use Rattle.flow_value.specs.declared.value.Value.{Value}
use Rattle.flow_value.specs.declared.value.Outcome.{Outcome}
use Rattle.flow_class.specs.Classes.{RawTree}
use Rattle.flow_trace.specs.declared.line.Line.{Line}
use Rattle.flow_numbered.specs.Numbered as stored
use Rattle.flow_cell.specs.declared.waiter.Waiter as memory
use Rattle.flow_cell.specs.Cells.{CellTree}
use Rattle.flow_frame.specs.declared.held.Held.{Held}
use Rattle.flow_frame.specs.Frames.{FrameTree}
use Rattle.flow_cancel.specs.declared.actors.Note.{Note}
use Rattle.flow_cancel.specs.Heap.{HeapTree, pushed}
use Rattle.flow_cancel.specs.Leaving.{leave_cell_at, leave_one, leave_all, without_callbacks, withdrawn_from, withdrawn, waits}
use Rattle.flow_cancel.specs.Leaving as leaving
use Rattle.flow_numbered.specs.Numbered.{thing, put}
use Rattle.flow_meaning.specs.Cells.{Ref}
use Rattle.flow_meaning.specs.Process.{Task, Entry, Core, Proc}
use Rattle.flow_meaning.specs.Process as process
use Rattle.flow_meaning.specs.References.{refs_in}
use Rattle.flow_meaning.specs.Work.{running, leave_for}
use Rattle.flow_meaning.specs.Work as work
use Rattle.flow_meaning.specs.Step.{proc, on_core}
use Rattle.flow_meaning.specs.Frame.{Frame, lose}
use Rattle.flow_meaning.proofs.Posture.{thing_put}
use Rattle.flow_heap_refinement.specs.Representing.{LiveFrameRepresents, Position, here, at_wait}
use Rattle.flow_heap_refinement.specs.Counted.{branches_at, waiting_by, waiting_of}
use Rattle.flow_heap_refinement.specs.Acting.{NoKeep, frame_put}
use Rattle.flow_heap_refinement.specs.Leaving.{MayLeave, left_wait, first_part}
use Rattle.flow_heap_refinement.proofs.Finds.{stored_put}
use Rattle.flow_heap_refinement.proofs.Acted.{same_put}
use Rattle.flow_heap_refinement.proofs.Left.{withdrawn_shown}
use Rattle.flow_heap_refinement.proofs.Referring.{of_left}
use Rattle.flow_heap_refinement.proofs.Further.{kept_withdrawn}
use Rattle.flow_steps.specs.declared.process.Process.{Process}
use Rattle.flow_steps.specs.Holding.{on_heap}
use Rattle.flow_steps.specs.Delivering.{gone_to}
use Rattle.flow_steps.specs.Points.{reframed, gone, lost_from}
use Rattle.flow_operation_refinement.specs.Placing.{Acts, RepresentsActor}
use Rattle.flow_operation_refinement.specs.Taking.{PointMatches, MayGo}
use Rattle.flow_operation_refinement.specs.Taking as law
use Rattle.flow_operation_refinement.proofs.Working.{changed, task_done}
use Rattle.flow_operation_refinement.proofs.Places.{at_of, framed_anew}
use Rattle.flow_operation_refinement.proofs.Emptied.{locals_lost}

-- An actor stands as before where memory has the same frame of it, and the process the same entry.
pub acts_by : (r : RawTree) (h g : HeapTree) (p q : Proc Frame) (i : ℕ) (e : Entry) (f : Frame) → g.frames ≡ h.frames → g.actors ≡ h.actors → q.core.entries ≡ p.core.entries → q.actors ≡ p.actors
    → Acts r h p i e f → Acts r g q i e f
acts_by r h g p q i e f a b c d s = record {
  note = s.note;
  memory = s.memory;
  noted = ap (λ (ns : stored.Store Note). stored.thing ns.things i) b ∙ s.noted;
  framed = ap (λ (ms : stored.Store (FrameTree Value)). stored.thing ms.things i) a ∙ s.framed;
  entered = ap (λ es. thing es i) c ∙ s.entered;
  acting = ap (λ fs. thing fs i) d ∙ s.acting;
  class = s.class;
  result = s.result;
  marked = s.marked;
  stands = s.stands;
}

-- who leaves a cell changes no frame
left_frames : (k : ℕ) (w : memory.Waiter) (o : Option (CellTree Outcome)) (h : HeapTree) → (leave_cell_at k w o h).frames ≡ h.frames
left_frames k w None h = refl
left_frames k w (Some c) h = refl

left_actors : (k : ℕ) (w : memory.Waiter) (o : Option (CellTree Outcome)) (h : HeapTree) → (leave_cell_at k w o h).actors ≡ h.actors
left_actors k w None h = refl
left_actors k w (Some c) h = refl

all_left_frames : (i : ℕ) (xs : List Held) (h : HeapTree) → (leave_all i xs h).frames ≡ h.frames
all_left_frames i [] h = refl
all_left_frames i (x ∷ xs) h = left_frames x.cell.0 (leaving.waiter_of i x) (stored.thing (leave_all i xs h).cells.things x.cell.0) (leave_all i xs h) ∙ all_left_frames i xs h

all_left_actors : (i : ℕ) (xs : List Held) (h : HeapTree) → (leave_all i xs h).actors ≡ h.actors
all_left_actors i [] h = refl
all_left_actors i (x ∷ xs) h = left_actors x.cell.0 (leaving.waiter_of i x) (stored.thing (leave_all i xs h).cells.things x.cell.0) (leave_all i xs h) ∙ all_left_actors i xs h

waits_for_none : (n : ℕ) → waits n [] ≡ false
waits_for_none zero = refl
waits_for_none (suc n) = refl

all_of : (rs : List Ref) → first_part (length rs) rs ≡ rs
all_of [] = refl
all_of (r ∷ rs) = ap (λ xs. r ∷ xs) (all_of rs)

pub may_leave : (i : ℕ) (e : Entry) (c : Core) → thing c.entries i ≡ Some e → MayGo i e c → MayLeave i e.operands c
may_leave i e c at w = by_flag e.suspended refl
  where
    by_flag : (b : Bool) → e.suspended ≡ b → MayLeave i e.operands c
    by_flag true f = record {
      keeps = w.keeps;
      kinds = w.kinds;
      many = length e.operands;
      waits = λ k. w.agree i k ∙ ap (λ o. branches_at k 0 (waiting_of o)) at ∙ ap (λ b. branches_at k 0 (waiting_by b e.operands)) f ∙ ap (branches_at k 0) (sym (all_of e.operands));
    }
    by_flag false f = record {
      keeps = w.keeps;
      kinds = w.kinds;
      many = 0;
      waits = λ k. w.agree i k ∙ ap (λ o. branches_at k 0 (waiting_of o)) at ∙ ap (λ b. branches_at k 0 (waiting_by b e.operands)) f;
    }

-- a frame without its callbacks, of an actor that runs without operands
runs : (r : RawTree) (m : FrameTree Value) (e : Entry) (f : Frame) → LiveFrameRepresents r m e f → LiveFrameRepresents r (record m { callbacks = [] }) (running e) f
runs r m e f s = record {
  code = s.code;
  places = s.places;
  slots = s.slots;
  position = position s.position;
  callbacks = refl;
  suspended = waits_for_none m.state;
  spot = λ x. absurd (cc);
}
  where
    position : Position m f → Position (record m { callbacks = [] }) f
    position (here a b c) = here a b c
    position (at_wait g a b) = at_wait g a b

module _ (r : RawTree) (ls : List Line) (m : Process) (p : Proc Frame) (i : ℕ) (e : Entry) (f : Frame) where
  pub acts_withdrawn : Acts r m.heap p i e f → Acts r (withdrawn i m.heap) (on_core (left_wait i e) p) i (running e) f
  acts_withdrawn a =
      subst (λ o. Acts r (withdrawn_from i o m.heap) (on_core (left_wait i e) p) i (running e) f) (sym a.framed) (record {
        note = a.note;
        memory = record a.memory { callbacks = [] };
        noted = ap (λ (ns : stored.Store Note). stored.thing ns.things i) (all_left_actors i a.memory.callbacks (without_callbacks i a.memory m.heap)) ∙ a.noted;
        framed = ap (λ (ms : stored.Store (FrameTree Value)). stored.thing ms.things i) (all_left_frames i a.memory.callbacks (without_callbacks i a.memory m.heap))
            ∙ stored_put m.heap.frames.things i a.memory (record a.memory { callbacks = [] }) a.framed;
        entered = thing_put p.core.entries i e (running e) a.entered;
        acting = a.acting;
        class = a.class;
        result = a.result;
        marked = a.marked;
        stands = runs r a.memory e f a.stands;
      })

  pub actor_withdrawn : law.ActorWithdrawn r ls m p i e f
  actor_withdrawn x s go = record {
    shown = changed r ls x x m p (on_core (left_wait i e) p) (withdrawn i m.heap) s.shown (record {
      shows = withdrawn_shown r m.heap p i s.shown.holds.shows (at_of r m.heap p i e f s.acts) (may_leave i e p.core s.acts.entered go);
      counted = λ z j.
          let a = kept_withdrawn z j i m.heap in
          let b = of_left p z j i e s.acts.entered go.agree go.kinds go.cells in
          let c = s.shown.holds.counted z j in omega (arith, a, b, c);
    }) refl refl refl;
    acts = acts_withdrawn s.acts;
  }

  -- the frame of an actor that waits for nothing says where it stands
  here_then : (n : FrameTree Value) → LiveFrameRepresents r n e f → e.operands ≡ [] → e.suspended ≡ false → LiveFrameRepresents r (gone_to f.block f.instr n) e f
  here_then n s none runs = record {
    code = s.code;
    places = s.places;
    slots = s.slots;
    position = here refl refl refl;
    callbacks = s.callbacks;
    suspended = sym runs;
    spot = λ y. absurd (cc (y, runs));
  }

  pub frame_told : law.FrameTold r ls m p i e f
  frame_told x s none runs =
      let n = gone_to f.block f.instr s.acts.memory in
      let t = framed_anew r ls x x m p i e f s n f (here_then s.acts.memory s.acts.stands none runs) refl refl (λ z j. refl) in
      subst (λ o. RepresentsActor r ls x (on_heap (reframed (gone_to f.block f.instr) i o) m) p i e f) (sym s.acts.framed)
      (subst (λ xs. RepresentsActor r ls x (on_heap (frame_put i n) m) (proc p.core xs) i e f) (same_frames s.acts.acting) t)
    where
      same_frames : thing p.actors i ≡ Some f → put p.actors i f ≡ p.actors
      same_frames a = same_put p.actors i f a

-- drops keep nothing
pub no_keep_under : (i : ℕ) (rs : List Ref) (ts : List Task) → NoKeep i ts → NoKeep i (work.drops rs ts)
no_keep_under i [] ts n = n
no_keep_under i (r ∷ rs) ts n = no_keep_under i rs ts n

pub no_keep_over : (i : ℕ) (u : Task) (ts : List Task) → NoKeep i (u ∷ []) → NoKeep i ts → NoKeep i (u ∷ ts)
no_keep_over i (process.Run j) ts a b = b
no_keep_over i (process.Give j k o) ts a b = b
no_keep_over i (process.Throw j k) ts a b = b
no_keep_over i (process.Catch j k) ts a b = b
no_keep_over i (process.Store j v) ts a b = b
no_keep_over i (process.Keep j s q) ts a b = (a.0, b)
no_keep_over i (process.Close j o) ts a b = b
no_keep_over i (process.Fire k) ts a b = b
no_keep_over i (process.Drop kd k) ts a b = b

module _ (r : RawTree) (ls : List Line) (m : Process) (p : Proc Frame) (i : ℕ) (e : Entry) (f : Frame) where
  pub left_for_task : law.LeftFor r ls m p i e f
  left_for_task x s t u st standing end same go free =
      let q : Proc Frame = on_core (work.pushed u) p in
      let one : RepresentsActor r ls x (on_heap (pushed t) m) q i e f = record {
        shown = task_done r ls x m p t u st.shown same;
        acts = acts_by r m.heap (pushed t m.heap) p q i e f refl refl refl refl st.acts;
      } in
      let two = locals_lost r ls (on_heap (pushed t) m) q i e f x one in
      let q2 : Proc Frame = proc (work.dropping_values (lose f).0 q.core) (put p.actors i (lose f).1) in
      let n2 : Process = on_heap (lost_from i (length f.code.slots)) (on_heap (pushed t) m) in
      let go2 : MayGo i e q2.core = record {
        agree = go.agree;
        cells = go.cells;
        kinds = go.kinds;
        keeps = no_keep_under i (refs_in (lose f).0) (u ∷ p.core.tasks) (no_keep_over i u p.core.tasks free go.keeps);
      } in
      let three = actor_withdrawn r ls n2 q2 i e (lose f).1 x two go2 in
      let four = frame_told r ls (on_heap (withdrawn i) n2) (on_core (left_wait i e) q2) i (running e) (lose f).1 x three refl refl in
      subst (λ a. RepresentsActor r ls x (on_heap (λ h. gone a.0 s.place (length s.block.now.body.items) (withdrawn a.0 (lost_from a.0 s.class.now.slots (pushed t h)))) m)
      (on_core (left_wait i e) q2) i (running e) (lose f).1) (sym standing.actor)
      (subst (λ n. RepresentsActor r ls x (on_heap (λ h. gone i s.place (length s.block.now.body.items) (withdrawn i (lost_from i n (pushed t h)))) m) (on_core (left_wait i e) q2) i (running e)
      (lose f).1) (sym standing.slots)
      (subst (λ b. RepresentsActor r ls x (on_heap (λ h. gone i b (length s.block.now.body.items) (withdrawn i (lost_from i (length f.code.slots) (pushed t h)))) m) (on_core (left_wait i e) q2) i
      (running e) (lose f).1) (sym standing.place)
      (subst (λ n. RepresentsActor r ls x (on_heap (λ h. gone i f.block n (withdrawn i (lost_from i (length f.code.slots) (pushed t h)))) m) (on_core (left_wait i e) q2) i (running e) (lose f).1)
      (sym end) four)))
