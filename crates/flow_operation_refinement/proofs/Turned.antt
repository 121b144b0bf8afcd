-- An actor that a stream refuses leaves its wait in memory as it does by the definitions.
use Rattle.std.proofs.Common.{◌≡◌, ℕ, ◌+◌, false, List, [], ◌∷◌, ◌++◌, length, refl, sym, ap, ◌∙◌, subst, arith}
use Rattle.std.specs.declared.option.Option.{Option}
use Rattle.flow_class.specs.Classes.{RawTree}
use Rattle.flow_trace.specs.declared.line.Line.{Line}
use Rattle.flow_frame.specs.declared.held.Held.{Held}
use Rattle.flow_cancel.specs.declared.task.Task as stack
use Rattle.flow_cancel.specs.Heap.{HeapTree, pushed}
use Rattle.flow_cancel.specs.Leaving.{withdrawn}
use Rattle.flow_numbered.specs.Numbered.{put}
use Rattle.flow_meaning.specs.Process.{Task, Entry, Proc}
use Rattle.flow_meaning.specs.References.{Scan, refs_in}
use Rattle.flow_meaning.specs.Work as work
use Rattle.flow_meaning.specs.Work.{running, leave_for}
use Rattle.flow_meaning.specs.Step.{proc, on_core}
use Rattle.flow_meaning.specs.Views.{spot_at}
use Rattle.flow_meaning.specs.Frame.{Frame, lose}
use Rattle.flow_meaning.proofs.Posture.{thing_put}
use Rattle.flow_heap_refinement.specs.Representing.{Represents, spot_of_actor, wait_spot, held_from}
use Rattle.flow_heap_refinement.specs.Changes.{SameTask}
use Rattle.flow_heap_refinement.specs.Counted.{branches_at}
use Rattle.flow_heap_refinement.specs.Acting.{NoKeep}
use Rattle.flow_heap_refinement.specs.Leaving.{MayLeave, first_part, left_wait}
use Rattle.flow_heap_refinement.proofs.Left.{withdrawn_shown}
use Rattle.flow_heap_refinement.proofs.Further.{kept_withdrawn}
use Rattle.flow_heap_refinement.proofs.Referring.{of_left}
use Rattle.flow_steps.specs.declared.frames.ControlPoint.{ControlPoint}
use Rattle.flow_steps.specs.declared.process.Process.{Process}
use Rattle.flow_steps.specs.Holding.{on_heap, with_heap}
use Rattle.flow_steps.specs.Points.{gone, lost_from}
use Rattle.flow_steps.specs.Waiting as waiting
use Rattle.flow_steps.specs.Waiting.{left_for}
use Rattle.flow_operation_refinement.specs.Matching.{with_task}
use Rattle.flow_operation_refinement.specs.Placing.{Acts, RepresentsActor}
use Rattle.flow_operation_refinement.specs.Taking.{PointMatches, MayGo}
use Rattle.flow_operation_refinement.specs.Waiting.{Waitable}
use Rattle.flow_operation_refinement.proofs.Working.{changed, task_done}
use Rattle.flow_operation_refinement.proofs.Places.{at_of}
use Rattle.flow_operation_refinement.proofs.Emptied.{locals_lost}
use Rattle.flow_operation_refinement.proofs.Parting.{acts_by, acts_withdrawn, frame_told, no_keep_under, no_keep_over}
use Rattle.flow_operation_refinement.proofs.Takings.{kinds_by}
use Rattle.flow_operation_refinement.proofs.Kept.{free_awake}
use Rattle.flow_operation_refinement.proofs.Registering.{with_cells, none_waited}
use Rattle.flow_operation_refinement.proofs.Beside.{aside, register_aside, lost_alike}
use Rattle.flow_operation_refinement.proofs.Partly.{Partly, partly}

-- what came to wait in a heap comes to wait in it with other frames and tasks
moved_aside : (i n : ℕ) (t : stack.Task) (xs : List Held) (h k : HeapTree) → waiting.register_all i xs h ≡ (false, k)
    → waiting.register_all i xs (lost_from i n (pushed t h)) ≡ (false, lost_from i n (pushed t k))
moved_aside i n t xs h k reg =
    let keeps : (false, aside h.frames h.tasks k) ≡ (false, k) =
    ap (λ (y : waiting.Registered). (y.0, aside h.frames h.tasks y.1)) (sym reg) ∙ sym (register_aside i h.frames h.tasks xs h) ∙ reg in
    let same : aside h.frames h.tasks k ≡ k = ap (λ (y : waiting.Registered). y.1) keeps in
    let a = lost_alike i h k n h.frames (pushed t h).tasks in
    let there : lost_from i n (pushed t k) ≡ aside a.frames a.tasks k =
    ap (λ y. lost_from i n (pushed t y)) (sym same) ∙ a.other in
    ap (waiting.register_all i xs) a.one
    ∙ register_aside i a.frames a.tasks xs h
    ∙ ap (λ (y : waiting.Registered). (y.0, aside a.frames a.tasks y.1)) reg
    ∙ ap (λ y. (false, y)) (sym there)

module _ (r : RawTree) (ls : List Line) (m : Process) (p : Proc Frame) (i : ℕ) (e : Entry) (f : Frame) where
  -- operands of which a first part waits leave all cells
  partly_left : (x : Scan) (k : HeapTree) → RepresentsActor r ls x m p i e f → MayGo i e p.core → e.suspended ≡ false → Partly r m.heap p i m.heap k p.core.cells e.operands 0
      → RepresentsActor r ls x (on_heap (withdrawn i) (with_heap k m)) (on_core (left_wait i e) p) i (running e) f
  partly_left x k st go awake part =
      let q : Proc Frame = with_cells part.cells p in
      let acts : Acts r k q i e f = acts_by r m.heap k p q i e f part.frames part.actors refl refl st.acts in
      let nowhere = free_awake i e p.core st.acts.entered awake go in
      let may : MayLeave i e.operands q.core = record {
        keeps = go.keeps;
        kinds = kinds_by p.core.cells part.cells e.operands part.kinds go.kinds;
        many = part.many;
        waits = λ n. part.waits n ∙ ap (λ l. l ++ branches_at n 0 (first_part part.many e.operands)) (nowhere.waits n);
      } in
      let shows = withdrawn_shown r k q i part.shows (at_of r k q i e f acts) may in
      let left : on_core (left_wait i e) q ≡ on_core (left_wait i e) p = ap (λ cs. on_core (λ c. record (left_wait i e c) { cells = cs }) p) part.left in record {
        shown = changed r ls x x m p (on_core (left_wait i e) p) (withdrawn i k) st.shown (record {
          shows = subst (Represents r (withdrawn i k)) left shows;
          counted = λ z j.
              let a = kept_withdrawn z j i k in
              let b = of_left p z j i e st.acts.entered go.agree go.kinds go.cells in
              let c = st.shown.holds.counted z j in
              let d = part.counts z j in omega (arith, a, b, c, d);
        }) refl refl refl;
        acts = subst (λ y. Acts r (withdrawn i k) y i (running e) f) left (acts_withdrawn r ls (with_heap k m) q i e f acts);
      }

module _ (r : RawTree) (ls : List Line) (m : Process) (p : Proc Frame) (i : ℕ) (e : Entry) (f : Frame) where
  pub left_refused : (x : Scan) (s : ControlPoint) (t : stack.Task) (u : Task) (k : HeapTree) → RepresentsActor r ls (with_task u x) m p i e f → PointMatches s i f
      → length s.block.now.body.items ≡ f.instr
      → SameTask p t u → MayGo i e p.core → NoKeep i (u ∷ []) → e.suspended ≡ false → Waitable p.core.cells e.operands
      → waiting.register_all i (held_from ((wait_spot f).first + 0) e.operands) m.heap ≡ (false, k)
      → RepresentsActor r ls x (on_heap (left_for s t) (with_heap k m)) (proc (leave_for i e (lose f).0 u p.core) (put p.actors i (lose f).1)) i (running e) (lose f).1
  left_refused x s t u k st standing end same go free awake has reg =
      let q : Proc Frame = on_core (work.pushed u) p in
      let one : RepresentsActor r ls x (on_heap (pushed t) m) q i e f = record {
        shown = task_done r ls x m p t u st.shown same;
        acts = acts_by r m.heap (pushed t m.heap) p q i e f refl refl refl refl st.acts;
      } in
      let g : Frame = (lose f).1 in
      let n = length f.code.slots in
      let two = locals_lost r ls (on_heap (pushed t) m) q i e f x one in
      let q2 : Proc Frame = proc (work.dropping_values (lose f).0 q.core) (put p.actors i g) in
      let n2 : Process = on_heap (lost_from i n) (on_heap (pushed t) m) in
      let k2 : HeapTree = lost_from i n (pushed t k) in
      let go2 : MayGo i e q2.core = record {
        agree = go.agree;
        cells = go.cells;
        kinds = go.kinds;
        keeps = no_keep_under i (refs_in (lose f).0) (u ∷ p.core.tasks) (no_keep_over i u p.core.tasks free go.keeps);
      } in
      let spot : (spot_of_actor q2.actors i).first ≡ (wait_spot f).first = ap (λ (o : Option Frame). (spot_at wait_spot o).first) (thing_put p.actors i f g st.acts.acting) in
      let reg2 : waiting.register_all i (held_from ((spot_of_actor q2.actors i).first + 0) e.operands) n2.heap ≡ (false, k2) =
      ap (λ y. waiting.register_all i (held_from (y + 0) e.operands) n2.heap) spot ∙ moved_aside i n t (held_from ((wait_spot f).first + 0) e.operands) m.heap k reg in
      let part = partly r n2.heap q2 i e.operands 0 n2.heap k2 q2.core.cells [] (none_waited r n2.heap q2 i two.shown.holds.shows go.cells) has reg2 in
      let three = partly_left r ls n2 q2 i e g x k2 two go2 awake part in
      let four = frame_told r ls (on_heap (withdrawn i) (with_heap k2 n2)) (on_core (left_wait i e) q2) i (running e) g x three refl refl in
      let km : Process = with_heap k m in
      let out : Proc Frame = on_core (left_wait i e) q2 in
      subst (λ a. RepresentsActor r ls x (on_heap (λ h. gone a.0 s.place (length s.block.now.body.items) (withdrawn a.0 (lost_from a.0 s.class.now.slots (pushed t h)))) km) out i (running e) g)
      (sym standing.actor)
      (subst (λ n. RepresentsActor r ls x (on_heap (λ h. gone i s.place (length s.block.now.body.items) (withdrawn i (lost_from i n (pushed t h)))) km) out i (running e) g) (sym standing.slots)
      (subst (λ b. RepresentsActor r ls x (on_heap (λ h. gone i b (length s.block.now.body.items) (withdrawn i (lost_from i (length f.code.slots) (pushed t h)))) km) out i (running e) g)
      (sym standing.place)
      (subst (λ n. RepresentsActor r ls x (on_heap (λ h. gone i f.block n (withdrawn i (lost_from i (length f.code.slots) (pushed t h)))) km) out i (running e) g) (sym end) four)))
