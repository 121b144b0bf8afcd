-- An operand is kept in memory as the definitions keep it.
use Rattle.std.proofs.Common.{◌≡◌, ℕ, ◌+◌, Bool, true, false, List, [], ◌∷◌, ◌++◌, length, map, refl, sym, ap, ◌∙◌, subst, arith}
use Rattle.std.specs.Prelude.{is_some}
use Rattle.std.specs.Option.{option_map}
use Rattle.std.specs.declared.option.Option.{Option}
use Rattle.std.specs.declared.option.Option.TheVariants.{None, Some}
use Rattle.flow_base.specs.ErrorNumbers.{operation_cancelled}
use Rattle.flow_base.specs.declared.ids.ActorId.{ActorId}
use Rattle.flow_base.specs.declared.ids.ErrorCode.{ErrorCode}
use Rattle.flow_value.specs.declared.value.Value.{Value}
use Rattle.flow_value.specs.declared.value.Outcome.{Outcome}
use Rattle.flow_value.specs.View.{value_of, outcome_of}
use Rattle.flow_class.specs.Classes.{RawTree}
use Rattle.flow_code.specs.View.{group_numbered}
use Rattle.flow_trace.specs.declared.line.Line.{Line}
use Rattle.flow_numbered.specs.Numbered as stored
use Rattle.flow_cell.specs.Cells.{CellTree}
use Rattle.flow_stream.specs.Streams.{StreamTree, ready}
use Rattle.flow_frame.specs.Frames.{with_callback}
use Rattle.flow_cancel.specs.declared.task.Task.TheVariants as task
use Rattle.flow_cancel.specs.Heap.{HeapTree, actor_id}
use Rattle.flow_numbered.specs.Numbered.{Numbered, thing, put}
use Rattle.flow_meaning.specs.Cells.{Side, FutureSide, Ref, Waiter, Cell, Single, Stream, is_ready}
use Rattle.flow_meaning.specs.Cells as cells
use Rattle.flow_meaning.specs.Process.{Run, Throw, Entry, Core, Proc}
use Rattle.flow_meaning.specs.References.{Scan, count, count_kept, refs_in, value_in}
use Rattle.flow_meaning.specs.Work.{pushed, running, leave_for, is_ready_at, take_branch}
use Rattle.flow_meaning.specs.Step.{verdict, keep_by, proc, on_core}
use Rattle.flow_meaning.specs.Class.{classes}
use Rattle.flow_meaning.specs.Frame.{Frame, lose}
use Rattle.flow_meaning.proofs.Posture.{each_number, thing_put, thing_put_other}
use Rattle.flow_heap_refinement.specs.Representing.{Represents, CellRepresents, LiveFrameRepresents, OneActor, stands, spot_of_actor, spot_by, wait_spot, error_number}
use Rattle.flow_heap_refinement.specs.Counted.{branches_at, waiting_of, waiting_by}
use Rattle.flow_heap_refinement.specs.Acting.{Free, put_actor, frame_put}
use Rattle.flow_heap_refinement.specs.Leaving.{wait_kind, RightKinds}
use Rattle.flow_heap_refinement.specs.Holds.{with_refs}
use Rattle.flow_heap_refinement.proofs.Acted.{actor_moved, same_put}
use Rattle.flow_heap_refinement.proofs.Finds.{stored_put}
use Rattle.flow_heap_refinement.proofs.Referring.{of_entry}
use Rattle.flow_heap_refinement.proofs.Standing.{operand_kept}
use Rattle.flow_heap_refinement.proofs.Tidy.{agree_by}
use Rattle.flow_numbered.proofs.Things.{put_same}
use Rattle.flow_steps.specs.declared.next.Pace.{Pace}
use Rattle.flow_steps.specs.declared.process.Process.{Process}
use Rattle.flow_steps.specs.Holding.{on_heap}
use Rattle.flow_steps.specs.Points.{reframed}
use Rattle.flow_steps.specs.Waiting as waiting
use Rattle.flow_steps.specs.Waiting.{ready_in, ready_at, is_marked, marked_at, left_for, BranchOf, TakesBranch, KeepsOperand, kept_marked, kept_unready, kept_ready}
use Rattle.flow_operation_refinement.specs.Matching.{Matches, shows, with_task}
use Rattle.flow_operation_refinement.specs.Placing.{Acts, RepresentsActor}
use Rattle.flow_operation_refinement.specs.Taking.{MayGo}
use Rattle.flow_operation_refinement.specs.Operands.{MayKeep, callback_of, with_one}
use Rattle.flow_operation_refinement.specs.Operands as law
use Rattle.flow_operation_refinement.proofs.Working.{changed}
use Rattle.flow_operation_refinement.proofs.Brought.{all_there_by}
use Rattle.flow_operation_refinement.proofs.Places.{at_of, as_many_stood}
use Rattle.flow_operation_refinement.proofs.Lost.{put_over}
use Rattle.flow_operation_refinement.proofs.Parting.{left_for_task}
use Rattle.flow_operation_refinement.proofs.Takings.{branch_follows}

-- whether a wait at a cell needn't suspend
module _ (r : RawTree) (h : HeapTree) (p : Proc Frame) (s : Represents r h p) (k : ℕ) where
  content_ready : (o : Option Outcome) → is_some o ≡ cells.is_some (option_map outcome_of o)
  content_ready None = refl
  content_ready (Some o) = refl

  queue_ready : (q : List Value) (d : Option ErrorCode) (w : Option Waiter) → ready q d ≡ is_ready (Stream (map value_of q) (option_map error_number d) w)
  queue_ready [] None w = refl
  queue_ready [] (Some e) w = refl
  queue_ready (v ∷ vs) d w = refl

  by_memory : (a : Option (CellTree Outcome)) (b : Option (StreamTree Value)) (c : Option Cell) → CellRepresents (spot_of_actor p.actors) a b c → ready_in a b ≡ is_ready_at c
  by_memory None None None t = refl
  by_memory None None (Some c) t = absurd t
  by_memory (Some m) None None t = absurd t
  by_memory (Some m) (Some n) c t = absurd t
  by_memory None (Some m) None t = absurd t
  by_memory (Some m) None (Some (Single o ws)) t = content_ready m.content ∙ ap cells.is_some (sym t.0)
  by_memory (Some m) None (Some (Stream q d w)) t = absurd t
  by_memory None (Some m) (Some (Stream q d w)) t = queue_ready m.queue m.end w ∙ ap (λ u. is_ready (Stream u (option_map error_number m.end) w)) (sym t.0)
      ∙ ap (λ u. is_ready (Stream q u w)) (sym t.1)
  by_memory None (Some m) (Some (Single o ws)) t = absurd t

  pub ready_same : ready_at k h ≡ is_ready_at (thing p.core.cells k)
  ready_same = by_memory (stored.thing h.cells.things k) (stored.thing h.streams.things k) (thing p.core.cells k) (s.cells k)

-- operands of the right kinds are futures
kinds_more : (cs : Numbered Cell) (rs : List Ref) (q : Ref) → q.0 ≡ wait_kind (thing cs q.1) → RightKinds cs rs → RightKinds cs (rs ++ q ∷ [])
kinds_more cs [] q e h = (e, tt)
kinds_more cs (r ∷ rs) q e h = (h.0, kinds_more cs rs q e h.1)

counted_more : (s : Side) (j : ℕ) (rs : List Ref) (q : Ref) → count s j (rs ++ q ∷ []) ≡ count s j rs + count s j (q ∷ [])
counted_more s j [] q = omega arith
counted_more s j (r ∷ rs) q = let a = counted_more s j rs q in omega (arith, a)

pub kept_awake : (s : Side) (j : ℕ) (b : Bool) (rs : List Ref) → b ≡ false → count_kept s j b rs ≡ count s j rs
kept_awake s j true rs e = absurd (cc)
kept_awake s j false rs e = refl

-- an actor that runs waits nowhere
pub free_awake : (i : ℕ) (e : Entry) (c : Core) → thing c.entries i ≡ Some e → e.suspended ≡ false → MayGo i e c → Free i c
free_awake i e c at awake go = record {
  waits = λ k. go.agree i k ∙ ap (λ o. branches_at k 0 (waiting_of o)) at ∙ ap (λ b. branches_at k 0 (waiting_by b e.operands)) awake;
  keeps = go.keeps;
}

module _ (r : RawTree) (ls : List Line) (m : Process) (p : Proc Frame) (i : ℕ) (e : Entry) (f : Frame) where
  -- one operand more, in memory and in the process
  pub operand_more : (x : Scan) (q : Ref) (st : RepresentsActor r ls (with_refs (q ∷ []) x) m p i e f) → st.acts.memory.state ≡ 0 → e.suspended ≡ false → MayGo i e p.core
      → RepresentsActor r ls x (on_heap (waiting.operand_kept i (callback_of e f q)) m) (law.kept_in r ls m p i e f q) i (with_one e f q) f
  operand_more x q st zero_state awake go =
      let a = st.acts in
      let en = with_one e f q in
      let n = with_callback a.memory (callback_of e f q) in
      let now : LiveFrameRepresents r n en f = operand_kept r a.memory e f q (wait_spot f) a.stands zero_state awake in
      let same : OneActor r a.note n en f = record { class = a.class; result = a.result; marked = a.marked; frame = stands now } in
      let moved = actor_moved r m.heap p i a.note n en f st.shown.holds.shows (at_of r m.heap p i e f a) same (free_awake i e p.core a.entered awake go) in
      let notes = put_same m.heap.actors.things i a.note a.noted in
      let frames = same_put p.actors i f a.acting in
      let shown : Represents r (frame_put i n m.heap) (law.kept_in r ls m p i e f q) =
      subst (λ xs. Represents r (frame_put i n m.heap) (proc (record p.core { entries = put p.core.entries i en }) xs)) frames
      (subst (λ ns. Represents r (record m.heap { actors = record m.heap.actors { things = ns }; frames = stored.with_thing m.heap.frames i n }) (put_actor i en f p)) notes moved) in
      subst (λ o. RepresentsActor r ls x (on_heap (reframed (λ k. with_callback k (callback_of e f q)) i o) m) (law.kept_in r ls m p i e f q) i en f) (sym a.framed) (record {
        shown = changed r ls (with_refs (q ∷ []) x) x m p (law.kept_in r ls m p i e f q) (frame_put i n m.heap) st.shown (record {
          shows = shown;
          counted = λ z j.
              let b = of_entry p z j i e en a.entered in
              let c = st.shown.holds.counted z j in
              let d = kept_awake z j e.suspended e.operands awake in
              let g = kept_awake z j e.suspended (e.operands ++ q ∷ []) awake in
              let k = counted_more z j e.operands q in omega (arith, b, c, d, g, k);
        }) refl refl refl;
        acts = record {
          note = a.note;
          memory = n;
          noted = a.noted;
          framed = stored_put m.heap.frames.things i a.memory n a.framed;
          entered = thing_put p.core.entries i e en a.entered;
          acting = a.acting;
          class = a.class;
          result = a.result;
          marked = a.marked;
          stands = now;
        };
      })

  -- then it may leave its wait
  pub go_with_one : (q : Ref) → Acts r m.heap p i e f → e.suspended ≡ false → MayGo i e p.core → q.0 ≡ wait_kind (thing p.core.cells q.1) → MayGo i (with_one e f q) (law.kept_in r ls m p i e f q).core
  go_with_one q a awake go right = record {
    agree = agree_by p.core (law.kept_in r ls m p i e f q).core (λ k. refl)
        (each_number i (λ j. waiting_of (thing (put p.core.entries i (with_one e f q)) j) ≡ waiting_of (thing p.core.entries j))
        (ap waiting_of (thing_put p.core.entries i e (with_one e f q) a.entered) ∙ ap (λ b. waiting_by b (e.operands ++ q ∷ [])) awake
        ∙ sym (ap waiting_of a.entered ∙ ap (λ b. waiting_by b e.operands) awake))
        (λ j d. ap waiting_of (thing_put_other p.core.entries i j (with_one e f q) d))) go.agree;
    cells = go.cells;
    kinds = kinds_more p.core.cells e.operands q right go.kinds;
    keeps = go.keeps;
  }

  pub operand_follows : law.OperandFollows r ls m p i e f
  operand_follows x s group q pace n st zero_state none may keeps = by_case pace keeps
    where
      en : Entry
      en = with_one e f q

      kept : Proc Frame
      kept = law.kept_in r ls m p i e f q

      n1 : Process
      n1 = on_heap (waiting.operand_kept i (callback_of e f q)) m

      right : q.0 ≡ wait_kind (thing p.core.cells q.1)
      right = may.kind ∙ sym (ap wait_kind may.takeable.at)

      one_more : RepresentsActor r ls x n1 kept i en f
      one_more = operand_more x q st zero_state may.awake may.go

      go1 : MayGo i en kept.core
      go1 = go_with_one q st.acts may.awake may.go right

      marked_is : (a : ActorId) → a ≡ actor_id i → marked_at a.0 m.heap ≡ e.marked
      marked_is a b = ap (λ y. marked_at y.0 m.heap) b ∙ ap is_marked st.acts.noted ∙ sym st.acts.marked

      by_case : (pace : Pace) → KeepsOperand s (callback_of e f q) m pace n → law.AfterKeeping r ls m p i e f x s q pace n
      by_case pace (kept_unready k unmarked unready is) =
          let mk : e.marked ≡ false = sym (marked_is s.actor may.standing.actor) ∙ unmarked in
          let rd : is_ready_at (thing p.core.cells q.1) ≡ false = sym (ready_same r m.heap p st.shown.holds.shows q.1) ∙ unready in (
            refl,
            ap (λ b. verdict b (is_ready_at (thing p.core.cells q.1))) mk ∙ ap (verdict false) rd,
            subst (λ z. RepresentsActor r ls x z kept i en f) (sym is)
                (subst (λ (a : ActorId). RepresentsActor r ls x (on_heap (waiting.operand_kept a.0 (callback_of e f q)) m) kept i en f) (sym may.standing.actor) one_more),
          )
      by_case pace (kept_marked k marked is) =
          let mk : e.marked ≡ true = sym (marked_is s.actor may.standing.actor) ∙ marked in
          let u = Throw i operation_cancelled in
          let t = task.Throw s.actor (record { 0 = operation_cancelled }) in
          let same : u ≡ Throw s.actor.0 operation_cancelled = ap (λ (a : ActorId). Throw a.0 operation_cancelled) (sym may.standing.actor) in
          let left = left_for_task r ls n1 kept i en f x s t u (as_many_stood r ls x (with_task u x) n1 kept i en f (λ z j. omega arith) one_more) may.standing may.wait.end same go1 tt in
          subst (λ v. Matches r ls x n (keep_by (classes r) i (length e.operands) v q en f (on_core (pushed (Run i)) p)).0) (sym (ap (λ b. verdict b (is_ready_at (thing p.core.cells q.1))) mk))
          (subst (λ z. Matches r ls x z (proc (leave_for i en (lose f).0 u p.core) (put p.actors i (lose f).1))) (sym is)
          (subst (λ (a : ActorId). Matches r ls x (on_heap (left_for s t) (on_heap (waiting.operand_kept a.0 (callback_of e f q)) m))
          (proc (leave_for i en (lose f).0 u p.core) (put p.actors i (lose f).1))) (sym may.standing.actor)
          (subst (λ xs. Matches r ls x (on_heap (left_for s t) n1) (proc (record (leave_for i en (lose f).0 u p.core) { entries = xs }) (put p.actors i (lose f).1)))
          (put_over p.core.entries i en (running en))
          (shows left.shown))))
      by_case pace (kept_ready k b unmarked ready at takes) =
          let mk : e.marked ≡ false = sym (marked_is s.actor may.standing.actor) ∙ unmarked in
          let rd : is_ready_at (thing p.core.cells q.1) ≡ true = sym (ready_same r m.heap p st.shown.holds.shows q.1) ∙ ready in
          let number : at.number ≡ group = let a = at.waits in let d = may.wait.last in cc (a, d) in
          let first = may.wait.first at.group (subst (λ g. group_numbered g s.class.now.groups.items ≡ Some at.group) number at.of_number) in
          let branch : b ≡ length e.operands = let c = at.counted in omega (arith, c, first) in
          let spot : (wait_spot f).group ≡ group = ap (λ y. (spot_by f.code y).group) may.wait.fetched in
          let taken : TakesBranch s b (record { 0 = q.1 }) n1 n =
          subst (λ (a : ActorId). TakesBranch s b (record { 0 = q.1 }) (on_heap (waiting.operand_kept a.0 (callback_of e f q)) m) n) may.standing.actor takes in
          let out = branch_follows r ls n1 kept i en f x s group b q.1 may.cell n p.core.entries one_more (sym (put_over p.core.entries i en (running en))) none may.standing may.wait spot go1
          (record { at = may.takeable.at; there = λ o h. all_there_by p kept (refs_in (value_in o)) refl (may.takeable.there o h) }) taken in
          subst (λ v. Matches r ls x n (keep_by (classes r) i (length e.operands) v q en f (on_core (pushed (Run i)) p)).0)
          (sym (ap (λ c. verdict c (is_ready_at (thing p.core.cells q.1))) mk ∙ ap (verdict false) rd))
          (subst (λ c. Matches r ls x n (proc (take_branch i (length e.operands) q.1 en (lose f).0 c p.core) (put p.actors i (lose f).1))) (sym may.takeable.at)
          (subst (λ c. Matches r ls x n (proc (take_branch i c q.1 en (lose f).0 (Some may.cell) p.core) (put p.actors i (lose f).1))) branch out))
