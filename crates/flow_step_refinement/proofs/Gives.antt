-- The tasks by which an actor goes on are steps of the class machine.
use Rattle.std.proofs.Common.{◌≡◌, ℕ, suc, false, List, [], ◌∷◌, refl, sym, ap, ◌∙◌, subst, arith}
use Rattle.std.specs.declared.option.Option.{Option}
use Rattle.std.specs.Prelude.{slice_get}
use Rattle.std.specs.declared.option.Option.TheVariants.{None, Some}
use Rattle.flow_base.specs.declared.ids.ActorId.{ActorId}
use Rattle.flow_value.specs.declared.value.Value.{Value}
use Rattle.flow_value.specs.Values.{ValueTree, GoodOutcome, BadOutcome}
use Rattle.flow_value.specs.View.{value_of}
use Rattle.flow_class.specs.declared.class.Slotted.{Slotted}
use Rattle.flow_class.specs.Classes.{CallbackTree, RawTree}
use Rattle.flow_code.specs.declared.program.Code.{Code}
use Rattle.flow_trace.specs.declared.line.Line.{Line}
use Rattle.flow_frame.specs.Frames.{FrameTree}
use Rattle.flow_cancel.specs.Heap.{actor_id}
use Rattle.flow_cancel.specs.Dropping.{dropping}
use Rattle.flow_numbered.specs.Numbered.{put}
use Rattle.flow_meaning.specs.Cells.{Ref}
use Rattle.flow_meaning.specs.Process.{Run, Give, Throw, Store, Keep, Entry, Proc}
use Rattle.flow_meaning.specs.References.{Scan, refs_in, in_task}
use Rattle.flow_meaning.specs.Work.{pushed}
use Rattle.flow_meaning.specs.Step.{silent, replaced, give, store, popped, step_if, step, proc, on_core}
use Rattle.flow_meaning.specs.Class.{stored, store_at, take_callback, take_at, class_names, classes}
use Rattle.flow_meaning.specs.Frame.{Frame, go, next_instr}
use Rattle.flow_heap_refinement.specs.Representing.{Position, here, at_wait, wait_spot}
use Rattle.flow_heap_refinement.specs.Acting.{put_frame}
use Rattle.flow_heap_refinement.specs.Holds.{with_refs}
use Rattle.flow_heap_refinement.proofs.Shown.{popped_shown}
use Rattle.flow_heap_refinement.proofs.Referring.{of_popped}
use Rattle.flow_steps.specs.declared.frames.ControlPoint.{ControlPoint}
use Rattle.flow_steps.specs.declared.next.Pace.{Pace}
use Rattle.flow_steps.specs.declared.next.Pace.TheVariants.{On, Off}
use Rattle.flow_steps.specs.declared.process.Process.{Process}
use Rattle.flow_steps.specs.Holding.{on_heap, refs_dropped, value_refs}
use Rattle.flow_steps.specs.Points.{IsAtPoint, next_stand, noted, gone, values, GoesTo}
use Rattle.flow_steps.specs.Tasks.{TopTaken, bound as bound_in, BranchAt, bound_over}
use Rattle.flow_operation_refinement.specs.Matching.{ProcessRepresents, shows, with_task}
use Rattle.flow_operation_refinement.specs.Placing.{Acts, RepresentsActor, with_memory}
use Rattle.flow_frame.specs.declared.held.Held.{Held}
use Rattle.flow_steps.specs.Waiting.{KeepsOperand, kept_marked, kept_unready, kept_ready}
use Rattle.flow_operation_refinement.specs.Continuing.{MayMove}
use Rattle.flow_operation_refinement.proofs.Working.{changed, as_many_shown, task_done, refs_dropped_shown}
use Rattle.flow_operation_refinement.proofs.Places.{dropped_values}
use Rattle.flow_operation_refinement.proofs.Lost.{put_over, unchanged}
use Rattle.flow_operation_refinement.proofs.Parting.{acts_by, no_keep_under}
use Rattle.flow_operation_refinement.proofs.Kept.{operand_follows}
use Rattle.flow_operation_refinement.proofs.Moving.{goes_in}
use Rattle.flow_operation_refinement.proofs.Gone.{value_bound}
use Rattle.flow_step_refinement.specs.Continuing.{no_more, then_on, moves, chooses, Onward, InClass, by_value, by_operand, GoesBy, MayStep}
use Rattle.flow_step_refinement.proofs.Onward.{same_memory, goes_after}
use Rattle.flow_step_refinement.proofs.Paths.{path_put}
use Rattle.flow_step_refinement.proofs.Choices.{goes_kept}
use Rattle.flow_step_refinement.proofs.Telling.{over_told, keeps_told}
use Rattle.flow_steps.specs.Stepping.{OnAfter}
use Rattle.flow_step_refinement.specs.Giving.{MayRun, MayBranch}
use Rattle.flow_operation_refinement.specs.Operands.{MayKeep}
use Rattle.flow_heap_refinement.specs.FrameChanges.{next_callback}
use Rattle.flow_value.specs.declared.value.Kind.{Kind}
use Rattle.flow_base.specs.declared.ids.CellId.{CellId}
use Rattle.flow_code.specs.declared.class.Branch.{Branch}
use Rattle.flow_meaning.specs.Requests.{Supply}
use Rattle.flow_cancel.specs.declared.task.Task.TheVariants as task
use Rattle.flow_meaning.specs.Work as work
use Rattle.flow_operation_refinement.specs.Continuing as going
use Rattle.flow_step_refinement.specs.Giving as law

-- A row of steps of the class machine leads to where an actor goes on, in its class.
pub record GoesFrom (code : Code) (r : RawTree) (ls : List Line) (x : Scan) (w : Supply) (i class : ℕ) (start : Proc Frame) (pace : Pace) (n : Process) : Type 0 where
  pub goes : GoesBy r ls x w i class start pace n
  pub stands : (t : ControlPoint) → pace ≡ On t → InClass code class t

module _ (r : RawTree) (ls : List Line) (m : Process) (p : Proc Frame) (i : ℕ) (e : Entry) (f : Frame) where
  -- in the same state
  same_state : (q : Proc Frame) (g : Frame) → (a : Acts r m.heap q i e g) → (b : Acts r m.heap p i e f) → a.memory.state ≡ b.memory.state
  same_state q g a b = ap (λ (y : FrameTree Value). y.state) (same_memory r m.heap m.heap p q i e e f g refl b a)

  -- where the code has it stand is in its class
  pub in_class : (code : Code) (s : ControlPoint) → Acts r m.heap p i e f → IsAtPoint code.classes.items (actor_id i) m s → InClass code e.class s
  in_class code s a now =
      let same : now.frame ≡ a.memory = let b = now.at in let c = a.framed in cc (b, c) in record {
        class = ap (slice_get code.classes.items) (a.class ∙ ap (λ (y : FrameTree Value). y.class) (sym same)) ∙ now.stands.class;
        block = now.stands.block;
      }

  -- and so is where it goes
  goes_in_class : (code : Code) (number : ℕ) (s t : ControlPoint) (b k : ℕ) → InClass code number s → GoesTo s b k t → InClass code number t
  goes_in_class code number s t b k within to =
      let same : t.class ≡ s.class = ap (λ (y : ControlPoint). y.class) to.same in record {
        class = within.class ∙ ap (λ y. Some y.now) (sym same);
        block = ap (λ y. slice_get y.now.blocks.items t.place) same ∙ ap (λ (y : ControlPoint). slice_get s.class.now.blocks.items y.place) to.same ∙ to.at;
      }

  -- where it keeps an operand it stays
  keeps_there : (s t : ControlPoint) (x : Held) (start n : Process) (pace : Pace) → pace ≡ On t → KeepsOperand s x start pace n → s ≡ t
  keeps_there s t x start n pace on (kept_unready q unmarked unready is) = let e : s ≡ t = cc (on) in e
  keeps_there s t x start n pace on (kept_marked q marked is) = absurd (cc (on))
  keeps_there s t x start n pace on (kept_ready q b unmarked ready at takes) = absurd (cc (on))

  -- An actor that is free takes its next step from where the code has it stand.
  pub free_steps : (x : Scan) (code : Code) (st : RepresentsActor r ls x m p i e f) → st.acts.memory.state ≡ 0 → MayRun code m p i e f → (s : ControlPoint)
      → IsAtPoint code.classes.items (actor_id i) m s → MayStep r ls x s m p i e f
  free_steps x code st zero_state may s stands =
      moves (record {
        block = f.block;
        instr = f.instr;
        state = f.state;
        stood = unchanged r ls i e x m p f st;
        told = λ h. refl;
        acting = st.acts.acting;
        standing = (may.stands s stands).0;
        instruction = (may.stands s stands).1;
        free = record { waits = may.free.waits; keeps = may.free.keeps };
        operands = may.operands;
      }) (λ h. same_state (proc p.core (put p.actors i f)) f (unchanged r ls i e x m p f st).acts st.acts ∙ zero_state)

  pub run_begins : law.RunBegins r ls m p i e f
  run_begins x code n st zero_state may runs = record {
    stand = runs.stand;
    may = free_steps x code st zero_state may runs.stand runs.stands;
    stands = in_class code runs.stand st.acts runs.stands;
    runs = runs.runs;
  }

  pub run_at_wait : law.RunAtWait r ls m p i e f
  run_at_wait x code n at runs = record {
    stand = runs.stand;
    may = chooses (at runs.stand runs.stands);
    stands = in_class code runs.stand (at runs.stand runs.stands).stood.acts runs.stands;
    runs = runs.runs;
  }

  -- values are left over at a task
  after_task : (x : Scan) (t : ControlPoint) (rs : List Ref) (g : Frame) (pace : Pace) (n : Process) → t.noted ≡ false → going.AfterValues r ls m p i e f x t rs g pace n
      → Onward r ls x i e.class pace n (proc (work.dropping rs (pushed (Run i) p.core)) (put p.actors i g))
  after_task x t rs g (On u) n later a = record {
    process = put_frame i g p;
    entry = e;
    frame = g;
    runs = ap (λ us. proc (work.dropping us (pushed (Run i) p.core)) (put p.actors i g)) a.1;
    same = refl;
    next = moves (subst (λ (y : ControlPoint). going.ContinuesAt r ls x y n p i e g) (sym a.0) a.2) (λ h. let b = ap (λ (y : ControlPoint). y.noted) a.0 ∙ later in absurd (cc (b, h)));
  }
  after_task x t rs g Off n later a = shows a

  -- what a branch gets in the class machine
  taken_by : (callback : CallbackTree) (u : ValueTree)
      → take_callback (class_names r) u f (Some callback)
      ≡ (going.over_at r ls m p i e f callback.into u, go callback.block (going.memory_at r ls m p i e f callback.into u) f)
  taken_by callback u = by_place callback.into
    where
      by_place : (o : Option Slotted) → take_callback (class_names r) u f (Some (record callback { into = o }))
          ≡ (going.over_at r ls m p i e f o u, go callback.block (going.memory_at r ls m p i e f o u) f)
      by_place None = refl
      by_place (Some q) = refl

  -- One that gets what a branch took goes on at that branch.
  pub given_goes : (x : Scan) (code : Code) (w : Supply) (number : ℕ) (v : Value) (s t : ControlPoint) (branch : Branch) (pace : Pace) (n : Process)
      → RepresentsActor r ls (with_refs (value_refs v) x) m p i e f
      → MayBranch code r ls m p i number e f → IsAtPoint code.classes.items (actor_id i) m s → BranchAt s number branch → GoesTo s branch.block 0 t
      → OnAfter t (bound_over i branch.into v m.heap) (on_heap (bound_in i branch.into v) m) pace n
      → GoesFrom code r ls x w i e.class (on_core (pushed (Give i number (GoodOutcome (value_of v)))) p) pace n
  given_goes x code w number v s t branch pace n st may stands at to after =
      let u = value_of v in
      let over = going.over_at r ls m p i e f may.callback.into u in
      let g : Frame = go may.callback.block (going.memory_at r ls m p i e f may.callback.into u) f in
      let standing = may.stands s stands in
      let same = may.same s branch stands at in
      let move : MayMove s p i e f = record {
        actor = standing.actor;
        slots = standing.slots;
        free = record { waits = may.free.waits; keeps = may.free.keeps };
        operands = may.operands;
      } in
      let bound_there = value_bound r ls m p i e f x s t branch.block branch.into may.callback.into v pace n st move same.1 to after in
      let there = subst (λ b. going.AfterValues r ls m p i e f x t (refs_in over) (go b (going.memory_at r ls m p i e f may.callback.into u) f) pace n) same.0 bound_there in
      let start : Proc Frame = on_core (pushed (Give i number (GoodOutcome u))) p in
      let ran : Proc Frame = on_core (pushed (Run i)) p in
      let end : Proc Frame = proc (work.dropping (refs_in over) ran.core) (put p.actors i g) in
      let one : step (classes r) w start ≡ Some (silent end) =
      ap (λ h. step_if (classes r) w h start) st.shown.goes
      ∙ ap (λ a. Some (give (classes r) i number (GoodOutcome u) a p)) st.acts.acting
      ∙ ap (λ k. Some (replaced i (take_at (class_names r) number u f k) ran)) may.fetched
      ∙ ap (λ k. Some (replaced i (take_callback (class_names r) u f k) ran)) may.at
      ∙ ap (λ k. Some (replaced i k ran)) (taken_by may.callback u) in record {
        goes = record {
          after = end;
          steps = then_on start end end one (no_more end);
          onward = after_task x t (refs_in over) g pace n (ap (λ (y : ControlPoint). y.noted) to.same) there;
        };
        stands = λ y on. subst (InClass code e.class) (goes_after t y _ _ n pace after on) (goes_in_class code e.class s t branch.block 0 (in_class code s st.acts stands) to);
      }

  pub give_goes : law.GiveGoes r ls m p i e f
  give_goes x code w number v n st none may is =
      let from = given_goes x code w number v is.stand is.goes is.branch is.pace is.between st may is.stands is.at is.to is.after in record {
        pace = is.pace;
        between = is.between;
        began = by_value is.goes _ i is.branch.into v is.after;
        goes = from.goes;
        stands = from.stands;
        told = λ off. over_told is.goes _ (on_heap (bound_in i is.branch.into v) m) is.between is.pace none is.after;
        further = is.further;
      }

  pub give_throws : law.GiveThrows r ls m p i e f
  give_throws x w number err st =
      let u = Throw i err.0 in
      let start : Proc Frame = on_core (pushed (Give i number (BadOutcome err.0))) p in record {
        after = on_core (pushed u) p;
        steps =
            ap (λ h. step_if (classes r) w h start) st.shown.goes
            ∙ ap (λ a. Some (give (classes r) i number (BadOutcome err.0) a p)) st.acts.acting;
        follows = shows (task_done r ls x m p (task.Throw (actor_id i) err) u (as_many_shown r ls x (with_task u x) m p (λ z j. omega arith) st.shown) refl);
      }

  pub store_done : law.StoreDone r ls m p i e f
  store_done x code w v n st may is =
      let u = value_of v in
      let standing = (may.stands is.stand is.stands).0 in
      let instruction = (may.stands is.stand is.stands).1 in
      let put_there = path_put r ls m p i e f x code may.path is.aim v is.old is.between st (may.aims is.stand is.aim is.effect is.args is.stands is.at) may.can is.assigns in
      let us = put_there.values in
      let rs = refs_in us in
      let k : Frame = with_memory put_there.memory f in
      let p1 : Proc Frame = put_frame i k p in
      let m1 : Process = is.between in
      let p2 : Proc Frame = on_core (work.dropping rs) p1 in
      let m2 : Process = on_heap (refs_dropped rs) m1 in
      let st2 : RepresentsActor r ls x m2 p2 i e k = record {
        shown = refs_dropped_shown r ls x m1 p1 rs put_there.stood.shown;
        acts = acts_by r m1.heap m2.heap p1 p2 i e k refl refl refl refl put_there.stood.acts;
      } in
      let g : Frame = next_instr put_there.memory f in
      let gone_there = goes_in r ls x m2 p2 i e k f.block (suc f.instr) f.state st2 may.operands (record { waits = may.free.waits; keeps = no_keep_under i rs p.core.tasks may.free.keeps }) in
      let m3 : Process = on_heap (gone i f.block (suc f.instr)) m2 in
      let after : Proc Frame = proc (work.dropping rs p.core) (put p.actors i g) in
      let there : ProcessRepresents r ls x m3 after = subst (λ xs. ProcessRepresents r ls x m3 (proc (work.dropping rs p.core) xs)) (put_over p.actors i k g) gone_there.shown in
      let dropped : on_heap (dropping (values is.old)) m1 ≡ m2 =
      ap (λ h. record m1 { heap = h }) (dropped_values r ls m p i e f is.old m1.heap ∙ ap (λ l. refs_dropped (refs_in l) m1.heap) (sym put_there.same)) in
      let memory_is : n ≡ m3 =
      is.goes ∙ ap (noted (next_stand is.stand)) dropped
      ∙ ap (λ (a : ActorId). on_heap (gone a.0 is.stand.place (suc is.stand.instruction)) m2) standing.actor
      ∙ ap (λ b. on_heap (gone i b (suc is.stand.instruction)) m2) standing.place
      ∙ ap (λ b. on_heap (gone i f.block (suc b)) m2) instruction in
      let start : Proc Frame = on_core (pushed (Store i u)) p in record {
        after = after;
        steps =
            ap (λ h. step_if (classes r) w h start) st.shown.goes
            ∙ ap (λ a. Some (store (classes r) i u a p)) st.acts.acting
            ∙ ap (λ y. Some (replaced i (store_at (class_names r) u f y) p)) may.fetched
            ∙ ap (λ y. Some (replaced i (stored f y) p)) put_there.assigned;
        follows = shows (subst (λ z. ProcessRepresents r ls x z after) (sym memory_is) there);
      }

-- the task of the actor is taken off
pub run_off : (r : RawTree) (ls : List Line) (m start : Process) (p : Proc Frame) (i : ℕ) (x : Scan) → ProcessRepresents r ls x m (on_core (pushed (Run i)) p)
    → TopTaken (task.Run (actor_id i)) m start → ProcessRepresents r ls x start p
run_off r ls m start p i x s taken =
    let ran : Proc Frame = on_core (pushed (Run i)) p in
    let a = popped_shown r m.heap ran (task.Run (actor_id i)) taken.tasks s.holds.shows taken.top in
    let below : a.below ≡ p.core.tasks = let b = a.tasks in cc (b) in
    let off = changed r ls x x m ran (popped a.below ran) (record m.heap { tasks = taken.tasks }) s (record {
      shows = a.rest;
      counted = λ z j.
          let b = of_popped ran z j a.top a.below a.tasks in
          let c = s.holds.counted z j in
          let d = ap (λ y. in_task z j y) a.same in omega (arith, b, c, d);
    }) refl refl refl in
    subst (λ q. ProcessRepresents r ls x q p) (sym taken.rest) (subst (λ us. ProcessRepresents r ls x (on_heap (λ h. record h { tasks = taken.tasks }) m) (popped us ran)) below off)

module _ (r : RawTree) (m : Process) (p : Proc Frame) (i : ℕ) (e : Entry) (f : Frame) where
  -- where the code has an actor stand that is in no state of a wait
  stands_here : (code : Code) (s : ControlPoint) → (a : Acts r m.heap p i e f) → a.memory.state ≡ 0 → IsAtPoint code.classes.items (actor_id i) m s → s.instruction ≡ f.instr
  stands_here code s a zero_state now = now.stands.instruction ∙ ap (λ (y : FrameTree Value). y.instruction) same ∙ by_position a.stands.position
    where
      same : now.frame ≡ a.memory
      same = let b = now.at in let c = a.framed in cc (b, c)

      by_position : Position a.memory f → a.memory.instruction ≡ f.instr
      by_position (here b c d) = d
      by_position (at_wait g b c) = absurd (cc (zero_state, b))

module _ (r : RawTree) (ls : List Line) (m : Process) (p : Proc Frame) (i : ℕ) (e : Entry) (f : Frame) where
  -- One that keeps an operand goes on where it stands; its own task is the next.
  pub kept_goes : (x : Scan) (code : Code) (w : Supply) (group : ℕ) (kd : Kind) (k : CellId) (start : Process) (s : ControlPoint) (pace : Pace) (n : Process)
      → (st : RepresentsActor r ls (with_refs ((kd, k.0) ∷ []) x) m (on_core (pushed (Run i)) p) i e f) → st.acts.memory.state ≡ 0 → m.asked ≡ None
      → ((s : ControlPoint) (start : Process) → start.heap.frames ≡ m.heap.frames → IsAtPoint code.classes.items (actor_id i) start s → MayKeep s p i group (kd, k.0) e f)
      → TopTaken (task.Run (actor_id i)) m start → IsAtPoint code.classes.items (actor_id i) start s → KeepsOperand s (record { callback = next_callback e f; cell = k }) start pace n
      → GoesFrom code r ls x w i e.class (on_core (pushed (Keep i (wait_spot f) (kd, k.0))) (on_core (pushed (Run i)) p)) pace n
  kept_goes x code w group kd k start s pace n st zero_state none mays next stands keeps =
      let q : Ref = (kd, k.0) in
      let frames : start.heap.frames ≡ m.heap.frames = ap (λ (y : Process). y.heap.frames) next.rest in
      let actors : start.heap.actors ≡ m.heap.actors = ap (λ (y : Process). y.heap.actors) next.rest in
      let ran : Proc Frame = on_core (pushed (Run i)) p in
      let st1 : RepresentsActor r ls (with_refs (q ∷ []) x) start p i e f = record {
        shown = run_off r ls m start p i (with_refs (q ∷ []) x) st.shown next;
        acts = acts_by r m.heap start.heap ran p i e f frames actors refl refl st.acts;
      } in
      let may = mays s start frames stands in
      let asks_none : start.asked ≡ None = ap (λ (y : Process). y.asked) next.rest ∙ none in
      let state = ap (λ (y : FrameTree Value). y.state) (same_memory r m.heap start.heap ran p i e e f f frames st.acts st1.acts) ∙ zero_state in
      let after = operand_follows r ls start p i e f x s group q pace n st1 state asks_none may keeps in
      let first : Proc Frame = on_core (pushed (Keep i (wait_spot f) q)) ran in
      let stands_at : s.instruction ≡ f.instr = stands_here r start p i e f code s st1.acts state stands in record {
        goes = goes_kept r ls start p i e f x s w q group first pace n st1.shown.goes st1.acts stands.stands.noted stands_at may (no_more first) after;
        stands = λ t on. subst (InClass code e.class) (keeps_there r ls m p i e f s t _ start n pace on keeps) (in_class r ls start p i e f code s st1.acts stands);
      }

  pub keep_goes : law.KeepGoes r ls m p i e f
  keep_goes x code w group kd k n st zero_state none mays is =
      let from = kept_goes x code w group kd k is.start is.stand is.pace is.between st zero_state none mays is.next is.stands is.keeps in
      let asks_none : is.start.asked ≡ None = ap (λ (y : Process). y.asked) is.next.rest ∙ none in record {
        pace = is.pace;
        between = is.between;
        began = by_operand is.stand _ is.start (actor_id i) is.next is.keeps;
        goes = from.goes;
        stands = from.stands;
        told = λ off. keeps_told is.stand _ is.start is.between is.pace asks_none is.keeps;
        further = is.further;
      }
