-- An error is thrown in memory where an actor stands as the definitions throw it.
use Rattle.std.proofs.Common.{◌≡◌, ℕ, ◌+◌, ◌<◌, List, [], ◌∷◌, length, map, refl, sym, ap, ◌∙◌, subst, arith}
use Rattle.std.specs.Option.{option_map}
use Rattle.std.specs.declared.option.Option.{Option}
use Rattle.std.specs.declared.option.Option.TheVariants.{None, Some}
use Rattle.flow_base.specs.declared.ids.ActorId.{ActorId}
use Rattle.flow_base.specs.declared.ids.ErrorCode.{ErrorCode}
use Rattle.flow_value.specs.declared.value.Value.TheVariants.{Error, rolls-Error}
use Rattle.flow_value.specs.declared.value.Value.TheOpen as layer
use Rattle.flow_value.specs.declared.value.Value.TheFolds.{fold-roll-Value}
use Rattle.flow_value.specs.declared.value.Outcome.{Outcome}
use Rattle.flow_value.specs.declared.value.Outcome.TheVariants as outcome
use Rattle.flow_value.specs.Values.{ValueTree, ErrorValue, BadOutcome}
use Rattle.flow_value.specs.View.{value_of, value_step, outcome_of}
use Rattle.flow_class.specs.declared.class.Slotted.TheVariants.{Local}
use Rattle.flow_class.specs.Classes.{CatcherTree, RawTree}
use Rattle.flow_class.specs.Code.{catcher_at}
use Rattle.flow_code.specs.declared.class.Catcher.{Catcher}
use Rattle.flow_trace.specs.declared.line.Line.{Line}
use Rattle.flow_trace.specs.declared.line.Line.TheVariants as line
use Rattle.flow_cancel.specs.declared.task.Task as stack
use Rattle.flow_cancel.specs.declared.task.Task.TheVariants as task
use Rattle.flow_cancel.specs.Heap.{pushed}
use Rattle.flow_cancel.specs.Dropping as dropping
use Rattle.flow_cancel.specs.Leaving.{withdrawn}
use Rattle.flow_numbered.specs.Numbered.{put}
use Rattle.flow_meaning.specs.Cells.{Side}
use Rattle.flow_meaning.specs.Process.{Task, Catch, Close, Entry, Core, Proc}
use Rattle.flow_meaning.specs.References.{Scan, in_task, refs_in}
use Rattle.flow_meaning.specs.Lines.{throw_line}
use Rattle.flow_meaning.specs.Work as work
use Rattle.flow_meaning.specs.Work.{running, leave_for, writes}
use Rattle.flow_meaning.specs.Step.{throw_with, throw_core, proc, on_core}
use Rattle.flow_meaning.specs.Frame.{Memory, Frame, read, write, held_in, emptied, everything, with_error, go, over, raise, raised}
use Rattle.flow_heap_refinement.specs.Changes.{SameTask}
use Rattle.flow_heap_refinement.specs.Acting.{put_frame}
use Rattle.flow_heap_refinement.specs.Leaving.{left_wait}
use Rattle.flow_heap_refinement.specs.Holding.{held}
use Rattle.flow_heap_refinement.proofs.Tasks.{refs_same}
use Rattle.flow_steps.specs.declared.process.Process.{Process}
use Rattle.flow_steps.specs.Doing.{telling}
use Rattle.flow_steps.specs.Holding.{on_heap, refs_dropped}
use Rattle.flow_steps.specs.Points.{gone, place_put, places_taken, places_emptied, lost_from}
use Rattle.flow_steps.specs.Stepping.{IsClose}
use Rattle.flow_steps.specs.Tasks as tasks
use Rattle.flow_steps.specs.Tasks.{dropped_places, caught, failed, FailsBy, Raises, Raised}
use Rattle.flow_operation_refinement.specs.Matching.{ProcessRepresents, with_task}
use Rattle.flow_operation_refinement.specs.Placing.{RepresentsActor, with_memory, nothing_in, HasLocals}
use Rattle.flow_operation_refinement.specs.Taking.{MayGo}
use Rattle.flow_operation_refinement.specs.Throwing.{SameCatcher, CatcherFits, MayThrow}
use Rattle.flow_operation_refinement.specs.Throwing as law
use Rattle.flow_operation_refinement.proofs.Working.{as_many_shown, task_done, refs_dropped_shown, telling_shown}
use Rattle.flow_operation_refinement.proofs.Places.{place_changed}
use Rattle.flow_operation_refinement.proofs.Lost.{put_over, as_long, unchanged}
use Rattle.flow_operation_refinement.proofs.Emptied.{locals_taken, all_lost}
use Rattle.flow_operation_refinement.proofs.Parting.{acts_by, actor_withdrawn, no_keep_under}
use Rattle.flow_operation_refinement.proofs.Moving.{goes_to, free_left, is_over_shown}

-- the view of an error
pub error_seen : (e : ErrorCode) → value_of (Error e) ≡ ErrorValue e.0
error_seen e = ap value_of (sym (rolls-Error e)) ∙ fold-roll-Value ValueTree value_step (layer.Error e)

emptied_long : (ns : List ℕ) (m : Memory) → length (emptied ns m).locals ≡ length m.locals
emptied_long [] m = refl
emptied_long (n ∷ ns) m = emptied_long ns (write m (Local n) None) ∙ as_long m.locals n None

module _ (r : RawTree) (ls : List Line) (x : Scan) (i : ℕ) (e : Entry) (f : Frame) where
  -- a task comes that holds nothing
  pub task_over : (m : Process) (p : Proc Frame) (t : stack.Task) (u : Task) → SameTask p t u → ((z : Side) (j : ℕ) → in_task z j u ≡ 0) → RepresentsActor r ls x m p i e f
      → RepresentsActor r ls x (on_heap (pushed t) m) (on_core (work.pushed u) p) i e f
  task_over m p t u same none s = record {
    shown = task_done r ls x m p t u (as_many_shown r ls x (with_task u x) m p (λ z j. let a = none z j in omega (arith, a)) s.shown) same;
    acts = acts_by r m.heap (pushed t m.heap) p (on_core (work.pushed u) p) i e f refl refl refl refl s.acts;
  }

  -- locals are emptied, and what they held is dropped
  places_dropped : (m : Process) (p : Proc Frame) (ns : List ℕ) → RepresentsActor r ls x m p i e f → HasLocals f ns
      → RepresentsActor r ls x (on_heap (dropped_places i (map (λ n. length f.code.slots + n) ns)) m)
      (proc (work.dropping (refs_in (held_in f.mem ns)) p.core) (put p.actors i (with_memory (emptied ns f.mem) f))) i e (with_memory (emptied ns f.mem) f)
  places_dropped m p ns s has =
      let places = map (λ n. length f.code.slots + n) ns in
      let g : Frame = with_memory (emptied ns f.mem) f in
      let t = locals_taken r ls m p i e f x ns s has in
      let rs = refs_in (held_in f.mem ns) in
      let n : Process = on_heap (places_emptied i places) m in
      let q : Proc Frame = put_frame i g p in
      let same : dropping.refs_in (places_taken i places m.heap) ≡ rs = refs_same (places_taken i places m.heap) ∙ t.0 in
      subst (λ us. RepresentsActor r ls x (on_heap (refs_dropped us) n) (on_core (work.dropping rs) q) i e g) (sym same) (record {
        shown = refs_dropped_shown r ls x n q rs t.1.shown;
        acts = acts_by r n.heap (refs_dropped rs n.heap) q (on_core (work.dropping rs) q) i e g refl refl refl refl t.1.acts;
      })

module _ (r : RawTree) (ls : List Line) (x : Scan) (i : ℕ) (e : Entry) (f : Frame) where
  -- the error goes into its local
  error_put : (m : Process) (p : Proc Frame) (err : ErrorCode) (o : Option ℕ) → RepresentsActor r ls x m p i e f
      → ((n : ℕ) → o ≡ Some n → (n < length f.mem.locals) × ((z : Side) (j : ℕ) → held z j (read f.mem (Local n)) ≡ 0))
      → RepresentsActor r ls x (on_heap (tasks.with_error i (option_map (λ n. length f.code.slots + n) o) err) m)
      (proc p.core (put p.actors i (with_memory (with_error o err.0 f.mem) f))) i e (with_memory (with_error o err.0 f.mem) f)
  error_put m p err None s there = unchanged r ls i e x m p f s
  error_put m p err (Some n) s there =
      let a = there n refl in
      subst (λ v. RepresentsActor r ls x (on_heap (place_put i (length f.code.slots + n) (Some (Error err))) m) (proc p.core (put p.actors i (with_memory (write f.mem (Local n) (Some v)) f))) i e
      (with_memory (write f.mem (Local n) (Some v)) f)) (error_seen err)
      (place_changed r ls m p i e f x x (Local n) (Some (Error err)) s a.0 (λ z j.
      let b = a.1 z j in
      let c = ap (λ v. held z j (Some v)) (error_seen err) in omega (arith, b, c)))

-- the handler begins
module _ (r : RawTree) (ls : List Line) (x : Scan) (m : Process) (p : Proc Frame) (i : ActorId) (err : ErrorCode) (e : Entry) (f : Frame) (c : Catcher) (t : CatcherTree) where
  pub handler_begins : RepresentsActor r ls x m p i.0 e f → MayGo i.0 e p.core → SameCatcher (length f.code.slots) (Some c) (Some t) → CatcherFits f t
      → ProcessRepresents r ls x (on_heap (caught i c err) m)
      (proc (leave_for i.0 e (held_in f.mem t.drops) (Catch i.0 err.0) p.core) (put p.actors i.0 (go t.block (with_error t.error err.0 (emptied t.drops f.mem)) f)))
  handler_begins s may same fits =
      let u = Catch i.0 err.0 in
      let one = task_over r ls x i.0 e f m p (task.Catch i err) u refl (λ z j. refl) s in
      let q1 : Proc Frame = on_core (work.pushed u) p in
      let places = map (λ n. length f.code.slots + n) t.drops in
      let f2 : Frame = with_memory (emptied t.drops f.mem) f in
      let n1 : Process = on_heap (pushed (task.Catch i err)) m in
      let two = places_dropped r ls x i.0 e f n1 q1 t.drops one fits.drops in
      let n2 : Process = on_heap (dropped_places i.0 places) n1 in
      let core2 : Core = work.dropping (refs_in (held_in f.mem t.drops)) q1.core in
      let q2 : Proc Frame = proc core2 (put p.actors i.0 f2) in
      let long = emptied_long t.drops f.mem in
      let three = error_put r ls x i.0 e f2 n2 q2 err t.error two (λ n h. let a = fits.error n h in (let b = a.0 in omega (arith, b, long), a.1)) in
      let f3 : Frame = with_memory (with_error t.error err.0 f2.mem) f2 in
      let n3 : Process = on_heap (tasks.with_error i.0 (option_map (λ n. length f.code.slots + n) t.error) err) n2 in
      let q3 : Proc Frame = proc core2 (put (put p.actors i.0 f2) i.0 f3) in
      let go3 : MayGo i.0 e core2 = record {
        agree = may.agree;
        cells = may.cells;
        kinds = may.kinds;
        keeps = no_keep_under i.0 (refs_in (held_in f.mem t.drops)) (u ∷ p.core.tasks) may.keeps;
      } in
      let four = actor_withdrawn r ls n3 q3 i.0 e f3 x three go3 in
      let five = goes_to r ls x (on_heap (withdrawn i.0) n3) (on_core (left_wait i.0 e) q3) i.0 (running e) f3 t.block 0 four refl (free_left i.0 e core2 go3) in
      let f4 : Frame = go t.block (with_error t.error err.0 (emptied t.drops f.mem)) f in
      let actors : put (put (put p.actors i.0 f2) i.0 f3) i.0 f4 ≡ put p.actors i.0 f4 =
      put_over (put p.actors i.0 f2) i.0 f3 f4 ∙ put_over p.actors i.0 f2 f4 in
      let done = subst (λ xs. ProcessRepresents r ls x (on_heap (gone i.0 t.block 0) (on_heap (withdrawn i.0) n3)) (proc (left_wait i.0 e core2) xs)) actors five.shown in
      subst (λ b. ProcessRepresents r ls x (on_heap (λ h. gone i.0 b 0 (withdrawn i.0 (tasks.with_error i.0 c.error err (dropped_places i.0 c.drops.items (pushed (task.Catch i err) h))))) m)
      (proc (left_wait i.0 e core2) (put p.actors i.0 f4))) (sym same.0)
      (subst (λ o. ProcessRepresents r ls x (on_heap (λ h. gone i.0 t.block 0 (withdrawn i.0 (tasks.with_error i.0 o err (dropped_places i.0 c.drops.items (pushed (task.Catch i err) h))))) m)
      (proc (left_wait i.0 e core2) (put p.actors i.0 f4))) (sym same.1)
      (subst (λ ns. ProcessRepresents r ls x (on_heap (λ h. gone i.0 t.block 0
      (withdrawn i.0 (tasks.with_error i.0 (option_map (λ n. length f.code.slots + n) t.error) err (dropped_places i.0 ns (pushed (task.Catch i err) h))))) m)
      (proc (left_wait i.0 e core2) (put p.actors i.0 f4))) (sym same.2) done))

-- the task by which an actor is closed
pub close_same : (p : Proc Frame) (i : ActorId) (o : Outcome) (t : stack.Task) → IsClose i o t → SameTask p t (Close i.0 (outcome_of o))
close_same p i o (task.Close j v) is = ap (λ (a : ActorId). Close a.0 (outcome_of o)) (sym is.0) ∙ ap (λ w. Close j.0 (outcome_of w)) (sym is.1)
close_same p i o (task.Run j) is = absurd is
close_same p i o (task.Give j b v) is = absurd is
close_same p i o (task.Throw j v) is = absurd is
close_same p i o (task.Catch j v) is = absurd is
close_same p i o (task.Fire k) is = absurd is
close_same p i o (task.Drop kd k) is = absurd is
close_same p i o (task.Store j v) is = absurd is
close_same p i o (task.Keep j n k) is = absurd is

-- or the actor ends
module _ (r : RawTree) (ls : List Line) (x : Scan) (m : Process) (p : Proc Frame) (i : ActorId) (err : ErrorCode) (e : Entry) (f : Frame) where
  pub actor_fails : (n : Process) → RepresentsActor r ls x m p i.0 e f → MayGo i.0 e p.core → FailsBy i err m n
      → ProcessRepresents r ls x n (proc (leave_for i.0 e (everything f.mem) (Close i.0 (BadOutcome err.0)) p.core) (put p.actors i.0 over))
  actor_fails n s may by =
      let u = Close i.0 (BadOutcome err.0) in
      let one = task_over r ls x i.0 e f m p by.task u (close_same p i (outcome.Error err) by.task by.closes) (λ z j. refl) s in
      let n1 : Process = on_heap (pushed by.task) m in
      let q1 : Proc Frame = on_core (work.pushed u) p in
      let none : Frame = with_memory (nothing_in f.mem) f in
      let two = all_lost r ls n1 q1 i.0 e f x one in
      let n2 : Process = on_heap (lost_from i.0 0) n1 in
      let core2 : Core = work.dropping_values (everything f.mem) q1.core in
      let q2 : Proc Frame = proc core2 (put p.actors i.0 none) in
      let go2 : MayGo i.0 e core2 = record {
        agree = may.agree;
        cells = may.cells;
        kinds = may.kinds;
        keeps = no_keep_under i.0 (refs_in (everything f.mem)) (u ∷ p.core.tasks) may.keeps;
      } in
      let three = actor_withdrawn r ls n2 q2 i.0 e none x two go2 in
      let four = is_over_shown r ls x (on_heap (withdrawn i.0) n2) (on_core (left_wait i.0 e) q2) i.0 (running e) f three refl refl (free_left i.0 e core2 go2) in
      subst (λ z. ProcessRepresents r ls x z (proc (left_wait i.0 e core2) (put p.actors i.0 over))) (sym by.fails)
      (subst (λ xs. ProcessRepresents r ls x (on_heap (withdrawn i.0) n2) (proc (left_wait i.0 e core2) xs)) (put_over p.actors i.0 none over) four)

pub throw_done : (r : RawTree) (ls : List Line) (m : Process) (p : Proc Frame) → law.ThrowDone r ls m p
throw_done r ls m p x code i err e f n s none may thrown =
    let said = throw_line i.0 err.0 in
    let q : Proc Frame = on_core (writes said) p in
    let m1 : Process = telling said m in
    let st : RepresentsActor r ls x m1 q i.0 e f = record {
      shown = telling_shown r ls x said m p s.shown none;
      acts = acts_by r m.heap m.heap p q i.0 e f refl refl refl refl s.acts;
    } in
    let go1 : MayGo i.0 e q.core = record { agree = may.go.agree; cells = may.go.cells; kinds = may.go.kinds; keeps = may.go.keeps } in
    let now = may.stands thrown.stand thrown.stands in
    subst (λ z. ProcessRepresents r ls x z (throw_with i.0 err.0 (raise err.0 f) p).0) (sym thrown.told)
    (subst (λ o. ProcessRepresents r ls x (telling (line.Throw i err) thrown.between) (proc (throw_core i.0 err.0 (raise err.0 f).0 o p.core) (put p.actors i.0 (raise err.0 f).1)))
    (sym s.acts.entered)
    (by_catcher st go1 thrown.stand.block.now.catcher (catcher_at f.code f.block) refl now.1 thrown.raises))
  where
    by_catcher : RepresentsActor r ls x (telling (throw_line i.0 err.0) m) (on_core (writes (throw_line i.0 err.0)) p) i.0 e f → MayGo i.0 e (writes (throw_line i.0 err.0) p.core)
        → (a : Option Catcher) (b : Option CatcherTree) → catcher_at f.code f.block ≡ b → SameCatcher (length f.code.slots) a b → Raises i a err m thrown.between
        → ProcessRepresents r ls x (telling (line.Throw i err) thrown.between) (proc (throw_core i.0 err.0 (raised err.0 f b).0 (Some e) p.core) (put p.actors i.0 (raised err.0 f b).1))
    by_catcher st go1 (Some c) (Some t) at same raises =
        subst (λ z. ProcessRepresents r ls x (telling (line.Throw i err) z) (proc (throw_core i.0 err.0 (raised err.0 f (Some t)).0 (Some e) p.core) (put p.actors i.0 (raised err.0 f (Some t)).1)))
        (sym raises)
        (handler_begins r ls x (telling (throw_line i.0 err.0) m) (on_core (writes (throw_line i.0 err.0)) p) i err e f c t st go1 same (may.fits t at))
    by_catcher st go1 None None at same raises =
        actor_fails r ls x (telling (throw_line i.0 err.0) m) (on_core (writes (throw_line i.0 err.0)) p) i err e f (telling (throw_line i.0 err.0) thrown.between) st go1
        (record { task = raises.task; closes = raises.closes; fails = ap (telling (throw_line i.0 err.0)) raises.fails })
    by_catcher st go1 (Some c) None at same raises = absurd same
    by_catcher st go1 None (Some t) at same raises = absurd same
