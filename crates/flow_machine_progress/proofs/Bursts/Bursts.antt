-- No burst goes astray.
use Rattle.std.proofs.Common.{◌≡◌, ℕ, true, false, List, ◌++◌, refl, sym, ◌∙◌, subst}
use Rattle.std.specs.Prelude.{is_some}
use Rattle.std.specs.declared.option.Option.{Option}
use Rattle.std.specs.declared.option.Option.TheVariants.{None, Some}
use Rattle.flow_class.specs.Classes.{RawTree}
use Rattle.flow_code.specs.declared.program.Code.{Code}
use Rattle.flow_trace.specs.declared.line.Line.{Line}
use Rattle.flow_cancel.specs.declared.task.Task as stack
use Rattle.flow_numbered.specs.Numbered.{Numbered}
use Rattle.flow_meaning.specs.Burst.{Host}
use Rattle.flow_meaning.specs.Process.{Proc}
use Rattle.flow_meaning.specs.Frame.{Frame}
use Rattle.flow_meaning.proofs.InOrder.{no_thing}
use Rattle.flow_steps.specs.declared.process.Next.{Next}
use Rattle.flow_steps.specs.declared.process.Next.TheVariants as next
use Rattle.flow_steps.specs.declared.process.Process.{Process}
use Rattle.flow_steps.specs.declared.call.Call.{Call}
use Rattle.flow_steps.specs.Doing.{unasked}
use Rattle.flow_steps.specs.Tasks.{TopTaken, IsDone, Tasks, all_spent, no_task, task_asks, task_done}
use Rattle.flow_steps.specs.StuckTasks.{TasksStuck, task_now, task_later}
use Rattle.flow_machine.specs.declared.host.RunFault.{RunFault}
use Rattle.flow_machine.specs.declared.host.RunFault.TheVariants.{Stuck}
use Rattle.flow_machine.specs.Serving.{ServedIf}
use Rattle.flow_machine.specs.Breaking.{ServingStuck, BreaksOff, no_memory, gets_stuck, serving, further}
use Rattle.flow_operation_refinement.specs.Matching.{shows, ends}
use Rattle.flow_step_refinement.specs.Resuming.{NoStaleWaits}
use Rattle.flow_step_refinement.proofs.Resuming.Tasks.{task_keeps}
use Rattle.flow_burst_refinement.specs.Invariants.Allowed.{IsValidCode}
use Rattle.flow_burst_refinement.proofs.Invariants.Stays.{task_stays}
use Rattle.flow_burst_refinement.specs.Enabled.Tasking.{IsProgram}
use Rattle.flow_burst_refinement.specs.Bursts.{HostKeepsTime, RepresentsInWorld, TaskGoes, by_itself, by_the_world}
use Rattle.flow_burst_refinement.proofs.Bursts.Rows.{in_then, ServedThen, lives_on, is_spent, served_then}
use Rattle.flow_burst_refinement.proofs.Programs.Goes.{branches_of, program_goes}
use Rattle.flow_machine_progress.specs.Stores.{NoPromiseStored}
use Rattle.flow_machine_progress.proofs.Stores.Tasks.{task_stores}
use Rattle.flow_machine_progress.proofs.Stores.Served.{served_stores}
use Rattle.flow_machine_progress.specs.Bursts.NeverStuck as law
use Rattle.flow_machine_progress.proofs.Bursts.Brought.{spent_asks, spent_tasks, spent_well}
use Rattle.flow_steps.proofs.Amiss.{is_none}
use Rattle.flow_machine_progress.proofs.Bursts.Draws.{draw_stored}
use Rattle.flow_machine_progress.proofs.Bursts.Tasks.{task_sure}

module _ {A W : Type 0} (serves : Host W) (shown_by : A → Numbered ℕ → W → Type 0) (wrote broke : A → List Line → A → Type 0) (code : Code) (processes : ℕ) (r : RawTree)
    (program : IsProgram r code) where
  abbrev In : List Line → Process → A → Proc Frame → W → Type 0
  In ls m a p w = RepresentsInWorld serves shown_by wrote code processes r ls m a p w

  run : IsValidCode r code
  run = record { valid = program.whole.valid; coded = program.coded }

  -- Once a task is done that asks nothing, the process is between two tasks again, or the event is spent.
  done_then : (ls : List Line) (m start n : Process) (a : A) (p : Proc Frame) (w : W) (t : stack.Task) → In ls m a p w → TopTaken t m start → IsDone code t start n → is_some n.asked ≡ false
      → ((q : Proc Frame) → In ls n a q w → ⊥) → (n.spent ≡ true → ⊥) → ⊥
  done_then ls m start n a p w t now taken done quiet lives spent = by_goes (program_goes serves shown_by wrote code processes r program ls m start n a p w t now taken done)
    where
      none : n.asked ≡ None
      none = is_none n.asked quiet

      poised : NoStaleWaits n.heap
      poised = task_keeps code t m start n (branches_of r code program) now.between.sorted.frames now.poised taken done

      by_goes : TaskGoes serves shown_by wrote code processes r ls n a p w → ⊥
      by_goes (by_itself q reach (shows s) is ports) =
          lives q (in_then serves shown_by wrote code processes r run ls m n a p q w now (task_stays code t m start n now.asked taken done) poised reach s none ports)
      by_goes (by_itself q reach (ends s) is ports) = spent s.spent
      by_goes (by_the_world q reach world) = absurd (no_thing (sym none ∙ world.asked))

  pub tasks_sure : (ls : List Line) (m : Process) (a : A) (p : Proc Frame) (w : W) → In ls m a p w → NoPromiseStored m.heap → TasksStuck code m → ⊥
  tasks_sure ls m a p w now stores (task_now _ start t un taken stuck) = task_sure r code ls m start p t program now.between now.poised stores now.asked now.clock taken stuck
  tasks_sure ls m a p w now stores (task_later _ start between t un taken done quiet more) =
      done_then ls m start between a p w t now taken done quiet (λ q here_now. tasks_sure ls between a q w here_now (task_stores code t m start between stores taken done) more)
      (λ s. spent_tasks code between s more)

  -- What the last of the tasks asks is served.
  asks_sure : (ls : List Line) (m n : Process) (e : Next) (a : A) (p : Proc Frame) (w : W) → In ls m a p w → Tasks code m e n → e ≡ next.Asks → ServingStuck n.asked → ⊥
  asks_sure ls m n e a p w now (all_spent _ s) is stuck = cc (is)
  asks_sure ls m n e a p w now (no_task _ un none) is stuck = cc (is)
  asks_sure ls m n e a p w now (task_asks _ start _ t un taken done some) is stuck =
      draw_stored r code program ls m p now.between now.poised now.asked now.clock t start n taken done stuck
  asks_sure ls m n e a p w now (task_done _ start between _ t _ un taken done quiet more) is stuck =
      done_then ls m start between a p w t now taken done quiet (λ q here_now. asks_sure ls between n e a q w here_now more is stuck) (λ s. spent_asks code between n e s more is)

  -- No task of them stores a promise, before and after they are done, nor once what the last of them asked is served.
  tasks_store : (m n : Process) (e : Next) → NoPromiseStored m.heap → Tasks code m e n → NoPromiseStored n.heap
  tasks_store m n e stores (all_spent _ s) = stores
  tasks_store m n e stores (no_task _ un none) = stores
  tasks_store m n e stores (task_asks _ start _ t un taken done some) = task_stores code t m start n stores taken done
  tasks_store m n e stores (task_done _ start between _ t _ un taken done quiet more) = tasks_store between n e (task_stores code t m start between stores taken done) more

  served_store : (o : Option Call) (k j : Process) (a b : A) → ServedIf serves shown_by wrote processes o k a j b → NoPromiseStored k.heap → NoPromiseStored j.heap
  served_store None k j a b served stores = subst (λ (z : Process). NoPromiseStored z.heap) (sym served.0) stores
  served_store (Some c) k j a b served stores = served_stores serves shown_by wrote processes c k j a b served stores

  pub burst_sure : HostKeepsTime serves → (ls : List Line) (m : Process) (a b : A) (f : RunFault) (p : Proc Frame) (w : W) → In ls m a p w → NoPromiseStored m.heap
      → BreaksOff serves shown_by wrote broke code processes m a f b → f ≡ Stuck → ⊥
  burst_sure steady ls m a b f p w now stores (no_memory _ _) is = cc (is)
  burst_sure steady ls m a b f p w now stores (gets_stuck _ _ stuck) is = tasks_sure ls m a p w now stores stuck
  burst_sure steady ls m a b f p w now stores (serving _ q _ _ _ tasks part why) is = asks_sure ls m q next.Asks a p w now tasks refl (why is)
  burst_sure steady ls m a b f p w now stores (further _ q j _ d _ _ tasks served more) is =
      by_served (served_then serves shown_by wrote code processes r run (branches_of r code program) steady (program_goes serves shown_by wrote code processes r program) ls m q j a d p w now tasks
      served)
      (λ ks t u here_now. burst_sure steady ks j d b f t u here_now (served_store q.asked (unasked q) j a d served (tasks_store m q next.Asks stores tasks)) more is)
    where
      by_served : ServedThen serves shown_by wrote code processes r run ls a p w j d → ((ks : List Line) (t : Proc Frame) (u : W) → In ks j d t u → ⊥) → ⊥
      by_served (lives_on ks t u reach said here_now) rest = rest (ls ++ ks) t u here_now
      by_served (is_spent ks t reach said s halted lines) rest = spent_well serves shown_by wrote broke code processes r j d b s
          (subst (λ g. BreaksOff serves shown_by wrote broke code processes j d g b) is more)

pub all_tasks_sure : {A W : Type 0} (serves : Host W) (shown_by : A → Numbered ℕ → W → Type 0) (wrote broke : A → List Line → A → Type 0) (code : Code) (processes : ℕ) (r : RawTree)
    → law.TasksNeverStuck serves shown_by wrote broke code processes r
all_tasks_sure serves shown_by wrote broke code processes r program ls m a p w now stores stuck = tasks_sure serves shown_by wrote broke code processes r program ls m a p w now stores stuck

pub all_bursts_sure : {A W : Type 0} (serves : Host W) (shown_by : A → Numbered ℕ → W → Type 0) (wrote broke : A → List Line → A → Type 0) (code : Code) (processes : ℕ) (r : RawTree)
    → law.BurstNeverStuck serves shown_by wrote broke code processes r
all_bursts_sure serves shown_by wrote broke code processes r program steady ls m a b p w now stores off =
    burst_sure serves shown_by wrote broke code processes r program steady ls m a b Stuck p w now stores off refl
