-- The burst of an event that was brought to a process in memory is a burst of the class machine.
use Rattle.std.proofs.Common.{◌≡◌, ◌⊎◌, inl, inr, ℕ, true, false, List, [], ◌∷◌, ◌++◌, refl, sym, ap, subst, ◌∙◌}
use Rattle.std.specs.Prelude.{Bool, pos}
use Rattle.std.specs.declared.option.Option.TheVariants.{None}
use Rattle.flow_class.specs.Classes.{RawTree}
use Rattle.flow_code.specs.declared.program.Code.{Code}
use Rattle.flow_trace.specs.declared.line.Line.{Line}
use Rattle.flow_numbered.specs.Numbered.{Numbered}
use Rattle.flow_meaning.specs.Process.{Proc, Spent}
use Rattle.flow_meaning.specs.Burst.{Host}
use Rattle.flow_meaning.specs.Frame.{Frame}
use Rattle.flow_steps.specs.declared.process.Next.{Next}
use Rattle.flow_steps.specs.declared.process.Next.TheVariants as next
use Rattle.flow_steps.specs.declared.process.Process.{Process}
use Rattle.flow_steps.specs.Tasks.{Tasks, all_spent, no_task, task_asks, task_done}
use Rattle.flow_steps.specs.Evaluating.{program_time}
use Rattle.flow_machine.specs.declared.host.Burst.{Burst}
use Rattle.flow_machine.specs.declared.host.Burst.TheVariants as burst
use Rattle.flow_machine.specs.Bursts.{Bursts, rests, runs_out, asks}
use Rattle.flow_operation_refinement.specs.Matching.{told, AreSpent}
use Rattle.flow_burst_refinement.specs.Invariants.Allowed.{BetweenTasks}
use Rattle.flow_burst_refinement.specs.Bursts.{SimulatesBurst, no_line}
use Rattle.flow_burst_refinement.proofs.Bursts.Reached.{stopped_rests}
use Rattle.flow_burst_refinement.proofs.Boundaries.Bringing.{burst_begins}
use Rattle.flow_burst_refinement.proofs.Programs.Goes.{program_follows}
use Rattle.flow_burst_refinement.specs.Programs.Delivering as law

both_ways : {b : Bool} → b ≡ true → b ≡ false → ⊥
both_ways e f = cc

-- a spent event goes on with nothing
spent_tasks : (code : Code) (m n : Process) (e : Next) → m.spent ≡ true → Tasks code m e n → (e ≡ next.Spent) × (n ≡ m)
spent_tasks code m n e s (all_spent _ t) = (refl, refl)
spent_tasks code m n e s (no_task _ un none) = absurd (both_ways s un)
spent_tasks code m n e s (task_asks _ start _ t un taken done some) = absurd (both_ways s un)
spent_tasks code m n e s (task_done _ start between _ t _ un taken done none more) = absurd (both_ways s un)

and_nothing : (ls : List Line) → ls ++ [] ≡ ls
and_nothing [] = refl
and_nothing (l ∷ ls) = ap (λ k. l ∷ k) (and_nothing ls)

module _ {A W : Type 0} (serves : Host W) (shows : A → Numbered ℕ → W → Type 0) (wrote : A → List Line → A → Type 0) (code : Code) (processes : ℕ) (r : RawTree) where
  -- nothing is left to do in either
  nothing_more : (m : Process) (a : A) (p : Proc Frame) (w : W) → AreSpent [] m p → m.asked ≡ None → SimulatesBurst serves shows wrote code processes r [] a p w burst.Spent m a
  nothing_more m a p w are none = record {
    after = p;
    out = w;
    lines = [];
    bursts = stopped_rests serves r p w Spent are.halted;
    written = no_line a;
    ends = (are.spent, are.halted, are.lines ∙ ap (λ z. [] ++ told z) none);
  }

  spent_follows : (m n : Process) (a b : A) (p : Proc Frame) (w : W) (e : Burst) → AreSpent [] m p → m.asked ≡ None → Bursts serves shows wrote code processes m a e n b
      → SimulatesBurst serves shows wrote code processes r [] a p w e n b
  spent_follows m n a b p w _ are none (rests _ _ _ tasks) = let x = (spent_tasks code m n next.Rested are.spent tasks).0 in absurd cc
  spent_follows m n a b p w _ are none (runs_out _ _ _ tasks) =
      let x = (spent_tasks code m n next.Spent are.spent tasks).1 in
      subst (λ (k : Process). SimulatesBurst serves shows wrote code processes r [] a p w burst.Spent k a) (sym x) (nothing_more m a p w are none)
  spent_follows m n a b p w e are none (asks _ k j _ _ d _ _ tasks served more) = let x = (spent_tasks code m k next.Asks are.spent tasks).0 in absurd cc

  pub event_follows : law.EventFollows serves shows wrote code processes r
  event_follows program steady now m n a b p w e is kept around bursts = by_begin (burst_begins r now m p is kept)
    where
      by_begin : BetweenTasks r [] m p ⊎ AreSpent [] m p → SimulatesBurst serves shows wrote code processes r [] a p w e n b
      by_begin (inl between) =
          program_follows serves shows wrote code processes r program steady [] m n a b p w e
          (record {
            between = between;
            asked = is.asked;
            world = around.shown;
            time = is.time ∙ around.time;
            clock = subst (λ t. program_time t ≡ pos t) (sym is.time) around.clock;
            among = around.among;
            poised = is.poised;
          }) bursts
      by_begin (inr are) = spent_follows m n a b p w e are is.asked bursts

  pub event_rests : law.EventRests serves shows wrote code processes r
  event_rests n a b p w f =
      let last = f.ends.0 in
      let s = last.between.shown in
      record {
        resting = record { shown = record { holds = s.holds; asked = last.asked }; sorted = last.between.sorted; poised = last.poised };
        goes = s.goes;
        tasks = f.ends.1;
        lines = s.lines ∙ ap (λ o. f.lines ++ told o) last.asked ∙ and_nothing f.lines;
        world = last.world;
      }
