-- What is brought to a process at the begin of an event doesn't go astray, nor does the burst that follows.
use Rattle.std.proofs.Common.{◌≡◌, ◌⊎◌, inl, inr, ℕ, Bool, true, false, List, [], ◌∷◌, if◌then◌else◌, refl, sym, ap, ◌∙◌, subst}
use Rattle.std.proofs.lemmas.Bool.{false≢true}
use Rattle.std.specs.Prelude.{pos, nat_eq, ◌||◌}
use Rattle.flow_value.specs.declared.value.Kind.TheVariants as kind
use Rattle.flow_value.specs.declared.value.Outcome.TheVariants as outcome
use Rattle.flow_class.specs.Classes.{RawTree}
use Rattle.flow_code.specs.declared.program.Code.{Code}
use Rattle.flow_trace.specs.declared.line.Line.{Line}
use Rattle.flow_cancel.specs.Heap.{has_number}
use Rattle.flow_cancel.proofs.Noted.{at_number}
use Rattle.flow_meaning.specs.Burst.{Host}
use Rattle.flow_meaning.specs.Deliver.{begin, closed_request}
use Rattle.flow_meaning.specs.Frame.{Frame}
use Rattle.flow_numbered.specs.Numbered.{Numbered}
use Rattle.flow_meaning.specs.Process.{Drop, Proc}
use Rattle.flow_meaning.specs.Step.{on_core}
use Rattle.flow_meaning.specs.Work.{pushed}
use Rattle.flow_heap_refinement.specs.Counted.{nothing_in_hand}
use Rattle.flow_heap_refinement.specs.Rested.{has}
use Rattle.flow_steps.specs.declared.process.Next.{Next}
use Rattle.flow_steps.specs.declared.process.Next.TheVariants as next
use Rattle.flow_steps.specs.declared.process.Process.{Process}
use Rattle.flow_steps.specs.Doing.{begun}
use Rattle.flow_steps.specs.Holding.{outcome_refs}
use Rattle.flow_steps.specs.Delivering.{answered}
use Rattle.flow_steps.specs.Evaluating.{program_time}
use Rattle.flow_steps.specs.Tasks.{Tasks, all_spent, no_task, task_asks, task_done}
use Rattle.flow_steps.specs.StuckTasks.{TasksStuck, task_now, task_later}
use Rattle.flow_machine.specs.declared.host.RunFault.{RunFault}
use Rattle.flow_machine.specs.declared.host.RunFault.TheVariants.{Stuck}
use Rattle.flow_machine.specs.Breaking.{BreaksOff, no_memory, gets_stuck, serving, further, BringingBreaksOff, unbrought, bringing_stuck, is_brought}
use Rattle.flow_operation_refinement.specs.Matching.{AreSpent}
use Rattle.flow_operation_refinement.proofs.Brought.{all_there_by, request_follows}
use Rattle.flow_step_refinement.proofs.Effects.Brings.{event_begins}
use Rattle.flow_burst_refinement.specs.Invariants.Allowed.{BetweenTasks}
use Rattle.flow_burst_refinement.proofs.Boundaries.Bringing.{burst_begins}
use Rattle.flow_machine_progress.proofs.Lookups.Closing.{bring_found}
use Rattle.flow_machine_progress.specs.Bursts.Delivering as law

-- a number that is among others
among : (k : ℕ) (ks : List ℕ) → has k ks ≡ has_number ks k
among k [] = refl
among k (x ∷ xs) = rw (at_number k x) (by_test (nat_eq k x) (among k xs))
  where
    by_test : (b : Bool) → has k xs ≡ has_number xs k → (if b then true else has k xs) ≡ (b || has_number xs k)
    by_test true e = refl
    by_test false e = e

module _ (r : RawTree) (m : Process) (p : Proc Frame) (now turns : ℕ) where
  abbrev start : Process
  start = begun now turns m

  abbrev begins : Proc Frame
  begins = on_core (begin turns) p

  pub answer_well : law.AnswerNeverStuck r m p now turns
  answer_well k o rest is_open to there (inl closed) =
      let same = among k p.core.requests ∙ ap (λ ks. has_number ks k) rest.shown.holds.shows.requests in false≢true (sym closed ∙ sym same ∙ is_open)
  answer_well k o rest is_open to there (inr stuck) =
      let s = request_follows r [] nothing_in_hand start begins k (event_begins r m p now turns rest.shown) is_open in
      let q : Proc Frame = on_core (λ c. pushed (Drop kind.Promise k) (record c { requests = closed_request k c.requests })) begins in
      bring_found r nothing_in_hand (answered k start.heap) q kind.Promise k to.cell o s.holds (all_there_by p q (outcome_refs o) refl there) to.at to.right to.incomplete stuck

  pub element_well : law.ElementNeverStuck r m p now turns
  element_well k v rest to there stuck =
      let s = event_begins r m p now turns rest.shown in
      bring_found r nothing_in_hand start.heap begins kind.PromiseStream k to.cell (outcome.Value v) s.holds
      (all_there_by p begins (outcome_refs (outcome.Value v)) refl there) to.at to.right to.incomplete stuck

-- a spent event goes on with nothing
pub both_ways : {b : Bool} → b ≡ true → b ≡ false → ⊥
both_ways e f = cc

pub spent_asks : (code : Code) (m n : Process) (e : Next) → m.spent ≡ true → Tasks code m e n → e ≡ next.Asks → ⊥
spent_asks code m n e s (all_spent _ t) asks = cc (asks)
spent_asks code m n e s (no_task _ un none) asks = both_ways s un
spent_asks code m n e s (task_asks _ first _ t un taken done some) asks = both_ways s un
spent_asks code m n e s (task_done _ first between _ t _ un taken done none more) asks = both_ways s un

pub spent_tasks : (code : Code) (m : Process) → m.spent ≡ true → TasksStuck code m → ⊥
spent_tasks code m s (task_now _ first t un taken stuck) = both_ways s un
spent_tasks code m s (task_later _ first between t un taken done none more) = both_ways s un

module _ {A W : Type 0} (serves : Host W) (shows : A → Numbered ℕ → W → Type 0) (wrote broke : A → List Line → A → Type 0) (code : Code) (processes : ℕ) (r : RawTree) where
  spent_by : (f : RunFault) (m : Process) (a b : A) → m.spent ≡ true → f ≡ Stuck → BreaksOff serves shows wrote broke code processes m a f b → ⊥
  spent_by f m a b s is (no_memory _ _) = cc (is)
  spent_by f m a b s is (gets_stuck _ _ stuck) = spent_tasks code m s stuck
  spent_by f m a b s is (serving _ q _ _ _ tasks some so) = spent_asks code m q next.Asks s tasks refl
  spent_by f m a b s is (further _ q k _ c _ _ tasks served more) = spent_asks code m q next.Asks s tasks refl

  pub spent_well : law.SpentNeverStuck serves shows wrote broke code processes r
  spent_well m a b s breaks = spent_by Stuck m a b s refl breaks

  pub brought_well : law.DeliveredNeverStuck serves shows wrote broke code processes r
  brought_well program steady sure now m a b p w is stored kept around off = by_begin (burst_begins r now m p is kept)
    where
      by_begin : BetweenTasks r [] m p ⊎ AreSpent [] m p → ⊥
      by_begin (inl between) =
          sure program steady [] m a b p w
          (record {
            between = between;
            asked = is.asked;
            world = around.shown;
            time = is.time ∙ around.time;
            clock = subst (λ t. program_time t ≡ pos t) (sym is.time) around.clock;
            among = around.among;
            poised = is.poised;
          }) stored off
      by_begin (inr are) = spent_well m a b are.spent off

  -- so what is brought and what follows of it, where bringing goes well
  pub bringing_well : (stuck : Type 0) → (stuck → ⊥) → (m : Process) (a b : A) → (BreaksOff serves shows wrote broke code processes m a Stuck b → ⊥)
      → BringingBreaksOff serves shows wrote broke code processes stuck m a Stuck b → ⊥
  bringing_well stuck never m a b none breaks = by_fault Stuck b refl none breaks
    where
      by_fault : (f : RunFault) (c : A) → f ≡ Stuck → (BreaksOff serves shows wrote broke code processes m a Stuck c → ⊥) → BringingBreaksOff serves shows wrote broke code processes stuck m a f c → ⊥
      by_fault f c e none unbrought = cc (e)
      by_fault f c e none (bringing_stuck got_stuck) = never got_stuck
      by_fault f c e none (is_brought _ _ off) = none (subst (λ g. BreaksOff serves shows wrote broke code processes m a g c) e off)
