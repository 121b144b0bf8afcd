-- Each step of a process that fits leaves each cell with a reference, and each unmarked actor with a future of its result.
use Rattle.std.proofs.Common.{◌≡◌, ℕ, List, [], ◌∷◌, refl, subst}
use Rattle.std.specs.declared.option.Option.{Option}
use Rattle.std.specs.declared.option.Option.TheVariants.{None, Some}
use Rattle.flow_tree.specs.Decls.{RoutineTree}
use Rattle.flow_class.specs.Classes.{RawTree}
use Rattle.flow_numbered.specs.Numbered.{Numbered, thing}
use Rattle.flow_meaning.specs.Requests.{Supply}
use Rattle.flow_meaning.specs.Process.{Task, Run, Give, Throw, Catch, Store, Keep, Close, Fire, Drop, Entry, Halt, Core, Proc}
use Rattle.flow_meaning.specs.Orderly.{Orderly}
use Rattle.flow_meaning.specs.Step.{Stepped, proc, step_tasks, step_if, step}
use Rattle.flow_meaning.specs.Frame.{Frame}
use Rattle.flow_meaning.specs.Class.{classes}
use Rattle.flow_meaning.proofs.Posture.{Unless}
use Rattle.flow_heap_refinement.specs.CellsTied.{CellsTied}
use Rattle.flow_heap_refinement.specs.Rested.{IsUnset}
use Rattle.flow_progress.specs.Rules.{ClassRules}
use Rattle.flow_progress.specs.Alone.{ResultsAlone}
use Rattle.flow_progress.specs.Fitting.{CellTypes, ProcessFits}
use Rattle.flow_invariants.proofs.Referenced.Onward.{Refers}
use Rattle.flow_invariants.proofs.Referenced.Steps.{catch_refers, give_refers, store_refers, throw_refers}
use Rattle.flow_invariants.proofs.Referenced.Ends.{keep_refers}
use Rattle.flow_invariants.proofs.Referenced.Drops.{drop_refers}
use Rattle.flow_invariants.proofs.Referenced.Fires.{fire_refers}
use Rattle.flow_invariants.proofs.Referenced.Closes.{close_refers}
use Rattle.flow_invariants.proofs.Referenced.Runs.{run_refers}

-- the results of unfinished actors are unset
abbrev pub ResultsUnset : Core → Type 0
ResultsUnset c = (i j : ℕ) (e : Entry) → thing c.entries i ≡ Some e → e.result ≡ Some j → IsUnset (thing c.cells j)

module _ (k : ℕ) (r : RawTree) (actors : List RoutineTree) (rules : ClassRules r actors) (s : Supply) where
  abbrev MaybeRefers : Option (Stepped Frame) → Type 0
  MaybeRefers None = Unit {0}
  MaybeRefers (Some q) = Unless (λ d. Refers k d q.0.actors) q.0.core

  module _ (types : CellTypes) (c : Core) (xs : Numbered Frame) (o : Orderly c) (p : ProcessFits r types c xs) (t : CellsTied c) (results : ResultsAlone c xs) (unset : ResultsUnset c)
      (h : Refers k c xs) where
    by_tasks : (ts : List Task) → c.tasks ≡ ts → MaybeRefers (step_tasks (classes r) s ts (proc c xs))
    by_tasks [] e = tt
    by_tasks (Run i ∷ ts) e = run_refers k r s types c xs o p t ts h i e
    by_tasks (Give i b v ∷ ts) e = give_refers k r actors rules types c xs o p t ts h i b v e
    by_tasks (Throw i err ∷ ts) e = throw_refers k r actors rules types c xs o p t ts h i err e
    by_tasks (Catch i err ∷ ts) e = catch_refers k r actors rules types c xs o p t ts h i err e
    by_tasks (Store i v ∷ ts) e = store_refers k r actors rules types c xs o p t ts h i v e
    by_tasks (Keep i spot q ∷ ts) e = keep_refers k r actors rules types c xs o p t ts h i spot q e
    by_tasks (Close i v ∷ ts) e = close_refers k r types c xs o p t results ts h i v e (λ j x. unset i j x)
    by_tasks (Fire j ∷ ts) e = fire_refers k r types c xs o p t results ts h j e
    by_tasks (Drop kd j ∷ ts) e = drop_refers k r types c xs o p t results ts h kd j e

    by_halt : (x : Option Halt) → MaybeRefers (step_if (classes r) s x (proc c xs))
    by_halt (Some x) = tt
    by_halt None = by_tasks c.tasks refl

  pub step_refers : (types : CellTypes) (p : Proc Frame) (q : Stepped Frame) → Orderly p.core → ProcessFits r types p.core p.actors → CellsTied p.core → ResultsAlone p.core p.actors
      → ResultsUnset p.core → Refers k p.core p.actors → step (classes r) s p ≡ Some q
      → Unless (λ d. Refers k d q.0.actors) q.0.core
  step_refers types p q o f t results unset h e = subst MaybeRefers e (by_halt types p.core p.actors o f t results unset h p.core.halted)
