-- Each step keeps a process fitting, where what is owned is owned alone.
use Rattle.std.proofs.Common.{◌≡◌, List, [], ◌∷◌, refl, sym, subst}
use Rattle.std.specs.declared.option.Option.TheVariants.{None, Some}
use Rattle.flow_tree.specs.Decls.{RoutineTree}
use Rattle.flow_class.specs.Classes.{RawTree}
use Rattle.flow_numbered.specs.Numbered.{Numbered}
use Rattle.flow_meaning.specs.Requests.{Supply}
use Rattle.flow_meaning.specs.Process.{Task, Run, Give, Throw, Catch, Store, Keep, Close, Fire, Drop, Core}
use Rattle.flow_meaning.specs.Orderly.{Orderly}
use Rattle.flow_meaning.specs.Step.{proc, close_actor, step_tasks, step_if}
use Rattle.flow_meaning.specs.Frame.{Frame}
use Rattle.flow_meaning.specs.Class.{classes}
use Rattle.flow_meaning.proofs.Shifts.{close_of}
use Rattle.flow_progress.specs.Rules.{ClassRules}
use Rattle.flow_progress.specs.Fitting.{CellTypes, ProcessFits}
use Rattle.flow_progress.specs.Keeping.{IsFine}
use Rattle.flow_progress.specs.Alone.{PortsAlone, ResultsAlone, StepsKeepFitting}
use Rattle.flow_valid.specs.Validity.{IsValid}
use Rattle.flow_progress.proofs.Aparts.{ends_apart}
use Rattle.flow_progress.proofs.Ones.{ports_gone, results_gone}
use Rattle.flow_progress.proofs.StepFits.{actor_here}
use Rattle.flow_progress.proofs.ActorsFit.{by_tasks}
use Rattle.flow_progress.proofs.Fires.{drop_fits, fire_fits}
use Rattle.flow_progress.proofs.Closes.{close_fits}

module _ (r : RawTree) (valid : IsValid r) (actors : List RoutineTree) (rules : ClassRules r actors) (s : Supply) (c : Core) (xs : Numbered Frame) (o : Orderly c) (go : c.halted ≡ None)
    (types : CellTypes) (p : ProcessFits r types c xs) (ports : PortsAlone c xs) (results : ResultsAlone c xs) where
  all_tasks : (ts : List Task) → c.tasks ≡ ts → IsFine r types (step_tasks (classes r) s ts (proc c xs))
  all_tasks [] e = tt
  all_tasks (Run i ∷ ts) e = by_tasks r actors rules s c xs o go types p (Run i ∷ ts) e tt
  all_tasks (Give i b v ∷ ts) e = by_tasks r actors rules s c xs o go types p (Give i b v ∷ ts) e tt
  all_tasks (Throw i err ∷ ts) e = by_tasks r actors rules s c xs o go types p (Throw i err ∷ ts) e tt
  all_tasks (Catch i err ∷ ts) e = by_tasks r actors rules s c xs o go types p (Catch i err ∷ ts) e tt
  all_tasks (Store i v ∷ ts) e = by_tasks r actors rules s c xs o go types p (Store i v ∷ ts) e tt
  all_tasks (Keep i spot q ∷ ts) e = by_tasks r actors rules s c xs o go types p (Keep i spot q ∷ ts) e tt
  all_tasks (Close i v ∷ ts) e =
      let a = actor_here r types i (Close i v) ts c xs o e (close_of i v) p in
      subst (λ x. IsFine r types (Some (close_actor (classes r) i v x (proc (record c { tasks = ts }) xs)))) (sym a.at)
      (close_fits r types i v ts c xs o go e p (results_gone c xs results (ends_apart r valid types c xs p o)) a)
  all_tasks (Fire k ∷ ts) e = fire_fits r types c xs p o go (ports_gone c xs ports) k ts e
  all_tasks (Drop kind k ∷ ts) e = drop_fits r types c xs p o go (ports_gone c xs ports) kind k ts e

pub steps_keep : (r : RawTree) → IsValid r → (actors : List RoutineTree) → ClassRules r actors → StepsKeepFitting r
steps_keep r valid actors rules s types p o go f ports results =
    subst (λ x. IsFine r types (step_if (classes r) s x p)) (sym go) (all_tasks r valid actors rules s p.core p.actors o go types f ports results p.core.tasks refl)
