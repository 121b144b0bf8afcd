-- Each task of an actor, but its end, keeps a process fitting.
use Rattle.std.proofs.Common.{◌≡◌, List, ◌∷◌, refl, sym, subst}
use Rattle.std.specs.declared.option.Option.TheVariants.{None}
use Rattle.flow_tree.specs.Decls.{RoutineTree}
use Rattle.flow_class.specs.Classes.{RawTree}
use Rattle.flow_numbered.specs.Numbered.{Numbered}
use Rattle.flow_meaning.specs.Requests.{Supply}
use Rattle.flow_meaning.specs.Process.{Task, Run, Give, Throw, Catch, Store, Keep, Core}
use Rattle.flow_meaning.specs.Orderly.{Orderly}
use Rattle.flow_meaning.specs.Step.{proc, step_tasks, step_if}
use Rattle.flow_meaning.specs.Frame.{Frame}
use Rattle.flow_meaning.specs.Class.{classes}
use Rattle.flow_progress.specs.Rules.{ClassRules}
use Rattle.flow_progress.specs.Fitting.{CellTypes, ProcessFits}
use Rattle.flow_progress.specs.Keeping.{IsFine, IsOfActor, ActorsKeepFitting}
use Rattle.flow_progress.proofs.RunFits.{run_fits}
use Rattle.flow_progress.proofs.TasksFitOn.{give_fits, store_keeps, catch_fits, throw_fits, keep_fits}

module _ (r : RawTree) (actors : List RoutineTree) (rules : ClassRules r actors) (s : Supply) (c : Core) (xs : Numbered Frame) (o : Orderly c) (go : c.halted ≡ None) (types : CellTypes)
    (p : ProcessFits r types c xs) where
  pub by_tasks : (ts : List Task) → c.tasks ≡ ts → IsOfActor ts → IsFine r types (step_tasks (classes r) s ts (proc c xs))
  by_tasks (Run i ∷ ts) e h = run_fits r actors rules s types i ts c xs o go e p
  by_tasks (Give i b v ∷ ts) e h = give_fits r actors rules s types i ts c xs o go p b v e
  by_tasks (Throw i err ∷ ts) e h = throw_fits r actors rules s types i ts c xs o go p err e
  by_tasks (Catch i err ∷ ts) e h = catch_fits r actors rules s types i ts c xs o go p err e
  by_tasks (Store i v ∷ ts) e h = store_keeps r actors rules s types i ts c xs o go p v e
  by_tasks (Keep i spot q ∷ ts) e h = keep_fits r actors rules s types i ts c xs o go p spot q e
  by_tasks _ e h = absurd h

pub actors_keep : (r : RawTree) (actors : List RoutineTree) → ClassRules r actors → ActorsKeepFitting r
actors_keep r actors rules s types p o go f h =
    subst (λ x. IsFine r types (step_if (classes r) s x p)) (sym go) (by_tasks r actors rules s p.core p.actors o go types f p.core.tasks refl h)
