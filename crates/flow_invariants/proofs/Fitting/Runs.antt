-- In each world in range valid classes have one trace.
use Rattle.std.proofs.Common.{◌⊎◌, inl, inr, List, sym, subst}
use Rattle.std.specs.List.{AllByRecursion}
use Rattle.flow_trace.specs.declared.line.Line.{Line}
use Rattle.flow_class.specs.Classes.{RawTree}
use Rattle.flow_meaning.specs.World.{World, at_start}
use Rattle.flow_meaning.specs.Runs.{Runs, ends, spent, event, ClassTrace}
use Rattle.flow_meaning.specs.Frame.{Frame}
use Rattle.flow_meaning.specs.Class.{classes}
use Rattle.flow_progress.specs.Written.{heads}
use Rattle.flow_progress.specs.Rules.{ClassRules}
use Rattle.flow_progress.specs.Existing.{GetsStuck}
use Rattle.flow_progress.proofs.Functions.{functions_kept}
use Rattle.flow_progress.proofs.KeptClasses.{class_rules}
use Rattle.flow_progress.proofs.StepsKept.{steps_keep}
use Rattle.flow_progress.proofs.Valid.{leads_on}
use Rattle.flow_progress.proofs.Existing.{runs_or_strays, one_trace}
use Rattle.flow_invariants.specs.Fitting.Among.{WorldFits}
use Rattle.flow_invariants.specs.Fitting.Laws.{AreValid, EventsKeepFitting, NeverStuck, StatesFit, OneTrace, RunsExist}
use Rattle.flow_invariants.proofs.Fitting.Worlds.{starts_fit}
use Rattle.flow_invariants.proofs.Fitting.Events as events

pub rules_of : (r : RawTree) → AreValid r → ClassRules r (heads r)
rules_of r v = class_rules r v.valid v.written (functions_kept r v.valid v.functions)

module _ (r : RawTree) (sound : AreValid r) where
  rules : ClassRules r (heads r)
  rules = rules_of r sound

  pub events_keep_fitting : EventsKeepFitting r
  events_keep_fitting w b l h e g q go = events.event_kept r sound.valid (heads r) rules (leads_on r sound.valid) (steps_keep r sound.valid (heads r) rules) w b l h g q go

  pub never_gets_stuck : NeverStuck r
  never_gets_stuck w h s = events.never_gets_stuck r sound.valid (heads r) rules (leads_on r sound.valid) (steps_keep r sound.valid (heads r) rules) w h s

  runs_fit : {w : World Frame} {states : List (World Frame)} {lines : List Line} → WorldFits r w → Runs (classes r) w states lines → AllByRecursion (WorldFits r) states
  runs_fit h (ends last e) = tt
  runs_fit h (spent b l e g q s) = tt
  runs_fit {w = w} h (event b l e g q go more) = let k = events_keep_fitting w b l h e g q go in (k, runs_fit k more)

  pub states_fit : StatesFit r
  states_fit w states range run =
      let x = run.1 in
      let start = starts_fit r w range in
      subst (AllByRecursion (WorldFits r)) (sym x.from_start) (start, runs_fit start x.runs)

  pub run_exists : RunsExist r
  run_exists w range = by_found (runs_or_strays r (leads_on r sound.valid) w)
    where
      by_found : ((lines : List Line) × ClassTrace r w lines) ⊎ GetsStuck r (at_start w) → OneTrace (ClassTrace r w)
      by_found (inl x) = record { lines = x.0; is = x.1; only = λ more t. one_trace r (leads_on r sound.valid) w more x.0 t x.1 }
      by_found (inr s) = absurd (never_gets_stuck (at_start w) (starts_fit r w range) s)
