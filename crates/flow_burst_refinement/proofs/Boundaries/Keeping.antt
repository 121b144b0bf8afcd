-- What each process of a run of valid classes keeps where an event of it begins.
use Rattle.std.proofs.Common.{◌≡◌, ℕ, ◌<◌, true, List, refl, ap, arith}
use Rattle.std.specs.declared.option.Option.{Option}
use Rattle.std.specs.declared.option.Option.TheVariants.{None, Some}
use Rattle.flow_timers.specs.Pending.{Pending}
use Rattle.flow_value.specs.declared.value.Kind.TheVariants as kind
use Rattle.flow_class.specs.Classes.{RawTree}
use Rattle.flow_numbered.specs.Numbered.{thing}
use Rattle.flow_meaning.specs.Cells.{Cell, Single, Stream}
use Rattle.flow_meaning.specs.Process.{Halt, Proc}
use Rattle.flow_meaning.specs.Orderly.{UnlessStopped}
use Rattle.flow_meaning.specs.Outside.{What}
use Rattle.flow_meaning.specs.World.{ready}
use Rattle.flow_meaning.specs.Frame.{Frame}
use Rattle.flow_progress.specs.Rules.{ClassRules}
use Rattle.flow_progress.specs.Written.{heads}
use Rattle.flow_progress.proofs.Functions.{functions_kept}
use Rattle.flow_progress.proofs.KeptClasses.{class_rules}
use Rattle.flow_progress.proofs.StepsKept.{steps_keep}
use Rattle.flow_progress.proofs.Valid.{leads_on}
use Rattle.flow_heap_refinement.specs.Rested.{has, IsUnset}
use Rattle.flow_invariants.specs.Fitting.Due.{due}
use Rattle.flow_invariants.specs.Fitting.Among.{FitsAmong}
use Rattle.flow_invariants.specs.Fitting.Laws.{AreValid}
use Rattle.flow_invariants.proofs.Fitting.Dues.{due_here, has_request}
use Rattle.flow_invariants.proofs.Fitting.Living.{Meant}
use Rattle.flow_invariants.proofs.Fitting.Worlds.{starts_fit}
use Rattle.flow_invariants.proofs.Fitting.Events.{event_begins, at_process, event_kept}
use Rattle.flow_invariants.specs.Owned.{Unset}
use Rattle.flow_invariants.proofs.Invariant.{in_place, none_ran, begun_so, after_event}
use Rattle.flow_invariants.proofs.Owned.Worlds.{CellsUnset, idle_unset, keeps_unset}
use Rattle.flow_operation_refinement.specs.Working.{Sendable}
use Rattle.flow_burst_refinement.specs.Invariants.Invariant.{ProcessInvariant}
use Rattle.flow_burst_refinement.proofs.Invariants.Keeping.{among_kept}
use Rattle.flow_burst_refinement.specs.Boundaries.Boundaries as law
use Rattle.flow_burst_refinement.specs.Boundaries.Boundaries.{WorldKeeps, process_at}

pub start_keeps : (r : RawTree) → law.StartKeeps r
start_keeps r w range = record { fits = starts_fit r w range; unset = none_ran CellsUnset w.processes idle_unset }

-- a single result that is unset can be set
unset_sendable : (p : Proc Frame) (k : ℕ) (o : Option Cell) → thing p.core.cells k ≡ o → IsUnset o → Sendable p kind.Promise k
unset_sendable p k (Some (Single None ws)) at h = record { cell = Single None ws; at = at; right = tt; incomplete = refl }
unset_sendable p k (Some (Single (Some x) ws)) at h = absurd h
unset_sendable p k (Some (Stream q e w)) at h = absurd h
unset_sendable p k None at h = absurd h

module _ (r : RawTree) (v : AreValid r) where
  rules : ClassRules r (heads r)
  rules = class_rules r v.valid v.written (functions_kept r v.valid v.functions)

  pub event_keeps : law.EventKeeps r
  event_keeps w b l k g q go = record {
    fits = event_kept r v.valid (heads r) rules (leads_on r v.valid) (steps_keep r v.valid (heads r) rules) w b l k.fits g q go;
    unset = after_event r v CellsUnset CellsUnset (keeps_unset r) w b l k.fits k.unset g q go;
  }

  fits_at : (w : _) (n : ℕ) → WorldKeeps r w → n < w.out.file.processes → FitsAmong r n w.out.events.pending (ready w n).proc
  fits_at w n k lt = at_process r v.valid (heads r) rules (leads_on r v.valid) (steps_keep r v.valid (heads r) rules) w n k.fits lt

  pub ready_kept : law.ReadyKept r
  ready_kept w n k lt = among_kept r n w.out.events.pending (ready w n).proc (fits_at w n k lt) (in_place CellsUnset w.places n idle_unset k.unset)

  both : (n : ℕ) (events : List (Pending What)) (p : Proc Frame) (h : Option Halt) → Meant h (FitsAmong r n events p) → UnlessStopped h (Unset p.core) → UnlessStopped h (ProcessInvariant r p)
  both n events p None f u = among_kept r n events p f u
  both n events p (Some x) f u = tt

  pub begun_kept : law.BegunKept r
  begun_kept w b k g =
      let s = event_begins r v.valid (heads r) rules (leads_on r v.valid) (steps_keep r v.valid (heads r) rules) w b k.fits g in
      let u = begun_so r v CellsUnset CellsUnset (keeps_unset r) w k.fits k.unset b g in
      both s.process b.out.events.pending b.place.proc b.place.proc.core.halted s.good.own u

  pub answer_due : law.AnswerDue r
  answer_due w n k x left keeps lt e own =
      let c = (process_at w n).core in
      let f = fits_at w n keeps lt in
      let a = due_here n k x left own in
      let b = ap (due n k) e in
      let m = f.awaited k in
      let there : has k c.requests ≡ true = has_request k c.requests (omega (arith, a, b, m)) in
      (there, unset_sendable (process_at w n) k (thing c.cells k) refl (in_place CellsUnset w.places n idle_unset keeps.unset k (omega (arith, a, b, m))))
