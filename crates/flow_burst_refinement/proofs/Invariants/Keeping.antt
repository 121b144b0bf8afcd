-- Each step keeps what a process has to keep.
use Rattle.std.proofs.Common.{◌≡◌, [], ap, subst}
use Rattle.std.specs.declared.option.Option.{Option}
use Rattle.std.specs.declared.option.Option.TheVariants.{None, Some}
use Rattle.flow_class.specs.Classes.{RawTree}
use Rattle.flow_meaning.specs.Requests.{Supply, Request}
use Rattle.flow_meaning.specs.Process.{Halt, Proc}
use Rattle.flow_meaning.specs.Orderly.{Orderly, UnlessStopped}
use Rattle.flow_meaning.specs.Burst.{Host, live, add_lines, serve, advanced}
use Rattle.flow_meaning.specs.Step.{Stepped, step}
use Rattle.flow_meaning.specs.Class.{classes}
use Rattle.flow_meaning.specs.Frame.{Frame}
use Rattle.flow_meaning.proofs.InOrder.{advance_in_order}
use Rattle.flow_meaning.proofs.Posture.{unless, unless_map}
use Rattle.flow_heap_refinement.specs.CellsTied.{CellsTied}
use Rattle.flow_heap_refinement.specs.Lonely.{OwnedAlone}
use Rattle.flow_heap_refinement.proofs.Lonely.{steps_lonely}
use Rattle.flow_heap_refinement.proofs.TidySteps.{steps_tied}
use Rattle.flow_progress.specs.Keeping.{FineAsking, IsFine}
use Rattle.flow_progress.specs.Written.{heads}
use Rattle.flow_progress.proofs.Functions.{functions_kept}
use Rattle.flow_progress.proofs.KeptClasses.{class_rules}
use Rattle.flow_progress.proofs.StepsKept.{steps_keep}
use Rattle.flow_invariants.proofs.Fitting.Owned.{ports_alone, results_alone}
use Rattle.flow_invariants.specs.Owned.{Unset}
use Rattle.flow_invariants.proofs.Owned.Worlds.{steps_unset}
use Rattle.flow_burst_refinement.specs.Invariants.Invariant as law
use Rattle.flow_burst_refinement.specs.Invariants.Invariant.{ProcessInvariant}

-- a step as one in a world that stays as it is
abbrev still : Supply → Host (Unit {0})
still s = record { supply = λ w. s; serve = λ q w. ([], w) }

step_in_order : (r : RawTree) (s : Supply) (p : Proc Frame) (q : Stepped Frame) → Orderly p.core → step (classes r) s p ≡ Some q → UnlessStopped q.0.core.halted (Orderly q.0.core)
step_in_order r s p q o e =
    by_ask q.1 (advance_in_order (classes r) (still s) (live p tt) (serve (still s) q.1 q.0 tt) (unless p.core.halted o) (ap (advanced (still s) tt) e))
  where
    by_ask : (x : Option Request) → UnlessStopped (serve (still s) x q.0 tt).proc.core.halted (Orderly (serve (still s) x q.0 tt).proc.core) → UnlessStopped q.0.core.halted (Orderly q.0.core)
    by_ask None h = h
    by_ask (Some x) h = unless_map q.0.core.halted (λ (o : Orderly (add_lines [] q.0.core)). record { actors = o.actors; paired = o.paired; waiting = o.waiting; numbered = o.numbered }) h

module _ (r : RawTree) where
  assembled : (p : Proc Frame) (before : _) (ask : Option Request) (h : Option Halt) → UnlessStopped h (Orderly p.core) → UnlessStopped h (CellsTied p.core) → UnlessStopped h (OwnedAlone p)
      → UnlessStopped h (Unset p.core)
      → FineAsking r before ask h p.core p.actors → UnlessStopped h (ProcessInvariant r p)
  assembled p before ask None o t a u f = record { orderly = o; tied = t; alone = a; unset = u; types = f.0; fits = f.1 }
  assembled p before ask (Some h) o t a u f = tt

  pub step_keeps : law.StepKeeps r
  step_keeps s p q v k go e =
      let rules = class_rules r v.valid v.written (functions_kept r v.valid v.functions) in
      let fine : FineAsking r k.types q.1 q.0.core.halted q.0.core q.0.actors =
      subst (IsFine r k.types) e
      (steps_keep r v.valid (heads r) rules s k.types p k.orderly go k.fits (ports_alone p.core p.actors k.tied k.alone) (results_alone p.core p.actors k.tied k.alone)) in
      assembled q.0 k.types q.1 q.0.core.halted (step_in_order r s p q k.orderly e) (steps_tied r s p q k.orderly k.tied e) (steps_lonely r s p q k.orderly k.tied k.alone e)
      (steps_unset r s p q k.orderly k.tied k.alone k.unset e) fine

  pub lines_keep : law.LinesKeep r
  lines_keep ls p k =
      let o = k.orderly in
      let t = k.tied in
      let f = k.fits in record {
        orderly = record { actors = o.actors; paired = o.paired; waiting = o.waiting; numbered = o.numbered };
        tied = record { agree = t.agree; numbers = record { ports = t.numbers.ports; cells = t.numbers.cells; requests = t.numbers.requests }; once = t.once };
        alone = k.alone;
        unset = k.unset;
        types = k.types;
        fits = record {
          cells = f.cells;
          waiting = f.waiting;
          actors = f.actors;
          work = f.work;
          ports = f.ports;
          main = f.main;
          requests = f.requests;
          numbered = f.numbered;
          framed = f.framed;
          registered = f.registered;
        };
      }

  pub among_kept : law.AmongKept r
  among_kept n events p f u = record { orderly = f.in_place.orderly; tied = f.tied; alone = f.alone; unset = u; types = f.types; fits = f.fits }
