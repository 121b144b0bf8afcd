-- Steps of a process in its world, one after another.
use Rattle.std.proofs.Common.{◌≡◌, [], refl, sym, ap, subst, ◌∙◌}
use Rattle.std.specs.declared.option.Option.{Option}
use Rattle.std.specs.declared.option.Option.TheVariants.{None, Some}
use Rattle.flow_class.specs.Classes.{RawTree}
use Rattle.flow_meaning.specs.Requests.{Request}
use Rattle.flow_meaning.specs.Process.{Halt, Proc}
use Rattle.flow_meaning.specs.Orderly.{UnlessStopped}
use Rattle.flow_meaning.specs.Burst.{Host, Live, live, serve, advanced, advance, Burst, rests, steps}
use Rattle.flow_meaning.specs.Step.{Stepped, step_tasks, step_if, step}
use Rattle.flow_meaning.specs.Class.{classes}
use Rattle.flow_meaning.specs.Frame.{Frame}
use Rattle.flow_meaning.proofs.Posture.{unless_map}
use Rattle.flow_meaning.proofs.Shifts.{same_of}
use Rattle.flow_meaning.proofs.InOrder.{no_thing}
use Rattle.flow_progress.specs.Ending.{Reaches, here, onward}
use Rattle.flow_invariants.specs.Fitting.Laws.{AreValid}
use Rattle.flow_burst_refinement.specs.Invariants.Invariant.{ProcessInvariant}
use Rattle.flow_burst_refinement.proofs.Invariants.Keeping.{step_keeps, lines_keep}

module _ {W : Type 0} (h : Host W) (r : RawTree) where
  pub reaches_then : (s t u : Live W Frame) → Reaches (classes r) h s t → Reaches (classes r) h t u → Reaches (classes r) h s u
  reaches_then s t u here more = more
  reaches_then s t u (onward next e rest) more = onward next e (reaches_then next t u rest more)

  pub then_burst : (s t u : Live W Frame) → Reaches (classes r) h s t → Burst (classes r) h t u → Burst (classes r) h s u
  then_burst s t u here more = more
  then_burst s t u (onward next e rest) more = steps next e (then_burst next t u rest more)

  -- nothing is left to do, or the event was stopped
  pub stopped_rests : (p : Proc Frame) (w : W) (x : Halt) → p.core.halted ≡ Some x → Burst (classes r) h (live p w) (live p w)
  stopped_rests p w x e = rests (ap (λ o. advanced h w (step_if (classes r) (h.supply w) o p)) e)

  pub no_task_rests : (p : Proc Frame) (w : W) → p.core.halted ≡ None → p.core.tasks ≡ [] → Burst (classes r) h (live p w) (live p w)
  no_task_rests p w e t =
      rests (ap (λ o. advanced h w (step_if (classes r) (h.supply w) o p)) e ∙ ap (λ ts. advanced h w (step_tasks (classes r) (h.supply w) ts p)) t)

  module _ (valid : AreValid r) where
    served_keeps : (o : Option Request) (p : Proc Frame) (w : W) → UnlessStopped p.core.halted (ProcessInvariant r p)
        → UnlessStopped (serve h o p w).proc.core.halted (ProcessInvariant r (serve h o p w).proc)
    served_keeps None p w k = k
    served_keeps (Some q) p w k = unless_map p.core.halted (lines_keep r (h.serve q w).0 p) k

    next_keeps : (s t : Live W Frame) → ProcessInvariant r s.proc → s.proc.core.halted ≡ None → advance (classes r) h s ≡ Some t → UnlessStopped t.proc.core.halted (ProcessInvariant r t.proc)
    next_keeps s t k go e = by_step (step (classes r) (h.supply s.out) s.proc) refl e
      where
        by_step : (x : Option (Stepped Frame)) → step (classes r) (h.supply s.out) s.proc ≡ x → advanced h s.out x ≡ Some t → UnlessStopped t.proc.core.halted (ProcessInvariant r t.proc)
        by_step None is a = absurd (no_thing a)
        by_step (Some q) is a =
            subst (λ (l : Live W Frame). UnlessStopped l.proc.core.halted (ProcessInvariant r l.proc)) (same_of a) (served_keeps q.1 q.0 s.out (step_keeps r (h.supply s.out) s.proc q valid k go is))

    -- each keeps what it has to
    pub reaches_keep : (s t : Live W Frame) → UnlessStopped s.proc.core.halted (ProcessInvariant r s.proc) → Reaches (classes r) h s t → UnlessStopped t.proc.core.halted (ProcessInvariant r t.proc)
    reaches_keep s t k here = k
    reaches_keep s t k (onward next e rest) = reaches_keep next t (by_halt s.proc.core.halted refl k) rest
      where
        by_halt : (x : Option Halt) → s.proc.core.halted ≡ x → UnlessStopped x (ProcessInvariant r s.proc) → UnlessStopped next.proc.core.halted (ProcessInvariant r next.proc)
        by_halt None is k = next_keeps s next k is e
        by_halt (Some x) is k = absurd (no_thing (sym (ap (λ o. advanced h s.out (step_if (classes r) (h.supply s.out) o s.proc)) is) ∙ e))
