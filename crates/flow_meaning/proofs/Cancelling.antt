-- An actor that was cancelled throws at each of its waits: by the step itself.
use Rattle.std.proofs.Common.{◌≡◌, ℕ, Bool, true, List, [], ◌∷◌, ◌++◌, length, refl, ap, ◌∙◌}
use Rattle.std.specs.declared.option.Option.{Option}
use Rattle.std.specs.declared.option.Option.TheVariants.{None, Some}
use Rattle.flow_numbered.specs.Numbered.{thing, put}
use Rattle.flow_meaning.specs.Cells.{Ref}
use Rattle.flow_meaning.specs.Requests.{Spot, Supply}
use Rattle.flow_meaning.specs.Process.{Task, Run, Throw, Keep, Entry, Raised, Proc, Engine}
use Rattle.flow_meaning.specs.References.{refs_in}
use Rattle.flow_meaning.specs.Work.{is_ready_at}
use Rattle.flow_meaning.specs.Step.{Stepped, silent, step_if, step_tasks, step, do_task, popped, keep, keep_by, verdict, with_operand, throw, throw_core, proc}
use Rattle.flow_meaning.specs.Cancelling as law
use Rattle.flow_meaning.specs.Cancelling.{NextOf}

module _ {A : Type 0} (e : Engine A) (p : Proc A) where
  pub cancelled_throws : law.CancelledThrows e p
  cancelled_throws s i spot r rest n marked = record {
    after = next.0;
    steps = first ∙ ap Some (actors ∙ entries ∙ cancelled);
    held = refs_in (e.lose n.actor).0;
    tasks = refl;
    lines = refl;
    turns = refl;
  }
    where
      x : Proc A
      x = popped (Run i ∷ rest) p

      ready : Bool
      ready = is_ready_at (thing p.core.cells r.1)

      fate : Bool → Stepped A
      fate b = keep_by e i (length n.entry.operands) (verdict b ready) r (with_operand spot r n.entry) n.actor x

      next : Stepped A
      next = fate true

      first : step e s p ≡ Some (do_task e s (Keep i spot r) x)
      first = ap (λ h. step_if e s h p) n.going ∙ ap (λ ts. step_tasks e s ts p) n.tasks

      actors : keep e i spot r (thing p.actors i) (thing p.core.entries i) x ≡ keep e i spot r (Some n.actor) (thing p.core.entries i) x
      actors = ap (λ o. keep e i spot r o (thing p.core.entries i) x) n.acting

      entries : keep e i spot r (Some n.actor) (thing p.core.entries i) x ≡ keep e i spot r (Some n.actor) (Some n.entry) x
      entries = ap (λ o. keep e i spot r (Some n.actor) o x) n.entered

      cancelled : keep e i spot r (Some n.actor) (Some n.entry) x ≡ next
      cancelled = ap fate marked

  pub throw_tells : law.ThrowTells e p
  throw_tells s i error rest n = record {
    after = proc (throw_core i error raised.0 (Some n.entry) x.core) (put x.actors i raised.1);
    steps =
        ap (λ h. step_if e s h p) n.going ∙ ap (λ ts. step_tasks e s ts p) n.tasks ∙ ap (λ o. Some (throw e i error o x)) n.acting
        ∙ ap (λ o. Some (silent (proc (throw_core i error raised.0 o x.core) (put x.actors i raised.1)))) n.entered;
    lines = refl;
  }
    where
      x : Proc A
      x = popped rest p

      raised : Raised × A
      raised = e.raise error n.actor
