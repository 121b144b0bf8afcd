-- What is brought to a process leaves nobody without a fire.
use Rattle.std.proofs.Common.{◌≡◌, ℕ, suc, true, false, Bool, [], ◌∷◌, subst, refl}
use Rattle.std.specs.Prelude.{pos}
use Rattle.std.specs.declared.option.Option.{Option}
use Rattle.std.specs.declared.option.Option.TheVariants.{None, Some}
use Rattle.flow_value.specs.declared.value.Kind.TheVariants as kind
use Rattle.flow_value.specs.Values.{ValueTree, IntValue, OutcomeTree, GoodOutcome}
use Rattle.flow_class.specs.Classes.{RawTree}
use Rattle.flow_numbered.specs.Numbered.{thing}
use Rattle.flow_meaning.specs.Process.{Drop, Core, Proc}
use Rattle.flow_meaning.specs.Orderly.{Rising, UnlessStopped}
use Rattle.flow_meaning.specs.Work.{pushed, fill}
use Rattle.flow_meaning.specs.Step.{enrol}
use Rattle.flow_meaning.specs.Deliver.{boot, boot_with, stop, stop_main, deliver, arrive, closed_request}
use Rattle.flow_meaning.specs.Frame.{Frame}
use Rattle.flow_meaning.specs.Class.{classes}
use Rattle.flow_meaning.proofs.Posture.{Unless, unless, after_turn}
use Rattle.flow_invariants.specs.Fires.{is_due, Fires, Fired, StepsFire, RestsFired}
use Rattle.flow_invariants.proofs.Invariant.{unless_all}
use Rattle.flow_invariants.proofs.Fires.Cells.{P, fill_fired}
use Rattle.flow_invariants.proofs.Fires.Steps.{enrolled_fired, step_fired}

module _ (k : ℕ) where
  deliver_fired : (j : ℕ) (o : OutcomeTree) (c : Core) → P k c → Unless (P k) (deliver j o c)
  deliver_fired j o c h =
      let d = pushed (Drop kind.Promise j) (record c { requests = closed_request j c.requests }) in
      after_turn (P k) (λ z. fill j o z) d c.left (λ n. fill_fired k j o (record d { left = n }) h)

  arrive_fired : (j : ℕ) (v : ValueTree) (c : Core) → P k c → Unless (P k) (arrive j v c)
  arrive_fired j v c h = after_turn (P k) (λ d. fill j (GoodOutcome v) d) c c.left (λ n. fill_fired k j (GoodOutcome v) (record c { left = n }) h)

  boot_fired : (r : RawTree) (me : ℕ) (p : Proc Frame) → Rising 0 p.core.made p.core.cells → P k p.core → Unless (P k) (boot (classes r) me p).core
  boot_fired r me p up h = by_frame ((classes r).fresh (classes r).main (IntValue (pos me) ∷ []))
    where
      by_frame : (x : Option Frame) → Unless (P k) (boot_with (classes r) x p).core
      by_frame None = tt
      by_frame (Some f) =
          let e = classes r in
          after_turn (P k) (λ d. record (enrol e.main (e.label e.main) d) { main = Some (suc d.made) }) p.core p.core.left
          (λ n. unless p.core.halted (enrolled_fired k p.core up h e.main (e.label e.main) n))

  pub stop_fired : (c : Core) → P k c → P k (stop c)
  stop_fired c h = by_main c.main
    where
      by_main : (x : Option ℕ) → P k (stop_main x c)
      by_main None = h
      by_main (Some j) = h

-- so it is of all cells
all_now : (c : Core) → ((k : ℕ) → Unless (P k) c) → UnlessStopped c.halted (Fired c)
all_now c h = unless_all (λ k. P k c) c.halted h

pub steps_fire : StepsFire
steps_fire r s p q o t h e = all_now q.0.core (λ k. step_fired k r s p q o t (h k) e)

pub delivered : (j : ℕ) (o : OutcomeTree) (c : Core) → Fired c → UnlessStopped (deliver j o c).halted (Fired (deliver j o c))
delivered j o c h = all_now (deliver j o c) (λ k. deliver_fired k j o c (h k))

pub arrived : (j : ℕ) (v : ValueTree) (c : Core) → Fired c → UnlessStopped (arrive j v c).halted (Fired (arrive j v c))
arrived j v c h = all_now (arrive j v c) (λ k. arrive_fired k j v c (h k))

pub booted : (r : RawTree) (me : ℕ) (p : Proc Frame) → Rising 0 p.core.made p.core.cells → Fired p.core → let d = (boot (classes r) me p).core in UnlessStopped d.halted (Fired d)
booted r me p up h = all_now (boot (classes r) me p).core (λ k. boot_fired k r me p up (h k))

-- where no task is left, nobody is due
pub rests_fired : RestsFired
rests_fired c h none k = by_test (is_due (thing c.cells k)) refl
  where
    by_test : (b : Bool) → is_due (thing c.cells k) ≡ b → b ≡ false
    by_test true e = absurd (subst (Fires k) none (h k e))
    by_test false e = refl
