-- What the world brings to a process keeps each of its actors steady.
use Rattle.std.proofs.Common.{inl, ℕ, suc, [], ◌∷◌}
use Rattle.std.specs.Prelude.{pos}
use Rattle.std.specs.declared.option.Option.{Option}
use Rattle.std.specs.declared.option.Option.TheVariants.{None, Some}
use Rattle.flow_value.specs.declared.value.Kind.TheVariants as kind
use Rattle.flow_value.specs.Values.{ValueTree, IntValue, OutcomeTree, GoodOutcome}
use Rattle.flow_class.specs.Classes.{RawTree}
use Rattle.flow_meaning.specs.Process.{Drop, Core, Proc}
use Rattle.flow_meaning.specs.Orderly.{UnlessStopped, Rising}
use Rattle.flow_meaning.specs.Work.{pushed, fill}
use Rattle.flow_meaning.specs.Step.{enrol}
use Rattle.flow_meaning.specs.Deliver.{boot, boot_with, stop, stop_main, deliver, arrive, closed_request}
use Rattle.flow_meaning.specs.Frame.{Frame}
use Rattle.flow_meaning.specs.Class.{classes}
use Rattle.flow_meaning.proofs.Posture.{Unless, unless, unless_map, after_turn}
use Rattle.flow_invariants.proofs.Invariant.{unless_all}
use Rattle.flow_invariants.proofs.Unmarked.Steady.{S, fill_steady}
use Rattle.flow_invariants.proofs.Unmarked.Acts.{enrol_steady}
use Rattle.flow_invariants.proofs.Unmarked.Steps.{Fine}

module _ (j : ℕ) where
  pub deliver_steady : (k : ℕ) (o : OutcomeTree) (c : Core) → S j c → Unless (S j) (deliver k o c)
  deliver_steady k o c h =
      let d = pushed (Drop kind.Promise k) (record c { requests = closed_request k c.requests }) in
      after_turn (S j) (λ z. fill k o z) d c.left (λ n. fill_steady j k o (record d { left = n }) h)

  pub arrive_steady : (k : ℕ) (v : ValueTree) (c : Core) → S j c → Unless (S j) (arrive k v c)
  arrive_steady k v c h = after_turn (S j) (λ d. fill k (GoodOutcome v) d) c c.left (λ n. fill_steady j k (GoodOutcome v) (record c { left = n }) h)

  pub boot_steady : (r : RawTree) (me : ℕ) (p : Proc Frame) → Rising 0 p.core.started p.core.entries → S j p.core → Unless (S j) (boot (classes r) me p).core
  boot_steady r me p up h = by_frame ((classes r).fresh (classes r).main (IntValue (pos me) ∷ []))
    where
      by_frame : (x : Option Frame) → Unless (S j) (boot_with (classes r) x p).core
      by_frame None = tt
      by_frame (Some f) =
          let e = classes r in
          after_turn (S j) (λ d. record (enrol e.main (e.label e.main) d) { main = Some (suc d.made) }) p.core p.core.left
          (λ n. unless p.core.halted (enrol_steady j e.main (e.label e.main) (record p.core { left = n }) up h))

  pub stop_steady : (c : Core) → S j c → S j (stop c)
  stop_steady c h = by_main c.main
    where
      by_main : (x : Option ℕ) → S j (stop_main x c)
      by_main None = h
      by_main (Some k) = h

-- of all actors
abbrev pub AllFine : Core → Type 0
AllFine c = (j : ℕ) → Fine j c

abbrev pub Now : Core → Type 0
Now c = UnlessStopped c.halted (AllFine c)

pub fine_now : (c : Core) → ((j : ℕ) → Unless (Fine j) c) → Now c
fine_now c h = unless_all (λ j. Fine j c) c.halted h

pub steady_now : (c : Core) → ((j : ℕ) → Unless (S j) c) → Now c
steady_now c h = fine_now c (λ j. unless_map c.halted (λ x. inl x) (h j))
