use Rattle.std.proofs.Common.{◌≡◌, ◌⊎◌, None, Some, ap, sym, subst, ◌∙◌}
use Rattle.std.proofs.lemmas.Simd.{map-map}
use Rattle.flow_monitor.specs.Attaching.{Handed, want_fault}
use Rattle.flow_monitor.specs.declared.attach.PanelFault.TheVariants.{OutOfMemory}
use Rattle.flow_monitor.proofs.handed.HandedInMonitors.attach.Goals as goal

pub returns-in-Ok-clause-fault : goal.returns-in-Ok-clause-fault
returns-in-Ok-clause-fault g c = ap (λ ns. want_fault ns c.args.wanted.now) (map-map _ _ c.args.self.waiting.items) ∙ c.in-Ok.ensures.fault

pub returns-clause-fault : goal.returns-clause-fault
returns-clause-fault g c =
    subst (λ first. (first ≡ Some c.in-Err.fault) ⊎ ((first ≡ None) × (c.in-Err.fault ≡ OutOfMemory)))
    (sym (ap (λ ns. want_fault ns c.args.wanted.now) (map-map (λ (h : Handed). h.name) _ c.args.self.waiting.items))) c.in-Err.ensures.fault
