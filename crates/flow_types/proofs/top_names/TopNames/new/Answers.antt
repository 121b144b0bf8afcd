use Rattle.std.proofs.Common.{suc, length, ap, ◌∙◌}
use Rattle.flow_rules.specs.Known.{record_holds}
use Rattle.flow_types.proofs.Holders.{same_functions}
use Rattle.flow_types.proofs.top_names.TopNames.new.Goals as goal

pub returns-clause-holds : goal.returns-clause-holds
returns-clause-holds c =
    let n = suc (length c.args.decls.now) in
    same_functions (λ x. c.in_ok-holds.ensures n c.in_ok-meanings.ensures.few x ∙ ap (λ k. record_holds k n x) c.in_ok-meanings.ensures.known)
