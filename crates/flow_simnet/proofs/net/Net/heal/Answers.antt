use Rattle.std.proofs.Common.{◌∙◌}
use Rattle.std.proofs.lemmas.List.{length-set}
use Rattle.flow_simnet.proofs.Places.{cut_less}
use Rattle.flow_simnet.proofs.net.Net.heal.Goals as goal

pub invariant_of-self : goal.invariant_of-self
invariant_of-self c =
    let inv = c.self.invariant in
    (inv.0, length-set c.self.inside.cuts.items c.link.result _ ∙ inv.1, cut_less c.self.inside.processes 0 c.link.result c.self.inside.cuts.items inv.2, inv.3, inv.4)
