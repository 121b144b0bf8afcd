use Rattle.std.proofs.Common.{◌+◌, ◌<◌, ◌∙◌, sym, subst}
use Rattle.std.proofs.lemmas.List.{length-set}
use Rattle.flow_simnet.specs.Links.{IsLinkBelow}
use Rattle.flow_simnet.proofs.Places.{at_place, links_place, cut_more}
use Rattle.flow_simnet.proofs.net.Net.cut.Goals as goal

pub invariant_of-self : goal.invariant_of-self
invariant_of-self c =
    let n = c.self.inside.processes in
    let inv = c.self.invariant in
    let p : c.args.p.0 < n = subst (λ d. c.args.p.0 < d.processes) (sym c.self.view_is) c.requires.p in
    let q : c.args.q.0 < n = subst (λ d. c.args.q.0 < d.processes) (sym c.self.view_is) c.requires.q in
    let new = subst (λ k. IsLinkBelow n (at_place (0 + k))) (sym c.link.ensures.place) (links_place n c.args.p.0 c.args.q.0 p q inv.0) in
    (inv.0, length-set c.self.inside.cuts.items c.link.result _ ∙ inv.1, cut_more n 0 c.link.result c.self.inside.cuts.items new inv.2, inv.3, inv.4)
