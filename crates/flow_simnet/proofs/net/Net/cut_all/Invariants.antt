use Rattle.std.proofs.Common.{◌≡◌, take}
use Rattle.flow_simnet.specs.Links.{all_cut}
use Rattle.flow_simnet.proofs.net.Net.cut_all.Given as goal

abbrev pub invariant-loop-p : goal.invariant-loop-p
invariant-loop-p l = l.self ≡ record l.initial.self { cuts = all_cut l.initial.self.cuts (take l.p-index l.links) }
