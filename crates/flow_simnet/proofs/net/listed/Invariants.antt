use Rattle.std.proofs.Common.{◌≡◌, ◌++◌, drop}
use Rattle.flow_simnet.specs.Links.{cut_links}
use Rattle.flow_simnet.proofs.net.listed.Given as goal

abbrev pub invariant-loop-place : goal.invariant-loop-place
invariant-loop-place l = l.links.items ++ cut_links l.place (drop l.place l.cuts) ≡ cut_links 0 l.cuts
