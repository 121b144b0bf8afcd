use Rattle.std.proofs.Common.{◌≡◌, ◌++◌, map}
use Rattle.flow_simnet.specs.Links.{numbered}
use Rattle.flow_simnet.proofs.net.copied.Given as goal

abbrev pub invariant-loop-number : goal.invariant-loop-number
invariant-loop-number l =
    l.packets.items ++ map (λ e. numbered e.0 e.1) l.number-iterator ≡ map (λ e. numbered e.0 e.1) l.on_way.entries
