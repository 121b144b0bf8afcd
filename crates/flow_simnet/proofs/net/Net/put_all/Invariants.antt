use Rattle.std.proofs.Common.{◌≡◌, ◌++◌}
use Rattle.flow_simnet.specs.Links.{all_on_way}
use Rattle.flow_simnet.proofs.net.Net.put_all.Given as goal

abbrev pub invariant-loop-packet : goal.invariant-loop-packet
invariant-loop-packet l =
    (l.yielded ++ l.packet-iterator.rest.items ≡ l.fn.packets.items)
    × (l.self ≡ record l.initial.self { on_way = all_on_way l.initial.self.on_way l.yielded })
