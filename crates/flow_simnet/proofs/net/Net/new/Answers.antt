use Rattle.std.proofs.Common.{ap₂}
use Rattle.flow_simnet.proofs.net.Net.new.Goals as goal

pub returns : goal.returns
returns c =
    ap₂ (λ cuts entries. record { processes = c.args.processes; latency = c.args.latency; loss = c.args.loss; sent = 0; cuts = cuts; on_way = entries })
    (c.in_ok-vec.ensures.items_if_clones_equal (λ y same. same)) c.new.ensures.empty
