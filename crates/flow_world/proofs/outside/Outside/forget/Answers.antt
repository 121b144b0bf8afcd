use Rattle.std.proofs.Common.{ap}
use Rattle.flow_world.specs.Changes.{seen}
use Rattle.flow_world.proofs.outside.Outside.forget.Goals as goal

pub returns : goal.returns
returns c = λ made once. ap (λ q. record (seen c.args.self.now) { timers = q }) c.retain.ensures
