use Rattle.std.proofs.Common.{[]}
use Rattle.flow_explain.proofs.Lives.{set_in}
use Rattle.flow_explain.proofs.living.Telling.clear.Goals as goal

pub returns : goal.returns
returns c =
    set_in (λ m. m.entries) c.self.inside.process.0 c.self.inside.living.items c.from.result c.args.process.0 c.clear.new.self [] c.args.self.now
    c.self.view_is c.from.ensures c.clear.ensures.empty
