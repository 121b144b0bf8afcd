use Rattle.std.proofs.Common.{◌<◌, length, ap, ◌∙◌, arith}
use Rattle.flow_explain.specs.Living.{without, living_in}
use Rattle.flow_explain.proofs.Lives.{set_in, living_at}
use Rattle.flow_explain.proofs.living.Telling.ends.Goals as goal

pub returns : goal.returns
returns c =
    let place = c.from.ensures ∙ ap (λ t. t.process) c.self.view_is in
    let inside : c.from.result < length c.self.inside.living.items = omega arith in
    let now = c.args.self.now in
    let old = living_at (λ m. m.entries) c.self.inside.process.0 c.self.inside.living.items c.from.result now.process c.index_mut.result.now now c.self.view_is
    place inside c.index_mut.ensures.value in
    set_in (λ m. m.entries) c.self.inside.process.0 c.self.inside.living.items c.from.result now.process c.remove.new.self
    (without c.args.actor.0 (living_in now.living now.process)) now c.self.view_is place
    (c.remove.ensures.entries ∙ ap (without c.args.actor.0) old)
