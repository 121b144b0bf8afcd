use Rattle.std.proofs.Common.{[], rules, ◌≡◌, subst, w64}
use Rattle.std.specs.Prelude.{IfOk}
use Rattle.std.proofs.lemmas.Int.{to_z-of_z}
use mir.Val.{to_z, of_z}
use Rattle.flow_draw.specs.Words.{next_word, scaled}
use Rattle.flow_world.specs.Changes.{seen}
use Rattle.flow_world.proofs.ServedAround.{word_served}
use Rattle.flow_world.proofs.Putting.{none_put}
use Rattle.flow_world.proofs.around.AroundHost.random.Goals as goal

pub returns-clause-drawn : goal.returns-clause-drawn
returns-clause-drawn g c =
    let here = seen c.args.self.now.outside.now in
    let same : to_z w64 (of_z w64 c.args.lo) ≡ c.args.lo = search (rules, to_z-of_z) in
    let number : IfOk c.draw.result (λ x. x ≡ scaled c.args.lo c.args.width (next_word here.draws)) =
    subst (λ lo. IfOk c.draw.result (λ x. x ≡ scaled lo c.args.width (next_word here.draws))) same c.draw.ensures.number in
    word_served g.L.LineOut.puts c.args.self.now.me c.args.self.now.ports.now here
    c.draw.result c.args.self.now.out.now (seen c.draw.new.self) c.args.lo c.args.width number c.draw.ensures.drawn

pub returns-clause-broke : goal.returns-clause-broke
returns-clause-broke g c = none_put g.L.LineOut.puts c.draw.result c.args.self.now.out.now []
