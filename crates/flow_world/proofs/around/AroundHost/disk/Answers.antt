use Rattle.std.proofs.Common.{[], ◌≡◌, ◌+◌, subst}
use Rattle.std.specs.Prelude.{OnOk}
use Rattle.flow_world.specs.declared.outside.What.TheVariants.{Answers}
use Rattle.flow_world.specs.Changes.{seen, with_pending}
use Rattle.flow_world.proofs.ServedAround.{disk_served}
use Rattle.flow_world.proofs.Putting.{none_put}
use Rattle.flow_world.proofs.around.AroundHost.disk.Goals as goal

pub returns-clause-served : goal.returns-clause-served
returns-clause-served g c =
    let asked : c.new.result ≡ c.args.ask = c.new.ensures in
    disk_served g.L.LineOut.puts c.args.self.now.me c.args.self.now.ports.now (seen c.args.self.now.outside.now)
    c.add.result c.args.self.now.out.now (seen c.add.new.self) (seen c.draw_delay.new.self) c.args.cell c.args.ask c.in_ok-delay.delay
    c.in_ok-delay.ensures.delay c.in_ok-delay.ensures.drawn
    (subst (λ a. OnOk c.add.result (seen c.add.new.self
    ≡ with_pending (seen c.draw_delay.new.self) (c.draw_delay.new.self.time + c.in_ok-delay.delay) (Answers c.args.self.now.me c.args.cell a)))
    asked c.add.ensures.added)

pub returns-clause-broke : goal.returns-clause-broke
returns-clause-broke g c = none_put g.L.LineOut.puts c.add.result c.args.self.now.out.now []

pub returns-in_err-delay-clause-broke : goal.returns-in_err-delay-clause-broke
returns-in_err-delay-clause-broke g c = none_put g.L.LineOut.puts c.from_residual.result c.args.self.now.out.now []
