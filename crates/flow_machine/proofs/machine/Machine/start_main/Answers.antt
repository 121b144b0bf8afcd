use Rattle.std.proofs.Common.{rules}
use Rattle.flow_steps.specs.Doing.{begun, unasked}
use Rattle.flow_steps.specs.Tasks.{MainCalled}
use Rattle.flow_machine.specs.Serving.{ServedIf}
use Rattle.flow_machine.proofs.Rows.{after_main}
use Rattle.flow_machine.proofs.machine.Machine.start_main.Goals as goal

pub returns-clause-breaks : goal.returns-clause-breaks
returns-clause-breaks g c =
    let h = g.H.Host in
    let n = c.args.self.now.processes in
    let p = begun c.args.now c.args.turns c.args.self.now.process in
    let q = c.call_main.new.self in
    let m : MainCalled c.args.code.now c.args.self.now.me p q = search rules in
    let v : ServedIf h.serves h.shows h.wrote n q.asked (unasked q) c.args.host.now c.ask.new.process c.ask.new.host = search rules in
    after_main h.serves h.shows h.wrote h.broke c.args.code.now n c.args.self.now.me p q c.ask.new.process c.args.host.now c.ask.new.host
    c.burst.new.host c.burst.result m v c.burst.ensures.breaks
