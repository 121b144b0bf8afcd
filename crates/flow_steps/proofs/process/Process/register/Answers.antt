use Rattle.std.proofs.Common.{rules}
use Rattle.flow_steps.proofs.Waits.{stream_added, stream_busy}
use Rattle.flow_steps.proofs.process.Process.register.Goals as goal

pub returns-in-Added-clause-done : goal.returns-in-Added-clause-done
returns-in-Added-clause-done c =
    stream_added c.args.actor.0 c.args.held c.args.self.now c.add_waiter-2.new.self (search rules) (search rules)
    (rw c.streams_mut.ensures.value at c.in-Added.ensures.wait) (rw c.streams_mut.ensures.value at c.in-Added.ensures.waiter)

pub returns-in-Busy-clause-done : goal.returns-in-Busy-clause-done
returns-in-Busy-clause-done c =
    stream_busy c.args.actor.0 c.args.held c.args.self.now c.add_waiter-2.new.self (search rules) (search rules)
    (rw c.streams_mut.ensures.value at c.in-Busy.ensures.wait) (rw c.streams_mut.ensures.value at c.in-Busy.ensures.waiter)
