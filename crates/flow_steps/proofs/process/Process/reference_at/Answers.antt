use Rattle.std.proofs.Common.{rules, refl}
use Rattle.flow_steps.proofs.Going.{nothing_aimed}
use Rattle.flow_steps.proofs.process.Process.reference_at.Goals as goal

pub returns-in_err-root-clause-none : goal.returns-in_err-root-clause-none
returns-in_err-root-clause-none c = λ _. nothing_aimed c.args.code.now c.args.actor.0 c.args.aim.now c.args.self.now.heap _ refl (search rules)
