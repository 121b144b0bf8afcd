use Rattle.std.proofs.Common.{subst}
use Rattle.flow_ast.specs.TypingNames.{named}
use Rattle.flow_rules.specs.Rules.{routine_refusal}
use Rattle.flow_types.specs.MapView.{rows_of}
use Rattle.flow_types.specs.WalkView.{Says}
use Rattle.flow_types.specs.ProgramView.{routine_of}
use Rattle.flow_types.proofs.program.judge_routine.Goals as goal

pub returns : goal.returns
returns c =
    subst (λ s. Says (routine_refusal (named (rows_of c.args.before.now)) s (routine_of c.args.routine)) c.judge_inside.result) c.start-walk.ensures.setting c.judge_inside.ensures
