use Rattle.std.proofs.Common.{rules, map, ◌≡◌, None, subst}
use Rattle.flow_ast.specs.declared.predefined.Predefined.TheVariants.{WriteFile}
use Rattle.flow_value.specs.View.{value_of}
use Rattle.flow_eval.specs.Answers.{text_of, arg}
use Rattle.flow_meaning.specs.Evaluating.{world_effect}
use Rattle.flow_steps.proofs.Called.{write_stuck}
use Rattle.flow_steps.proofs.Holding.{if_stuck_weaker}
use Rattle.flow_steps.proofs.effects.write_call.Goals as goal

pub returns-in_err-file-clause-stuck : goal.returns-in_err-file-clause-stuck
returns-in_err-file-clause-stuck c =
    let h = if_stuck_weaker c.in_err-file.field-0.0 _ (world_effect WriteFile (map value_of c.args.args.now) ≡ None)
    (λ m. write_stuck c.args.args.now (subst (λ vs. text_of (arg (map value_of vs) 0) ≡ None) c.in_ok-text.ensures.rest m)) c.in_err-file.ensures.stuck in
    search (rules, h)
