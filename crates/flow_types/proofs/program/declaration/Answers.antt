use Rattle.std.proofs.Common.{sym, subst}
use Rattle.flow_tree.specs.DeclView.{decl_of, function_of, actor_of}
use Rattle.flow_ast.specs.TypingNames.{named}
use Rattle.flow_rules.specs.Rules.{routine_refusal, decl_refusal}
use Rattle.flow_types.specs.MapView.{rows_of}
use Rattle.flow_types.specs.WalkView.{Says}
use Rattle.flow_types.specs.ProgramView.{setting_by}
use Rattle.flow_types.proofs.program.declaration.Goals as goal

pub returns-in-Function : goal.returns-in-Function
returns-in-Function c =
    let all = setting_by c.args.names.now in
    let before = named (rows_of c.args.before.now) in
    let r = c.judge_routine.result in
    let routine = c.function_routine.result in
    subst (λ d. Says (decl_refusal all before (decl_of d)) r) (sym c.in-Function.is)
    (subst (λ p. Says (routine_refusal before (all p) (function_of c.in-Function.function)) r) c.function_routine.ensures.plain
    (subst (λ f. Says (routine_refusal before (all routine.plain) f) r) c.function_routine.ensures.routine c.judge_routine.ensures))

pub returns-in-Actor : goal.returns-in-Actor
returns-in-Actor c =
    let all = setting_by c.args.names.now in
    let before = named (rows_of c.args.before.now) in
    let r = c.judge_routine-in-Actor.result in
    let routine = c.actor_routine.result in
    subst (λ d. Says (decl_refusal all before (decl_of d)) r) (sym c.in-Actor.is)
    (subst (λ p. Says (routine_refusal before (all p) (actor_of c.in-Actor.actor)) r) c.actor_routine.ensures.plain
    (subst (λ f. Says (routine_refusal before (all routine.plain) f) r) c.actor_routine.ensures.routine c.judge_routine-in-Actor.ensures))
