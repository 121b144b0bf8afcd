use Rattle.std.proofs.lemmas.Result.{err_from_is_err_and}
use Rattle.std.proofs.Common.{arith, refl, ◌+◌}
use Rattle.flow_tree.specs.GrammarToken.{Variable}
use Rattle.flow_parse.specs.Reading.{Any}
use Rattle.flow_parse.proofs.Looking.{not_true}
use Rattle.flow_parse.proofs.Leaves.{nothing, then_reads, done, fails, first_fails, marks_reads}
use Rattle.flow_parse.proofs.Shapes.{TypeName}
use Rattle.flow_parse.proofs.Variables.{type_link}
use Rattle.flow_parse.proofs.Decls.{param_left}
use Rattle.flow_parse.proofs.DeclFails.{param_beyond, no_param, param_fails}
use Rattle.flow_parse.proofs.decl.param.Goals as goal

pub returns-clause-reads : goal.returns-clause-reads
returns-clause-reads c =
    let t = c.args.tokens.now in
    let s = t.spots.items in
    let x = done c.args.limits s (then_reads c.args.limits s (type_link 1) (nothing c.args.limits s TypeName Any c.args.at c.requires.within) (c.in_ok-ty.ensures.reads c.args.limits))
    (c.in_ok-name.ensures.reads c.args.limits) in
    done c.args.limits s (param_left c.args.limits t c.args.at c.requires.within (c.args.before + 1))
    (marks_reads c.args.limits s (Variable (c.args.before + 1)) (λ h. omega (arith, c.if-before-limits.false)) x)

pub returns-then-begins_type-clause-reads : goal.returns-then-begins_type-clause-reads
returns-then-begins_type-clause-reads c = rw c.refused.ensures (param_beyond c.args.limits c.args.tokens.now c.args.at (c.args.before + 1) c.requires.within
    (omega (arith, c.if-before-limits.true)) c.if-begins_type.ensures.within (c.if-begins_type.ensures.begins.0 refl))

pub returns-then-before-limits-clause-reads : goal.returns-then-before-limits-clause-reads
returns-then-before-limits-clause-reads c = rw c.refused-then-before-limits.ensures
    (no_param c.args.limits c.args.tokens.now c.args.at (c.args.before + 1) c.requires.within (λ e. not_true (c.if-begins_type.ensures.begins.1 e)))

pub returns-in_err-ty-clause-reads : goal.returns-in_err-ty-clause-reads
returns-in_err-ty-clause-reads c =
    let t = c.args.tokens.now in
    let p = err_from_is_err_and c.from_residual.result c.from_residual.ensures.1 in
    let f = first_fails c.args.limits t (type_link 1) (nothing c.args.limits t.spots.items TypeName Any c.args.at c.requires.within) c.in_err-ty.field-0.0 (c.in_err-ty.ensures.reads c.args.limits) in
    rw (p.1, p.2) (param_fails c.args.limits t c.args.at (c.args.before + 1) c.requires.within (omega (arith, c.if-before-limits.false)) _ f)

pub returns-in_err-name-clause-reads : goal.returns-in_err-name-clause-reads
returns-in_err-name-clause-reads c =
    let t = c.args.tokens.now in
    let p = err_from_is_err_and c.from_residual-in_err-name.result c.from_residual-in_err-name.ensures.1 in
    let l = then_reads c.args.limits t.spots.items (type_link 1) (nothing c.args.limits t.spots.items TypeName Any c.args.at c.requires.within) (c.in_ok-ty.ensures.reads c.args.limits) in
    rw (p.1, p.2) (param_fails c.args.limits t c.args.at (c.args.before + 1) c.requires.within (omega (arith, c.if-before-limits.false)) _
    (fails c.args.limits t l _ (c.in_err-name.ensures.reads c.args.limits)))
