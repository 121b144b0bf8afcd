use Rattle.std.proofs.Common.{refl}
use Rattle.std.proofs.lemmas.Result.{err_from_is_err_and}
use Rattle.flow_tree.specs.declared.limits.TheConstants.{OF_CLASS_TEXT}
use Rattle.flow_parse.specs.Reading.{token_at, Any}
use Rattle.flow_parse.proofs.Looking.{not_true}
use Rattle.flow_parse.proofs.Leaves.{nothing, narrow, done, fails}
use Rattle.flow_classprint.specs.ClassGrammar.{ResultRule}
use Rattle.flow_classread.proofs.ClassForms.{word_reads, type_turns}
use Rattle.flow_classread.proofs.class.gives.Goals as goal

pub returns-then-gives_nothing-clause-reads : goal.returns-then-gives_nothing-clause-reads
returns-then-gives_nothing-clause-reads c =
    let b = c.if-gives_nothing.ensures.nothing.0 refl in
    word_reads c.args.tokens.now c.args.at c.args.version b.0 b.1

pub returns-in_err-ty-clause-reads : goal.returns-in_err-ty-clause-reads
returns-in_err-ty-clause-reads c =
    let t = c.args.tokens.now in
    let l = narrow OF_CLASS_TEXT t.spots.items refl (type_turns c.args.version (token_at t.spots.items c.args.at) (λ v e. not_true (c.if-gives_nothing.ensures.nothing.1 (v, e))))
    (nothing OF_CLASS_TEXT t.spots.items (ResultRule c.args.version) Any c.args.at c.requires.within) in
    let p = err_from_is_err_and c.from_residual.result c.from_residual.ensures.1 in
    rw (p.1, p.2) (fails OF_CLASS_TEXT t l _ (c.in_err-ty.ensures.reads OF_CLASS_TEXT))

pub returns-clause-reads : goal.returns-clause-reads
returns-clause-reads c =
    let t = c.args.tokens.now in
    let l = narrow OF_CLASS_TEXT t.spots.items refl (type_turns c.args.version (token_at t.spots.items c.args.at) (λ v e. not_true (c.if-gives_nothing.ensures.nothing.1 (v, e))))
    (nothing OF_CLASS_TEXT t.spots.items (ResultRule c.args.version) Any c.args.at c.requires.within) in
    done OF_CLASS_TEXT t.spots.items l (c.in_ok-ty.ensures.reads OF_CLASS_TEXT)
