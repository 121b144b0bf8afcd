use Rattle.std.proofs.Common.{refl}
use Rattle.std.proofs.lemmas.Result.{err_from_is_err_and}
use Rattle.flow_tree.specs.declared.limits.TheConstants.{OF_CLASS_TEXT}
use Rattle.flow_parse.specs.Reading.{token_at, Any}
use Rattle.flow_parse.proofs.Looking.{not_true}
use Rattle.flow_parse.proofs.Leaves.{nothing, narrow, done, fails}
use Rattle.flow_classread.specs.Parts.{Returned}
use Rattle.flow_classread.proofs.Links.{bare_reads, value_turns}
use Rattle.flow_classread.proofs.instr.returned.Goals as goal

pub returns-then-is_bare-clause-reads : goal.returns-then-is_bare-clause-reads
returns-then-is_bare-clause-reads c =
    let b = c.if-is_bare.ensures.bare.0 refl in
    bare_reads c.args.tokens.now c.args.at c.args.version b.0 b.1

pub returns-in_err-value-clause-reads : goal.returns-in_err-value-clause-reads
returns-in_err-value-clause-reads c =
    let t = c.args.tokens.now in
    let l = narrow OF_CLASS_TEXT t.spots.items refl (value_turns c.args.version (token_at t.spots.items c.args.at) (λ v e. not_true (c.if-is_bare.ensures.bare.1 (v, e))))
    (nothing OF_CLASS_TEXT t.spots.items (Returned c.args.version) Any c.args.at c.requires.within) in
    let p = err_from_is_err_and c.from_residual.result c.from_residual.ensures.1 in
    rw (p.1, p.2) (fails OF_CLASS_TEXT t l _ c.in_err-value.ensures.reads)

pub returns-clause-reads : goal.returns-clause-reads
returns-clause-reads c =
    let t = c.args.tokens.now in
    let l = narrow OF_CLASS_TEXT t.spots.items refl (value_turns c.args.version (token_at t.spots.items c.args.at) (λ v e. not_true (c.if-is_bare.ensures.bare.1 (v, e))))
    (nothing OF_CLASS_TEXT t.spots.items (Returned c.args.version) Any c.args.at c.requires.within) in
    done OF_CLASS_TEXT t.spots.items l c.in_ok-value.ensures.reads
