use Rattle.std.proofs.Common.{sym, ◌∙◌}
use Rattle.std.proofs.lemmas.Result.{err_from_is_err_and}
use Rattle.flow_tree.specs.declared.limits.TheConstants.{OF_CLASS_TEXT}
use Rattle.flow_parse.proofs.Leaves.{done, fails}
use Rattle.flow_classread.proofs.PathForms.{path_left, path_fails}
use Rattle.flow_classread.proofs.instr.path.Goals as goal

pub returns-in_default-clause-reads : goal.returns-in_default-clause-reads
returns-in_default-clause-reads c = rw c.refused.ensures (path_fails c.args.tokens.now c.args.at c.requires.within (sym c.in_ok-first.ensures.is ∙ c.in_default.is))

pub returns-in_err-path-clause-reads : goal.returns-in_err-path-clause-reads
returns-in_err-path-clause-reads c =
    let t = c.args.tokens.now in
    let l = path_left t c.args.at c.requires.within c.in-Some.first (sym c.in_ok-first.ensures.is ∙ c.in-Some.is) in
    let p = err_from_is_err_and c.from_residual-in_err-path.result c.from_residual-in_err-path.ensures.1 in
    rw (p.1, p.2) (fails OF_CLASS_TEXT t l _ (c.in_err-path.ensures.reads OF_CLASS_TEXT))

pub returns-clause-reads : goal.returns-clause-reads
returns-clause-reads c =
    let t = c.args.tokens.now in
    let l = path_left t c.args.at c.requires.within c.in-Some.first (sym c.in_ok-first.ensures.is ∙ c.in-Some.is) in
    done OF_CLASS_TEXT t.spots.items l (c.in_ok-path.ensures.reads OF_CLASS_TEXT)
