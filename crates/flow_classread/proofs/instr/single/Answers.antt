use Rattle.std.proofs.lemmas.Result.{err_from_is_err_and}
use Rattle.flow_tree.specs.declared.limits.TheConstants.{OF_CLASS_TEXT}
use Rattle.flow_parse.proofs.Leaves.{done, fails, nothing}
use Rattle.flow_parse.specs.Reading.{Named}
use Rattle.flow_classread.proofs.Combine.{as_left}
use Rattle.std.proofs.Common.{subst, sym, ap, ◌∙◌, ◌++◌, ◌∷◌, []}
use Rattle.flow_parse.specs.Reading.{Any, Reads}
use Rattle.flow_classread.specs.Parts.{SinglePart, single_tree}
use Rattle.flow_classread.proofs.instr.single.Goals as goal

pub returns-in_err-first-clause-reads : goal.returns-in_err-first-clause-reads
returns-in_err-first-clause-reads c =
    let t = c.args.tokens.now in
    let l = as_left single_tree Named t (nothing OF_CLASS_TEXT t.spots.items SinglePart Any c.args.at c.requires.within) in
    let p = err_from_is_err_and c.from_residual.result c.from_residual.ensures.1 in
    rw (p.1, p.2) (fails OF_CLASS_TEXT t l _ (c.in_err-first.ensures.reads OF_CLASS_TEXT))

pub returns-clause-reads : goal.returns-clause-reads
returns-clause-reads c =
    let t = c.args.tokens.now in
    let l = as_left single_tree Named t (nothing OF_CLASS_TEXT t.spots.items SinglePart Any c.args.at c.requires.within) in
    subst (λ z. Reads OF_CLASS_TEXT SinglePart Any t.spots.items c.args.at z c.in_ok-first.to) (sym (c.in_ok-push.ensures.items ∙ ap (λ z. z ++ c.in_ok-first.first ∷ []) c.new-path.ensures.items))
    (done OF_CLASS_TEXT t.spots.items l (c.in_ok-first.ensures.reads OF_CLASS_TEXT))
