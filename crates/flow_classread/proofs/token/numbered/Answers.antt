use Rattle.std.proofs.lemmas.Result.{err_from_is_err_and}
use Rattle.flow_tree.specs.declared.limits.TheConstants.{OF_CLASS_TEXT}
use Rattle.flow_parse.proofs.Leaves.{done, fails, nothing}
use Rattle.flow_classread.proofs.Combine.{behind_fails, behind_reads}
use Rattle.flow_tree.specs.declared.token.Token.TheVariants as token
use Rattle.flow_parse.specs.Reading.{Any}
use Rattle.std.proofs.Common.{subst, []}
use Rattle.std.specs.Prelude.{pos}
use Rattle.flow_tree.specs.GrammarAnswer.{place_at}
use Rattle.flow_parse.specs.Reading.{Reads}
use Rattle.flow_parse.proofs.Inhabitants.{some_opening}
use Rattle.flow_classread.specs.Parts.{Numbered}
use Rattle.flow_classread.proofs.token.numbered.Goals as goal

pub returns-in_err-at-clause-reads : goal.returns-in_err-at-clause-reads
returns-in_err-at-clause-reads c =
    let t = c.args.tokens.now in
    let l = nothing OF_CLASS_TEXT t.spots.items (Numbered c.args.word.now c.args.n) Any c.args.at c.requires.within in
    let p = err_from_is_err_and c.from_residual.result c.from_residual.ensures.1 in
    rw (p.1, p.2) (behind_fails t (token.Name c.args.word.now) (some_opening [] (token.Number (pos c.args.n))) l _ c.in_err-at.ensures.reads)

pub returns-in_err-to-clause-reads : goal.returns-in_err-to-clause-reads
returns-in_err-to-clause-reads c =
    let t = c.args.tokens.now in
    let l = behind_reads t (token.Name c.args.word.now) (some_opening [] (token.Number (pos c.args.n)))
    (nothing OF_CLASS_TEXT t.spots.items (Numbered c.args.word.now c.args.n) Any c.args.at c.requires.within) c.in_ok-at.ensures.reads in
    let p = err_from_is_err_and c.from_residual-in_err-to.result c.from_residual-in_err-to.ensures.1 in
    rw (p.1, p.2) (fails OF_CLASS_TEXT t l _ c.in_err-to.ensures.reads)

pub returns-clause-reads : goal.returns-clause-reads
returns-clause-reads c =
    let t = c.args.tokens.now in
    let l = behind_reads t (token.Name c.args.word.now) (some_opening [] (token.Number (pos c.args.n)))
    (nothing OF_CLASS_TEXT t.spots.items (Numbered c.args.word.now c.args.n) Any c.args.at c.requires.within) c.in_ok-at.ensures.reads in
    subst (λ k. Reads OF_CLASS_TEXT (Numbered c.args.word.now c.args.n) Any t.spots.items c.args.at (place_at t k) c.in_ok-to.to) c.in_ok-at.ensures.moves.0
    (done OF_CLASS_TEXT t.spots.items l c.in_ok-to.ensures.reads)
