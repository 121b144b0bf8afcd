use Rattle.std.proofs.lemmas.Result.{err_from_is_err_and}
use Rattle.std.specs.Prelude.{codes}
use Rattle.flow_tree.specs.declared.limits.TheConstants.{OF_CLASS_TEXT}
use Rattle.flow_tree.specs.declared.token.Token.TheVariants as token
use Rattle.flow_parse.specs.Reading.{Any}
use Rattle.flow_parse.proofs.Leaves.{done, fails, nothing}
use Rattle.flow_classread.specs.Parts.{VersionHead}
use Rattle.flow_classread.proofs.Combine.{behind_fails, behind_reads}
use Rattle.flow_classread.proofs.TextReads.{some_version}
use Rattle.flow_classread.proofs.text.head.Goals as goal

pub returns-in_err-at-clause-reads : goal.returns-in_err-at-clause-reads
returns-in_err-at-clause-reads c =
    let t = c.args.tokens.now in
    let l = nothing OF_CLASS_TEXT t.spots.items VersionHead Any c.args.at c.requires.within in
    let p = err_from_is_err_and c.from_residual.result c.from_residual.ensures.1 in
    rw (p.1, p.2) (behind_fails t (token.Name (codes "classes")) some_version l _ c.in_err-at.ensures.reads)

pub returns-in_err-version-clause-reads : goal.returns-in_err-version-clause-reads
returns-in_err-version-clause-reads c =
    let t = c.args.tokens.now in
    let l = behind_reads t (token.Name (codes "classes")) some_version (nothing OF_CLASS_TEXT t.spots.items VersionHead Any c.args.at c.requires.within) c.in_ok-at.ensures.reads in
    let p = err_from_is_err_and c.from_residual-in_err-version.result c.from_residual-in_err-version.ensures.1 in
    rw (p.1, p.2) (fails OF_CLASS_TEXT t l _ c.in_err-version.ensures.reads)

pub returns-clause-reads : goal.returns-clause-reads
returns-clause-reads c =
    let t = c.args.tokens.now in
    let l = behind_reads t (token.Name (codes "classes")) some_version (nothing OF_CLASS_TEXT t.spots.items VersionHead Any c.args.at c.requires.within) c.in_ok-at.ensures.reads in
    done OF_CLASS_TEXT t.spots.items l c.in_ok-version.ensures.reads
