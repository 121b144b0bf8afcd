use Rattle.std.proofs.Common.{refl}
use Rattle.std.proofs.lemmas.Result.{err_from_is_err_and}
use Rattle.flow_tree.specs.declared.limits.TheConstants.{OF_CLASS_TEXT}
use Rattle.flow_parse.proofs.Looking.{not_true}
use Rattle.flow_parse.proofs.Leaves.{done, fails}
use Rattle.flow_classread.proofs.Optional.{absent_reads, present_left}
use Rattle.std.specs.Prelude.{codes}
use Rattle.flow_tree.specs.declared.token.Token.TheVariants as token
use Rattle.flow_classprint.specs.ClassGrammar.{ErrorRule, no_error}
use Rattle.flow_classread.specs.Parts.{LocalPart}
use Rattle.flow_classread.proofs.BlockForms.{error_some, error_which}
use Rattle.flow_classread.proofs.Single.{some_local}
use Rattle.flow_classread.proofs.block.error.Goals as goal

pub returns-then-not-says-clause-reads : goal.returns-then-not-says-clause-reads
returns-then-not-says-clause-reads c =
    let t = c.args.tokens.now in
    absent_reads ErrorRule (token.Name (codes "error")) LocalPart no_error error_some error_which some_local t c.args.at c.requires.within (λ e. not_true (c.if-not-says.ensures.says.1 e))

pub returns-in_err-n-clause-reads : goal.returns-in_err-n-clause-reads
returns-in_err-n-clause-reads c =
    let t = c.args.tokens.now in
    let l = present_left ErrorRule (token.Name (codes "error")) LocalPart no_error error_some error_which some_local t c.args.at c.requires.within (c.if-not-says.ensures.says.0 refl) in
    let p = err_from_is_err_and c.from_residual.result c.from_residual.ensures.1 in
    rw (p.1, p.2) (fails OF_CLASS_TEXT t l _ c.in_err-n.ensures.reads)

pub returns-clause-reads : goal.returns-clause-reads
returns-clause-reads c =
    let t = c.args.tokens.now in
    let l = present_left ErrorRule (token.Name (codes "error")) LocalPart no_error error_some error_which some_local t c.args.at c.requires.within (c.if-not-says.ensures.says.0 refl) in
    done OF_CLASS_TEXT t.spots.items l c.in_ok-n.ensures.reads
