use Rattle.std.proofs.Common.{refl}
use Rattle.std.proofs.lemmas.Result.{err_from_is_err_and}
use Rattle.flow_tree.specs.declared.limits.TheConstants.{OF_CLASS_TEXT}
use Rattle.flow_parse.proofs.Looking.{not_true}
use Rattle.flow_parse.proofs.Leaves.{done, fails}
use Rattle.flow_classread.proofs.Optional.{absent_reads, present_left}
use Rattle.flow_tree.specs.declared.token.Token.TheVariants as token
use Rattle.flow_tree.specs.declared.token.Word.TheVariants as word
use Rattle.flow_classprint.specs.ClassGrammar.{CatchRule, no_catch}
use Rattle.flow_classread.specs.Parts.{CatcherPart}
use Rattle.flow_classread.proofs.BlockForms.{catch_some, catch_which, some_catcher}
use Rattle.flow_classread.proofs.block.caught.Goals as goal

pub returns-then-not-is_word-clause-reads : goal.returns-then-not-is_word-clause-reads
returns-then-not-is_word-clause-reads c =
    let t = c.args.tokens.now in
    absent_reads CatchRule (token.Word word.Catch) CatcherPart no_catch catch_some catch_which some_catcher t c.args.at c.requires.within (λ e. not_true (c.if-not-is_word.ensures.word.1 e))

pub returns-in_err-catcher-clause-reads : goal.returns-in_err-catcher-clause-reads
returns-in_err-catcher-clause-reads c =
    let t = c.args.tokens.now in
    let l = present_left CatchRule (token.Word word.Catch) CatcherPart no_catch catch_some catch_which some_catcher t c.args.at c.requires.within (c.if-not-is_word.ensures.word.0 refl) in
    let p = err_from_is_err_and c.from_residual.result c.from_residual.ensures.1 in
    rw (p.1, p.2) (fails OF_CLASS_TEXT t l _ c.in_err-catcher.ensures.reads)

pub returns-clause-reads : goal.returns-clause-reads
returns-clause-reads c =
    let t = c.args.tokens.now in
    let l = present_left CatchRule (token.Word word.Catch) CatcherPart no_catch catch_some catch_which some_catcher t c.args.at c.requires.within (c.if-not-is_word.ensures.word.0 refl) in
    done OF_CLASS_TEXT t.spots.items l c.in_ok-catcher.ensures.reads
