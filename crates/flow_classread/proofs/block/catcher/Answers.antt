use Rattle.std.proofs.lemmas.Result.{err_from_is_err_and}
use Rattle.flow_tree.specs.declared.limits.TheConstants.{OF_CLASS_TEXT}
use Rattle.flow_parse.proofs.Leaves.{done, fails, first_fails, then_reads, nothing}
use Rattle.flow_classread.proofs.Combine.{behind_fails, behind_reads}
use Rattle.flow_tree.specs.declared.token.Token.TheVariants as token
use Rattle.flow_tree.specs.declared.token.Sign.TheVariants as sign
use Rattle.flow_parse.specs.Reading.{Any}
use Rattle.std.specs.Prelude.{codes}
use Rattle.flow_classread.proofs.Combine.{as_left}
use Rattle.flow_classread.specs.Parts.{CatcherPart, catcher_tree, Catcher}
use Rattle.flow_classread.proofs.BlockForms.{catcher_number_link, catcher_error_link, some_drop_part, some_dropped}
use Rattle.flow_classread.proofs.block.catcher.Goals as goal

pub returns-in_err-block-clause-reads : goal.returns-in_err-block-clause-reads
returns-in_err-block-clause-reads c =
    let t = c.args.tokens.now in
    let l = as_left catcher_tree Catcher t (nothing OF_CLASS_TEXT t.spots.items CatcherPart Any c.args.at c.requires.within) in
    let p = err_from_is_err_and c.from_residual.result c.from_residual.ensures.1 in
    rw (p.1, p.2) (first_fails OF_CLASS_TEXT t catcher_number_link l _ c.in_err-block.ensures.reads)

pub returns-in_err-error-clause-reads : goal.returns-in_err-error-clause-reads
returns-in_err-error-clause-reads c =
    let t = c.args.tokens.now in
    let l = then_reads OF_CLASS_TEXT t.spots.items catcher_number_link (as_left catcher_tree Catcher t (nothing OF_CLASS_TEXT t.spots.items CatcherPart Any c.args.at c.requires.within))
    c.in_ok-block.ensures.reads in
    let p = err_from_is_err_and c.from_residual-in_err-error.result c.from_residual-in_err-error.ensures.1 in
    rw (p.1, p.2) (first_fails OF_CLASS_TEXT t catcher_error_link l _ c.in_err-error.ensures.reads)

pub returns-in_err-at-clause-reads : goal.returns-in_err-at-clause-reads
returns-in_err-at-clause-reads c =
    let t = c.args.tokens.now in
    let l = then_reads OF_CLASS_TEXT t.spots.items catcher_error_link
    (then_reads OF_CLASS_TEXT t.spots.items catcher_number_link (as_left catcher_tree Catcher t (nothing OF_CLASS_TEXT t.spots.items CatcherPart Any c.args.at c.requires.within))
    c.in_ok-block.ensures.reads) c.in_ok-error.ensures.reads in
    let p = err_from_is_err_and c.from_residual-in_err-at.result c.from_residual-in_err-at.ensures.1 in
    rw (p.1, p.2) (behind_fails t (token.Name (codes "drop")) some_drop_part l _ c.in_err-at.ensures.reads)

pub returns-in_err-at-2-clause-reads : goal.returns-in_err-at-2-clause-reads
returns-in_err-at-2-clause-reads c =
    let t = c.args.tokens.now in
    let l = behind_reads t (token.Name (codes "drop")) some_drop_part
    (then_reads OF_CLASS_TEXT t.spots.items catcher_error_link (then_reads OF_CLASS_TEXT t.spots.items catcher_number_link
    (as_left catcher_tree Catcher t (nothing OF_CLASS_TEXT t.spots.items CatcherPart Any c.args.at c.requires.within)) c.in_ok-block.ensures.reads) c.in_ok-error.ensures.reads)
    c.in_ok-at.ensures.reads in
    let p = err_from_is_err_and c.from_residual-in_err-at-2.result c.from_residual-in_err-at-2.ensures.1 in
    rw (p.1, p.2) (behind_fails t (token.Sign sign.OpenRound) some_dropped l _ (c.in_err-at-2.ensures.reads OF_CLASS_TEXT))

pub returns-in_err-drops-clause-reads : goal.returns-in_err-drops-clause-reads
returns-in_err-drops-clause-reads c =
    let t = c.args.tokens.now in
    let l = behind_reads t (token.Sign sign.OpenRound) some_dropped
    (behind_reads t (token.Name (codes "drop")) some_drop_part (then_reads OF_CLASS_TEXT t.spots.items catcher_error_link
    (then_reads OF_CLASS_TEXT t.spots.items catcher_number_link (as_left catcher_tree Catcher t (nothing OF_CLASS_TEXT t.spots.items CatcherPart Any c.args.at c.requires.within))
    c.in_ok-block.ensures.reads) c.in_ok-error.ensures.reads) c.in_ok-at.ensures.reads) (c.in_ok-at-2.ensures.reads OF_CLASS_TEXT) in
    let p = err_from_is_err_and c.from_residual-in_err-drops.result c.from_residual-in_err-drops.ensures.1 in
    rw (p.1, p.2) (fails OF_CLASS_TEXT t l _ c.in_err-drops.ensures.reads)

pub returns-clause-reads : goal.returns-clause-reads
returns-clause-reads c =
    let t = c.args.tokens.now in
    let l = behind_reads t (token.Sign sign.OpenRound) some_dropped
    (behind_reads t (token.Name (codes "drop")) some_drop_part (then_reads OF_CLASS_TEXT t.spots.items catcher_error_link
    (then_reads OF_CLASS_TEXT t.spots.items catcher_number_link (as_left catcher_tree Catcher t (nothing OF_CLASS_TEXT t.spots.items CatcherPart Any c.args.at c.requires.within))
    c.in_ok-block.ensures.reads) c.in_ok-error.ensures.reads) c.in_ok-at.ensures.reads) (c.in_ok-at-2.ensures.reads OF_CLASS_TEXT) in
    done OF_CLASS_TEXT t.spots.items l c.in_ok-drops.ensures.reads
