use Rattle.std.proofs.lemmas.Result.{err_from_is_err_and}
use Rattle.flow_tree.specs.declared.limits.TheConstants.{OF_CLASS_TEXT}
use Rattle.flow_parse.proofs.Leaves.{done, fails, first_fails, then_reads, nothing, narrow}
use Rattle.flow_classread.proofs.Combine.{behind_fails, behind_reads}
use Rattle.flow_tree.specs.declared.token.Token.TheVariants as token
use Rattle.flow_tree.specs.declared.token.Sign.TheVariants as sign
use Rattle.flow_parse.specs.Reading.{token_at, Any}
use Rattle.std.proofs.Common.{refl}
use Rattle.flow_classprint.specs.ClassGrammar.{BlockRule}
use Rattle.flow_classread.proofs.BlockForms.{block_turns, block_number_link, block_catch_link, some_body}
use Rattle.flow_classread.proofs.block.block.Goals as goal

pub returns-in_err-at-clause-reads : goal.returns-in_err-at-clause-reads
returns-in_err-at-clause-reads c =
    let t = c.args.tokens.now in
    let l = narrow OF_CLASS_TEXT t.spots.items refl (block_turns c.args.version c.args.n (token_at t.spots.items c.args.at) c.ranges.n.fits)
    (nothing OF_CLASS_TEXT t.spots.items (BlockRule c.args.version c.args.n) Any c.args.at c.requires.within) in
    let p = err_from_is_err_and c.from_residual.result c.from_residual.ensures.1 in
    rw (p.1, p.2) (first_fails OF_CLASS_TEXT t (block_number_link c.args.version c.args.n) l _ c.in_err-at.ensures.reads)

pub returns-in_err-catcher-clause-reads : goal.returns-in_err-catcher-clause-reads
returns-in_err-catcher-clause-reads c =
    let t = c.args.tokens.now in
    let l = then_reads OF_CLASS_TEXT t.spots.items (block_number_link c.args.version c.args.n)
    (narrow OF_CLASS_TEXT t.spots.items refl (block_turns c.args.version c.args.n (token_at t.spots.items c.args.at) c.ranges.n.fits)
    (nothing OF_CLASS_TEXT t.spots.items (BlockRule c.args.version c.args.n) Any c.args.at c.requires.within)) c.in_ok-at.ensures.reads in
    let p = err_from_is_err_and c.from_residual-in_err-catcher.result c.from_residual-in_err-catcher.ensures.1 in
    rw (p.1, p.2) (first_fails OF_CLASS_TEXT t (block_catch_link c.args.version) l _ c.in_err-catcher.ensures.reads)

pub returns-in_err-at-2-clause-reads : goal.returns-in_err-at-2-clause-reads
returns-in_err-at-2-clause-reads c =
    let t = c.args.tokens.now in
    let l = then_reads OF_CLASS_TEXT t.spots.items (block_catch_link c.args.version)
    (then_reads OF_CLASS_TEXT t.spots.items (block_number_link c.args.version c.args.n)
    (narrow OF_CLASS_TEXT t.spots.items refl (block_turns c.args.version c.args.n (token_at t.spots.items c.args.at) c.ranges.n.fits)
    (nothing OF_CLASS_TEXT t.spots.items (BlockRule c.args.version c.args.n) Any c.args.at c.requires.within)) c.in_ok-at.ensures.reads) c.in_ok-catcher.ensures.reads in
    let p = err_from_is_err_and c.from_residual-in_err-at-2.result c.from_residual-in_err-at-2.ensures.1 in
    rw (p.1, p.2) (behind_fails t (token.Sign sign.OpenCurly) (some_body c.args.version) l _ (c.in_err-at-2.ensures.reads OF_CLASS_TEXT))

pub returns-in_err-read-clause-reads : goal.returns-in_err-read-clause-reads
returns-in_err-read-clause-reads c =
    let t = c.args.tokens.now in
    let l = behind_reads t (token.Sign sign.OpenCurly) (some_body c.args.version) (then_reads OF_CLASS_TEXT t.spots.items (block_catch_link c.args.version)
    (then_reads OF_CLASS_TEXT t.spots.items (block_number_link c.args.version c.args.n)
    (narrow OF_CLASS_TEXT t.spots.items refl (block_turns c.args.version c.args.n (token_at t.spots.items c.args.at) c.ranges.n.fits)
    (nothing OF_CLASS_TEXT t.spots.items (BlockRule c.args.version c.args.n) Any c.args.at c.requires.within)) c.in_ok-at.ensures.reads) c.in_ok-catcher.ensures.reads)
    (c.in_ok-at-2.ensures.reads OF_CLASS_TEXT) in
    let p = err_from_is_err_and c.from_residual-in_err-read.result c.from_residual-in_err-read.ensures.1 in
    rw (p.1, p.2) (fails OF_CLASS_TEXT t l _ c.in_err-read.ensures.reads)

pub returns-clause-reads : goal.returns-clause-reads
returns-clause-reads c =
    let t = c.args.tokens.now in
    let l = behind_reads t (token.Sign sign.OpenCurly) (some_body c.args.version) (then_reads OF_CLASS_TEXT t.spots.items (block_catch_link c.args.version)
    (then_reads OF_CLASS_TEXT t.spots.items (block_number_link c.args.version c.args.n)
    (narrow OF_CLASS_TEXT t.spots.items refl (block_turns c.args.version c.args.n (token_at t.spots.items c.args.at) c.ranges.n.fits)
    (nothing OF_CLASS_TEXT t.spots.items (BlockRule c.args.version c.args.n) Any c.args.at c.requires.within)) c.in_ok-at.ensures.reads) c.in_ok-catcher.ensures.reads)
    (c.in_ok-at-2.ensures.reads OF_CLASS_TEXT) in
    done OF_CLASS_TEXT t.spots.items l c.in_ok-read.ensures.reads
