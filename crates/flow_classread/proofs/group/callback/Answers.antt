use Rattle.std.proofs.lemmas.Result.{err_from_is_err_and}
use Rattle.flow_tree.specs.declared.limits.TheConstants.{OF_CLASS_TEXT}
use Rattle.flow_parse.proofs.Leaves.{done, fails, first_fails, then_reads, nothing, narrow}
use Rattle.flow_classread.proofs.Combine.{behind_fails, behind_reads}
use Rattle.flow_tree.specs.declared.token.Token.TheVariants as token
use Rattle.flow_parse.specs.Reading.{token_at, Any}
use Rattle.std.specs.Prelude.{codes}
use Rattle.std.proofs.Common.{refl}
use Rattle.flow_classprint.specs.ClassGrammar.{CallbackRule}
use Rattle.flow_classread.proofs.GroupForms.{callback_turns, callback_number_link, callback_operand_link, callback_into_link}
use Rattle.flow_classread.proofs.Links.{some_target}
use Rattle.flow_classread.proofs.group.callback.Goals as goal

pub returns-in_err-at-clause-reads : goal.returns-in_err-at-clause-reads
returns-in_err-at-clause-reads c =
    let t = c.args.tokens.now in
    let l = narrow OF_CLASS_TEXT t.spots.items refl (callback_turns c.args.n (token_at t.spots.items c.args.at) c.ranges.n.fits)
    (nothing OF_CLASS_TEXT t.spots.items (CallbackRule c.args.n) Any c.args.at c.requires.within) in
    let p = err_from_is_err_and c.from_residual.result c.from_residual.ensures.1 in
    rw (p.1, p.2) (first_fails OF_CLASS_TEXT t (callback_number_link c.args.n) l _ c.in_err-at.ensures.reads)

pub returns-in_err-next-clause-reads : goal.returns-in_err-next-clause-reads
returns-in_err-next-clause-reads c =
    let t = c.args.tokens.now in
    let l = then_reads OF_CLASS_TEXT t.spots.items (callback_number_link c.args.n)
    (narrow OF_CLASS_TEXT t.spots.items refl (callback_turns c.args.n (token_at t.spots.items c.args.at) c.ranges.n.fits)
    (nothing OF_CLASS_TEXT t.spots.items (CallbackRule c.args.n) Any c.args.at c.requires.within)) c.in_ok-at.ensures.reads in
    let p = err_from_is_err_and c.from_residual-in_err-next.result c.from_residual-in_err-next.ensures.1 in
    rw (p.1, p.2) (first_fails OF_CLASS_TEXT t callback_operand_link l _ c.in_err-next.ensures.reads)

pub returns-in_err-into-clause-reads : goal.returns-in_err-into-clause-reads
returns-in_err-into-clause-reads c =
    let t = c.args.tokens.now in
    let l = then_reads OF_CLASS_TEXT t.spots.items callback_operand_link
    (then_reads OF_CLASS_TEXT t.spots.items (callback_number_link c.args.n)
    (narrow OF_CLASS_TEXT t.spots.items refl (callback_turns c.args.n (token_at t.spots.items c.args.at) c.ranges.n.fits)
    (nothing OF_CLASS_TEXT t.spots.items (CallbackRule c.args.n) Any c.args.at c.requires.within)) c.in_ok-at.ensures.reads) c.in_ok-next.ensures.reads in
    let p = err_from_is_err_and c.from_residual-in_err-into.result c.from_residual-in_err-into.ensures.1 in
    rw (p.1, p.2) (first_fails OF_CLASS_TEXT t callback_into_link l _ c.in_err-into.ensures.reads)

pub returns-in_err-at-2-clause-reads : goal.returns-in_err-at-2-clause-reads
returns-in_err-at-2-clause-reads c =
    let t = c.args.tokens.now in
    let l = then_reads OF_CLASS_TEXT t.spots.items callback_into_link
    (then_reads OF_CLASS_TEXT t.spots.items callback_operand_link
    (then_reads OF_CLASS_TEXT t.spots.items (callback_number_link c.args.n)
    (narrow OF_CLASS_TEXT t.spots.items refl (callback_turns c.args.n (token_at t.spots.items c.args.at) c.ranges.n.fits)
    (nothing OF_CLASS_TEXT t.spots.items (CallbackRule c.args.n) Any c.args.at c.requires.within)) c.in_ok-at.ensures.reads) c.in_ok-next.ensures.reads) c.in_ok-into.ensures.reads in
    let p = err_from_is_err_and c.from_residual-in_err-at-2.result c.from_residual-in_err-at-2.ensures.1 in
    rw (p.1, p.2) (behind_fails t (token.Name (codes "goto")) some_target l _ c.in_err-at-2.ensures.reads)

pub returns-in_err-block-clause-reads : goal.returns-in_err-block-clause-reads
returns-in_err-block-clause-reads c =
    let t = c.args.tokens.now in
    let l = behind_reads t (token.Name (codes "goto")) some_target
    (then_reads OF_CLASS_TEXT t.spots.items callback_into_link (then_reads OF_CLASS_TEXT t.spots.items callback_operand_link
    (then_reads OF_CLASS_TEXT t.spots.items (callback_number_link c.args.n)
    (narrow OF_CLASS_TEXT t.spots.items refl (callback_turns c.args.n (token_at t.spots.items c.args.at) c.ranges.n.fits)
    (nothing OF_CLASS_TEXT t.spots.items (CallbackRule c.args.n) Any c.args.at c.requires.within)) c.in_ok-at.ensures.reads) c.in_ok-next.ensures.reads) c.in_ok-into.ensures.reads)
    c.in_ok-at-2.ensures.reads in
    let p = err_from_is_err_and c.from_residual-in_err-block.result c.from_residual-in_err-block.ensures.1 in
    rw (p.1, p.2) (fails OF_CLASS_TEXT t l _ c.in_err-block.ensures.reads)

pub returns-clause-reads : goal.returns-clause-reads
returns-clause-reads c =
    let t = c.args.tokens.now in
    let l = behind_reads t (token.Name (codes "goto")) some_target
    (then_reads OF_CLASS_TEXT t.spots.items callback_into_link (then_reads OF_CLASS_TEXT t.spots.items callback_operand_link
    (then_reads OF_CLASS_TEXT t.spots.items (callback_number_link c.args.n)
    (narrow OF_CLASS_TEXT t.spots.items refl (callback_turns c.args.n (token_at t.spots.items c.args.at) c.ranges.n.fits)
    (nothing OF_CLASS_TEXT t.spots.items (CallbackRule c.args.n) Any c.args.at c.requires.within)) c.in_ok-at.ensures.reads) c.in_ok-next.ensures.reads) c.in_ok-into.ensures.reads)
    c.in_ok-at-2.ensures.reads in
    done OF_CLASS_TEXT t.spots.items l c.in_ok-block.ensures.reads
