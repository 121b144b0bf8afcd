use Rattle.std.proofs.lemmas.Result.{err_from_is_err_and}
use Rattle.flow_tree.specs.declared.limits.TheConstants.{OF_CLASS_TEXT}
use Rattle.flow_parse.proofs.Leaves.{done, fails, first_fails, then_reads, nothing, narrow}
use Rattle.flow_classread.proofs.Combine.{any_token, closed_fails, closed_reads}
use Rattle.flow_tree.specs.declared.token.Token.TheVariants as token
use Rattle.flow_tree.specs.declared.token.Sign.TheVariants as sign
use Rattle.flow_parse.specs.Reading.{token_at, Any}
use Rattle.std.proofs.Common.{refl}
use Rattle.flow_classprint.specs.ClassGrammar.{SlotRule}
use Rattle.flow_classread.proofs.ClassForms.{slot_turns, slot_number_link, slot_type_link}
use Rattle.flow_classread.proofs.class.slot.Goals as goal

pub returns-in_err-at-clause-reads : goal.returns-in_err-at-clause-reads
returns-in_err-at-clause-reads c =
    let t = c.args.tokens.now in
    let l = narrow OF_CLASS_TEXT t.spots.items refl (slot_turns c.args.n (token_at t.spots.items c.args.at) c.ranges.n.fits)
    (nothing OF_CLASS_TEXT t.spots.items (SlotRule c.args.n) Any c.args.at c.requires.within) in
    let p = err_from_is_err_and c.from_residual.result c.from_residual.ensures.1 in
    rw (p.1, p.2) (first_fails OF_CLASS_TEXT t (slot_number_link c.args.n) l _ c.in_err-at.ensures.reads)

pub returns-in_err-ty-clause-reads : goal.returns-in_err-ty-clause-reads
returns-in_err-ty-clause-reads c =
    let t = c.args.tokens.now in
    let l = then_reads OF_CLASS_TEXT t.spots.items (slot_number_link c.args.n)
    (narrow OF_CLASS_TEXT t.spots.items refl (slot_turns c.args.n (token_at t.spots.items c.args.at) c.ranges.n.fits)
    (nothing OF_CLASS_TEXT t.spots.items (SlotRule c.args.n) Any c.args.at c.requires.within)) c.in_ok-at.ensures.reads in
    let p = err_from_is_err_and c.from_residual-in_err-ty.result c.from_residual-in_err-ty.ensures.1 in
    rw (p.1, p.2) (first_fails OF_CLASS_TEXT t slot_type_link l _ (c.in_err-ty.ensures.reads OF_CLASS_TEXT))

pub returns-in_err-name-clause-reads : goal.returns-in_err-name-clause-reads
returns-in_err-name-clause-reads c =
    let t = c.args.tokens.now in
    let l = then_reads OF_CLASS_TEXT t.spots.items slot_type_link
    (then_reads OF_CLASS_TEXT t.spots.items (slot_number_link c.args.n)
    (narrow OF_CLASS_TEXT t.spots.items refl (slot_turns c.args.n (token_at t.spots.items c.args.at) c.ranges.n.fits)
    (nothing OF_CLASS_TEXT t.spots.items (SlotRule c.args.n) Any c.args.at c.requires.within)) c.in_ok-at.ensures.reads) (c.in_ok-ty.ensures.reads OF_CLASS_TEXT) in
    let p = err_from_is_err_and c.from_residual-in_err-name.result c.from_residual-in_err-name.ensures.1 in
    rw (p.1, p.2) (closed_fails t (token.Sign sign.Semicolon) Any (any_token (token.Sign sign.Semicolon)) l _ (c.in_err-name.ensures.reads OF_CLASS_TEXT))

pub returns-in_err-to-clause-reads : goal.returns-in_err-to-clause-reads
returns-in_err-to-clause-reads c =
    let t = c.args.tokens.now in
    let l = closed_reads t (token.Sign sign.Semicolon) Any (any_token (token.Sign sign.Semicolon))
    (then_reads OF_CLASS_TEXT t.spots.items slot_type_link (then_reads OF_CLASS_TEXT t.spots.items (slot_number_link c.args.n)
    (narrow OF_CLASS_TEXT t.spots.items refl (slot_turns c.args.n (token_at t.spots.items c.args.at) c.ranges.n.fits)
    (nothing OF_CLASS_TEXT t.spots.items (SlotRule c.args.n) Any c.args.at c.requires.within)) c.in_ok-at.ensures.reads) (c.in_ok-ty.ensures.reads OF_CLASS_TEXT))
    (c.in_ok-name.ensures.reads OF_CLASS_TEXT) in
    let p = err_from_is_err_and c.from_residual-in_err-to.result c.from_residual-in_err-to.ensures.1 in
    rw (p.1, p.2) (fails OF_CLASS_TEXT t l _ (c.in_err-to.ensures.reads OF_CLASS_TEXT))

pub returns-clause-reads : goal.returns-clause-reads
returns-clause-reads c =
    let t = c.args.tokens.now in
    let l = closed_reads t (token.Sign sign.Semicolon) Any (any_token (token.Sign sign.Semicolon))
    (then_reads OF_CLASS_TEXT t.spots.items slot_type_link (then_reads OF_CLASS_TEXT t.spots.items (slot_number_link c.args.n)
    (narrow OF_CLASS_TEXT t.spots.items refl (slot_turns c.args.n (token_at t.spots.items c.args.at) c.ranges.n.fits)
    (nothing OF_CLASS_TEXT t.spots.items (SlotRule c.args.n) Any c.args.at c.requires.within)) c.in_ok-at.ensures.reads) (c.in_ok-ty.ensures.reads OF_CLASS_TEXT))
    (c.in_ok-name.ensures.reads OF_CLASS_TEXT) in
    done OF_CLASS_TEXT t.spots.items l (c.in_ok-to.ensures.reads OF_CLASS_TEXT)
