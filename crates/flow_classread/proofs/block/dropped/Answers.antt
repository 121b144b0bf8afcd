use Rattle.std.proofs.Common.{refl, sym, subst, ◌+◌}
use Rattle.std.proofs.lemmas.Result.{err_from_is_err_and}
use Rattle.flow_tree.specs.declared.limits.TheConstants.{OF_CLASS_TEXT}
use Rattle.flow_tree.specs.declared.token.Token.TheVariants as token
use Rattle.flow_tree.specs.declared.token.Sign.TheVariants as sign
use Rattle.flow_parse.specs.Reading.{token_at, Any, Reads}
use Rattle.flow_parse.specs.Follow.{NotBefore}
use Rattle.flow_parse.proofs.Looking.{not_true}
use Rattle.flow_parse.proofs.Leaves.{nothing, narrow, become, done, fails, tok_reads}
use Rattle.flow_classread.specs.Parts.{Dropped}
use Rattle.flow_classread.proofs.Combine.{closed_reads, closed_fails}
use Rattle.flow_classread.proofs.BlockForms.{none_dropped, some_dropped_turns}
use Rattle.flow_classread.proofs.block.dropped.Goals as goal

pub returns-then-is_sign-clause-reads : goal.returns-then-is_sign-clause-reads
returns-then-is_sign-clause-reads c =
    let t = c.args.tokens.now in
    let e = c.if-is_sign.ensures.sign.0 refl in
    subst (λ z. Reads OF_CLASS_TEXT Dropped Any t.spots.items c.args.at z (c.args.at + 1)) (sym c.new.ensures.items)
    (become OF_CLASS_TEXT t.spots.items e none_dropped (tok_reads OF_CLASS_TEXT t c.args.at (token.Sign sign.CloseRound) e))

pub returns-in_err-locals-clause-reads : goal.returns-in_err-locals-clause-reads
returns-in_err-locals-clause-reads c =
    let t = c.args.tokens.now in
    let l = narrow OF_CLASS_TEXT t.spots.items refl (some_dropped_turns (token_at t.spots.items c.args.at) (λ e. not_true (c.if-is_sign.ensures.sign.1 e)))
    (nothing OF_CLASS_TEXT t.spots.items Dropped Any c.args.at c.requires.within) in
    let p = err_from_is_err_and c.from_residual.result c.from_residual.ensures.1 in
    rw (p.1, p.2) (closed_fails t (token.Sign sign.CloseRound) (NotBefore (token.Sign sign.Comma)) (λ b p z e. absurd (cc)) l _ c.in_err-locals.ensures.reads)

pub returns-in_err-to-clause-reads : goal.returns-in_err-to-clause-reads
returns-in_err-to-clause-reads c =
    let t = c.args.tokens.now in
    let l = narrow OF_CLASS_TEXT t.spots.items refl (some_dropped_turns (token_at t.spots.items c.args.at) (λ e. not_true (c.if-is_sign.ensures.sign.1 e)))
    (nothing OF_CLASS_TEXT t.spots.items Dropped Any c.args.at c.requires.within) in
    let m = closed_reads t (token.Sign sign.CloseRound) (NotBefore (token.Sign sign.Comma)) (λ b p z e. absurd (cc)) l c.in_ok-locals.ensures.reads in
    let p = err_from_is_err_and c.from_residual-in_err-to.result c.from_residual-in_err-to.ensures.1 in
    rw (p.1, p.2) (fails OF_CLASS_TEXT t m _ (c.in_err-to.ensures.reads OF_CLASS_TEXT))

pub returns-clause-reads : goal.returns-clause-reads
returns-clause-reads c =
    let t = c.args.tokens.now in
    let l = narrow OF_CLASS_TEXT t.spots.items refl (some_dropped_turns (token_at t.spots.items c.args.at) (λ e. not_true (c.if-is_sign.ensures.sign.1 e)))
    (nothing OF_CLASS_TEXT t.spots.items Dropped Any c.args.at c.requires.within) in
    let m = closed_reads t (token.Sign sign.CloseRound) (NotBefore (token.Sign sign.Comma)) (λ b p z e. absurd (cc)) l c.in_ok-locals.ensures.reads in
    done OF_CLASS_TEXT t.spots.items m (c.in_ok-to.ensures.reads OF_CLASS_TEXT)
