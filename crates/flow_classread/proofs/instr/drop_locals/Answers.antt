use Rattle.std.proofs.lemmas.Result.{err_from_is_err_and}
use Rattle.flow_tree.specs.declared.limits.TheConstants.{OF_CLASS_TEXT}
use Rattle.flow_parse.proofs.Leaves.{done, fails, nothing}
use Rattle.flow_classread.proofs.Combine.{closed_fails, closed_reads}
use Rattle.flow_class.specs.Classes.{DropInstr}
use Rattle.flow_tree.specs.declared.token.Token.TheVariants as token
use Rattle.flow_tree.specs.declared.token.Sign.TheVariants as sign
use Rattle.flow_parse.specs.Reading.{Any}
use Rattle.flow_parse.specs.Follow.{NotBefore}
use Rattle.flow_classread.proofs.Combine.{as_left}
use Rattle.flow_classread.specs.Parts.{DropInstrPart, DropLocals}
use Rattle.flow_classread.proofs.instr.drop_locals.Goals as goal

pub returns-in_err-locals-clause-reads : goal.returns-in_err-locals-clause-reads
returns-in_err-locals-clause-reads c =
    let t = c.args.tokens.now in
    let l = as_left DropInstr DropLocals t (nothing OF_CLASS_TEXT t.spots.items DropInstrPart Any c.args.at c.requires.within) in
    let p = err_from_is_err_and c.from_residual.result c.from_residual.ensures.1 in
    rw (p.1, p.2) (closed_fails t (token.Sign sign.Semicolon) (NotBefore (token.Sign sign.Comma)) (λ b p z e. absurd (cc)) l _ c.in_err-locals.ensures.reads)

pub returns-in_err-to-clause-reads : goal.returns-in_err-to-clause-reads
returns-in_err-to-clause-reads c =
    let t = c.args.tokens.now in
    let l = closed_reads t (token.Sign sign.Semicolon) (NotBefore (token.Sign sign.Comma)) (λ b p z e. absurd (cc))
    (as_left DropInstr DropLocals t (nothing OF_CLASS_TEXT t.spots.items DropInstrPart Any c.args.at c.requires.within)) c.in_ok-locals.ensures.reads in
    let p = err_from_is_err_and c.from_residual-in_err-to.result c.from_residual-in_err-to.ensures.1 in
    rw (p.1, p.2) (fails OF_CLASS_TEXT t l _ (c.in_err-to.ensures.reads OF_CLASS_TEXT))

pub returns-clause-reads : goal.returns-clause-reads
returns-clause-reads c =
    let t = c.args.tokens.now in
    let l = closed_reads t (token.Sign sign.Semicolon) (NotBefore (token.Sign sign.Comma)) (λ b p z e. absurd (cc))
    (as_left DropInstr DropLocals t (nothing OF_CLASS_TEXT t.spots.items DropInstrPart Any c.args.at c.requires.within)) c.in_ok-locals.ensures.reads in
    done OF_CLASS_TEXT t.spots.items l (c.in_ok-to.ensures.reads OF_CLASS_TEXT)
