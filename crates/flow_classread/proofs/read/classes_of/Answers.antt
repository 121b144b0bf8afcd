use Rattle.std.proofs.Common.{arith}
use Rattle.std.proofs.lemmas.Result.{err_from_is_err_and}
use Rattle.flow_classread.proofs.RisingTokens.{rising}
use Rattle.flow_classread.proofs.Exactly.{is_class_text}
use Rattle.flow_classread.proofs.Reached.{no_text_by_tokens, no_text}
use Rattle.flow_classread.proofs.read.classes_of.Goals as goal

pub returns-in_err-tokens : goal.returns-in_err-tokens
returns-in_err-tokens c =
    let p = err_from_is_err_and c.from_residual.result c.from_residual.ensures.1 in
    rw (p.1, p.2) (no_text_by_tokens c.args.bytes.now _ c.requires c.in_err-tokens.ensures)

pub text-requires : goal.text-requires
text-requires c = record { rising = rising c.args.bytes.now c.in_ok-tokens.tokens (omega (arith, c.requires)) c.in_ok-tokens.ensures }

pub returns-in-Ok : goal.returns-in-Ok
returns-in-Ok c = is_class_text c.in_ok-tokens.tokens c.args.bytes.now _ c.requires c.in_ok-tokens.ensures c.in-Ok.ensures.reads

pub returns : goal.returns
returns c = rw c.form.ensures (no_text c.args.bytes.now c.in_ok-tokens.tokens c.in-Err.fault c.requires c.in_ok-tokens.ensures c.in-Err.ensures.reads)
