use Rattle.std.proofs.Common.{◌∙◌, sym}
use Rattle.flow_lex.proofs.Tables.{sign_found, sign_missing}
use Rattle.flow_lex.proofs.Tokens.{found_token, sign_two, sign_one, sign_none}
use Rattle.flow_lex.proofs.sign.sign_token.Goals as goal

pub returns-in-Some : goal.returns-in-Some
returns-in-Some c = λ before e.
    found_token c.args.text.now _ 2 c.requires.apart (sign_two c.args.text.now c.in-Some.sign c.requires.first c.in-Some.ensures.some.0 c.in-Some.ensures.some.1) tt

pub returns-in-Some-sign_of : goal.returns-in-Some-sign_of
returns-in-Some-sign_of c = λ before e.
    found_token c.args.text.now _ 1 c.requires.apart
    (sign_one c.args.text.now c.in-Some-sign_of.sign c.requires.first c.requires.some
    (sign_found c.front.result.now c.in-Some-sign_of.sign c.in-Some-sign_of.ensures ∙ c.front.ensures)
    (c.long_sign.ensures.none c.in_default.is)) tt

pub returns : goal.returns
returns c =
    sign_none c.args.text.now c.args.at c.requires.apart c.requires.first c.requires.some
    (λ h q. sign_missing c.front.result.now c.in_default-sign_of.ensures h (q ∙ sym c.front.ensures))
    (c.long_sign.ensures.none c.in_default.is)
