use Rattle.std.proofs.Common.{◌+◌, ◌∙◌, sym, ap, subst, length, length-drop, Err, arith}
use Rattle.flow_lex.specs.Next.{InsideAt, NextAfter}
use Rattle.flow_lex.proofs.Tokens.{found_token, big_token, open_refusal, no_rest, line_rest, inside_refusal, text_found}
use Rattle.flow_lex.proofs.quoted.text_token.Goals as goal

pub returns-then-rest-eq0 : goal.returns-then-rest-eq0
returns-then-rest-eq0 c = λ before e.
    let i = subst (λ w. InsideAt w c.in_ok-held.held.items c.in_ok-held.n) c.after.ensures c.in_ok-held.ensures in
    subst (λ f. NextAfter before c.args.text.now (Err f)) (sym c.refused.ensures)
    (open_refusal c.args.text.now c.in_ok-held.held.items c.after-rest.result.now c.in_ok-held.n c.args.at c.requires.some c.requires.first i c.after-rest.ensures
    (no_rest c.after-rest.result.now (omega arith)) before e)

pub returns-then-rest-eq10 : goal.returns-then-rest-eq10
returns-then-rest-eq10 c = λ before e.
    let i = subst (λ w. InsideAt w c.in_ok-held.held.items c.in_ok-held.n) c.after.ensures c.in_ok-held.ensures in
    subst (λ f. NextAfter before c.args.text.now (Err f)) (sym c.refused-then-rest-eq10.ensures)
    (open_refusal c.args.text.now c.in_ok-held.held.items c.after-rest.result.now c.in_ok-held.n c.args.at c.requires.some c.requires.first i c.after-rest.ensures
    (line_rest c.after-rest.result.now (omega arith) (omega arith)) before e)

pub returns-then-rest-ne34 : goal.returns-then-rest-ne34
returns-then-rest-ne34 c = λ before e.
    let i = subst (λ w. InsideAt w c.in_ok-held.held.items c.in_ok-held.n) c.after.ensures c.in_ok-held.ensures in
    subst (λ f. NextAfter before c.args.text.now (Err f)) (sym c.refused-then-rest-ne34.ensures)
    (inside_refusal c.args.text.now c.in_ok-held.held.items c.after-rest.result.now c.in_ok-held.n c.args.at c.past.result c.requires.some c.requires.first i c.after-rest.ensures
    (omega arith) (λ q. omega arith) (λ q. omega arith) c.past.ensures before e)

pub returns-then-bytes-gt-LIMIT : goal.returns-then-bytes-gt-LIMIT
returns-then-bytes-gt-LIMIT c = λ before e.
    let i = subst (λ w. InsideAt w c.in_ok-held.held.items c.in_ok-held.n) c.after.ensures c.in_ok-held.ensures in
    subst (λ f. NextAfter before c.args.text.now (Err f)) (sym c.refused-then-bytes-gt-LIMIT.ensures)
    (big_token c.args.text.now _ (c.in_ok-held.n + 2) c.args.at c.requires.apart
    (text_found c.args.text.now c.in_ok-held.held.items c.as_slice-bytes.result.now c.after-rest.result.now c.in_ok-held.n c.requires.some c.requires.first i c.after-rest.ensures
    (omega arith) (omega arith) (omega (arith, i.within, length-drop 1 c.args.text.now)) c.as_slice-bytes.ensures.value)
    (λ b. omega (arith, b, c.if-bytes-gt-LIMIT.true)) before e)

pub returns : goal.returns
returns c = λ before e.
    let i = subst (λ w. InsideAt w c.in_ok-held.held.items c.in_ok-held.n) c.after.ensures c.in_ok-held.ensures in
    let same = c.in_ok-new.ensures ∙ c.as_slice-bytes.ensures.value in
    found_token c.args.text.now _ (c.in_ok-held.n + 2) c.requires.apart
    (text_found c.args.text.now c.in_ok-held.held.items c.in_ok-new.field-0 c.after-rest.result.now c.in_ok-held.n c.requires.some c.requires.first i c.after-rest.ensures
    (omega arith) (omega arith) (omega (arith, i.within, length-drop 1 c.args.text.now)) same)
    (omega (arith, ap length c.in_ok-new.ensures, c.if-bytes-gt-LIMIT.false))
