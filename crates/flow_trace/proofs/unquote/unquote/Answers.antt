use Rattle.std.proofs.Common.{rules, ◌≡◌, sym, ap, ◌∙◌, not, true}
use Rattle.flow_base.specs.Quote.{quoted}
use Rattle.std.specs.Str.{bytes_eq}
use Rattle.std.proofs.lemmas.Bool.{false≢true}
use Rattle.std.proofs.lemmas.Slice.Eq.{bytes_eq-Decides}
use Rattle.flow_trace.proofs.Texts.{no_text, same_text, other_text}
use Rattle.flow_trace.proofs.unquote.unquote.Goals as goal

pub returns-in_default-clause-form : goal.returns-in_default-clause-form
returns-in_default-clause-form c = λ _. no_text c.args.bytes.now (sym c.in_ok-text.ensures ∙ c.in_default.is)

pub returns-then-ne-clause-form : goal.returns-then-ne-clause-form
returns-then-ne-clause-form c = λ _.
    let bytes = c.args.bytes.now in
    let found = c.in-Some.text in
    let printed : c.as_slice.result.now ≡ quoted found = search rules in
    other_text bytes found (sym c.in_ok-text.ensures ∙ c.in-Some.is)
    (λ spelled.
    let same : bytes_eq bytes c.as_slice.result.now ≡ true = (bytes_eq-Decides bytes c.as_slice.result.now).1 (spelled ∙ sym printed) in
    false≢true (ap not (sym same) ∙ sym c.ne.ensures ∙ c.if-ne.true))

pub returns-clause-every : goal.returns-clause-every
returns-clause-every c = same_text c.args.bytes.now c.in-Some.text (sym c.in_ok-text.ensures ∙ c.in-Some.is)
