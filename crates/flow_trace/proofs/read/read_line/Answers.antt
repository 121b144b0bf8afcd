use Rattle.std.proofs.Common.{rules, ◌≡◌, ◌⊎◌, [], ◌∷◌, ◌++◌, List, ℕ, sym, ◌∙◌, subst}
use Rattle.std.proofs.lemmas.Bool.{false≢true}
use Rattle.flow_trace.specs.Bytes.{Bytes}
use Rattle.flow_trace.proofs.Lines.{no_line, same_line, other_line}
use Rattle.flow_trace.proofs.read.read_line.Goals as goal

pub returns-in_default-clause-form : goal.returns-in_default-clause-form
returns-in_default-clause-form c = λ _. no_line c.args.bytes.now (sym c.in_ok-line.ensures ∙ c.in_default.is)

pub returns-then-not-is_spelled-clause-form : goal.returns-then-not-is_spelled-clause-form
returns-then-not-is_spelled-clause-form c = λ _.
    let bytes = c.args.bytes.now in
    let found = c.in-Some.line in
    let printed : c.bytes.result.now ≡ Bytes found = search rules in
    let one_of : List ℕ → Type 0 = λ p. (bytes ≡ p) ⊎ (bytes ++ 10 ∷ [] ≡ p) in
    other_line bytes found (sym c.in_ok-line.ensures ∙ c.in-Some.is)
    (λ spelled. false≢true (sym c.if-not-is_spelled.true ∙ c.is_spelled.ensures.1 (subst one_of (sym printed) spelled)))

pub returns-clause-every : goal.returns-clause-every
returns-clause-every c = same_line c.args.bytes.now c.in-Some.line (sym c.in_ok-line.ensures ∙ c.in-Some.is)
