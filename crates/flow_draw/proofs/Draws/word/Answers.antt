-- A word of the generator is one step of it.
use Rattle.std.proofs.Common.{◌≤◌, length, ap, ◌∙◌, arith}
use Rattle.flow_draw.proofs.Steps.{stepped}
use Rattle.flow_draw.proofs.Draws.word.Goals as goal

pub invariant_of-self-2 : goal.invariant_of-self-2
invariant_of-self-2 c =
    let d = c.self.inside in
    let past : length d.listed.items ≤ d.used = omega arith in (
      ap (λ p. p.1) c.next_word-word.ensures ∙ stepped d.seed d.used (length d.listed.items) d.generator past c.self.invariant.0,
      c.self.invariant.1,
      c.self.invariant.2,
    )
