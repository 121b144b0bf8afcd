use Rattle.std.proofs.Common.{◌≡◌, ◌+◌, ◌<◌, ◌≤◌, length, IfOk, ℕ, ap, sym, ◌∙◌, subst, arith, Bool, Result, Err}
use Rattle.flow_base.specs.declared.memory.NoMemory.{NoMemory}
use Rattle.flow_tree.specs.declared.token.Tokens.{Tokens}
use Rattle.flow_tree.specs.GrammarToken.{Good}
use Rattle.flow_tree.specs.GrammarDecl.{ProgramRule}
use Rattle.flow_tree.specs.DeclView.{program_of}
use Rattle.flow_tree.specs.declared.fault.SourceFault.TheVariants.{Refused}
use Rattle.flow_parse.specs.ParseAnswer.{ParseAnswer}
use Rattle.flow_expected.specs.Expected.{Decides}
use Rattle.flow_expected.proofs.Reached.{program_begins, limit_begins, refused_decides, place_there}
use Rattle.flow_expected.proofs.candidates.begins_one.Goals as goal

pub returns : goal.returns
returns c = elim c.match-parse.branch [
  | goal.in-Ok w ↦ subst P (sym w.result-is) (program_begins t c.args.last one (program_of w.in-Ok.field-0) w.in-Ok.ensures.1)
  | goal.in-Err-Refused-S-default w ↦ let r = w.in-Err-Refused-S-default in
      let told = subst (λ e. ParseAnswer t (Err e)) (r.field-0-is ∙ ap (λ x. Refused x r.at) r.field-0-0-is) r.ensures in
      let here = sym (place_there t c.args.last w.index.result.now (omega (arith, one)) w.index.ensures) in
      subst P (sym w.result-is) (refused_decides t c.args.last one c.requires.reached c.requires.apart w.is_same.result r.field-0-0-0 r.at told
      (subst (λ x. Decides w.is_same.result (r.at ≡ x)) here w.is_same.ensures))
  | goal.in-Err-Refused-L-default w ↦ let r = w.in-Err-Refused-L-default in
      subst P (sym w.result-is) (limit_begins t c.args.last one c.requires.reached r.field-0-0-0 r.field-0-1 (omega (arith, one, c.requires.few))
      (subst (λ e. ParseAnswer t (Err e)) (r.field-0-is ∙ ap (λ x. Refused x r.field-0-1) r.field-0-0-is) r.ensures))
  | goal.in-Err-Refused-K-default w ↦ let r = w.in-Err-Refused-K-default in
      absurd (subst (λ e. ParseAnswer t (Err e)) (r.field-0-is ∙ ap (λ x. Refused x r.field-0-1) r.field-0-0-is) r.ensures)
  | goal.in-Err-AcrossWait w ↦ let r = w.in-Err-AcrossWait in absurd (subst (λ e. ParseAnswer t (Err e)) r.field-0-is r.ensures)
  | goal.in-Err-OutOfMemory w ↦ subst P (sym w.result-is) tt
]
  where
    t : Tokens
    t = c.args.tokens.now

    P : Result Bool NoMemory → Type 0
    P = λ r. IfOk r (λ fits. Decides fits (Good (ProgramRule t.end) 2 t.spots.items))

    one : length t.spots.items ≡ c.args.last + 1
    one = c.requires.one_more
