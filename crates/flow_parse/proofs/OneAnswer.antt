-- What `parse` may answer is one answer, want of memory aside.
use Rattle.std.proofs.Common.{◌≡◌, ℕ, zero, suc, ◌<◌, refl, sym, ap, ◌∙◌, arith, ◌⊎◌, inl, inr}
use Rattle.std.specs.Prelude.{Result, Ok, Err}
use Rattle.flow_base.specs.declared.place.Place.{Place}
use Rattle.flow_tree.specs.declared.token.Tokens.{Tokens}
use Rattle.flow_tree.specs.declared.decl.Program.{Program}
use Rattle.flow_tree.specs.declared.fault.Rule.{Rule}
use Rattle.flow_tree.specs.declared.fault.Rule.TheVariants as rule
use Rattle.flow_tree.specs.declared.fault.SourceFault.{SourceFault}
use Rattle.flow_tree.specs.declared.fault.SourceFault.TheVariants.{Refused, AcrossWait, OutOfMemory}
use Rattle.flow_tree.specs.Decls.{ProgramTree}
use Rattle.flow_tree.specs.DeclView.{program_of}
use Rattle.flow_parse.specs.ParseAnswer.{FailsAtAll, LimitAnswer, ParseAnswer}
use Rattle.flow_parse.specs.Laws.{OneAnswer}
use Rattle.flow_parse.proofs.OneProgram.{one_program}
use Rattle.flow_parse.proofs.Verdict.{program_never_fails, limit_above, one_place}

abbrev Refusal : Rule → Place → Result ProgramTree SourceFault
Refusal k at = Err (Refused k at)

compare : (m n : ℕ) → (m < n) ⊎ ((n < m) ⊎ (m ≡ n))
compare zero zero = inr (inr refl)
compare zero (suc n) = inl (omega arith)
compare (suc m) zero = inr (inl (omega arith))
compare (suc m) (suc n) = elim (compare m n) [
  | inl l ↦ inl (omega arith)
  | inr k ↦ elim k [
    | inl l ↦ inr (inl (omega arith))
    | inr e ↦ inr (inr (ap suc e))
  ]
]

module _ (t : Tokens) where
  no_limit : (n : ℕ) (at : Place) (p : Program) → ParseAnswer t (Ok p) → LimitAnswer n t at → ⊥
  no_limit n at p a (inl x) = omega (arith, a.0, x.1.many)
  no_limit n at p a (inr x) = program_never_fails t n at (program_of p) x.greatest a.1 x.fails

  at_all_and_limit : (n : ℕ) (at to : Place) → FailsAtAll t at → LimitAnswer n t to → ⊥
  at_all_and_limit n at to f (inl x) = omega (arith, f.few, x.1.many)
  at_all_and_limit n at to f (inr x) = limit_above t 2 n at to (omega (arith, x.least)) f x

  one_at_all : (m n : ℕ) (at to : Place) → m ≡ 5 → n ≡ 5 → FailsAtAll t at → FailsAtAll t to → Refusal (rule.S m) at ≡ Refusal (rule.S n) to
  one_at_all m n at to d e f g = ap (λ k. Refusal (rule.S k) at) (d ∙ sym e) ∙ ap (Refusal (rule.S n)) (one_place t 2 2 at to (omega arith) (omega arith) f g)

  one_limit : (m n : ℕ) (at to : Place) → LimitAnswer m t at → LimitAnswer n t to → Refusal (rule.L m) at ≡ Refusal (rule.L n) to
  one_limit m n at to (inl x) (inl y) = ap (λ k. Refusal (rule.L k) at) (x.0 ∙ sym y.0) ∙ ap (Refusal (rule.L n)) (x.1.place ∙ sym y.1.place)
  one_limit m n at to (inl x) (inr y) = absurd (omega (arith, x.1.many, y.fails.few))
  one_limit m n at to (inr x) (inl y) = absurd (omega (arith, y.1.many, x.fails.few))
  one_limit m n at to (inr x) (inr y) = elim (compare m n) [
    | inl l ↦ absurd (limit_above t m n at to l x.fails y)
    | inr k ↦ elim k [
      | inl l ↦ absurd (limit_above t n m to at l y.fails x)
      | inr e ↦ ap (λ k. Refusal (rule.L k) at) e ∙ ap (Refusal (rule.L n)) (one_place t m n at to x.greatest y.greatest x.fails y.fails)
    ]
  ]

pub one_answer : OneAnswer
one_answer t (Ok p) (Ok q) a b h k = ap Ok (one_program t.end 7 7 t.spots.items (program_of p) (program_of q) a.1 b.1)
one_answer t (Ok p) (Err (Refused (rule.S n) at)) a b h k = absurd (program_never_fails t 2 at (program_of p) (omega arith) a.1 b.1)
one_answer t (Ok p) (Err (Refused (rule.L n) at)) a b h k = absurd (no_limit t n at p a b)
one_answer t (Err (Refused (rule.S n) at)) (Ok p) a b h k = absurd (program_never_fails t 2 at (program_of p) (omega arith) b.1 a.1)
one_answer t (Err (Refused (rule.L n) at)) (Ok p) a b h k = absurd (no_limit t n at p b a)
one_answer t (Err (Refused (rule.S m) at)) (Err (Refused (rule.S n) to)) a b h k = one_at_all t m n at to a.0 b.0 a.1 b.1
one_answer t (Err (Refused (rule.S m) at)) (Err (Refused (rule.L n) to)) a b h k = absurd (at_all_and_limit t n at to a.1 b)
one_answer t (Err (Refused (rule.L m) at)) (Err (Refused (rule.S n) to)) a b h k = absurd (at_all_and_limit t m to at b.1 a)
one_answer t (Err (Refused (rule.L m) at)) (Err (Refused (rule.L n) to)) a b h k = one_limit t m n at to a b
one_answer t r (Err (Refused (rule.K n) at)) a b h k = absurd b
one_answer t r (Err (AcrossWait p q w)) a b h k = absurd b
one_answer t r (Err OutOfMemory) a b h k = absurd (k refl)
one_answer t (Err (Refused (rule.K n) at)) s a b h k = absurd a
one_answer t (Err (AcrossWait p q w)) s a b h k = absurd a
one_answer t (Err OutOfMemory) s a b h k = absurd (h refl)
