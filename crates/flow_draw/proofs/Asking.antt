-- What is noted of many questions.
use Rattle.std.proofs.Common.{◌≡◌, ℕ, zero, suc, ◌+◌, List, [], ◌∷◌, ◌++◌, length, take, refl, ap, ap₂, sym, ◌∙◌, arith}
use Rattle.std.specs.Prelude.{fold}
use Rattle.std.proofs.lemmas.List.{append_assoc, append-nil, length-append}
use Rattle.std.proofs.lemmas.List.Sums.{fold-append}
use Rattle.flow_draw.specs.declared.question.Question.{Question}
use Rattle.flow_draw.specs.Words.{Drawn, noted_in, asked}

-- questions that follow others
pub asked_more : (d : Drawn) (ps qs : List Question) → asked (asked d ps) qs ≡ asked d (ps ++ qs)
asked_more d ps qs =
    let long : d.used + length ps + length qs ≡ d.used + length (ps ++ qs) = omega (arith, length-append ps qs) in
    ap₂ (λ n ns. record d { used = n; noted = ns }) long (sym (fold-append (noted_in d.room) d.noted ps qs))

-- one more note is one more of the questions, and after room none
one_more : (room : ℕ) (ps : List Question) (q : Question) → noted_in room (take room ps) q ≡ take room (ps ++ q ∷ [])
one_more zero ps q = refl
one_more (suc n) [] q = refl
one_more (suc n) (p ∷ ps) q = ap (λ rs. p ∷ rs) (one_more n ps q)

-- where the first of the questions before are noted, the first of all are noted after
pub first_noted : (room : ℕ) (ps qs : List Question) → fold (noted_in room) (take room ps) qs ≡ take room (ps ++ qs)
first_noted room ps [] = ap (take room) (sym (append-nil ps))
first_noted room ps (q ∷ qs) =
    ap (λ ns. fold (noted_in room) ns qs) (one_more room ps q)
    ∙ first_noted room (ps ++ q ∷ []) qs
    ∙ ap (take room) (append_assoc ps (q ∷ []) qs)
