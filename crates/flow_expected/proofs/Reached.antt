-- What an answer of `parse` says of the last token.
use Rattle.std.proofs.Common.{Bool, true, false, not, get_or, ◌≡◌, ◌≢◌, ℕ, suc, zero, ◌+◌, ◌<◌, ◌≤◌, List, [], ◌∷◌, ◌++◌, length, take, refl, sym, ap, ◌∙◌, subst, arith, ◌⊎◌, inl, inr, Result, Ok, Err, Option, None, Some, slice_get, unwrap_or}
use Rattle.std.specs.Option.{option_map}
use Rattle.std.proofs.Common.{take_all}
use Rattle.flow_base.specs.declared.place.Place.{Place}
use Rattle.flow_tree.specs.declared.limits.TheConstants.{TOKENS, OF_PROGRAMS}
use Rattle.flow_tree.specs.declared.token.Tokens.{Tokens}
use Rattle.flow_tree.specs.declared.token.Spot.{Spot}
use Rattle.flow_tree.specs.declared.decl.Program.{Program}
use Rattle.flow_tree.specs.Decls.{ProgramTree}
use Rattle.flow_tree.specs.DeclView.{program_of}
use Rattle.flow_tree.specs.GrammarToken.{Good}
use Rattle.flow_tree.specs.GrammarDecl.{ProgramRule, IsProgram}
use Rattle.flow_tree.specs.GrammarAnswer.{place_at}
use Rattle.flow_tree.specs.declared.fault.SourceFault.TheVariants.{Refused}
use Rattle.flow_tree.specs.declared.fault.Rule.TheVariants.{S}
use Rattle.flow_parse.specs.ParseAnswer.{ParseAnswer, GoodTo, begun, whole, FailsBy, FailsLimit, LimitAnswer, TooMany}
use Rattle.flow_parse.proofs.Verdict.{fewer_good, fewer_to, program_good}
use Rattle.flow_expected.specs.Expected.{IsReached, Decides}

-- what is good up to a token, the last one, begins some program
good_up_to : (t : Tokens) (n k : ℕ) → 2 ≤ n → GoodTo t n k → k < length t.spots.items → Good (ProgramRule t.end) 2 (take (suc k) t.spots.items)
good_up_to t n k h (begun l g) m = fewer_good OF_PROGRAMS 2 n (take (suc k) t.spots.items) h g
good_up_to t n k h (whole p d) m = absurd (omega arith)

nat_order : (a b : ℕ) → (a < b) ⊎ ((a ≡ b) ⊎ (b < a))
nat_order zero zero = inr (inl refl)
nat_order zero (suc b) = inl (omega arith)
nat_order (suc a) zero = inr (inr (omega arith))
nat_order (suc a) (suc b) = elim (nat_order a b) [
  | inl l ↦ inl (omega arith)
  | inr (inl e) ↦ inr (inl (ap suc e))
  | inr (inr l) ↦ inr (inr (omega arith))
]

none_behind : {A : Type 0} (xs : List A) → slice_get xs (length xs) ≡ None
none_behind [] = refl
none_behind (x ∷ xs) = none_behind xs

place_of_end : (t : Tokens) → place_at t (length t.spots.items) ≡ t.end
place_of_end t = ap (λ o. unwrap_or (option_map (λ s. s.at) o) t.end) (none_behind t.spots.items)

-- the place of a token that is there
pub place_there : (t : Tokens) (k : ℕ) (s : Spot) → k < length t.spots.items → s ≡ get_or t.spots.items k s → place_at t k ≡ s.at
place_there t k s h e = ap (λ o. unwrap_or (option_map (λ x. x.at) o) t.end) (there t.spots.items k s h) ∙ sym (ap (λ x. x.at) e)
  where
    there : {A : Type 0} (xs : List A) (i : ℕ) (d : A) → i < length xs → slice_get xs i ≡ Some (get_or xs i d)
    there [] i d l = absurd (omega arith)
    there (x ∷ xs) zero d l = refl
    there (x ∷ xs) (suc i) d l = there xs i d (omega arith)

module _ (t : Tokens) (last : ℕ) (one_more : length t.spots.items ≡ last + 1) where
  all : Good (ProgramRule t.end) 2 (take (suc last) t.spots.items) → Good (ProgramRule t.end) 2 t.spots.items
  all g = subst (Good (ProgramRule t.end) 2) (take_all (suc last) t.spots.items (omega arith)) g

  pub program_begins : (p : ProgramTree) → IsProgram t p → Good (ProgramRule t.end) 2 t.spots.items
  program_begins p d = all (good_up_to t 7 last (omega arith) (program_good t 7 last p (omega arith) d) (omega arith))

  -- a token that is refused is the last one or the end
  module _ (reached : IsReached t last) where
    behind : (n : ℕ) (at : Place) → n ≤ 7 → (f : FailsBy n t at) → f.number < last → ⊥
    behind n at h f l = f.bad (fewer_to t n 7 f.number h (reached f.number l))

    pub end_begins : (n : ℕ) (at : Place) → (f : FailsBy n t at) → last < f.number → Good (ProgramRule t.end) 2 t.spots.items
    end_begins n at f l = all (good_up_to t 7 last (omega arith) (f.first last l) (omega arith))

    limit_of : (n : ℕ) (at : Place) → LimitAnswer n t at → length t.spots.items ≤ TOKENS → FailsLimit n t at
    limit_of n at (inl x) few = absurd (omega (arith, x.1.many))
    limit_of n at (inr f) few = f

    pub limit_begins : (n : ℕ) (at : Place) → length t.spots.items ≤ TOKENS → LimitAnswer n t at → Good (ProgramRule t.end) 2 t.spots.items
    limit_begins n at few h = by_place (limit_of n at h few)
      where
        by_place : FailsLimit n t at → Good (ProgramRule t.end) 2 t.spots.items
        by_place f = elim (nat_order f.fails.number last) [
          | inl l ↦ absurd (behind n at f.greatest f.fails l)
          | inr (inl e) ↦ all (good_up_to t 2 last (omega arith) (subst (GoodTo t 2) e (f.below 2 (omega (arith, f.least)))) (omega arith))
          | inr (inr l) ↦ end_begins n at f.fails l
        ]

    module _ (apart : place_at t last ≢ t.end) where
      pub later_begins : (at : Place) → FailsBy 2 t at → at ≢ place_at t last → Good (ProgramRule t.end) 2 t.spots.items
      later_begins at f other = elim (nat_order f.number last) [
        | inl l ↦ absurd (behind 2 at (omega arith) f l)
        | inr (inl e) ↦ absurd (other (f.place ∙ ap (place_at t) e))
        | inr (inr l) ↦ end_begins 2 at f l
      ]

      pub last_never : (at : Place) → FailsBy 2 t at → at ≡ place_at t last → Good (ProgramRule t.end) 2 t.spots.items → ⊥
      last_never at f same g = elim (nat_order f.number last) [
        | inl l ↦ behind 2 at (omega arith) f l
        | inr (inl e) ↦ f.bad (subst (GoodTo t 2) (sym e) (begun (omega arith) (subst (Good (ProgramRule t.end) 2) (sym (take_all (suc last) t.spots.items (omega arith))) g)))
        | inr (inr l) ↦ apart (sym same ∙ f.place ∙ ap (place_at t) (omega (arith, f.within)) ∙ place_of_end t)
      ]

      -- what is answered of a refusal by S5 is whether its place is another one
      pub refused_decides : (same : Bool) (n : ℕ) (at : Place) → ParseAnswer t (Err (Refused (S n) at)) → Decides same (at ≡ place_at t last)
          → Decides (not same) (Good (ProgramRule t.end) 2 t.spots.items)
      refused_decides true n at h d = last_never at h.1 d
      refused_decides false n at h d = later_begins at h.1 d

-- the first token at the place of a refusal is reached, and the refusal stands there
module _ (t : Tokens) (at : Place) (f : FailsBy 2 t at) (number : ℕ) (within : number ≤ length t.spots.items)
    (first : (j : ℕ) → j < number → place_at t j ≢ at) where
  up_to : number ≤ f.number
  up_to = elim (nat_order number f.number) [
    | inl l ↦ omega (arith, l)
    | inr (inl e) ↦ omega (arith, e)
    | inr (inr l) ↦ absurd (first f.number l (sym f.place))
  ]

  pub reached_first : IsReached t number
  reached_first j l = f.first j (omega (arith, up_to))

  pub refused_there : (number < length t.spots.items → place_at t number ≡ at) → FailsBy 2 t (place_at t number)
  refused_there there = subst (FailsBy 2 t) (same (nat_order number (length t.spots.items))) f
    where
      same : (number < length t.spots.items) ⊎ ((number ≡ length t.spots.items) ⊎ (length t.spots.items < number)) → at ≡ place_at t number
      same (inl l) = sym (there l)
      same (inr (inl e)) = f.place ∙ ap (place_at t) (omega (arith, e, up_to, f.within))
      same (inr (inr l)) = absurd (omega (arith, l))
