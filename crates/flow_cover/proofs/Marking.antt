-- Marks, one branch after another.
use Rattle.std.proofs.Common.{◌≡◌, ◌≢◌, ℕ, suc, zero, ◌+◌, ◌<◌, ◌≤◌, Bool, false, ◌||◌, List, [], ◌∷◌, length, get_or, set, get_or-set_same, get_or-set_other, arith, below_more, ap, ap₂, sym, ◌∙◌, refl}
use Rattle.std.specs.Prelude.{slice_get}
use Rattle.std.proofs.lemmas.List.{same_lists, get_or_default, length-set}
use Rattle.flow_trace.specs.declared.line.Line.{Line}
use Rattle.flow_explain.specs.Living.{Telling}
use Rattle.flow_cover.specs.Covers.{Branch, takes_one, marked}

module _ (s : Telling) (l : Line) (bs : List Branch) where
  abbrev here : ℕ → Bool → Bool
  here k m = m || takes_one s l (slice_get bs k)

  marked_at : (k j : ℕ) (ms : List Bool) → j < length ms → get_or (marked s l bs k ms) j false ≡ here (k + j) (get_or ms j false)
  marked_at k zero (m ∷ ms) lt = ap (λ n. here n m) (omega arith)
  marked_at k (suc j) (m ∷ ms) lt = marked_at (suc k) j ms (omega (arith, lt)) ∙ ap (λ n. here n (get_or ms j false)) (omega arith)
  marked_at k j [] lt = absurd (omega (arith, lt))

  marked_many : (k : ℕ) (ms : List Bool) → length (marked s l bs k ms) ≡ length ms
  marked_many k [] = refl
  marked_many k (m ∷ ms) = ap suc (marked_many (suc k) ms)

  -- so far the first k are marked
  pub record MarkedTo (old now : List Bool) (k : ℕ) : Type 0 where
    pub many : length now ≡ length old
    pub done : (j : ℕ) → j < k → get_or now j false ≡ here j (get_or old j false)
    pub rest : (j : ℕ) → k ≤ j → get_or now j false ≡ get_or old j false

  pub none_marked : (old : List Bool) → MarkedTo old old 0
  none_marked old = record { many = refl; done = λ j low. absurd (omega (arith, low)); rest = λ j high. refl }

  pub one_marked : (old now : List Bool) (k : ℕ) (b : Bool) → k < length now → b ≡ here k (get_or now k false) → MarkedTo old now k
      → MarkedTo old (set now k b) (k + 1)
  one_marked old now k b lt is m = record {
    many = length-set now k b ∙ m.many;
    done = below_more _ _ (λ j low. let ne : j ≢ k = omega arith in get_or-set_other now k j b false ne ∙ m.done j low)
        (get_or-set_same now k b false lt ∙ is ∙ ap (here k) (m.rest k (omega arith)));
    rest = λ j high. let ne : j ≢ k = omega arith in let ge : k ≤ j = omega arith in get_or-set_other now k j b false ne ∙ m.rest j ge;
  }

  pub all_marked : (old now : List Bool) (k : ℕ) → length now ≤ k → MarkedTo old now k → now ≡ marked s l bs 0 old
  all_marked old now k all m =
      same_lists now (marked s l bs 0 old) (m.many ∙ sym (marked_many 0 old)) (λ j d lt.
      let low : j < k = omega (arith, lt, all) in
      let low' : j < length old = omega (arith, lt, m.many) in
      let same : j ≡ 0 + j = omega arith in
      get_or_default now j d false lt ∙ m.done j low ∙ ap (λ n. here n (get_or old j false)) same ∙ sym (marked_at 0 j old low')
      ∙ sym (get_or_default (marked s l bs 0 old) j d false (omega (arith, low', marked_many 0 old))))
