-- Counts of what runs show, one more at a time.
use Rattle.std.proofs.Common.{◌≡◌, ◌≢◌, ℕ, suc, zero, ◌+◌, ◌<◌, ◌≤◌, Bool, List, [], ◌∷◌, length, get_or, set, get_or-set_same, get_or-set_other, arith, below_more, ap, sym, ◌∙◌, refl}
use Rattle.std.specs.Prelude.{slice_get}
use Rattle.std.proofs.lemmas.List.{same_lists, get_or_default, length-set}
use Rattle.flow_sweep.specs.Sweeps.{counted, with_shown}

module _ (bs : List Bool) where
  abbrev here : ℕ → ℕ → ℕ
  here k n = counted (slice_get bs k) n

  counted_at : (k j : ℕ) (ns : List ℕ) → j < length ns → get_or (with_shown bs k ns) j 0 ≡ here (k + j) (get_or ns j 0)
  counted_at k zero (n ∷ ns) lt = ap (λ m. here m n) (omega arith)
  counted_at k (suc j) (n ∷ ns) lt = counted_at (suc k) j ns (omega (arith, lt)) ∙ ap (λ m. here m (get_or ns j 0)) (omega arith)
  counted_at k j [] lt = absurd (omega (arith, lt))

  counted_many : (k : ℕ) (ns : List ℕ) → length (with_shown bs k ns) ≡ length ns
  counted_many k [] = refl
  counted_many k (n ∷ ns) = ap suc (counted_many (suc k) ns)

  -- so far the first k are counted
  pub record CountedTo (old now : List ℕ) (k : ℕ) : Type 0 where
    pub many : length now ≡ length old
    pub done : (j : ℕ) → j < k → get_or now j 0 ≡ here j (get_or old j 0)
    pub rest : (j : ℕ) → k ≤ j → get_or now j 0 ≡ get_or old j 0

  pub none_counted : (old : List ℕ) → CountedTo old old 0
  none_counted old = record { many = refl; done = λ j low. absurd (omega (arith, low)); rest = λ j high. refl }

  pub one_counted : (old now : List ℕ) (k n : ℕ) → k < length now → n ≡ here k (get_or now k 0) → CountedTo old now k
      → CountedTo old (set now k n) (k + 1)
  one_counted old now k n lt is m = record {
    many = length-set now k n ∙ m.many;
    done = below_more _ _ (λ j low. let ne : j ≢ k = omega arith in get_or-set_other now k j n 0 ne ∙ m.done j low)
        (get_or-set_same now k n 0 lt ∙ is ∙ ap (here k) (m.rest k (omega arith)));
    rest = λ j high. let ne : j ≢ k = omega arith in let ge : k ≤ j = omega arith in get_or-set_other now k j n 0 ne ∙ m.rest j ge;
  }

  pub all_counted : (old now : List ℕ) (k : ℕ) → length now ≤ k → CountedTo old now k → now ≡ with_shown bs 0 old
  all_counted old now k all m =
      same_lists now (with_shown bs 0 old) (m.many ∙ sym (counted_many 0 old)) (λ j d lt.
      let low : j < k = omega (arith, lt, all) in
      let low' : j < length old = omega (arith, lt, m.many) in
      let same : j ≡ 0 + j = omega arith in
      get_or_default now j d 0 lt ∙ m.done j low ∙ ap (λ n. here n (get_or old j 0)) same ∙ sym (counted_at 0 j old low')
      ∙ sym (get_or_default (with_shown bs 0 old) j d 0 (omega (arith, low', counted_many 0 old))))
