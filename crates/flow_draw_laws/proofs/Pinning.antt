-- A world that lists the words which its run takes.
use Rattle.std.proofs.Common.{◌≡◌, ◌<◌, ℕ, zero, suc, ◌-◌, Bool, true, false, nat_lt, if◌then◌else◌, [], ◌∷◌, length, slice_index, refl, sym, ◌∙◌, ◌⊎◌, inl, inr, subst, arith}
use Rattle.std.proofs.lemmas.Bool.Decides.{nat_tests}
use Rattle.std.proofs.lemmas.List.{get_or_append_left, get_or_push}
use Rattle.flow_worldfile.specs.Worlds as file
use Rattle.flow_draw.specs.Words.{word_at, output_at}
use Rattle.flow_simplify.specs.Pinning.{first_words, pinned}
use Rattle.flow_simplify.proofs.WithWords.{first_words_many}
use Rattle.flow_meaning.specs.Process.{Engine}
use Rattle.flow_draw_laws.specs.Listed.{PinnedRun}
use Rattle.flow_draw_laws.proofs.Parted.{same_or_not}
use Rattle.flow_draw_laws.proofs.Listed.{same_taken}

-- the words that are listed so are those of the world
first_word : (w : file.World) (n k : ℕ) → k < n → slice_index (first_words w n) k ≡ word_at w.seed w.words k
first_word w zero k h = absurd (omega (arith, h))
first_word w (suc n) k h = by (same_or_not k n) (first_word w n k)
  where
    by : (k ≡ n) ⊎ ((k ≡ n) → ⊥) → (k < n → slice_index (first_words w n) k ≡ word_at w.seed w.words k)
        → slice_index (first_words w (suc n)) k ≡ word_at w.seed w.words k
    by (inl e) f =
        subst (λ i. slice_index (first_words w (suc n)) i ≡ word_at w.seed w.words i) (sym e)
        (get_or_push (first_words w n) (word_at w.seed w.words n) 0 n (first_words_many w n))
    by (inr d) f =
        let many = first_words_many w n in
        let l : k < n = grind (arith, h, d) in
        get_or_append_left (first_words w n) (word_at w.seed w.words n ∷ []) 0 k (omega (arith, many, l)) ∙ f l

in_list : (b : Bool) (x y : ℕ) → b ≡ true → (if b then x else y) ≡ x
in_list true x y h = refl
in_list false x y h = absurd (not_so h)
  where
    not_so : false ≡ true → ⊥
    not_so h = cc

pinned_word : (w : file.World) (n seed k : ℕ) → k < n → word_at w.seed w.words k ≡ word_at seed (first_words w n) k
pinned_word w n seed k h =
    let many = first_words_many w n in
    sym (in_list (nat_lt k (length (first_words w n))) (slice_index (first_words w n) k) (output_at seed (k - length (first_words w n))) (grind (arith, nat_tests, h, many))
    ∙ first_word w n k h)

module _ {A : Type 0} (e : Engine A) where
  pub pinned_run : PinnedRun e
  pinned_run w lines qs a seed =
      same_taken e w (record (pinned (length qs) w) { seed = seed }) lines qs refl a (λ k l. pinned_word w (length qs) seed k l)
