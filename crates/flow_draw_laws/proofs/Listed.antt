-- The words that a run takes are all that counts.
use Rattle.std.proofs.Common.{◌≡◌, ◌<◌, ℕ, zero, suc, ◌+◌, ◌-◌, Bool, true, false, nat_lt, if◌then◌else◌, List, [], ◌∷◌, length, slice_index, refl, ap, ap₂, arith}
use Rattle.std.proofs.lemmas.Bool.Decides.{nat_tests}
use Rattle.flow_worldfile.specs.Worlds as file
use Rattle.flow_draw.specs.declared.question.Question.{Question}
use Rattle.flow_draw.specs.Questions.{answer}
use Rattle.flow_draw.specs.Words.{word_at, output_at}
use Rattle.flow_meaning.specs.Process.{Engine}
use Rattle.flow_draw_laws.specs.Answers.{answers_from}
use Rattle.flow_draw_laws.specs.Listed.{SameTaken, ListedRun}
use Rattle.flow_draw_laws.proofs.Parted.{words_of}
use Rattle.flow_draw_laws.proofs.Answered.{same_run}

answers_alike : (v w : file.World) (k n : ℕ) (qs : List Question) → n ≡ k + length qs → ((i : ℕ) → i < n → words_of v i ≡ words_of w i)
    → answers_from k qs v ≡ answers_from k qs w
answers_alike v w k n [] e h = refl
answers_alike v w k n (q ∷ qs) e h =
    ap₂ (λ x xs. x ∷ xs) (ap (answer q) (h k (omega arith))) (answers_alike v w (suc k) n qs (omega arith) h)

-- a listed word, whatever the seed
by_list : (b : Bool) (x y z : ℕ) → b ≡ true → (if b then x else y) ≡ (if b then x else z)
by_list true x y z h = refl
by_list false x y z h = absurd (no_list h)
  where
    no_list : false ≡ true → ⊥
    no_list h = cc

pub listed_word : (seed other : ℕ) (words : List ℕ) (k : ℕ) → k < length words → word_at seed words k ≡ word_at other words k
listed_word seed other words k h =
    by_list (nat_lt k (length words)) (slice_index words k) (output_at seed (k - length words)) (output_at other (k - length words)) (grind (arith, nat_tests, h))

module _ {A : Type 0} (e : Engine A) where
  pub same_taken : SameTaken e
  same_taken v w lines qs s a h = same_run e v w lines qs s a (answers_alike v w zero (length qs) qs (omega arith) h)

  pub listed_run : ListedRun e
  listed_run w lines qs a h seed =
      same_taken w (record w { seed = seed }) lines qs refl a (λ k l. listed_word w.seed seed w.words k (omega (arith, l, h)))
