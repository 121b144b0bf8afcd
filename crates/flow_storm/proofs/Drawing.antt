-- The five words of a fault, one after another.
use Rattle.std.proofs.Common.{◌≡◌, ℕ, ◌+◌, ◌%◌, ◌/◌, ◌^◌, [], ◌∷◌, replicate, ap, ◌∙◌, arith}
use Rattle.std.proofs.lemmas.List.{replicate_more, length-replicate}
use Rattle.flow_draw.specs.declared.question.Question.TheVariants.{Among}
use Rattle.flow_draw.specs.Words.{Drawn, word_at, next_word, asked}
use Rattle.flow_draw.proofs.Asking.{asked_more}
use Rattle.flow_storm.specs.declared.strike.Fault.{Fault}
use Rattle.flow_storm.specs.declared.strike.Strike.{Strike}
use Rattle.flow_storm.specs.Storms.{fault_of, other_process, strike_by}

-- the draws when so many more words were taken
abbrev pub later : Drawn → ℕ → Drawn
later d k = asked d (replicate k (Among (2 ^ 32)))

pub none_taken : (d : Drawn) → d ≡ later d 0
none_taken d = ap (λ n. record d { used = n }) (omega arith)

pub more_taken : (d e next : Drawn) (k : ℕ) → e ≡ later d k → next ≡ asked e (Among (2 ^ 32) ∷ []) → next ≡ later d (k + 1)
more_taken d e next k is taken =
    taken
    ∙ ap (λ f. asked f (Among (2 ^ 32) ∷ [])) is
    ∙ asked_more d (replicate k (Among (2 ^ 32))) (Among (2 ^ 32) ∷ [])
    ∙ ap (asked d) (replicate_more k (Among (2 ^ 32)))

pub word_later : (d e : Drawn) (word k : ℕ) → e ≡ later d k → word ≡ next_word e → word ≡ word_at d.seed d.listed (d.used + k)
word_later d e word k is taken =
    taken ∙ ap next_word is ∙ ap (λ n. word_at d.seed d.listed (d.used + n)) (length-replicate k (Among (2 ^ 32)))

-- a fault of the numbers that were read of words
made : (kind process further time length processes horizon : ℕ) → Strike
made kind process further time length processes horizon = record {
  fault = fault_of (kind % 8) processes;
  process = record { 0 = process % processes };
  other = record { 0 = other_process (process % processes) further processes };
  time = time % (horizon + 1);
  length = 1 + length % (horizon / 8 + 1);
}

pub strike_is : (word : ℕ → ℕ) (n h a b c d e n' d' e' other : ℕ) (fault : Fault)
    → a ≡ word 0 → b ≡ word 1 → c ≡ word 2 → d ≡ word 3 → e ≡ word 4
    → n' ≡ n → d' ≡ d → e' ≡ e → fault ≡ fault_of (a % 8) n → other ≡ other_process (b % n') c n
    → record {
      fault = fault;
      process = record { 0 = b % n' };
      other = record { 0 = other };
      time = d' % (h + 1);
      length = 1 + e' % (h / 8 + 1);
    } ≡ strike_by word n h
strike_is word n h a b c d e n' d' e' other fault ia ib ic id ie in' id' ie' is_fault is_other = cc
