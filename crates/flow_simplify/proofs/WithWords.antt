-- A world with other words.
use Rattle.std.proofs.Common.{◌≡◌, ℕ, zero, suc, ◌+◌, ◌≤◌, List, [], ◌∷◌, ◌++◌, length, refl, sym, ap, ap₂, ◌∙◌, add-one, subst, arith}
use Rattle.std.specs.List.{AllByRecursion}
use Rattle.std.proofs.lemmas.List.{length-append}
use Rattle.flow_draw.specs.Words.{word_at}
use Rattle.flow_worldfile.specs.declared.directive.Directive.TheVariants.{Word}
use Rattle.flow_worldfile.specs.Directives.{InRange}
use Rattle.flow_worldfile.specs.Worlds.{World, IsInRange, most_words}
use Rattle.flow_simplify.specs.Pinning.{first_words}

pub first_words_many : (w : World) (n : ℕ) → length (first_words w n) ≡ n
first_words_many w zero = refl
first_words_many w (suc n) =
    let less = first_words_many w n in omega (arith, less, length-append (first_words w n) (word_at w.seed w.words n ∷ []))

-- one word more
pub one_word_more : (P : ℕ → Type 0) (xs ys : List ℕ) (x : ℕ) → ys ≡ xs ++ x ∷ [] → AllByRecursion P xs → P x → AllByRecursion P ys
one_word_more P xs ys x is all here = subst (AllByRecursion P) (sym is) (added xs all)
  where
    added : (xs : List ℕ) → AllByRecursion P xs → AllByRecursion P (xs ++ x ∷ [])
    added [] h = (here, tt)
    added (z ∷ zs) h = (h.0, added zs h.1)

pub first_words_more : (w : World) (n : ℕ) (xs ys : List ℕ) (x : ℕ) → xs ≡ first_words w n → ys ≡ xs ++ x ∷ [] → x ≡ word_at w.seed w.words n
    → ys ≡ first_words w (n + 1)
first_words_more w n xs ys x so is word =
    is ∙ ap₂ (λ l z. l ++ z ∷ []) so word ∙ ap (first_words w) (sym (add-one n))

pub words_in_range : (w : World) (words : List ℕ) → IsInRange w → AllByRecursion (λ n. InRange (Word n)) words → length words ≤ most_words
    → IsInRange (record w { words = words })
words_in_range w words range each few = record {
  seed = range.seed;
  words = each;
  words_few = few;
  processes = range.processes;
  events = range.events;
  turns = range.turns;
  latency = range.latency;
  loss = range.loss;
  diskdelay = range.diskdelay;
  script = range.script;
  script_short = range.script_short;
}

-- a world stays in range with its first words
pub pinned_in_range : (w own : World) (words : List ℕ) (count : ℕ) → IsInRange w → own ≡ record w { words = words } → words ≡ first_words w count
    → AllByRecursion (λ n. InRange (Word n)) words → count ≤ most_words → IsInRange own
pinned_in_range w own words count range is are each few =
    let many : length words ≡ count = ap length are ∙ first_words_many w count in
    subst IsInRange (sym is) (words_in_range w words range each (omega (arith, many, few)))
