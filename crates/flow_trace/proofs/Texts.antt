-- Each text has one spelling in quotes, and is read back from it.
use Rattle.std.proofs.Common.{◌≡◌, ℕ, List, [], ap, sym, ◌∙◌, Some, None, unwrap_or}
use Rattle.flow_base.specs.Quote.{quoted}
use Rattle.flow_trace.specs.Quote.{IsText, OneSpellingOfTexts}
use Rattle.flow_trace.specs.Reading.{text_in, text_at}
use Rattle.flow_trace.proofs.ReadBack.{text_known}
use Rattle.flow_trace.proofs.Scanning.{words_read, quoted_word}

pub text_in-quoted : (text : List ℕ) → IsText text → text_in (quoted text) ≡ Some text
text_in-quoted text range = ap (λ s. text_at (words_read s) 0) (quoted_word text range.1 []) ∙ text_known text range

-- where the bytes would be no text, no text has them
pub no_text : (bytes : List ℕ) → text_in bytes ≡ None → (text : List ℕ) → IsText text → bytes ≡ quoted text → ⊥
no_text bytes none text range spelled = let e : None ≡ Some text = sym none ∙ ap text_in spelled ∙ text_in-quoted text range in cc

-- where they would be one, no other text has them
pub same_text : (bytes found : List ℕ) → text_in bytes ≡ Some found → (text : List ℕ) → IsText text → bytes ≡ quoted text → found ≡ text
same_text bytes found some text range spelled = ap (λ o. unwrap_or o found) (sym some ∙ ap text_in spelled ∙ text_in-quoted text range)

-- nor that one, where its own spelling is another
pub other_text : (bytes found : List ℕ) → text_in bytes ≡ Some found → (bytes ≡ quoted found → ⊥)
    → (text : List ℕ) → IsText text → bytes ≡ quoted text → ⊥
other_text bytes found some differs text range spelled =
    differs (spelled ∙ sym (ap quoted (same_text bytes found some text range spelled)))

pub one_spelling_of_texts : OneSpellingOfTexts
one_spelling_of_texts a b range_a range_b same = same_text (quoted a) a (text_in-quoted a range_a) b range_b same
