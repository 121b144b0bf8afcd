-- What clap reads of words.
use Rattle.std.proofs.Common.{◌≡◌, Bool, true, false, List, [], sym, ap, ◌∙◌, refl, subst, Option, Some, None, Result}
use Rattle.std.specs.Prelude.{◌&&◌, if◌then◌else◌, option_and_then}
use Rattle.clap.specs.Words.{App, Row, Text, fault_of, matches_of, is_simple, is_simple_and_free}
use Rattle.clap.specs.Walk.{is_empty}
use Rattle.flow_words.specs.Apps.{matched}
use Rattle.flow_words.specs.Asked.{Reads}
use Rattle.flow_words.specs.declared.asked.WordsFault.{WordsFault}

left_true : (a b : Bool) → (a && b) ≡ true → a ≡ true
left_true true b e = refl
left_true false b e = e

-- clap's own matches are those of words in which its definition finds no fault
pub are_matched : (a : App) (words : List Text) (rows : List Row) (B : Type 0) → is_simple_and_free a ≡ true → fault_of a words ≡ []
    → (is_simple a ≡ true → (rows ≡ matches_of a words) × B) → matched a words ≡ Some rows
are_matched a words rows B simple none are =
    ap (λ kinds. if is_empty kinds then Some (matches_of a words) else None) none ∙ ap Some (sym (are (left_true (is_simple a) _ simple)).0)

-- what is read of the matches is read of the words
pub read_of : {T U : Type 0} (seen : U → T) (by : List Row → Option T) (a b : App) (words : List Text) (rows : List Row) (r : Result U WordsFault) → a ≡ b
    → matched a words ≡ Some rows → Reads seen (by rows) r → Reads seen (option_and_then by (matched b words)) r
read_of seen by a b words rows r same are reads =
    subst (λ o. Reads seen o r) (sym (ap (option_and_then by) (ap (λ x. matched x words) (sym same) ∙ are))) reads
