-- What is printed piece by piece.
use Rattle.std.proofs.Common.{◌≡◌, ℕ, zero, suc, ◌+◌, ◌<◌, ◌≤◌, List, [], ◌∷◌, ◌++◌, false, Some, None, length, get_or, take, drop, sym, ap, ◌∙◌, refl, append_assoc, append-nil, arith, not, le_refl, length-drop, take_all, take-append-drop}
use Rattle.std.specs.Prelude.{position}
use Rattle.std.specs.List.{position_or_len}
use Rattle.std.proofs.lemmas.List.{drop_more}
use Rattle.std.proofs.lemmas.List.Quantifiers.{position-Some}
use Rattle.std.proofs.lemmas.List.Sums.{fails_before_first, prefix_len-le-length}
use Rattle.flow_base.specs.Quote.{spelled_byte, spelled_text}
use Rattle.std.proofs.lemmas.Grind.{take_at_read}
use Rattle.flow_trace.specs.Bytes.{spaced, joined}
use Rattle.flow_trace.specs.Quote.{is_escaped}

spelled_text-append : (xs ys : List ℕ) → spelled_text (xs ++ ys) ≡ spelled_text xs ++ spelled_text ys
spelled_text-append [] ys = refl
spelled_text-append (x ∷ xs) ys =
    ap (λ l. spelled_byte x ++ l) (spelled_text-append xs ys) ∙ sym (append_assoc (spelled_byte x) (spelled_text xs) (spelled_text ys))

spelled_itself : (b : ℕ) → is_escaped b ≡ false → spelled_byte b ≡ b ∷ []
spelled_itself b plain = grind arith

-- bytes of which none is escaped are spelled as themselves
plain_taken : (bytes : List ℕ) (n : ℕ) → ((k : ℕ) → k < n → is_escaped (get_or bytes k 0) ≡ false) → n ≤ length bytes
    → spelled_text (take n bytes) ≡ take n bytes
plain_taken bytes zero each within = refl
plain_taken [] (suc n) each within = absurd (omega (arith, within))
plain_taken (b ∷ bs) (suc n) each within =
    ap (λ l. l ++ spelled_text (take n bs)) (spelled_itself b (each 0 (omega arith)))
    ∙ ap (λ l. b ∷ l) (plain_taken bs n (λ k below. each (suc k) (omega (arith, below))) (omega (arith, within)))

-- a text with a byte that is escaped: those before it, then it, then the others
pub spelled_by_run : (bytes : List ℕ) (run : ℕ) → position is_escaped bytes ≡ Some run
    → spelled_text bytes ≡ take run bytes ++ spelled_byte (get_or (drop run bytes) 0 0) ++ spelled_text (drop 1 (drop run bytes))
spelled_by_run bytes run found =
    let (within, escaped, before) = position-Some is_escaped bytes run 0 found in
    let others = drop run bytes in
    ap spelled_text (sym (take-append-drop run bytes))
    ∙ spelled_text-append (take run bytes) others
    ∙ ap (λ l. l ++ spelled_text others) (plain_taken bytes run before (omega (arith, within)))
    ∙ ap (λ l. take run bytes ++ spelled_text l) (drop_more others 0 0 (omega (arith, within, length-drop run bytes)))
    ∙ sym (append_assoc (take run bytes) (spelled_byte (get_or others 0 0)) (spelled_text (drop 1 others)))

-- a text with none
pub spelled_plain : (bytes : List ℕ) → position is_escaped bytes ≡ None → spelled_text bytes ≡ bytes
spelled_plain bytes none =
    let all : length bytes ≡ position_or_len is_escaped bytes = grind (arith, none, prefix_len-le-length (λ b. not (is_escaped b)) bytes) in
    let whole = take_all (length bytes) bytes (le_refl _) in
    ap spelled_text (sym whole)
    ∙ plain_taken bytes (length bytes) (λ k below. fails_before_first is_escaped bytes k 0 (omega (arith, all, below))) (le_refl _)
    ∙ whole

-- one more byte of a text
pub spelled_text_more : (bytes : List ℕ) (i d : ℕ) → i < length bytes
    → spelled_text (take (i + 1) bytes) ≡ spelled_text (take i bytes) ++ spelled_byte (get_or bytes i d)
spelled_text_more bytes i d inside =
    ap spelled_text (take_at_read bytes i d inside).1
    ∙ spelled_text-append (take i bytes) (get_or bytes i d ∷ [])
    ∙ ap (λ l. spelled_text (take i bytes) ++ l) (append-nil (spelled_byte (get_or bytes i d)))

pub spaced-append : (xs ys : List (List ℕ)) → spaced (xs ++ ys) ≡ spaced xs ++ spaced ys
spaced-append [] ys = refl
spaced-append (x ∷ xs) ys =
    ap (λ l. 32 ∷ x ++ l) (spaced-append xs ys) ∙ ap (λ l. 32 ∷ l) (sym (append_assoc x (spaced xs) (spaced ys)))

joined-more : (w : List ℕ) (xs ys : List (List ℕ)) → (w ++ spaced xs) ++ spaced ys ≡ w ++ spaced (xs ++ ys)
joined-more w xs ys = append_assoc w (spaced xs) (spaced ys) ∙ ap (λ l. w ++ l) (sym (spaced-append xs ys))

-- the words of a line, one list of them after another
pub joined_by_pieces : (w : List ℕ) (a b c d e f : List (List ℕ))
    → ((((((w ++ spaced a) ++ spaced b) ++ spaced c) ++ spaced d) ++ spaced e) ++ spaced f)
    ≡ joined (w ∷ a ++ b ++ c ++ d ++ e ++ f)
joined_by_pieces w a b c d e f =
    let ab = joined-more w a b in
    let abc = ap (λ l. l ++ spaced c) ab ∙ joined-more w (a ++ b) c in
    let abcd = ap (λ l. l ++ spaced d) abc ∙ joined-more w (a ++ b ++ c) d in
    let abcde = ap (λ l. l ++ spaced e) abcd ∙ joined-more w (a ++ b ++ c ++ d) e in
    ap (λ l. l ++ spaced f) abcde ∙ joined-more w (a ++ b ++ c ++ d ++ e) f
