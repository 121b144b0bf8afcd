-- What is scanned of the fields of a printed line.
use Rattle.std.proofs.Common.{◌≡◌, ℕ, suc, ◌+◌, ◌*◌, ◌/◌, ◌%◌, ◌^◌, ◌<◌, ℤ, pos, negsuc, List, [], ◌∷◌, ◌++◌, Bool, true, false, not, ◌&&◌, map, sym, ap, ◌∙◌, refl, arith, decimal, append_assoc, append-nil}
use Rattle.flow_base.specs.Quote.{hex_digit, is_printable, spelled_byte, spelled_text, quoted}
use Rattle.std.specs.Fmt.{signed_decimal}
use lib.Dec.{leb}
use Rattle.std.specs.Bool.{◌==◌}
use Rattle.std.specs.List.{fold, list_all, AllByRecursion}
use Rattle.std.proofs.Math.Pow.{pow_mono}
use Rattle.std.proofs.lemmas.Bool.{and_parts, and_from, not-true, not_from_false, cond-false, cond_both, agree_below_at, eqb-true, false≢true, false_from_ne_true, or_left, leb-true}
use Rattle.std.proofs.lemmas.Fmt.{decimal_by_steps}
use Rattle.std.proofs.lemmas.List.Folds.{list_all-append}
use Rattle.std.proofs.lemmas.List.Sums.{fold-append}
use Rattle.flow_base.specs.Names.{is_name_text, letter, digit as is_digit, name_byte}
use Rattle.flow_trace.specs.Bytes.{Field, word, name, number, integer, text, spelled, spaced, joined, IsField}
use Rattle.flow_trace.specs.Reading.{number_step, number_in}
use Rattle.flow_trace.specs.Scan.{WordState, ScanState, no_word, hex_value, step, scan, scan_start, words_in}
use Rattle.flow_trace.specs.declared.scan.Mode.TheVariants.{Bare, Quoted}
use lib.Signed.{mag}

-- outside quotes, with a word
abbrev pub outside : List WordState → WordState → ScanState
outside ws w = record { words = ws; word = w; mode = Bare }

abbrev pub bare : List ℕ → WordState
bare bytes = record { quoted = false; bytes = bytes }

abbrev pub in_quotes : List ℕ → WordState
in_quotes bytes = record { quoted = true; bytes = bytes }

abbrev pub inside : List WordState → List ℕ → ScanState
inside ws bytes = record { words = ws; word = in_quotes bytes; mode = Quoted }

-- a byte that goes on with a bare word: no space, no line feed, no quote
abbrev pub is_plain : ℕ → Bool
is_plain b = not (b == 32) && (not (b == 10) && not (b == 34))

plain_step : (ws : List WordState) (w : List ℕ) (b : ℕ) → is_plain b ≡ true → step (outside ws (bare w)) b ≡ outside ws (bare (w ++ b ∷ []))
plain_step ws w b plain =
    let (space, others) = and_parts (not (b == 32)) (not (b == 10) && not (b == 34)) plain in
    let (feed, quote) = and_parts (not (b == 10)) (not (b == 34)) others in
    cond-false (b == 32) _ _ (not-true _ space) ∙ cond-false (b == 10) _ _ (not-true _ feed) ∙ cond-false (b == 34) _ _ (not-true _ quote)

pub plain_word : (bytes : List ℕ) → list_all is_plain bytes ≡ true → (ws : List WordState) (w : List ℕ)
    → fold step (outside ws (bare w)) bytes ≡ outside ws (bare (w ++ bytes))
plain_word [] plain ws w = ap (λ l. outside ws (bare l)) (sym (append-nil w))
plain_word (b ∷ bs) plain ws w =
    let (here, later) = and_parts (is_plain b) (list_all is_plain bs) plain in
    ap (λ s. fold step s bs) (plain_step ws w b here) ∙ plain_word bs later ws (w ++ b ∷ []) ∙ ap (λ l. outside ws (bare l)) (append_assoc w (b ∷ []) bs)

-- digits are plain
digit_plain : (d : ℕ) → d < 10 → is_plain (48 + d) ≡ true
digit_plain d small = agree_below_at (λ k. is_plain (48 + k)) (λ _. true) 10 d refl small

plain_decimal : (n : ℕ) → n < 2 ^ 64 → list_all is_plain (decimal n) ≡ true
plain_decimal =
    decimal_by_steps (λ _ ds. list_all is_plain ds ≡ true)
    (λ n small. and_from (is_plain (48 + n)) true (digit_plain n small) refl)
    (λ n ds large before. list_all-append is_plain ds ((48 + n % 10) ∷ [])
    ∙ and_from (list_all is_plain ds) (list_all is_plain ((48 + n % 10) ∷ [])) before
    (and_from (is_plain (48 + n % 10)) true (digit_plain (n % 10) (omega arith)) refl))

plain_signed : (z : ℤ) → mag z < 2 ^ 63 → list_all is_plain (signed_decimal z) ≡ true
plain_signed (pos n) small = plain_decimal n (omega arith)
plain_signed (negsuc n) small = plain_decimal (suc n) (omega arith)

-- so are letters, digits and underscores
other_byte : (b c : ℕ) → name_byte b ≡ true → name_byte c ≡ false → not (b == c) ≡ true
other_byte b c of_name no_name =
    not_from_false (b == c) (false_from_ne_true (b == c) (λ same. false≢true (sym no_name ∙ ap name_byte (sym (eqb-true b c same)) ∙ of_name)))

name_byte_plain : (b : ℕ) → name_byte b ≡ true → is_plain b ≡ true
name_byte_plain b of_name =
    and_from (not (b == 32)) (not (b == 10) && not (b == 34)) (other_byte b 32 of_name refl)
    (and_from (not (b == 10)) (not (b == 34)) (other_byte b 10 of_name refl) (other_byte b 34 of_name refl))

name_bytes_plain : (bs : List ℕ) → list_all name_byte bs ≡ true → list_all is_plain bs ≡ true
name_bytes_plain [] of_name = refl
name_bytes_plain (b ∷ bs) of_name =
    let (here, later) = and_parts (name_byte b) (list_all name_byte bs) of_name in
    and_from (is_plain b) (list_all is_plain bs) (name_byte_plain b here) (name_bytes_plain bs later)

plain_name : (bs : List ℕ) → is_name_text bs ≡ true → list_all is_plain bs ≡ true
plain_name [] form = refl
plain_name (b ∷ bs) form =
    let (here, later) = and_parts (letter b) (list_all name_byte bs) form in
    and_from (is_plain b) (list_all is_plain bs) (name_byte_plain b (or_left (letter b) (is_digit b) here)) (name_bytes_plain bs later)

-- between quotes, a spelled byte adds the byte
hex_back : (d : ℕ) → d < 16 → hex_value (hex_digit d) ≡ d
hex_back d small = eqb-true _ _ (agree_below_at (λ k. hex_value (hex_digit k) == k) (λ _. true) 16 d refl small)

hex_byte : (b : ℕ) → b < 2 ^ 8 → (hex_value (hex_digit (b / 16)) * 16 + hex_value (hex_digit (b % 16))) % 256 ≡ b
hex_byte b small =
    ap (λ h. (h * 16 + hex_value (hex_digit (b % 16))) % 256) (hex_back (b / 16) (omega arith))
    ∙ ap (λ l. (b / 16 * 16 + l) % 256) (hex_back (b % 16) (omega arith)) ∙ omega arith

abbrev AddsByte : List WordState → List ℕ → ℕ → List ℕ → Type 0
AddsByte ws w b bytes = fold step (inside ws w) bytes ≡ inside ws (w ++ b ∷ [])

spelled_byte_adds : (ws : List WordState) (w : List ℕ) (b : ℕ) → b < 2 ^ 8 → AddsByte ws w b (spelled_byte b)
spelled_byte_adds ws w b small =
    let adds : List ℕ → Type 0 = λ bytes. fold step (inside ws w) bytes ≡ inside ws (w ++ b ∷ []) in
    let same : (c : ℕ) → (b == c) ≡ true → inside ws (w ++ c ∷ []) ≡ inside ws (w ++ b ∷ []) =
    λ c e. ap (λ x. inside ws (w ++ x ∷ [])) (sym (eqb-true b c e)) in
    cond_both (b == 10) _ _ adds (same 10)
    (λ _. cond_both (b == 9) _ _ adds (same 9)
    (λ _. cond_both (b == 34) _ _ adds (same 34)
    (λ quote. cond_both (b == 92) _ _ adds (same 92)
    (λ backslash. cond_both (is_printable b) _ _ adds
    (λ _. cond-false (b == 34) _ _ quote ∙ cond-false (b == 92) _ _ backslash)
    (λ _. ap (λ x. inside ws (w ++ x ∷ [])) (hex_byte b small))))))

spelled_text_adds : (bytes : List ℕ) → AllByRecursion (λ b. b < 2 ^ 8) bytes → (ws : List WordState) (w : List ℕ)
    → fold step (inside ws w) (spelled_text bytes) ≡ inside ws (w ++ bytes)
spelled_text_adds [] small ws w = ap (inside ws) (sym (append-nil w))
spelled_text_adds (b ∷ bs) small ws w =
    fold-append step (inside ws w) (spelled_byte b) (spelled_text bs)
    ∙ ap (λ s. fold step s (spelled_text bs)) (spelled_byte_adds ws w b small.0)
    ∙ spelled_text_adds bs small.1 ws (w ++ b ∷ [])
    ∙ ap (inside ws) (append_assoc w (b ∷ []) bs)

pub quoted_word : (bytes : List ℕ) → AllByRecursion (λ b. b < 2 ^ 8) bytes → (ws : List WordState)
    → fold step (outside ws no_word) (quoted bytes) ≡ outside ws (in_quotes bytes)
quoted_word bytes small ws =
    fold-append step (inside ws []) (spelled_text bytes) (34 ∷ [])
    ∙ ap (λ s. fold step s (34 ∷ [])) (spelled_text_adds bytes small ws [])

-- the word that is scanned of a field
abbrev pub word_of : Field → WordState
word_of (word bytes) = bare bytes
word_of (name bytes) = bare bytes
word_of (number bits value) = bare (decimal value)
word_of (integer value) = bare (signed_decimal value)
word_of (text bytes) = in_quotes bytes

-- a fixed word has plain bytes
abbrev pub is_plain_field : Field → Bool
is_plain_field (word bytes) = list_all is_plain bytes
is_plain_field (name bytes) = true
is_plain_field (number bits value) = leb bits 64
is_plain_field (integer value) = true
is_plain_field (text bytes) = true

field_word : (f : Field) → IsField f → is_plain_field f ≡ true → (ws : List WordState)
    → fold step (outside ws no_word) (spelled f) ≡ outside ws (word_of f)
field_word (word bytes) range plain ws = plain_word bytes plain ws []
field_word (name bytes) range plain ws = plain_word bytes (plain_name bytes range.form) ws []
field_word (number bits value) range plain ws = plain_word (decimal value) (plain_decimal value (omega (arith, range, pow_mono {i = bits} {j = 64} (leb-true bits 64 plain)))) ws []
field_word (integer value) range plain ws = plain_word (signed_decimal value) (plain_signed value range) ws []
field_word (text bytes) range plain ws = quoted_word bytes range.1 ws

abbrev pub words_read : ScanState → List WordState
words_read s = s.words ++ s.word ∷ []

-- bytes behind the last word that change nothing, as a line feed
abbrev pub IsQuiet : List ℕ → Type 0
IsQuiet tail = (ws : List WordState) (w : WordState) → fold step (outside ws w) tail ≡ outside ws w

-- the fields behind a word
spaced_words : (fs : List Field) → AllByRecursion IsField fs → list_all is_plain_field fs ≡ true → (tail : List ℕ) → IsQuiet tail
    → (ws : List WordState) (w : WordState)
    → words_read (fold step (fold step (outside ws w) (spaced (map spelled fs))) tail) ≡ (ws ++ w ∷ []) ++ map word_of fs
spaced_words [] range plain tail quiet ws w = ap words_read (quiet ws w) ∙ sym (append-nil (ws ++ w ∷ []))
spaced_words (f ∷ fs) range plain tail quiet ws w =
    let (here, later) = and_parts (is_plain_field f) (list_all is_plain_field fs) plain in
    let before = ws ++ w ∷ [] in
    let first : fold step (outside before no_word) (spelled f ++ spaced (map spelled fs)) ≡ fold step (outside before (word_of f)) (spaced (map spelled fs)) =
    fold-append step (outside before no_word) (spelled f) (spaced (map spelled fs))
    ∙ ap (λ s. fold step s (spaced (map spelled fs))) (field_word f range.0 here before) in
    ap (λ s. words_read (fold step s tail)) first
    ∙ spaced_words fs range.1 later tail quiet before (word_of f)
    ∙ append_assoc before (word_of f ∷ []) (map word_of fs)

-- the words of a printed line are those of its fields
pub printed_words : (f : Field) (fs : List Field) → AllByRecursion IsField (f ∷ fs) → list_all is_plain_field (f ∷ fs) ≡ true
    → (tail : List ℕ) → IsQuiet tail → words_in (joined (map spelled (f ∷ fs)) ++ tail) ≡ map word_of (f ∷ fs)
printed_words f fs range plain tail quiet =
    let (here, later) = and_parts (is_plain_field f) (list_all is_plain_field fs) plain in
    let first : scan (joined (map spelled (f ∷ fs))) ≡ fold step (outside [] (word_of f)) (spaced (map spelled fs)) =
    fold-append step scan_start (spelled f) (spaced (map spelled fs))
    ∙ ap (λ s. fold step s (spaced (map spelled fs))) (field_word f range.0 here []) in
    ap words_read (fold-append step scan_start (joined (map spelled (f ∷ fs))) tail)
    ∙ ap (λ s. words_read (fold step s tail)) first
    ∙ spaced_words fs range.1 later tail quiet [] (word_of f)

-- digits give their number back
number_step_digit : (n : ℕ) → n < 2 ^ 64 → number_step (n / 10) (48 + n % 10) ≡ n
number_step_digit n small = omega arith

pub number_in-decimal : (n : ℕ) → n < 2 ^ 64 → number_in (decimal n) ≡ n
number_in-decimal n small =
    decimal_by_steps (λ n ds. n < 2 ^ 64 → number_in ds ≡ n)
    (λ n one _. omega arith)
    (λ n ds large before fits. fold-append number_step 0 ds ((48 + n % 10) ∷ [])
    ∙ ap (λ m. number_step m (48 + n % 10)) (before (omega (arith, fits))) ∙ number_step_digit n fits)
    n small small
