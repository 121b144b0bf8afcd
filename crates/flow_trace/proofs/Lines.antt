-- Each line has one spelling, and is read back from it.
use Rattle.std.proofs.Common.{◌≡◌, ℕ, List, [], ◌∷◌, ◌++◌, Bool, true, false, map, sym, ap, ◌∙◌, refl, append-nil, Some, None, inl, inr, unwrap_or, subst, ◌+◌, ◌-◌, ◌<◌, ◌≤◌, length, length-append, get_or, take, arith}
use Rattle.std.proofs.lemmas.Bool.{false≢true}
use Rattle.std.specs.List.{list_all, AllByRecursion}
use Rattle.std.proofs.lemmas.List.{append_cancel_right, take_all, take_at}
use Rattle.std.proofs.lemmas.Grind.{take_at_read}
use Rattle.flow_trace.specs.Bytes.{Field, fields, spelled, joined, IsField, IsLine, Bytes, Spells, OneSpelling, OneLine}
use Rattle.flow_trace.specs.Reading.{line_from, line_in}
use Rattle.flow_trace.specs.Scan.{words_in}
use Rattle.flow_trace.specs.declared.line.Line.{Line}
use Rattle.flow_trace.specs.declared.line.Line.TheVariants.{Head, Boot, Kill, Stop, Cut, Heal, DiskFail, Timer, Arrival, Read, Write, Sync, Size, Start, Wait, Take, Throw, Catch, Fail, Finish, Cancel, Broken, PrintInt, PrintBool, PrintText, Send, LostCut, LostDraw, Discard, Kept, Frame, Callback, EndIdle, EndBound, EndSpent, EndStop}
use Rattle.flow_trace.proofs.ReadBack.{line_back}
use Rattle.flow_trace.proofs.Scanning.{word_of, is_plain_field, IsQuiet, printed_words}

-- some fields, whose fixed words have plain bytes
abbrev are_printed : List Field → Bool
are_printed [] = false
are_printed (f ∷ fs) = list_all is_plain_field (f ∷ fs)

printed_fields : (line : Line) → are_printed (fields line) ≡ true
printed_fields Head = refl
printed_fields (Boot n t p) = refl
printed_fields (Kill n t p) = refl
printed_fields (Stop n t p) = refl
printed_fields (Cut n t p q) = refl
printed_fields (Heal n t p q) = refl
printed_fields (DiskFail n t p k) = refl
printed_fields (Timer n t p c) = refl
printed_fields (Arrival n t p m) = refl
printed_fields (Read n t p c (Some x)) = refl
printed_fields (Read n t p c None) = refl
printed_fields (Write n t p c true) = refl
printed_fields (Write n t p c false) = refl
printed_fields (Sync n t p c true) = refl
printed_fields (Sync n t p c false) = refl
printed_fields (Size n t p c (Some k)) = refl
printed_fields (Size n t p c None) = refl
printed_fields (Start a class) = refl
printed_fields (Wait a group) = refl
printed_fields (Take a group branch) = refl
printed_fields (Throw a e) = refl
printed_fields (Catch a e) = refl
printed_fields (Fail a e) = refl
printed_fields (Finish a) = refl
printed_fields (Cancel a) = refl
printed_fields (Broken c) = refl
printed_fields (PrintInt a value) = refl
printed_fields (PrintBool a true) = refl
printed_fields (PrintBool a false) = refl
printed_fields (PrintText a x) = refl
printed_fields (Send m q port x) = refl
printed_fields (LostCut m) = refl
printed_fields (LostDraw m) = refl
printed_fields (Discard m) = refl
printed_fields (Kept x offset len kept) = refl
printed_fields (Frame p a class group) = refl
printed_fields (Callback p a k c) = refl
printed_fields EndIdle = refl
printed_fields EndBound = refl
printed_fields EndSpent = refl
printed_fields (EndStop monitor) = refl

words_printed : (fs : List Field) → AllByRecursion IsField fs → are_printed fs ≡ true → (tail : List ℕ) → IsQuiet tail
    → words_in (joined (map spelled fs) ++ tail) ≡ map word_of fs
words_printed [] range plain tail quiet = absurd (false≢true plain)
words_printed (f ∷ fs) range plain tail quiet = printed_words f fs range plain tail quiet

read_printed : (line : Line) → IsLine line → (tail : List ℕ) → IsQuiet tail → line_in (joined (map spelled (fields line)) ++ tail) ≡ Some line
read_printed line range tail quiet =
    ap line_from (words_printed (fields line) range (printed_fields line) tail quiet) ∙ line_back line range

-- bytes that spell a line give that line
pub line_in-spelled : (line : Line) (bytes : List ℕ) → IsLine line → Spells line bytes → line_in bytes ≡ Some line
line_in-spelled line bytes range (inl whole) = ap line_in whole ∙ read_printed line range (10 ∷ []) (λ ws w. refl)
line_in-spelled line bytes range (inr cut) =
    let words = joined (map spelled (fields line)) in
    ap line_in (append_cancel_right bytes words (10 ∷ []) cut ∙ sym (append-nil words)) ∙ read_printed line range [] (λ ws w. refl)

pub one_line : OneLine
one_line bytes a b range_a range_b spells_a spells_b =
    ap (λ o. unwrap_or o a) (sym (line_in-spelled a bytes range_a spells_a) ∙ line_in-spelled b bytes range_b spells_b)

pub one_spelling : OneSpelling
one_spelling a b range_a range_b same = one_line (Bytes a) a b range_a range_b (inl refl) (inl same)

-- where the bytes would be no line, no line has them
pub no_line : (bytes : List ℕ) → line_in bytes ≡ None → (line : Line) → IsLine line → Spells line bytes → ⊥
no_line bytes none line range spells = let e : None ≡ Some line = sym none ∙ line_in-spelled line bytes range spells in cc

-- where they would be one, no other line has them
pub same_line : (bytes : List ℕ) (found : Line) → line_in bytes ≡ Some found → (line : Line) → IsLine line → Spells line bytes → found ≡ line
same_line bytes found some line range spells = ap (λ o. unwrap_or o found) (sym some ∙ line_in-spelled line bytes range spells)

-- nor that one, where its own bytes are others
pub other_line : (bytes : List ℕ) (found : Line) → line_in bytes ≡ Some found → (Spells found bytes → ⊥)
    → (line : Line) → IsLine line → Spells line bytes → ⊥
other_line bytes found some differs line range spells =
    differs (subst (λ l. Spells l bytes) (sym (same_line bytes found some line range spells)) spells)

-- bytes and a line feed behind them
pub cut_same : (bytes printed : List ℕ) → 1 ≤ length printed → get_or printed (length printed - 1) 0 ≡ 10
    → bytes ≡ take (length printed - 1) printed → bytes ++ 10 ∷ [] ≡ printed
cut_same bytes printed some feed same =
    let last : length printed - 1 < length printed = omega (arith, some) in
    let whole : length printed ≡ length printed - 1 + 1 = omega (arith, some) in
    ap (λ l. l ++ 10 ∷ []) same
    ∙ ap (λ b. take (length printed - 1) printed ++ b ∷ []) (sym feed)
    ∙ sym (take_at_read printed (length printed - 1) 0 last).1
    ∙ ap (λ n. take n printed) (sym whole)
    ∙ take_all (length printed) printed (omega arith)

pub cut_back : (bytes printed : List ℕ) → bytes ++ 10 ∷ [] ≡ printed → bytes ≡ take (length printed - 1) printed
cut_back bytes printed cut =
    let short : length printed - 1 ≡ length bytes = omega (arith, ap length cut, length-append bytes (10 ∷ [])) in
    sym (ap (λ n. take n printed) short ∙ ap (take (length bytes)) (sym cut) ∙ take_at bytes (10 ∷ []) (length bytes) refl)
