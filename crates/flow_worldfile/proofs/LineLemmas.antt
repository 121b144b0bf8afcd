-- A text and its parts between a byte's places.
use Rattle.std.proofs.Common.{◌≡◌, ℕ, ◌+◌, ◌-◌, ◌<◌, Bool, eqb, Some, None, List, [], ◌∷◌, length, take, drop, ap, ◌∙◌, sym, refl, arith}
use Rattle.std.specs.List.{slice_split, position, position_or_len}
use Rattle.std.specs.Str.Lines.{lines, lines_of_parts, strip_carriage_return}
use Rattle.std.proofs.lemmas.List.{take_rest}
use Rattle.std.proofs.lemmas.List.Splits.{slice_split_none, slice_split_first, length-slice_split}
use Rattle.std.proofs.lemmas.List.Sums.{fails_before_first}

-- where no byte passes, the text is the one part
pub one_part : (p : ℕ → Bool) (text : List ℕ) → position p text ≡ None → slice_split p text ≡ text ∷ []
one_part p text none =
    slice_split_none p text (λ k d lt. let before : k < position_or_len p text = grind (arith, none) in fails_before_first p text k d before)

-- where one passes, the text is the part before it, and the parts of what stands after it
pub two_parts : (p : ℕ → Bool) (text : List ℕ) (end : ℕ) → position p text ≡ Some end
    → slice_split p text ≡ take end text ∷ slice_split p (take (length text - (end + 1)) (drop (end + 1) text))
two_parts p text end is =
    let found : position_or_len p text < length text = grind (arith, is) in
    let same : position_or_len p text ≡ end = grind (arith, is) in
    slice_split_first p text 0 found
    ∙ ap (λ n. take n text ∷ slice_split p (drop (n + 1) text)) same
    ∙ ap (λ rest. take end text ∷ slice_split p rest) (sym (take_rest text (end + 1)))

kept_line : (x : ℕ) (xs : List ℕ) → lines_of_parts ((x ∷ xs) ∷ []) ≡ (x ∷ xs) ∷ []
kept_line x xs = grind arith

-- a text of one part has one line
pub last_line : (text none : List ℕ) → slice_split (λ b. eqb b 10) text ≡ text ∷ [] → 0 < length text → length none ≡ 0 → lines text ≡ text ∷ lines none
last_line [] none one some empty = absurd (omega arith)
last_line (x ∷ xs) [] one some empty = ap lines_of_parts one ∙ kept_line x xs
last_line (x ∷ xs) (y ∷ ys) one some empty = absurd (omega arith)

more_lines : (line : List ℕ) (parts : List (List ℕ)) → 0 < length parts → lines_of_parts (line ∷ parts) ≡ strip_carriage_return line ∷ lines_of_parts parts
more_lines line [] some = absurd (omega arith)
more_lines line (next ∷ parts) some = refl

-- a part before a line feed is a line, without its carriage return
pub next_line : (text line more : List ℕ) → slice_split (λ b. eqb b 10) text ≡ line ∷ slice_split (λ b. eqb b 10) more → lines text ≡ strip_carriage_return line ∷ lines more
next_line text line more parts =
    let some : 0 < length (slice_split (λ b. eqb b 10) more) = omega (arith, length-slice_split (λ b. eqb b 10) more) in
    ap lines_of_parts parts ∙ more_lines line (slice_split (λ b. eqb b 10) more) some
