-- What is printed, read again: fields, lines and texts.
use Rattle.std.proofs.Common.{◌≡◌, ℕ, zero, suc, ◌-◌, ◌<◌, ◌≤◌, ◌^◌, Bool, true, false, true≢false, ◌&&◌, cond, inl, inr, eqb, ltb, ltb-true, List, [], ◌∷◌, ◌++◌, map, filter, length, take, get_or, ap, sym, ◌∙◌, refl, ap₂, lt-ltb, append_assoc, arith}
use Rattle.std.specs.Char.{is_ascii_digit}
use Rattle.std.specs.List.{slice_split, join_with_byte, list_all, All, AllByRecursion}
use Rattle.std.specs.Str.Parse.{digits_value}
use Rattle.std.specs.Str.Lines.{strip_carriage_return}
use Rattle.std.specs.Fmt.{decimal}
use Rattle.std.proofs.lemmas.Bool.Decides.{eqb_tells}
use Rattle.std.proofs.lemmas.Fmt.{digits_decimal, digits_value-decimal, decimal_nonempty, length-decimal-le}
use Rattle.std.proofs.lemmas.List.Splits.{slice_split_none, slice_split_at}
use Rattle.flow_worldfile.specs.Lines.{Field, text, number, is_number, field_of, fields, lines}
use Rattle.flow_worldfile.specs.Directives.{field_text, fields_text}
use Rattle.flow_worldfile.proofs.Numbers.{digits}
use Rattle.flow_worldfile.proofs.LineLemmas.{next_line}

-- a byte that neither ends a field nor a line
abbrev pub is_inner : ℕ → Bool
is_inner b = ltb 32 b

-- a byte that doesn't end a line
abbrev pub is_printed : ℕ → Bool
is_printed b = ltb 31 b

-- a field that is read as it was printed
pub record Prints (f : Field) : Type 0 where
  pub some : 0 < length (field_text f)
  pub inner : list_all is_inner (field_text f) ≡ true
  pub again : field_of (field_text f) ≡ f

left_true : (a b : Bool) → (a && b) ≡ true → a ≡ true
left_true true b e = refl
left_true false b e = e

right_true : (a b : Bool) → (a && b) ≡ true → b ≡ true
right_true true b e = e
right_true false b e = absurd (cc)

both_true : (a b : Bool) → a ≡ true → b ≡ true → (a && b) ≡ true
both_true true b ea eb = eb
both_true false b ea eb = ea

-- what passes one test passes a weaker one
all_weaker : (p q : ℕ → Bool) → ((b : ℕ) → p b ≡ true → q b ≡ true) → (bs : List ℕ) → list_all p bs ≡ true → list_all q bs ≡ true
all_weaker p q weaker [] all = refl
all_weaker p q weaker (b ∷ bs) all =
    both_true (q b) (list_all q bs) (weaker b (left_true _ _ all)) (all_weaker p q weaker bs (right_true _ _ all))

digit_inner : (b : ℕ) → is_ascii_digit b ≡ true → is_inner b ≡ true
digit_inner b e = grind (arith, e)

inner_printed : (b : ℕ) → is_inner b ≡ true → is_printed b ≡ true
inner_printed b e = grind (arith, e)

number_is : (bytes : List ℕ) → 0 < length bytes → length bytes ≤ 20 → list_all is_ascii_digit bytes ≡ true → is_number bytes ≡ true
number_is bytes some short all = grind (arith, some, short, all)

pub number_prints : (n : ℕ) → n < 2 ^ 64 → Prints (number n)
number_prints n small =
    let some : 0 < length (decimal n) = decimal_nonempty n small in
    let short : length (decimal n) ≤ 20 = length-decimal-le 20 n (omega arith) (omega arith) small in
    let all : list_all is_ascii_digit (decimal n) ≡ true = digits_decimal digits n small in
    let value : digits_value 10 (decimal n) ≡ n = digits_value-decimal digits n small in
    record {
      some = some;
      inner = all_weaker is_ascii_digit is_inner digit_inner (decimal n) all;
      again = ap (λ b. cond b (number (digits_value 10 (decimal n))) (text (decimal n))) (number_is (decimal n) some short all) ∙ ap number value;
    }

-- a word that prints itself, by a test that computes
abbrev pub prints_itself : List ℕ → Bool
prints_itself w = ltb 0 (length w) && (list_all is_inner w && eqb (cond (is_number w) 1 0) 0)

pub word_prints : (w : List ℕ) → prints_itself w ≡ true → Prints (text w)
word_prints w h =
    let behind : (list_all is_inner w && eqb (cond (is_number w) 1 0) 0) ≡ true = right_true (ltb 0 (length w)) _ h in
    let no_number : is_number w ≡ false = none (is_number w) (right_true (list_all is_inner w) _ behind) in
    record {
      some = ltb-true _ _ (left_true (ltb 0 (length w)) _ h);
      inner = left_true (list_all is_inner w) _ behind;
      again = ap (λ b. cond b (number (digits_value 10 w)) (text w)) no_number;
    }
  where
    none : (b : Bool) → eqb (cond b 1 0) 0 ≡ true → b ≡ false
    none true e = absurd (cc)
    none false e = refl

passes_at : (p : ℕ → Bool) (bs : List ℕ) (k d : ℕ) → list_all p bs ≡ true → k < length bs → p (get_or bs k d) ≡ true
passes_at p [] k d all lt = absurd (omega arith)
passes_at p (b ∷ bs) zero d all lt = left_true _ _ all
passes_at p (b ∷ bs) (suc k) d all lt =
    let lt' : k < length bs = omega arith in
    passes_at p bs k d (right_true (p b) _ all) lt'

-- no byte of these is one that fails the test
none_is : (p : ℕ → Bool) (b : ℕ) (bs : List ℕ) → p b ≡ false → list_all p bs ≡ true → All (λ x. eqb x b ≡ false) bs
none_is p b bs out all k d lt = differs (get_or bs k d) (passes_at p bs k d all lt)
  where
    differs : (x : ℕ) → p x ≡ true → eqb x b ≡ false
    differs x e = elim (eqb_tells x b) [ inl h ↦ absurd (true≢false (sym e ∙ ap p h.1 ∙ out)) | inr h ↦ h.0 ]

-- fields with one space between them are those fields
joined : (xs : List (List ℕ)) → 0 < length xs → AllByRecursion (λ x. list_all is_inner x ≡ true) xs
    → slice_split (λ b. eqb b 32) (join_with_byte 32 xs) ≡ xs
joined [] some all = absurd (omega arith)
joined (x ∷ []) some all = slice_split_none (λ b. eqb b 32) x (none_is is_inner 32 x refl all.0)
joined (x ∷ y ∷ xs) some all =
    slice_split_at (λ b. eqb b 32) x 32 (join_with_byte 32 (y ∷ xs)) (none_is is_inner 32 x refl all.0) refl
    ∙ ap (λ l. x ∷ l) (joined (y ∷ xs) (omega arith) all.1)

filter_all : (xs : List (List ℕ)) → AllByRecursion (λ x. 0 < length x) xs → filter (λ piece. ltb 0 (length piece)) xs ≡ xs
filter_all [] all = refl
filter_all (x ∷ xs) all = ap (λ b. cond b (x ∷ filter (λ piece. ltb 0 (length piece)) xs) (filter (λ piece. ltb 0 (length piece)) xs)) (lt-ltb 0 (length x) all.0)
    ∙ ap (λ l. x ∷ l) (filter_all xs all.1)

-- what is known of printed fields, part by part
texts_some : (fs : List Field) → AllByRecursion Prints fs → AllByRecursion (λ x. 0 < length x) (map field_text fs)
texts_some [] all = tt
texts_some (f ∷ fs) all = (all.0.some, texts_some fs all.1)

texts_inner : (fs : List Field) → AllByRecursion Prints fs → AllByRecursion (λ x. list_all is_inner x ≡ true) (map field_text fs)
texts_inner [] all = tt
texts_inner (f ∷ fs) all = (all.0.inner, texts_inner fs all.1)

texts_again : (fs : List Field) → AllByRecursion Prints fs → map field_of (map field_text fs) ≡ fs
texts_again [] all = refl
texts_again (f ∷ fs) all = ap₂ (λ x xs. x ∷ xs) all.0.again (texts_again fs all.1)

-- printed fields are read again
pub fields_again : (f : Field) (fs : List Field) → AllByRecursion Prints (f ∷ fs) → fields (fields_text (f ∷ fs)) ≡ f ∷ fs
fields_again f fs all =
    let texts = map field_text (f ∷ fs) in
    let some : 0 < length texts = omega arith in
    let parts : slice_split (λ b. eqb b 32) (join_with_byte 32 texts) ≡ texts = joined texts some (texts_inner (f ∷ fs) all) in
    ap (λ ps. map field_of (filter (λ piece. ltb 0 (length piece)) ps)) parts
    ∙ ap (map field_of) (filter_all texts (texts_some (f ∷ fs) all))
    ∙ texts_again (f ∷ fs) all

all_append : (p : ℕ → Bool) (xs ys : List ℕ) → list_all p xs ≡ true → list_all p ys ≡ true → list_all p (xs ++ ys) ≡ true
all_append p [] ys ex ey = ey
all_append p (x ∷ xs) ys ex ey = both_true (p x) _ (left_true _ _ ex) (all_append p xs ys (right_true (p x) _ ex) ey)

joined_printed : (xs : List (List ℕ)) → AllByRecursion (λ x. list_all is_inner x ≡ true) xs → list_all is_printed (join_with_byte 32 xs) ≡ true
joined_printed [] all = refl
joined_printed (x ∷ []) all = all_weaker is_inner is_printed inner_printed x all.0
joined_printed (x ∷ y ∷ xs) all =
    all_append is_printed x (32 ∷ join_with_byte 32 (y ∷ xs)) (all_weaker is_inner is_printed inner_printed x all.0) (joined_printed (y ∷ xs) all.1)

-- printed fields end no line
pub fields_printed : (fs : List Field) → AllByRecursion Prints fs → list_all is_printed (fields_text fs) ≡ true
fields_printed fs all = joined_printed (map field_text fs) (texts_inner fs all)

-- a line without a carriage return stays as it is
no_return : (line : List ℕ) → list_all is_printed line ≡ true → strip_carriage_return line ≡ line
no_return [] all = refl
no_return (b ∷ line) all =
    let within : length (b ∷ line) - 1 < length (b ∷ line) = omega arith in
    let last : eqb (get_or (b ∷ line) (length (b ∷ line) - 1) 0) 13 ≡ false = none_is is_printed 13 (b ∷ line) refl all _ 0 within in
    ap (λ c. cond c (take (length (b ∷ line) - 1) (b ∷ line)) (b ∷ line)) last

-- the first line of a text
pub printed_line : (line more : List ℕ) → list_all is_printed line ≡ true → lines ((line ++ 10 ∷ []) ++ more) ≡ line ∷ lines more
printed_line line more all =
    ap lines (append_assoc line (10 ∷ []) more)
    ∙ next_line (line ++ 10 ∷ more) line more (slice_split_at (λ b. eqb b 10) line 10 more (none_is is_printed 10 line refl all) refl)
    ∙ ap (λ l. l ∷ lines more) (no_return line all)
