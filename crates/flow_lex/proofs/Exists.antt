-- Every text has tokens or a lexical refusal.
use Rattle.std.proofs.Common.{◌≡◌, ℕ, zero, suc, ◌+◌, ◌*◌, ◌^◌, ◌≤◌, ◌<◌, List, [], ◌∷◌, ◌++◌, length, take, drop, get_or, refl, sym, ap, ◌∙◌, subst, arith, true, false, Bool, Option, Some, None, ◌⊎◌, inl, inr, pos, length-drop, drop-drop}
use Rattle.std.specs.Prelude.{bytes_eq, eqb, nat_le, not, ◌||◌}
use Rattle.std.specs.List.{find, prefix_len}
use Rattle.std.specs.Str.Parse.{digits_value}
use Rattle.std.proofs.lemmas.Bool.Decides.{nat_tests}
use Rattle.flow_base.specs.declared.place.Place.{Place}
use Rattle.flow_base.specs.Names.{letter, digit, name_byte}
use Rattle.flow_tree.specs.declared.token.Token.{Token}
use Rattle.flow_tree.specs.declared.token.Token.TheVariants as token
use Rattle.flow_tree.specs.declared.token.Token.TheVariants.{Name, Number, Text}
use Rattle.flow_tree.specs.declared.token.Word as words
use Rattle.flow_tree.specs.declared.token.Sign as signs
use Rattle.flow_tree.specs.declared.token.Spot.{Spot}
use Rattle.flow_tree.specs.declared.fault.Rule.{Rule}
use Rattle.flow_tree.specs.declared.fault.Rule.TheVariants.{S}
use Rattle.flow_tree.specs.Spelling.{word_bytes, sign_bytes, plain_byte, escaped, hex_value, empty, piece, NoPiece, IsBounded, begins_gap, gap_length}
use Rattle.flow_tree.specs.Lexing.{place_after, TokenAt, Refusal, Cannot, bad_inside, open_comment, ReadsTokens, here, gap, token as and_token}
use Rattle.flow_lex.specs.Laws.{HasVerdict, read, refused}
use Rattle.flow_lex.specs.Next.{sign_byte, FoundNumber, PieceAt, InsideAt}
use Rattle.flow_lex.proofs.Bytes.{true_false}
use Rattle.flow_lex.proofs.Tables.{all_words, all_signs, word_found, word_missing, sign_found, sign_missing}
use Rattle.flow_lex.proofs.Longest.{FoundName, finds_name}
use Rattle.flow_lex.proofs.Numbers.{finds_zero, finds_number}
use Rattle.flow_lex.proofs.Pieces.{plain_piece, escape_piece, code_piece, no_piece, Opens, plain_first, escape_first, code_first, no_code, end_no_piece, take_plus, some_none, quoted_split, after_inside}
use Rattle.flow_lex.proofs.Tokens.{found_token, big_token, name_found, found_word, front_length, number_over, number_bounded, sign_two, sign_one, sign_none, open_refusal, text_found}
use Rattle.flow_lex.proofs.Reading.{read_whole}

at_most : (n m : ℕ) → true ≡ nat_le n m → n ≤ m
at_most n m h = grind (arith, nat_tests)

more_than : (n m : ℕ) → false ≡ nat_le n m → m < n
more_than n m h = grind (arith, nat_tests)

same : (a b : ℕ) → true ≡ eqb a b → a ≡ b
same a b h = grind (arith, nat_tests)

other : (a b : ℕ) → false ≡ eqb a b → a ≡ b → ⊥
other a b h e = grind (arith, nat_tests)

-- a number within a bound or past it
within : (n m : ℕ) → (n ≤ m) ⊎ (m < n)
within n m = by (nat_le n m) refl
  where
    by : (b : Bool) → b ≡ nat_le n m → (n ≤ m) ⊎ (m < n)
    by true h = inl (at_most n m h)
    by false h = inr (more_than n m h)

is_or_not : (a b : ℕ) → (a ≡ b) ⊎ (a ≡ b → ⊥)
is_or_not a b = by (eqb a b) refl
  where
    by : (x : Bool) → x ≡ eqb a b → (a ≡ b) ⊎ (a ≡ b → ⊥)
    by true h = inl (same a b h)
    by false h = inr (other a b h)

-- what is read where no gap begins
data Step (before text : List ℕ) : Type 0 where
  token_there : (t : Token) (n : ℕ) → TokenAt text t n × IsBounded t × (0 < n) → Step before text
  refused_there : (rule : Rule) (p : Place) → Refusal before text rule p → Step before text

-- names and words
named : (before text : List ℕ) (n : ℕ) → begins_gap text ≡ false → FoundName text n → (r : Option words.Word)
    → r ≡ find (λ k. bytes_eq (word_bytes k) (take n text)) all_words → Step before text
named before text n g f (Some k) e = token_there (token.Word k) n (found_token text (token.Word k) n g (found_word text n k f (word_found (take n text) k e)) tt)
named before text n g f None e = bounded (within n 255)
  where
    bounded : (n ≤ 255) ⊎ (255 < n) → Step before text
    bounded (inl le) = token_there (Name (take n text)) n
        (found_token text (Name (take n text)) n g (name_found text n (take n text) f (word_missing (take n text) e) refl) (omega (arith, front_length text n f.within)))
    bounded (inr lt) = refused_there (S 4) (place_after before)
        (big_token text (Name (take n text)) n (place_after before) g (name_found text n (take n text) f (word_missing (take n text) e) refl)
        (λ b. omega (arith, b, front_length text n f.within)) before refl)

-- numbers
numbered : (before text : List ℕ) (n : ℕ) → begins_gap text ≡ false → FoundNumber text n → Step before text
numbered before text n g f = bounded (within (2 ^ 63) (digits_value 10 (take n text)))
  where
    bounded : (2 ^ 63 ≤ digits_value 10 (take n text)) ⊎ (digits_value 10 (take n text) < 2 ^ 63) → Step before text
    bounded (inl le) = refused_there (S 4) (place_after before)
        (big_token text (Number (pos (digits_value 10 (take n text)))) n (place_after before) g f (number_over (digits_value 10 (take n text)) le) before refl)
    bounded (inr lt) = token_there (Number (pos (digits_value 10 (take n text)))) n
        (found_token text (Number (pos (digits_value 10 (take n text)))) n g f (number_bounded (digits_value 10 (take n text)) (pos (digits_value 10 (take n text))) lt refl))

number_step : (before text : List ℕ) → 0 < length text → digit (get_or text 0 0) ≡ true → begins_gap text ≡ false → (get_or text 0 0 ≡ 48) ⊎ (get_or text 0 0 ≡ 48 → ⊥)
    → Step before text
number_step before text some d g (inl e) = numbered before text 1 g (finds_zero text some e)
number_step before text some d g (inr e) = numbered before text (prefix_len digit text) g (finds_number text some d e)

-- signs
short_sign : (before text : List ℕ) → 0 < length text → sign_byte (get_or text 0 0) ≡ true → begins_gap text ≡ false
    → (1 < length text → (h : signs.Sign) → sign_bytes h ≡ take 2 text → ⊥) → (r : Option signs.Sign) → r ≡ find (λ k. bytes_eq (sign_bytes k) (take 1 text)) all_signs
    → Step before text
short_sign before text some f g none (Some s) e =
    token_there (token.Sign s) 1 (found_token text (token.Sign s) 1 g (sign_one text s f some (sign_found (take 1 text) s e) none) tt)
short_sign before text some f g none None e =
    refused_there (S 1) (place_after before) (sign_none text (place_after before) g f some (sign_missing (take 1 text) e) none before refl)

long_sign : (before text : List ℕ) → 0 < length text → sign_byte (get_or text 0 0) ≡ true → begins_gap text ≡ false → 1 < length text → (r : Option signs.Sign)
    → r ≡ find (λ k. bytes_eq (sign_bytes k) (take 2 text)) all_signs → Step before text
long_sign before text some f g lt (Some s) e = token_there (token.Sign s) 2 (found_token text (token.Sign s) 2 g (sign_two text s f lt (sign_found (take 2 text) s e)) tt)
long_sign before text some f g lt None e =
    short_sign before text some f g (λ l. sign_missing (take 2 text) e) (find (λ k. bytes_eq (sign_bytes k) (take 1 text)) all_signs) refl

sign_step : (before text : List ℕ) → 0 < length text → sign_byte (get_or text 0 0) ≡ true → begins_gap text ≡ false → (length text ≤ 1) ⊎ (1 < length text) → Step before text
sign_step before text some f g (inl le) =
    short_sign before text some f g (λ lt h e. omega arith) (find (λ k. bytes_eq (sign_bytes k) (take 1 text)) all_signs) refl
sign_step before text some f g (inr lt) = long_sign before text some f g lt (find (λ k. bytes_eq (sign_bytes k) (take 2 text)) all_signs) refl

-- pieces of a quoted text
data HasPiece (text : List ℕ) : Type 0 where
  is_piece : (r : Option (ℕ × ℕ)) → PieceAt text r → HasPiece text

no_plain : (text : List ℕ) → plain_byte (get_or text 0 0) ≡ false → (get_or text 0 0 ≡ 92 → ⊥) → Opens text → ⊥
no_plain text np never (plain_first lt h) = true_false (sym h ∙ np)
no_plain text np never (escape_first b lt e h) = never e
no_plain text np never (code_first h l lt e f eh el) = never e

no_escape : (text : List ℕ) → plain_byte (get_or text 0 0) ≡ false → length text ≤ 1 → Opens text → ⊥
no_escape text np le (plain_first lt h) = true_false (sym h ∙ np)
no_escape text np le (escape_first b lt e h) = omega arith
no_escape text np le (code_first h l lt e f eh el) = omega arith

no_hex : (text : List ℕ) → plain_byte (get_or text 0 0) ≡ false → None ≡ escaped (get_or text 1 0) → (3 < length text → get_or text 1 0 ≡ 120 → ⊥) → Opens text → ⊥
no_hex text np q never (plain_first lt h) = true_false (sym h ∙ np)
no_hex text np q never (escape_first b lt e h) = some_none b (sym h ∙ sym q)
no_hex text np q never (code_first h l lt e f eh el) = never lt f

hex_piece : (text : List ℕ) → plain_byte (get_or text 0 0) ≡ false → get_or text 0 0 ≡ 92 → None ≡ escaped (get_or text 1 0) → get_or text 1 0 ≡ 120 → 3 < length text
    → (h : Option ℕ) → h ≡ hex_value (get_or text 2 0) → (l : Option ℕ) → l ≡ hex_value (get_or text 3 0) → HasPiece text
hex_piece text np e q f lt None eh l el = is_piece None (no_code text np (sym q) (inl (sym eh)))
hex_piece text np e q f lt (Some h) eh None el = is_piece None (no_code text np (sym q) (inr (sym el)))
hex_piece text np e q f lt (Some h) eh (Some l) el = is_piece (Some (16 * h + l, 4)) (code_piece text h l lt e f eh el)

coded_piece : (text : List ℕ) → plain_byte (get_or text 0 0) ≡ false → get_or text 0 0 ≡ 92 → None ≡ escaped (get_or text 1 0)
    → (get_or text 1 0 ≡ 120) ⊎ (get_or text 1 0 ≡ 120 → ⊥) → (length text ≤ 3) ⊎ (3 < length text) → HasPiece text
coded_piece text np e q (inr never) s = is_piece None (no_piece text (no_hex text np q (λ lt. never)))
coded_piece text np e q (inl f) (inl le) = is_piece None (no_piece text (no_hex text np q (λ lt z. omega arith)))
coded_piece text np e q (inl f) (inr lt) = hex_piece text np e q f lt (hex_value (get_or text 2 0)) refl (hex_value (get_or text 3 0)) refl

escaped_piece : (text : List ℕ) → plain_byte (get_or text 0 0) ≡ false → get_or text 0 0 ≡ 92 → 1 < length text → (r : Option ℕ) → r ≡ escaped (get_or text 1 0) → HasPiece text
escaped_piece text np e lt (Some b) q = is_piece (Some (b, 2)) (escape_piece text b lt e q)
escaped_piece text np e lt None q = coded_piece text np e q (is_or_not (get_or text 1 0) 120) (within (length text) 3)

other_piece : (text : List ℕ) → plain_byte (get_or text 0 0) ≡ false → (get_or text 0 0 ≡ 92) ⊎ (get_or text 0 0 ≡ 92 → ⊥) → (length text ≤ 1) ⊎ (1 < length text) → HasPiece text
other_piece text np (inr never) s = is_piece None (no_piece text (no_plain text np never))
other_piece text np (inl e) (inl le) = is_piece None (no_piece text (no_escape text np le))
other_piece text np (inl e) (inr lt) = escaped_piece text np e lt (escaped (get_or text 1 0)) refl

first_piece : (text : List ℕ) → 0 < length text → (p : Bool) → p ≡ plain_byte (get_or text 0 0) → HasPiece text
first_piece text some true e = is_piece (Some (get_or text 0 0, 1)) (plain_piece text some (sym e))
first_piece text some false e = other_piece text (sym e) (is_or_not (get_or text 0 0) 92) (within (length text) 1)

piece_of : (text : List ℕ) → HasPiece text
piece_of [] = is_piece None end_no_piece
piece_of (x ∷ w) = first_piece (x ∷ w) (omega arith) (plain_byte x) refl

-- the inside of a quoted text
data HasInside (text : List ℕ) : Type 0 where
  inside_of : (held : List ℕ) (n : ℕ) → InsideAt text held n → HasInside text

longer : (text : List ℕ) (b k : ℕ) → PieceAt text (Some (b, k)) → HasInside (drop k text) → HasInside text
longer text b k p (inside_of held n i) = inside_of (b ∷ held) (k + n) (record {
  within = omega (arith, p.1, i.within, length-drop k text);
  inside = piece (take k text) (take n (drop k text)) b p.2 (take_plus k n text) i.inside;
  over = subst NoPiece (drop-drop n k text) i.over;
})

one_more : (k : ℕ) (text : List ℕ) → length text ≤ suc k → ((t : List ℕ) → length t ≤ k → HasInside t) → HasPiece text → HasInside text
one_more k text le rest (is_piece None p) = inside_of [] 0 (record { within = omega arith; inside = empty; over = p })
one_more k text le rest (is_piece (Some x) p) = longer text x.0 x.1 p (rest (drop x.1 text) (omega (arith, p.0, p.1, length-drop x.1 text)))

inside_from : (fuel : ℕ) (text : List ℕ) → length text ≤ fuel → HasInside text
inside_from zero [] le = inside_of [] 0 (record { within = omega arith; inside = empty; over = end_no_piece })
inside_from zero (x ∷ w) le = absurd (omega arith)
inside_from (suc k) text le = one_more k text le (inside_from k) (piece_of text)

-- quoted texts
closed : (before text held rest : List ℕ) (n : ℕ) → 0 < length text → get_or text 0 0 ≡ 34 → begins_gap text ≡ false → InsideAt (drop 1 text) held n → rest ≡ drop (n + 1) text
    → 0 < length rest → get_or rest 0 0 ≡ 34 → (length held ≤ 65535) ⊎ (65535 < length held) → Step before text
closed before text held rest n some q g i r more shut bound = by bound
  where
    room : n + 1 ≤ length text
    room = omega (arith, ap length r, length-drop (n + 1) text)

    by : (length held ≤ 65535) ⊎ (65535 < length held) → Step before text
    by (inl le) = token_there (Text held) (n + 2) (found_token text (Text held) (n + 2) g (text_found text held held rest n some q i r more shut room refl) le)
    by (inr lt) = refused_there (S 4) (place_after before)
        (big_token text (Text held) (n + 2) (place_after before) g (text_found text held held rest n some q i r more shut room refl) (λ le. omega (arith, le)) before refl)

quoted : (before text held : List ℕ) (n : ℕ) → 0 < length text → get_or text 0 0 ≡ 34 → begins_gap text ≡ false → InsideAt (drop 1 text) held n
    → (rest : List ℕ) → rest ≡ drop (n + 1) text → Step before text
quoted before text held n some q g i [] r = refused_there (S 2) (place_after before) (open_refusal text held [] n (place_after before) some q i r tt before refl)
quoted before text held n some q g i (b ∷ w) r = by (is_or_not b 10) (is_or_not b 34)
  where
    by : (b ≡ 10) ⊎ (b ≡ 10 → ⊥) → (b ≡ 34) ⊎ (b ≡ 34 → ⊥) → Step before text
    by (inl e) s = refused_there (S 2) (place_after before) (open_refusal text held (b ∷ w) n (place_after before) some q i r e before refl)
    by (inr a) (inl e) = closed before text held (b ∷ w) n some q g i r (omega arith) e (within (length held) 65535)
    by (inr a) (inr c) = refused_there (S 1) (place_after (before ++ 34 ∷ take n (drop 1 text)))
        (bad_inside (take n (drop 1 text)) held (drop (n + 1) text) (quoted_split text n some q) i.inside
        (subst Cannot r (a, c, subst NoPiece (sym r) (after_inside text n i.over))))

text_step : (before text : List ℕ) → 0 < length text → get_or text 0 0 ≡ 34 → begins_gap text ≡ false → HasInside (drop 1 text) → Step before text
text_step before text some q g (inside_of held n i) = quoted before text held n some q g i (drop (n + 1) text) refl

-- where no gap begins, a token or a refusal is there
is_sign : (x y z : Bool) → false ≡ x → false ≡ y → false ≡ z → not (x || y || z) ≡ true
is_sign true y z a b c = absurd (true_false (sym a))
is_sign false true z a b c = absurd (true_false (sym b))
is_sign false false true a b c = absurd (true_false (sym c))
is_sign false false false a b c = refl

step : (before text : List ℕ) → 0 < length text → begins_gap text ≡ false → Step before text
step before text some g = by (letter (get_or text 0 0)) refl (digit (get_or text 0 0)) refl (eqb (get_or text 0 0) 34) refl
  where
    by : (l : Bool) → l ≡ letter (get_or text 0 0) → (d : Bool) → d ≡ digit (get_or text 0 0) → (q : Bool) → q ≡ eqb (get_or text 0 0) 34 → Step before text
    by true l d e q f = named before text (prefix_len name_byte text) g (finds_name text some (sym l))
        (find (λ k. bytes_eq (word_bytes k) (take (prefix_len name_byte text) text)) all_words) refl
    by false l true d q f = number_step before text some (sym d) g (is_or_not (get_or text 0 0) 48)
    by false l false d true f = text_step before text some (same (get_or text 0 0) 34 f) g (inside_from (length (drop 1 text)) (drop 1 text) (omega arith))
    by false l false d false f =
        sign_step before text some (is_sign (letter (get_or text 0 0)) (digit (get_or text 0 0)) (eqb (get_or text 0 0) 34) l d f) g (within (length text) 1)

-- whole texts
data HasReading (before text : List ℕ) : Type 0 where
  whole : (spots : List Spot) (end : List ℕ) → ReadsTokens before text spots end [] → HasReading before text
  stops : (spots : List Spot) (b t : List ℕ) (rule : Rule) (p : Place) → ReadsTokens before text spots b t → Refusal b t rule p → HasReading before text

after_gap : (before text : List ℕ) → 0 < gap_length text → HasReading (before ++ take (gap_length text) text) (drop (gap_length text) text) → HasReading before text
after_gap before text some (whole s e r) = whole s e (gap some r)
after_gap before text some (stops s b t rule p r f) = stops s b t rule p (gap some r) f

after_token : (before text : List ℕ) (t : Token) (n : ℕ) → TokenAt text t n → IsBounded t → HasReading (before ++ take n text) (drop n text) → HasReading before text
after_token before text t n at bound (whole s e r) = whole (record { token = t; at = place_after before } ∷ s) e (and_token t n at bound r)
after_token before text t n at bound (stops s b u rule p r f) = stops (record { token = t; at = place_after before } ∷ s) b u rule p (and_token t n at bound r) f

after_step : (k : ℕ) (before text : List ℕ) → length text ≤ suc k → ((b t : List ℕ) → length t ≤ k → HasReading b t) → Step before text → HasReading before text
after_step k before text le rest (token_there t n f) =
    after_token before text t n f.0 f.1 (rest (before ++ take n text) (drop n text) (omega (arith, f.2, f.0.within, length-drop n text)))
after_step k before text le rest (refused_there rule p f) = stops [] before text rule p here f

onward : (k : ℕ) (before text : List ℕ) → 0 < length text → length text ≤ suc k → ((b t : List ℕ) → length t ≤ k → HasReading b t)
    → (n : ℕ) → n ≡ gap_length text → (g : Bool) → g ≡ begins_gap text → HasReading before text
onward k before text some le rest zero e true g = stops [] before text (S 3) (place_after before) here (open_comment (sym g, sym e))
onward k before text some le rest zero e false g = after_step k before text le rest (step before text some (sym g))
onward k before text some le rest (suc n) e g h =
    after_gap before text (omega (arith, e)) (rest (before ++ take (gap_length text) text) (drop (gap_length text) text) (omega (arith, e, length-drop (gap_length text) text)))

reading : (fuel : ℕ) (before text : List ℕ) → length text ≤ fuel → HasReading before text
reading zero before [] le = whole [] before here
reading zero before (x ∷ w) le = absurd (omega arith)
reading (suc k) before [] le = whole [] before here
reading (suc k) before (x ∷ w) le = onward k before (x ∷ w) (omega arith) le (reading k) (gap_length (x ∷ w)) refl (begins_gap (x ∷ w)) refl

pub has_verdict : (bytes : List ℕ) → HasVerdict bytes
has_verdict bytes = told (reading (length bytes) [] bytes (omega arith))
  where
    told : HasReading [] bytes → HasVerdict bytes
    told (whole s e r) = read s (place_after e) (read_whole bytes e [] s (place_after e) r refl refl)
    told (stops s b t rule p r f) = refused rule p (record { spots = s; before = b; text = t; reads = r; refused = f })
