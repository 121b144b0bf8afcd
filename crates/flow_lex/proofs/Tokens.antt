-- What a step of the lexer answers, from what it found.
use Rattle.std.proofs.Common.{◌≡◌, ℕ, ℤ, pos, zero, suc, ◌+◌, ◌^◌, ◌≤◌, ◌<◌, List, [], ◌∷◌, ◌++◌, length, take, drop, get_or, refl, sym, ap, ap₂, ◌∙◌, subst, arith, true, false, length-append, min}
use Rattle.std.proofs.lemmas.List.{length-take}
use Rattle.flow_base.specs.Names.{IsName}
use Rattle.flow_base.specs.declared.place.Place.{Place}
use Rattle.flow_tree.specs.declared.token.Token.{Token}
use Rattle.flow_tree.specs.declared.token.Token.TheVariants as token
use Rattle.flow_tree.specs.declared.token.Token.TheVariants.{Name, Number, Text}
use Rattle.flow_tree.specs.declared.token.Word as words
use Rattle.flow_tree.specs.declared.token.Sign as signs
use Rattle.flow_tree.specs.declared.fault.Rule.TheVariants.{S}
use Rattle.flow_tree.specs.Spelling.{word_bytes, sign_bytes, IsBounded, IsLongest, Inside, NoPiece, begins_gap, gap_length}
use Rattle.flow_tree.specs.Lexing.{place_after, TokenAt, Refusal, too_big, bad_byte, bad_inside, open_text, open_comment, EndsLine, Cannot}
use Rattle.flow_lex.specs.Next.{sign_byte, Found, InsideAt}
use Rattle.flow_lex.proofs.Longest.{FoundName, NoSign, sign_longest}
use Rattle.flow_lex.proofs.Pieces.{text_longest, quoted_split, quoted_front, after_inside, take_plus}

pub token_of : (text : List ℕ) (t : Token) (n : ℕ) → begins_gap text ≡ false → Found text t n → TokenAt text t n
token_of text t n gap f = record { apart = gap; within = f.within; spelled = f.spelled; longest = f.longest }

pub found_token : (text : List ℕ) (t : Token) (n : ℕ) → begins_gap text ≡ false → Found text t n → IsBounded t → TokenAt text t n × IsBounded t × (0 < n)
found_token text t n gap f b = (token_of text t n gap f, b, f.some)

pub big_token : (text : List ℕ) (t : Token) (n : ℕ) (at : Place) → begins_gap text ≡ false → Found text t n → (IsBounded t → ⊥)
    → (before : List ℕ) → at ≡ place_after before → Refusal before text (S 4) at
big_token text t n at gap f over before e =
    subst (λ p. Refusal before text (S 4) p) (sym e) (too_big t n (token_of text t n gap f) over)

pub number_over : (v : ℕ) → 2 ^ 63 ≤ v → IsBounded (Number (pos v)) → ⊥
number_over v h le = omega arith

pub number_bounded : (v : ℕ) (z : ℤ) → v < 2 ^ 63 → z ≡ pos v → IsBounded (Number z)
number_bounded v z lt e = subst (λ x. IsBounded (Number x)) (sym e) lt

-- names
pub name_found : (text : List ℕ) (n : ℕ) (name : List ℕ) → FoundName text n → ((k : words.Word) → word_bytes k ≡ take n text → ⊥) → name ≡ take n text → Found text (Name name) n
name_found text n name f free e = record { some = f.some; within = f.within; spelled = (f.form, free, e); longest = f.longest }

pub found_word : (text : List ℕ) (n : ℕ) (k : words.Word) → FoundName text n → word_bytes k ≡ take n text → Found text (token.Word k) n
found_word text n k f e = record { some = f.some; within = f.within; spelled = e; longest = f.longest }

min_left : (a b : ℕ) → a ≤ b → min a b ≡ a
min_left a b h = omega arith

pub front_length : (text : List ℕ) (n : ℕ) → n ≤ length text → length (take n text) ≡ n
front_length text n le = length-take n text ∙ min_left n (length text) le

pub is_name : (text bytes : List ℕ) (n : ℕ) → FoundName text n → n ≤ 255 → bytes ≡ take n text → IsName bytes
is_name text bytes n f le e = subst IsName (sym e) (record { form = f.form; short = omega (arith, front_length text n f.within) })

-- signs
pub sign_two : (text : List ℕ) (g : signs.Sign) → sign_byte (get_or text 0 0) ≡ true → 1 < length text → sign_bytes g ≡ take 2 text → Found text (token.Sign g) 2
sign_two text g f lt e = record {
  some = omega arith;
  within = omega arith;
  spelled = e;
  longest = sign_longest 2 text f (λ k h a b c d. omega arith);
}

pub sign_one : (text : List ℕ) (g : signs.Sign) → sign_byte (get_or text 0 0) ≡ true → 0 < length text → sign_bytes g ≡ take 1 text
    → (1 < length text → (h : signs.Sign) → sign_bytes h ≡ take 2 text → ⊥) → Found text (token.Sign g) 1
sign_one text g f lt e none = record {
  some = omega arith;
  within = omega arith;
  spelled = e;
  longest = sign_longest 1 text f (no_two text none);
}
  where
    no_two : (text : List ℕ) → (1 < length text → (h : signs.Sign) → sign_bytes h ≡ take 2 text → ⊥) → NoSign 1 text
    no_two text none k h a b c d = let two : k ≡ 2 = omega arith in none (omega arith) h (d ∙ ap (λ j. take j text) two)

pub sign_none : (text : List ℕ) (at : Place) → begins_gap text ≡ false → sign_byte (get_or text 0 0) ≡ true → 0 < length text → ((h : signs.Sign) → sign_bytes h ≡ take 1 text → ⊥)
    → (1 < length text → (h : signs.Sign) → sign_bytes h ≡ take 2 text → ⊥) → (before : List ℕ) → at ≡ place_after before → Refusal before text (S 1) at
sign_none [] at gap f lt one two before e = absurd (omega arith)
sign_none (b ∷ w) at gap f lt one two before e =
    subst (λ p. Refusal before (b ∷ w) (S 1) p) (sym e)
    (bad_byte b w refl gap (λ q. true_false (sym f ∙ ap sign_byte q)) (sign_longest 0 (b ∷ w) f none))
  where
    none : NoSign 0 (b ∷ w)
    none zero h a c d s = omega arith
    none (suc zero) h a c d s = one h s
    none (suc (suc zero)) h a c d s = two (omega arith) h s
    none (suc (suc (suc k))) h a c d s = omega arith

    true_false : true ≡ false → ⊥
    true_false h = cc

-- comments
pub comment_refusal : (text : List ℕ) (at : Place) → begins_gap text ≡ true → gap_length text ≡ 0 → (before : List ℕ) → at ≡ place_after before → Refusal before text (S 3) at
comment_refusal text at b g before e = subst (λ p. Refusal before text (S 3) p) (sym e) (open_comment (b, g))

-- quoted texts
pub open_refusal : (text held rest : List ℕ) (n : ℕ) (at : Place) → 0 < length text → get_or text 0 0 ≡ 34 → InsideAt (drop 1 text) held n → rest ≡ drop (n + 1) text → EndsLine rest
    → (before : List ℕ) → at ≡ place_after before → Refusal before text (S 2) at
open_refusal text held rest n at lt q i r ends before e =
    subst (λ p. Refusal before text (S 2) p) (sym e)
    (open_text (take n (drop 1 text)) held (drop (n + 1) text) (quoted_split text n lt q) i.inside (subst EndsLine r ends))

pub no_rest : (rest : List ℕ) → length rest ≡ 0 → EndsLine rest
no_rest [] e = tt
no_rest (b ∷ w) e = absurd (omega arith)

pub line_rest : (rest : List ℕ) → 0 < length rest → get_or rest 0 0 ≡ 10 → EndsLine rest
line_rest [] lt e = tt
line_rest (b ∷ w) lt e = e

cannot : (rest : List ℕ) → 0 < length rest → (get_or rest 0 0 ≡ 10 → ⊥) → (get_or rest 0 0 ≡ 34 → ⊥) → NoPiece rest → Cannot rest
cannot [] lt a b c = omega arith
cannot (x ∷ w) lt a b c = (a, b, c)

pub inside_refusal : (text held rest : List ℕ) (n : ℕ) (at p : Place) → 0 < length text → get_or text 0 0 ≡ 34 → InsideAt (drop 1 text) held n → rest ≡ drop (n + 1) text
    → 0 < length rest → (get_or rest 0 0 ≡ 10 → ⊥) → (get_or rest 0 0 ≡ 34 → ⊥)
    → ((before : List ℕ) → at ≡ place_after before → p ≡ place_after (before ++ take (n + 1) text))
    → (before : List ℕ) → at ≡ place_after before → Refusal before text (S 1) p
inside_refusal text held rest n at p lt q i r some a b leads before e =
    let over : NoPiece rest = subst NoPiece (sym r) (after_inside text n i.over) in
    subst (λ x. Refusal before text (S 1) x) (sym (leads before e ∙ ap (λ l. place_after (before ++ l)) (quoted_front text n lt q)))
    (bad_inside (take n (drop 1 text)) held (drop (n + 1) text) (quoted_split text n lt q) i.inside (subst Cannot r (cannot rest some a b over)))

rest_cons : (rest : List ℕ) → 0 < length rest → get_or rest 0 0 ≡ 34 → rest ≡ 34 ∷ drop 1 rest
rest_cons [] lt e = absurd (omega arith)
rest_cons (b ∷ w) lt e = ap (λ x. x ∷ w) e

take_two : (text : List ℕ) (n : ℕ) → take (n + 2) text ≡ take (n + 1) text ++ take 1 (drop (n + 1) text)
take_two text n = let e : n + 2 ≡ (n + 1) + 1 = omega arith in ap (λ k. take k text) e ∙ take_plus (n + 1) 1 text

pub text_found : (text held t rest : List ℕ) (n : ℕ) → 0 < length text → get_or text 0 0 ≡ 34 → InsideAt (drop 1 text) held n → rest ≡ drop (n + 1) text
    → 0 < length rest → get_or rest 0 0 ≡ 34 → n + 1 ≤ length text → t ≡ held → Found text (Text t) (n + 2)
text_found text held t rest n lt q i r some close le e =
    let inside = take n (drop 1 text) in
    let shut : drop (n + 1) text ≡ 34 ∷ drop 1 rest = sym r ∙ rest_cons rest some close in
    let whole : text ≡ 34 ∷ (inside ++ 34 ∷ drop 1 rest) = quoted_split text n lt q ∙ ap (λ x. 34 ∷ (inside ++ x)) shut in
    let size : length inside ≡ n = front_length (drop 1 text) n i.within in
    let room : n + 2 ≤ length text = omega (arith, ap length whole, length-append inside (34 ∷ drop 1 rest)) in
    record {
      some = omega arith;
      within = room;
      spelled = (
        inside,
        take_two text n ∙ ap₂ (λ x y. x ++ take 1 y) (quoted_front text n lt q) shut,
        subst (λ x. Inside inside x) (sym e) i.inside,
      );
      longest = subst (λ k. IsLongest (k + 2) text) size (text_longest text inside held (drop 1 rest) whole i.inside);
    }
