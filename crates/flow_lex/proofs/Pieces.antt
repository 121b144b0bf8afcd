-- Quoted texts: pieces, insides, and that a closed text is the longest spelling.
use Rattle.std.proofs.Common.{◌≡◌, ℕ, zero, suc, ◌+◌, ◌*◌, ◌≤◌, ◌<◌, List, [], ◌∷◌, ◌++◌, length, take, drop, get_or, refl, sym, ap, ap₂, ◌∙◌, subst, arith, true, false, Some, None, ◌⊎◌, inl, inr, append_assoc, length-append, zero-add, min}
use Rattle.std.proofs.lemmas.List.{append-nil, take_all, take-append-drop, drop-drop, length-take}
use Rattle.flow_tree.specs.declared.token.Token.TheVariants as token
use Rattle.flow_tree.specs.declared.token.Token.TheVariants.{Name, Number, Text}
use Rattle.flow_tree.specs.Spelling.{plain_byte, escaped, hex_value, Piece, itself, escape, code, Inside, empty, piece, NoPiece, IsLongest}
use Rattle.flow_tree.specs.Lexing.{EndsLine, Cannot}
use Rattle.flow_lex.specs.Next.{PieceAt}
use Rattle.flow_lex.proofs.Bytes.{true_false, head_same, tail_same, quote_no_letter, quote_no_digit, quote_no_sign, begins}

-- what a piece begins with
pub data Opens (text : List ℕ) : Type 0 where
  plain_first : 0 < length text → plain_byte (get_or text 0 0) ≡ true → Opens text
  escape_first : (b : ℕ) → 1 < length text → get_or text 0 0 ≡ 92 → escaped (get_or text 1 0) ≡ Some b → Opens text
  code_first : (h l : ℕ) → 3 < length text → get_or text 0 0 ≡ 92 → get_or text 1 0 ≡ 120 → hex_value (get_or text 2 0) ≡ Some h → hex_value (get_or text 3 0) ≡ Some l → Opens text

pub opens : (text w rest : List ℕ) (b : ℕ) → text ≡ w ++ rest → Piece w b → Opens text
opens text w rest b e (itself h p) =
    subst Opens (sym (e ∙ ap (λ x. x ++ rest) p)) (plain_first (omega arith) h)
opens text w rest b e (escape c h p) =
    subst Opens (sym (e ∙ ap (λ x. x ++ rest) p)) (escape_first b (omega arith) refl h)
opens text w rest b e (code high low h l eh el p v) =
    subst Opens (sym (e ∙ ap (λ x. x ++ rest) p)) (code_first h l (omega arith) refl refl eh el)

pub no_piece : (text : List ℕ) → (Opens text → ⊥) → NoPiece text
no_piece text none w rest b e p = none (opens text w rest b e p)

plain_92 : (b : ℕ) → b ≡ 92 → plain_byte b ≡ true → ⊥
plain_92 b e h = true_false (sym h ∙ ap plain_byte e)

pub some_none : {X : Type 0} (x : X) → Some x ≡ None → ⊥
some_none x h = cc

some_same : {X : Type 0} (x y : X) → Some x ≡ Some y → x ≡ y
some_same x y h = cc

-- neither of the two digits behind `\x` may fail
pub no_code : (text : List ℕ) → plain_byte (get_or text 0 0) ≡ false → escaped (get_or text 1 0) ≡ None
    → (hex_value (get_or text 2 0) ≡ None) ⊎ (hex_value (get_or text 3 0) ≡ None) → NoPiece text
no_code text np ne nh = no_piece text (λ o. fails o nh)
  where
    fails : Opens text → (hex_value (get_or text 2 0) ≡ None) ⊎ (hex_value (get_or text 3 0) ≡ None) → ⊥
    fails (plain_first lt h) n = true_false (sym h ∙ np)
    fails (escape_first b lt e h) n = some_none b (sym h ∙ ne)
    fails (code_first h l lt e f eh el) (inl n) = some_none h (sym eh ∙ n)
    fails (code_first h l lt e f eh el) (inr n) = some_none l (sym el ∙ n)

pub plain_piece : (text : List ℕ) → 0 < length text → plain_byte (get_or text 0 0) ≡ true → PieceAt text (Some (get_or text 0 0, 1))
plain_piece [] lt h = absurd (omega arith)
plain_piece (b ∷ w) lt h = (omega arith, omega arith, itself h refl)

pub escape_piece : (text : List ℕ) (b : ℕ) → 1 < length text → get_or text 0 0 ≡ 92 → Some b ≡ escaped (get_or text 1 0) → PieceAt text (Some (b, 2))
escape_piece [] b lt e h = absurd (omega arith)
escape_piece (x ∷ []) b lt e h = absurd (omega arith)
escape_piece (x ∷ c ∷ w) b lt e h = (omega arith, omega arith, escape c (sym h) (ap (λ y. y ∷ (c ∷ [])) e))

pub code_piece : (text : List ℕ) (h l : ℕ) → 3 < length text → get_or text 0 0 ≡ 92 → get_or text 1 0 ≡ 120
    → Some h ≡ hex_value (get_or text 2 0) → Some l ≡ hex_value (get_or text 3 0) → PieceAt text (Some (16 * h + l, 4))
code_piece [] h l lt e f eh el = absurd (omega arith)
code_piece (x ∷ []) h l lt e f eh el = absurd (omega arith)
code_piece (x ∷ y ∷ []) h l lt e f eh el = absurd (omega arith)
code_piece (x ∷ y ∷ p ∷ []) h l lt e f eh el = absurd (omega arith)
code_piece (x ∷ y ∷ p ∷ q ∷ w) h l lt e f eh el =
    (omega arith, omega arith, code p q h l (sym eh) (sym el) (ap (λ z. z ∷ (y ∷ (p ∷ (q ∷ [])))) e ∙ ap (λ z. 92 ∷ (z ∷ (p ∷ (q ∷ [])))) f) refl)

-- one more piece
pub inside_more : {w t : List ℕ} (p : List ℕ) (b : ℕ) → Inside w t → Piece p b → Inside (w ++ p) (t ++ b ∷ [])
inside_more p b empty q = piece p [] b q (sym (append-nil p)) empty
inside_more p b (piece w rest c r e i) q =
    piece w (rest ++ p) c r (ap (λ x. x ++ p) e ∙ append_assoc w rest p) (inside_more p b i q)

pub take_plus : (n m : ℕ) (xs : List ℕ) → take (n + m) xs ≡ take n xs ++ take m (drop n xs)
take_plus zero m xs = ap (λ k. take k xs) (zero-add m)
take_plus (suc n) m [] = take_all (suc n + m) [] (omega arith) ∙ sym (take_all m [] (omega arith))
take_plus (suc n) m (x ∷ xs) =
    let e : suc n + m ≡ suc (n + m) = omega arith in
    ap (λ k. take k (x ∷ xs)) e ∙ ap (λ l. x ∷ l) (take_plus n m xs)

pub inside_next : (text held held' : List ℕ) (n k b : ℕ) → n ≤ length text → Inside (take n text) held
    → PieceAt (drop n text) (Some (b, k)) → held' ≡ held ++ b ∷ [] → Inside (take (n + k) text) held'
inside_next text held held' n k b le i p e =
    subst (Inside (take (n + k) text)) (sym e) (subst (λ x. Inside x (held ++ b ∷ [])) (sym (take_plus n k text)) (inside_more (take k (drop n text)) b i p.2))

pub inside_start : (held : List ℕ) → held ≡ [] → Inside [] held
inside_start held e = subst (Inside []) (sym e) empty

-- pieces differ in no way where the texts that they begin are the same
pub record SamePiece (w r w' r' : List ℕ) (b b' : ℕ) : Type 0 where
  pub own : w ≡ w'
  pub rest : r ≡ r'
  pub byte : b ≡ b'

cut : (w r w' r' v v' : List ℕ) → w ++ r ≡ w' ++ r' → w ≡ v → w' ≡ v' → v ++ r ≡ v' ++ r'
cut w r w' r' v v' e p q = ap (λ x. x ++ r) (sym p) ∙ e ∙ ap (λ x. x ++ r') q

pub piece_same : (w r w' r' : List ℕ) (b b' : ℕ) → w ++ r ≡ w' ++ r' → Piece w b → Piece w' b' → SamePiece w r w' r' b b'
piece_same w r w' r' b b' e (itself h p) (itself k q) =
    let t = cut w r w' r' (b ∷ []) (b' ∷ []) e p q in
    let same = head_same b b' r r' t in
    record { own = p ∙ ap (λ x. x ∷ []) same ∙ sym q; rest = tail_same b b' r r' t; byte = same }
piece_same w r w' r' b b' e (itself h p) (escape c k q) =
    let t = cut w r w' r' (b ∷ []) (92 ∷ (c ∷ [])) e p q in
    absurd (plain_92 b (head_same b 92 r (c ∷ r') t) h)
piece_same w r w' r' b b' e (itself h p) (code high low x y ex ey q v) =
    let t = cut w r w' r' (b ∷ []) (92 ∷ (120 ∷ (high ∷ (low ∷ [])))) e p q in
    absurd (plain_92 b (head_same b 92 r (120 ∷ (high ∷ (low ∷ r'))) t) h)
piece_same w r w' r' b b' e (escape c h p) (itself k q) =
    let t = cut w r w' r' (92 ∷ (c ∷ [])) (b' ∷ []) e p q in
    absurd (plain_92 b' (sym (head_same 92 b' (c ∷ r) r' t)) k)
piece_same w r w' r' b b' e (escape c h p) (escape d k q) =
    let t = tail_same 92 92 (c ∷ r) (d ∷ r') (cut w r w' r' (92 ∷ (c ∷ [])) (92 ∷ (d ∷ [])) e p q) in
    let same = head_same c d r r' t in
    record { own = p ∙ ap (λ x. 92 ∷ (x ∷ [])) same ∙ sym q; rest = tail_same c d r r' t; byte = some_same b b' (sym h ∙ ap escaped same ∙ k) }
piece_same w r w' r' b b' e (escape c h p) (code high low x y ex ey q v) =
    let t = tail_same 92 92 (c ∷ r) (120 ∷ (high ∷ (low ∷ r'))) (cut w r w' r' (92 ∷ (c ∷ [])) (92 ∷ (120 ∷ (high ∷ (low ∷ [])))) e p q) in
    absurd (some_none b (sym h ∙ ap escaped (head_same c 120 r (high ∷ (low ∷ r')) t)))
piece_same w r w' r' b b' e (code high low x y ex ey p v) (itself k q) =
    let t = cut w r w' r' (92 ∷ (120 ∷ (high ∷ (low ∷ [])))) (b' ∷ []) e p q in
    absurd (plain_92 b' (sym (head_same 92 b' (120 ∷ (high ∷ (low ∷ r))) r' t)) k)
piece_same w r w' r' b b' e (code high low x y ex ey p v) (escape c k q) =
    let t = tail_same 92 92 (120 ∷ (high ∷ (low ∷ r))) (c ∷ r') (cut w r w' r' (92 ∷ (120 ∷ (high ∷ (low ∷ [])))) (92 ∷ (c ∷ [])) e p q) in
    absurd (some_none b' (sym k ∙ ap escaped (sym (head_same 120 c (high ∷ (low ∷ r)) r' t))))
piece_same w r w' r' b b' e (code high low x y ex ey p v) (code high' low' x' y' ex' ey' q v') =
    let t = tail_same 120 120 (high ∷ (low ∷ r)) (high' ∷ (low' ∷ r'))
    (tail_same 92 92 (120 ∷ (high ∷ (low ∷ r))) (120 ∷ (high' ∷ (low' ∷ r'))) (cut w r w' r' (92 ∷ (120 ∷ (high ∷ (low ∷ [])))) (92 ∷ (120 ∷ (high' ∷ (low' ∷ [])))) e p q)) in
    let eh = head_same high high' (low ∷ r) (low' ∷ r') t in
    let u = tail_same high high' (low ∷ r) (low' ∷ r') t in
    let el = head_same low low' r r' u in
    let fx = some_same x x' (sym ex ∙ ap hex_value eh ∙ ex') in
    let fy = some_same y y' (sym ey ∙ ap hex_value el ∙ ey') in
    record {
      own = p ∙ ap (λ z. 92 ∷ (120 ∷ (z ∷ (low ∷ [])))) eh ∙ ap (λ z. 92 ∷ (120 ∷ (high' ∷ (z ∷ [])))) el ∙ sym q;
      rest = tail_same low low' r r' u;
      byte = v ∙ ap (λ z. 16 * z + y) fx ∙ ap (λ z. 16 * x' + z) fy ∙ sym v';
    }

-- so are insides that no piece follows
pub record SameInside (w r t w' r' t' : List ℕ) : Type 0 where
  pub own : w ≡ w'
  pub rest : r ≡ r'
  pub held : t ≡ t'

pub inside_same : {w w' t t' : List ℕ} (r r' : List ℕ) → w ++ r ≡ w' ++ r' → Inside w t → Inside w' t' → NoPiece r → NoPiece r' → SameInside w r t w' r' t'
inside_same r r' e empty empty n m = record { own = refl; rest = e; held = refl }
inside_same r r' e empty (piece v rest b p f i) n m = absurd (n v (rest ++ r') b (e ∙ ap (λ x. x ++ r') f ∙ append_assoc v rest r') p)
inside_same r r' e (piece v rest b p f i) empty n m = absurd (m v (rest ++ r) b (sym e ∙ ap (λ x. x ++ r) f ∙ append_assoc v rest r) p)
inside_same r r' e (piece v rest b p f i) (piece v' rest' b' p' f' i') n m =
    let whole : v ++ (rest ++ r) ≡ v' ++ (rest' ++ r') =
    sym (append_assoc v rest r) ∙ ap (λ x. x ++ r) (sym f) ∙ e ∙ ap (λ x. x ++ r') f' ∙ append_assoc v' rest' r' in
    let one = piece_same v (rest ++ r) v' (rest' ++ r') b b' whole p p' in
    let more = inside_same r r' one.rest i i' n m in
    record {
      own = f ∙ ap₂ (λ x y. x ++ y) one.own more.own ∙ sym f';
      rest = more.rest;
      held = ap₂ (λ x y. x ∷ y) one.byte more.held;
    }

pub close_no_piece : (r : List ℕ) → NoPiece (34 ∷ r)
close_no_piece r = no_piece (34 ∷ r) fails
  where
    fails : Opens (34 ∷ r) → ⊥
    fails (plain_first lt h) = true_false (sym h)
    fails (escape_first b lt e h) = absurd (omega (arith, e))
    fails (code_first h l lt e f eh el) = absurd (omega (arith, e))

pub line_no_piece : (r : List ℕ) → NoPiece (10 ∷ r)
line_no_piece r = no_piece (10 ∷ r) fails
  where
    fails : Opens (10 ∷ r) → ⊥
    fails (plain_first lt h) = true_false (sym h)
    fails (escape_first b lt e h) = absurd (omega (arith, e))
    fails (code_first h l lt e f eh el) = absurd (omega (arith, e))

pub end_no_piece : NoPiece []
end_no_piece = no_piece [] fails
  where
    fails : Opens [] → ⊥
    fails (plain_first lt h) = omega arith
    fails (escape_first b lt e h) = omega arith
    fails (code_first h l lt e f eh el) = omega arith

pub ends_no_piece : (r : List ℕ) → EndsLine r → NoPiece r
ends_no_piece [] e = end_no_piece
ends_no_piece (b ∷ r) e = subst (λ x. NoPiece (x ∷ r)) (sym e) (line_no_piece r)

pub cannot_no_piece : (r : List ℕ) → Cannot r → NoPiece r
cannot_no_piece [] c = absurd c
cannot_no_piece (b ∷ r) c = c.2

length_closed : (inside : List ℕ) → length (34 ∷ (inside ++ 34 ∷ [])) ≡ length inside + 2
length_closed inside = omega (arith, length-append inside (34 ∷ []))

min_left : (a b : ℕ) → a ≤ b → min a b ≡ a
min_left a b h = omega arith

-- a closed text is the longest spelling where it begins
pub text_longest : (text inside t r : List ℕ) → text ≡ 34 ∷ (inside ++ 34 ∷ r) → Inside inside t → IsLongest (length inside + 2) text
text_longest text inside t r e i zero u lt le s = omega arith
text_longest [] inside t r e i (suc k) u lt le s = omega arith
text_longest (b ∷ w) inside t r e i (suc k) (Name n) lt le s = quote_no_letter b (head_same b 34 w (inside ++ 34 ∷ r) e) (begins (Name n) b (take k w) s)
text_longest (b ∷ w) inside t r e i (suc k) (token.Word n) lt le s = quote_no_letter b (head_same b 34 w (inside ++ 34 ∷ r) e) (begins (token.Word n) b (take k w) s)
text_longest (b ∷ w) inside t r e i (suc k) (Number z) lt le s = quote_no_digit b (head_same b 34 w (inside ++ 34 ∷ r) e) (begins (Number z) b (take k w) s)
text_longest (b ∷ w) inside t r e i (suc k) (token.Sign g) lt le s = quote_no_sign b (head_same b 34 w (inside ++ 34 ∷ r) e) (begins (token.Sign g) b (take k w) s)
text_longest (b ∷ w) inside t r e i (suc k) (Text u) lt le s =
    let own = s.0 in
    let front : take k w ≡ own ++ 34 ∷ [] = tail_same b 34 (take k w) (own ++ 34 ∷ []) s.1 in
    let all : w ≡ own ++ 34 ∷ drop k w =
    sym (take-append-drop k w) ∙ ap (λ x. x ++ drop k w) front ∙ append_assoc own (34 ∷ []) (drop k w) in
    let same = inside_same (34 ∷ r) (34 ∷ drop k w) (sym (tail_same b 34 w (inside ++ 34 ∷ r) e) ∙ all) i s.2 (close_no_piece r) (close_no_piece (drop k w)) in
    let size : length (take k w) ≡ k = length-take k w ∙ min_left k (length w) (omega arith) in
    omega (arith, size, ap length front, length-append own (34 ∷ []), ap length same.own)

-- the text after an opening quote, its inside and what follows
pub quoted_split : (text : List ℕ) (n : ℕ) → 0 < length text → get_or text 0 0 ≡ 34 → text ≡ 34 ∷ (take n (drop 1 text) ++ drop (n + 1) text)
quoted_split [] n lt e = absurd (omega arith)
quoted_split (b ∷ w) n lt e =
    let s : n + 1 ≡ suc n = omega arith in
    ap (λ x. x ∷ w) e ∙ ap (λ l. 34 ∷ l) (sym (take-append-drop n w)) ∙ ap (λ k. 34 ∷ (take n w ++ drop k (b ∷ w))) (sym s)

pub quoted_front : (text : List ℕ) (n : ℕ) → 0 < length text → get_or text 0 0 ≡ 34 → take (n + 1) text ≡ 34 ∷ take n (drop 1 text)
quoted_front [] n lt e = absurd (omega arith)
quoted_front (b ∷ w) n lt e =
    let s : n + 1 ≡ suc n = omega arith in
    ap (λ k. take k (b ∷ w)) s ∙ ap (λ x. x ∷ take n w) e

pub after_inside : (text : List ℕ) (n : ℕ) → NoPiece (drop n (drop 1 text)) → NoPiece (drop (n + 1) text)
after_inside text n h =
    let s : 1 + n ≡ n + 1 = omega arith in
    subst NoPiece (drop-drop n 1 text ∙ ap (λ k. drop k text) s) h
