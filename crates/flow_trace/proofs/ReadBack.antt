-- The line that is read of the words of a printed line is that line.
use Rattle.std.proofs.Common.{◌≡◌, ℕ, suc, ◌+◌, ◌-◌, ◌%◌, ◌^◌, ◌<◌, ◌≤◌, ℤ, pos, negsuc, List, [], ◌∷◌, ◌++◌, true, false, ◌&&◌, length, map, sym, ap, ◌∙◌, refl, arith, decimal, Some, None, nat_lt, nat_le, bytes_eq, lit<, if◌then◌else◌}
use Rattle.std.specs.Fmt.{signed_decimal}
use Rattle.std.specs.Bool.{◌==◌}
use Rattle.std.proofs.lemmas.Bool.{and_from, and_left, ne_eqb, cond-false, cond-true, lt-ltb, le-leb}
use Rattle.std.proofs.lemmas.Fmt.{decimal_by_steps}
use Rattle.flow_base.specs.Names.{IsName, is_name_text}
use Rattle.flow_trace.specs.Bytes.{text, fields, IsField, IsLine}
use Rattle.flow_trace.specs.Reading.{number_in, integer_in, at_least_zero, below_zero, line_from}
use Rattle.flow_trace.specs.declared.line.Line.{Line}
use Rattle.flow_trace.specs.declared.line.Line.TheVariants.{Head, Boot, Kill, Stop, Cut, Heal, DiskFail, Timer, Arrival, Read, Write, Sync, Size, Start, Wait, Take, Throw, Catch, Fail, Finish, Cancel, Broken, PrintInt, PrintBool, PrintText, Send, LostCut, LostDraw, Discard, Kept, Frame, Callback, EndIdle, EndBound, EndSpent, EndStop}
use Rattle.flow_trace.proofs.Scanning.{word_of, number_in-decimal}
use lib.Signed.{mag}

number64 : (n : ℕ) → n < 2 ^ 64 → number_in (decimal n) ≡ n
number64 n small = number_in-decimal n small

number8 : (n : ℕ) → n < 2 ^ 8 → number_in (decimal n) % 2 ^ 8 ≡ n
number8 n small = ap (λ m. m % 2 ^ 8) (number_in-decimal n (omega arith)) ∙ omega arith

number16 : (n : ℕ) → n < 2 ^ 16 → number_in (decimal n) % 2 ^ 16 ≡ n
number16 n small = ap (λ m. m % 2 ^ 16) (number_in-decimal n (omega arith)) ∙ omega arith

number32 : (n : ℕ) → n < 2 ^ 32 → number_in (decimal n) % 2 ^ 32 ≡ n
number32 n small = ap (λ m. m % 2 ^ 32) (number_in-decimal n (omega arith)) ∙ omega arith

-- a number begins with a digit
begins : (n : ℕ) → n < 2 ^ 64 → (b : ℕ) × (bs : List ℕ) × (decimal n ≡ b ∷ bs) × (48 ≤ b) × (b ≤ 57)
begins =
    decimal_by_steps (λ _ ds. (b : ℕ) × (bs : List ℕ) × (ds ≡ b ∷ bs) × (48 ≤ b) × (b ≤ 57))
    (λ n one. (48 + n, [], refl, omega arith, omega arith))
    (λ n ds large (b, bs, is, low, high). (b, bs ++ (48 + n % 10) ∷ [], ap (λ l. l ++ (48 + n % 10) ∷ []) is, low, high))

-- so it is no word that begins with a letter
no_word_decimal : (c : ℕ) (cs : List ℕ) → 57 < c → (n : ℕ) → n < 2 ^ 64 → bytes_eq (decimal n) (c ∷ cs) ≡ false
no_word_decimal c cs letter n small =
    let (b, bs, is, low, high) = begins n small in
    ap (λ l. bytes_eq l (c ∷ cs)) is ∙ and_left (b == c) (bytes_eq bs cs) (ne_eqb b c (λ e. omega (arith, e, high, letter)))

no_word_signed : (c : ℕ) (cs : List ℕ) → 57 < c → (z : ℤ) → mag z < 2 ^ 63 → bytes_eq (signed_decimal z) (c ∷ cs) ≡ false
no_word_signed c cs letter (pos n) small = no_word_decimal c cs letter n (omega arith)
no_word_signed c cs letter (negsuc n) small = and_left (45 == c) (bytes_eq (decimal (suc n)) cs) (ne_eqb 45 c (λ e. omega (arith, e, letter)))

-- a signed number is read back
digits_back : (n : ℕ) → n < 2 ^ 63 → integer_in (decimal n) ≡ pos n
digits_back n small =
    let (b, bs, is, low, high) = begins n (omega arith) in
    ap integer_in is
    ∙ cond-false (b == 45) _ _ (ne_eqb b 45 (λ e. omega (arith, e, low)))
    ∙ ap (λ l. at_least_zero (number_in l)) (sym is)
    ∙ ap at_least_zero (number_in-decimal n (omega arith))
    ∙ cond-true (nat_lt n (2 ^ 63)) (pos n) (pos 0) (lt-ltb n (2 ^ 63) small)

integer_back : (z : ℤ) → mag z < 2 ^ 63 → integer_in (signed_decimal z) ≡ z
integer_back (pos n) small = digits_back n small
integer_back (negsuc n) small =
    ap below_zero (number_in-decimal (suc n) (omega arith))
    ∙ cond-true (nat_lt 0 (suc n) && nat_le (suc n) (2 ^ 63)) (negsuc (suc n - 1)) (pos 0)
    (and_from (nat_lt 0 (suc n)) (nat_le (suc n) (2 ^ 63)) (lt-ltb 0 (suc n) (omega arith)) (le-leb (suc n) (2 ^ 63) (omega arith)))
    ∙ ap negsuc (omega arith)

-- a name and a text in range are taken
name_known : (bs : List ℕ) → IsName bs → (if is_name_text bs && nat_le (length bs) 255 then Some bs else None) ≡ Some bs
name_known bs name =
    cond-true (is_name_text bs && nat_le (length bs) 255) (Some bs) None
    (and_from (is_name_text bs) (nat_le (length bs) 255) name.form (le-leb (length bs) 255 name.short))

pub text_known : (bs : List ℕ) → IsField (text bs) → (if nat_le (length bs) 65535 then Some bs else None) ≡ Some bs
text_known bs range = cond-true (nat_le (length bs) 65535) (Some bs) None (le-leb (length bs) 65535 range.0)

pub line_back : (line : Line) → IsLine line → line_from (map word_of (fields line)) ≡ Some line
line_back Head range = refl
line_back (Boot n t p) range =
    simp (number64 n range.1.0, number64 t range.1.1.0, number8 p.0 range.1.1.1.1.0) refl
line_back (Kill n t p) range =
    simp (number64 n range.1.0, number64 t range.1.1.0, number8 p.0 range.1.1.1.1.0) refl
line_back (Stop n t p) range =
    simp (number64 n range.1.0, number64 t range.1.1.0, number8 p.0 range.1.1.1.1.0) refl
line_back (Cut n t p q) range =
    simp (number64 n range.1.0, number64 t range.1.1.0, number8 p.0 range.1.1.1.1.0, number8 q.0 range.1.1.1.1.1.0) refl
line_back (Heal n t p q) range =
    simp (number64 n range.1.0, number64 t range.1.1.0, number8 p.0 range.1.1.1.1.0, number8 q.0 range.1.1.1.1.1.0) refl
line_back (DiskFail n t p k) range =
    simp (number64 n range.1.0, number64 t range.1.1.0, number8 p.0 range.1.1.1.1.0, number32 k range.1.1.1.1.1.0) refl
line_back (Timer n t p c) range =
    simp (number64 n range.1.0, number64 t range.1.1.0, number8 p.0 range.1.1.1.1.0, number64 c.0 range.1.1.1.1.1.0) refl
line_back (Arrival n t p m) range =
    simp (number64 n range.1.0, number64 t range.1.1.0, number8 p.0 range.1.1.1.1.0, number64 m range.1.1.1.1.1.0) refl
line_back (Read n t p c (Some x)) range =
    simp (number64 n range.1.0, number64 t range.1.1.0, number8 p.0 range.1.1.1.1.0, number64 c.0 range.1.1.1.1.1.0, text_known x range.1.1.1.1.1.1.0) refl
line_back (Read n t p c None) range =
    simp (number64 n range.1.0, number64 t range.1.1.0, number8 p.0 range.1.1.1.1.0, number64 c.0 range.1.1.1.1.1.0) refl
line_back (Write n t p c true) range =
    simp (number64 n range.1.0, number64 t range.1.1.0, number8 p.0 range.1.1.1.1.0, number64 c.0 range.1.1.1.1.1.0) refl
line_back (Write n t p c false) range =
    simp (number64 n range.1.0, number64 t range.1.1.0, number8 p.0 range.1.1.1.1.0, number64 c.0 range.1.1.1.1.1.0) refl
line_back (Sync n t p c true) range =
    simp (number64 n range.1.0, number64 t range.1.1.0, number8 p.0 range.1.1.1.1.0, number64 c.0 range.1.1.1.1.1.0) refl
line_back (Sync n t p c false) range =
    simp (number64 n range.1.0, number64 t range.1.1.0, number8 p.0 range.1.1.1.1.0, number64 c.0 range.1.1.1.1.1.0) refl
line_back (Size n t p c (Some k)) range =
    simp (
      number64 n range.1.0,
      number64 t range.1.1.0,
      number8 p.0 range.1.1.1.1.0,
      number64 c.0 range.1.1.1.1.1.0,
      no_word_decimal 102 (97 ∷ 105 ∷ 108 ∷ []) (lit< tt) k
          (omega (arith, range.1.1.1.1.1.1.0)),
      number32 k range.1.1.1.1.1.1.0,
    ) refl
line_back (Size n t p c None) range =
    simp (number64 n range.1.0, number64 t range.1.1.0, number8 p.0 range.1.1.1.1.0, number64 c.0 range.1.1.1.1.1.0) refl
line_back (Start a class) range =
    simp (number64 a.0 range.1.0, name_known class range.1.1.0) refl
line_back (Wait a group) range =
    simp (number64 a.0 range.1.0, number32 group range.1.1.0) refl
line_back (Take a group branch) range =
    simp (number64 a.0 range.1.0, number32 group range.1.1.0, number32 branch range.1.1.1.0) refl
line_back (Throw a e) range =
    simp (number64 a.0 range.1.0, number16 e.0 range.1.1.0) refl
line_back (Catch a e) range =
    simp (number64 a.0 range.1.0, number16 e.0 range.1.1.0) refl
line_back (Fail a e) range =
    simp (number64 a.0 range.1.0, number16 e.0 range.1.1.0) refl
line_back (Finish a) range = simp (number64 a.0 range.1.0) refl
line_back (Cancel a) range = simp (number64 a.0 range.1.0) refl
line_back (Broken c) range = simp (number64 c.0 range.1.0) refl
line_back (PrintInt a value) range =
    simp (
      number64 a.0 range.1.0,
      no_word_signed 116 (114 ∷ 117 ∷ 101 ∷ []) (lit< tt) value range.1.1.0,
      no_word_signed 102 (97 ∷ 108 ∷ 115 ∷ 101 ∷ [])
          (lit< tt) value range.1.1.0,
      integer_back value range.1.1.0,
    ) refl
line_back (PrintBool a true) range = simp (number64 a.0 range.1.0) refl
line_back (PrintBool a false) range = simp (number64 a.0 range.1.0) refl
line_back (PrintText a x) range =
    simp (number64 a.0 range.1.0, text_known x range.1.1.0) refl
line_back (Send m q port x) range =
    simp (number64 m range.1.0, number8 q.0 range.1.1.0, number16 port range.1.1.1.0, text_known x range.1.1.1.1.0) refl
line_back (LostCut m) range = simp (number64 m range.1.0) refl
line_back (LostDraw m) range = simp (number64 m range.1.0) refl
line_back (Discard m) range = simp (number64 m range.1.0) refl
line_back (Kept x offset len kept) range =
    simp (text_known x range.1.0, number32 offset range.1.1.0, number32 len range.1.1.1.0, number32 kept range.1.1.1.1.0) refl
line_back (Frame p a class group) range =
    simp (number8 p.0 range.1.0, number64 a.0 range.1.1.0, name_known class range.1.1.1.0, number32 group range.1.1.1.1.0) refl
line_back (Callback p a k c) range =
    simp (number8 p.0 range.1.0, number64 a.0 range.1.1.0, number32 k range.1.1.1.0, number64 c.0 range.1.1.1.1.0) refl
line_back EndIdle range = refl
line_back EndBound range = refl
line_back EndSpent range = refl
line_back (EndStop monitor) range = simp (name_known monitor range.1.1.0) refl
