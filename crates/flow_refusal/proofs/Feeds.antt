-- The first line feed of a text, and the first byte that begins a character.
use Rattle.std.proofs.Common.{◌≡◌, ℕ, ◌==◌, ◌+◌, ◌<◌, ◌≤◌, Bool, true, false, not, List, [], ◌∷◌, ◌++◌, length, drop, get_or, None, Some, position, refl, sym, ap, ◌∙◌, append_assoc, append-nil, arith}
use Rattle.std.specs.List.{position_or_len}
use Rattle.std.specs.Str.{IsUtf8, is_utf8}
use Rattle.std.proofs.lemmas.List.Sums.{prefix_len-le-length}
use Rattle.std.proofs.lemmas.Str.{IsUtf8-from_is_utf8, is_utf8-from_IsUtf8}
use Rattle.std.proofs.lemmas.List.{drop_more, drop_all}
use Rattle.flow_refusal.specs.Note.{is_continuation, under_one, under}

pub found : (text : List ℕ) (at : ℕ) → position (λ b. b == 10) text ≡ Some at → at ≡ position_or_len (λ b. b == 10) text
found text at is = grind (arith, is)

pub missing : (text : List ℕ) → position (λ b. b == 10) text ≡ None → length text ≡ position_or_len (λ b. b == 10) text
missing text is = grind (arith, is, prefix_len-le-length (λ b. not (b == 10)) text)

pub character_found : (text : List ℕ) (at : ℕ) → position (λ b. not (is_continuation b)) text ≡ Some at
    → at ≡ position_or_len (λ b. not (is_continuation b)) text
character_found text at is = grind (arith, is)

pub character_missing : (text : List ℕ) → position (λ b. not (is_continuation b)) text ≡ None
    → length text ≡ position_or_len (λ b. not (is_continuation b)) text
character_missing text is = grind (arith, is, prefix_len-le-length (λ b. not (not (is_continuation b))) text)

pub utf8_is : (bs : List ℕ) → IsUtf8 bs → true ≡ is_utf8 bs
utf8_is bs u = sym (is_utf8-from_IsUtf8 bs u)

unless_true : (b : Bool) → ((b ≡ true) → ⊥) → false ≡ b
unless_true true h = absurd (h refl)
unless_true false h = refl

pub utf8_not : (bs : List ℕ) → (IsUtf8 bs → ⊥) → false ≡ is_utf8 bs
utf8_not bs broken = unless_true (is_utf8 bs) (λ t. broken (IsUtf8-from_is_utf8 bs t))

-- what stands under bytes, one after the other
pub under_next : (w : Bool) (bs : List ℕ) (i b : ℕ) (old new whole : List ℕ) → i < length bs → b ≡ get_or bs i b → new ≡ old ++ under w (b ∷ [])
    → old ++ under w (drop i bs) ≡ whole → new ++ under w (drop (i + 1) bs) ≡ whole
under_next w bs i b old new whole lt got is inv =
    let rest = drop (i + 1) bs in
    ap (λ l. l ++ under w rest) (is ∙ ap (λ l. old ++ l) (append-nil (under_one w b))) ∙ append_assoc old (under_one w b) (under w rest)
    ∙ sym (ap (λ l. old ++ under w l) (drop_more bs i b lt ∙ ap (λ y. y ∷ rest) (sym got))) ∙ inv

pub under_end : (w : Bool) (bs : List ℕ) (i : ℕ) (old whole : List ℕ) → length bs ≤ i → old ++ under w (drop i bs) ≡ whole → old ≡ whole
under_end w bs i old whole le inv = sym (append-nil old) ∙ ap (λ l. old ++ under w l) (sym (drop_all i bs le)) ∙ inv
