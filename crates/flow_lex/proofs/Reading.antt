-- Reading on, step by step.
use Rattle.std.proofs.Common.{◌≡◌, ℕ, ◌+◌, ◌-◌, ◌^◌, ◌≤◌, ◌<◌, List, [], ◌∷◌, ◌++◌, length, take, drop, refl, sym, ap, ◌∙◌, subst, arith, append_assoc, length-append, reverse}
use Rattle.std.specs.Prelude.{eqb}
use Rattle.std.proofs.lemmas.List.{append-nil, take-append-drop, length-reverse}
use Rattle.std.proofs.lemmas.List.Sums.{count_by-le-length, prefix_len-le-length}
use Rattle.flow_base.specs.declared.place.Place.{Place}
use Rattle.flow_tree.specs.declared.token.Token.{Token}
use Rattle.flow_tree.specs.declared.token.Spot.{Spot}
use Rattle.flow_tree.specs.declared.fault.Rule.{Rule}
use Rattle.flow_tree.specs.Spelling.{IsBounded, in_line, gap_length}
use Rattle.flow_tree.specs.Lexing.{place_after, TokenAt, ReadsTokens, here, gap, token, Lexes, Refusal, LexFault}

-- reading on from where reading came to
pub reads_on : {b t b' t' b'' t'' : List ℕ} {s s' : List Spot} → ReadsTokens b t s b' t' → ReadsTokens b' t' s' b'' t'' → ReadsTokens b t (s ++ s') b'' t''
reads_on here r = r
reads_on (gap some l) r = gap some (reads_on l r)
reads_on (token u n at bound l) r = token u n at bound (reads_on l r)

-- the bytes read and those left are the text
pub reads_cut : {b t b' t' : List ℕ} {s : List Spot} → ReadsTokens b t s b' t' → b ++ t ≡ b' ++ t'
reads_cut here = refl
reads_cut {b} {t} (gap some l) = sym (ap (λ x. b ++ x) (take-append-drop (gap_length t) t)) ∙ sym (append_assoc b (take (gap_length t) t) (drop (gap_length t) t)) ∙ reads_cut l
reads_cut {b} {t} (token u n at bound l) = sym (ap (λ x. b ++ x) (take-append-drop n t)) ∙ sym (append_assoc b (take n t) (drop n t)) ∙ reads_cut l

pub read_gap : (bytes before text : List ℕ) (spots : List Spot) (n : ℕ) → ReadsTokens [] bytes spots before text → n ≡ gap_length text → 0 < n
    → ReadsTokens [] bytes spots (before ++ take n text) (drop n text)
read_gap bytes before text spots n r e some =
    subst (λ s. ReadsTokens [] bytes s (before ++ take n text) (drop n text)) (append-nil spots)
    (reads_on r (subst (λ k. ReadsTokens before text [] (before ++ take k text) (drop k text)) (sym e) (gap (subst (λ k. 0 < k) e some) here)))

pub read_token : (bytes before text : List ℕ) (spots spots' : List Spot) (t : Token) (n : ℕ) (at : Place) → ReadsTokens [] bytes spots before text
    → TokenAt text t n → IsBounded t → at ≡ place_after before → spots' ≡ spots ++ record { token = t; at = at } ∷ []
    → ReadsTokens [] bytes spots' (before ++ take n text) (drop n text)
read_token bytes before text spots spots' t n at r found bound e more =
    subst (λ s. ReadsTokens [] bytes s (before ++ take n text) (drop n text)) (ap (λ p. spots ++ record { token = t; at = p } ∷ []) (sym e) ∙ sym more)
    (reads_on r (token t n found bound here))

-- a place within a text of less than 2^32 - 1 bytes, and those behind it
pub record HasRoom (at : Place) (n : ℕ) : Type 0 where
  pub line : at.line + n < 2 ^ 32
  pub column : at.column + n < 2 ^ 32
  pub byte : at.byte + n < 2 ^ 32

room_after : (before : List ℕ) (n : ℕ) → length before + n ≤ 2 ^ 32 - 2 → HasRoom (place_after before) n
room_after before n le = record {
  line = omega (arith, count_by-le-length (λ b. eqb b 10) before);
  column = omega (arith, prefix_len-le-length in_line (reverse before), length-reverse before);
  byte = omega arith;
}

pub has_room : (bytes before text : List ℕ) (spots : List Spot) (at : Place) (n : ℕ) → length bytes ≤ 2 ^ 32 - 2 → at ≡ place_after before
    → ReadsTokens [] bytes spots before text → n ≤ length text → HasRoom at n
has_room bytes before text spots at n small e r le =
    let whole = ap length (reads_cut r) in
    subst (λ p. HasRoom p n) (sym e) (room_after before n (omega (arith, whole, length-append before text)))

pub whole_text : (bytes before text : List ℕ) (spots : List Spot) → ReadsTokens [] bytes spots before text → length text ≡ 0 → (before ≡ bytes) × (text ≡ [])
whole_text bytes before [] spots r e = (sym (append-nil before) ∙ sym (reads_cut r), refl)
whole_text bytes before (b ∷ w) spots r e = absurd (omega arith)

pub fault_there : (bytes before text : List ℕ) (spots : List Spot) (rule : Rule) (p : Place) → ReadsTokens [] bytes spots before text → Refusal before text rule p → LexFault bytes rule p
fault_there bytes before text spots rule p r f = record { spots = spots; before = before; text = text; reads = r; refused = f }

-- where no byte is left, the whole text was read
pub read_whole : (bytes before text : List ℕ) (spots : List Spot) (at : Place) → ReadsTokens [] bytes spots before text → length text ≡ 0 → at ≡ place_after before
    → Lexes bytes spots at
read_whole bytes before text spots at r e p =
    let w = whole_text bytes before text spots r e in
    record {
      reads = subst (λ t. ReadsTokens [] bytes spots bytes t) w.1 (subst (λ b. ReadsTokens [] bytes spots b text) w.0 r);
      ends = p ∙ ap place_after w.0;
    }
