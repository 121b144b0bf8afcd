-- Numbers and names stay, and a number that is answered is one of the panel.
use Rattle.std.proofs.Common.{◌≡◌, ◌<◌, ◌≤◌, ℕ, zero, suc, List, [], ◌∷◌, Bool, true, false, Option, None, Some, length, refl, sym, ap, ◌∙◌, subst, arith}
use Rattle.std.specs.Prelude.{IsTrue, nat_le, eqb, ◌&&◌, ◌||◌, slice_index_or, if◌then◌else◌}
use Rattle.std.specs.List.{list_all}
use Rattle.std.proofs.lemmas.List.{length-map}
use Rattle.flow_base.specs.Names.{IsName, is_name_text, letter, digit, name_byte}
use Rattle.flow_trace.specs.declared.line.Line.{Line}
use Rattle.flow_monitor.specs.Ears.{IsMonitorName, Ears, nobody, after, or_here, says_stop, first_below, first_stop, name_at, names}
use Rattle.flow_monitor.specs.Heard.{is_heard}
use Rattle.flow_monitor.specs.Cut.{ears_after, stop_in, cut_from, Cut}

pub names_map : (line : Line) (ears : Ears) → names (after line ears) ≡ names ears
names_map line [] = refl
names_map line (l ∷ ears) = ap (λ ns. l.name ∷ ns) (names_map line ears)

if_heard : {X : Type 0} (P : X → Type 0) (b : Bool) (x y : X) → P x → P y → P (if b then x else y)
if_heard P true x y h k = h
if_heard P false x y h k = k

pub names_stay : (line : Line) (ears : Ears) → names (ears_after line ears) ≡ names ears
names_stay line ears = if_heard (λ e. names e ≡ names ears) (is_heard line) (after line ears) ears (names_map line ears) refl

-- a name by the names alone
pub name_by : (ears : Ears) (k : ℕ) → name_at ears k ≡ slice_index_or (names ears) k []
name_by [] k = refl
name_by (l ∷ ears) zero = refl
name_by (l ∷ ears) (suc k) = name_by ears k

pub name_stays : (ears others : Ears) (k : ℕ) → names others ≡ names ears → name_at others k ≡ name_at ears k
name_stays ears others k e = name_by others k ∙ ap (λ ns. slice_index_or ns k []) e ∙ sym (name_by ears k)

pub many_stay : (ears others : Ears) → names others ≡ names ears → length others ≡ length ears
many_stay ears others e = sym (length-map others (λ l. l.name)) ∙ ap length e ∙ length-map ears (λ l. l.name)

some_same : {x y : ℕ} → Some x ≡ Some y → x ≡ y
some_same h = cc

below_here : (first : Option ℕ) (here : Bool) (n k : ℕ) → ((j : ℕ) → first ≡ Some j → j < n) → or_here first here n ≡ Some k → k < suc n
below_here (Some i) here n k low e = let lt : k < n = low k e in omega (arith, lt)
below_here None true n k low e = let is : n ≡ k = some_same e in omega (arith, is)
below_here None false n k low e = absurd (cc)

below : (line : Line) (ears : Ears) (n k : ℕ) → first_below line ears n ≡ Some k → k < n
below line ears zero k e = absurd (cc)
below line ears (suc n) k e = below_here (first_below line ears n) (says_stop line (slice_index_or ears n nobody).ear) n k (below line ears n) e

pub stop_within : (line : Line) (ears : Ears) (k : ℕ) → stop_in line ears ≡ Some k → k < length (ears_after line ears)
stop_within line ears k e =
    let low : k < length ears = by_heard (is_heard line) e in
    let many = many_stay ears (ears_after line ears) (names_stay line ears) in
    subst (λ n. k < n) (sym many) low
  where
    by_heard : (b : Bool) → (if b then first_stop line ears else None) ≡ Some k → k < length ears
    by_heard true h = below line ears (length ears) k h
    by_heard false h = absurd (cc)

-- a place stays one
pub place_stays : (ears others : Ears) (k : ℕ) → names others ≡ names ears → k < length ears → k < length others
place_stays ears others k e lt = subst (λ n. k < n) (sym (many_stay ears others e)) lt

-- a monitor's name is a name
both : (x y : Bool) → IsTrue (x && y) → IsTrue x × IsTrue y
both true y h = (refl, h)
both false y h = absurd (cc)

either_is : (x y : Bool) → IsTrue x → IsTrue (x || y)
either_is true y h = refl
either_is false y h = absurd (cc)

abbrev small : ℕ → Bool
small b = nat_le 97 b && nat_le b 122

small_letter : (b : ℕ) → IsTrue (small b) → IsTrue (letter b)
small_letter b h = first_of_three (small b) (nat_le 65 b && nat_le b 90) (eqb b 95) h
  where
    first_of_three : (x y z : Bool) → IsTrue x → IsTrue (x || y || z)
    first_of_three true y z k = refl
    first_of_three false y z k = absurd (cc)

all_small : (w : List ℕ) → IsTrue (list_all small w) → IsTrue (list_all name_byte w)
all_small [] h = refl
all_small (b ∷ w) h =
    let parts = both (small b) (list_all small w) h in
    two_true (name_byte b) (list_all name_byte w) (either_is (letter b) (digit b) (small_letter b parts.0)) (all_small w parts.1)
  where
    two_true : (x y : Bool) → IsTrue x → IsTrue y → IsTrue (x && y)
    two_true true y h k = k
    two_true false y h k = absurd (cc)

text_form : (w : List ℕ) → 1 ≤ length w → IsTrue (list_all small w) → IsTrue (is_name_text w)
text_form [] least h = absurd (omega (arith, least))
text_form (b ∷ w) least h =
    let parts = both (small b) (list_all small w) h in
    subst (λ x. IsTrue (x && list_all name_byte w)) (sym (small_letter b parts.0)) (all_small w parts.1)

pub monitor_name : (bytes : List ℕ) → IsMonitorName bytes → IsName bytes
monitor_name bytes m = record { form = text_form bytes m.least m.letters; short = let most : length bytes ≤ 32 = m.most in omega (arith, most) }

-- nobody cuts nothing
nobody_stops : (line : Line) → stop_in line [] ≡ None
nobody_stops line = if_heard (λ s. s ≡ None) (is_heard line) (first_stop line []) None refl refl

nobody_after : (line : Line) → ears_after line [] ≡ []
nobody_after line = if_heard (λ e. e ≡ []) (is_heard line) (after line []) [] refl refl

pub nobody_cuts : (lines : List Line) → Cut [] lines ≡ lines
nobody_cuts [] = refl
nobody_cuts (l ∷ lines) =
    ap (λ ls. l ∷ ls) (ap (λ s. cut_from s (ears_after l []) lines) (nobody_stops l) ∙ ap (λ e. cut_from None e lines) (nobody_after l) ∙ nobody_cuts lines)
