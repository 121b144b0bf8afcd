-- One more touch of 64 places.
use Rattle.std.proofs.Common.{◌≡◌, ℕ, zero, suc, [], ◌∷◌, false, true, nat_eq, ◌<◌, ◌-◌, ◌^◌, take, get_or, List, length, ◌+◌, Bool, not, ◌&&◌, ◌||◌, bit_and, bit_or, refl, sym, subst, ap, ap₂, ◌∙◌, arith, add-one, ◌≤◌}
use Rattle.flow_class.specs.declared.class.Slotted.{Slotted}
use Rattle.flow_class.specs.declared.class.Slotted.TheVariants as place
use Rattle.flow_validate.specs.declared.touch.Touch.{Touch}
use Rattle.flow_validate.specs.declared.touch.Touch.TheVariants.{Throws, Reads, Fills, Empties, Waits}
use Rattle.flow_validate.specs.declared.window.Window.{Window}
use Rattle.flow_validate.specs.declared.window.Passage.{Passage}
use Rattle.flow_valid.specs.Filling.{same_place, is_local, dropped}
use Rattle.flow_validate.specs.Following.{Passing, passed, place_in, AreBits, ArePassing, touched}
use Rattle.flow_validate.proofs.Bits.{has_or, has_and, has_not, eq_turned}

throws_plain : (w : Window) (p : Passage) (s : Slotted → Passing) → ArePassing w p s → ArePassing w (record p { thrown = bit_or p.thrown p.empty }) (λ q. touched q Throws (s q))
throws_plain w p s h = record {
  empty = h.empty;
  thrown = λ j lt. has_or p.thrown p.empty j ∙ ap₂ (λ x y. x || y) (h.thrown j lt) (h.empty j lt);
  misread = h.misread;
}

reads_plain : (w : Window) (p : Passage) (s : Slotted → Passing) (r : Slotted) (bit : ℕ) → AreBits w bit (same_place r) → ArePassing w p s
    → ArePassing w (record p { misread = bit_or p.misread (bit_and p.empty bit) }) (λ q. touched q (Reads r) (s q))
reads_plain w p s r bit own h = record {
  empty = h.empty;
  thrown = h.thrown;
  misread = λ j lt.
      has_or p.misread (bit_and p.empty bit) j
      ∙ ap₂ (λ x y. x || y) (h.misread j lt) (has_and p.empty bit j ∙ ap₂ (λ x y. x && y) (h.empty j lt) (own j lt));
}

fills_plain : (w : Window) (p : Passage) (s : Slotted → Passing) (r : Slotted) (bit : ℕ) → bit < 2 ^ 64 → AreBits w bit (same_place r) → ArePassing w p s
    → ArePassing w (record p { empty = bit_and p.empty (18446744073709551615 - bit) }) (λ q. touched q (Fills r) (s q))
fills_plain w p s r bit small own h = record {
  empty = λ j lt. has_and p.empty (18446744073709551615 - bit) j ∙ ap₂ (λ x y. x && y) (h.empty j lt) (has_not bit j small lt ∙ ap not (own j lt));
  thrown = h.thrown;
  misread = h.misread;
}

empties_plain : (w : Window) (p : Passage) (s : Slotted → Passing) (n bit : ℕ) → AreBits w bit (same_place (place.Local n)) → ArePassing w p s
    → ArePassing w (record p { empty = bit_or p.empty bit }) (λ q. touched q (Empties n) (s q))
empties_plain w p s n bit own h = record {
  empty = λ j lt. has_or p.empty bit j ∙ ap₂ (λ x y. x || y) (h.empty j lt) (own j lt);
  thrown = h.thrown;
  misread = h.misread;
}

waits_plain : (w : Window) (p : Passage) (s : Slotted → Passing) (bits : ℕ) → AreBits w bits is_local → ArePassing w p s
    → ArePassing w (record p { empty = bit_or p.empty bits }) (λ q. touched q Waits (s q))
waits_plain w p s bits own h = record {
  empty = λ j lt. has_or p.empty bits j ∙ ap₂ (λ x y. x || y) (h.empty j lt) (own j lt);
  thrown = h.thrown;
  misread = h.misread;
}

pub throws : (w : Window) (p : Passage) (s : Slotted → Passing) (t : Touch) → ArePassing w p s → t ≡ Throws
    → ArePassing w (record p { thrown = bit_or p.thrown p.empty }) (λ q. touched q t (s q))
throws w p s t h is = subst (λ x. ArePassing w (record p { thrown = bit_or p.thrown p.empty }) (λ q. touched q x (s q))) (sym is) (throws_plain w p s h)

pub reads : (w : Window) (p : Passage) (s : Slotted → Passing) (t : Touch) (r : Slotted) (bit : ℕ) → AreBits w bit (same_place r) → ArePassing w p s → t ≡ (Reads r)
    → ArePassing w (record p { misread = bit_or p.misread (bit_and p.empty bit) }) (λ q. touched q t (s q))
reads w p s t r bit own h is = subst (λ x. ArePassing w (record p { misread = bit_or p.misread (bit_and p.empty bit) }) (λ q. touched q x (s q))) (sym is) (reads_plain w p s r bit own h)

pub fills : (w : Window) (p : Passage) (s : Slotted → Passing) (t : Touch) (r : Slotted) (bit : ℕ) → bit < 2 ^ 64 → AreBits w bit (same_place r) → ArePassing w p s → t ≡ (Fills r)
    → ArePassing w (record p { empty = bit_and p.empty (18446744073709551615 - bit) }) (λ q. touched q t (s q))
fills w p s t r bit small own h is = subst (λ x. ArePassing w (record p { empty = bit_and p.empty (18446744073709551615 - bit) }) (λ q. touched q x (s q))) (sym is)
    (fills_plain w p s r bit small own h)

pub empties : (w : Window) (p : Passage) (s : Slotted → Passing) (t : Touch) (n bit : ℕ) → AreBits w bit (same_place (place.Local n)) → ArePassing w p s → t ≡ (Empties n)
    → ArePassing w (record p { empty = bit_or p.empty bit }) (λ q. touched q t (s q))
empties w p s t n bit own h is = subst (λ x. ArePassing w (record p { empty = bit_or p.empty bit }) (λ q. touched q x (s q))) (sym is) (empties_plain w p s n bit own h)

pub waits : (w : Window) (p : Passage) (s : Slotted → Passing) (t : Touch) (bits : ℕ) → AreBits w bits is_local → ArePassing w p s → t ≡ Waits
    → ArePassing w (record p { empty = bit_or p.empty bits }) (λ q. touched q t (s q))
waits w p s t bits own h is = subst (λ x. ArePassing w (record p { empty = bit_or p.empty bits }) (λ q. touched q x (s q))) (sym is) (waits_plain w p s bits own h)

-- one more touch, one more local
passed_next : (p : Slotted) (ts : List Touch) (i : ℕ) (d : Touch) (s : Passing) → i < length ts → passed p (take (suc i) ts) s ≡ touched p (get_or ts i d) (passed p (take i ts) s)
passed_next p [] i d s lt = absurd (omega arith)
passed_next p (t ∷ ts) zero d s lt = refl
passed_next p (t ∷ ts) (suc i) d s lt = let m : i < length ts = omega arith in passed_next p ts i d (touched p t s) m

pub passed_more : (p : Slotted) (ts : List Touch) (i : ℕ) (d : Touch) (s : Passing) → i < length ts → passed p (take (i + 1) ts) s ≡ touched p (get_or ts i d) (passed p (take i ts) s)
passed_more p ts i d s lt = rw add-one (passed_next p ts i d s lt)

either_none : (b : Bool) → (b || false) ≡ b
either_none true = refl
either_none false = refl

apart : (a b c : Bool) → (a || (b || c)) ≡ ((a || b) || c)
apart true b c = refl
apart false b c = refl

dropped_next : (p : Slotted) (ns : List ℕ) (i d : ℕ) → i < length ns → dropped (take (suc i) ns) p ≡ (dropped (take i ns) p || same_place (place.Local (get_or ns i d)) p)
dropped_next p [] i d lt = absurd (omega arith)
dropped_next (place.Slot m) (n ∷ ns) i d lt = refl
dropped_next (place.Local m) (n ∷ ns) zero d lt = either_none (nat_eq m n) ∙ eq_turned m n
dropped_next (place.Local m) (n ∷ ns) (suc i) d lt =
    let l : i < length ns = omega arith in
    ap (λ b. nat_eq m n || b) (dropped_next (place.Local m) ns i d l) ∙ apart (nat_eq m n) (dropped (take i ns) (place.Local m)) (same_place (place.Local (get_or ns i d)) (place.Local m))

pub dropped_more : (p : Slotted) (ns : List ℕ) (i d : ℕ) → i < length ns → dropped (take (i + 1) ns) p ≡ (dropped (take i ns) p || same_place (place.Local (get_or ns i d)) p)
dropped_more p ns i d lt = rw add-one (dropped_next p ns i d lt)

pub taken_all : {A : Type 0} (xs : List A) (i : ℕ) → length xs ≤ i → take i xs ≡ xs
taken_all [] zero le = refl
taken_all [] (suc i) le = refl
taken_all (x ∷ xs) zero le = absurd (omega arith)
taken_all (x ∷ xs) (suc i) le = let m : length xs ≤ i = omega arith in ap (λ l. x ∷ l) (taken_all xs i m)

-- one more local among those that are dropped
pub more_locals : (w : Window) (ns : List ℕ) (i d bits bit : ℕ) → i < length ns → AreBits w bits (dropped (take i ns)) → AreBits w bit (same_place (place.Local (get_or ns i d)))
    → AreBits w (bit_or bits bit) (dropped (take (i + 1) ns))
more_locals w ns i d bits bit lt h own = λ j l.
    has_or bits bit j ∙ ap₂ (λ x y. x || y) (h j l) (own j l) ∙ sym (dropped_more (place_in w j) ns i d lt)

-- the same places, on a way that is seen otherwise
pub seen_as : (w : Window) (p : Passage) (s r : Slotted → Passing) → ((q : Slotted) → s q ≡ r q) → ArePassing w p s → ArePassing w p r
seen_as w p s r e h = record {
  empty = λ j lt. h.empty j lt ∙ ap (λ (x : Passing). x.empty) (e (place_in w j));
  thrown = λ j lt. h.thrown j lt ∙ ap (λ (x : Passing). x.thrown) (e (place_in w j));
  misread = λ j lt. h.misread j lt ∙ ap (λ (x : Passing). x.misread) (e (place_in w j));
}
