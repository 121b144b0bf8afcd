-- Numbers that are noted, and one more.
use Rattle.std.proofs.Common.{◌≡◌, ℕ, nat_eq, nat_lt, Bool, true, false, List, [], ◌∷◌, refl, sym, ap, ◌∙◌, arith}
use Rattle.std.specs.Prelude.{◌||◌}
use Rattle.std.proofs.lemmas.Bool.Decides.{nat_tests}
use Rattle.std.specs.Ordering.{nat_cmp}
use Rattle.std.specs.BTreeMap.{is_at}
use Rattle.flow_cancel.specs.Heap.{has_number, with_number}

-- a number is compared
pub at_number : (k x : ℕ) → is_at (nat_cmp k) x ≡ nat_eq k x
at_number k x = by_order (nat_lt k x) refl (nat_eq k x) refl
  where
    by_order : (t : Bool) → nat_lt k x ≡ t → (u : Bool) → nat_eq k x ≡ u → is_at (nat_cmp k) x ≡ u
    by_order true e true f = absurd (grind (arith, nat_tests, e, f))
    by_order true e false f = rw e refl
    by_order false e true f = rw (e, f) refl
    by_order false e false f = rw (e, f) refl

pub either_first : (a b c : Bool) → (a || (b || c)) ≡ (b || (a || c))
either_first true true c = refl
either_first true false c = refl
either_first false b c = refl

-- one number more
pub has_with : (j k : ℕ) (ns : List ℕ) → has_number (with_number ns k) j ≡ (nat_eq j k || has_number ns j)
has_with j k [] = ap (λ t. t || false) (at_number j k)
has_with j k (n ∷ ns) = by_order (nat_lt k n) refl (nat_eq k n) refl (has_with j k ns)
  where
    twice : (t b : Bool) → (t || b) ≡ (t || (t || b))
    twice true b = refl
    twice false b = refl

    by_order : (t : Bool) → nat_lt k n ≡ t → (u : Bool) → nat_eq k n ≡ u → has_number (with_number ns k) j ≡ (nat_eq j k || has_number ns j)
        → has_number (with_number (n ∷ ns) k) j ≡ (nat_eq j k || has_number (n ∷ ns) j)
    by_order true e u f rest = rw e (ap (λ t. t || has_number (n ∷ ns) j) (at_number j k))
    by_order false e true f rest =
        let same : k ≡ n = grind (arith, nat_tests, f) in
        rw (e, f) (ap (λ t. t || has_number ns j) (at_number j n) ∙ twice (nat_eq j n) (has_number ns j) ∙ ap (λ m. nat_eq j m || (nat_eq j n || has_number ns j)) (sym same)
        ∙ ap (λ t. nat_eq j k || (t || has_number ns j)) (sym (at_number j n)))
    by_order false e false f rest =
        rw (e, f) (ap (λ t. is_at (nat_cmp j) n || t) rest ∙ either_first (is_at (nat_cmp j) n) (nat_eq j k) (has_number ns j))
