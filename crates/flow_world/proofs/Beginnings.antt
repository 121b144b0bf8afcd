-- What stands in a world before its first event, made one by one.
use Rattle.std.proofs.Common.{◌≡◌, ℕ, zero, suc, ◌+◌, ◌≤◌, List, [], ◌∷◌, ◌++◌, length, map, nat_lt, false, refl, sym, ap, ◌∙◌, subst, arith}
use Rattle.std.specs.List.{range_with_len}
use Rattle.std.proofs.lemmas.Bool.Decides.{nat_tests}
use Rattle.std.proofs.lemmas.List.{map-append}
use Rattle.flow_timers.specs.Pending.{placed, with_event}
use Rattle.flow_world.specs.declared.outside.What.TheVariants.{Boots}
use Rattle.flow_world.specs.declared.place.Place.{Place}
use Rattle.flow_world.specs.Starting.{IsFresh, AreFresh, boot_of, boots}

pub fresh_more : (n k : ℕ) (xs : List Place) (x : Place) → AreFresh n k xs → IsFresh n (k + length xs) x → AreFresh n k (xs ++ x ∷ [])
fresh_more n k [] x fresh last = let e : k + 0 ≡ k = omega arith in (subst (λ m. IsFresh n m x) e last, tt)
fresh_more n k (y ∷ ys) x fresh last =
    let e : k + length (y ∷ ys) ≡ suc k + length ys = omega arith in
    (fresh.0, fresh_more n (suc k) ys x fresh.1 (subst (λ m. IsFresh n m x) e last))

range_more : (k n : ℕ) → range_with_len k n ++ (k + n) ∷ [] ≡ range_with_len k (n + 1)
range_more k zero = let e : k + 0 ≡ k = omega arith in ap (λ m. m ∷ []) e
range_more k (suc n) =
    let e : k + suc n ≡ (k + 1) + n = omega arith in
    let f : suc (n + 1) ≡ suc n + 1 = omega arith in
    ap (λ m. k ∷ (range_with_len (k + 1) n ++ m ∷ [])) e ∙ ap (λ ms. k ∷ ms) (range_more (k + 1) n) ∙ ap (range_with_len k) f

placed_last : (p k n : ℕ) → k + n ≤ p → placed (boot_of p) (map boot_of (range_with_len k n)) ≡ map boot_of (range_with_len k n) ++ boot_of p ∷ []
placed_last p k zero le = refl
placed_last p k (suc n) le =
    let later : nat_lt (suc p) (suc k) ≡ false = grind (arith, nat_tests) in
    rw later (ap (λ es. boot_of k ∷ es) (placed_last p (k + 1) n (omega arith)))

pub boots_more : (n : ℕ) → with_event (boots n) 0 (Boots (record { 0 = n })) ≡ boots (n + 1)
boots_more n =
    let made : suc n ≡ n + 1 = omega arith in
    let zero_more : n ≡ 0 + n = omega arith in
    let all : placed (boot_of n) (map boot_of (range_with_len 0 n)) ≡ map boot_of (range_with_len 0 (n + 1)) =
    placed_last n 0 n (omega arith) ∙ sym (map-append boot_of (range_with_len 0 n) (n ∷ [])) ∙ ap (λ m. map boot_of (range_with_len 0 n ++ m ∷ [])) zero_more ∙ ap (map boot_of) (range_more 0 n)
    in
    ap (λ es. record { made = suc n; pending = es }) all ∙ ap (λ m. record { made = m; pending = map boot_of (range_with_len 0 (n + 1)) }) made
