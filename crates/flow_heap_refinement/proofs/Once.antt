-- A cell is the stream of one port at most, and of one open request.
use Rattle.std.proofs.Common.{◌≡◌, ℕ, ◌+◌, ◌<◌, ◌≤◌, nat_eq, Bool, true, false, List, [], ◌∷◌, if◌then◌else◌, refl, arith}
use Rattle.std.proofs.lemmas.Bool.Decides.{nat_tests}
use Rattle.flow_numbered.specs.Numbered.{Numbered}
use Rattle.flow_meaning.specs.Cells.{PromiseSide}
use Rattle.flow_meaning.specs.References.{one, in_ports, in_requests}
use Rattle.flow_heap_refinement.specs.Rested.{NumbersRise, PortsRise}
use Rattle.flow_heap_refinement.specs.Alone as law
use Rattle.flow_heap_refinement.proofs.Alone.{owners_counted}

module _ (k : ℕ) where
  abbrev this : ℕ → ℕ
  this n = one PromiseSide k PromiseSide n

  other : (n : ℕ) → (k ≡ n → ⊥) → this n ≡ 0
  other n h = by_test (nat_eq k n) refl
    where
      by_test : (b : Bool) → nat_eq k n ≡ b → ◌≡◌ {A = ℕ} (if b then 1 else 0) 0
      by_test true e = absurd (h (grind (arith, nat_tests)))
      by_test false e = refl

  few : (n r : ℕ) → (k ≡ n → r ≡ 0) → r < 2 → this n + r < 2
  few n r h l = by_test (nat_eq k n) refl
    where
      by_test : (b : Bool) → nat_eq k n ≡ b → (if b then 1 else 0) + r < 2
      by_test true e = let same : k ≡ n = grind (arith, nat_tests) in let z = h same in omega (arith, z)
      by_test false e = omega (arith, l)

  ports_below : (above n : ℕ) (xs : Numbered ℕ) → k ≤ above → PortsRise above n xs → in_ports PromiseSide k xs ≡ 0
  ports_below above n [] l h = refl
  ports_below above n (x ∷ xs) l h =
      let a = other x.1 (λ e. let lt = h.0 in absurd (omega (arith, e, l, lt))) in
      let lt = h.0 in
      let b = ports_below x.1 n xs (omega (arith, l, lt)) h.3 in omega (arith, a, b)

  ports_above : (above n : ℕ) (xs : Numbered ℕ) → n < k → PortsRise above n xs → in_ports PromiseSide k xs ≡ 0
  ports_above above n [] l h = refl
  ports_above above n (x ∷ xs) l h =
      let a = other x.1 (λ e. let lt = h.1 in absurd (omega (arith, e, l, lt))) in
      let b = ports_above x.1 n xs l h.3 in omega (arith, a, b)

  ports_few : (above n : ℕ) (xs : Numbered ℕ) → PortsRise above n xs → in_ports PromiseSide k xs < 2
  ports_few above n [] h = omega arith
  ports_few above n (x ∷ xs) h = few x.1 (in_ports PromiseSide k xs) (λ e. ports_below x.1 n xs (omega (arith, e)) h.3) (ports_few x.1 n xs h.3)

  requests_below : (above n : ℕ) (ks : List ℕ) → k ≤ above → NumbersRise above n ks → in_requests PromiseSide k ks ≡ 0
  requests_below above n [] l h = refl
  requests_below above n (x ∷ xs) l h =
      let a = other x (λ e. let lt = h.0 in absurd (omega (arith, e, l, lt))) in
      let lt = h.0 in
      let b = requests_below x n xs (omega (arith, l, lt)) h.2 in omega (arith, a, b)

  requests_above : (above n : ℕ) (ks : List ℕ) → n < k → NumbersRise above n ks → in_requests PromiseSide k ks ≡ 0
  requests_above above n [] l h = refl
  requests_above above n (x ∷ xs) l h =
      let a = other x (λ e. let lt = h.1 in absurd (omega (arith, e, l, lt))) in
      let b = requests_above x n xs l h.2 in omega (arith, a, b)

  requests_few : (above n : ℕ) (ks : List ℕ) → NumbersRise above n ks → in_requests PromiseSide k ks < 2
  requests_few above n [] h = omega arith
  requests_few above n (x ∷ xs) h = few x (in_requests PromiseSide k xs) (λ e. requests_below x n xs (omega (arith, e)) h.2) (requests_few x n xs h.2)

pub ports_once : law.PortsOnce
ports_once c k h = (ports_few k 0 c.made c.ports h.ports, λ l. ports_above k 0 c.made c.ports l h.ports)

pub requests_once : law.RequestsOnce
requests_once c k h = (requests_few k 0 c.made c.requests h.requests, λ l. requests_above k 0 c.made c.requests l h.requests)

pub one_reference : law.OneReference
one_reference k p once alone some = let a = owners_counted k p alone in let b = (once k).0 in omega (arith, a, b, some)
