-- A cell is made for one thing at most.
use Rattle.std.proofs.Common.{◌≡◌, ℕ, ◌<◌, suc, ◌+◌, ◌≤◌, nat_eq, Bool, true, false, List, [], ◌∷◌, ◌++◌, if◌then◌else◌, refl, ap, arith}
use Rattle.std.proofs.lemmas.Bool.Decides.{nat_tests}
use Rattle.std.specs.declared.option.Option.TheVariants.{None, Some}
use Rattle.flow_numbered.specs.Numbered.{Numbered, thing, added, put, removed}
use Rattle.flow_meaning.specs.Cells.{PromiseSide}
use Rattle.flow_meaning.specs.Process.{Entry, Core}
use Rattle.flow_meaning.specs.References.{one, count_maybe, in_ports, in_requests}
use Rattle.flow_meaning.specs.Deliver.{closed_request}
use Rattle.flow_heap_refinement.specs.Alone.{results_at, owners_of, OwnedOnce}
use Rattle.std.specs.Prelude.{nat_lt}
use Rattle.flow_heap_refinement.proofs.Sums.{sum_by, sum_put, sum_added, ports_sum}

-- what stood before: how many cells were made, and what each was made for
pub record Since : Type 0 where
  pub made : ℕ
  pub owners : ℕ → ℕ

-- An old cell isn't made for more, and a new one for one thing.
abbrev pub FewSince : Since → (made k n : ℕ) → Type 0
FewSince z made k n = (k ≤ z.made → n ≤ z.owners k) × (z.made < k → n < 2) × (made < k → n ≡ 0)

abbrev pub OnceSince : Since → Core → Type 0
OnceSince z c = (z.made ≤ c.made) × ((k : ℕ) → FewSince z c.made k (owners_of k c))

less_few : (z : Since) (made k m n : ℕ) → m ≤ n → FewSince z made k n → FewSince z made k m
less_few z made k m n l h = (λ g. let a = h.0 g in omega (arith, l, a), λ g. let a = h.1 g in omega (arith, l, a), λ g. let a = h.2 g in omega (arith, l, a))

next_few : (z : Since) (made k n : ℕ) → FewSince z made k n → FewSince z (suc made) k n
next_few z made k n h = (h.0, h.1, λ g. h.2 (omega (arith, g)))

new_few : (z : Since) (made k n x : ℕ) → z.made ≤ made → x ≡ one PromiseSide k PromiseSide (suc made) + n → FewSince z made k n → FewSince z (suc made) k x
new_few z made k n x low e h = by_test (nat_eq k (suc made)) refl e
  where
    by_test : (b : Bool) → nat_eq k (suc made) ≡ b → x ≡ (if b then 1 else 0) + n → FewSince z (suc made) k x
    by_test true g f =
        let same : k ≡ suc made = grind (arith, nat_tests) in
        let none = h.2 (omega (arith, same)) in
        (λ l. absurd (omega (arith, same, l, low)), λ l. omega (arith, f, none), λ l. absurd (omega (arith, same, l)))
    by_test false g f = (λ l. let a = h.0 l in omega (arith, f, a), λ l. let a = h.1 l in omega (arith, f, a), λ l. let a = h.2 (omega (arith, l)) in omega (arith, f, a))

abbrev pub since : Core → Since
since c = record { made = c.made; owners = λ k. owners_of k c }

pub once_since : (c : Core) → OwnedOnce c → OnceSince (since c) c
once_since c h = (omega arith, λ k. (λ l. omega arith, λ l. (h k).0, (h k).1))

pub once_of : (z : Since) (c : Core) → ((k : ℕ) → z.owners k < 2) → OnceSince z c → OwnedOnce c
once_of z c few h k = (by_test (nat_lt z.made k) refl, (h.1 k).2)
  where
    by_test : (b : Bool) → nat_lt z.made k ≡ b → owners_of k c < 2
    by_test true e = let l : z.made < k = grind (arith, nat_tests) in (h.1 k).1 l
    by_test false e = let l : k ≤ z.made = grind (arith, nat_tests) in let a = (h.1 k).0 l in let b = few k in omega (arith, a, b)

module _ (k : ℕ) where
  abbrev result_of : ℕ → Entry → ℕ
  result_of n e = count_maybe PromiseSide k PromiseSide e.result

  results_sum : (xs : Numbered Entry) → results_at k xs ≡ sum_by result_of xs
  results_sum [] = refl
  results_sum (x ∷ xs) = let e = results_sum xs in omega (arith, e)

  pub results_put : (xs : Numbered Entry) (i : ℕ) (e new : Entry) → thing xs i ≡ Some e → new.result ≡ e.result → results_at k (put xs i new) ≡ results_at k xs
  results_put xs i e new at same =
      let a = results_sum (put xs i new) in
      let b = results_sum xs in
      let c = sum_put result_of xs i e new at in
      let d = ap (count_maybe PromiseSide k PromiseSide) same in omega (arith, a, b, c, d)

  pub results_added : (xs : Numbered Entry) (i : ℕ) (new : Entry) → results_at k (added xs i new) ≡ count_maybe PromiseSide k PromiseSide new.result + results_at k xs
  results_added xs i new =
      let a = results_sum (added xs i new) in
      let b = results_sum xs in
      let c = sum_added result_of xs i new in omega (arith, a, b, c)

  pub results_removed : (xs : Numbered Entry) (i : ℕ) → results_at k (removed xs i) ≤ results_at k xs
  results_removed [] i = omega arith
  results_removed (x ∷ xs) i = by_test (nat_eq i x.0) (results_removed xs i)
    where
      by_test : (b : Bool) → results_at k (removed xs i) ≤ results_at k xs → results_at k (if b then xs else x ∷ removed xs i) ≤ results_at k (x ∷ xs)
      by_test true r = omega arith
      by_test false r = omega (arith, r)

  pub ports_added : (xs : Numbered ℕ) (q n : ℕ) → in_ports PromiseSide k (added xs q n) ≡ one PromiseSide k PromiseSide n + in_ports PromiseSide k xs
  ports_added xs q n =
      let a = ports_sum PromiseSide k (added xs q n) in
      let b = ports_sum PromiseSide k xs in
      let c = sum_added (λ n j. one PromiseSide k PromiseSide j) xs q n in omega (arith, a, b, c)

  pub ports_removed : (xs : Numbered ℕ) (q : ℕ) → in_ports PromiseSide k (removed xs q) ≤ in_ports PromiseSide k xs
  ports_removed [] q = omega arith
  ports_removed (x ∷ xs) q = by_test (nat_eq q x.0) (ports_removed xs q)
    where
      by_test : (b : Bool) → in_ports PromiseSide k (removed xs q) ≤ in_ports PromiseSide k xs → in_ports PromiseSide k (if b then xs else x ∷ removed xs q) ≤ in_ports PromiseSide k (x ∷ xs)
      by_test true r = omega arith
      by_test false r = omega (arith, r)

  pub requests_added : (ks : List ℕ) (n : ℕ) → in_requests PromiseSide k (ks ++ n ∷ []) ≡ one PromiseSide k PromiseSide n + in_requests PromiseSide k ks
  requests_added [] n = refl
  requests_added (x ∷ ks) n = let a = requests_added ks n in omega (arith, a)

  pub requests_closed : (j : ℕ) (ks : List ℕ) → in_requests PromiseSide k (closed_request j ks) ≤ in_requests PromiseSide k ks
  requests_closed j [] = omega arith
  requests_closed j (x ∷ ks) = by_test (nat_eq j x) (requests_closed j ks)
    where
      by_test : (b : Bool) → in_requests PromiseSide k (closed_request j ks) ≤ in_requests PromiseSide k ks
          → in_requests PromiseSide k (if b then ks else x ∷ closed_request j ks) ≤ in_requests PromiseSide k (x ∷ ks)
      by_test true r = omega arith
      by_test false r = omega (arith, r)

-- what was made a cell for
pub entry_once : (z : Since) (c : Core) (i : ℕ) (e new : Entry) → thing c.entries i ≡ Some e → new.result ≡ e.result → OnceSince z c → OnceSince z (record c { entries = put c.entries i new })
entry_once z c i e new at same h = (h.0, λ k. less_few z c.made k _ (owners_of k c) (let a = results_put k c.entries i e new at same in omega (arith, a)) (h.1 k))

pub entry_gone : (z : Since) (c : Core) (i : ℕ) → OnceSince z c → OnceSince z (record c { entries = removed c.entries i })
entry_gone z c i h = (h.0, λ k. less_few z c.made k _ (owners_of k c) (let a = results_removed k c.entries i in omega (arith, a)) (h.1 k))

pub port_gone : (z : Since) (c : Core) (q : ℕ) → OnceSince z c → OnceSince z (record c { ports = removed c.ports q })
port_gone z c q h = (h.0, λ k. less_few z c.made k _ (owners_of k c) (let a = ports_removed k c.ports q in omega (arith, a)) (h.1 k))

pub request_gone : (z : Since) (c : Core) (j : ℕ) → OnceSince z c → OnceSince z (record c { requests = closed_request j c.requests })
request_gone z c j h = (h.0, λ k. less_few z c.made k _ (owners_of k c) (let a = requests_closed k j c.requests in omega (arith, a)) (h.1 k))

pub made_once : (z : Since) (c : Core) → OnceSince z c → OnceSince z (record c { made = suc c.made })
made_once z c h = (let l = h.0 in omega (arith, l), λ k. next_few z c.made k (owners_of k c) (h.1 k))

pub entry_made : (z : Since) (c : Core) (i : ℕ) (new : Entry) → new.result ≡ Some (suc c.made) → OnceSince z c → OnceSince z (record c { made = suc c.made; entries = added c.entries i new })
entry_made z c i new e h = (
  let l = h.0 in omega (arith, l),
  λ k. new_few z c.made k (owners_of k c) _ h.0
      (let a = results_added k c.entries i new in let b = ap (count_maybe PromiseSide k PromiseSide) e in omega (arith, a, b)) (h.1 k),
)

-- an actor for which no cell is made
pub entry_alone : (z : Since) (c : Core) (i : ℕ) (new : Entry) → new.result ≡ None → OnceSince z c → OnceSince z (record c { entries = added c.entries i new })
entry_alone z c i new e h = (
  h.0,
  λ k. less_few z c.made k _ (owners_of k c)
      (let a = results_added k c.entries i new in let b = ap (count_maybe PromiseSide k PromiseSide) e in omega (arith, a, b)) (h.1 k),
)

pub port_made : (z : Since) (c : Core) (q : ℕ) → OnceSince z c → OnceSince z (record c { made = suc c.made; ports = added c.ports q (suc c.made) })
port_made z c q h = (let l = h.0 in omega (arith, l), λ k. new_few z c.made k (owners_of k c) _ h.0 (let a = ports_added k c.ports q (suc c.made) in omega (arith, a)) (h.1 k))

pub request_made : (z : Since) (c : Core) → OnceSince z c → OnceSince z (record c { made = suc c.made; requests = c.requests ++ suc c.made ∷ [] })
request_made z c h = (let l = h.0 in omega (arith, l), λ k. new_few z c.made k (owners_of k c) _ h.0 (let a = requests_added k c.requests (suc c.made) in omega (arith, a)) (h.1 k))
