-- What is brought to a process keeps that nobody else refers to the promise side of what it made a cell for.
use Rattle.std.proofs.Common.{◌≡◌, ◌⊎◌, inl, inr, ℕ, ◌+◌, ◌<◌, ◌≤◌, nat_eq, Bool, true, false, List, [], ◌∷◌, if◌then◌else◌, refl, ap, arith}
use Rattle.std.proofs.lemmas.Bool.Decides.{nat_tests}
use Rattle.std.specs.Prelude.{not, nat_lt, pos}
use Rattle.std.specs.declared.option.Option.{Option}
use Rattle.std.specs.declared.option.Option.TheVariants.{None, Some}
use Rattle.flow_value.specs.declared.value.Kind.TheVariants as kind
use Rattle.flow_value.specs.Values.{IntValue, OutcomeTree}
use Rattle.flow_numbered.specs.Numbered.{thing}
use Rattle.flow_meaning.specs.Cells.{PromiseSide, Cell}
use Rattle.flow_meaning.specs.Process.{Drop, Halt, Core}
use Rattle.flow_meaning.specs.References.{one, in_requests}
use Rattle.flow_meaning.specs.Orderly.{UnlessStopped}
use Rattle.flow_meaning.specs.Work.{pushed, fill, fill_cell}
use Rattle.flow_meaning.specs.Step.{proc}
use Rattle.flow_meaning.specs.Class.{classes}
use Rattle.flow_meaning.specs.Deliver.{boot_core, boot_with, deliver, arrive, stop_main, closed_request}
use Rattle.flow_meaning.specs.Frame.{Frame}
use Rattle.flow_meaning.proofs.Posture.{Unless, unless, unless_map, after_turn}
use Rattle.flow_heap_refinement.specs.Rested.{has}
use Rattle.flow_heap_refinement.specs.CellsTied.{CellsTied}
use Rattle.flow_heap_refinement.specs.Alone.{spares, owners_of, Alone}
use Rattle.flow_heap_refinement.specs.Lonely as law
use Rattle.flow_heap_refinement.specs.Lonely.{OwnedAlone}
use Rattle.flow_heap_refinement.proofs.NamingDeliveries.{deliveries_named, arrivals_named, boots_named, stops_named}
use Rattle.flow_heap_refinement.proofs.OwnersOnce.{OnceSince, since}
use Rattle.flow_heap_refinement.proofs.Tidy.{Tidy}
use Rattle.flow_heap_refinement.proofs.TidySteps.{deliveries_since, arrivals_since, boots_since}

-- an owner of a cell at the end owned it at the begin, or the cell is younger
older : (c d : Core) → OnceSince (since c) d → (k : ℕ) → (0 < owners_of k d) ⊎ (d.made < k) → (0 < owners_of k c) ⊎ (c.made < k)
older c d h k asked = by_age (nat_lt c.made k) refl asked
  where
    by_age : (b : Bool) → nat_lt c.made k ≡ b → (0 < owners_of k d) ⊎ (d.made < k) → (0 < owners_of k c) ⊎ (c.made < k)
    by_age true f a = inr (grind (arith, nat_tests))
    by_age false f (inl a) = let l : k ≤ c.made = grind (arith, nat_tests) in let less = (h.1 k).0 l in inl (omega (arith, a, less))
    by_age false f (inr a) = let l : k ≤ c.made = grind (arith, nat_tests) in let more = h.0 in absurd (omega (arith, a, l, more))

unless_both : (A B : Type 0) (x : Option Halt) → UnlessStopped x A → UnlessStopped x B → UnlessStopped x (A × B)
unless_both A B None a b = (a, b)
unless_both A B (Some x) a b = tt

-- an open request is closed
one_closed : (k : ℕ) (ks : List ℕ) → has k ks ≡ true → in_requests PromiseSide k (closed_request k ks) + 1 ≡ in_requests PromiseSide k ks
one_closed k [] h = absurd (cc)
one_closed k (x ∷ xs) h = by_test (nat_eq k x) refl h (one_closed k xs)
  where
    by_test : (b : Bool) → nat_eq k x ≡ b → (if b then true else has k xs) ≡ true → (has k xs ≡ true → in_requests PromiseSide k (closed_request k xs) + 1 ≡ in_requests PromiseSide k xs)
        → in_requests PromiseSide k (if b then xs else x ∷ closed_request k xs) + 1 ≡ one PromiseSide k PromiseSide x + in_requests PromiseSide k xs
    by_test true e f rest = let a : one PromiseSide k PromiseSide x ≡ 1 = ap (λ b. if b then 1 else 0) e in omega (arith, a)
    by_test false e f rest = let b = rest f in omega (arith, b)

fill_owners : (k j n : ℕ) (o : OutcomeTree) (x : Option Cell) (c : Core) → owners_of j c ≡ n → Unless (λ d. owners_of j d ≡ n) (fill_cell k o x c)
fill_owners k j n o None c e = tt
fill_owners k j n o (Some cell) c e = unless c.halted e

delivered : (k : ℕ) (o : OutcomeTree) (c : Core) → CellsTied c → has k c.requests ≡ true → Unless (λ d. owners_of k d ≡ 0) (deliver k o c)
delivered k o c t h =
    let d = pushed (Drop kind.Promise k) (record c { requests = closed_request k c.requests }) in
    let a = one_closed k c.requests h in
    let b = (t.once k).0 in
    after_turn (λ d. owners_of k d ≡ 0) (fill k o) d c.left (λ n. fill_owners k k 0 o (thing c.cells k) (record d { left = n }) (omega (arith, a, b)))

pub deliveries_lonely : law.DeliveriesLonely
deliveries_lonely k o p t asks out h =
    unless_map (deliver k o p.core).halted all (unless_both _ _ (deliver k o p.core).halted (deliveries_since k o p.core t) (delivered k o p.core t asks))
  where
    all : Tidy (since p.core) (deliver k o p.core) × (owners_of k (deliver k o p.core) ≡ 0) → OwnedAlone (proc (deliver k o p.core) p.actors)
    all u j asked = by_test (nat_eq j k) refl
      where
        before : Alone j p
        before = h j (older p.core (deliver k o p.core) u.0.4 j asked)

        by_test : (b : Bool) → nat_eq j k ≡ b → Alone j (proc (deliver k o p.core) p.actors)
        by_test false e = (deliveries_named (spares j) k o p.core (ap not e) (out j) before.0, before.1)
        by_test true e = let same : j ≡ k = grind (arith, nat_tests) in absurd (never same asked)
          where
            never : j ≡ k → (0 < owners_of j (deliver k o p.core)) ⊎ ((deliver k o p.core).made < j) → ⊥
            never same (inl a) = let z = u.1 in let s = ap (λ m. owners_of m (deliver k o p.core)) same in omega (arith, a, z, s)
            never same (inr a) =
                let more = u.0.4.0 in
                let none = (t.once k).1 (omega (arith, a, same, more)) in
                let one = one_closed k p.core.requests asks in omega (arith, none, one)

pub arrivals_lonely : law.ArrivalsLonely
arrivals_lonely k v p t out h =
    unless_map (arrive k v p.core).halted
    (λ (u : Tidy (since p.core) (arrive k v p.core)). λ j asked. let before : Alone j p = h j
    (older p.core (arrive k v p.core) u.4 j asked) in (arrivals_named (spares j) k v p.core (out j) before.0, before.1))
    (arrivals_since k v p.core t)

pub boots_lonely : law.BootsLonely
boots_lonely r me p o t h = by_frame ((classes r).fresh (classes r).main (IntValue (pos me) ∷ [])) (λ j. boots_named r (spares j) me p)
  where
    by_frame : (x : Option Frame) → ((j : ℕ) → Alone j p → Alone j (boot_with (classes r) x p)) → UnlessStopped (boot_with (classes r) x p).core.halted (OwnedAlone (boot_with (classes r) x p))
    by_frame None named = tt
    by_frame (Some f) named =
        unless_map (boot_core (classes r).main ((classes r).label (classes r).main) p.core).halted
        (λ (u : Tidy (since p.core) (boot_core (classes r).main ((classes r).label (classes r).main) p.core)). λ j asked. named j
        (h j (older p.core (boot_core (classes r).main ((classes r).label (classes r).main) p.core) u.4 j asked)))
        (boots_since (classes r).main ((classes r).label (classes r).main) p.core o t)

pub stops_lonely : law.StopsLonely
stops_lonely p h k asked = (stops_named (spares k) p.core (λ j e. refl) (h k (by_main p.core.main asked)).0, (h k (by_main p.core.main asked)).1)
  where
    by_main : (x : Option ℕ) → (0 < owners_of k (stop_main x p.core)) ⊎ ((stop_main x p.core).made < k) → (0 < owners_of k p.core) ⊎ (p.core.made < k)
    by_main None a = a
    by_main (Some m) a = a
