-- Numbers that stand once in a list do so after one is taken out, and after a new one is put in.
use Rattle.std.proofs.Common.{◌≡◌, ℕ, nat_eq, Bool, true, false, List, [], ◌∷◌, refl, sym, ap, subst, ◌∙◌, arith}
use Rattle.std.proofs.lemmas.Bool.Decides.{nat_tests}
use Rattle.std.specs.Prelude.{cond, ◌||◌}
use Rattle.std.specs.declared.option.Option.{Option}
use Rattle.std.specs.declared.option.Option.TheVariants.{None, Some}
use Rattle.flow_cancel.specs.Heap.{has_number, without_number}
use Rattle.flow_cancel.proofs.Noted.{at_number}
use Rattle.flow_steps.specs.declared.call.Call.{Call}
use Rattle.flow_steps.specs.declared.call.Call.TheVariants as call
use Rattle.flow_burst_refinement.specs.Invariants.Staying as law
use Rattle.flow_burst_refinement.specs.Invariants.Staying.{ports_after}

abbrev pub Once : List ℕ → Type 0
Once ns = (k : ℕ) → has_number (without_number ns k) k ≡ false

-- by the first number
pub has_first : (k x : ℕ) (xs : List ℕ) → has_number (x ∷ xs) k ≡ (nat_eq k x || has_number xs k)
has_first k x xs = ap (λ b. b || has_number xs k) (at_number k x)

less_first : (k x : ℕ) (xs : List ℕ) → without_number (x ∷ xs) k ≡ cond (nat_eq k x) xs (x ∷ without_number xs k)
less_first k x xs = ap (λ b. cond b xs (x ∷ without_number xs k)) (at_number k x)

pub not_either : (a b : Bool) → (a || b) ≡ false → a ≡ false
not_either true b h = cc
not_either false b h = refl

pub nor_second : (a b : Bool) → (a || b) ≡ false → b ≡ false
nor_second true b h = cc
nor_second false b h = h

-- what isn't there isn't there afterwards
still_none : (j k : ℕ) (ns : List ℕ) → has_number ns k ≡ false → has_number (without_number ns j) k ≡ false
still_none j k [] h = h
still_none j k (x ∷ xs) h =
    let e = sym (has_first k x xs) ∙ h in
    subst (λ ns. has_number ns k ≡ false) (sym (less_first j x xs))
    (by_test (nat_eq j x) (not_either (nat_eq k x) (has_number xs k) e) (nor_second (nat_eq k x) (has_number xs k) e) (still_none j k xs))
  where
    by_test : (b : Bool) → nat_eq k x ≡ false → has_number xs k ≡ false → (has_number xs k ≡ false → has_number (without_number xs j) k ≡ false)
        → has_number (cond b xs (x ∷ without_number xs j)) k ≡ false
    by_test true f g rest = g
    by_test false f g rest = has_first k x (without_number xs j) ∙ ap (λ b. b || has_number (without_number xs j) k) f ∙ rest g

self : (n : ℕ) → nat_eq n n ≡ true
self n = grind (arith, nat_tests)

pub first_alone : (x : ℕ) (xs : List ℕ) → Once (x ∷ xs) → has_number xs x ≡ false
first_alone x xs h = subst (λ ns. has_number ns x ≡ false) (less_first x x xs ∙ ap (λ b. cond b xs (x ∷ without_number xs x)) (self x)) (h x)

pub others_once : (x : ℕ) (xs : List ℕ) → Once (x ∷ xs) → Once xs
others_once x xs h k = by_test (nat_eq k x) refl
  where
    by_test : (b : Bool) → nat_eq k x ≡ b → has_number (without_number xs k) k ≡ false
    by_test true e = let same : x ≡ k = grind (arith, nat_tests, e) in still_none k k xs (subst (λ n. has_number xs n ≡ false) same (first_alone x xs h))
    by_test false e =
        let a = subst (λ ns. has_number ns k ≡ false) (less_first k x xs ∙ ap (λ b. cond b xs (x ∷ without_number xs k)) e) (h k) in
        nor_second (nat_eq k x) (has_number (without_number xs k) k) (sym (has_first k x (without_number xs k)) ∙ a)

pub with_first : (x : ℕ) (xs : List ℕ) → has_number xs x ≡ false → Once xs → Once (x ∷ xs)
with_first x xs none h k = subst (λ ns. has_number ns k ≡ false) (sym (less_first k x xs)) (by_test (nat_eq k x) refl)
  where
    by_test : (b : Bool) → nat_eq k x ≡ b → has_number (cond b xs (x ∷ without_number xs k)) k ≡ false
    by_test true e = let same : x ≡ k = grind (arith, nat_tests, e) in subst (λ n. has_number xs n ≡ false) same none
    by_test false e = has_first k x (without_number xs k) ∙ ap (λ b. b || has_number (without_number xs k) k) e ∙ h k

pub once_less : (j : ℕ) (ns : List ℕ) → Once ns → Once (without_number ns j)
once_less j [] h = h
once_less j (x ∷ xs) h = subst Once (sym (less_first j x xs)) (by_test (nat_eq j x) (once_less j xs (others_once x xs h)))
  where
    by_test : (b : Bool) → Once (without_number xs j) → Once (cond b xs (x ∷ without_number xs j))
    by_test true rest = others_once x xs h
    by_test false rest = with_first x (without_number xs j) (still_none j x xs (first_alone x xs h)) rest

-- memory's order after a step
pub sorted_stays : law.SortedStays
sorted_stays m n stays s =
    let r = stays.rise (record { cells = s.cells; streams = s.streams; actors = s.actors; frames = s.frames }) in
    record { cells = r.cells; streams = r.streams; actors = r.actors; frames = r.frames; ports = subst Once (sym stays.ports) (by_asked n.asked) }
  where
    by_asked : (o : Option Call) → Once (ports_after o m.heap.ports)
    by_asked None = s.ports
    by_asked (Some (call.Unlisten k)) = once_less k.0 m.heap.ports s.ports
    by_asked (Some (call.Line l)) = s.ports
    by_asked (Some (call.Draw i g lo hi)) = s.ports
    by_asked (Some (call.Delay i g t)) = s.ports
    by_asked (Some (call.Listen i g p)) = s.ports
    by_asked (Some (call.Disk i g d)) = s.ports
    by_asked (Some (call.SendTo i q p t)) = s.ports
