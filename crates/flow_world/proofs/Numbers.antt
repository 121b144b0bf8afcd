-- Pending events have numbers of their own.
use Rattle.std.proofs.Common.{◌≡◌, ℕ, suc, ◌+◌, ◌<◌, ◌≤◌, nat_eq, Bool, true, false, not, List, [], ◌∷◌, refl, ap, ◌∙◌, arith, if◌then◌else◌}
use Rattle.std.proofs.lemmas.Bool.Decides.{nat_tests}
use Rattle.flow_base.specs.declared.ids.ProcId.{ProcId}
use Rattle.flow_timers.specs.Pending.{Pending, comes_before, placed}
use Rattle.flow_world.specs.declared.outside.What as kept
use Rattle.flow_world.specs.Changes.{is_request_of, requests_gone}
use Rattle.flow_world.specs.Representing.{having, NumbersOnce}

-- one event more, with the next number, and some fewer
having_placed : (n : ℕ) (d : Pending kept.What) (es : List (Pending kept.What)) → having n (placed d es) ≡ (if nat_eq n d.number then 1 else 0) + having n es
having_placed n d [] = refl
having_placed n d (e ∷ es) = by_order (comes_before d e) (having_placed n d es)
  where
    by_order : (t : Bool) → having n (placed d es) ≡ (if nat_eq n d.number then 1 else 0) + having n es
        → having n (if t then d ∷ e ∷ es else e ∷ placed d es) ≡ (if nat_eq n d.number then 1 else 0) + having n (e ∷ es)
    by_order true q = refl
    by_order false q = omega (arith, q)

having_gone : (n : ℕ) (p : ProcId) (es : List (Pending kept.What)) → having n (requests_gone p es) ≤ having n es
having_gone n p [] = omega arith
having_gone n p (e ∷ es) = by_test (not (is_request_of p e.what)) (having_gone n p es)
  where
    by_test : (t : Bool) → having n (requests_gone p es) ≤ having n es → having n (if t then e ∷ requests_gone p es else requests_gone p es) ≤ having n (e ∷ es)
    by_test true q = omega (arith, q)
    by_test false q = omega (arith, q)

pub numbers_placed : (made : ℕ) (d : Pending kept.What) (es : List (Pending kept.What)) → d.number ≡ suc made → NumbersOnce made es → NumbersOnce (suc made) (placed d es)
numbers_placed made d es new h n = by_test (nat_eq n d.number) refl
  where
    all : having n (placed d es) ≡ (if nat_eq n d.number then 1 else 0) + having n es
    all = having_placed n d es

    by_test : (t : Bool) → nat_eq n d.number ≡ t → (having n (placed d es) ≤ 1) × (suc made < n → having n (placed d es) ≡ 0)
    by_test true e =
        let same : n ≡ d.number = grind (arith, nat_tests, e) in
        let nothing : having n es ≡ 0 = (h n).1 (omega (arith, same, new)) in
        let one : having n (placed d es) ≡ 1 + having n es = all ∙ ap (λ t. (if t then 1 else 0) + having n es) e in
        (omega (arith, one, nothing), λ l. absurd (omega (arith, same, new, l)))
    by_test false e =
        let as_before : having n (placed d es) ≡ 0 + having n es = all ∙ ap (λ t. (if t then 1 else 0) + having n es) e in
        (omega (arith, as_before, (h n).0), λ l. let nothing : having n es ≡ 0 = (h n).1 (omega (arith, l)) in omega (arith, as_before, nothing))

pub numbers_gone : (made : ℕ) (p : ProcId) (es : List (Pending kept.What)) → NumbersOnce made es → NumbersOnce made (requests_gone p es)
numbers_gone made p es h n =
    let fewer = having_gone n p es in
    (omega (arith, fewer, (h n).0), λ l. let nothing : having n es ≡ 0 = (h n).1 l in omega (arith, fewer, nothing))

pub numbers_left : (made : ℕ) (e : Pending kept.What) (es : List (Pending kept.What)) → NumbersOnce made (e ∷ es) → NumbersOnce made es
numbers_left made e es h n = (omega (arith, (h n).0), λ l. let nothing : having n (e ∷ es) ≡ 0 = (h n).1 l in omega (arith, nothing))
