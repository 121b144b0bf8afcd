-- Numbers that are noted.
use Rattle.std.proofs.Common.{◌≡◌, ℕ, nat_eq, Bool, true, false, List, [], ◌∷◌, refl, ap, ◌∙◌, arith}
use Rattle.std.specs.Prelude.{◌||◌}
use Rattle.std.proofs.lemmas.Bool.Decides.{nat_tests}
use Rattle.std.specs.Ordering.{nat_cmp}
use Rattle.std.specs.BTreeMap.{is_at}
use Rattle.std.specs.List.{AllByRecursion}
use Rattle.flow_cancel.specs.Heap.{has_number}
use Rattle.flow_cancel.proofs.Noted.{at_number}

-- what holds of each number that is there
pub all_there : (ns : List ℕ) (P : ℕ → Type 0) → ((k : ℕ) → has_number ns k ≡ true → P k) → AllByRecursion P ns
all_there [] P f = tt
all_there (n ∷ ns) P f =
    let here : nat_eq n n ≡ true = grind (arith, nat_tests) in
    (f n (ap (λ t. t || has_number ns n) (at_number n n ∙ here)), all_there ns P (λ k e. f k (ap (λ t. is_at (nat_cmp k) n || t) e ∙ or_true (is_at (nat_cmp k) n))))
  where
    or_true : (t : Bool) → (t || true) ≡ true
    or_true true = refl
    or_true false = refl
