-- The number of a wait and of a branch is found by the place that is told.
use Rattle.std.proofs.Common.{◌≡◌, ℕ, zero, suc, ◌+◌, List, [], ◌∷◌, slice_get, bytes_eq, refl, ap, ◌∙◌, subst, arith, if◌then◌else◌}
use Rattle.std.specs.declared.option.Option.{Option}
use Rattle.std.specs.declared.option.Option.TheVariants.{None, Some}
use Rattle.std.specs.List.{AllByRecursion}
use Rattle.std.proofs.lemmas.Bool.{cond-true, cond_both}
use Rattle.std.proofs.lemmas.Slice.Eq.{bytes_eq-Decides}
use Rattle.flow_base.specs.declared.place.Place.{Place}
use Rattle.flow_explain.specs.Texts.{WaitText, ActorText}
use Rattle.flow_explain.specs.Phrases.{text_at, wait_of, wait_place, branch_place, spot}
use Rattle.flow_explain.specs.Laws.{IsActorText}

abbrev spot_of : Place → List ℕ
spot_of p = spot (Some p)

-- the number of the first wait at a spot, where the first of these has number n
abbrev first_wait : (n : ℕ) → List WaitText → (at : List ℕ) → ℕ
first_wait n [] at = 0
first_wait n (w ∷ ws) at = if bytes_eq (spot_of w.at) at then n else first_wait (suc n) ws at

abbrev pub wait_number : Option ActorText → (at : List ℕ) → ℕ
wait_number None at = 0
wait_number (Some t) at = first_wait 1 t.waits at

-- no other of these waits stands at the spot
abbrev WaitAlone : List WaitText → (k : ℕ) → List ℕ → Type 0
WaitAlone ws k at = (j : ℕ) (q : Place) → wait_place (slice_get ws j) ≡ Some q → spot_of q ≡ at → j ≡ k

wait_hit : (n : ℕ) (ws : List WaitText) (k : ℕ) (p : Place) → wait_place (slice_get ws k) ≡ Some p → WaitAlone ws k (spot_of p)
    → first_wait n ws (spot_of p) ≡ n + k
wait_hit n [] k p is alone = cc
wait_hit n (w ∷ ws) zero p is alone =
    let same : w.at ≡ p = cc in
    let number : n ≡ n + 0 = omega arith in
    cond-true (bytes_eq (spot_of w.at) (spot_of p)) n (first_wait (suc n) ws (spot_of p)) ((bytes_eq-Decides (spot_of w.at) (spot_of p)).1 (ap spot_of same)) ∙ number
wait_hit n (w ∷ ws) (suc k) p is alone =
    cond_both (bytes_eq (spot_of w.at) (spot_of p)) n (first_wait (suc n) ws (spot_of p)) (λ m. m ≡ n + suc k)
    (λ here. absurd (let e : 0 ≡ suc k = alone 0 w.at refl ((bytes_eq-Decides (spot_of w.at) (spot_of p)).0 here) in omega (arith, e)))
    (λ _.
    let number : suc n + k ≡ n + suc k = omega arith in
    wait_hit (suc n) ws k p is (λ j q there at. let e : suc j ≡ suc k = alone (suc j) q there at in omega (arith, e)) ∙ number)

-- the text of an actor among these is one of a program
pub text_is : (texts : List ActorText) → AllByRecursion IsActorText texts → (k : ℕ) (t : ActorText) → slice_get texts k ≡ Some t → IsActorText t
text_is [] all k t is = cc
text_is (u ∷ us) all zero t is = let same : u ≡ t = cc in subst IsActorText same all.0
text_is (u ∷ us) all (suc k) t is = text_is us all.1 k t is

pub text_at_is : (texts : List ActorText) → AllByRecursion IsActorText texts → (k : Option ℕ) (t : ActorText) → text_at texts k ≡ Some t → IsActorText t
text_at_is texts all None t is = cc
text_at_is texts all (Some k) t is = text_is texts all k t is

pub wait_back : (o : Option ActorText) (g : ℕ) (p : Place) → ((t : ActorText) → o ≡ Some t → IsActorText t) → wait_place (wait_of o g) ≡ Some p
    → wait_number o (spot_of p) ≡ g
wait_back None g p each is = cc
wait_back (Some t) zero p each is = cc
wait_back (Some t) (suc k) p each is =
    let number : 1 + k ≡ suc k = omega arith in
    wait_hit 1 t.waits k p is (λ j q there at. let e : suc j ≡ suc k = (each t refl).waits (suc j) (suc k) q p there is at in omega (arith, e)) ∙ number

-- the first branch of a wait that goes on at a spot, where the first of these has number n
abbrev first_branch : (n : ℕ) → List Place → (at : List ℕ) → Option ℕ
first_branch n [] at = None
first_branch n (q ∷ qs) at = if bytes_eq (spot_of q) at then Some n else first_branch (suc n) qs at

abbrev found_in : (group : ℕ) → (branch : Option ℕ) → (others : ℕ × ℕ) → ℕ × ℕ
found_in g None others = others
found_in g (Some b) others = (g, b)

-- the numbers of the first wait and its branch that goes on at a spot
abbrev first_take : (n : ℕ) → List WaitText → (at : List ℕ) → ℕ × ℕ
first_take n [] at = (0, 0)
first_take n (w ∷ ws) at = found_in n (first_branch 0 w.branches at) (first_take (suc n) ws at)

abbrev pub take_numbers : Option ActorText → (at : List ℕ) → ℕ × ℕ
take_numbers None at = (0, 0)
take_numbers (Some t) at = first_take 1 t.waits at

-- where one goes on at the spot, the first found is one
branch_found : (n : ℕ) (qs : List Place) (at : List ℕ) (b : ℕ) → first_branch n qs at ≡ Some b
    → (c : ℕ) × (q : Place) × (slice_get qs c ≡ Some q) × (spot_of q ≡ at) × (b ≡ n + c)
branch_found n [] at b is = cc
branch_found n (q ∷ qs) at b is =
    cond_both (bytes_eq (spot_of q) at) (Some n) (first_branch (suc n) qs at)
    (λ o. o ≡ Some b → (c : ℕ) × (r : Place) × (slice_get (q ∷ qs) c ≡ Some r) × (spot_of r ≡ at) × (b ≡ n + c))
    (λ here e. (0, q, refl, (bytes_eq-Decides (spot_of q) at).0 here, let same : n ≡ b = cc in omega (arith, same)))
    (λ _ e. let (c, r, there, says, number) = branch_found (suc n) qs at b e in (suc c, r, there, says, omega (arith, number)))
    is

branch_hit : (n : ℕ) (qs : List Place) (c : ℕ) (p : Place) → slice_get qs c ≡ Some p → (b : ℕ) × (first_branch n qs (spot_of p) ≡ Some b)
branch_hit n [] c p is = cc
branch_hit n (q ∷ qs) zero p is =
    let same : q ≡ p = cc in
    (n, cond-true (bytes_eq (spot_of q) (spot_of p)) _ _ ((bytes_eq-Decides (spot_of q) (spot_of p)).1 (ap spot_of same)))
branch_hit n (q ∷ qs) (suc c) p is =
    cond_both (bytes_eq (spot_of q) (spot_of p)) (Some n) (first_branch (suc n) qs (spot_of p)) (λ o. (b : ℕ) × (o ≡ Some b))
    (λ _. (n, refl)) (λ _. branch_hit (suc n) qs c p is)

-- no other branch of these waits goes on at the spot
abbrev TakeAlone : List WaitText → (k c : ℕ) → List ℕ → Type 0
TakeAlone ws k c at = (j d : ℕ) (q : Place) → branch_place (slice_get ws j) d ≡ Some q → spot_of q ≡ at → (j ≡ k) × (d ≡ c)

found_here : (n : ℕ) (w : WaitText) (ws : List WaitText) (c : ℕ) (at : List ℕ) (b : ℕ) (others : ℕ × ℕ) → first_branch 0 w.branches at ≡ Some b
    → TakeAlone (w ∷ ws) 0 c at → found_in n (first_branch 0 w.branches at) others ≡ (n, c)
found_here n w ws c at b others is alone =
    let (d, q, there, says, number) = branch_found 0 w.branches at b is in
    let same : d ≡ c = (alone 0 d q there says).1 in
    let branch : b ≡ c = omega (arith, number, same) in
    ap (λ o. found_in n o others) is ∙ ap (λ m. (n, m)) branch

found_later : (n : ℕ) (w : WaitText) (ws : List WaitText) (k c : ℕ) (at : List ℕ) (o : Option ℕ) (others : ℕ × ℕ) → first_branch 0 w.branches at ≡ o
    → TakeAlone (w ∷ ws) (suc k) c at → found_in n o others ≡ others
found_later n w ws k c at None others is alone = refl
found_later n w ws k c at (Some b) others is alone =
    let (d, q, there, says, number) = branch_found 0 w.branches at b is in
    let same : 0 ≡ suc k = (alone 0 d q there says).0 in
    absurd (omega (arith, same))

take_hit : (n : ℕ) (ws : List WaitText) (k c : ℕ) (p : Place) → branch_place (slice_get ws k) c ≡ Some p → TakeAlone ws k c (spot_of p)
    → first_take n ws (spot_of p) ≡ (n + k, c)
take_hit n [] k c p is alone = cc
take_hit n (w ∷ ws) zero c p is alone =
    let (b, hit) = branch_hit 0 w.branches c p is in
    let number : n ≡ n + 0 = omega arith in
    found_here n w ws c (spot_of p) b (first_take (suc n) ws (spot_of p)) hit alone ∙ ap (λ m. (m, c)) number
take_hit n (w ∷ ws) (suc k) c p is alone =
    let number : suc n + k ≡ n + suc k = omega arith in
    found_later n w ws k c (spot_of p) (first_branch 0 w.branches (spot_of p)) (first_take (suc n) ws (spot_of p)) refl alone
    ∙ take_hit (suc n) ws k c p is
    (λ j d q there says. let both = alone (suc j) d q there says in (let e : suc j ≡ suc k = both.0 in omega (arith, e), both.1))
    ∙ ap (λ m. (m, c)) number

pub take_back : (o : Option ActorText) (g b : ℕ) (p : Place) → ((t : ActorText) → o ≡ Some t → IsActorText t) → branch_place (wait_of o g) b ≡ Some p
    → take_numbers o (spot_of p) ≡ (g, b)
take_back None g b p each is = cc
take_back (Some t) zero b p each is = cc
take_back (Some t) (suc k) b p each is =
    let number : 1 + k ≡ suc k = omega arith in
    take_hit 1 t.waits k b p is
    (λ j d q there says. let both = (each t refl).branches (suc j) (suc k) d b q p there is says in (let e : suc j ≡ suc k = both.0 in omega (arith, e), both.1))
    ∙ ap (λ m. (m, b)) number
