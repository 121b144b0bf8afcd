-- An edit that makes a world simpler leaves one place less.
use Rattle.std.proofs.Common.{◌≡◌, ℕ, zero, suc, ◌+◌, ◌-◌, ◌<◌, ◌≤◌, Bool, true, false, nat_eq, nat_lt, if◌then◌else◌, List, [], ◌∷◌, length, set, refl, ap, arith}
use Rattle.std.specs.List.{remove}
use Rattle.std.proofs.lemmas.Bool.Decides.{nat_tests}
use Rattle.std.proofs.lemmas.List.Edits.{length-remove}
use Rattle.flow_worldfile.specs.Worlds.{World}
use Rattle.flow_shrink.specs.Editing.{TakesAPlace}
use Rattle.flow_simplify.specs.Simpler.{weight, uncommon, place_of, made_common, places, simpler}

nat_self : (n : ℕ) → nat_eq n n ≡ true
nat_self n = grind (arith, nat_tests)

weighs_none : (c : ℕ) → weight c c ≡ 0
weighs_none c = ap (λ b. if b then 0 else 1) (nat_self c)

-- one uncommon word less, of which the first is one or isn't
first_less : (b : Bool) (c w : ℕ) (ws : List ℕ) → nat_eq w c ≡ b
    → 0 < (if b then 0 else 1) + uncommon c ws
    → (0 < uncommon c ws → uncommon c (set ws (place_of c zero ws) c) + 1 ≡ uncommon c ws)
    → uncommon c (set (w ∷ ws) (if b then suc (place_of c zero ws) else 0) c) + 1 ≡ (if b then 0 else 1) + uncommon c ws
first_less true c w ws is lt less =
    let now = less (omega (arith, lt)) in
    let none : weight c w ≡ 0 = ap (λ b. if b then 0 else 1) is in
    omega (arith, now, none)
first_less false c w ws is lt less = let none = weighs_none c in omega (arith, none)

later_less : (b : Bool) (c k w : ℕ) (ws : List ℕ) → nat_eq w c ≡ b
    → suc k < (if b then 0 else 1) + uncommon c ws
    → (suc k < uncommon c ws → uncommon c (set ws (place_of c (suc k) ws) c) + 1 ≡ uncommon c ws)
    → (k < uncommon c ws → uncommon c (set ws (place_of c k ws) c) + 1 ≡ uncommon c ws)
    → uncommon c (set (w ∷ ws) (if b then suc (place_of c (suc k) ws) else suc (place_of c k ws)) c) + 1 ≡ (if b then 0 else 1) + uncommon c ws
later_less true c k w ws is lt same less =
    let now = same (omega (arith, lt)) in
    let none : weight c w ≡ 0 = ap (λ b. if b then 0 else 1) is in
    omega (arith, now, none)
later_less false c k w ws is lt same less =
    let now = less (omega (arith, lt)) in
    let one : weight c w ≡ 1 = ap (λ b. if b then 0 else 1) is in
    omega (arith, now, one)

common_less : (c k : ℕ) (words : List ℕ) → k < uncommon c words → uncommon c (made_common c k words) + 1 ≡ uncommon c words
common_less c k [] lt = absurd (omega (arith, lt))
common_less c zero (w ∷ ws) lt = first_less (nat_eq w c) c w ws refl lt (common_less c zero ws)
common_less c (suc k) (w ∷ ws) lt = later_less (nat_eq w c) c k w ws refl lt (common_less c (suc k) ws) (common_less c k ws)

place_less : (c k : ℕ) (w : World) (b : Bool) → nat_lt k (uncommon c w.words) ≡ b → k < places c w
    → places c (if b then record w { words = made_common c k w.words } else record w { script = remove w.script (k - uncommon c w.words) }) + 1
    ≡ places c w
place_less c k w true is within =
    let lt : k < uncommon c w.words = grind (arith, nat_tests, is) in
    let less = common_less c k w.words lt in
    omega (arith, less)
place_less c k w false is within =
    let from : uncommon c w.words ≤ k = grind (arith, nat_tests, is) in
    let less = length-remove w.script (k - uncommon c w.words) (omega (arith, within, from)) in
    omega (arith, less)

pub one_place_less : (c : ℕ) → TakesAPlace (simpler c)
one_place_less c w k within = place_less c k w (nat_lt k (uncommon c w.words)) refl within
