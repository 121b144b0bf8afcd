-- Numbers that are read digit by digit, and held at a greatest one.
use Rattle.std.proofs.Common.{◌≡◌, ℕ, zero, suc, ◌+◌, ◌-◌, ◌*◌, ◌^◌, ◌<◌, min, List, [], ◌∷◌, length, drop, get_or, refl, ap, sym, ◌∙◌, arith, add-one}
use Rattle.flow_base.specs.Names.{digits_from}

abbrev most : ℕ
most = 2 ^ 64 - 1

held : (a d : ℕ) → min (min a most * 10 + d) most ≡ min (a * 10 + d) most
held a d = omega arith

-- from equal numbers at most the greatest, the same is read
read_held : (a b : ℕ) (ds : List ℕ) → min a most ≡ min b most → min (digits_from a ds) most ≡ min (digits_from b ds) most
read_held a b [] e = e
read_held a b (d ∷ ds) e =
    read_held (a * 10 + (d - 48)) (b * 10 + (d - 48)) ds
    (sym (held a (d - 48)) ∙ ap (λ n. min (n * 10 + (d - 48)) most) e ∙ held b (d - 48))

one_more : (n : ℕ) (ds : List ℕ) (i : ℕ) → i < length ds → digits_from n (drop i ds) ≡ digits_from (n * 10 + (get_or ds i 0 - 48)) (drop (suc i) ds)
one_more n [] i lt = absurd (omega arith)
one_more n (d ∷ ds) zero lt = refl
one_more n (d ∷ ds) (suc i) lt =
    let lt' : i < length ds = omega arith in
    one_more n ds i lt'

pub read_more : (n next : ℕ) (ds : List ℕ) (i : ℕ) → i < length ds → next ≡ min (min (n * 10) (2 ^ 64 - 1) + (get_or ds i 0 - 48)) (2 ^ 64 - 1)
    → min (digits_from n (drop i ds)) (2 ^ 64 - 1) ≡ min (digits_from next (drop (i + 1) ds)) (2 ^ 64 - 1)
read_more n next ds i lt e =
    let d = get_or ds i 0 - 48 in
    let same : min (n * 10 + d) most ≡ min next most = omega arith in
    rw add-one (ap (λ m. min m most) (one_more n ds i lt) ∙ read_held (n * 10 + d) next (drop (suc i) ds) same)
