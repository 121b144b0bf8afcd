-- Numbers that are distinct, and groups that are chosen once.
use Rattle.std.proofs.Common.{◌≡◌, ◌⊎◌, inl, inr, ℕ, zero, suc, ◌+◌, ◌-◌, ◌^◌, ◌<◌, ◌≤◌, min, Bool, true, false, not, ◌&&◌, nat_eq, List, [], ◌∷◌, length, drop, get_or, slice_set, if◌then◌else◌, refl, sym, subst, ap, ap₂, ◌∙◌, arith, add-one}
use Rattle.std.specs.List.{list_all, list_any}
use Rattle.std.proofs.lemmas.Bool.{and_parts, false≢true, cases_eq, eq-eqb, ne_eqb}
use Rattle.std.proofs.lemmas.List.{length-set, get_or-set_other}
use Rattle.std.proofs.lemmas.Grind.{get_or-set_at}
use Rattle.flow_class.specs.Classes.{LastTree, GotoLast, PassLast, TestLast, ChooseLast, ReturnLast, ThrowLast, BlockTree, CallbackTree}
use Rattle.flow_valid.specs.Validity.{chooses, times_chosen, each_once, distinct}
use Rattle.flow_validate.specs.Counting.{one_more, counted_once, counted_by, counted, zeros}
use Rattle.flow_validate.proofs.Gathering.{drop_next}

-- numbers that are distinct are so from any place on
distinct_from : (xs : List ℕ) (i : ℕ) → distinct xs ≡ true → distinct (drop i xs) ≡ true
distinct_from [] zero h = refl
distinct_from [] (suc i) h = refl
distinct_from (x ∷ xs) zero h = h
distinct_from (x ∷ xs) (suc i) h = distinct_from xs i (and_parts (not (list_any (nat_eq x) xs)) (distinct xs) h).1

pub not_distinct : (xs : List ℕ) (i d : ℕ) → i < length xs → list_any (nat_eq (get_or xs i d)) (drop (suc i) xs) ≡ true → false ≡ distinct xs
not_distinct xs i d lt h = by (distinct xs) refl
  where
    here : distinct (drop i xs) ≡ false
    here = ap distinct (drop_next xs i d lt) ∙ ap (λ (b : Bool). not b && distinct (drop (suc i) xs)) h

    by : (b : Bool) → distinct xs ≡ b → false ≡ distinct xs
    by true e = absurd (false≢true (sym here ∙ distinct_from xs i e))
    by false e = sym e

zero_plus : (n : ℕ) → 0 + n ≡ n
zero_plus n = omega arith

-- how often a group is chosen, by its count
once_long : (ns : List ℕ) (g : ℕ) → length (counted_once ns g) ≡ length ns
once_long ns zero = refl
once_long ns (suc k) = length-set ns k (one_more (get_or ns k 0))

last_long : (l : LastTree) (ns : List ℕ) → length (counted_by l ns) ≡ length ns
last_long (GotoLast t) ns = refl
last_long (PassLast t) ns = refl
last_long (TestLast e t f) ns = refl
last_long (ChooseLast g) ns = once_long ns g
last_long (ReturnLast e) ns = refl
last_long (ThrowLast e) ns = refl

counted_long : (bs : List BlockTree) (ns : List ℕ) → length (counted bs ns) ≡ length ns
counted_long [] ns = refl
counted_long (b ∷ bs) ns = counted_long bs (counted_by b.last ns) ∙ last_long b.last ns

not_more : (n : ℕ) → n ≤ 2 ^ 32 - 1 → n ≡ min (n + 0) (2 ^ 32 - 1)
not_more n le = omega (arith, le)

once_more : (ns : List ℕ) (m k : ℕ) → k < length ns → get_or ns k 0 ≤ 2 ^ 32 - 1
    → get_or (slice_set ns m (one_more (get_or ns m 0))) k 0 ≡ min (get_or ns k 0 + (if nat_eq (suc k) (suc m) then 1 else 0)) (2 ^ 32 - 1)
once_more ns m k lt le = by (cases_eq k m)
  where
    by : (k ≡ m) ⊎ (k ≡ m → ⊥) → get_or (slice_set ns m (one_more (get_or ns m 0))) k 0 ≡ min (get_or ns k 0 + (if nat_eq (suc k) (suc m) then 1 else 0)) (2 ^ 32 - 1)
    by (inl same) =
        get_or-set_at ns m k (one_more (get_or ns m 0)) 0 same (omega (arith, lt, same))
        ∙ ap (λ i. min (get_or ns i 0 + 1) (2 ^ 32 - 1)) (sym same)
        ∙ ap (λ (b : Bool). min (get_or ns k 0 + (if b then 1 else 0)) (2 ^ 32 - 1)) (sym (eq-eqb (suc k) (suc m) (ap suc same)))
    by (inr other) =
        get_or-set_other ns m k (one_more (get_or ns m 0)) 0 other ∙ not_more (get_or ns k 0) le
        ∙ ap (λ (b : Bool). min (get_or ns k 0 + (if b then 1 else 0)) (2 ^ 32 - 1)) (sym (ne_eqb (suc k) (suc m) (λ e. other (omega (arith, e)))))

by_last : (l : LastTree) (ns : List ℕ) (k : ℕ) → k < length ns → get_or ns k 0 ≤ 2 ^ 32 - 1
    → get_or (counted_by l ns) k 0 ≡ min (get_or ns k 0 + (if chooses (suc k) l then 1 else 0)) (2 ^ 32 - 1)
by_last (GotoLast t) ns k lt le = not_more (get_or ns k 0) le
by_last (PassLast t) ns k lt le = not_more (get_or ns k 0) le
by_last (TestLast e t f) ns k lt le = not_more (get_or ns k 0) le
by_last (ReturnLast e) ns k lt le = not_more (get_or ns k 0) le
by_last (ThrowLast e) ns k lt le = not_more (get_or ns k 0) le
by_last (ChooseLast zero) ns k lt le =
    not_more (get_or ns k 0) le ∙ ap (λ (b : Bool). min (get_or ns k 0 + (if b then 1 else 0)) (2 ^ 32 - 1)) (sym (ne_eqb (suc k) 0 (λ e. omega (arith, e))))
by_last (ChooseLast (suc m)) ns k lt le = once_more ns m k lt le

counted_get : (bs : List BlockTree) (ns : List ℕ) (k : ℕ) → k < length ns → get_or ns k 0 ≤ 2 ^ 32 - 1
    → get_or (counted bs ns) k 0 ≡ min (get_or ns k 0 + times_chosen (suc k) bs) (2 ^ 32 - 1)
counted_get [] ns k lt le = not_more (get_or ns k 0) le
counted_get (b ∷ bs) ns k lt le =
    let more = by_last b.last ns k lt le in
    let within : k < length (counted_by b.last ns) = subst (λ (n : ℕ). k < n) (sym (last_long b.last ns)) lt in
    counted_get bs (counted_by b.last ns) k within (small (get_or (counted_by b.last ns) k 0) _ more)
    ∙ sums (get_or (counted_by b.last ns) k 0) (get_or ns k 0) (if chooses (suc k) b.last then 1 else 0) (times_chosen (suc k) bs) more
  where
    small : (x y : ℕ) → x ≡ min y (2 ^ 32 - 1) → x ≤ 2 ^ 32 - 1
    small x y e = omega (arith, e)

    sums : (x n d t : ℕ) → x ≡ min (n + d) (2 ^ 32 - 1) → min (x + t) (2 ^ 32 - 1) ≡ min (n + (d + t)) (2 ^ 32 - 1)
    sums x n d t e = omega (arith, e)

one_least : (x t : ℕ) → x ≡ min t (2 ^ 32 - 1) → nat_eq 1 x ≡ nat_eq t 1
one_least x t e = by (cases_eq t 1)
  where
    by : (t ≡ 1) ⊎ (t ≡ 1 → ⊥) → nat_eq 1 x ≡ nat_eq t 1
    by (inl same) = eq-eqb 1 x (omega (arith, e, same)) ∙ sym (eq-eqb t 1 same)
    by (inr other) = ne_eqb 1 x (λ i. other (omega (arith, e, i))) ∙ sym (ne_eqb t 1 other)

all_once : (bs : List BlockTree) (xs : List ℕ) (g : ℕ) (gs : List (List CallbackTree)) → length xs ≡ length gs
    → ((k : ℕ) → k < length xs → get_or xs k 0 ≡ min (times_chosen (k + g) bs) (2 ^ 32 - 1)) → list_all (nat_eq 1) xs ≡ each_once bs g gs
all_once bs [] g [] e h = refl
all_once bs [] g (ks ∷ gs) e h = absurd (omega (arith, e))
all_once bs (x ∷ xs) g [] e h = absurd (omega (arith, e))
all_once bs (x ∷ xs) g (ks ∷ gs) e h =
    ap₂ (λ (a b : Bool). a && b) (one_least x (times_chosen g bs) (h 0 (omega arith) ∙ ap (λ i. min (times_chosen i bs) (2 ^ 32 - 1)) (zero_plus g)))
    (all_once bs xs (suc g) gs (omega (arith, e)) (λ k lt. h (suc k) (omega (arith, lt)) ∙ ap (λ i. min (times_chosen i bs) (2 ^ 32 - 1)) (next k g)))
  where
    next : (k g : ℕ) → suc k + g ≡ k + suc g
    next k g = omega arith

zeros_long : {A : Type 0} (xs : List A) → length (zeros xs) ≡ length xs
zeros_long [] = refl
zeros_long (x ∷ xs) = ap suc (zeros_long xs)

zeros_get : {A : Type 0} (xs : List A) (k : ℕ) → get_or (zeros xs) k 0 ≡ 0
zeros_get [] zero = refl
zeros_get [] (suc k) = refl
zeros_get (x ∷ xs) zero = refl
zeros_get (x ∷ xs) (suc k) = zeros_get xs k

pub chosen_once : {A : Type 0} (bs : List BlockTree) (xs : List A) (gs : List (List CallbackTree)) → length xs ≡ length gs → list_all (nat_eq 1) (counted bs (zeros xs)) ≡ each_once bs 1 gs
chosen_once bs xs gs e =
    all_once bs (counted bs (zeros xs)) 1 gs (counted_long bs (zeros xs) ∙ zeros_long xs ∙ e)
    (λ k lt.
    let within : k < length (zeros xs) = subst (λ (n : ℕ). k < n) (counted_long bs (zeros xs)) lt in
    let none = zeros_get xs k in
    counted_get bs (zeros xs) k within (omega (arith, none)) ∙ ap (λ n. min (n + times_chosen (suc k) bs) (2 ^ 32 - 1)) none ∙ plain k)
  where
    plain : (k : ℕ) → min (0 + times_chosen (suc k) bs) (2 ^ 32 - 1) ≡ min (times_chosen (k + 1) bs) (2 ^ 32 - 1)
    plain k = ap (λ n. min n (2 ^ 32 - 1)) (zero_plus (times_chosen (suc k) bs)) ∙ rw add-one refl
