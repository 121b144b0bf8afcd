-- Lists of values by number.
use Rattle.std.proofs.Common.{◌≡◌, ◌≢◌, ℕ, zero, suc, ◌<◌, ◌≤◌, List, [], ◌∷◌, ◌++◌, length, refl, sym, ap, subst, ◌∙◌, ◌⊎◌, inl, inr, arith}
use Rattle.std.proofs.lemmas.Bool.{cases_lt}
use Rattle.flow_meaning.specs.Frame.{reversed}
use Rattle.flow_compile_laws.specs.Simulation.Memories.{Falling, NotIn}
use Rattle.std.specs.Prelude.{slice_get, slice_set}
use Rattle.std.specs.declared.option.Option.{Option}
use Rattle.std.specs.declared.option.Option.TheVariants.{None, Some}
use Rattle.flow_value.specs.Values.{ValueTree}
use Rattle.flow_meaning.specs.Variables.{flat, filled}

-- what stands at a number
abbrev pub at_number : List (Option ValueTree) → ℕ → Option ValueTree
at_number os n = flat (slice_get os n)

pub at-set_same : (os : List (Option ValueTree)) (n : ℕ) (o : Option ValueTree) → n < length os → at_number (slice_set os n o) n ≡ o
at-set_same [] n o h = absurd (omega arith)
at-set_same (x ∷ os) zero o h = refl
at-set_same (x ∷ os) (suc n) o h = at-set_same os n o (omega arith)

pub at-set_none : (os : List (Option ValueTree)) (n : ℕ) → at_number (slice_set os n None) n ≡ None
at-set_none [] n = refl
at-set_none (x ∷ os) zero = refl
at-set_none (x ∷ os) (suc n) = at-set_none os n

pub at-set_other : (os : List (Option ValueTree)) (n k : ℕ) (o : Option ValueTree) → k ≢ n → at_number (slice_set os n o) k ≡ at_number os k
at-set_other [] n k o h = refl
at-set_other (x ∷ os) zero zero o h = absurd (h refl)
at-set_other (x ∷ os) zero (suc k) o h = refl
at-set_other (x ∷ os) (suc n) zero o h = refl
at-set_other (x ∷ os) (suc n) (suc k) o h = at-set_other os n k o (λ e. h (ap suc e))

pub length-slice_set : (os : List (Option ValueTree)) (n : ℕ) (o : Option ValueTree) → length (slice_set os n o) ≡ length os
length-slice_set [] n o = refl
length-slice_set (x ∷ os) zero o = refl
length-slice_set (x ∷ os) (suc n) o = ap suc (length-slice_set os n o)

pub filled-append : (xs ys : List (Option ValueTree)) → filled (xs ++ ys) ≡ filled xs ++ filled ys
filled-append [] ys = refl
filled-append (None ∷ xs) ys = filled-append xs ys
filled-append (Some v ∷ xs) ys = ap (λ l. v ∷ l) (filled-append xs ys)

-- from the n-th down to the first
abbrev down : ℕ → List (Option ValueTree) → List (Option ValueTree)
down zero os = []
down (suc n) os = at_number os n ∷ down n os

down_more : (n : ℕ) (o : Option ValueTree) (os : List (Option ValueTree)) → down (suc n) (o ∷ os) ≡ down n os ++ o ∷ []
down_more zero o os = refl
down_more (suc n) o os = ap (λ l. at_number os n ∷ l) (down_more n o os)

down_all : (os : List (Option ValueTree)) → down (length os) os ≡ reversed os
down_all [] = refl
down_all (o ∷ os) = down_more (length os) o os ∙ ap (λ l. l ++ o ∷ []) (down_all os)

-- a value, or none, in front
pub filled_first : (o : Option ValueTree) (xs ys : List (Option ValueTree)) → filled xs ≡ filled ys → filled (o ∷ xs) ≡ filled (o ∷ ys)
filled_first None xs ys e = e
filled_first (Some v) xs ys e = ap (λ l. v ∷ l) e

pub filled_none : (o : Option ValueTree) (xs : List (Option ValueTree)) → o ≡ None → filled (o ∷ xs) ≡ filled xs
filled_none None xs e = refl
filled_none (Some v) xs e = cc

-- what stands at these numbers
abbrev pub at_numbers : List (Option ValueTree) → List ℕ → List (Option ValueTree)
at_numbers os [] = []
at_numbers os (n ∷ ns) = at_number os n ∷ at_numbers os ns

falls_out : (n k : ℕ) (ns : List ℕ) → k < suc n → Falling k ns → NotIn n ns
falls_out n k [] h f = tt
falls_out n k (i ∷ ns) h f = (differ n i (omega arith), falls_out n i ns (omega arith) f.1)
  where
    differ : (n i : ℕ) → i < n → n ≢ i
    differ n i h e = omega arith

apart : (k i : ℕ) → i < k → i ≢ k
apart k i lt e = omega arith

-- the values at the numbers below n
abbrev Found : ℕ → List (Option ValueTree) → List ℕ → Type 0
Found n os ns = Falling n ns → ((k : ℕ) → k < n → NotIn k ns → at_number os k ≡ None) → filled (down n os) ≡ filled (at_numbers os ns)

down_step : (n k : ℕ) (os : List (Option ValueTree)) (ns : List ℕ) → Falling (suc n) (k ∷ ns) → ((i : ℕ) → i < suc n → NotIn i (k ∷ ns) → at_number os i ≡ None)
    → ((ks : List ℕ) → Found n os ks) → (k < n) ⊎ (n ≤ k) → filled (down (suc n) os) ≡ filled (at_numbers os (k ∷ ns))
down_step n k os ns f h before (inl lt) =
    filled_none (at_number os n) (down n os) (h n (omega arith) (λ e. apart n k lt (sym e), falls_out n k ns (omega arith) f.1))
    ∙ before (k ∷ ns) (lt, f.1) (λ i below no_in. h i (omega arith) no_in)
down_step n k os ns f h before (inr le) =
    let same : k ≡ n = omega (arith, f.0) in
    subst (λ j. filled (down (suc n) os) ≡ filled (at_number os j ∷ at_numbers os ns)) (sym same)
    (filled_first (at_number os n) (down n os) (at_numbers os ns)
    (before ns (subst (λ j. Falling j ns) same f.1) (λ i below no_in. h i (omega arith) (apart k i (omega arith), no_in))))

-- From the top down, where all that isn't among the numbers is empty, the same values are found as at the numbers.
down_filled : (n : ℕ) (os : List (Option ValueTree)) (ns : List ℕ) → Falling n ns → ((k : ℕ) → k < n → NotIn k ns → at_number os k ≡ None) → filled (down n os) ≡ filled (at_numbers os ns)
down_filled zero os [] f h = refl
down_filled zero os (k ∷ ns) f h = absurd (omega (arith, f.0))
down_filled (suc n) os [] f h =
    filled_none (at_number os n) (down n os) (h n (omega arith) tt) ∙ down_filled n os [] tt (λ k lt no_in. h k (omega arith) no_in)
down_filled (suc n) os (k ∷ ns) f h =
    down_step n k os ns f h (λ ks g out. down_filled n os ks g out) (cases_lt k n)

pub all_filled : (os : List (Option ValueTree)) (ns : List ℕ) → Falling (length os) ns → ((k : ℕ) → NotIn k ns → at_number os k ≡ None) → filled (reversed os) ≡ filled (at_numbers os ns)
all_filled os ns f h = ap filled (sym (down_all os)) ∙ down_filled (length os) os ns f (λ k lt no_in. h k no_in)

-- numbers in lists
pub not_append : (n : ℕ) (xs ys : List ℕ) → NotIn n (xs ++ ys) → NotIn n xs × NotIn n ys
not_append n [] ys h = (tt, h)
not_append n (x ∷ xs) ys h = let g = not_append n xs ys h.1 in ((h.0, g.0), g.1)

pub not_both : (n : ℕ) (xs ys : List ℕ) → NotIn n xs → NotIn n ys → NotIn n (xs ++ ys)
not_both n [] ys h g = g
not_both n (x ∷ xs) ys h g = (h.0, not_both n xs ys h.1 g)

pub falling_less : (n k : ℕ) (ns : List ℕ) → n ≤ k → Falling n ns → Falling k ns
falling_less n k [] le f = tt
falling_less n k (i ∷ ns) le f = (omega (arith, f.0), f.1)

-- of falling numbers the first ones, and the others
pub falling_first : (top : ℕ) (xs ys : List ℕ) → Falling top (xs ++ ys) → Falling top xs
falling_first top [] ys f = tt
falling_first top (x ∷ xs) ys f = (f.0, falling_first x xs ys f.1)

pub falling_rest : (top : ℕ) (xs ys : List ℕ) → Falling top (xs ++ ys) → Falling top ys
falling_rest top [] ys f = f
falling_rest top (x ∷ xs) ys f = falling_less x top ys (omega (arith, f.0)) (falling_rest x xs ys f.1)

-- each number of a list is in no other list
abbrev pub AllOut : List ℕ → List ℕ → Type 0
AllOut [] ys = Unit {0}
AllOut (x ∷ xs) ys = NotIn x ys × AllOut xs ys

pub falling_out : (top : ℕ) (xs ys : List ℕ) → Falling top (xs ++ ys) → AllOut xs ys
falling_out top [] ys f = tt
falling_out top (x ∷ xs) ys f = ((not_append x xs ys (falls_out x x (xs ++ ys) (omega arith) f.1)).1, falling_out x xs ys f.1)

pub below_out : (n : ℕ) (ns : List ℕ) → Falling n ns → NotIn n ns
below_out n ns f = falls_out n n ns (omega arith) f
