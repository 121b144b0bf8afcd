-- Pending events and open requests.
use Rattle.std.proofs.Common.{◌≡◌, ℕ, suc, ◌+◌, ◌<◌, ◌≤◌, nat_eq, Bool, true, false, List, [], ◌∷◌, ◌++◌, if◌then◌else◌, refl, sym, ap, subst, arith}
use Rattle.std.specs.Prelude.{◌&&◌, not, filter}
use Rattle.std.specs.List.{AllByRecursion}
use Rattle.std.specs.declared.option.Option.TheVariants.{Some}
use Rattle.flow_tree.specs.Tree.{TypeTree}
use Rattle.flow_timers.specs.Pending.{Pending, comes_before, placed}
use Rattle.flow_meaning.specs.Cells.{PromiseSide}
use Rattle.flow_meaning.specs.References.{one, in_requests}
use Rattle.flow_meaning.specs.Deliver.{closed_request}
use Rattle.flow_meaning.specs.Outside.{What, Boots, Rings, Arrives, Answers}
use Rattle.flow_meaning.specs.World.{is_of}
use Rattle.flow_meaning.proofs.Posture.{same_number}
use Rattle.flow_heap_refinement.specs.Rested.{has}
use Rattle.flow_progress.specs.Fitting.{CellTypes}
use Rattle.flow_progress.specs.Keeping.{StillTyped}
use Rattle.flow_invariants.specs.Fitting.Due.{sets, due, Brings, AllBring}

-- an event in its place
pub all_placed : {A : Type 0} (P : Pending A → Type 0) (x : Pending A) (xs : List (Pending A)) → P x → AllByRecursion P xs → AllByRecursion P (placed x xs)
all_placed P x [] h k = (h, tt)
all_placed P x (y ∷ ys) h k = by_test (comes_before x y) (all_placed P x ys h k.1)
  where
    by_test : (b : Bool) → AllByRecursion P (placed x ys) → AllByRecursion P (if b then x ∷ y ∷ ys else y ∷ placed x ys)
    by_test true r = (h, k)
    by_test false r = (k.0, r)

abbrev pub weight : Bool → ℕ
weight b = if b then 1 else 0

pub due_placed : (p k : ℕ) (x : Pending What) (xs : List (Pending What)) → due p k (placed x xs) ≡ weight (sets p k x.what) + due p k xs
due_placed p k x [] = refl
due_placed p k x (y ∷ ys) = by_test (comes_before x y) (due_placed p k x ys)
  where
    by_test : (b : Bool) → due p k (placed x ys) ≡ weight (sets p k x.what) + due p k ys
        → due p k (if b then x ∷ y ∷ ys else y ∷ placed x ys) ≡ weight (sets p k x.what) + (weight (sets p k y.what) + due p k ys)
    by_test true r = refl
    by_test false r =
        let a = weight (sets p k x.what) in
        let b = weight (sets p k y.what) in
        let m : due p k (placed x ys) ≡ a + due p k ys = r in omega (arith, m)

-- what a process doesn't hear of any more
gone_sets : (p k : ℕ) (x : What) → is_of p x ≡ false → sets p k x ≡ false
gone_sets p k (Boots q) h = refl
gone_sets p k (Rings q n) h = ap (λ b. b && nat_eq k n) h
gone_sets p k (Arrives m from to port text) h = refl
gone_sets p k (Answers q n call) h = ap (λ b. b && nat_eq k n) h

pub due_gone : (p k : ℕ) (xs : List (Pending What)) → due p k (filter (λ (e : Pending What). not (is_of p e.what)) xs) ≡ 0
due_gone p k [] = refl
due_gone p k (x ∷ xs) = by_test (is_of p x.what) refl (due_gone p k xs)
  where
    rest : List (Pending What)
    rest = filter (λ (e : Pending What). not (is_of p e.what)) xs

    by_test : (b : Bool) → is_of p x.what ≡ b → due p k rest ≡ 0 → due p k (if not b then x ∷ rest else rest) ≡ 0
    by_test true q r = r
    by_test false q r =
        let m = ap weight (gone_sets p k x.what q) in
        let a = weight (sets p k x.what) in omega (arith, m, r)

pub all_filtered : {A : Type 0} (P : A → Type 0) (f : A → Bool) (xs : List A) → AllByRecursion P xs → AllByRecursion P (filter f xs)
all_filtered P f [] h = tt
all_filtered P f (x ∷ xs) h = by_test (f x) (all_filtered P f xs h.1)
  where
    by_test : (b : Bool) → AllByRecursion P (filter f xs) → AllByRecursion P (if b then x ∷ filter f xs else filter f xs)
    by_test true r = (h.0, r)
    by_test false r = r

pub due_fewer : (p k : ℕ) (f : Pending What → Bool) (xs : List (Pending What)) → due p k (filter f xs) ≤ due p k xs
due_fewer p k f [] = omega arith
due_fewer p k f (x ∷ xs) = by_test (f x) (due_fewer p k f xs)
  where
    by_test : (b : Bool) → due p k (filter f xs) ≤ due p k xs → due p k (if b then x ∷ filter f xs else filter f xs) ≤ weight (sets p k x.what) + due p k xs
    by_test true r = let a = weight (sets p k x.what) in omega (arith, r)
    by_test false r = let a = weight (sets p k x.what) in omega (arith, r)

-- an event that sets a cell is due there
pub due_here : (p k : ℕ) (x : Pending What) (xs : List (Pending What)) → sets p k x.what ≡ true → due p k (x ∷ xs) ≡ suc (due p k xs)
due_here p k x xs h =
    let m = ap weight h in
    let a = weight (sets p k x.what) in omega (arith, m)

rings_set : (p k : ℕ) → sets p k (Rings p k) ≡ true
rings_set p k = both (nat_eq p p) (nat_eq k k) (same_number p) (same_number k)
  where
    both : (a b : Bool) → a ≡ true → b ≡ true → a && b ≡ true
    both true b h e = e
    both false b h e = absurd cc

pub own_sets : (p k : ℕ) → nat_eq p p && nat_eq k k ≡ true
own_sets p k = rings_set p k

pub other_sets : (p q k n : ℕ) → (p ≡ q → ⊥) → nat_eq p q && nat_eq k n ≡ false
other_sets p q k n h = by_test (nat_eq p q) refl
  where
    by_test : (b : Bool) → nat_eq p q ≡ b → b && nat_eq k n ≡ false
    by_test true e = absurd (h (grind (arith, e)))
    by_test false e = refl

-- requests
pub requests_more : (k : ℕ) (ks js : List ℕ) → in_requests PromiseSide k (ks ++ js) ≡ in_requests PromiseSide k ks + in_requests PromiseSide k js
requests_more k [] js = omega arith
requests_more k (x ∷ ks) js =
    let m = requests_more k ks js in
    let a = one PromiseSide k PromiseSide x in omega (arith, m)

pub has_request : (k : ℕ) (ks : List ℕ) → 0 < in_requests PromiseSide k ks → has k ks ≡ true
has_request k [] h = absurd (omega (arith, h))
has_request k (x ∷ ks) h = by_test (nat_eq k x) refl h (has_request k ks)
  where
    by_test : (b : Bool) → nat_eq k x ≡ b → 0 < one PromiseSide k PromiseSide x + in_requests PromiseSide k ks → (0 < in_requests PromiseSide k ks → has k ks ≡ true)
        → (if b then true else has k ks) ≡ true
    by_test true q l rest = refl
    by_test false q l rest =
        let m : one PromiseSide k PromiseSide x ≡ 0 = ap weight q in
        rest (omega (arith, l, m))

pub one_closed : (k n : ℕ) (ks : List ℕ) → has n ks ≡ true → in_requests PromiseSide k ks ≡ weight (nat_eq k n) + in_requests PromiseSide k (closed_request n ks)
one_closed k n [] h = absurd cc
one_closed k n (x ∷ ks) h = by_test (nat_eq n x) refl h (one_closed k n ks)
  where
    by_test : (b : Bool) → nat_eq n x ≡ b → (if b then true else has n ks) ≡ true
        → (has n ks ≡ true → in_requests PromiseSide k ks ≡ weight (nat_eq k n) + in_requests PromiseSide k (closed_request n ks))
        → one PromiseSide k PromiseSide x + in_requests PromiseSide k ks ≡ weight (nat_eq k n) + in_requests PromiseSide k (if b then ks else x ∷ closed_request n ks)
    by_test true q f rest = let same : n ≡ x = grind (arith, q) in ap (λ m. weight (nat_eq k m) + in_requests PromiseSide k ks) (sym same)
    by_test false q f rest =
        let m = rest f in
        let a = weight (nat_eq k n) in
        let b = one PromiseSide k PromiseSide x in omega (arith, m)

-- types that open requests keep
pub still_at : (a b : CellTypes) (ks : List ℕ) (k : ℕ) (t : TypeTree) → StillTyped a b ks → 0 < in_requests PromiseSide k ks → a k ≡ Some t → b k ≡ Some t
still_at a b [] k t h l e = absurd (omega (arith, l))
still_at a b (x ∷ ks) k t h l e = by_test (nat_eq k x) refl (λ m. still_at a b ks k t h.1 m e)
  where
    by_test : (z : Bool) → nat_eq k x ≡ z → (0 < in_requests PromiseSide k ks → b k ≡ Some t) → b k ≡ Some t
    by_test true q rest = let same : k ≡ x = grind (arith, q) in subst (λ n. b n ≡ Some t) (sym same) (h.0 t (subst (λ n. a n ≡ Some t) same e))
    by_test false q rest =
        let m : one PromiseSide k PromiseSide x ≡ 0 = ap weight q in
        rest (omega (arith, l, m))

brings_still : (p : ℕ) (a b : CellTypes) (x : What) → ((k : ℕ) (t : TypeTree) → sets p k x ≡ true → a k ≡ Some t → b k ≡ Some t) → Brings p a x → Brings p b x
brings_still p a b (Boots q) h e = tt
brings_still p a b (Rings q n) h e = λ s. h n _ (subst (λ m. nat_eq p m && nat_eq n n ≡ true) s (own_sets p n)) (e s)
brings_still p a b (Arrives m from to port text) h e = tt
brings_still p a b (Answers q n call) h e = λ s. h n _ (subst (λ m. nat_eq p m && nat_eq n n ≡ true) s (own_sets p n)) (e s)

pub all_still_bring : (p : ℕ) (a b : CellTypes) (xs : List (Pending What)) → ((k : ℕ) (t : TypeTree) → 0 < due p k xs → a k ≡ Some t → b k ≡ Some t) → AllBring p a xs → AllBring p b xs
all_still_bring p a b [] h e = tt
all_still_bring p a b (x ∷ xs) h e = (
  brings_still p a b x.what (λ k t s. h k t (let m = due_here p k x xs s in omega (arith, m))) e.0,
  all_still_bring p a b xs (λ k t l. h k t (let c = weight (sets p k x.what) in omega (arith, l))) e.1,
)
