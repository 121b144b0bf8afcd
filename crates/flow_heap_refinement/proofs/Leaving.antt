-- Waiters of an actor leave a cell one by one, or all at once.
use Rattle.std.proofs.Common.{◌≡◌, ℕ, zero, suc, ◌+◌, ◌<◌, nat_eq, Bool, true, false, List, [], ◌∷◌, ◌++◌, map, if◌then◌else◌, refl, sym, ap, ◌∙◌, subst, arith}
use Rattle.std.specs.Prelude.{◌&&◌, ◌||◌}
use Rattle.std.proofs.lemmas.Bool.Decides.{nat_tests}
use Rattle.std.specs.declared.option.Option.{Option}
use Rattle.std.specs.declared.option.Option.TheVariants.{None, Some}
use Rattle.flow_cell.specs.Waiting.{same_waiter, has_waiter, without_newest}
use Rattle.flow_meaning.specs.Cells.{Ref, Waiter, as_list, without}
use Rattle.flow_meaning.specs.Requests.{Spot}
use Rattle.flow_heap_refinement.specs.Representing.{waiter_in}
use Rattle.flow_heap_refinement.specs.Counted.{branches_of, branches_at}
use Rattle.flow_heap_refinement.specs.Leaving.{first_part}

-- whether a branch of an actor waits, and the waiters without the newest of it
abbrev pub is_branch : (actor branch : ℕ) → Waiter → Bool
is_branch i b w = nat_eq w.actor i && nat_eq w.branch b

abbrev pub has_branch : List Waiter → (actor branch : ℕ) → Bool
has_branch [] i b = false
has_branch (w ∷ ws) i b = is_branch i b w || has_branch ws i b

abbrev pub without_branch : List Waiter → (actor branch : ℕ) → List Waiter
without_branch [] i b = []
without_branch (w ∷ ws) i b = if has_branch ws i b then w ∷ without_branch ws i b else if is_branch i b w then ws else w ∷ ws

abbrev pub less_one : (actor branch : ℕ) → Option Waiter → Option Waiter
less_one i b None = None
less_one i b (Some w) = if is_branch i b w then None else Some w

abbrev pub less : (actor : ℕ) → List ℕ → List Waiter → List Waiter
less i [] ws = ws
less i (b ∷ bs) ws = without_branch (less i bs ws) i b

-- the same of numbers
abbrev has : List ℕ → ℕ → Bool
has [] b = false
has (x ∷ xs) b = nat_eq x b || has xs b

abbrev without_last : List ℕ → ℕ → List ℕ
without_last [] b = []
without_last (x ∷ xs) b = if has xs b then x ∷ without_last xs b else if nat_eq x b then xs else x ∷ xs

has_same : (i b : ℕ) (ws : List Waiter) → has_branch ws i b ≡ has (branches_of i ws) b
has_same i b [] = refl
has_same i b (w ∷ ws) = by_test (nat_eq w.actor i) (has_same i b ws)
  where
    by_test : (t : Bool) → has_branch ws i b ≡ has (branches_of i ws) b → ((t && nat_eq w.branch b) || has_branch ws i b) ≡ has (if t then w.branch ∷ branches_of i ws else branches_of i ws) b
    by_test true e = ap (λ x. nat_eq w.branch b || x) e
    by_test false e = e

branches_less : (i b : ℕ) (ws : List Waiter) → branches_of i (without_branch ws i b) ≡ without_last (branches_of i ws) b
branches_less i b [] = refl
branches_less i b (w ∷ ws) = by_actor (nat_eq w.actor i) refl (has_branch ws i b) (has_same i b ws) (branches_less i b ws)
  where
    by_actor : (t : Bool) → nat_eq w.actor i ≡ t → (q : Bool) → q ≡ has (branches_of i ws) b → branches_of i (without_branch ws i b) ≡ without_last (branches_of i ws) b
        → branches_of i (if q then w ∷ without_branch ws i b else if t && nat_eq w.branch b then ws else w ∷ ws) ≡ without_last (if t then w.branch ∷ branches_of i ws else branches_of i ws) b
    by_actor true g true e rest = rw (g, sym e, rest) refl
    by_actor true g false e rest = by_branch (nat_eq w.branch b) refl
      where
        by_branch : (u : Bool) → nat_eq w.branch b ≡ u
            → branches_of i (if u then ws else w ∷ ws) ≡ (if has (branches_of i ws) b then w.branch ∷ without_last (branches_of i ws) b else if nat_eq w.branch b then branches_of i ws else w.branch
            ∷ branches_of i ws)
        by_branch true f = rw (sym e, f) refl
        by_branch false f = rw (sym e, f, g) refl
    by_actor false g true e rest = rw (g, rest) refl
    by_actor false g false e rest = rw g (sym (unhad (branches_of i ws) (sym e)))
      where
        unhad : (xs : List ℕ) → has xs b ≡ false → without_last xs b ≡ xs
        unhad [] n = refl
        unhad (x ∷ xs) n = by_first (nat_eq x b) (has xs b) n
          where
            by_first : (t q : Bool) → (t || q) ≡ false → (if q then x ∷ without_last xs b else if t then xs else x ∷ xs) ≡ x ∷ xs
            by_first true q n = absurd (cc)
            by_first false true n = absurd (cc)
            by_first false false n = refl

-- numbers below a bound
abbrev AllBelow : ℕ → List ℕ → Type 0
AllBelow b [] = Unit {0}
AllBelow b (x ∷ xs) = (x < b) × AllBelow b xs

below_more : (b : ℕ) (xs : List ℕ) → AllBelow b xs → AllBelow (suc b) xs
below_more b [] h = tt
below_more b (x ∷ xs) h = (omega (arith, h.0), below_more b xs h.1)

below_added : (b : ℕ) (xs : List ℕ) → AllBelow b xs → AllBelow (suc b) (xs ++ b ∷ [])
below_added b [] h = (omega arith, tt)
below_added b (x ∷ xs) h = (omega (arith, h.0), below_added b xs h.1)

not_below : (b : ℕ) (xs : List ℕ) → AllBelow b xs → has xs b ≡ false
not_below b [] h = refl
not_below b (x ∷ xs) h = let e : nat_eq x b ≡ false = grind (arith, nat_tests, h.0) in rw e (not_below b xs h.1)

last_unfound : (b : ℕ) (xs : List ℕ) → AllBelow b xs → without_last xs b ≡ xs
last_unfound b [] h = refl
last_unfound b (x ∷ xs) h = let e : nat_eq x b ≡ false = grind (arith, nat_tests, h.0) in rw (not_below b xs h.1, e) refl

has_added : (b : ℕ) (xs : List ℕ) → has (xs ++ b ∷ []) b ≡ true
has_added b [] = let e : nat_eq b b ≡ true = grind (arith, nat_tests) in rw e refl
has_added b (x ∷ xs) = rw (has_added b xs) (either_true (nat_eq x b))
  where
    either_true : (t : Bool) → (t || true) ≡ true
    either_true true = refl
    either_true false = refl

last_gone : (b : ℕ) (xs : List ℕ) → without_last (xs ++ b ∷ []) b ≡ xs
last_gone b [] = let e : nat_eq b b ≡ true = grind (arith, nat_tests) in rw e refl
last_gone b (x ∷ xs) = rw (has_added b xs) (ap (λ ys. x ∷ ys) (last_gone b xs))

pub joined : (xs ys : List ℕ) (b : ℕ) → xs ++ b ∷ ys ≡ (xs ++ b ∷ []) ++ ys
joined [] ys b = refl
joined (x ∷ xs) ys b = ap (λ zs. x ∷ zs) (joined xs ys b)

pub no_more : (xs : List ℕ) → xs ++ [] ≡ xs
no_more [] = refl
no_more (x ∷ xs) = ap (λ zs. x ∷ zs) (no_more xs)

-- of the operands at a cell some first part waits there: when each has left, from the last to the first, none waits
none_left : (i k b n : ℕ) (rs : List Ref) (xs : List ℕ) (ws : List Waiter) → AllBelow b xs → branches_of i ws ≡ xs ++ branches_at k b (first_part n rs)
    → branches_of i (less i (branches_at k b rs) ws) ≡ xs
none_left i k b zero [] xs ws l e = e ∙ no_more xs
none_left i k b (suc n) [] xs ws l e = e ∙ no_more xs
none_left i k b zero (r ∷ rs) xs ws l e = by_test (nat_eq r.1 k) (none_left i k (suc b) zero rs xs ws (below_more b xs l) e)
  where
    by_test : (t : Bool) → branches_of i (less i (branches_at k (suc b) rs) ws) ≡ xs → branches_of i (less i (if t then b ∷ branches_at k (suc b) rs else branches_at k (suc b) rs) ws) ≡ xs
    by_test true rest = branches_less i b (less i (branches_at k (suc b) rs) ws) ∙ ap (λ ys. without_last ys b) rest ∙ last_unfound b xs l
    by_test false rest = rest
none_left i k b (suc n) (r ∷ rs) xs ws l e =
    by_test (nat_eq r.1 k) e
    (λ f. none_left i k (suc b) n rs (xs ++ b ∷ []) ws (below_added b xs l) (f ∙ joined xs (branches_at k (suc b) (first_part n rs)) b))
    (λ f. none_left i k (suc b) n rs xs ws (below_more b xs l) f)
  where
    by_test : (t : Bool) → branches_of i ws ≡ xs ++ (if t then b ∷ branches_at k (suc b) (first_part n rs) else branches_at k (suc b) (first_part n rs))
        → (branches_of i ws ≡ xs ++ b ∷ branches_at k (suc b) (first_part n rs) → branches_of i (less i (branches_at k (suc b) rs) ws) ≡ xs ++ b ∷ [])
        → (branches_of i ws ≡ xs ++ branches_at k (suc b) (first_part n rs) → branches_of i (less i (branches_at k (suc b) rs) ws) ≡ xs)
        → branches_of i (less i (if t then b ∷ branches_at k (suc b) rs else branches_at k (suc b) rs) ws) ≡ xs
    by_test true f more rest = branches_less i b (less i (branches_at k (suc b) rs) ws) ∙ ap (λ ys. without_last ys b) (more f) ∙ last_gone b xs
    by_test false f more rest = rest f

-- the waiters of others stay
others_stay : (i b : ℕ) (ws : List Waiter) → without (without_branch ws i b) i ≡ without ws i
others_stay i b [] = refl
others_stay i b (w ∷ ws) = by_has (has_branch ws i b) (others_stay i b ws)
  where
    by_has : (q : Bool) → without (without_branch ws i b) i ≡ without ws i → without (if q then w ∷ without_branch ws i b else if is_branch i b w then ws else w ∷ ws) i ≡ without (w ∷ ws) i
    by_has true rest = rw rest refl
    by_has false rest = by_actor (nat_eq w.actor i) refl (nat_eq w.branch b)
      where
        by_actor : (t : Bool) → nat_eq w.actor i ≡ t → (u : Bool) → without (if t && u then ws else w ∷ ws) i ≡ (if t then without ws i else w ∷ without ws i)
        by_actor true g true = refl
        by_actor true g false = rw g refl
        by_actor false g u = rw g refl

less_others : (i : ℕ) (bs : List ℕ) (ws : List Waiter) → without (less i bs ws) i ≡ without ws i
less_others i [] ws = refl
less_others i (b ∷ bs) ws = others_stay i b (less i bs ws) ∙ less_others i bs ws

none_of : (i : ℕ) (ws : List Waiter) → branches_of i ws ≡ [] → without ws i ≡ ws
none_of i [] h = refl
none_of i (w ∷ ws) h = by_test (nat_eq w.actor i) h (none_of i ws)
  where
    some_is_none : (bs : List ℕ) → w.branch ∷ bs ≡ [] → ⊥
    some_is_none bs e = cc

    by_test : (t : Bool) → (if t then w.branch ∷ branches_of i ws else branches_of i ws) ≡ [] → (branches_of i ws ≡ [] → without ws i ≡ ws) → (if t then without ws i else w ∷ without ws i) ≡ w ∷ ws
    by_test true e rest = absurd (some_is_none (branches_of i ws) e)
    by_test false e rest = ap (λ vs. w ∷ vs) (rest e)

-- so all at once is one by one
pub all_left : (i k n : ℕ) (rs : List Ref) (ws : List Waiter) → branches_of i ws ≡ branches_at k 0 (first_part n rs) → less i (branches_at k 0 rs) ws ≡ without ws i
all_left i k n rs ws e =
    sym (none_of i (less i (branches_at k 0 rs) ws) (none_left i k 0 n rs [] ws tt e)) ∙ less_others i (branches_at k 0 rs) ws

-- in memory the same waiter leaves
module _ (spots : ℕ → Spot) (i b : ℕ) where
  abbrev gone : Waiter
  gone = record { actor = i; branch = b }

  same_as : (w : Waiter) → same_waiter (waiter_in spots w) (waiter_in spots gone) ≡ is_branch i b w
  same_as w = by_actor (nat_eq w.actor i) refl
    where
      by_actor : (t : Bool) → nat_eq w.actor i ≡ t → (nat_eq w.actor i && nat_eq ((spots w.actor).first + w.branch) ((spots i).first + b)) ≡ (nat_eq w.actor i && nat_eq w.branch b)
      by_actor true g =
          let same : w.actor ≡ i = grind (arith, nat_tests) in
          let e : nat_eq ((spots w.actor).first + w.branch) ((spots i).first + b) ≡ nat_eq w.branch b =
          ap (λ a. nat_eq ((spots a).first + w.branch) ((spots i).first + b)) same ∙ shifted (spots i).first w.branch b in
          ap (λ x. nat_eq w.actor i && x) e
        where
          shifted : (n x y : ℕ) → nat_eq (n + x) (n + y) ≡ nat_eq x y
          shifted n x y = grind (arith, nat_tests)
      by_actor false g = rw g refl

  pub has_as : (ws : List Waiter) → has_waiter (map (waiter_in spots) ws) (waiter_in spots gone) ≡ has_branch ws i b
  has_as [] = refl
  has_as (w ∷ ws) = ap (λ x. x || has_waiter (map (waiter_in spots) ws) (waiter_in spots gone)) (same_as w) ∙ ap (λ x. is_branch i b w || x) (has_as ws)

  pub without_as : (ws : List Waiter) → without_newest (map (waiter_in spots) ws) (waiter_in spots gone) ≡ map (waiter_in spots) (without_branch ws i b)
  without_as [] = refl
  without_as (w ∷ ws) =
      ap (λ x. if x then waiter_in spots w ∷ without_newest (map (waiter_in spots) ws) (waiter_in spots gone) else if same_waiter (waiter_in spots w) (waiter_in spots gone) then map
      (waiter_in spots) ws else waiter_in spots w ∷ map (waiter_in spots) ws) (has_as ws)
      ∙ ap (λ x. if has_branch ws i b then waiter_in spots w ∷ without_newest (map (waiter_in spots) ws) (waiter_in spots gone) else if x then map (waiter_in spots) ws else waiter_in spots w
      ∷ map (waiter_in spots) ws) (same_as w)
      ∙ by_tests (has_branch ws i b) (is_branch i b w) (without_as ws)
    where
      by_tests : (q t : Bool) → without_newest (map (waiter_in spots) ws) (waiter_in spots gone) ≡ map (waiter_in spots) (without_branch ws i b)
          → (if q then waiter_in spots w ∷ without_newest (map (waiter_in spots) ws) (waiter_in spots gone) else if t then map (waiter_in spots) ws else waiter_in spots w ∷ map (waiter_in spots) ws)
          ≡ map (waiter_in spots) (if q then w ∷ without_branch ws i b else if t then ws else w ∷ ws)
      by_tests true t e = ap (λ vs. waiter_in spots w ∷ vs) e
      by_tests false true e = refl
      by_tests false false e = refl

  pub unhad : (ws : List Waiter) → has_branch ws i b ≡ false → without_branch ws i b ≡ ws
  unhad [] n = refl
  unhad (w ∷ ws) n = by_first (is_branch i b w) (has_branch ws i b) n
    where
      by_first : (t q : Bool) → (t || q) ≡ false → (if q then w ∷ without_branch ws i b else if t then ws else w ∷ ws) ≡ w ∷ ws
      by_first true q n = absurd (cc)
      by_first false true n = absurd (cc)
      by_first false false n = refl

-- a stream has one waiter at most
pub less_as_list : (i b : ℕ) (v : Option Waiter) (ws : List Waiter) → as_list v ≡ ws → as_list (less_one i b v) ≡ without_branch ws i b
less_as_list i b None ws e = subst (λ us. [] ≡ without_branch us i b) e refl
less_as_list i b (Some w) ws e = subst (λ us. as_list (less_one i b (Some w)) ≡ without_branch us i b) e (by_test (is_branch i b w))
  where
    by_test : (t : Bool) → as_list (if t then None else Some w) ≡ (if t then [] else w ∷ [])
    by_test true = refl
    by_test false = refl
