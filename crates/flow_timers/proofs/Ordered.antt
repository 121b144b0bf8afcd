-- Events that stand in the order in which they come, and queues that are restored from them.
use Rattle.std.proofs.Common.{◌≡◌, ℕ, List, [], ◌∷◌, ◌++◌, sym, ap, ◌∙◌, refl, arith}
use Rattle.std.specs.Prelude.{Bool, true, false, if◌then◌else◌}
use Rattle.std.specs.List.{AllByRecursion, fold}
use Rattle.std.proofs.lemmas.List.{append-nil, append_assoc}
use Rattle.flow_timers.specs.Pending.{Pending, comes_before, is_at, placed, without_event, StandInOrder, Restores}

module _ {A : Type 0} where
  -- of two events only one comes before the other
  one_way : (x y : Pending A) → comes_before x y ≡ true → comes_before y x ≡ false
  one_way x y e = grind (arith, e)

  -- what doesn't come before an event doesn't come before one ahead of it
  no_sooner : (x y z : Pending A) → comes_before x y ≡ true → comes_before z y ≡ false → comes_before z x ≡ false
  no_sooner x y z e f = grind (arith, e, f)

  all_by : (P Q : Pending A → Type 0) → ((y : Pending A) → P y → Q y) → (ys : List (Pending A)) → AllByRecursion P ys → AllByRecursion Q ys
  all_by P Q h [] all = tt
  all_by P Q h (y ∷ ys) (first, rest) = (h y first, all_by P Q h ys rest)

  all_placed : (P : Pending A → Type 0) (x : Pending A) (ys : List (Pending A)) → P x → AllByRecursion P ys → AllByRecursion P (placed x ys)
  all_placed P x [] p all = (p, tt)
  all_placed P x (y ∷ ys) p (first, rest) = by (all_placed P x ys p rest) (comes_before x y)
    where
      by : AllByRecursion P (placed x ys) → (b : Bool) → AllByRecursion P (if b then x ∷ y ∷ ys else y ∷ placed x ys)
      by later true = (p, (first, rest))
      by later false = (first, later)

  pub placed_stands : (x : Pending A) (ys : List (Pending A)) → StandInOrder ys → StandInOrder (placed x ys)
  placed_stands x [] stands = (tt, tt)
  placed_stands x (y ∷ ys) (first, rest) = by (placed_stands x ys rest) (comes_before x y) refl
    where
      by : StandInOrder (placed x ys) → (b : Bool) → comes_before x y ≡ b → StandInOrder (if b then x ∷ y ∷ ys else y ∷ placed x ys)
      by later true e = ((one_way x y e, all_by (λ z. comes_before z y ≡ false) (λ z. comes_before z x ≡ false) (λ z f. no_sooner x y z e f) ys first), (first, rest))
      by later false e = (all_placed (λ z. comes_before z y ≡ false) x ys e first, later)

  all_without : (P : Pending A → Type 0) (t n : ℕ) (ys : List (Pending A)) → AllByRecursion P ys → AllByRecursion P (without_event t n ys)
  all_without P t n [] all = tt
  all_without P t n (y ∷ ys) (first, rest) = by (all_without P t n ys rest) (is_at t n y)
    where
      by : AllByRecursion P (without_event t n ys) → (b : Bool) → AllByRecursion P (if b then ys else y ∷ without_event t n ys)
      by later true = rest
      by later false = (first, later)

  pub without_stands : (t n : ℕ) (ys : List (Pending A)) → StandInOrder ys → StandInOrder (without_event t n ys)
  without_stands t n [] stands = tt
  without_stands t n (y ∷ ys) (first, rest) = by (without_stands t n ys rest) (is_at t n y)
    where
      by : StandInOrder (without_event t n ys) → (b : Bool) → StandInOrder (if b then ys else y ∷ without_event t n ys)
      by later true = rest
      by later false = (all_without (λ z. comes_before z y ≡ false) t n ys first, later)

  -- an event that comes before none of the others is placed behind them
  placed_last : (x : Pending A) (ys : List (Pending A)) → AllByRecursion (λ y. comes_before x y ≡ false) ys → placed x ys ≡ ys ++ x ∷ []
  placed_last x [] none = refl
  placed_last x (y ∷ ys) (first, rest) = rw first (ap (λ zs. y ∷ zs) (placed_last x ys rest))

  -- events none of which comes before one of those ahead
  abbrev AllBehind : List (Pending A) → List (Pending A) → Type 0
  AllBehind ahead [] = Unit {0}
  AllBehind ahead (x ∷ xs) = AllByRecursion (λ y. comes_before x y ≡ false) ahead × AllBehind ahead xs

  one_more : (P : Pending A → Type 0) (ys : List (Pending A)) (x : Pending A) → AllByRecursion P ys → P x → AllByRecursion P (ys ++ x ∷ [])
  one_more P [] x all p = (p, tt)
  one_more P (y ∷ ys) x (first, rest) p = (first, one_more P ys x rest p)

  still_behind : (ahead xs : List (Pending A)) (x : Pending A) → AllBehind ahead xs → AllByRecursion (λ z. comes_before z x ≡ false) xs → AllBehind (ahead ++ x ∷ []) xs
  still_behind ahead [] x behind none = tt
  still_behind ahead (z ∷ zs) x (here, later) (first, rest) = (one_more (λ y. comes_before z y ≡ false) ahead x here first, still_behind ahead zs x later rest)

  in_turn : (ahead xs : List (Pending A)) → AllBehind ahead xs → StandInOrder xs → fold (λ ys x. placed x ys) ahead xs ≡ ahead ++ xs
  in_turn ahead [] behind stands = sym (append-nil ahead)
  in_turn ahead (x ∷ xs) (here, later) (first, rest) =
      ap (λ ys. fold (λ zs z. placed z zs) ys xs) (placed_last x ahead here)
      ∙ in_turn (ahead ++ x ∷ []) xs (still_behind ahead xs x later first) rest
      ∙ append_assoc ahead (x ∷ []) xs

  none_ahead : (xs : List (Pending A)) → AllBehind [] xs
  none_ahead [] = tt
  none_ahead (x ∷ xs) = (tt, none_ahead xs)

pub restores : (A : Type 0) → Restores A
restores A q stands = in_turn [] q.pending (none_ahead q.pending) stands
