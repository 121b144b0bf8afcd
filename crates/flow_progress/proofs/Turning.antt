-- What every walk fills, along an edge that fills, keeps or empties a place.
use Rattle.std.proofs.Common.{◌≡◌, Bool, true, false, not, ◌&&◌, ◌||◌, refl, ◌∙◌, subst}

-- Along an edge a place is filled, kept or emptied; F says that it was filled, and H that it is.
pub data Turns (g : Bool → Bool) (F H : Type 0) : Type 0 where
  fills : ((b : Bool) → g b ≡ true) → H → Turns g F H
  keeps : ((b : Bool) → g b ≡ b) → (F → H) → Turns g F H
  empties : ((b : Bool) → g b ≡ false) → Turns g F H

-- So where some walk comes to the edge, and all that come fill the place, it is filled behind it.
pub must_turn : (C D : Bool → Type 0) (g : Bool → Bool) (F H : Type 0) → ((b : Bool) → C b → D (g b)) → Turns g F H → (b : Bool) × C b → ((C false → ⊥) → F) → (D false → ⊥) → H
must_turn C D g F H edge (fills all h) reached full never = h
must_turn C D g F H edge (keeps all h) reached full never = h (full (λ k. never (subst D (all false) (edge false k))))
must_turn C D g F H edge (empties all) reached full never = absurd (never (subst D (all reached.0) (edge reached.0 reached.1)))

-- an edge that fills where x holds, and else empties where y does
pub turns_of : (x y : Bool) (F H : Type 0) → (x ≡ true → H) → (x ≡ false → y ≡ false → F → H) → Turns (λ b. x || (b && not y)) F H
turns_of true y F H fill keep = fills (λ b. refl) (fill refl)
turns_of false true F H fill keep = empties never
  where
    never : (b : Bool) → false || (b && not true) ≡ false
    never true = refl
    never false = refl
turns_of false false F H fill keep = keeps same (keep refl refl)
  where
    same : (b : Bool) → false || (b && not false) ≡ b
    same true = refl
    same false = refl

-- one edge and then another
pub turns_on : (g h : Bool → Bool) (F G H : Type 0) → Turns g F G → Turns h G H → Turns (λ b. h (g b)) F H
turns_on g h F G H a (fills all k) = fills (λ b. all (g b)) k
turns_on g h F G H a (empties all) = empties (λ b. all (g b))
turns_on g h F G H (fills one k) (keeps all n) = fills (λ b. all (g b) ∙ one b) (n k)
turns_on g h F G H (keeps one k) (keeps all n) = keeps (λ b. all (g b) ∙ one b) (λ f. n (k f))
turns_on g h F G H (empties one) (keeps all n) = empties (λ b. all (g b) ∙ one b)
