-- Lists of types, compared along two lists.
use Rattle.std.proofs.Common.{◌≡◌, ℕ, zero, suc, ◌+◌, ◌<◌, Bool, true, false, ◌&&◌, List, [], ◌∷◌, length, map, drop, get_or, refl, ap, ◌∙◌, arith, add-one}
use Rattle.flow_tree.specs.Tree.{TypeTree}
use Rattle.flow_ast.specs.Typing.{same_type, same_types}

and_false : (b : Bool) → (b && false) ≡ false
and_false true = refl
and_false false = refl

-- lists of unequal lengths are never the same
pub uneven : {X Y : Type 0} (f : X → TypeTree) (h : Y → TypeTree) (xs : List X) (ys : List Y) → (length xs ≡ length ys → ⊥) → same_types (map f xs) (map h ys) ≡ false
uneven f h [] [] n = absurd (n refl)
uneven f h [] (y ∷ ys) n = refl
uneven f h (x ∷ xs) [] n = refl
uneven f h (x ∷ xs) (y ∷ ys) n =
    ap (λ b. same_type (f x) (h y) && b) (uneven f h xs ys (λ e. n (ap suc e))) ∙ and_false _

-- the first of what is left is compared, and then the rest
fit_at : {X Y : Type 0} (f : X → TypeTree) (h : Y → TypeTree) (xs : List X) (ys : List Y) (i : ℕ) (d : X) (e : Y) → i < length xs → i < length ys
    → same_types (map f (drop i xs)) (map h (drop i ys)) ≡ (same_type (f (get_or xs i d)) (h (get_or ys i e)) && same_types (map f (drop (suc i) xs)) (map h (drop (suc i) ys)))
fit_at f h [] ys i d e lx ly = absurd (omega arith)
fit_at f h (x ∷ xs) [] i d e lx ly = absurd (omega arith)
fit_at f h (x ∷ xs) (y ∷ ys) zero d e lx ly = refl
fit_at f h (x ∷ xs) (y ∷ ys) (suc i) d e lx ly =
    let mx : i < length xs = omega arith in
    let my : i < length ys = omega arith in
    fit_at f h xs ys i d e mx my

pub fit_more : {X Y : Type 0} (f : X → TypeTree) (h : Y → TypeTree) (xs : List X) (ys : List Y) (i : ℕ) (d : X) (e : Y) → i < length xs → i < length ys
    → same_type (f (get_or xs i d)) (h (get_or ys i e)) ≡ true
    → same_types (map f (drop i xs)) (map h (drop i ys)) ≡ same_types (map f (drop (i + 1) xs)) (map h (drop (i + 1) ys))
fit_more f h xs ys i d e lx ly s =
    rw add-one (fit_at f h xs ys i d e lx ly ∙ ap (λ b. b && same_types (map f (drop (suc i) xs)) (map h (drop (suc i) ys))) s)

pub fit_not : {X Y : Type 0} (f : X → TypeTree) (h : Y → TypeTree) (xs : List X) (ys : List Y) (i : ℕ) (d : X) (e : Y) → i < length xs → i < length ys
    → same_type (f (get_or xs i d)) (h (get_or ys i e)) ≡ false
    → same_types (map f (drop i xs)) (map h (drop i ys)) ≡ false
fit_not f h xs ys i d e lx ly s =
    fit_at f h xs ys i d e lx ly ∙ ap (λ b. b && same_types (map f (drop (suc i) xs)) (map h (drop (suc i) ys))) s
