-- Lists and options of which each part is seen in another way.
use Rattle.std.proofs.Common.{◌≡◌, List, [], ◌∷◌, Bool, ◌&&◌, map, refl, sym, ap, ap₂, ◌∙◌}
use Rattle.std.specs.Prelude.{is_none, option_map}
use Rattle.std.specs.List.{list_all}
use Rattle.std.specs.declared.option.Option.{Option}
use Rattle.std.specs.declared.option.Option.TheVariants.{None, Some}
use Rattle.flow_ast.specs.Typing.{or_else, is_there}

-- f is the same of x and y where it doesn't see what `bare` leaves out, and both are equal without that
pub agree : {A B : Type 0} (bare : A → A) (f : A → B) → ((x : A) → f (bare x) ≡ f x) → (x y : A) → bare x ≡ bare y → f x ≡ f y
agree bare f h x y e = sym (h x) ∙ ap f e ∙ h y

pub map_over : {A B : Type 0} (f : A → B) (bare : A → A) → ((x : A) → f (bare x) ≡ f x) → (xs : List A) → map f (map bare xs) ≡ map f xs
map_over f bare h [] = refl
map_over f bare h (x ∷ xs) = ap₂ (λ y ys. y ∷ ys) (h x) (map_over f bare h xs)

pub list_all_over : {A : Type 0} (p q : A → Bool) (bare : A → A) → ((x : A) → p (bare x) ≡ q x) → (xs : List A) → list_all p (map bare xs) ≡ list_all q xs
list_all_over p q bare h [] = refl
list_all_over p q bare h (x ∷ xs) = ap₂ (λ b c. b && c) (h x) (list_all_over p q bare h xs)

pub is_there_over : {A B : Type 0} (f : A → B) (o : Option A) → is_there (option_map f o) ≡ is_there o
is_there_over f None = refl
is_there_over f (Some x) = refl

-- two options are there both or none
pub record Alike {A B : Type 0} (o : Option A) (u : Option B) : Type 0 where
  pub same : is_none o ≡ is_none u

-- and so the first of two
pub or_same : {A B : Type 0} {o p : Option A} {u v : Option B} → Alike o u → Alike p v → Alike (or_else o p) (or_else u v)
or_same {o = o} {p = p} {u = u} {v = v} h k = record { same = first o p u v h.same k.same }
  where
    first : {A B : Type 0} (o p : Option A) (u v : Option B) → is_none o ≡ is_none u → is_none p ≡ is_none v → is_none (or_else o p) ≡ is_none (or_else u v)
    first None p None v h k = k
    first None p (Some y) v h k = absurd cc
    first (Some x) p None v h k = absurd cc
    first (Some x) p (Some y) v h k = refl

-- what is there behind an equal one without places
pub some_alike : {A : Type 0} (bare : A → A) (o : Option A) (y : A) → option_map bare o ≡ Some (bare y) → (x : A) × (o ≡ Some x) × (bare x ≡ bare y)
some_alike bare None y h = absurd cc
some_alike bare (Some x) y h = (x, refl, same_of h)
  where
    same_of : {A : Type 0} {u v : A} → Some u ≡ Some v → u ≡ v
    same_of k = cc
