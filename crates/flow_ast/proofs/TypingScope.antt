-- What is looked up in a scope, through the mirrors of its parts.
use Rattle.std.proofs.Common.{◌≡◌, Bool, true, false, cond, List, [], ◌∷◌, map, find, refl, ap, ◌∙◌}
use Rattle.std.specs.Option.{option_map}
use Rattle.std.specs.declared.option.Option.{Option}
use Rattle.std.specs.declared.option.Option.TheVariants.{Some}

find_cond : {X Y : Type 0} (f : X → Y) (b : Bool) (x : X) (o : Option X) → option_map f (cond b (Some x) o) ≡ cond b (Some (f x)) (option_map f o)
find_cond f true x o = refl
find_cond f false x o = refl

-- a look-up among mirrors is the mirror of a look-up
pub map-find : {X Y : Type 0} (f : X → Y) (p : Y → Bool) (xs : List X) → option_map f (find (λ x. p (f x)) xs) ≡ find p (map f xs)
map-find f p [] = refl
map-find f p (x ∷ xs) = find_cond f (p (f x)) x (find (λ x. p (f x)) xs) ∙ ap (cond (p (f x)) (Some (f x))) (map-find f p xs)

pub map-two : {X Y Z : Type 0} (f : X → Y) (h : Y → Z) (xs : List X) → map h (map f xs) ≡ map (λ x. h (f x)) xs
map-two f h [] = refl
map-two f h (x ∷ xs) = ap (λ l. h (f x) ∷ l) (map-two f h xs)
