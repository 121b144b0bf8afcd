-- The group of a number.
use Rattle.std.proofs.Common.{◌≡◌, ℕ, zero, suc, ◌-◌, ◌<◌, ◌≤◌, List, [], ◌∷◌, map, length, get_or, slice_get, refl, ap, ◌∙◌, arith}
use Rattle.std.specs.Option.{option_map}
use Rattle.std.specs.declared.option.Option.TheVariants.{None, Some}
use Rattle.std.proofs.lemmas.Option.{slice_get-map, slice_get_read}
use Rattle.flow_class.specs.declared.class.Group.{Group}
use Rattle.flow_class.specs.View.{group_of}
use Rattle.flow_class.specs.Code.{group_at}

pub found_at : {A B : Type 0} (f : A → B) (xs : List A) (i : ℕ) (x : A) → i < length xs → x ≡ get_or xs i x → slice_get (map f xs) i ≡ Some (f x)
found_at f xs i x lt e = slice_get-map f xs i ∙ ap (option_map f) (slice_get_read xs (length xs) i x refl lt e)

pub none_at : {A B : Type 0} (f : A → B) (xs : List A) (i : ℕ) → length xs ≤ i → slice_get (map f xs) i ≡ None
none_at f [] i le = refl
none_at f (x ∷ xs) zero le = absurd (omega arith)
none_at f (x ∷ xs) (suc i) le = let m : length xs ≤ i = omega arith in none_at f xs i m

pub group_there : (gs : List Group) (n : ℕ) (g : Group) → 0 < n → n - 1 < length gs → g ≡ get_or gs (n - 1) g → group_at (map group_of gs) n ≡ Some (group_of g)
group_there gs zero g lt within e = absurd (omega arith)
group_there gs (suc n) g lt within e =
    let same : suc n - 1 ≡ n = omega arith in
    found_at group_of gs n g (omega arith) (e ∙ ap (λ i. get_or gs i g) same)

pub group_none : (gs : List Group) (n : ℕ) → 0 < n → length gs ≤ n - 1 → group_at (map group_of gs) n ≡ None
group_none gs zero lt le = absurd (omega arith)
group_none gs (suc n) lt le = none_at group_of gs n (omega arith)
