-- The text of a world, part after part.
use Rattle.std.proofs.Common.{◌≡◌, List, ◌++◌, ap, sym, ◌∙◌, append_assoc}
use Rattle.std.specs.List.{flat_map}
use Rattle.std.proofs.lemmas.Grind.{flat_map-append}

-- three parts, added one after another
pub three_parts : {X Y : Type 0} (f : X → List Y) (xs ys zs : List X) (a b c : List Y) → a ≡ flat_map f xs → b ≡ a ++ flat_map f ys → c ≡ b ++ flat_map f zs
    → c ≡ flat_map f (xs ++ (ys ++ zs))
three_parts f xs ys zs a b c ea eb ec =
    ec ∙ ap (λ l. l ++ flat_map f zs) (eb ∙ ap (λ l. l ++ flat_map f ys) ea)
    ∙ append_assoc (flat_map f xs) (flat_map f ys) (flat_map f zs)
    ∙ ap (λ l. flat_map f xs ++ l) (sym (flat_map-append f ys zs))
    ∙ sym (flat_map-append f xs (ys ++ zs))
