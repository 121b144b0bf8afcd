-- Marked lists that are put together of the same parts.
use Rattle.std.proofs.Common.{◌≡◌, List, [], ◌∷◌, ◌++◌, sym, ap, ◌∙◌, append_assoc}
use Rattle.flow_tree.specs.GrammarToken.{Marked}

-- a first token, and the same behind it
pub then_same : {w k m : List Marked} {x : Marked} → w ≡ x ∷ k → k ≡ m → w ≡ x ∷ m
then_same {x = x} e f = e ∙ ap (λ z. x ∷ z) f

-- the same before a last token
pub before_same : {w of m : List Marked} (x : Marked) → w ≡ of ++ x ∷ [] → of ≡ m → w ≡ m ++ x ∷ []
before_same x e f = e ∙ ap (λ z. z ++ x ∷ []) f

-- two parts, the first of one token, or between two, or with one behind it
pub one_then : {w a r m : List Marked} {x : Marked} → w ≡ a ++ r → a ≡ x ∷ [] → r ≡ m → w ≡ x ∷ m
one_then {r = r} {x = x} e f g = e ∙ ap (λ z. z ++ r) f ∙ ap (λ z. x ∷ z) g

pub regroup : (x y : Marked) (of rest : List Marked) → x ∷ (of ++ (y ∷ rest)) ≡ (x ∷ (of ++ y ∷ [])) ++ rest
regroup x y of rest = ap (λ z. x ∷ z) (sym (append_assoc of (y ∷ []) rest))

pub round_then : {w a k r m : List Marked} {x : Marked} (of : List Marked) (y : Marked) → w ≡ a ++ r → a ≡ x ∷ k → k ≡ of ++ y ∷ [] → r ≡ m → w ≡ x ∷ (of ++ (y ∷ m))
round_then {r = r} {m = m} {x = x} of y e f g h =
    e ∙ ap (λ z. z ++ r) f ∙ ap (λ z. (x ∷ z) ++ r) g ∙ ap (λ z. x ∷ z) (append_assoc of (y ∷ []) r) ∙ ap (λ z. x ∷ (of ++ (y ∷ z))) h

pub closed_then : {w a r m : List Marked} (of : List Marked) (y : Marked) → w ≡ a ++ r → a ≡ of ++ y ∷ [] → r ≡ m → w ≡ of ++ (y ∷ m)
closed_then {r = r} of y e f h = e ∙ ap (λ z. z ++ r) f ∙ append_assoc of (y ∷ []) r ∙ ap (λ z. of ++ (y ∷ z)) h

-- any part, and the same behind it
pub part_then : {w r m : List Marked} (a : List Marked) → w ≡ a ++ r → r ≡ m → w ≡ a ++ m
part_then a e f = e ∙ ap (λ z. a ++ z) f
