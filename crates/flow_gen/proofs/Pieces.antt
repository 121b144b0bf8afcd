-- The pieces of a text one behind the other.
use Rattle.std.proofs.Common.{◌≡◌, ℕ, List, ◌++◌, ap, sym, ◌∙◌, append_assoc}

-- two numbered pieces and one more
pub three_pieces : (old a b c d x y z : List ℕ) → x ≡ old ++ (a ++ d) → y ≡ x ++ (b ++ d) → z ≡ y ++ c
    → z ≡ old ++ (a ++ d ++ b ++ d ++ c)
three_pieces old a b c d x y z p q r =
    r ∙ ap (λ l. l ++ c) (q ∙ ap (λ l. l ++ (b ++ d)) p ∙ append_assoc old (a ++ d) (b ++ d) ∙ ap (λ l. old ++ l) (sym (append_assoc (a ++ d) b d)))
    ∙ append_assoc old (a ++ d ++ b ++ d) c
