-- What things come to by their numbers, one more at a time.
use Rattle.std.proofs.Common.{◌≡◌, ℕ, suc, ◌+◌, ◌<◌, List, [], ◌∷◌, ◌++◌, length, drop, get_or, sym, ap, ◌∙◌, append_assoc, arith}
use Rattle.std.proofs.lemmas.List.{append-nil, drop_more}
use Rattle.flow_cover.specs.Covers.{numbered}

-- what is still to come behind what is there
abbrev pub Ahead : {A B : Type 0} → (ℕ → A → List B) → List A → (first number index : ℕ) → (start old : List B) → Type 0
Ahead f xs first number index start old = old ++ numbered f number (drop index xs) ≡ start ++ numbered f first xs

pub next_ahead : {A B : Type 0} (f : ℕ → A → List B) (xs : List A) (first number index : ℕ) (x d : A) (start old new : List B)
    → index < length xs → x ≡ get_or xs index d → Ahead f xs first number index start old → new ≡ old ++ f number x
    → Ahead f xs first (number + 1) (index + 1) start new
next_ahead f xs first number index x d start old new lt is h e =
    let rest = numbered f (suc number) (drop (index + 1) xs) in
    let later : number + 1 ≡ suc number = omega arith in
    ap (λ n. new ++ numbered f n (drop (index + 1) xs)) later ∙ ap (λ l. l ++ rest) (e ∙ ap (λ z. old ++ f number z) is)
    ∙ append_assoc old (f number (get_or xs index d)) rest
    ∙ ap (λ l. old ++ numbered f number l) (sym (drop_more xs index d lt))
    ∙ h

pub all_ahead : {A B : Type 0} (f : ℕ → A → List B) (xs : List A) (first number index : ℕ) (start old : List B) → drop index xs ≡ []
    → Ahead f xs first number index start old → old ≡ start ++ numbered f first xs
all_ahead f xs first number index start old none h = sym (append-nil old) ∙ ap (λ l. old ++ numbered f number l) (sym none) ∙ h
