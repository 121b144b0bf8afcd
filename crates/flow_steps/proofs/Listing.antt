-- Things that are read number by number.
use Rattle.std.proofs.Common.{◌≡◌, ℕ, List, [], ◌∷◌, ◌++◌, None, sym, ap, ◌∙◌, arith}
use Rattle.std.proofs.lemmas.List.{append-nil, append_assoc}
use Rattle.flow_numbered.specs.Numbered.{Numbered, next_above, IsRising}
use Rattle.flow_numbered.proofs.Above.{things_above, all_above, IsNext, none_above}

module _ {A B : Type 0} (told : Numbered A → List B) where
  -- what was told of the things up to a number, and what is to be told of those above it, is all
  abbrev pub IsTold : Numbered A → List B → ℕ → Type 0
  IsTold xs ys n = ys ++ told (things_above n xs) ≡ told xs

  pub told_none : (xs : Numbered A) (most : ℕ) → IsRising 0 xs most → IsTold xs [] 0
  told_none xs most rising = ap told (all_above 0 0 xs most (omega arith) rising)

  pub told_next : (xs : Numbered A) (ys zs : List B) (n m : ℕ) (next : IsNext xs n m) → IsTold xs ys n
      → zs ++ told (things_above m xs) ≡ told ((m, next.what) ∷ things_above m xs) → IsTold xs (ys ++ zs) m
  told_next xs ys zs n m next before same =
      append_assoc ys zs (told (things_above m xs)) ∙ ap (λ ts. ys ++ ts) (same ∙ ap told (sym next.first)) ∙ before

  pub told_all : (xs : Numbered A) (ys : List B) (n : ℕ) → told [] ≡ [] → IsTold xs ys n → None ≡ next_above xs n → ys ≡ told xs
  told_all xs ys n empty before none =
      sym (append-nil ys) ∙ ap (λ ts. ys ++ ts) (sym (ap told (none_above xs n none) ∙ empty)) ∙ before
