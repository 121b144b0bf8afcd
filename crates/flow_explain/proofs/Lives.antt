-- Who lives, in memory and as plain data.
use Rattle.std.proofs.Common.{◌≡◌, ℕ, ◌+◌, ◌<◌, List, [], ◌∷◌, ◌++◌, length, map, get_or, set, replicate, sym, ap, ◌∙◌}
use Rattle.std.proofs.lemmas.List.{map-append, map-set, get_or-map, replicate_more}
use Rattle.flow_explain.specs.Living.{Living, Telling, living_in}

module _ {X : Type 0} (f : X → Living) where
  abbrev pub told_by : ℕ → List X → Telling
  told_by p xs = record { process = p; living = map f xs }

  -- other actors in a process
  pub set_in : (p : ℕ) (xs : List X) (i j : ℕ) (m : X) (es : Living) (t : Telling) → told_by p xs ≡ t → i ≡ j → f m ≡ es
      → told_by p (set xs i m) ≡ record { process = t.process; living = set t.living j es }
  set_in p xs i j m es t view place new =
      let with : Telling → ℕ → Living → Telling = λ u k ls. record { process = u.process; living = set u.living k ls } in
      ap (λ ls. record { process = p; living = ls }) (map-set f xs i m)
      ∙ ap (λ u. with u i (f m)) view
      ∙ ap (λ k. with t k (f m)) place
      ∙ ap (with t j) new

  -- the actors of a process
  pub living_at : (p : ℕ) (xs : List X) (i j : ℕ) (m : X) (t : Telling) → told_by p xs ≡ t → i ≡ j → i < length xs → m ≡ get_or xs i m
      → f m ≡ living_in t.living j
  living_at p xs i j m t view place lt got =
      ap f got ∙ sym (get_or-map f xs i m [] lt)
      ∙ ap (λ u. living_in u.living i) view
      ∙ ap (living_in t.living) place

  -- one process more in which nobody lives
  pub one_more : (xs ys : List X) (i : ℕ) (m : X) → ys ≡ xs ++ m ∷ [] → f m ≡ [] → map f xs ≡ replicate i [] → map f ys ≡ replicate (i + 1) []
  one_more xs ys i m is none before =
      ap (map f) is
      ∙ map-append f xs (m ∷ [])
      ∙ ap (λ l. l ++ f m ∷ []) before
      ∙ ap (λ e. replicate i [] ++ e ∷ []) none
      ∙ replicate_more i []
