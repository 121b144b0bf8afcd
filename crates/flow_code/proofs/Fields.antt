-- The numbers of the names of fields, name by name.
use Rattle.std.proofs.Common.{◌≡◌, ℕ, suc, ◌+◌, ◌<◌, ◌≤◌, List, [], ◌∷◌, ◌++◌, drop, get_or, length, sym, ap, ◌∙◌, refl, add-one}
use Rattle.std.specs.Option.{option_map}
use Rattle.std.specs.declared.option.Option.{Option}
use Rattle.std.specs.declared.option.Option.TheVariants.{None, Some}
use Rattle.flow_tree.specs.declared.ty.Ident.{Ident}
use Rattle.std.proofs.lemmas.List.{drop_all}
use Rattle.flow_code.proofs.Resolved.Maps.{drop_more}
use Rattle.flow_code.specs.Coding.{one_more, fields_of}

-- fields before those of the names from a place on
abbrev pub before : List ℕ → Option (List ℕ) → Option (List ℕ)
before fs o = option_map (λ gs. fs ++ gs) o

before_one : (fs : List ℕ) (f : ℕ) (o : Option (List ℕ)) → before (fs ++ f ∷ []) o ≡ before fs (one_more (Some f) o)
before_one fs f None = refl
before_one fs f (Some gs) = ap Some (assoc fs f gs)
  where
    assoc : (fs : List ℕ) (f : ℕ) (gs : List ℕ) → (fs ++ f ∷ []) ++ gs ≡ fs ++ f ∷ gs
    assoc [] f gs = refl
    assoc (h ∷ hs) f gs = ap (λ l. h ∷ l) (assoc hs f gs)

before_none : (fs : List ℕ) (o : Option (List ℕ)) → before fs (one_more None o) ≡ None
before_none fs o = refl

empty_after : (fs : List ℕ) → fs ++ [] ≡ fs
empty_after [] = refl
empty_after (f ∷ fs) = ap (λ l. f ∷ l) (empty_after fs)

module _ (field : List ℕ → Option ℕ) (xs : List Ident) (all : Option (List ℕ)) where
  pub fields_step : (i : ℕ) (d : Ident) (f : ℕ) (old new : List ℕ) → i < length xs → Some f ≡ field (get_or xs i d).name → new ≡ old ++ f ∷ []
      → before old (fields_of field (drop i xs)) ≡ all
      → before new (fields_of field (drop (i + 1) xs)) ≡ all
  fields_step i d f old new lt is put inv =
      rw add-one
      (ap (λ l. before l (fields_of field (drop (suc i) xs))) put
      ∙ before_one old f (fields_of field (drop (suc i) xs))
      ∙ ap (λ o. before old (one_more o (fields_of field (drop (suc i) xs)))) is
      ∙ ap (λ l. before old (fields_of field l)) (sym (drop_more xs i d lt))
      ∙ inv)

  pub fields_none : (i : ℕ) (d : Ident) (old : List ℕ) → i < length xs → None ≡ field (get_or xs i d).name
      → before old (fields_of field (drop i xs)) ≡ all
      → None ≡ all
  fields_none i d old lt is inv =
      sym (before_none old (fields_of field (drop (suc i) xs)))
      ∙ ap (λ o. before old (one_more o (fields_of field (drop (suc i) xs)))) is
      ∙ ap (λ l. before old (fields_of field l)) (sym (drop_more xs i d lt))
      ∙ inv

  pub fields_end : (i : ℕ) (old : List ℕ) → length xs ≤ i → before old (fields_of field (drop i xs)) ≡ all → Some old ≡ all
  fields_end i old le inv = ap Some (sym (empty_after old)) ∙ ap (λ l. before old (fields_of field l)) (sym (drop_all i xs le)) ∙ inv
