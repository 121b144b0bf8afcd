-- What holds of each reference of a value.
use Rattle.std.proofs.Common.{◌≡◌, ℕ, zero, suc, Bool, true, false, List, [], ◌∷◌, ◌++◌, ◌||◌, append-nil, refl, sym, ap, ◌∙◌, subst}
use Rattle.std.specs.declared.option.Option.TheVariants.{Some}
use Rattle.flow_value.specs.declared.value.Kind.{Kind}
use Rattle.flow_value.specs.Values.{ValueTree, ValueTrees, IntValue, BoolValue, TextValue, VoidValue, ErrorValue, CompositeValue, RefValue, NoValues, MoreValues, value_at, value_put, refs_of, refs_of_all, may_refer, any_may_refer, AllRefs, AllRefsIn, AllListed}

-- from a stronger property
module _ (P Q : Kind × ℕ → Type 0) (weaker : (r : Kind × ℕ) → P r → Q r) where
  mutual
    pub refs_map : (v : ValueTree) → AllRefs P v → AllRefs Q v
    refs_map (IntValue n) h = tt
    refs_map (BoolValue b) h = tt
    refs_map (TextValue t) h = tt
    refs_map VoidValue h = tt
    refs_map (ErrorValue e) h = tt
    refs_map (CompositeValue w vs) h = parts_map vs h
    refs_map (RefValue k c) h = weaker (k, c) h

    pub parts_map : (vs : ValueTrees) → AllRefsIn P vs → AllRefsIn Q vs
    parts_map NoValues h = tt
    parts_map (MoreValues v vs) h = (refs_map v h.0, parts_map vs h.1)

  pub listed_map : (rs : List (Kind × ℕ)) → AllListed P rs → AllListed Q rs
  listed_map [] h = tt
  listed_map (r ∷ rs) h = (weaker r h.0, listed_map rs h.1)

module _ (P : Kind × ℕ → Type 0) where
  -- of two lists of references
  pub listed_both : (qs rs : List (Kind × ℕ)) → AllListed P qs → AllListed P rs → AllListed P (qs ++ rs)
  listed_both [] rs h k = k
  listed_both (q ∷ qs) rs h k = (h.0, listed_both qs rs h.1 k)

  pub listed_parts : (qs rs : List (Kind × ℕ)) → AllListed P (qs ++ rs) → AllListed P qs × AllListed P rs
  listed_parts [] rs h = (tt, h)
  listed_parts (q ∷ qs) rs h = let a = listed_parts qs rs h.1 in ((h.0, a.0), a.1)

  -- of the references in order
  mutual
    pub refs_listed : (v : ValueTree) → AllRefs P v → AllListed P (refs_of v)
    refs_listed (IntValue n) h = tt
    refs_listed (BoolValue b) h = tt
    refs_listed (TextValue t) h = tt
    refs_listed VoidValue h = tt
    refs_listed (ErrorValue e) h = tt
    refs_listed (CompositeValue w vs) h = parts_listed vs h
    refs_listed (RefValue k c) h = (h, tt)

    pub parts_listed : (vs : ValueTrees) → AllRefsIn P vs → AllListed P (refs_of_all vs)
    parts_listed NoValues h = tt
    parts_listed (MoreValues v vs) h = listed_both (refs_of v) (refs_of_all vs) (refs_listed v h.0) (parts_listed vs h.1)

  mutual
    pub listed_refs : (v : ValueTree) → AllListed P (refs_of v) → AllRefs P v
    listed_refs (IntValue n) h = tt
    listed_refs (BoolValue b) h = tt
    listed_refs (TextValue t) h = tt
    listed_refs VoidValue h = tt
    listed_refs (ErrorValue e) h = tt
    listed_refs (CompositeValue w vs) h = listed_in vs h
    listed_refs (RefValue k c) h = h.0

    pub listed_in : (vs : ValueTrees) → AllListed P (refs_of_all vs) → AllRefsIn P vs
    listed_in NoValues h = tt
    listed_in (MoreValues v vs) h = let a = listed_parts (refs_of v) (refs_of_all vs) h in (listed_refs v a.0, listed_in vs a.1)

  -- of any value, where it holds of any reference
  module _ (any : (r : Kind × ℕ) → P r) where
    mutual
      pub any_refs : (v : ValueTree) → AllRefs P v
      any_refs (IntValue n) = tt
      any_refs (BoolValue b) = tt
      any_refs (TextValue t) = tt
      any_refs VoidValue = tt
      any_refs (ErrorValue e) = tt
      any_refs (CompositeValue w vs) = any_parts vs
      any_refs (RefValue k c) = any (k, c)

      pub any_parts : (vs : ValueTrees) → AllRefsIn P vs
      any_parts NoValues = tt
      any_parts (MoreValues v vs) = (any_refs v, any_parts vs)

  -- of a part, and of the parts where one is replaced
  pub part_refs : (vs : ValueTrees) (k : ℕ) (w : ValueTree) → value_at vs k ≡ Some w → AllRefsIn P vs → AllRefs P w
  part_refs NoValues k w e h = absurd (cc)
  part_refs (MoreValues v vs) zero w e h = let s : v ≡ w = cc in subst (AllRefs P) s h.0
  part_refs (MoreValues v vs) (suc k) w e h = part_refs vs k w e h.1

  pub put_refs : (vs : ValueTrees) (k : ℕ) (w : ValueTree) → AllRefsIn P vs → AllRefs P w → AllRefsIn P (value_put vs k w)
  put_refs NoValues k w h n = tt
  put_refs (MoreValues v vs) zero w h n = (n, h.1)
  put_refs (MoreValues v vs) (suc k) w h n = (h.0, put_refs vs k w h.1 n)

-- what can't refer doesn't
pub no_refs : (v : ValueTree) → may_refer v ≡ false → refs_of v ≡ []
no_refs (IntValue n) e = refl
no_refs (BoolValue b) e = refl
no_refs (TextValue t) e = refl
no_refs VoidValue e = refl
no_refs (ErrorValue n) e = refl
no_refs (CompositeValue w vs) e = absurd (cc)
no_refs (RefValue k c) e = absurd (cc)

pub no_part_refs : (vs : ValueTrees) → any_may_refer vs ≡ false → refs_of_all vs ≡ []
no_part_refs NoValues e = refl
no_part_refs (MoreValues v vs) e = by_first (may_refer v) refl e (no_part_refs vs)
  where
    by_first : (b : Bool) → may_refer v ≡ b → b || any_may_refer vs ≡ false → (any_may_refer vs ≡ false → refs_of_all vs ≡ [])
        → refs_of v ++ refs_of_all vs ≡ []
    by_first true f e rest = absurd (cc)
    by_first false f e rest = ap (λ rs. rs ++ refs_of_all vs) (no_refs v f) ∙ rest e

pub nothing_more : (rs : List (Kind × ℕ)) (vs : ValueTrees) → any_may_refer vs ≡ false → rs ≡ rs ++ refs_of_all vs
nothing_more rs vs e = sym (append-nil rs) ∙ ap (λ qs. rs ++ qs) (sym (no_part_refs vs e))
