-- The references in well-typed values lead to cells of their types.
use Rattle.std.proofs.Common.{ℕ, List, [], ◌∷◌, subst}
use Rattle.flow_tree.specs.Tree.{TypeTree}
use Rattle.flow_tree.specs.Decls.{RecordTree}
use Rattle.flow_value.specs.declared.value.Kind.{Kind}
use Rattle.flow_value.specs.Values.{ValueTree, ValueTrees, IntValue, BoolValue, TextValue, VoidValue, ErrorValue, CompositeValue, RefValue, Whole, NoValues, MoreValues, AllRefs, AllRefsIn}
use Rattle.flow_value.proofs.References.{refs_map}
use Rattle.flow_eval.specs.Typed.{reference_type, future_side, IsMadeOf, HasType, HaveTypes}

-- of each type of some
abbrev pub AllTypes : (TypeTree → Type 0) → List TypeTree → Type 0
AllTypes T [] = Unit {0}
AllTypes T (t ∷ ts) = T t × AllTypes T ts

-- a reference leads to a cell, by a type of which something holds
abbrev pub LeadsBy : (ℕ → TypeTree → Type 0) → (TypeTree → Type 0) → Kind × ℕ → Type 0
LeadsBy typed T r = (u : TypeTree) × typed r.1 (future_side r.0 u) × T (reference_type r.0 u)

-- a reference leads to a cell of its kind
abbrev pub LeadsSomewhere : (ℕ → TypeTree → Type 0) → Kind × ℕ → Type 0
LeadsSomewhere typed r = (u : TypeTree) × typed r.1 (future_side r.0 u)

module _ (rs : List RecordTree) (typed : ℕ → TypeTree → Type 0) where
  -- what holds of a type, and with a type of those of which its values are made, holds where their references lead
  module _ (T : TypeTree → Type 0) (inner : (w : Whole) (t : TypeTree) (ts : List TypeTree) → IsMadeOf rs w t ts → T t → AllTypes T ts) where
    mutual
      pub typed_refs : (v : ValueTree) (t : TypeTree) → HasType rs typed v t → T t → AllRefs (LeadsBy typed T) v
      typed_refs (IntValue n) t h k = tt
      typed_refs (BoolValue b) t h k = tt
      typed_refs (TextValue s) t h k = tt
      typed_refs VoidValue t h k = tt
      typed_refs (ErrorValue e) t h k = tt
      typed_refs (CompositeValue w vs) t h k = typed_parts vs h.0 h.2 (inner w t h.0 h.1 k)
      typed_refs (RefValue kd c) t h k = (h.0, h.2, subst T h.1 k)

      pub typed_parts : (vs : ValueTrees) (ts : List TypeTree) → HaveTypes rs typed vs ts → AllTypes T ts → AllRefsIn (LeadsBy typed T) vs
      typed_parts NoValues ts h k = tt
      typed_parts (MoreValues v vs) ts h k =
          let l : AllTypes T (h.0 ∷ h.1) = subst (AllTypes T) h.2 k in
          (typed_refs v h.0 h.3 l.0, typed_parts vs h.1 h.4 l.1)

  abbrev Any : TypeTree → Type 0
  Any t = Unit {0}

  any_types : (ts : List TypeTree) → AllTypes Any ts
  any_types [] = tt
  any_types (t ∷ ts) = (tt, any_types ts)

  pub refs_lead : (v : ValueTree) (t : TypeTree) → HasType rs typed v t → AllRefs (LeadsSomewhere typed) v
  refs_lead v t h =
      refs_map (LeadsBy typed Any) (LeadsSomewhere typed) (λ r l. (l.0, l.1)) v (typed_refs Any (λ w t ts m k. any_types ts) v t h tt)

-- a value has its type with other types of cells too, where those to which it refers keep theirs
module _ (rs : List RecordTree) (typed others : ℕ → TypeTree → Type 0) (P : Kind × ℕ → Type 0)
    (moves : (r : Kind × ℕ) (u : TypeTree) → P r → typed r.1 (future_side r.0 u) → others r.1 (future_side r.0 u)) where
  mutual
    pub type_moves : (v : ValueTree) (t : TypeTree) → AllRefs P v → HasType rs typed v t → HasType rs others v t
    type_moves (IntValue n) t s h = h
    type_moves (BoolValue b) t s h = h
    type_moves (TextValue x) t s h = h
    type_moves VoidValue t s h = h
    type_moves (ErrorValue e) t s h = h
    type_moves (CompositeValue w vs) t s h = (h.0, h.1, types_move vs h.0 s h.2)
    type_moves (RefValue kd c) t s h = (h.0, h.1, moves (kd, c) h.0 s h.2)

    pub types_move : (vs : ValueTrees) (ts : List TypeTree) → AllRefsIn P vs → HaveTypes rs typed vs ts → HaveTypes rs others vs ts
    types_move NoValues ts s h = h
    types_move (MoreValues v vs) ts s h = (h.0, h.1, h.2, type_moves v h.0 s.0 h.3, types_move vs h.1 s.1 h.4)
