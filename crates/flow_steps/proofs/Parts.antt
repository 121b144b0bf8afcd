-- Parts of values that are exchanged, and aims that get a value.
use Rattle.std.proofs.Common.{◌≡◌, ℕ, List, [], ◌∷◌, ap, sym, ◌∙◌}
use Rattle.std.specs.Option.{option_map}
use Rattle.std.specs.declared.option.Option.{Option}
use Rattle.std.specs.declared.option.Option.TheVariants.{None, Some}
use Rattle.flow_base.specs.declared.ids.ActorId.{ActorId}
use Rattle.flow_value.specs.declared.value.Value.{Value}
use Rattle.flow_value.specs.Values.{ValueTree, ValueTrees, CompositeValue, at_place, value_at, value_put, Whole}
use Rattle.flow_value.specs.View.{value_of}
use Rattle.flow_code.specs.Resolved.View.{places_in}
use Rattle.flow_code.specs.declared.expr.names.FieldNames.{FieldNames}
use Rattle.flow_code.specs.declared.class.Aim.{Aim}
use Rattle.flow_steps.specs.declared.process.Process.{Process}
use Rattle.flow_steps.specs.Holding.{on_heap}
use Rattle.flow_steps.specs.Points.{Numbering, within, exchanged, place_held, place_put, Assigns}
use Rattle.flow_steps.proofs.Framing.{put_anew}

-- a part of a field of a record
pub exchanged_field : (at : Numbering) (w : Whole) (f : ℕ) (fs : List ℕ) (new : ValueTree) (before taken after : ValueTrees) (k : ℕ) (field old part : ValueTree)
    → at w f ≡ Some k → value_at before k ≡ Some field
    → ((u : ValueTree) → value_put taken k u ≡ value_put before k u)
    → exchanged at fs new (Some field) ≡ Some (Some old, Some part)
    → after ≡ value_put taken k part
    → exchanged at (f ∷ fs) new (Some (CompositeValue w before)) ≡ Some (Some old, Some (CompositeValue w after))
exchanged_field at w f fs new before taken after k field old part is here rest e back =
    ap (λ (p : Option ℕ). within w before p (exchanged at fs new (at_place before p))) is
    ∙ ap (λ o. within w before (Some k) (exchanged at fs new o)) here
    ∙ ap (within w before (Some k)) e
    ∙ ap (λ l. Some (Some old, Some (CompositeValue w l))) (sym (back ∙ rest part))

-- an aim with a path
pub part_assigned : (fields : FieldNames) (i : ActorId) (aim : Aim) (new root_old root_new old : Value) (p taken q : Process)
    → Some root_old ≡ place_held i.0 aim.place p.heap
    → exchanged (places_in fields) aim.path.items (value_of new) (Some (value_of root_old)) ≡ Some (Some (value_of old), Some (value_of root_new))
    → taken ≡ on_heap (place_put i.0 aim.place None) p
    → q ≡ on_heap (place_put i.0 aim.place (Some root_new)) taken
    → Assigns fields i aim new p (Some old) q
part_assigned fields i aim new root_old root_new old p taken q held e out back = record {
  root = Some root_new;
  parts = ap (λ o. exchanged (places_in fields) aim.path.items (value_of new) (option_map value_of o)) (sym held) ∙ e;
  put = back ∙ ap (on_heap (place_put i.0 aim.place (Some root_new))) out
      ∙ ap (λ h. record p { heap = h }) (put_anew i.0 aim.place (Some root_new) None p.heap);
}

-- one without
pub whole_assigned : (fields : FieldNames) (i : ActorId) (aim : Aim) (new : Value) (old : Option Value) (p q : Process)
    → aim.path.items ≡ [] → old ≡ place_held i.0 aim.place p.heap
    → q ≡ on_heap (place_put i.0 aim.place (Some new)) p
    → Assigns fields i aim new p old q
whole_assigned fields i aim new old p q none held is = record {
  root = Some new;
  parts = ap (λ l. exchanged (places_in fields) l (value_of new) (option_map value_of (place_held i.0 aim.place p.heap))) none
      ∙ ap (λ o. Some (option_map value_of o, Some (value_of new))) (sym held);
  put = is;
}
