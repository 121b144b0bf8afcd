-- Variables, slot by slot.
use Rattle.std.proofs.Common.{◌≡◌, ℕ, zero, suc, min, List, [], ◌∷◌, map, length, drop, refl, ap, ◌∙◌, arith}
use Rattle.std.proofs.lemmas.List.{drop_all}
use Rattle.std.specs.declared.option.Option.{Option}
use Rattle.flow_tree.specs.declared.decl.Slot.{Slot}
use Rattle.flow_tree.specs.Decls.{SlotTree}
use Rattle.flow_tree.specs.DeclView.{slot_of}
use Rattle.flow_value.specs.declared.value.Value.{Value}
use Rattle.flow_heapstate.specs.State.{place_of}
use Rattle.flow_debug.specs.Told.{variables_told}

none_held : (slots : List SlotTree) → variables_told slots [] ≡ []
none_held [] = refl
none_held (s ∷ slots) = refl

-- behind the last slot that has a value, or none, nothing is told
pub over : (slots : List Slot) (values : List (Option Value)) (n : ℕ) → n ≡ min (length slots) (length values)
    → variables_told (map slot_of (drop n slots)) (map place_of (drop n values)) ≡ []
over [] values n e = ap (λ l. variables_told (map slot_of l) (map place_of (drop n values))) (drop_all n [] (omega arith))
over (s ∷ slots) [] n e =
    ap (λ l. variables_told (map slot_of (drop n (s ∷ slots))) (map place_of l)) (drop_all n [] (omega arith)) ∙ none_held (map slot_of (drop n (s ∷ slots)))
over (s ∷ slots) (v ∷ values) zero e = absurd (omega (arith, e))
over (s ∷ slots) (v ∷ values) (suc n) e = over slots values n (omega (arith, e))
