-- The elements of lists.
use Rattle.std.proofs.Common.{◌≡◌, ℕ, suc, ℤ, pos, negsuc, nat_abs, ◌<◌, ◌≤◌, List, [], ◌∷◌, length, get_or, refl, ap, sym, subst, ◌∙◌, arith, w64, FitsSigned}
use Rattle.std.proofs.lemmas.Int.{to_z-of_z}
use Rattle.std.specs.Int.{FitsUnsignedBits}
use Rattle.std.specs.declared.option.Option.TheVariants.{Some}
use mir.Val.{to_z, of_z}
use Rattle.flow_base.specs.ErrorNumbers.{bad_argument}
use Rattle.flow_value.specs.declared.value.Value.{Value}
use Rattle.flow_value.specs.declared.value.Value.TheVariants.{Int, rolls-Int}
use Rattle.flow_value.specs.declared.value.Value.TheOpen as layer
use Rattle.flow_value.specs.declared.value.Value.TheFolds.{fold-roll-Value}
use Rattle.flow_value.specs.Values.{ValueTree, ValueTrees, IntValue, value_at, count_of}
use Rattle.flow_value.specs.View.{value_of, value_step, values_of}
use Rattle.flow_eval.specs.Answers.{Given, Throws}
use Rattle.flow_eval.specs.Predefined.{element, element_got}
use Rattle.flow_eval.proofs.Lookups.{value_there, value_past}

pub all_counted : (vs : List Value) → count_of (values_of vs) ≡ length vs
all_counted [] = refl
all_counted (v ∷ vs) = ap suc (all_counted vs)

int_value : (z : ℤ) → value_of (Int z) ≡ IntValue z
int_value z = ap value_of (sym (rolls-Int z)) ∙ fold-roll-Value ValueTree value_step (layer.Int z)

pub size_given : (vs : List Value) (z : ℤ) → FitsSigned w64 (pos (length vs)) → z ≡ pos (length vs)
    → Given (IntValue (pos (count_of (values_of vs)))) ≡ Given (value_of (Int (to_z w64 (of_z w64 z))))
size_given vs z f e =
    ap (λ n. Given (IntValue (pos n))) (all_counted vs)
    ∙ ap (λ n. Given (IntValue n)) (sym (ap (λ n. to_z w64 (of_z w64 n)) e ∙ to_z-of_z w64 (pos (length vs)) f))
    ∙ ap Given (sym (int_value (to_z w64 (of_z w64 z))))

-- an index below 0
below : (es : ValueTrees) (z : ℤ) → FitsSigned w64 z → (FitsUnsignedBits 64 z → ⊥) → element_got (element es z) ≡ Throws bad_argument
below es (negsuc n) f other = refl
below es (pos n) f other = absurd (other (omega (arith, f.sfits)))

pub element_below : (es : ValueTrees) (z : ℤ) → FitsSigned w64 z → (FitsUnsignedBits 64 (to_z w64 (of_z w64 z)) → ⊥) → element_got (element es z) ≡ Throws bad_argument
element_below es z f other = below es z f (λ u. other (subst (FitsUnsignedBits 64) (sym (to_z-of_z w64 z f)) u))

-- another one
pub from_zero : (z : ℤ) (k : ℕ) → FitsUnsignedBits 64 z → k ≡ nat_abs z → z ≡ pos k
from_zero (pos n) k f e = ap pos (sym e)
from_zero (negsuc n) k f e = absurd f

at_index : (es : ValueTrees) (z : ℤ) (k : ℕ) → FitsSigned w64 z → FitsUnsignedBits 64 (to_z w64 (of_z w64 z)) → k ≡ nat_abs (to_z w64 (of_z w64 z))
    → element es z ≡ value_at es k
at_index es z k f u e =
    let back = to_z-of_z w64 z f in
    ap (element es) (from_zero z k (subst (FitsUnsignedBits 64) back u) (e ∙ ap nat_abs back))

pub element_there : (vs : List Value) (z : ℤ) (k : ℕ) (v w : Value) → FitsSigned w64 z → FitsUnsignedBits 64 (to_z w64 (of_z w64 z)) → k ≡ nat_abs (to_z w64 (of_z w64 z))
    → k < length vs → v ≡ get_or vs k v → value_of w ≡ value_of v → element_got (element (values_of vs) z) ≡ Given (value_of w)
element_there vs z k v w f u e lt at is =
    ap element_got (at_index (values_of vs) z k f u e ∙ value_there vs k v lt ∙ ap (λ (x : Value). Some (value_of x)) (sym at)) ∙ ap Given (sym is)

pub element_past : (vs : List Value) (z : ℤ) (k : ℕ) → FitsSigned w64 z → FitsUnsignedBits 64 (to_z w64 (of_z w64 z)) → k ≡ nat_abs (to_z w64 (of_z w64 z))
    → length vs ≤ k → element_got (element (values_of vs) z) ≡ Throws bad_argument
element_past vs z k f u e le = ap element_got (at_index (values_of vs) z k f u e ∙ value_past vs k le)
