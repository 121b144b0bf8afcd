-- An evaluation that means something never stops for want of meaning.
use Rattle.std.proofs.Common.{◌≡◌, ℕ, subst}
use Rattle.std.specs.declared.result.Result.TheVariants.{Ok, Err}
use Rattle.flow_value.specs.declared.value.Value.{Value}
use Rattle.flow_value.specs.Values.{ValueTree}
use Rattle.flow_eval.specs.declared.stop.Halt.{Halt}
use Rattle.flow_eval.specs.declared.stop.Halt.TheVariants as halt
use Rattle.flow_eval.specs.Eval.{Res}
use Rattle.flow_eval.specs.View.{Gives}
use Rattle.flow_eval.specs.Meaning.{Means}
use Rattle.flow_eval.specs.WellTyped.{HasMeaning}

pub meant : (r : Res ValueTree) (h : Halt) (left : ℕ) → HasMeaning r → Gives r (Err h) left → h ≡ halt.NoMeaning → ⊥
meant r h left m g e = subst HasMeaning (subst (λ h. Gives r (Err h) left) e g) m

pub means_value : (r : Res ValueTree) (v : Value) (left : ℕ) → Gives r (Ok v) left → Means r (Ok v) left
means_value r v left g = g
