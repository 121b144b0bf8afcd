-- Truth values that evaluation gives.
use Rattle.std.specs.Prelude.{◌≡◌, ℕ, Bool}
use Rattle.std.specs.declared.result.Result.{Result}
use Rattle.std.specs.declared.result.Result.TheVariants.{Ok, Err}
use Rattle.flow_value.specs.Values.{ValueTree, BoolValue}
use Rattle.flow_eval.specs.declared.stop.Halt.{Halt}
use Rattle.flow_eval.specs.declared.stop.Halt.TheVariants as halt
use Rattle.flow_eval.specs.Eval.{Res, Done, Fails, Spent, Meaningless}

-- a truth value or what stopped its evaluation, with these turns left, or there was no memory
abbrev pub GivesTruth : Res ValueTree → Result Bool Halt → ℕ → Type 0
GivesTruth r (Ok b) left = r ≡ Done (BoolValue b) left
GivesTruth r (Err (halt.Thrown e)) left = r ≡ Fails e.0 left
GivesTruth r (Err halt.Spent) left = (r ≡ Spent) × (left ≡ 0)
GivesTruth r (Err halt.NoMeaning) left = r ≡ Meaningless
GivesTruth r (Err halt.OutOfMemory) left = Unit {0}
