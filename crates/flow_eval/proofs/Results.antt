-- What the code comes to, put together from its parts.
use Rattle.std.proofs.Common.{ℕ, List, ap}
use Rattle.std.specs.declared.result.Result.{Result}
use Rattle.std.specs.declared.result.Result.TheVariants.{Ok, Err}
use Rattle.flow_value.specs.declared.value.Value.{Value}
use Rattle.flow_value.specs.Values.{ValueTree}
use Rattle.flow_eval.specs.declared.stop.Halt.{Halt}
use Rattle.flow_eval.specs.declared.stop.Halt.TheVariants as halt
use Rattle.flow_eval.specs.Answers.{Answer}
use Rattle.flow_eval.specs.Eval.{Res, then, at_once}
use Rattle.flow_eval.specs.View.{GivesAnswer, Gives, GivesAll}

-- an answer takes no turn
pub answer_gives : (a : Answer) (left : ℕ) (r : Result Value Halt) → GivesAnswer a r → Gives (at_once a left) r left
answer_gives a left (Ok v) h = ap (λ a. at_once a left) h
answer_gives a left (Err (halt.Thrown e)) h = ap (λ a. at_once a left) h
answer_gives a left (Err halt.Spent) h = absurd h
answer_gives a left (Err halt.NoMeaning) h = ap (λ a. at_once a left) h
answer_gives a left (Err halt.OutOfMemory) h = tt

-- a first part that has no value decides
pub halted : (q : Res ValueTree) (go : ValueTree → ℕ → Res ValueTree) (h : Halt) (left : ℕ) → Gives q (Err h) left → Gives (then q go) (Err h) left
halted q go (halt.Thrown e) left g = ap (λ q. then q go) g
halted q go halt.Spent left g = (ap (λ q. then q go) g.0, g.1)
halted q go halt.NoMeaning left g = ap (λ q. then q go) g
halted q go halt.OutOfMemory left g = tt

pub args_halted : (q : Res (List ValueTree)) (go : List ValueTree → ℕ → Res ValueTree) (h : Halt) (left : ℕ) → GivesAll q (Err h) left → Gives (then q go) (Err h) left
args_halted q go (halt.Thrown e) left g = ap (λ q. then q go) g
args_halted q go halt.Spent left g = (ap (λ q. then q go) g.0, g.1)
args_halted q go halt.NoMeaning left g = ap (λ q. then q go) g
args_halted q go halt.OutOfMemory left g = tt
