-- What eval and call come to.
use Rattle.std.specs.Prelude.{◌≡◌, ℕ, pos, List, map}
use Rattle.std.specs.declared.option.Option.{Option}
use Rattle.std.specs.declared.option.Option.TheVariants.{None}
use Rattle.std.specs.declared.result.Result.{Result}
use Rattle.std.specs.declared.result.Result.TheVariants.{Ok, Err}
use Rattle.flow_tree.specs.declared.decl.RecordDecl.{RecordDecl}
use Rattle.flow_tree.specs.declared.decl.FunctionDecl.{FunctionDecl}
use Rattle.flow_tree.specs.DeclView.{record_of, function_of}
use Rattle.flow_value.specs.Values.{ValueTree, OutcomeTree}
use Rattle.flow_value.specs.declared.value.Value.{Value}
use Rattle.flow_value.specs.View.{value_of}
use Rattle.flow_eval.specs.declared.stop.Stop.{Stop}
use Rattle.flow_eval.specs.declared.stop.Stop.TheVariants as stop
use Rattle.flow_eval.specs.Eval.{Res, Done, Fails, Spent, Setting}

-- the code comes to this, with these turns left, or there was no memory
abbrev pub Means : Res ValueTree → Result Value Stop → ℕ → Type 0
Means r (Ok v) left = r ≡ Done (value_of v) left
Means r (Err (stop.Thrown e)) left = r ≡ Fails e.0 left
Means r (Err stop.Spent) left = (r ≡ Spent) × (left ≡ 0)
Means r (Err stop.OutOfMemory) left = Unit {0}

-- records and functions of a program, over these cells at this time
abbrev pub setting_with : List RecordDecl → List FunctionDecl → (ℕ → Option OutcomeTree) → ℕ → Setting
setting_with rs fs cells now = record { records = map record_of rs; functions = map function_of fs; cells = cells; now = pos now }

-- no cell is set
abbrev pub no_cells : ℕ → Option OutcomeTree
no_cells c = None
