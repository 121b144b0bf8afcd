-- What the code answers, seen through the mirrors.
use Rattle.std.specs.Prelude.{◌≡◌, ℕ, List, map}
use Rattle.std.specs.declared.result.Result.{Result}
use Rattle.std.specs.declared.result.Result.TheVariants.{Ok, Err}
use Rattle.flow_value.specs.declared.value.Value.{Value}
use Rattle.flow_value.specs.View.{value_of}
use Rattle.flow_eval.specs.declared.stop.Halt.{Halt}
use Rattle.flow_eval.specs.declared.stop.Halt.TheVariants as halt
use Rattle.std.specs.declared.alloc.Global.{Global}
use Rattle.std.specs.declared.boxed.Box.{Box}
use Rattle.std.specs.declared.vec.Vec.{Vec}
use Rattle.std.specs.Option.{option_map}
use Rattle.std.specs.declared.option.Option.{Option}
use Rattle.flow_tree.specs.declared.expr.Expr.{Expr}
use Rattle.flow_tree.specs.declared.stmt.Stmt.{Stmt}
use Rattle.flow_tree.specs.Tree.{ExprTree}
use Rattle.flow_tree.specs.View.{expr_of}
use Rattle.flow_tree.specs.StmtView.{body_of, simple_of}
use Rattle.flow_tree.specs.DeclView.{record_of, function_of}
use Rattle.flow_value.specs.Values.{ValueTree, OutcomeTree}
use Rattle.std.specs.declared.option.Option.TheVariants as option
use Rattle.flow_eval.specs.declared.variables.Var.{Var}
use Rattle.flow_eval.specs.Variables.{var_of}
use Rattle.flow_eval.specs.declared.evaluate.Setting as code
use Rattle.flow_eval.specs.Answers.{Answer, Given, Throws, NoMeaning}
use Rattle.flow_tree.specs.Body.{Body}
use Rattle.flow_eval.specs.declared.statements.Flow.{Flow}
use Rattle.flow_eval.specs.declared.statements.Flow.TheVariants as flow
use Rattle.flow_eval.specs.Functions.{skip, scope, exec, nested, Locals, Run, Goes, Breaks, Continues, Returns, Raises, SpentRun, NoRun}
use Rattle.flow_eval.specs.Eval.{Runner, Res, Done, Fails, Spent, Meaningless, Setting}

-- the code gives this answer, or there was no memory
abbrev pub GivesAnswer : Answer → Result Value Halt → Type 0
GivesAnswer a (Ok v) = a ≡ Given (value_of v)
GivesAnswer a (Err (halt.Thrown e)) = a ≡ Throws e.0
GivesAnswer a (Err halt.NoMeaning) = a ≡ NoMeaning
GivesAnswer a (Err halt.OutOfMemory) = Unit {0}
GivesAnswer a (Err halt.Spent) = ⊥

abbrev pub setting_of : {C : Type 0} → (C → ℕ → Option OutcomeTree) → code.Setting C → Setting
setting_of content s = record {
  records = map record_of s.records.now;
  functions = map function_of s.functions.now;
  cells = content s.view.now;
  now = s.time;
}

-- the code comes to this, with these turns left, or there was no memory
abbrev pub Gives : Res ValueTree → Result Value Halt → ℕ → Type 0
Gives r (Ok v) left = r ≡ Done (value_of v) left
Gives r (Err (halt.Thrown e)) left = r ≡ Fails e.0 left
Gives r (Err halt.Spent) left = (r ≡ Spent) × (left ≡ 0)
Gives r (Err halt.NoMeaning) left = r ≡ Meaningless
Gives r (Err halt.OutOfMemory) left = Unit {0}

-- the same of a list of values
abbrev pub GivesAll : Res (List ValueTree) → Result (Vec Value Global) Halt → ℕ → Type 0
GivesAll r (Ok vs) left = r ≡ Done (map value_of vs.items) left
GivesAll r (Err (halt.Thrown e)) left = r ≡ Fails e.0 left
GivesAll r (Err halt.Spent) left = (r ≡ Spent) × (left ≡ 0)
GivesAll r (Err halt.NoMeaning) left = r ≡ Meaningless
GivesAll r (Err halt.OutOfMemory) left = Unit {0}

-- the variables of a function, or that an argument is missing or too many
abbrev pub Entered : Option Locals → Result (Vec Var Global) Halt → Type 0
Entered o (Ok vs) = o ≡ option.Some (map var_of vs.items)
Entered o (Err (halt.Thrown e)) = ⊥
Entered o (Err halt.Spent) = ⊥
Entered o (Err halt.NoMeaning) = o ≡ option.None
Entered o (Err halt.OutOfMemory) = Unit {0}

-- the same of statements, with the variables then
abbrev pub Ran : Run → Result Flow Halt → Locals → ℕ → Type 0
Ran r (Ok flow.Next) vars left = r ≡ Goes vars left
Ran r (Ok flow.Break) vars left = r ≡ Breaks vars left
Ran r (Ok flow.Continue) vars left = r ≡ Continues vars left
Ran r (Ok (flow.Return v)) vars left = r ≡ Returns (value_of v) left
Ran r (Err (halt.Thrown e)) vars left = r ≡ Raises e.0 vars left
Ran r (Err halt.Spent) vars left = (r ≡ SpentRun) × (left ≡ 0)
Ran r (Err halt.NoMeaning) vars left = r ≡ NoRun
Ran r (Err halt.OutOfMemory) vars left = Unit {0}

-- the same of one statement, whatever follows it
abbrev pub StmtRan : (Body → Run) → (Body → Locals → ℕ → Run) → Result Flow Halt → Locals → ℕ → Type 0
StmtRan f next (Ok flow.Next) vars left = (k : Body) → f k ≡ next k vars left
StmtRan f next (Ok flow.Break) vars left = (k : Body) → f k ≡ Breaks vars left
StmtRan f next (Ok flow.Continue) vars left = (k : Body) → f k ≡ Continues vars left
StmtRan f next (Ok (flow.Return v)) vars left = (k : Body) → f k ≡ Returns (value_of v) left
StmtRan f next (Err (halt.Thrown e)) vars left = (k : Body) → f k ≡ Raises e.0 vars left
StmtRan f next (Err halt.Spent) vars left = ((k : Body) → f k ≡ SpentRun) × (left ≡ 0)
StmtRan f next (Err halt.NoMeaning) vars left = (k : Body) → f k ≡ NoRun
StmtRan f next (Err halt.OutOfMemory) vars left = Unit {0}

-- the body of an `else`, where there is one
abbrev pub else_run : Setting → Runner → Option Body → Option (List ℕ) → Locals → ℕ → Run
else_run s run option.None caught = skip
else_run s run (option.Some b) caught = scope (exec s run b caught)

-- a loop by its parts: its condition and its step, where it has them, and its body
abbrev pub by_parts : (loop : Setting → Runner → Option ExprTree → (step body : Locals → ℕ → Run) → Locals → ℕ → Run)
    → Setting → (nest : ℕ) → (test : Option Expr) → (step : Option (Box Stmt Global)) → (body : List Stmt) → (caught : Option (List ℕ))
    → Locals → ℕ → Run
by_parts loop s nest test step body caught =
    nested loop s nest (option_map expr_of test) (nested exec s nest (simple_of step) caught) (nested exec s nest (body_of body) caught)
