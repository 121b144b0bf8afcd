-- Evaluation of expressions, with turns.
use Rattle.std.specs.Prelude.{ℕ, ℤ, pos, Bool, true, false, List, [], ◌∷◌}
use Rattle.std.specs.declared.option.Option.{Option}
use Rattle.std.specs.declared.option.Option.TheVariants.{None, Some}
use Rattle.flow_tree.specs.declared.expr.Op.{Op}
use Rattle.flow_tree.specs.declared.expr.Op.TheVariants.{Or, And}
use Rattle.flow_ast.specs.declared.predefined.Predefined as code
use Rattle.flow_ast.specs.declared.predefined.Method.{Method}
use Rattle.flow_tree.specs.Tree.{ExprTree, ExprTrees, IntExpr, TextExpr, BoolExpr, VoidExpr, VarExpr, CallExpr, FieldExpr, MethodExpr, NotExpr, NegExpr, BinaryExpr, ParenExpr, NoExprs, MoreExprs}
use Rattle.flow_tree.specs.Decls.{RecordTree, RoutineTree}
use Rattle.flow_ast.specs.TypingNames.{named, selected, call_names, constant_names}
use Rattle.flow_ast.specs.Typing.{routine_named}
use Rattle.flow_value.specs.declared.value.RecordId.{RecordId}
use Rattle.flow_value.specs.Values.{ValueTree, IntValue, BoolValue, TextValue, VoidValue, CompositeValue, OutcomeTree, values_of_list, RecordWhole}
use Rattle.flow_eval.specs.Answers.{Answer, Given, Throws, NoMeaning, truth, bool_of}
use Rattle.flow_eval.specs.Operators.{operated, negated, inverted}
use Rattle.flow_eval.specs.Predefined.{call_answer, method_answer}
use Rattle.flow_eval.specs.Records.{record_id, field, field_answer}

-- what evaluation comes to: a thing or an error with the turns left, a turn that was needed where none
-- was left, or no meaning, where something had no type
pub data Res (A : Type 0) : Type 0 where
  Done : A → ℕ → Res A
  Fails : ℕ → ℕ → Res A
  Spent : Res A
  Meaningless : Res A

-- what stays the same while an expression is evaluated: the records and functions of the program,
-- what the set cells hold, and the time
pub record Setting : Type 0 where
  pub records : List RecordTree
  pub functions : List RoutineTree
  pub cells : ℕ → Option OutcomeTree
  pub now : ℤ

-- goes on where there is a thing
abbrev pub then : {A B : Type 0} → Res A → (A → ℕ → Res B) → Res B
then (Done x left) go = go x left
then (Fails e left) go = Fails e left
then Spent go = Spent
then Meaningless go = Meaningless

-- an answer that takes no turn
abbrev pub at_once : Answer → ℕ → Res ValueTree
at_once (Given v) left = Done v left
at_once (Throws e) left = Fails e left
at_once NoMeaning left = Meaningless

abbrev pub more_args : Res ValueTree → (ℕ → Res (List ValueTree)) → Res (List ValueTree)
more_args r go = then r (λ v left. then (go left) (λ vs left. Done (v ∷ vs) left))

-- a constant, or else what the variables have at the name
abbrev pub found : Option ValueTree → Answer
found None = NoMeaning
found (Some v) = Given v

abbrev pub variable : (List ℕ → Option ValueTree) → List ℕ → Option ℕ → Answer
variable look x None = found (look x)
variable look x (Some n) = Given (IntValue (pos n))

-- the second operand of `||` is evaluated where the first is false, that of `&&` where it is true
abbrev pub truth_of : Res ValueTree → Res ValueTree
truth_of r = then r (λ v left. at_once (truth (bool_of v)) left)

abbrev pub or_then : Option Bool → (ℕ → Res ValueTree) → ℕ → Res ValueTree
or_then None go left = Meaningless
or_then (Some true) go left = Done (BoolValue true) left
or_then (Some false) go left = truth_of (go left)

abbrev pub and_then : Option Bool → (ℕ → Res ValueTree) → ℕ → Res ValueTree
and_then None go left = Meaningless
and_then (Some true) go left = truth_of (go left)
and_then (Some false) go left = Done (BoolValue false) left

-- a sign whose left operand is known
abbrev pub both : Op → ValueTree → Res ValueTree → Res ValueTree
both op v r = then r (λ w left. at_once (operated op v w) left)

abbrev pub second : Op → ValueTree → (ℕ → Res ValueTree) → ℕ → Res ValueTree
second Or v go left = or_then (bool_of v) go left
second And v go left = and_then (bool_of v) go left
second op v go left = both op v (go left)

abbrev pub method_called : (ℕ → Option OutcomeTree) → Option Method → ValueTree → List ValueTree → Answer
method_called cells None v vs = NoMeaning
method_called cells (Some m) v vs = method_answer cells m v vs

-- what runs a plain function on its arguments with these turns
abbrev pub Runner : Type 0
Runner = RoutineTree → List ValueTree → ℕ → Res ValueTree

module _ (s : Setting) (run : Runner) where
  abbrev pub function_called : Option RoutineTree → List ValueTree → ℕ → Res ValueTree
  function_called None vs left = Meaningless
  function_called (Some f) vs left = run f vs left

  -- a record of the program, else a function
  abbrev pub declared_called : Option RecordId → List ℕ → List ValueTree → ℕ → Res ValueTree
  declared_called None f vs left = function_called (routine_named s.functions f) vs left
  declared_called (Some r) f vs left = at_once (Given (CompositeValue (RecordWhole r) (values_of_list vs))) left

  -- a call by its name, a predefined one first
  abbrev pub called : Option code.Predefined → List ℕ → List ValueTree → ℕ → Res ValueTree
  called None f vs left = declared_called (record_id s.records f) f vs left
  called (Some p) f vs left = at_once (call_answer p s.now vs) left

  -- an expression over variables by name, with the turns that are left; operands and arguments go
  -- from left to right
  abbrev mutual
    pub eval : (List ℕ → Option ValueTree) → ExprTree → ℕ → Res ValueTree
    eval look (IntExpr n) left = Done (IntValue n) left
    eval look (TextExpr t) left = Done (TextValue t) left
    eval look (BoolExpr b) left = Done (BoolValue b) left
    eval look VoidExpr left = Done VoidValue left
    eval look (VarExpr x) left = at_once (variable look x.name (named constant_names x.name)) left
    eval look (CallExpr f xs) left = then (eval_all look xs left) (λ vs left. called (named call_names f.name) f.name vs left)
    eval look (FieldExpr e x) left = then (eval look e left) (λ v left. at_once (field_answer (field s.records v x.name)) left)
    eval look (MethodExpr e m xs) left =
        then (eval look e left) (λ v left. then (eval_all look xs left)
        (λ vs left. at_once (method_called s.cells (selected m) v vs) left))
    eval look (NotExpr e) left = then (eval look e left) (λ v left. at_once (inverted v) left)
    eval look (NegExpr e) left = then (eval look e left) (λ v left. at_once (negated v) left)
    eval look (BinaryExpr op a b) left = then (eval look a left) (λ v left. second op v (eval look b) left)
    eval look (ParenExpr e) left = eval look e left

    pub eval_all : (List ℕ → Option ValueTree) → ExprTrees → ℕ → Res (List ValueTree)
    eval_all look NoExprs left = Done [] left
    eval_all look (MoreExprs e es) left = more_args (eval look e left) (eval_all look es)
