-- Actors that are run from their text: named variables, and a rest of items that are still to be done. The first item
-- decides the next step.
use Rattle.std.specs.Prelude.{ℕ, zero, suc, pos, Bool, true, false, List, [], ◌∷◌, ◌++◌}
use Rattle.std.specs.declared.option.Option.{Option}
use Rattle.std.specs.declared.option.Option.TheVariants.{None, Some}
use Rattle.flow_tree.specs.declared.ty.Ident.{Ident}
use Rattle.flow_tree.specs.declared.expr.Op.TheVariants.{Add, Sub}
use Rattle.flow_tree.specs.Tree.{ExprTree, IntExpr, VarExpr, FieldExpr, BinaryExpr, ParenExpr}
use Rattle.flow_tree.specs.Body.{IntoTree, WaitTree, ChangeTree, PlusChange, MinusChange, UpChange, DownChange, Body, Branches, NoBranches, MoreBranches}
use Rattle.flow_tree.specs.Decls.{RecordTree}
use Rattle.flow_value.specs.Values.{ValueTree, ErrorValue}
use Rattle.flow_eval.specs.Functions.{put_in, read_in}
use Rattle.flow_meaning.specs.Requests.{Spot, Drops}
use Rattle.flow_meaning.specs.Process.{Raised}
use Rattle.flow_meaning.specs.Evaluating.{StepOf, asks, quietly}
use Rattle.flow_class.specs.Scopes.{Local, Mark, Var, scope, all_locals, outside}
use Rattle.flow_meaning.specs.Variables.{Vars, emptied, filled, backwards, look, place_in, set_var}
use Rattle.flow_meaning.specs.Text.{past}

-- where a body stands in its text: the next wait, the variable of the innermost catch body around it, and whether the text is that
-- of a void actor
pub record Site : Type 0 where
  pub spot : Spot
  pub caught : Option (List ℕ)
  pub is_void : Bool

-- a loop; one without a condition goes on for ever
pub record Loop : Type 0 where
  pub site : Site
  pub condition : Option ExprTree
  pub step : Body
  pub inner : Body

-- the branches of a wait: a single wait, or those of a choose
pub data Cases : Type 0 where
  Single : WaitTree → Cases
  OneOf : Branches → Cases

-- where a value goes: to a declared variable, or to what a path leads to
pub data Target : Type 0 where
  Declared : IntoTree → Target
  Path : List Ident → Target

-- What is still to be done. An actor that has asked for an effect, or for an operand of a wait, stays at its statement
-- until it is told what that came to.
pub data Item : Type 0 where
  -- statements
  Do : Site → Body → Item
  -- the end of a scope
  Leave : Item
  -- a loop, before a pass begins, before its condition is tested, and after a pass was made
  Round : Loop → Item
  Check : Loop → Item
  Made : Loop → Item
  -- the end of a try body: the error's variable and the handler
  Handler : (name : List ℕ) → Site → Body → Item
  -- nothing: the actor is over
  Over : Item

pub record Actor : Type 0 where
  pub vars : Vars
  pub rest : List Item

abbrev pub actor : Vars → List Item → Actor
actor vars rest = record { vars = vars; rest = rest }

abbrev pub with_locals : Vars → List (Local (Option ValueTree)) → Vars
with_locals vars ls = record vars { locals = ls }

abbrev pub over : Actor
over = actor (record { states = []; locals = [] }) (Over ∷ [])

-- a place further on in the text
abbrev pub site_past : Body → Site → Site
site_past b s = record s { spot = past b s.spot }

abbrev pub site_at : Spot → Site → Site
site_at spot s = record s { spot = spot }

-- a scope begins
abbrev pub entered : Vars → Vars
entered vars = with_locals vars (Mark ∷ vars.locals)

-- A scope ends: its locals are dropped, newest first. One without locals ends with no further ado.
abbrev pub leave_scope : List (Option ValueTree) → ℕ → Actor → StepOf Actor
leave_scope [] left a = quietly a
leave_scope (o ∷ os) left a = asks left (Drops (filled (o ∷ os))) a

abbrev pub left_scope : ℕ → Vars → List Item → StepOf Actor
left_scope left vars rest = leave_scope (scope vars.locals) left (actor (with_locals vars (outside vars.locals)) rest)

-- everything that the variables hold: all locals, newest first, and then the state variables, the last one first
abbrev pub everything : Vars → List ValueTree
everything vars = filled (all_locals vars.locals) ++ filled (backwards vars.states)

-- a declared variable gets a value: the variables afterwards, and what stood there
abbrev pub is_there : Option ValueTree → List ValueTree
is_there o = filled (o ∷ [])

abbrev pub declare_by : (state : Bool) → List ℕ → ValueTree → Vars → List ValueTree × Vars
declare_by true x v vars = (is_there (look vars x), set_var vars x v)
declare_by false x v vars = ([], with_locals vars (Var x (Some v) ∷ vars.locals))

abbrev pub declare : IntoTree → ValueTree → Vars → List ValueTree × Vars
declare i v vars = declare_by i.state i.name.name v vars

-- what a path leads to gets a value
abbrev pub assign_root : List ℕ → Option ValueTree → List ValueTree → Vars → Option (List ValueTree × Vars)
assign_root x None old vars = None
assign_root x (Some root) old vars = Some (old, set_var vars x root)

abbrev pub assign_old : List RecordTree → Ident → List Ident → ValueTree → Vars → Option ValueTree → Option (List ValueTree × Vars)
assign_old rs x [] v vars old = Some (is_there old, set_var vars x.name v)
assign_old rs x (y ∷ ys) v vars old = assign_root x.name (put_in rs old (y ∷ ys) v) (is_there (read_in rs old (y ∷ ys))) vars

-- an assignment to what is no variable has no meaning
abbrev pub assign_at : List RecordTree → Ident → List Ident → ValueTree → Vars → Option (Option ValueTree) → Option (List ValueTree × Vars)
assign_at rs x xs v vars None = None
assign_at rs x xs v vars (Some old) = assign_old rs x xs v vars old

abbrev pub assign : List RecordTree → List Ident → ValueTree → Vars → Option (List ValueTree × Vars)
assign rs [] v vars = None
assign rs (x ∷ xs) v vars = assign_at rs x xs v vars (place_in vars x.name)

abbrev pub put_goal : List RecordTree → Target → ValueTree → Vars → Option (List ValueTree × Vars)
put_goal rs (Declared i) v vars = Some (declare i v vars)
put_goal rs (Path xs) v vars = assign rs xs v vars

-- a path as an expression, and `x += e` as `x = x + (e)`
abbrev pub path_from : ExprTree → List Ident → ExprTree
path_from e [] = e
path_from e (x ∷ xs) = path_from (FieldExpr e x) xs

abbrev pub modified : ChangeTree → ExprTree → ExprTree
modified (PlusChange e) x = BinaryExpr Add x (ParenExpr e)
modified (MinusChange e) x = BinaryExpr Sub x (ParenExpr e)
modified UpChange x = BinaryExpr Add x (IntExpr (pos 1))
modified DownChange x = BinaryExpr Sub x (IntExpr (pos 1))

abbrev pub change : List Ident → ChangeTree → Option ExprTree
change [] c = None
change (x ∷ xs) c = Some (modified c (path_from (VarExpr x) xs))

-- the operand of a branch, from 0
abbrev pub branch_operand : Branches → ℕ → Option ExprTree
branch_operand NoBranches n = None
branch_operand (MoreBranches at w b more) zero = Some w.operand
branch_operand (MoreBranches at w b more) (suc n) = branch_operand more n

abbrev pub operand : Cases → ℕ → Option ExprTree
operand (Single w) zero = Some w.operand
operand (Single w) (suc n) = None
operand (OneOf bs) n = branch_operand bs n

-- what an error leaves on its way to the innermost catch
pub record Unwound (P : Type 0) : Type 0 where
  pub left : List P
  pub locals : List (Local P)
  pub name : List ℕ
  pub site : Site
  pub handler : Body
  pub rest : List Item

abbrev pub unwind : {P : Type 0} → List P → List (Local P) → List Item → Option (Unwound P)
unwind ps es [] = None
unwind ps es (Leave ∷ r) = unwind (ps ++ scope es) (outside es) r
unwind ps es (Handler x s h ∷ r) = Some (record { left = ps; locals = es; name = x; site = s; handler = h; rest = r })
unwind ps es (Do s b ∷ r) = unwind ps es r
unwind ps es (Round l ∷ r) = unwind ps es r
unwind ps es (Check l ∷ r) = unwind ps es r
unwind ps es (Made l ∷ r) = unwind ps es r
unwind ps es (Over ∷ r) = unwind ps es r

abbrev pub raised : (error : ℕ) → Vars → Option (Unwound (Option ValueTree)) → Raised × Actor
raised err vars None = (record { caught = false; values = everything vars }, over)
raised err vars (Some u) = (
  record { caught = true; values = filled u.left },
  actor (with_locals vars (Var u.name (Some (ErrorValue err)) ∷ Mark ∷ u.locals)) (Do u.site u.handler ∷ Leave ∷ u.rest),
)

abbrev pub raise : (error : ℕ) → Actor → Raised × Actor
raise err a = raised err a.vars (unwind [] a.vars.locals a.rest)

-- all locals lose their values
abbrev pub lose : Actor → List ValueTree × Actor
lose a = (filled (all_locals a.vars.locals), actor (with_locals a.vars (emptied a.vars.locals)) a.rest)
