-- Actors that are run from their text, as actors of a process.
use Rattle.std.specs.Prelude.{ℕ, zero, suc, Bool, true, false, List, [], ◌∷◌, map, length, position, slice_get, unwrap_or, codes}
use Rattle.std.specs.Str.{bytes_eq}
use Rattle.std.specs.declared.option.Option.{Option}
use Rattle.std.specs.declared.option.Option.TheVariants.{None, Some}
use Rattle.flow_tree.specs.Body.{IntoTree, Branches, NoBranches, MoreBranches, ChooseStmt, DeclareStmt, AssignStmt, WaitStmt}
use Rattle.flow_tree.specs.Decls.{ParamTree, SlotTree, RoutineTree, RecordTree, DeclTree, StructDecl, FunctionDecl, ActorDecl, ProgramTree}
use Rattle.flow_ast.specs.Slots.{body_slots}
use Rattle.flow_ast.specs.Typing.{is_nothing}
use Rattle.flow_tree.specs.Tree.{TypeTree, PromiseType, PromiseStreamType, ExprTree}
use Rattle.flow_value.specs.Values.{ValueTree}
use Rattle.flow_meaning.specs.Cells.{is_some}
use Rattle.flow_meaning.specs.Process.{Engine}
use Rattle.flow_meaning.specs.Evaluating.{Names, bind, effect_in}
use Rattle.flow_meaning.specs.Variables.{Vars, occ_vars}
use Rattle.flow_meaning.specs.Text.{first_spot, next_spot, branch_count, past, past_branches}
use Rattle.flow_meaning.specs.Items.{Site, Item, Do, Leave, Actor, actor, entered, site_at, declare, assign, raise, lose}
use Rattle.flow_meaning.specs.SourceStep.{next_step}

-- the records, functions and actors of a program, in the order of the text
abbrev pub records_in : List DeclTree → List RecordTree
records_in [] = []
records_in (StructDecl r ∷ ds) = r ∷ records_in ds
records_in (FunctionDecl f ∷ ds) = records_in ds
records_in (ActorDecl a ∷ ds) = records_in ds

abbrev pub functions_in : List DeclTree → List RoutineTree
functions_in [] = []
functions_in (StructDecl r ∷ ds) = functions_in ds
functions_in (FunctionDecl f ∷ ds) = f ∷ functions_in ds
functions_in (ActorDecl a ∷ ds) = functions_in ds

abbrev pub actors_in : List DeclTree → List RoutineTree
actors_in [] = []
actors_in (StructDecl r ∷ ds) = actors_in ds
actors_in (FunctionDecl f ∷ ds) = actors_in ds
actors_in (ActorDecl a ∷ ds) = a ∷ actors_in ds

abbrev pub routine_name : RoutineTree → List ℕ
routine_name a = a.name.name

abbrev pub names_of : ProgramTree → Names
names_of p = record { records = records_in p.decls; functions = functions_in p.decls; actors = map routine_name (actors_in p.decls) }

-- the place of `main`, or a place of no actor
abbrev pub main_of : List (List ℕ) → ℕ
main_of names = unwrap_or (position (bytes_eq (codes "main")) names) (length names)

-- parameters with their arguments, if there are as many, and then the state variables without values
abbrev pub no_values : List SlotTree → List (List ℕ × Option ValueTree)
no_values [] = []
no_values (s ∷ ss) = (s.name, None) ∷ no_values ss

abbrev pub more : {A : Type 0} → A → Option (List A) → Option (List A)
more x None = None
more x (Some xs) = Some (x ∷ xs)

abbrev pub with_args : List ParamTree → List ValueTree → List (List ℕ × Option ValueTree) → Option (List (List ℕ × Option ValueTree))
with_args [] [] rest = Some rest
with_args [] (v ∷ vs) rest = None
with_args (p ∷ ps) [] rest = None
with_args (p ∷ ps) (v ∷ vs) rest = more (p.name.name, Some v) (with_args ps vs rest)

-- the begin of an actor's text, and the actor there
abbrev pub first_site : RoutineTree → Site
first_site a = record { spot = first_spot; caught = None; is_void = is_nothing a.returns }

abbrev pub begun : RoutineTree → List (List ℕ × Option ValueTree) → Actor
begun a ss = actor (record { states = ss; locals = [] }) (Do (first_site a) a.body ∷ [])

abbrev pub fresh_from : Option RoutineTree → List ValueTree → Option Actor
fresh_from None vs = None
fresh_from (Some a) vs = bind (with_args a.params vs (no_values (body_slots a.body))) (λ ss. Some (begun a ss))

-- the result of an effect comes to the statement that asked for it, and the actor goes on behind it
abbrev pub stored : Actor → List Item → Option (List ValueTree × Vars) → List ValueTree × Actor
stored a r None = ([], a)
stored a r (Some p) = (p.0, actor p.1 r)

abbrev pub store_if : (asked : Bool) → Actor → List Item → Option (List ValueTree × Vars) → List ValueTree × Actor
store_if false a r o = ([], a)
store_if true a r o = stored a r o

-- whether a declaration without a value makes a new cell
abbrev pub makes_cell : TypeTree → Bool
makes_cell (PromiseType t) = true
makes_cell (PromiseStreamType t) = true
makes_cell _ = false

abbrev pub is_effect_in : Names → ExprTree → Bool
is_effect_in ns e = is_some (effect_in ns e)

abbrev pub store_at : Names → ValueTree → Actor → List Item → List ValueTree × Actor
store_at ns v a (Do s (DeclareStmt at i (Some e) k) ∷ r) = store_if (is_effect_in ns e) a (Do s k ∷ r) (Some (declare i v a.vars))
store_at ns v a (Do s (DeclareStmt at i None k) ∷ r) = store_if (makes_cell i.ty) a (Do s k ∷ r) (Some (declare i v a.vars))
store_at ns v a (Do s (AssignStmt at xs e k) ∷ r) = store_if (is_effect_in ns e) a (Do s k ∷ r) (assign ns.records xs v a.vars)
store_at ns v a _ = ([], a)

-- the value of a wait goes to the variable that it declares, or is dropped
abbrev pub bound : Option IntoTree → ValueTree → Vars → List ValueTree × Vars
bound None v vars = (v ∷ [], vars)
bound (Some i) v vars = declare i v vars

abbrev pub onward : List Item → List ValueTree × Vars → List ValueTree × Actor
onward r p = (p.0, actor p.1 r)

-- a branch of a choose, with the place of its body in the text
abbrev pub take_case : Branches → ℕ → Site → ValueTree → Actor → List Item → List ValueTree × Actor
take_case NoBranches n s v a r = ([], a)
take_case (MoreBranches at w b bs) zero s v a r = onward (Do s b ∷ Leave ∷ r) (bound w.into v (entered a.vars))
take_case (MoreBranches at w b bs) (suc n) s v a r = take_case bs n (site_at (past b s.spot) s) v a r

-- The first statement is a wait, which has branch 0 alone, or a choose; the actor goes on behind it.
abbrev pub take_at : (branch : ℕ) → ValueTree → Actor → List Item → List ValueTree × Actor
take_at zero v a (Do s (WaitStmt at w k) ∷ r) = onward (Do (site_at (next_spot 1 s.spot) s) k ∷ r) (bound w.into v a.vars)
take_at n v a (Do s (ChooseStmt at bs k) ∷ r) =
    let inside = next_spot (branch_count bs) s.spot in
    take_case bs n (site_at inside s) v a (Do (site_at (past_branches bs inside) s) k ∷ r)
take_at n v a _ = ([], a)

-- the actors of a program
abbrev pub source : ProgramTree → Engine Actor
source p = record {
  main = main_of (names_of p).actors;
  label = λ k. unwrap_or (slice_get (names_of p).actors k) [];
  fresh = λ k vs. fresh_from (slice_get (actors_in p.decls) k) vs;
  next = next_step (names_of p);
  lose = lose;
  store = λ v a. store_at (names_of p) v a a.rest;
  take = λ n v a. take_at n v a a.rest;
  raise = raise;
  occ = λ s k a. occ_vars s k a.vars;
}
