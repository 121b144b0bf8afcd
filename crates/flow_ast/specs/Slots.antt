-- What of an actor's text its frame keeps: the slots, and the groups of branches at which it waits.
use Rattle.std.specs.Prelude.{List, [], ◌∷◌, ◌++◌, map, if◌then◌else◌}
use Rattle.std.specs.declared.option.Option.{Option}
use Rattle.std.specs.declared.option.Option.TheVariants.{None, Some}
use Rattle.flow_tree.specs.Body.{IntoTree, WaitTree, Body, ChooseStmt, DeclareStmt, WaitStmt, Branches, NoBranches, MoreBranches}
use Rattle.flow_tree.specs.Folds.{Fold, folded, folded_branches, listing, no_items}
use Rattle.flow_tree.specs.Decls.{ParamTree, SlotTree, RoutineTree}

-- a state variable has a slot, a local has none
abbrev pub declared_slots : IntoTree → List SlotTree
declared_slots i = if i.state then record { ty = i.ty; name = i.name.name } ∷ [] else []

abbrev pub into_slots : Option IntoTree → List SlotTree
into_slots None = []
into_slots (Some i) = declared_slots i

abbrev pub waited_slots : WaitTree → List SlotTree
waited_slots w = into_slots w.into

-- what a statement declares by itself has a slot where it is a state variable
abbrev pub stmt_slots : Body → List SlotTree
stmt_slots (DeclareStmt at i e k) = declared_slots i
stmt_slots (WaitStmt at w k) = waited_slots w
stmt_slots b = []

-- the slots of the state variables that statements declare, in the order of the text
abbrev pub slots_listed : Fold (List SlotTree)
slots_listed = listing stmt_slots no_items waited_slots

abbrev pub body_slots : Body → List SlotTree
body_slots b = folded slots_listed b

abbrev pub branch_slots : Branches → List SlotTree
branch_slots bs = folded_branches slots_listed bs

-- the slot of a parameter
abbrev pub param_slot : ParamTree → SlotTree
param_slot p = record { ty = p.ty; name = p.name.name }

-- the slots of an actor: its parameters, and then its state variables in the order of the text
abbrev pub slots_of : RoutineTree → List SlotTree
slots_of a = map param_slot a.params ++ body_slots a.body

-- the waits of the branches of a choose
abbrev pub branch_waits : Branches → List WaitTree
branch_waits NoBranches = []
branch_waits (MoreBranches at w b bs) = w ∷ branch_waits bs

-- a wait is a group of one branch, a choose one of its branches
abbrev pub stmt_groups : Body → List (List WaitTree)
stmt_groups (ChooseStmt at bs k) = branch_waits bs ∷ []
stmt_groups (WaitStmt at w k) = (w ∷ []) ∷ []
stmt_groups b = []

-- the groups of statements in the order of the text: those inside of a choose's branches come after it
abbrev pub groups_listed : Fold (List (List WaitTree))
groups_listed = listing stmt_groups no_items no_items

abbrev pub body_groups : Body → List (List WaitTree)
body_groups b = folded groups_listed b

abbrev pub branch_groups : Branches → List (List WaitTree)
branch_groups bs = folded_branches groups_listed bs

-- the groups of an actor, the first of which has number 1; their branches are numbered from 0 through
-- all of them
abbrev pub groups_of : RoutineTree → List (List WaitTree)
groups_of a = body_groups a.body
