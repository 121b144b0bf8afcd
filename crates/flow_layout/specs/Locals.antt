-- The locals of an actor, and how many branches its groups have.
use Rattle.std.specs.Prelude.{ℕ, List, [], ◌∷◌, length, if◌then◌else◌}
use Rattle.std.specs.declared.option.Option.{Option}
use Rattle.std.specs.declared.option.Option.TheVariants.{None, Some}
use Rattle.flow_tree.specs.Tree.{TypeTree, ErrorType}
use Rattle.flow_tree.specs.Body.{IntoTree, WaitTree, Body, DeclareStmt, WaitStmt, Branches}
use Rattle.flow_tree.specs.Folds.{Fold, folded, folded_branches, listing}
use Rattle.flow_tree.specs.Decls.{RoutineTree}
use Rattle.flow_ast.specs.Slots.{groups_of}

-- a declared variable is a local, but for a state variable, which has a slot
abbrev pub declared_locals : IntoTree → List TypeTree
declared_locals i = if i.state then [] else i.ty ∷ []

abbrev pub into_locals : Option IntoTree → List TypeTree
into_locals None = []
into_locals (Some i) = declared_locals i

abbrev pub waited_locals : WaitTree → List TypeTree
waited_locals w = into_locals w.into

-- what a statement declares by itself is a local where it is no state variable
abbrev pub stmt_locals : Body → List TypeTree
stmt_locals (DeclareStmt at i e k) = declared_locals i
stmt_locals (WaitStmt at w k) = waited_locals w
stmt_locals b = []

-- The types of the locals that statements declare, in the order of the text. The variable of a catch comes after the
-- locals of its try body.
abbrev pub locals_listed : Fold (List TypeTree)
locals_listed = listing stmt_locals (λ x. ErrorType ∷ []) waited_locals

abbrev pub body_locals : Body → List TypeTree
body_locals b = folded locals_listed b

abbrev pub branch_locals : Branches → List TypeTree
branch_locals bs = folded_branches locals_listed bs

-- the locals of an actor, numbered from 0
abbrev pub locals_of : RoutineTree → List TypeTree
locals_of a = body_locals a.body

-- how many branches each group of an actor has
abbrev pub counts : List (List WaitTree) → List ℕ
counts [] = []
counts (ws ∷ gs) = length ws ∷ counts gs

abbrev pub branches_of : RoutineTree → List ℕ
branches_of a = counts (groups_of a)
