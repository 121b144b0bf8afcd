-- What the grammar says of each statement, beyond what the trees do.
use Rattle.std.specs.Prelude.{List, [], ◌∷◌}
use Rattle.flow_tree.specs.declared.ty.Ident.{Ident}
use Rattle.flow_tree.specs.Body.{Body, End, ForStmt, ChooseStmt, DeclareStmt, AssignStmt, ModifyStmt, CallStmt, Branches, NoBranches, MoreBranches}
use Rattle.flow_tree.specs.Decls.{DeclTree, StructDecl, FunctionDecl, ActorDecl}

-- a target, and what a statement calls, begins with a name
abbrev pub IsPath : List Ident → Type 0
IsPath [] = ⊥
IsPath (x ∷ xs) = Unit {0}

-- The step of a `for` is an assignment or a change alone, or absent; its init may be a declaration as well.
abbrev pub IsStep : Body → Type 0
IsStep End = Unit {0}
IsStep (AssignStmt at xs e End) = Unit {0}
IsStep (ModifyStmt at xs c End) = Unit {0}
IsStep b = ⊥

abbrev pub IsInit : Body → Type 0
IsInit (DeclareStmt at i e End) = Unit {0}
IsInit b = IsStep b

-- a `choose` has a branch
abbrev pub IsBranched : Branches → Type 0
IsBranched NoBranches = ⊥
IsBranched (MoreBranches at w b bs) = Unit {0}

-- the first statement of a body is as the grammar has it
abbrev pub IsFormed : Body → Type 0
IsFormed (ForStmt at i e t b k) = IsInit i × IsStep t
IsFormed (ChooseStmt at bs k) = IsBranched bs
IsFormed (AssignStmt at xs e k) = IsPath xs
IsFormed (ModifyStmt at xs c k) = IsPath xs
IsFormed (CallStmt at xs es k) = IsPath xs
IsFormed b = Unit {0}

-- P holds of the body of each function and of each actor
abbrev pub InDecl : (Body → Type 0) → DeclTree → Type 0
InDecl P (StructDecl r) = Unit {0}
InDecl P (FunctionDecl f) = P f.body
InDecl P (ActorDecl f) = P f.body

abbrev pub EachBody : (Body → Type 0) → List DeclTree → Type 0
EachBody P [] = Unit {0}
EachBody P (d ∷ ds) = InDecl P d × EachBody P ds
