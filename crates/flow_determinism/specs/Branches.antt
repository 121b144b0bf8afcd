-- Each `choose` has a branch: so the grammar has it.
use Rattle.std.specs.Prelude.{List}
use Rattle.flow_tree.specs.Body.{Body, ChooseStmt, Branches}
use Rattle.flow_tree.specs.Decls.{DeclTree}
use Rattle.flow_tree.specs.Folds.{EachStmt, EachBranch}
use Rattle.flow_tree.specs.Formed.{IsBranched, EachBody}

abbrev pub ChoiceIsBranched : Body → Type 0
ChoiceIsBranched (ChooseStmt at bs k) = IsBranched bs
ChoiceIsBranched b = Unit {0}

abbrev pub HasBranches : Body → Type 0
HasBranches b = EachStmt ChoiceIsBranched b

abbrev pub HaveBranches : Branches → Type 0
HaveBranches bs = EachBranch ChoiceIsBranched bs

abbrev pub AllHaveBranches : List DeclTree → Type 0
AllHaveBranches ds = EachBody HasBranches ds
