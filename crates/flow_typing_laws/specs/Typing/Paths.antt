-- Each target and each call as a statement begins with a name: so the grammar has them.
use Rattle.std.specs.Prelude.{List}
use Rattle.flow_tree.specs.Body.{Body, AssignStmt, ModifyStmt, CallStmt, Branches}
use Rattle.flow_tree.specs.Decls.{DeclTree}
use Rattle.flow_tree.specs.Folds.{EachStmt, EachBranch}
use Rattle.flow_tree.specs.Formed.{IsPath, EachBody}

abbrev pub IsNamed : Body → Type 0
IsNamed (AssignStmt at xs e k) = IsPath xs
IsNamed (ModifyStmt at xs c k) = IsPath xs
IsNamed (CallStmt at xs es k) = IsPath xs
IsNamed b = Unit {0}

abbrev pub HasPaths : Body → Type 0
HasPaths b = EachStmt IsNamed b

abbrev pub HavePaths : Branches → Type 0
HavePaths bs = EachBranch IsNamed bs

abbrev pub AllHavePaths : List DeclTree → Type 0
AllHavePaths ds = EachBody HasPaths ds
