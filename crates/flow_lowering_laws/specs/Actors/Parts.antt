-- What the grammar says of a `for` and of a change, beyond what the trees do.
use Rattle.flow_tree.specs.Body.{Body, ForStmt, ModifyStmt, Branches}
use Rattle.flow_tree.specs.Folds.{EachStmt, EachBranch}
use Rattle.flow_tree.specs.Formed.{IsPath, IsStep, IsInit}

-- the parts of each `for` are simple, and each change has a target
abbrev pub HasPart : Body → Type 0
HasPart (ForStmt at i e t b k) = IsInit i × IsStep t
HasPart (ModifyStmt at xs c k) = IsPath xs
HasPart b = Unit {0}

abbrev pub HasParts : Body → Type 0
HasParts b = EachStmt HasPart b

abbrev pub HaveParts : Branches → Type 0
HaveParts bs = EachBranch HasPart bs
