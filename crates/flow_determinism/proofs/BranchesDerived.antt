-- What the grammar derives has a branch in each `choose`.
use Rattle.flow_tree.specs.declared.token.Tokens.{Tokens}
use Rattle.flow_tree.specs.Body.{Body, ChooseStmt}
use Rattle.flow_tree.specs.Decls.{ProgramTree}
use Rattle.flow_tree.specs.GrammarDecl.{IsProgram}
use Rattle.flow_tree.specs.Folds.{EachStmt}
use Rattle.flow_tree.specs.Formed.{IsFormed}
use Rattle.flow_tree.proofs.Folds.{each_follows}
use Rattle.flow_tree.proofs.Formed.{program_formed, bodies_follow}
use Rattle.flow_determinism.specs.Branches.{ChoiceIsBranched, HasBranches, AllHaveBranches}

branched : (s : Body) → IsFormed s → ChoiceIsBranched s
branched (ChooseStmt at bs k) h = h
branched _ h = tt

pub program_branches : (t : Tokens) (p : ProgramTree) → IsProgram t p → AllHaveBranches p.decls
program_branches t p d = bodies_follow (λ b. EachStmt IsFormed b) HasBranches (each_follows IsFormed ChoiceIsBranched branched) p.decls (program_formed t p d)
