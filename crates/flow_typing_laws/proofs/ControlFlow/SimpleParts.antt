-- What the grammar derives has the parts of its `for`s as the laws ask.
use Rattle.flow_tree.specs.declared.token.Tokens.{Tokens}
use Rattle.flow_tree.specs.Body.{Body, ForStmt}
use Rattle.flow_tree.specs.Decls.{ProgramTree}
use Rattle.flow_tree.specs.GrammarDecl.{IsProgram}
use Rattle.flow_tree.specs.Folds.{EachStmt}
use Rattle.flow_tree.specs.Formed.{IsFormed}
use Rattle.flow_tree.proofs.Folds.{each_follows}
use Rattle.flow_tree.proofs.Formed.{program_formed, bodies_follow}
use Rattle.flow_typing_laws.specs.ControlFlow.Laws.{IsSimpleFor, HasSimpleParts, AllHaveSimpleParts}

simple_for : (s : Body) → IsFormed s → IsSimpleFor s
simple_for (ForStmt at i e t b k) h = h
simple_for _ h = tt

pub program_parts : (t : Tokens) (p : ProgramTree) → IsProgram t p → AllHaveSimpleParts p.decls
program_parts t p d = bodies_follow (λ b. EachStmt IsFormed b) HasSimpleParts (each_follows IsFormed IsSimpleFor simple_for) p.decls (program_formed t p d)
