-- What the grammar derives has a name at the begin of each target and call.
use Rattle.flow_tree.specs.declared.token.Tokens.{Tokens}
use Rattle.flow_tree.specs.Body.{Body, AssignStmt, ModifyStmt, CallStmt}
use Rattle.flow_tree.specs.Decls.{ProgramTree}
use Rattle.flow_tree.specs.GrammarDecl.{IsProgram}
use Rattle.flow_tree.specs.Folds.{EachStmt}
use Rattle.flow_tree.specs.Formed.{IsFormed}
use Rattle.flow_tree.proofs.Folds.{each_follows}
use Rattle.flow_tree.proofs.Formed.{program_formed, bodies_follow}
use Rattle.flow_typing_laws.specs.Typing.Paths.{IsNamed, HasPaths, AllHavePaths}

named : (s : Body) → IsFormed s → IsNamed s
named (AssignStmt at xs e k) h = h
named (ModifyStmt at xs c k) h = h
named (CallStmt at xs es k) h = h
named _ h = tt

pub program_paths : (t : Tokens) (p : ProgramTree) → IsProgram t p → AllHavePaths p.decls
program_paths t p d = bodies_follow (λ b. EachStmt IsFormed b) HasPaths (each_follows IsFormed IsNamed named) p.decls (program_formed t p d)
