use Rattle.flow_tree.specs.declared.limits.TheConstants.{OF_PROGRAMS}
use Rattle.flow_parse.proofs.Trees.{type_answer, type_moves}
use Rattle.flow_parse.proofs.token.ty.Goals as goal

pub returns-clause-reads : goal.returns-clause-reads
returns-clause-reads c = λ limits. type_answer limits c.args.tokens.now c.args.at c.args.depth c.requires.within c.parse_type.result c.parse_type.ensures

pub returns-clause-moves : goal.returns-clause-moves
returns-clause-moves c = type_moves OF_PROGRAMS c.args.tokens.now c.args.at c.args.depth c.requires.within c.parse_type.result c.parse_type.ensures
