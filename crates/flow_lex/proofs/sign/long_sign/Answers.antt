use Rattle.std.proofs.Common.{arith}
use Rattle.flow_lex.proofs.Tables.{long_missing, long_found}
use Rattle.flow_lex.proofs.sign.long_sign.Goals as goal

pub returns-clause-none : goal.returns-clause-none
returns-clause-none c = λ e lt. long_missing c.args.text.now c.front.result.now c.sign_of.result c.sign_of.ensures c.front.ensures e

pub returns-clause-some : goal.returns-clause-some
returns-clause-some c = long_found c.args.text.now c.front.result.now c.sign_of.result c.sign_of.ensures c.front.ensures (omega arith)
