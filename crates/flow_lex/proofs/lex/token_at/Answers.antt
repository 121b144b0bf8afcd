use Rattle.std.proofs.Common.{sym}
use Rattle.flow_lex.proofs.Tokens.{comment_refusal}
use Rattle.flow_lex.proofs.lex.token_at.Goals as goal

pub returns-then-is_gap : goal.returns-then-is_gap
returns-then-is_gap c = comment_refusal c.args.text.now c.args.at (sym c.if-is_gap.ensures) c.requires.no_gap
