use Rattle.std.proofs.Common.{arith}
use Rattle.flow_front.specs.Verdict.{too_long}
use Rattle.flow_front.proofs.Judging.{without_tokens, by_tokens}
use Rattle.flow_front.proofs.verdict.read_program.Goals as goal

pub returns-then-bytes-gt-PROGRAM_BYTES : goal.returns-then-bytes-gt-PROGRAM_BYTES
returns-then-bytes-gt-PROGRAM_BYTES c = too_long (omega (arith, c.if-bytes-gt-PROGRAM_BYTES.true))

pub returns-in-Ok : goal.returns-in-Ok
returns-in-Ok c = by_tokens c.args.bytes.now c.in-Ok.tokens c.parse.result (omega (arith, c.if-bytes-gt-PROGRAM_BYTES.false)) c.in-Ok.ensures c.parse.ensures

pub returns-in-Err : goal.returns-in-Err
returns-in-Err c = without_tokens c.args.bytes.now c.in-Err.fault (omega (arith, c.if-bytes-gt-PROGRAM_BYTES.false)) c.in-Err.ensures
