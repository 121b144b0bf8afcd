use Rattle.std.proofs.Common.{◌≡◌, ◌+◌, ◌∙◌, ap, arith, append_assoc, length, length-append}
use Rattle.flow_trace.proofs.Printing.{spelled_by_run, spelled_plain}
use Rattle.flow_trace.proofs.buffer.LineBuf.put_quoted.Goals as goal

pub loop-run-preserved : goal.loop-run-preserved
loop-run-preserved c =
    let short : length c.bytes.result.now ≡ length c.spell_byte.result = ap length c.bytes.ensures.bytes in
    let front : length c.put.new.self ≡ length c.loop-run.self + length c.split_at.result.0.now =
    ap length c.put.ensures ∙ length-append c.loop-run.self c.split_at.result.0.now in
    let longer : length c.put-in-Some.new.self ≡ length c.put.new.self + length c.bytes.result.now =
    ap length c.put-in-Some.ensures ∙ length-append c.put.new.self c.bytes.result.now in
    record {
      written = grind (arith, append_assoc, spelled_by_run c.loop-run.rest.now c.in-Some.run');
      room = omega (arith, short, front, longer, c.bytes.ensures.short, c.split_at.ensures.front_len, c.split_at.ensures.back_len, c.split_at-in-Some.ensures.back_len, c.loop-run.invariant.room);
    }

pub returns-clause-bytes : goal.returns-clause-bytes
returns-clause-bytes c = grind (arith, append_assoc, spelled_plain c.loop-run.rest.now)
