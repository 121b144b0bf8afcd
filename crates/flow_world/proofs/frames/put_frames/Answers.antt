use Rattle.std.proofs.Common.{rules, ◌≡◌, ◌+◌, ◌-◌, ℕ, suc, List, refl, sym, subst, arith}
use Rattle.std.specs.List.{flat_map, range_with_len}
use Rattle.flow_trace.specs.declared.line.Line.{Line}
use Rattle.flow_world.specs.Around.{Puts, no_line, PutsPart}
use Rattle.flow_world.specs.Worlds.{world_seen}
use Rattle.flow_world.proofs.Putting.{on_err, puts_more, puts_part, part_more}
use Rattle.flow_world.specs.Tracing.{process_lines}
use Rattle.flow_world.proofs.frames.put_frames.Goals as goal

pub loop-number-init : goal.loop-number-init
loop-number-init g c =
    let lines : ℕ → List Line = λ n. process_lines (world_seen c.args.world.now) (record { 0 = n }) in
    let count = c.args.world.now.outside.net.processes in
    let all : count - 0 ≡ count = omega arith in
    record {
      risen = omega arith;
      same = refl;
      puts = λ after h. subst (λ n. Puts g.L.LineOut.puts c.args.out.now (flat_map lines (range_with_len 0 n)) after) all h;
      part = λ after h. subst (λ n. PutsPart g.L.LineOut.puts c.args.out.now (flat_map lines (range_with_len 0 n)) after) all h;
    }

pub loop-number-preserved : goal.loop-number-preserved
loop-number-preserved g c =
    let lines : ℕ → List Line = λ n. process_lines (world_seen c.args.world.now) (record { 0 = n }) in
    let count = c.args.world.now.outside.net.processes in
    let k = c.loop-number.number in
    let more : count - k ≡ suc (count - (k + 1)) = omega (arith, c.loop-number-test.true, c.processes-number-end.ensures) in
    record {
      risen = search rules;
      same = search rules;
      puts = λ after h.
          c.loop-number.invariant.puts after
          (subst (λ n. Puts g.L.LineOut.puts c.loop-number.out (flat_map lines (range_with_len k n)) after) (sym more)
          (puts_more g.L.LineOut.puts _ _ _ _ _ c.in_ok-put_process.ensures.puts h));
      part = λ after h.
          c.loop-number.invariant.part after
          (subst (λ n. PutsPart g.L.LineOut.puts c.loop-number.out (flat_map lines (range_with_len k n)) after) (sym more)
          (puts_part g.L.LineOut.puts _ _ _ _ _ c.in_ok-put_process.ensures.puts h));
    }

pub returns-clause-puts : goal.returns-clause-puts
returns-clause-puts g c =
    let lines : ℕ → List Line = λ n. process_lines (world_seen c.args.world.now) (record { 0 = n }) in
    let count = c.args.world.now.outside.net.processes in
    let k = c.loop-number.number in
    let none : count - k ≡ 0 = omega (arith, c.loop-number-test.false, c.processes-number-end.ensures) in
    c.loop-number.invariant.puts _
    (subst (λ n. Puts g.L.LineOut.puts c.loop-number.out (flat_map lines (range_with_len k n)) c.loop-number.out) (sym none) no_line)

pub returns-in_err-put_process-clause-stuck : goal.returns-in_err-put_process-clause-stuck
returns-in_err-put_process-clause-stuck g c = λ stuck. (record { 0 = c.loop-number.number }, c.put_process.ensures.stuck (search rules))

pub returns-in_err-put_process-clause-part : goal.returns-in_err-put_process-clause-part
returns-in_err-put_process-clause-part g c =
    let lines : ℕ → List Line = λ n. process_lines (world_seen c.args.world.now) (record { 0 = n }) in
    let count = c.args.world.now.outside.net.processes in
    let k = c.loop-number.number in
    let more : count - k ≡ suc (count - (k + 1)) = omega (arith, c.loop-number-test.true, c.processes-number-end.ensures) in
    on_err _ c.from_residual.result
    (c.loop-number.invariant.part _
    (subst (λ n. PutsPart g.L.LineOut.puts c.loop-number.out (flat_map lines (range_with_len k n)) c.put_process.new.out) (sym more)
    (part_more g.L.LineOut.puts _ _ _ _ c.in_err-put_process.ensures.part)))
