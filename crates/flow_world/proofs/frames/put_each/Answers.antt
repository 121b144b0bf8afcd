use Rattle.std.proofs.Common.{rules, ◌+◌, drop, sym, subst, arith}
use Rattle.std.proofs.lemmas.List.{drop_more, drop_all}
use Rattle.flow_world.specs.Around.{Puts, no_line, PutsPart}
use Rattle.flow_world.proofs.Putting.{on_err, puts_more, puts_part, part_more}
use Rattle.flow_world.specs.Tracing.{frames_lines}
use Rattle.flow_world.proofs.Framing.{some_no_class}
use Rattle.flow_world.proofs.frames.put_each.Goals as goal

pub loop-frame-preserved : goal.loop-frame-preserved
loop-frame-preserved g c =
    let classes = c.args.world.now.code.program.classes.items in
    let i = c.loop-frame.frame-index in
    let all = c.args.frames.now in
    let split = drop_more all i (record { actor = record { 0 = 0 }; class = 0; state = 0 }) c.loop-frame-test.true in
    record {
      risen = search rules;
      same = search rules;
      puts = λ after rest.
          c.loop-frame.invariant.puts after
          (subst (λ fs. Puts g.L.LineOut.puts c.loop-frame.out (frames_lines classes c.args.p fs c.loop-frame.rest.now) after) (sym split)
          (puts_more g.L.LineOut.puts _ _ _ _ _ c.in_ok-rest.ensures.puts
          (subst (λ hs. Puts g.L.LineOut.puts c.put_frame.new.out (frames_lines classes c.args.p (drop (i + 1) all) hs) after) c.in_ok-rest.ensures.others rest)));
      part = λ after rest.
          c.loop-frame.invariant.part after
          (subst (λ fs. PutsPart g.L.LineOut.puts c.loop-frame.out (frames_lines classes c.args.p fs c.loop-frame.rest.now) after) (sym split)
          (puts_part g.L.LineOut.puts _ _ _ _ _ c.in_ok-rest.ensures.puts
          (subst (λ hs. PutsPart g.L.LineOut.puts c.put_frame.new.out (frames_lines classes c.args.p (drop (i + 1) all) hs) after) c.in_ok-rest.ensures.others rest)));
    }

pub returns-clause-puts : goal.returns-clause-puts
returns-clause-puts g c =
    let classes = c.args.world.now.code.program.classes.items in
    c.loop-frame.invariant.puts _
    (subst (λ fs. Puts g.L.LineOut.puts c.loop-frame.out (frames_lines classes c.args.p fs c.loop-frame.rest.now) c.loop-frame.out)
    (sym (drop_all c.loop-frame.frame-index c.args.frames.now (omega (arith, c.loop-frame-test.false)))) no_line)

pub returns-in_err-rest-clause-stuck : goal.returns-in_err-rest-clause-stuck
returns-in_err-rest-clause-stuck g c = λ stuck.
    some_no_class c.args.world.now.code.program.classes.items c.args.frames.now c.loop-frame.frame-index (record { actor = record { 0 = 0 }; class = 0; state = 0 }) c.loop-frame-test.true
    (c.put_frame.ensures.stuck (search rules))

pub returns-in_err-rest-clause-part : goal.returns-in_err-rest-clause-part
returns-in_err-rest-clause-part g c =
    let classes = c.args.world.now.code.program.classes.items in
    let i = c.loop-frame.frame-index in
    let all = c.args.frames.now in
    let split = drop_more all i (record { actor = record { 0 = 0 }; class = 0; state = 0 }) c.loop-frame-test.true in
    on_err _ c.from_residual.result
    (c.loop-frame.invariant.part _
    (subst (λ fs. PutsPart g.L.LineOut.puts c.loop-frame.out (frames_lines classes c.args.p fs c.loop-frame.rest.now) c.put_frame.new.out) (sym split)
    (part_more g.L.LineOut.puts _ _ _ _ c.in_err-rest.ensures.part)))
