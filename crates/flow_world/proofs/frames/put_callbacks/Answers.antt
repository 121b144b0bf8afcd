use Rattle.std.proofs.Common.{rules, map, sym, subst, arith}
use Rattle.std.proofs.lemmas.List.{drop_more, drop_all}
use Rattle.flow_world.specs.Around.{Puts, no_line, more_lines, PutsPart, put_then, put_fails}
use Rattle.flow_world.proofs.Putting.{on_err}
use Rattle.flow_world.specs.Tracing.{callback_line}
use Rattle.flow_world.proofs.frames.put_callbacks.Goals as goal

pub loop-view-preserved : goal.loop-view-preserved
loop-view-preserved g c = record {
  risen = search rules;
  same = search rules;
  puts = λ after rest.
      c.loop-view.invariant.puts after
      (subst (λ vs. Puts g.L.LineOut.puts c.loop-view.out (map (callback_line c.args.p) vs) after) (sym (drop_more c.args.callbacks.now c.loop-view.view-index _ c.loop-view-test.true))
      (more_lines c.in_ok-put.ensures.puts rest));
  part = λ after rest.
      c.loop-view.invariant.part after
      (subst (λ vs. PutsPart g.L.LineOut.puts c.loop-view.out (map (callback_line c.args.p) vs) after) (sym (drop_more c.args.callbacks.now c.loop-view.view-index _ c.loop-view-test.true))
      (put_then c.in_ok-put.ensures.puts rest));
}

pub returns-clause-puts : goal.returns-clause-puts
returns-clause-puts g c =
    c.loop-view.invariant.puts _
    (subst (λ vs. Puts g.L.LineOut.puts c.loop-view.out (map (callback_line c.args.p) vs) c.loop-view.out)
    (sym (drop_all c.loop-view.view-index c.args.callbacks.now (omega (arith, c.loop-view-test.false)))) no_line)

pub returns-in_err-put-clause-part : goal.returns-in_err-put-clause-part
returns-in_err-put-clause-part g c =
    on_err _ c.from_residual.result
    (c.loop-view.invariant.part _
    (subst (λ vs. PutsPart g.L.LineOut.puts c.loop-view.out (map (callback_line c.args.p) vs) c.put.new.out) (sym (drop_more c.args.callbacks.now c.loop-view.view-index _ c.loop-view-test.true))
    (put_fails c.in_err-put.ensures.fails.put)))
