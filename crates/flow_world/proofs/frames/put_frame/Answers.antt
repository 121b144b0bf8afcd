use Rattle.std.proofs.Common.{rules, map, subst}
use Rattle.std.specs.Prelude.{Ok, Err, take}
use Rattle.flow_trace.specs.declared.line.Line.TheVariants as line
use Rattle.flow_world.specs.Around.{PutsPart, put_then, put_fails}
use Rattle.flow_world.specs.Tracing.{own_count, callback_line, frame_line, own_lines}
use Rattle.flow_world.proofs.Putting.{on_err, none_put}
use Rattle.flow_world.proofs.frames.put_frame.Goals as goal

pub returns-in_err-name-clause-part : goal.returns-in_err-name-clause-part
returns-in_err-name-clause-part g c =
    none_put g.L.LineOut.puts c.from_residual.result c.args.out.now (own_lines c.args.world.now.code.program.classes.items c.args.p c.args.frame.now c.args.callbacks.now)

pub returns-in_err-put-clause-part : goal.returns-in_err-put-clause-part
returns-in_err-put-clause-part g c =
    let f = c.args.frame.now in
    let fails = c.in_err-put.ensures.fails in
    on_err _ c.from_residual-in_err-put.result
    (put_fails (subst (λ n. g.L.LineOut.puts c.args.out.now (line.Frame c.args.p f.actor n f.state) (Err fails.fault) c.put.new.out) c.in_ok-name.ensures.name fails.put))

pub returns-in_err-put_callbacks-clause-part : goal.returns-in_err-put_callbacks-clause-part
returns-in_err-put_callbacks-clause-part g c =
    let f = c.args.frame.now in
    let all = c.args.callbacks.now in
    let told : g.L.LineOut.puts c.args.out.now (frame_line c.args.world.now.code.program.classes.items c.args.p f) (Ok tt) c.put.new.out = search rules in
    let part : PutsPart g.L.LineOut.puts c.put.new.out (map (callback_line c.args.p) (take (own_count f.actor all) all)) c.put_callbacks.new.out = search rules in
    on_err _ c.from_residual-in_err-put_callbacks.result (put_then told part)
