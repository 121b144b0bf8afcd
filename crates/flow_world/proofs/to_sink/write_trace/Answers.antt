use Rattle.std.proofs.Common.{rules, ◌≡◌, sym, ap, subst, ◌∙◌}
use Rattle.std.specs.Prelude.{Err}
use Rattle.flow_machine.specs.declared.host.RunFault.TheVariants.{OutOfMemory}
use Rattle.flow_world.specs.BreakingTraces.{TraceFails}
use Rattle.std.proofs.lemmas.Result.{IfErr-weaker, IfOk-weaker}
use Rattle.flow_base.specs.Bytes.{Grows}
use Rattle.flow_world.specs.FaultedLines.{telling, whole}
use Rattle.flow_world.specs.Watching.{hearing, watching}
use Rattle.flow_world.specs.WatchedTraces.{HeardTrace, HeardTracePart}
use Rattle.flow_world.specs.Written.{put_bytes}
use Rattle.flow_world.proofs.MovedHeard.{heard_trace_by, heard_part_by, trace_fails_by}
use Rattle.flow_world.proofs.Putting.{err_is}
use Rattle.flow_world.proofs.WatchedTraces.{fails_before}
use Rattle.flow_world.proofs.to_sink.write_trace.Goals as goal

pub returns-clause-traces : goal.returns-clause-traces
returns-clause-traces g c =
    let name = ap (λ k. k.0) c.put_trace-ending.ensures.kept in
    IfOk-weaker c.put_trace-ending.result _ _
    (λ ending t.
    let moved = heard_trace_by (λ w. (g.S.Sink.seen w.out.now).written) _ put_bytes (λ a b l answer p. p.1) c.args.with_frames c.args.classes c.args.world _ ending _ t.1 in (
      t.0,
      subst (λ v. HeardTrace put_bytes c.args.with_frames c.args.classes c.args.world (watching (g.S.Sink.seen c.args.out.now).written (g.P.Audience.ears c.args.panel.now)) ending
          (whole (hearing (g.S.Sink.seen v).written (g.P.Audience.ears c.put_trace-ending.new.panel) t.0))) (search rules) moved,
    ))
    c.put_trace-ending.ensures.traces

pub returns-clause-part : goal.returns-clause-part
returns-clause-part g c = λ fails.
    let name = ap (λ k. k.0) c.put_trace-ending.ensures.kept in
    let t = c.put_trace-ending.ensures.part fails in
    let moved = heard_part_by (λ w. (g.S.Sink.seen w.out.now).written) _ put_bytes (λ a b l answer p. p.1) c.args.with_frames c.args.classes c.args.world _ _ t.1 in (
      t.0,
      subst (λ v. HeardTracePart put_bytes c.args.with_frames c.args.classes c.args.world (watching (g.S.Sink.seen c.args.out.now).written (g.P.Audience.ears c.args.panel.now))
          (hearing (g.S.Sink.seen v).written (g.P.Audience.ears c.put_trace-ending.new.panel) t.0)) (search rules) moved,
    )

pub returns-clause-last : goal.returns-clause-last
returns-clause-last g c =
    let kept = c.put_trace-ending.ensures.kept in
    let name = ap (λ k. k.0) kept in
    let begin = ap (λ k. k.1) kept ∙ c.of-before.ensures in
    IfOk-weaker c.put_trace-ending.result _ _
    (λ ending last.
    let middle = last.0 in
    let put = last.1.1.whole in
    let grown = subst (λ v. Grows (g.S.Sink.seen v).written (g.S.Sink.seen middle.out.now).written) (sym last.1.0 ∙ begin) middle.grown in
    ((g.S.Sink.seen middle.out.now).written, grown, search rules))
    c.put_trace-ending.ensures.last

pub returns-clause-fails : goal.returns-clause-fails
returns-clause-fails g c =
    let name = ap (λ k. k.0) c.put_trace-ending.ensures.kept in
    let ears = g.P.Audience.ears c.args.panel.now in
    let others = g.P.Audience.ears c.put_trace-ending.new.panel in
    IfErr-weaker c.put_trace-ending.result _ _
    (λ f t.
    let moved = trace_fails_by (λ w. (g.S.Sink.seen w.out.now).written) _ put_bytes (λ a b l answer p. p.1) c.args.with_frames c.args.classes c.args.world _ f _ t.2 in (
      t.0,
      t.1,
      subst (λ v. TraceFails put_bytes c.args.with_frames c.args.classes c.args.world (watching (g.S.Sink.seen c.args.out.now).written ears) f
          (telling (hearing (g.S.Sink.seen v).written others t.0) t.1)) (search rules) moved,
    ))
    c.put_trace-ending.ensures.fails

pub returns-in_err-buffer-clause-fails : goal.returns-in_err-buffer-clause-fails
returns-in_err-buffer-clause-fails g c =
    let is : c.from_residual.result ≡ Err OutOfMemory = search rules in
    err_is _ _ _ is (fails_before put_bytes c.args.with_frames c.args.classes c.args.world (g.S.Sink.seen c.args.out.now).written (g.P.Audience.ears c.args.panel.now))
