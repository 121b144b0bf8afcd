use Rattle.std.proofs.Common.{rules, ◌≡◌, refl}
use Rattle.std.specs.Prelude.{Err, None, Some}
use Rattle.std.proofs.lemmas.Result.{IfErr-weaker, IfOk-weaker}
use Rattle.flow_world.specs.FaultedLines.{telling, whole, failed}
use Rattle.flow_world.specs.WatchedTraces.{no_head}
use Rattle.flow_world.specs.BreakingTraces.{head_fails}
use Rattle.flow_world.specs.Worlds.{world_seen}
use Rattle.flow_world.proofs.Putting.{err_is}
use Rattle.flow_world.proofs.Telling.{failed_line, failed_put}
use Rattle.flow_world.proofs.Watching.{unheard_told}
use Rattle.flow_world.proofs.WatchedTraces.{rest_traced, rest_in_part, rest_failed}
use Rattle.flow_world.proofs.trace.put_lines.Goals as goal

pub returns-clause-traces : goal.returns-clause-traces
returns-clause-traces g c =
    let ears = g.P.Audience.ears c.args.panel.now in
    IfOk-weaker c.put_rest.result _ _
    (λ e t classes file starts. (t.0, rest_traced g.L.LineOut.puts c.args.with_frames classes file (world_seen c.args.world.now) _ _ ears starts c.in_ok-put.ensures.puts e _ t.1))
    c.put_rest.ensures.rests

pub returns-in_err-put-clause-part : goal.returns-in_err-put-clause-part
returns-in_err-put-clause-part g c = λ fails classes file starts.
    (None, no_head (unheard_told g.L.LineOut.puts (g.P.Audience.ears c.args.panel.now) None (whole c.args.out.now) (failed c.put.new.out) _ refl (failed_line g.L.LineOut.puts _ _ _ (failed_put g.L.LineOut.puts _ _ _ c.put.result (search rules) c.put.ensures.fails))))

pub returns-clause-part : goal.returns-clause-part
returns-clause-part g c = λ fails classes file starts.
    let ears = g.P.Audience.ears c.args.panel.now in
    let t = c.put_rest.ensures.part fails in
    (t.0, rest_in_part g.L.LineOut.puts c.args.with_frames classes file (world_seen c.args.world.now) _ _ ears starts c.in_ok-put.ensures.puts _ t.1)

pub returns-in_err-put-clause-fails : goal.returns-in_err-put-clause-fails
returns-in_err-put-clause-fails g c =
    let fails = c.in_err-put.ensures.fails in
    let ears = g.P.Audience.ears c.args.panel.now in
    let is : c.from_residual.result ≡ Err c.in_err-put.field-0.0 = search rules in
    err_is _ _ _ is (λ classes file starts. (
      None,
      Some fails.fault,
      head_fails fails.fault fails.is refl
          (unheard_told g.L.LineOut.puts ears None (whole c.args.out.now) (telling c.put.new.out (Some fails.fault)) _ refl (Err fails.fault, fails.put, refl)),
    ))

pub returns-clause-fails : goal.returns-clause-fails
returns-clause-fails g c =
    let ears = g.P.Audience.ears c.args.panel.now in
    IfErr-weaker c.put_rest.result _ _
    (λ z t classes file starts. (t.0, t.1, rest_failed g.L.LineOut.puts c.args.with_frames classes file (world_seen c.args.world.now) _ _ ears starts c.in_ok-put.ensures.puts z _ t.2))
    c.put_rest.ensures.fails
