use Rattle.std.proofs.Common.{rules, ◌≡◌, refl, subst, ◌∙◌}
use Rattle.std.specs.Prelude.{Ok, Err, None, Some}
use Rattle.flow_base.specs.declared.fault.OutFault.TheVariants.{Failed}
use Rattle.flow_machine.specs.declared.host.RunFault.TheVariants.{OutOfMemory}
use Rattle.flow_world.specs.FaultedLines.{telling, whole, failed}
use Rattle.flow_world.specs.Watching.{watching, hearing}
use Rattle.flow_world.specs.WatchedTraces.{in_rest, no_last}
use Rattle.flow_world.specs.BreakingTraces.{in_events, unnamed, at_last}
use Rattle.flow_world.proofs.Putting.{err_is}
use Rattle.flow_world.proofs.Telling.{whole_line, failed_line, failed_put}
use Rattle.flow_world.proofs.Watching.{unheard_told, last_unheard, last_same}
use Rattle.flow_world.proofs.trace.put_rest.Goals as goal

pub returns-clause-rests : goal.returns-clause-rests
returns-clause-rests g c =
    let ears = g.P.Audience.ears c.args.panel.now in
    let others = g.P.Audience.ears c.put_events.new.panel in
    let same = c.in_ok-line.ensures ∙ last_same ears others c.in_ok-ending.ending c.put_events.ensures.names in
    let goes = c.in_ok-ending.ensures.goes in (
      goes.0,
      record {
        before = hearing c.put_events.new.out others goes.0;
        goes = goes.1;
        ended = unheard_told g.L.LineOut.puts others goes.0 (whole c.put_events.new.out) (whole c.put.new.out) _ (last_unheard ears c.in_ok-ending.ending)
            (whole_line g.L.LineOut.puts _ _ _ (subst (λ l. g.L.LineOut.puts c.put_events.new.out l (Ok tt) c.put.new.out) same c.in_ok-put.ensures.puts));
      },
    )

pub returns-in_err-ending-clause-part : goal.returns-in_err-ending-clause-part
returns-in_err-ending-clause-part g c = λ fails.
    let t = c.put_events.ensures.part (search rules) in
    (t.0, in_rest t.1)

pub returns-in_err-put-clause-part : goal.returns-in_err-put-clause-part
returns-in_err-put-clause-part g c = λ fails.
    let ears = g.P.Audience.ears c.args.panel.now in
    let others = g.P.Audience.ears c.put_events.new.panel in
    let same = c.in_ok-line.ensures ∙ last_same ears others c.in_ok-ending.ending c.put_events.ensures.names in
    let goes = c.in_ok-ending.ensures.goes in (
      goes.0,
      no_last {e = c.in_ok-ending.ending} (record {
        before = hearing c.put_events.new.out others goes.0;
        goes = goes.1;
        ended = unheard_told g.L.LineOut.puts others goes.0 (whole c.put_events.new.out) (failed c.put.new.out) _ (last_unheard ears c.in_ok-ending.ending)
            (failed_line g.L.LineOut.puts _ _ _ (subst (λ l. g.L.LineOut.puts c.put_events.new.out l (Err Failed) c.put.new.out) same (failed_put g.L.LineOut.puts _ _ _ c.put.result (search rules) c.put.ensures.fails)));
      }),
    )

pub returns-in_err-ending-clause-fails : goal.returns-in_err-ending-clause-fails
returns-in_err-ending-clause-fails g c =
    let t = c.in_err-ending.ensures.fails in
    let is : c.from_residual.result ≡ Err c.in_err-ending.field-0.0 = search rules in
    err_is _ _ _ is (t.0, t.1, in_events t.2)

pub returns-in_err-line-clause-fails : goal.returns-in_err-line-clause-fails
returns-in_err-line-clause-fails g c =
    let others = g.P.Audience.ears c.put_events.new.panel in
    let goes = c.in_ok-ending.ensures.goes in
    let is : c.from_residual-in_err-line.result ≡ Err OutOfMemory = search rules in
    err_is _ _ _ is (goes.0, None, unnamed c.in_ok-ending.ending (hearing c.put_events.new.out others goes.0) refl refl goes.1)

pub returns-in_err-put-clause-fails : goal.returns-in_err-put-clause-fails
returns-in_err-put-clause-fails g c =
    let fails = c.in_err-put.ensures.fails in
    let ears = g.P.Audience.ears c.args.panel.now in
    let others = g.P.Audience.ears c.put_events.new.panel in
    let same = c.in_ok-line.ensures ∙ last_same ears others c.in_ok-ending.ending c.put_events.ensures.names in
    let goes = c.in_ok-ending.ensures.goes in
    let is : c.from_residual-in_err-put.result ≡ Err c.in_err-put.field-0.0 = search rules in
    err_is _ _ _ is (
      goes.0,
      Some fails.fault,
      at_last fails.fault c.in_ok-ending.ending fails.is refl (record {
        before = hearing c.put_events.new.out others goes.0;
        goes = goes.1;
        ended = unheard_told g.L.LineOut.puts others goes.0 (whole c.put_events.new.out) (telling c.put.new.out (Some fails.fault)) _ (last_unheard ears c.in_ok-ending.ending)
            (Err fails.fault, subst (λ l. g.L.LineOut.puts c.put_events.new.out l (Err fails.fault) c.put.new.out) same fails.put, refl);
      }),
    )

pub returns-clause-last : goal.returns-clause-last
returns-clause-last g c =
    let same = c.in_ok-line.ensures ∙ last_same (g.P.Audience.ears c.args.panel.now) (g.P.Audience.ears c.put_events.new.panel) c.in_ok-ending.ending c.put_events.ensures.names in
    (c.put_events.new.out, subst (λ l. g.L.LineOut.puts c.put_events.new.out l (Ok tt) c.put.new.out) same c.in_ok-put.ensures.puts)
