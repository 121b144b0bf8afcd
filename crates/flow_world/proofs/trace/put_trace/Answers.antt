use Rattle.std.proofs.Common.{rules, ◌≡◌}
use Rattle.std.specs.Prelude.{Err}
use Rattle.std.proofs.lemmas.Result.{IfErr-weaker, IfOk-weaker}
use Rattle.flow_machine.specs.declared.host.RunFault.TheVariants.{OutOfMemory}
use Rattle.flow_world.proofs.Putting.{err_is}
use Rattle.flow_world.proofs.WatchedTraces.{fails_before}
use Rattle.flow_world.proofs.trace.put_trace.Goals as goal

pub returns-clause-traces : goal.returns-clause-traces
returns-clause-traces g c =
    IfOk-weaker c.put_lines.result _ _ (λ ending traces. traces c.args.classes c.args.world c.in_ok-world.ensures.starts) c.put_lines.ensures.traces

pub returns-clause-part : goal.returns-clause-part
returns-clause-part g c = λ fails. c.put_lines.ensures.part fails c.args.classes c.args.world c.in_ok-world.ensures.starts

pub returns-clause-fails : goal.returns-clause-fails
returns-clause-fails g c = IfErr-weaker c.put_lines.result _ _ (λ f fails. fails c.args.classes c.args.world c.in_ok-world.ensures.starts) c.put_lines.ensures.fails

pub returns-in_err-world-clause-fails : goal.returns-in_err-world-clause-fails
returns-in_err-world-clause-fails g c =
    let is : c.from_residual.result ≡ Err OutOfMemory = search rules in
    err_is _ _ _ is (fails_before g.L.LineOut.puts c.args.with_frames c.args.classes c.args.world c.args.out.now (g.P.Audience.ears c.args.panel.now))
