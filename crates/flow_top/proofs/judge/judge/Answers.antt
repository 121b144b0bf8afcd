use Rattle.std.proofs.Common.{Err, subst, sym}
use Rattle.flow_words.specs.Asked.{request_of}
use Rattle.flow_top.specs.Steps.{RunsTo}
use Rattle.flow_top.proofs.Deciding.{ended, program_runs}
use Rattle.flow_top.proofs.judge.judge.Goals as goal

pub returns-in-Format-clause-runs : goal.returns-in-Format-clause-runs
returns-in-Format-clause-runs c =
    subst (λ a. RunsTo c.args.text.now (request_of a) (Err c.format.result)) (sym c.in-Format.is) (ended c.args.text.now _ c.format.result (c.format.ensures _))

pub returns-in-Check-clause-runs : goal.returns-in-Check-clause-runs
returns-in-Check-clause-runs c =
    subst (λ a. RunsTo c.args.text.now (request_of a) (Err c.check.result)) (sym c.in-Check.is) (ended c.args.text.now _ c.check.result (c.check.ensures _))

pub returns-in-Compile-clause-runs : goal.returns-in-Compile-clause-runs
returns-in-Compile-clause-runs c =
    subst (λ a. RunsTo c.args.text.now (request_of a) (Err c.compiled.result)) (sym c.in-Compile.is) (ended c.args.text.now _ c.compiled.result (c.compiled.ensures _))

pub returns-in-Run-clause-runs : goal.returns-in-Run-clause-runs
returns-in-Run-clause-runs c =
    subst (λ a. RunsTo c.args.text.now (request_of a) c.program.result) (sym c.in-Run.is)
    (program_runs c.args.text.now _ c.program.result tt (λ p. tt) c.program.ensures)

pub returns-in-Bench-clause-runs : goal.returns-in-Bench-clause-runs
returns-in-Bench-clause-runs c =
    subst (λ a. RunsTo c.args.text.now (request_of a) c.program-in-Bench.result) (sym c.in-Bench.is)
    (program_runs c.args.text.now _ c.program-in-Bench.result tt (λ p. tt) c.program-in-Bench.ensures)

pub returns-in-Shrink-clause-runs : goal.returns-in-Shrink-clause-runs
returns-in-Shrink-clause-runs c =
    subst (λ a. RunsTo c.args.text.now (request_of a) c.program-in-Shrink.result) (sym c.in-Shrink.is)
    (program_runs c.args.text.now _ c.program-in-Shrink.result tt (λ p. tt) c.program-in-Shrink.ensures)

pub returns-in-Debug-clause-runs : goal.returns-in-Debug-clause-runs
returns-in-Debug-clause-runs c =
    subst (λ a. RunsTo c.args.text.now (request_of a) c.program_with_waits.result) (sym c.in-Debug.is)
    (program_runs c.args.text.now _ c.program_with_waits.result tt (λ p. tt) c.program_with_waits.ensures.judged)

pub returns-in-Upgrade-clause-runs : goal.returns-in-Upgrade-clause-runs
returns-in-Upgrade-clause-runs c =
    subst (λ a. RunsTo c.args.text.now (request_of a) (Err c.upgraded.result)) (sym c.in-Upgrade.is) (ended c.args.text.now _ c.upgraded.result (c.upgraded.ensures _))
