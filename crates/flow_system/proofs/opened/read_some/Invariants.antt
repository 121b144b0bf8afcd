use Rattle.std.specs.Io.KnownBytes.{Keeps}
use Rattle.flow_system.proofs.opened.read_some.Given as goal

abbrev pub invariant-loop : goal.invariant-loop
invariant-loop g l = Keeps (g.R.Read.remaining l.initial.file) (g.R.Read.remaining l.file)
