use Rattle.std.proofs.Common.{◌≡◌, ◌≤◌, List, ℕ, ◌++◌, length}
use Rattle.std.specs.Io.KnownBytes.{Appends}
use Rattle.flow_base.specs.Bytes.{Grows}
use Rattle.flow_base.proofs.output.write_whole.Given as goal

-- the rest is what was not yet written of the piece
abbrev pub invariant-loop-rest : goal.invariant-loop-rest
invariant-loop-rest g l =
    let before = g.S.Sink.seen l.initial.out in
    let after = g.S.Sink.seen l.out in
    record {
      written : (done : List ℕ) × (l.fn.piece ≡ done ++ l.rest) × Appends before.written after.written done;
      handed : Grows before.handed after.handed;
      kept : before.faults ≤ after.faults;
    }

abbrev pub decreases-loop-rest : goal.decreases-loop-rest
decreases-loop-rest g l = length l.rest
