use Rattle.std.proofs.Common.{map, drop}
use Rattle.std.specs.List.{AllByRecursion}
use Rattle.flow_simdisk.specs.Stored.{FitsFile, write_in}
use Rattle.flow_machine_tests.proofs.resumable.writes_fit.Given as goal

abbrev pub invariant-loop-write : goal.invariant-loop-write
invariant-loop-write l = AllByRecursion FitsFile (map write_in (drop l.write-index l.writes)) → AllByRecursion FitsFile (map write_in l.writes)
