use Rattle.std.proofs.Common.{◌≡◌, ◌++◌, map}
use Rattle.flow_simdisk.specs.Stored.{write_in}
use Rattle.flow_simdisk.proofs.file.File.restore.Given as goal

abbrev pub invariant-loop-offset : goal.invariant-loop-offset
invariant-loop-offset l =
    (l.yielded ++ l.offset-iterator.rest.items ≡ l.fn.unsynced.items)
    × (l.file ≡ record { durable = l.fn.durable.items; unsynced = map write_in l.yielded })
