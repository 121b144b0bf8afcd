use Rattle.std.proofs.Common.{◌≡◌, ◌++◌}
use Rattle.flow_simdisk.specs.Stored.{files_in, in_order_of_names}
use Rattle.flow_simdisk.proofs.disk.Disk.restore.Given as goal

abbrev pub invariant-loop-file : goal.invariant-loop-file
invariant-loop-file l =
    (l.yielded ++ l.file-iterator.rest.items ≡ l.fn.state.files.items)
    × (l.disk ≡ record { fails = l.fn.state.fails; files = in_order_of_names (files_in l.yielded) })
