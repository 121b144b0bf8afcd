use Rattle.std.proofs.Common.{◌≡◌, length, take}
use Rattle.flow_simdisk.specs.Stored.{all_over}
use Rattle.flow_simdisk.proofs.overlay.put_all_over.Given as goal

abbrev pub invariant-loop-write : goal.invariant-loop-write
invariant-loop-write l =
    (l.bytes.items ≡ all_over l.initial.bytes.items (take l.write-index l.writes)) × (length l.bytes.items ≡ length l.initial.bytes.items)
