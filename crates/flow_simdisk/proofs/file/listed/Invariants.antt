use Rattle.std.proofs.Common.{◌≡◌, map, take}
use Rattle.flow_simdisk.specs.Stored.{write_in}
use Rattle.flow_simdisk.proofs.file.listed.Given as goal

abbrev pub invariant-loop-write : goal.invariant-loop-write
invariant-loop-write l = map write_in l.list.items ≡ take l.write-index l.writes
