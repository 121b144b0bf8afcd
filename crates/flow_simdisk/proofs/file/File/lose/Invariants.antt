use Rattle.std.proofs.Common.{◌≡◌, ◌+◌, ◌*◌, ◌≤◌, length, take}
use Rattle.std.specs.Prelude.{fold}
use Rattle.flow_simdisk.specs.declared.TheConstants.{FILE_BYTES}
use Rattle.flow_simdisk.specs.Disk.{lose_write}
use Rattle.flow_simdisk.specs.Stored.{losing, GoesOn}
use Rattle.flow_simdisk.proofs.file.File.lose.Given as goal

abbrev pub invariant-loop-write : goal.invariant-loop-write
invariant-loop-write l = record {
  lost :
      GoesOn (λ word qs. fold (lose_write word l.name) (losing l.initial.left.items qs l.initial.fates.items) (take l.write-index l.write-items))
      l.initial.draws l.left.items l.fates.items l.draws;
  drawn : l.draws ≡ record l.initial.draws { used = l.draws.used; noted = l.draws.noted };
  few : l.draws.used ≤ l.initial.draws.used + 2 * l.write-index;
  fits : length l.left.items ≤ FILE_BYTES;
}
