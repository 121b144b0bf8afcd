use Rattle.std.proofs.Common.{◌≡◌, ◌+◌, ◌-◌, ◌≤◌, ◌^◌, min}
use Rattle.flow_simdisk.specs.Stored.{files_of, most_words}
use Rattle.flow_simdisk.proofs.disk.Disk.most_words.Given as goal

abbrev pub invariant-loop-file : goal.invariant-loop-file
invariant-loop-file l =
    (min (l.words + most_words (files_of l.file-iterator)) (2 ^ 64 - 1) ≡ min (most_words l.self.files) (2 ^ 64 - 1)) × (l.words ≤ 2 ^ 64 - 1)
