use Rattle.std.proofs.Common.{◌≡◌, ◌+◌, ◌<◌, ◌^◌}
use Rattle.flow_draw.specs.Words.{word_in}
use Rattle.flow_simdisk.specs.Disk.{power_lost}
use Rattle.flow_simdisk.specs.Stored.{HasFiles, files_of, most_words}
use Rattle.flow_simdisk.proofs.Losses.{Comes}
use Rattle.flow_simdisk.proofs.disk.Disk.kill.Given as goal

abbrev pub invariant-loop-name : goal.invariant-loop-name
invariant-loop-name l = record {
  lost :
      Comes l.initial.draws (files_of l.files.entries) l.fates.items l.draws (files_of l.name-iterator)
      (power_lost (word_in l.initial.draws) l.fn.self.files);
  drawn : l.draws ≡ record l.initial.draws { used = l.draws.used; noted = l.draws.noted };
  room : l.draws.used + most_words (files_of l.name-iterator) < 2 ^ 63;
  ahead : HasFiles l.name-iterator;
  there : HasFiles l.files.entries;
}
