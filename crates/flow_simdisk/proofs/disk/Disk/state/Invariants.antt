use Rattle.std.proofs.Common.{◌≡◌, ◌++◌}
use Rattle.std.specs.List.{All}
use Rattle.flow_simdisk.specs.Stored.{CanRestore, HasFiles, files_in, files_of}
use Rattle.flow_simdisk.proofs.disk.Disk.state.Given as goal

abbrev pub invariant-loop-name : goal.invariant-loop-name
invariant-loop-name l = record {
  listed : files_in l.files.items ++ files_of l.name-iterator ≡ l.self.files;
  fits : All CanRestore l.files.items;
  ahead : HasFiles l.name-iterator;
}
