use Rattle.std.proofs.Common.{drop}
use Rattle.std.specs.List.{AllByRecursion}
use Rattle.flow_simdisk.specs.Stored.{files_in}
use Rattle.flow_saved.specs.CanResume.{IsStored}
use Rattle.flow_machine_tests.proofs.resumable.files_stored.Given as goal

abbrev pub invariant-loop-file : goal.invariant-loop-file
invariant-loop-file l = AllByRecursion (λ f. IsStored f.1) (files_in (drop l.file-index l.files)) → AllByRecursion (λ f. IsStored f.1) (files_in l.files)
