use Rattle.std.proofs.Common.{◌≡◌, ap, arith}
use Rattle.flow_simdisk.specs.Stored.{files_of, most_words}
use Rattle.flow_simdisk.proofs.disk.Disk.most_words.Goals as goal

pub returns : goal.returns
returns c =
    let none : most_words (files_of c.loop-file.file-iterator) ≡ 0 = ap (λ es. most_words (files_of es)) c.in-None.ensures.steps.0 in
    omega (arith, none, c.loop-file.invariant.0, c.loop-file.invariant.1)
