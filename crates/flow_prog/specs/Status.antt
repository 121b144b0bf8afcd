-- The status of the program where its words can't be had.
use Rattle.std.specs.Prelude.{ℕ}
use Rattle.std.specs.declared.io.ErrorKind.{ErrorKind}
use Rattle.std.specs.declared.io.ErrorKind.TheVariants.{OutOfMemory}

-- 7 for want of memory, and else 14
abbrev pub wordless : ErrorKind → ℕ
wordless OutOfMemory = 7
wordless _ = 14
