-- What a process may ask of its disk.
use Rattle.std.specs.Prelude.{ℕ, ◌+◌, ◌≤◌, List, length}
use Rattle.flow_simdisk.specs.declared.TheConstants.{FILE_BYTES}
use Rattle.flow_simdisk.specs.declared.ask.DiskAsk.{DiskAsk}
use Rattle.flow_simdisk.specs.declared.ask.DiskAsk.TheVariants.{Read, Write, Sync, Size}

-- a file's name has 1 to 255 bytes
abbrev pub IsFile : List ℕ → Type 0
IsFile name = (1 ≤ length name) × (length name ≤ 255)

abbrev pub IsAllowed : DiskAsk → Type 0
IsAllowed (Read file offset count) = IsFile file × (offset ≤ FILE_BYTES) × (count ≤ 65535)
IsAllowed (Write file offset text) = IsFile file × (offset + length text ≤ FILE_BYTES)
IsAllowed (Sync file) = IsFile file
IsAllowed (Size file) = IsFile file
