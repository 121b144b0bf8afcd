-- What a process may draw from, and what it asks of its disk.
use Rattle.std.specs.Prelude.{ℕ, ◌^◌, ◌≤◌, ℤ, pos, ◌+ℤ◌, ◌≤ℤ◌}
use Rattle.flow_simdisk.specs.declared.ask.DiskAsk.{DiskAsk}
use Rattle.flow_simdisk.specs.declared.ask.DiskAsk.TheVariants.{Read, Write, Sync, Size}
use Rattle.flow_simdisk.specs.Asks as disk
use Rattle.flow_steps.specs.declared.call.DiskCall.{DiskCall}
use Rattle.flow_steps.specs.declared.call.DiskCall.TheVariants as call

-- a range of so many numbers from the first on may be drawn from
abbrev pub IsRange : ℤ → ℕ → Type 0
IsRange lo n = (1 ≤ n) × (n ≤ 2 ^ 32) × ((lo +ℤ pos n) ≤ℤ pos (2 ^ 63))

-- a request to a disk, with its arguments as they were judged, and as a program gave them
abbrev pub call_of : DiskAsk → disk.DiskCall ℕ
call_of (Read file offset count) = disk.ReadCall file offset count
call_of (Write file offset text) = disk.WriteCall file offset text
call_of (Sync file) = disk.SyncCall file
call_of (Size file) = disk.SizeCall file

abbrev pub asked_of : DiskCall → disk.DiskCall ℤ
asked_of (call.Read file offset count) = disk.ReadCall file offset count
asked_of (call.Write file offset text) = disk.WriteCall file offset text
asked_of (call.Sync file) = disk.SyncCall file
asked_of (call.Size file) = disk.SizeCall file
