-- The line of a disk's answer.
use Rattle.std.specs.Prelude.{ℕ, Bool, true, false, List}
use Rattle.std.specs.declared.option.Option.{Option}
use Rattle.std.specs.declared.option.Option.TheVariants.{None, Some}
use Rattle.flow_base.specs.declared.ids.CellId.{CellId}
use Rattle.flow_base.specs.declared.ids.ProcId.{ProcId}
use Rattle.flow_trace.specs.declared.line.Line.{Line}
use Rattle.flow_trace.specs.declared.line.Line.TheVariants as line
use Rattle.flow_simdisk.specs.declared.ask.DiskAsk.{DiskAsk}
use Rattle.flow_simdisk.specs.declared.ask.DiskAsk.TheVariants as ask
use Rattle.flow_simdisk.specs.declared.ask.DiskReply.{DiskReply}
use Rattle.flow_simdisk.specs.declared.ask.DiskReply.TheVariants.{Text, Done, Size}

-- the bytes, the size, and whether a write or a sync is done
abbrev pub text_in : DiskReply → Option (List ℕ)
text_in (Text bytes) = Some bytes
text_in _ = None

abbrev pub size_in : DiskReply → Option ℕ
size_in (Size n) = Some n
size_in _ = None

abbrev pub is_done : DiskReply → Bool
is_done Done = true
is_done _ = false

-- the line, by what was asked, in the event of a number at a time
abbrev pub answer_line : DiskAsk → DiskReply → (number time : ℕ) → ProcId → CellId → Line
answer_line (ask.Read file offset count) r n t p k = line.Read n t p k (text_in r)
answer_line (ask.Write file offset text) r n t p k = line.Write n t p k (is_done r)
answer_line (ask.Sync file) r n t p k = line.Sync n t p k (is_done r)
answer_line (ask.Size file) r n t p k = line.Size n t p k (size_in r)
