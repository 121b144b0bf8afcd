-- Lines that are put to bytes, where these are told.
use Rattle.std.specs.Prelude.{ℕ, List, [], ◌∷◌, ◌++◌, Result}
use Rattle.std.specs.declared.option.Option.{Option}
use Rattle.flow_base.specs.declared.fault.OutFault.{OutFault}
use Rattle.flow_trace.specs.Bytes.{Bytes}
use Rattle.flow_trace.specs.Out.{WritesLine}
use Rattle.flow_trace.specs.declared.line.Line.{Line}

-- a line is put: where that succeeds, its bytes follow those told before, and else a first part of them
abbrev pub put_bytes : (before : Option (List ℕ)) → Line → Result (Unit {0}) OutFault → (after : Option (List ℕ)) → Type 0
put_bytes before line answer after = WritesLine before after line answer

-- the bytes of lines, one after another
abbrev pub bytes_of : List Line → List ℕ
bytes_of [] = []
bytes_of (line ∷ lines) = Bytes line ++ bytes_of lines
