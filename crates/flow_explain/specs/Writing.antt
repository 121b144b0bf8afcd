-- What a put to a trace in words does.
use Rattle.std.specs.Prelude.{◌≡◌, ℕ, List, Result, OnOk}
use Rattle.std.specs.Io.KnownBytes.{Appends}
use Rattle.std.specs.declared.option.Option.{Option}
use Rattle.flow_base.specs.Bytes.{AppendsPart}
use Rattle.flow_base.specs.declared.fault.OutFault.{OutFault}
use Rattle.flow_trace.specs.declared.line.Line.{Line}
use Rattle.flow_explain.specs.Texts.{ActorText}
use Rattle.flow_explain.specs.Living.{Telling, told_after}
use Rattle.flow_explain.specs.Words.{line_in_words}

-- the actors that lines are told by, what lines told so far, and the bytes written
pub record Writing : Type 0 where
  pub texts : List ActorText
  pub told : Telling
  pub written : Option (List ℕ)

-- a line's bytes in words were written, and it was heard; or, on a fault, a first part of them was written
pub record WritesWords (before : Writing) (line : Line) (answer : Result (Unit {0}) OutFault) (after : Writing) : Type 0 where
  pub whole : OnOk answer (Appends before.written after.written (line_in_words before.texts before.told line))
  pub heard : OnOk answer (after.told ≡ told_after before.texts line before.told)
  pub part : AppendsPart before.written after.written (line_in_words before.texts before.told line)
  pub texts : after.texts ≡ before.texts
