-- What a put to lines in memory does.
use Rattle.std.specs.Prelude.{◌≡◌, ℕ, List, [], ◌∷◌, ◌++◌, Result, Ok, Err, OnOk}
use Rattle.std.specs.Io.KnownBytes.{Appends}
use Rattle.std.specs.declared.option.Option.{Option}
use Rattle.flow_base.specs.Bytes.{AppendsPart, Grows}
use Rattle.flow_trace.specs.Bytes.{Bytes}
use Rattle.flow_base.specs.declared.fault.OutFault.{OutFault}
use Rattle.flow_base.specs.declared.fault.OutFault.TheVariants.{Failed, OutOfMemory}
use Rattle.flow_trace.specs.declared.line.Line.{Line}

-- the line is gained at the end, or there was no memory and nothing changed
abbrev pub GainsLine : List Line → Line → Result (Unit {0}) OutFault → List Line → Type 0
GainsLine old line (Ok done) new = new ≡ old ++ line ∷ []
GainsLine old line (Err Failed) new = ⊥
GainsLine old line (Err OutOfMemory) new = new ≡ old

-- the line's bytes were written, or, on a fault, a first part of them
pub record WritesLine (before after : Option (List ℕ)) (line : Line) (answer : Result (Unit {0}) OutFault) : Type 0 where
  pub whole : OnOk answer (Appends before after (Bytes line))
  pub part : AppendsPart before after (Bytes line)

-- the bytes told have grown, and then by these last ones
abbrev pub GrowsTo : Option (List ℕ) → Option (List ℕ) → List ℕ → Type 0
GrowsTo before after last = (middle : Option (List ℕ)) × Grows before middle × Appends middle after last
