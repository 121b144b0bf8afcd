-- What is known of a sink over a writer.
use Rattle.std.specs.Prelude.{ℕ, List}
use Rattle.std.specs.declared.option.Option.{Option}
use Rattle.std.specs.Io.KnownBytes.{append_known}
use Rattle.flow_base.specs.Seen.{SinkSeen}
use Rattle.flow_system.specs.declared.gathering.Gathering.{Gathering}

-- the bytes that the writer holds were handed on, and written were these and those that are gathered
abbrev pub gathered_seen : {W : Type 0} → (W → Option (List ℕ)) → Gathering W → SinkSeen
gathered_seen contents s = record {
  written = append_known (contents s.writer) s.gathered.items;
  handed = contents s.writer;
  faults = s.faults;
}

-- a sink over a writer that holds these bytes, to which nothing was written yet
abbrev pub start_of : Option (List ℕ) → SinkSeen
start_of held = record { written = held; handed = held; faults = 0 }
