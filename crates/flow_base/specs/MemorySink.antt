-- What the sink in memory does.
use Rattle.std.specs.Prelude.{◌≡◌, ℕ, List, ◌++◌, true, false, Result, Ok, Err, length, Some}
use Rattle.flow_base.specs.Calls.{CallState, next_fails, passed, failed}
use Rattle.flow_base.specs.Seen.{SinkSeen}
use Rattle.flow_base.specs.declared.fault.OutFault.{OutFault}
use Rattle.flow_base.specs.declared.fault.OutFault.TheVariants.{Failed, OutOfMemory}

-- what was written, and the calls so far
pub record SinkState : Type 0 where
  pub bytes : List ℕ
  pub calls : CallState

-- what is known of a sink in memory: everything, and it holds nothing back
abbrev pub seen_of : SinkState → SinkSeen
seen_of s = record { written = Some s.bytes; handed = Some s.bytes; faults = s.calls.faults }

-- a write takes the whole piece but at the listed calls, or finds no memory and changes nothing
abbrev pub Writes : SinkState → List ℕ → Result ℕ OutFault → SinkState → Type 0
Writes old piece (Ok n) new =
    (next_fails old.calls ≡ false) × (n ≡ length piece) × (new ≡ record { bytes = old.bytes ++ piece; calls = passed old.calls })
Writes old piece (Err Failed) new = (next_fails old.calls ≡ true) × (new ≡ record old { calls = failed old.calls })
Writes old piece (Err OutOfMemory) new = new ≡ old

-- a flush fails at the listed calls alone
abbrev pub Flushes : SinkState → Result (Unit {0}) OutFault → SinkState → Type 0
Flushes old (Ok done) new = (next_fails old.calls ≡ false) × (new ≡ record old { calls = passed old.calls })
Flushes old (Err Failed) new = (next_fails old.calls ≡ true) × (new ≡ record old { calls = failed old.calls })
Flushes old (Err OutOfMemory) new = ⊥
