-- What is asked for, by the words and by the monitors that are handed in.
use Rattle.std.specs.Prelude.{ℕ, Bool, false, List, [], ◌∷◌, map, is_some, option_and_then, if◌then◌else◌}
use Rattle.std.specs.declared.option.Option.{Option}
use Rattle.std.specs.declared.option.Option.TheVariants.{None, Some}
use Rattle.flow_monitor.specs.declared.attach.Want.{Want}
use Rattle.flow_monitor.specs.Attaching.{Handed, want_fault, attached}
use Rattle.flow_monitor.specs.Ears.{Ear, Ears}
use Rattle.flow_words.specs.Asked.{Request, run, exec, shrink, asked}

-- the monitors that a request wants
abbrev pub wanted_by : Request → List Want
wanted_by (run r) = r.wanted
wanted_by (exec r) = r.wanted
wanted_by (shrink program world want) = want ∷ []
wanted_by _ = []

-- the one that is wanted alone, and begins anew for each run
abbrev pub wanted_alone : Request → Option Want
wanted_alone (shrink program world want) = Some want
wanted_alone _ = None

-- whether frames are told
abbrev pub tells_frames : Request → Bool
tells_frames (run r) = r.frames
tells_frames (exec r) = r.frames
tells_frames _ = false

-- a panel of one monitor
abbrev pub alone : (name : List ℕ) → Ear → Ears
alone name ear = record { name = name; ear = Some ear } ∷ []

-- a request, if each monitor that it wants is handed in, and none is wanted twice
abbrev pub served : List Handed → Request → Option Request
served handed q = if is_some (want_fault (map (λ (m : Handed). m.name) handed) (wanted_by q)) then None else Some q

-- what the words ask for, if they are a command line
abbrev pub request_by : (words : List (List ℕ)) → List Handed → Option Request
request_by words handed = option_and_then (served handed) (asked words)

-- the panel that hears what is asked for
abbrev pub panel_for : Option Request → List Handed → Ears
panel_for None handed = []
panel_for (Some q) handed = attached (wanted_by q) handed
