-- What the reader keeps of the lines that it has read.
use Rattle.std.specs.Prelude.{◌≡◌, ℕ, ◌⊎◌, List, [], ◌∷◌, ◌++◌, map, Some, Result, Ok, Err}
use Rattle.flow_worldfile.specs.declared.draft.Draft.{Draft}
use Rattle.flow_worldfile.specs.declared.directive.Directive.{Directive}
use Rattle.flow_worldfile.specs.declared.directive.Directive.TheVariants.{Seed, Processes, Events, Turns, Latency, DiskDelay, Loss, Word, At}
use Rattle.flow_worldfile.specs.declared.world.WorldFault.{WorldFault}
use Rattle.flow_worldfile.specs.declared.world.WorldFault.TheVariants.{Form, Range, Twice, NoProcess, TooLarge, OutOfMemory}
use Rattle.flow_worldfile.specs.Lines.{lines, IsPassedOver}
use Rattle.flow_worldfile.specs.Worlds.{Said, said, timed}
use Rattle.flow_worldfile.specs.Reading.{W1, W2, W3, W4, Keeps, Breaks, Judges, accepted, refused}

-- a draft, as what was said
abbrev pub drafted : Draft → Said
drafted d = record {
  seed = d.seed;
  processes = d.processes;
  events = d.events;
  turns = d.turns;
  latency = d.latency;
  diskdelay = d.diskdelay;
  loss = d.loss;
  words = d.words.items;
  script = map timed d.script.items;
}

-- what is said with one line more
abbrev pub added : Said → Directive → Said
added s (Seed n) = record s { seed = Some n }
added s (Processes n) = record s { processes = Some n }
added s (Events n) = record s { events = Some n }
added s (Turns n) = record s { turns = Some n }
added s (Latency lo hi) = record s { latency = Some (lo, hi) }
added s (DiskDelay lo hi) = record s { diskdelay = Some (lo, hi) }
added s (Loss n) = record s { loss = Some n }
added s (Word n) = record s { words = s.words ++ n ∷ [] }
added s (At t order) = record s { script = s.script ++ (t, order) ∷ [] }

-- what comes of line k, where there are `count` processes: it is passed over or kept, or breaks a rule
abbrev pub LineRead : ℕ → ℕ → Said → List ℕ → Result (Unit {0}) WorldFault → Said → Type 0
LineRead count k old line (Ok _) new = (IsPassedOver line × (new ≡ old)) ⊎ ((d : Directive) × Keeps count old line d × (new ≡ added old d))
LineRead count k old line (Err (Form n)) new = (n ≡ k) × Breaks count old line W1
LineRead count k old line (Err (Range n)) new = (n ≡ k) × Breaks count old line W2
LineRead count k old line (Err (Twice n)) new = (n ≡ k) × Breaks count old line W3
LineRead count k old line (Err (NoProcess n)) new = (n ≡ k) × Breaks count old line W4
LineRead count k old line (Err TooLarge) new = ⊥
LineRead count k old line (Err OutOfMemory) new = Unit {0}

-- what is read of the lines of a text, where there are `count` processes
abbrev pub LinesRead : ℕ → List ℕ → Result Draft WorldFault → Type 0
LinesRead count bytes (Ok draft) = (ds : List Directive) × Judges count (lines bytes) (accepted ds) × (drafted draft ≡ said ds)
LinesRead count bytes (Err (Form n)) = Judges count (lines bytes) (refused n W1)
LinesRead count bytes (Err (Range n)) = Judges count (lines bytes) (refused n W2)
LinesRead count bytes (Err (Twice n)) = Judges count (lines bytes) (refused n W3)
LinesRead count bytes (Err (NoProcess n)) = Judges count (lines bytes) (refused n W4)
LinesRead count bytes (Err TooLarge) = ⊥
LinesRead count bytes (Err OutOfMemory) = Unit {0}
