-- Runs of a program in the worlds of a family, and what is written of them.
use Rattle.std.specs.Prelude.{◌≡◌, ℕ, suc, ◌+◌, ◌-◌, Bool, true, false, ◌&&◌, nat_lt, List, [], ◌∷◌, ◌++◌, map, replicate, slice_get, count_by, codes, decimal, if◌then◌else◌, Result, Ok, Err}
use Rattle.std.specs.List.{AllByRecursion, list_any, flat_map}
use Rattle.std.specs.declared.option.Option.{Option}
use Rattle.std.specs.declared.option.Option.TheVariants.{None, Some}
use Rattle.std.specs.Io.KnownBytes.{Appends}
use Rattle.flow_base.specs.Bytes.{AppendsPart}
use Rattle.flow_base.specs.declared.fault.OutFault.{OutFault}
use Rattle.flow_trace.specs.declared.line.Line.{Line}
use Rattle.flow_trace.specs.declared.line.Line.TheVariants as line
use Rattle.flow_trace.specs.Groups.{is_event}
use Rattle.flow_monitor.specs.Ears.{Ears}
use Rattle.flow_monitor.specs.Cut.{Cut}
use Rattle.flow_worldfile.specs.Worlds.{World, world_text}
use Rattle.flow_family.specs.declared.family.Family.{Family}
use Rattle.flow_family.specs.declared.losses.PowerLoss.{PowerLoss}
use Rattle.flow_family.specs.Families.{world_of, with_loss, times_of, losses_of}
use Rattle.flow_sweep.specs.declared.ran.Ended.{Ended}
use Rattle.flow_sweep.specs.declared.ran.Ended.TheVariants.{Stopped, Spent, Bound, Idle}
use Rattle.flow_sweep.specs.declared.ran.Ran.{Ran}
use Rattle.flow_sweep.specs.declared.sweep.Went.{Went}
use Rattle.flow_sweep.specs.declared.sweep.Went.TheVariants.{On, Found}

-- the last line of a run that ends so
abbrev pub end_line : Ended → Line
end_line (Stopped name) = line.EndStop name
end_line Spent = line.EndSpent
end_line Bound = line.EndBound
end_line Idle = line.EndIdle

-- who hears a run, at its begin, and what is looked for in its lines: of each thing whether they show it
pub record Hearing : Type 0 where
  pub ears : Ears
  pub marks : List Line → List Bool

-- These lines are a program's trace in a world, cut by what monitors hear, and the run came to that.
pub record EndsSo (means : World → List Line → Type 0) (hearing : Hearing) (w : World) (cut : List Line) (r : Ran) : Type 0 where
  pub lines : List Line
  pub trace : means w lines
  pub is_cut : cut ≡ Cut hearing.ears lines
  pub last : (front : List Line) × (cut ≡ front ++ end_line r.ended ∷ [])
  pub events : r.events ≡ count_by is_event cut
  pub shown : r.shown.items ≡ hearing.marks cut

-- what a run in a world tells, with the times of its events where they are asked for
pub record Tries (means : World → List Line → Type 0) (hearing : Hearing) (w : World) (timed : Bool) (r : Ran) (told : List ℕ)
    : Type 0 where
  pub cut : List Line
  pub ends : EndsSo means hearing w cut r
  pub times : told ≡ (if timed then times_of cut else [])

-- a run that is to be made: its seed, the loss of power in it, if there is one, and its world
pub record Trial : Type 0 where
  pub seed : ℕ
  pub loss : Option PowerLoss
  pub world : World

-- and one that was made: the lines of its cut trace, and what it came to
pub record Row : Type 0 where
  pub trial : Trial
  pub cut : List Line
  pub ran : Ran

abbrev pub trial_of : Row → Trial
trial_of r = r.trial

-- a seed's own run, and those with a loss of power at each moment of it
abbrev pub own_trial : Family → World → (seed : ℕ) → Trial
own_trial f w seed = record { seed = seed; loss = None; world = world_of f seed w }

abbrev pub loss_trial : (down seed : ℕ) (own : World) → PowerLoss → Trial
loss_trial down seed own l = record { seed = seed; loss = Some l; world = with_loss down l own }

abbrev pub loss_trials_of : (down seed : ℕ) (own : World) → List PowerLoss → List Trial
loss_trials_of down seed own = map (loss_trial down seed own)

abbrev pub loss_trials : (down : Option ℕ) (seed : ℕ) (own : World) (times : List ℕ) → List Trial
loss_trials None seed own times = []
loss_trials (Some down) seed own times = loss_trials_of down seed own (losses_of down times own.processes)

module _ (means : World → List Line → Type 0) (hearing : Hearing) where
  abbrev pub IsRow : Row → Type 0
  IsRow r = EndsSo means hearing r.trial.world r.cut r.ran

  -- These runs were made, in this order.
  pub record AreRuns (due : List Trial) (rows : List Row) : Type 0 where
    pub trials : map trial_of rows ≡ due
    pub each : AllByRecursion IsRow rows

  -- a first part of them was
  abbrev pub BeginRuns : (trials : List Trial) (rows : List Row) → Type 0
  BeginRuns trials rows = (made more : List Trial) × (trials ≡ made ++ more) × AreRuns made rows

  -- The runs of a seed: that of its own world, and those with a loss of power at each moment of that run.
  pub record OfSeed (f : Family) (w : World) (seed : ℕ) (rows : List Row) : Type 0 where
    pub own : Row
    pub losses : List Row
    pub all : rows ≡ own ∷ losses
    pub is_own : AreRuns (own_trial f w seed ∷ []) (own ∷ [])
    pub are_losses : AreRuns (loss_trials f.down seed (world_of f seed w) (times_of own.cut)) losses

  -- a first part of these
  pub data BeginsSeed (f : Family) (w : World) (seed : ℕ) : List Row → Type 0 where
    none_of_it : BeginsSeed f w seed []
    some_of_it : (own : Row) (losses : List Row) → AreRuns (own_trial f w seed ∷ []) (own ∷ [])
        → BeginRuns (loss_trials f.down seed (world_of f seed w) (times_of own.cut)) losses → BeginsSeed f w seed (own ∷ losses)

  -- The runs of so many seeds, from the first one on.
  pub data OfSeeds (f : Family) (w : World) : ℕ → List Row → Type 0 where
    no_seed : OfSeeds f w 0 []
    one_more : (n : ℕ) (rows more : List Row) → OfSeeds f w n rows → OfSeed f w (f.from + n) more → OfSeeds f w (n + 1) (rows ++ more)

  -- those of all seeds of the family, and a first part of them
  abbrev pub Swept : Family → World → List Row → Type 0
  Swept f w = OfSeeds f w (f.to - f.from + 1)

  abbrev pub BeginsSweep : Family → World → List Row → Type 0
  BeginsSweep f w rows =
      (n : ℕ) × (whole part : List Row) × OfSeeds f w n whole × BeginsSeed f w (f.from + n) part × (rows ≡ whole ++ part)

-- a run is told that was stopped, or an event of which was spent
abbrev pub is_find : Ended → Bool
is_find (Stopped name) = true
is_find Spent = true
is_find Bound = false
is_find Idle = false

abbrev pub is_told : Row → Bool
is_told r = is_find r.ran.ended

-- `seed S kill P at T end stop NAME event E`
abbrev pub loss_words : Option PowerLoss → List ℕ
loss_words None = []
loss_words (Some l) = codes " kill " ++ decimal l.process.0 ++ codes " at " ++ decimal l.time

abbrev pub end_words : Ended → List ℕ
end_words (Stopped name) = codes " end " ++ codes "stop " ++ name
end_words Spent = codes " end " ++ codes "spent"
end_words Bound = codes " end " ++ codes "bound"
end_words Idle = codes " end " ++ codes "idle"

abbrev pub find_text : (seed : ℕ) → Option PowerLoss → Ran → List ℕ
find_text seed loss r =
    codes "seed " ++ decimal seed ++ loss_words loss ++ end_words r.ended ++ codes " event " ++ decimal r.events ++ codes "\n"

-- that as a comment, and the world
abbrev pub first_text : (seed : ℕ) → Option PowerLoss → World → Ran → List ℕ
first_text seed loss w r = codes "# " ++ find_text seed loss r ++ world_text w

-- what is written of a run, if it is told
abbrev pub told_as : (first : Bool) → (seed : ℕ) → Option PowerLoss → World → Ran → List ℕ
told_as true seed loss w r = first_text seed loss w r
told_as false seed loss w r = find_text seed loss r

abbrev pub told_text : (first : Bool) → (seed : ℕ) → Option PowerLoss → World → Ran → List ℕ
told_text first seed loss w r = if is_find r.ended then told_as first seed loss w r else []

abbrev pub row_text : (first : Bool) → Row → List ℕ
row_text first r = told_text first r.trial.seed r.trial.loss r.trial.world r.ran

-- a run that is told ends the others where the first one does
abbrev pub went_of : (first : Bool) → Ended → Went
went_of first e = if first && is_find e then Found else On

abbrev pub rows_text : (first : Bool) → List Row → List ℕ
rows_text first = flat_map (row_text first)

-- how many runs there are, how many events they have, how many of them end how, and how many show each thing that is looked for
pub record Tally : Type 0 where
  pub runs : ℕ
  pub events : ℕ
  pub stopped : ℕ
  pub spent : ℕ
  pub bound : ℕ
  pub idle : ℕ
  pub shown : List ℕ

abbrev pub no_tally : (things : ℕ) → Tally
no_tally things = record { runs = 0; events = 0; stopped = 0; spent = 0; bound = 0; idle = 0; shown = replicate things 0 }

abbrev pub counted : Option Bool → ℕ → ℕ
counted (Some true) n = n + 1
counted (Some false) n = n
counted None n = n

abbrev pub with_shown : List Bool → (from : ℕ) → List ℕ → List ℕ
with_shown bs k [] = []
with_shown bs k (n ∷ ns) = counted (slice_get bs k) n ∷ with_shown bs (suc k) ns

abbrev pub one_ended : Ended → Tally → Tally
one_ended (Stopped name) t = record t { stopped = t.stopped + 1 }
one_ended Spent t = record t { spent = t.spent + 1 }
one_ended Bound t = record t { bound = t.bound + 1 }
one_ended Idle t = record t { idle = t.idle + 1 }

abbrev pub tallied : Ran → Tally → Tally
tallied r t =
    one_ended r.ended (record t { runs = t.runs + 1; events = t.events + r.events; shown = with_shown r.shown.items 0 t.shown })

abbrev pub tally_from : Tally → List Row → Tally
tally_from t [] = t
tally_from t (r ∷ rs) = tally_from (tallied r.ran t) rs

-- a word and a number, as a line
abbrev pub number_line : (word : List ℕ) (n : ℕ) → List ℕ
number_line word n = word ++ codes " " ++ decimal n ++ codes "\n"

abbrev pub counts_text : Tally → List ℕ
counts_text t =
    number_line (codes "runs") t.runs ++ number_line (codes "events") t.events ++ number_line (codes "stop") t.stopped
    ++ number_line (codes "spent") t.spent ++ number_line (codes "bound") t.bound ++ number_line (codes "idle") t.idle

-- the status: 8 where a run was stopped, else 4 where an event of one was spent
abbrev pub status_of : Tally → ℕ
status_of t = if nat_lt 0 t.stopped then 8 else if nat_lt 0 t.spent then 4 else 0

-- What comes of runs that are made one after another, where the first find ends them or doesn't: all are made, and none is a find where
-- the first ends them; or the last one that was made is the find; or a fault came, and a first part of what they tell was written.
pub data Goes (All Part : List Row → Type 0) (first : Bool) (tally tally' : Tally) (before after : Option (List ℕ))
    : Result Went OutFault → Type 0 where
  goes_on : (rows : List Row) → All rows → (first ≡ true → list_any is_told rows ≡ false) → tally' ≡ tally_from tally rows
      → Appends before after (rows_text first rows) → Goes All Part first tally tally' before after (Ok On)
  finds : (rows : List Row) (found : Row) → Part (rows ++ found ∷ []) → first ≡ true → list_any is_told rows ≡ false → is_told found ≡ true
      → tally' ≡ tally_from tally (rows ++ found ∷ []) → Appends before after (rows_text true (found ∷ []))
      → Goes All Part first tally tally' before after (Ok Found)
  fails : (rows : List Row) (fault : OutFault) → Part rows → AppendsPart before after (rows_text first rows)
      → Goes All Part first tally tally' before after (Err fault)

-- these runs are to be made, one after another
abbrev pub GoesThrough : (means : World → List Line → Type 0) (hearing : Hearing) (trials : List Trial) (first : Bool)
    (tally tally' : Tally)
    (before after : Option (List ℕ)) → Result Went OutFault → Type 0
GoesThrough means hearing trials = Goes (AreRuns means hearing trials) (BeginRuns means hearing trials)

-- What one run comes to: it was made, and counted, and what it tells was written;
pub record RunMade (means : World → List Line → Type 0) (hearing : Hearing) (first : Bool) (t : Trial) (timed : Bool) (tally tally' : Tally)
    (before after : Option (List ℕ)) (answer : Went) (told : List ℕ) : Type 0 where
  pub row : Row
  pub made : AreRuns means hearing (t ∷ []) (row ∷ [])
  pub times : told ≡ (if timed then times_of row.cut else [])
  pub went : answer ≡ went_of first row.ran.ended
  pub counted : tally' ≡ tallied row.ran tally
  pub written : Appends before after (row_text first row)

-- or it wasn't made; or it was, and a first part of what it tells was written
pub data RunFails (means : World → List Line → Type 0) (hearing : Hearing) (first : Bool) (t : Trial) (before after : Option (List ℕ))
    : Type 0 where
  not_made : AppendsPart before after [] → RunFails means hearing first t before after
  not_told : (row : Row) → AreRuns means hearing (t ∷ []) (row ∷ []) → AppendsPart before after (row_text first row)
      → RunFails means hearing first t before after
