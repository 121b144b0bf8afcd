-- What a world keeps from event to event so that processes in memory can follow it: besides, times that programs can tell.
use Rattle.std.specs.Prelude.{◌≡◌, ℕ, ◌+◌, ◌*◌, ◌^◌, ◌≤◌}
use Rattle.std.specs.List.{AllByRecursion}
use Rattle.std.specs.declared.option.Option.TheVariants.{None, Some}
use Rattle.flow_timers.specs.Pending.{Pending}
use Rattle.flow_worldfile.specs.Worlds as file
use Rattle.flow_worldfile.specs.declared.directive.Order.{Order}
use Rattle.flow_class.specs.Classes.{RawTree}
use Rattle.flow_meaning.specs.Burst.{Live, Burst}
use Rattle.flow_meaning.specs.Class.{classes}
use Rattle.flow_meaning.specs.Frame.{Frame}
use Rattle.flow_meaning.specs.Outside.{What, Outside, host}
use Rattle.flow_meaning.specs.Runs.{before, after}
use Rattle.flow_meaning.specs.World.{World, Begun, next_of, begun_by, at_start}
use Rattle.flow_burst_refinement.specs.Boundaries.Boundaries.{WorldKeeps}

-- the latest time of a pending event once so many events have run, in ticks: timers and lines of the script come by 2^62, and
-- the delays of packets and disks are below a thousand million; in a world that doesn't come from its start there is some slack
abbrev pub latest : (slack ran : ℕ) → ℕ
latest k n = 2 ^ 62 + k + n * 1000000000

abbrev pub IsEarly : (slack ran : ℕ) → Pending What → Type 0
IsEarly k n e = e.time ≤ latest k n

abbrev pub LineIsEarly : ℕ × Order → Type 0
LineIsEarly x = x.0 ≤ 2 ^ 62

-- all that is to come comes by then
pub record InTime (slack : ℕ) (o : Outside) : Type 0 where
  pub file : file.IsInRange o.file
  pub script : AllByRecursion LineIsEarly o.script
  pub events : AllByRecursion (IsEarly slack o.ran) o.events.pending

pub record WorldInvariant (r : RawTree) (w : World Frame) : Type 0 where
  pub keeps : WorldKeeps r w
  pub slack : ℕ
  pub few : slack ≤ 2 ^ 50
  pub times : InTime slack w.out

-- So it is without slack in the world of a file in range before its first event, and with the same slack after each event.
abbrev pub WorldInvariantStarts : RawTree → Type 0
WorldInvariantStarts r = (w : file.World) → file.IsInRange w → (i : WorldInvariant r (at_start w)) × (i.slack ≡ 0)

abbrev pub WorldInvariantStays : RawTree → Type 0
WorldInvariantStays r =
    (w : World Frame) (b : Begun Frame) (l : Live Outside Frame) (i : WorldInvariant r w) → begun_by (classes r) w (next_of w.out) ≡ Some b
    → Burst (classes r) host (before b) l → l.proc.core.halted ≡ None → (j : WorldInvariant r (after w b l)) × (j.slack ≡ i.slack)
