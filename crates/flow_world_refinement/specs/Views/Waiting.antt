-- A frame that waits is in the state of the wait at which it stands.
use Rattle.std.specs.Prelude.{◌≡◌, ℕ, true}
use Rattle.std.specs.List.{AllByRecursion}
use Rattle.std.specs.declared.option.Option.TheVariants.{None, Some}
use Rattle.flow_worldfile.specs.Worlds as file
use Rattle.flow_class.specs.Classes.{RawTree}
use Rattle.flow_numbered.specs.Numbered.{thing}
use Rattle.flow_meaning.specs.Process.{Entry, Proc}
use Rattle.flow_meaning.specs.Burst.{Live, Burst}
use Rattle.flow_meaning.specs.Outside.{Outside, host}
use Rattle.flow_meaning.specs.Law.{AtRest}
use Rattle.flow_meaning.specs.World.{Place, World, Begun, next_of, begun_by, at_start}
use Rattle.flow_meaning.specs.Runs.{before, after}
use Rattle.flow_meaning.specs.Frame.{Frame}
use Rattle.flow_meaning.specs.Class.{classes}
use Rattle.flow_meaning.specs.Views.{frame_spot}
use Rattle.flow_heap_refinement.specs.Representing.{wait_spot}

-- By its state it waits where it stands, at each suspended actor.
abbrev pub InState : Proc Frame → Type 0
InState p =
    (i : ℕ) (e : Entry) (f : Frame) → thing p.core.entries i ≡ Some e → thing p.actors i ≡ Some f
    → e.suspended ≡ true → frame_spot f ≡ wait_spot f

-- So it is in each process of a world at rest.
abbrev pub PlaceWaits : Place Frame → Type 0
PlaceWaits a = AtRest a.proc.core × InState a.proc

abbrev pub WorldWaits : World Frame → Type 0
WorldWaits w = AllByRecursion PlaceWaits w.places

-- It is so before the first event, and after each, in every world of any classes.
abbrev pub StartWaits : Type 0
StartWaits = (w : file.World) → WorldWaits (at_start w)

abbrev pub EventWaits : RawTree → Type 0
EventWaits r =
    (w : World Frame) (b : Begun Frame) (l : Live Outside Frame) → WorldWaits w
    → begun_by (classes r) w (next_of w.out) ≡ Some b → Burst (classes r) host (before b) l
    → l.proc.core.halted ≡ None → WorldWaits (after w b l)
