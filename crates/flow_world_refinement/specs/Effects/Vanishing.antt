-- A loss of power leaves of a process in memory what it leaves of the process that it shows, and of what is outside the same.
use Rattle.std.specs.Prelude.{◌≡◌, ℕ, List, ◌++◌, map}
use Rattle.std.specs.declared.option.Option.TheVariants.{None}
use Rattle.flow_base.specs.declared.ids.ProcId.{ProcId}
use Rattle.flow_trace.specs.declared.line.Line.{Line}
use Rattle.flow_class.specs.Classes.{RawTree}
use Rattle.flow_simdisk.specs.declared.write.Kept.{Kept}
use Rattle.flow_meaning.specs.Burst.{advance, live}
use Rattle.flow_meaning.specs.Class.{classes}
use Rattle.flow_meaning.specs.Deliver.{begin}
use Rattle.flow_meaning.specs.Frame.{Frame}
use Rattle.flow_meaning.specs.Outside.{Outside, host}
use Rattle.flow_meaning.specs.World as meaning
use Rattle.flow_meaning.specs.World.{kept_line, killed, with_core}
use Rattle.flow_world.specs.declared.place.Place.{Place}
use Rattle.flow_world.specs.Changes.{Surroundings, DiskLoses}
use Rattle.flow_world.specs.Happening.{Forgotten, Gone}
use Rattle.flow_world.specs.Representing.{OutsideRepresents}
use Rattle.flow_world_refinement.specs.Order.Showing.{PlaceRepresents}
use Rattle.flow_world_refinement.specs.Effects.Actions.{StaysIn}
use Rattle.flow_world_refinement.specs.Effects.Quiescence.{Quiescent}

module _ (r : RawTree) (turns : ℕ) (p : ProcId) (x : meaning.Place Frame) (o : Outside) (head : List Line) where
  -- what a loss of power makes of a process in an event of so many turns, with the lines that come before
  abbrev pub killed_in : meaning.Begun Frame
  killed_in = killed head p.0 (with_core x (begin turns)) o

  -- That is what memory shows, with a line for each write that the disk had not synced; and nothing is left to do.
  pub record PowerGone (gone : Place) (left : Surroundings) (fates : List Kept) : Type 0 where
    pub lines : killed_in.head ≡ head ++ map kept_line fates
    pub shows : PlaceRepresents (Quiescent r) o.file.processes p.0 gone killed_in.place
    pub outside : OutsideRepresents left killed_in.out
    pub stays : StaysIn o killed_in.out
    pub rests : advance (classes r) host (live killed_in.place.proc killed_in.out) ≡ None

-- So it is where a process in memory and what is outside of it lose power.
abbrev pub LossFollows : RawTree → Type 0
LossFollows r =
    (turns : ℕ) (p : ProcId) (x : meaning.Place Frame) (o : Outside) (head : List Line)
    (at gone : Place) (m lost left : Surroundings) (fates : List Kept)
    → PlaceRepresents (Quiescent r) o.file.processes p.0 at x → OutsideRepresents m o → DiskLoses p m lost fates → Forgotten p lost left
    → Gone at gone → PowerGone r turns p x o head gone left fates
