-- Frames are never stuck.
use Rattle.std.specs.Prelude.{◌≡◌, ℕ, List, slice_get}
use Rattle.std.specs.declared.option.Option.TheVariants.{Some}
use Rattle.flow_tree.specs.Decls.{RoutineTree}
use Rattle.flow_eval.specs.Typed.{CellsFit}
use Rattle.flow_class.specs.Classes.{RawTree}
use Rattle.flow_meaning.specs.Process.{View}
use Rattle.flow_meaning.specs.Frame.{Frame}
use Rattle.flow_meaning.specs.Class.{classes}
use Rattle.flow_progress.specs.Places.{class_vars}
use Rattle.flow_progress.specs.FramesAtPoints.{Stands}
use Rattle.flow_progress.specs.Asking.{AsksFit}
use Rattle.flow_progress.specs.Fitting.{CellTypes, typed_by}

-- A frame of a class that stands where it may, with values of their types over cells of their types, asks for what fits; so it
-- never comes to an empty place, to a value of another type or to a missing block.
abbrev pub FramesAskWhatFits : RawTree → List RoutineTree → Type 0
FramesAskWhatFits r actors =
    (types : CellTypes) (v : View) (k : ℕ) (f : Frame) → slice_get r.classes k ≡ Some f.code → CellsFit r.records (typed_by types) v.cells
    → Stands r.records (typed_by types) f → AsksFit r (class_vars f.code) (typed_by types) f.code v.kept ((classes r).next v f)
