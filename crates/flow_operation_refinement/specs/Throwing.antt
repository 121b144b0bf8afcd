-- An error is thrown in memory where an actor stands as the definitions throw it.
use Rattle.std.specs.Prelude.{◌≡◌, ◌<◌, ℕ, ◌+◌, List, map, length}
use Rattle.std.specs.Option.{option_map}
use Rattle.std.specs.declared.option.Option.{Option}
use Rattle.std.specs.declared.option.Option.TheVariants.{None, Some}
use Rattle.flow_base.specs.declared.ids.ActorId.{ActorId}
use Rattle.flow_base.specs.declared.ids.ErrorCode.{ErrorCode}
use Rattle.flow_class.specs.declared.class.Slotted.TheVariants.{Local}
use Rattle.flow_class.specs.Classes.{CatcherTree, RawTree}
use Rattle.flow_class.specs.Code.{catcher_at}
use Rattle.flow_code.specs.declared.class.Catcher.{Catcher}
use Rattle.flow_code.specs.declared.program.Code.{Code}
use Rattle.flow_trace.specs.declared.line.Line.{Line}
use Rattle.flow_meaning.specs.Cells.{Side}
use Rattle.flow_meaning.specs.Process.{Entry, Proc}
use Rattle.flow_meaning.specs.References.{Scan}
use Rattle.flow_meaning.specs.Step.{throw_with}
use Rattle.flow_meaning.specs.Frame.{Frame, read, emptied, raise}
use Rattle.flow_heap_refinement.specs.Holding.{held}
use Rattle.flow_steps.specs.declared.frames.ControlPoint.{ControlPoint}
use Rattle.flow_steps.specs.declared.process.Process.{Process}
use Rattle.flow_steps.specs.Points.{IsAtPoint}
use Rattle.flow_steps.specs.Tasks.{Raised}
use Rattle.flow_operation_refinement.specs.Matching.{ProcessRepresents}
use Rattle.flow_operation_refinement.specs.Placing.{RepresentsActor, HasLocals}
use Rattle.flow_operation_refinement.specs.Taking.{PointMatches, MayGo}

-- the catch part of a block and the one that it is coded from, whose locals stand behind so many slots
abbrev pub SameCatcher : (slots : ℕ) → Option Catcher → Option CatcherTree → Type 0
SameCatcher n None None = Unit {0}
SameCatcher n (Some c) (Some t) =
    (c.block ≡ t.block) × (c.error ≡ option_map (λ k. n + k) t.error) × (c.drops.items ≡ map (λ k. n + k) t.drops)
SameCatcher n None (Some t) = ⊥
SameCatcher n (Some c) None = ⊥

-- a catch part that a frame has places for: the local of the error refers to nothing once the others are empty
pub record CatcherFits (f : Frame) (t : CatcherTree) : Type 0 where
  pub drops : HasLocals f t.drops
  pub error : (n : ℕ) → t.error ≡ Some n
      → (n < length f.mem.locals) × ((s : Side) (j : ℕ) → held s j (read (emptied t.drops f.mem) (Local n)) ≡ 0)

-- An actor that may be thrown an error: its block's catch part is coded, and fits.
pub record MayThrow (code : Code) (memory : Process) (process : Proc Frame) (actor : ActorId) (entry : Entry) (frame : Frame)
    : Type 0 where
  pub go : MayGo actor.0 entry process.core
  pub stands : (point : ControlPoint) → IsAtPoint code.classes.items actor memory point
      → PointMatches point actor.0 frame
      × SameCatcher (length frame.code.slots) point.block.now.catcher (catcher_at frame.code frame.block)
  pub fits : (catcher : CatcherTree) → catcher_at frame.code frame.block ≡ Some catcher → CatcherFits frame catcher

-- The line; then its operands are dropped, and the values that leave its variables; then the handler begins, or it ends.
abbrev pub ThrowDone : RawTree → List Line → Process → Proc Frame → Type 0
ThrowDone r lines memory process =
    (in_hand : Scan) (code : Code) (actor : ActorId) (error : ErrorCode) (entry : Entry) (frame : Frame) (after : Process)
    → RepresentsActor r lines in_hand memory process actor.0 entry frame → memory.asked ≡ None
    → MayThrow code memory process actor entry frame → Raised code actor error memory after
    → ProcessRepresents r lines in_hand after (throw_with actor.0 error.0 (raise error.0 frame) process).0
