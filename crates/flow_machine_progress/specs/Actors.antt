-- The next step of an actor that memory shows has a meaning, and finds what it looks for.
use Rattle.std.specs.Prelude.{◌≡◌, ℕ, pos, List, length, slice_get}
use Rattle.std.specs.declared.option.Option.TheVariants.{None, Some}
use Rattle.std.specs.declared.vec.Vec.{Vec}
use Rattle.std.specs.declared.alloc.Global.{Global}
use Rattle.flow_class.specs.Classes.{RawTree}
use Rattle.flow_code.specs.declared.class.Aim.{Aim}
use Rattle.flow_code.specs.declared.class.Effect.{Effect}
use Rattle.flow_code.specs.declared.class.Instruction.{Instruction}
use Rattle.flow_code.specs.declared.class.Instruction.TheVariants as instruction
use Rattle.flow_code.specs.declared.class.Last.TheVariants as last
use Rattle.flow_code.specs.declared.program.Code.{Code}
use Rattle.flow_code.specs.declared.expr.expr.Resolved.{Resolved}
use Rattle.flow_trace.specs.declared.line.Line.{Line}
use Rattle.flow_meaning.specs.Requests.{Supply}
use Rattle.flow_meaning.specs.Frame.{Frame}
use Rattle.flow_meaning.specs.References.{Scan}
use Rattle.flow_meaning.specs.Process.{Entry, Proc}
use Rattle.flow_heap_refinement.specs.Rested.{Sorted}
use Rattle.flow_steps.specs.declared.frames.ControlPoint.{ControlPoint}
use Rattle.flow_steps.specs.declared.process.Process.{Process}
use Rattle.flow_steps.specs.Evaluating.{program_time}
use Rattle.flow_steps.specs.StuckCalls.{EffectStuck}
use Rattle.flow_steps.specs.StuckSteps.{DoesStuck, LastStuck, ChoosesStuck, StepStuck}
use Rattle.flow_step_refinement.specs.Executing.{InProgram}
use Rattle.flow_step_refinement.specs.Continuing.{MayStep}
use Rattle.flow_burst_refinement.specs.Enabled.Allowing.{Running}

-- An actor that takes its next step, with its own task off, in a process in memory that asks nothing: memory shows a process
-- of valid classes that keeps what it has to, at the world's time, and its numbers rise.
pub record AtStep (r : RawTree) (code : Code) (w : Supply) (ls : List Line) (x : Scan) (s : ControlPoint) (m : Process) (p : Proc Frame)
    (i : ℕ) (e : Entry) (f : Frame) : Type 0 where
  pub may : MayStep r ls x s m p i e f
  pub standing : InProgram r code s f
  pub running : Running r p i e f
  pub unasked : m.asked ≡ None
  pub sorted : Sorted m.heap
  pub clock : program_time m.time ≡ pos w.now

module _ (r : RawTree) (code : Code) (w : Supply) (ls : List Line) (x : Scan) (s : ControlPoint) (m : Process) (p : Proc Frame)
    (i : ℕ) (e : Entry) (f : Frame) where
  -- an effect by which it stands makes what it asks for
  abbrev pub EffectMeant : Type 0
  EffectMeant =
      (aim : Aim) (called : Effect) (args : Vec Resolved Global) → AtStep r code w ls x s m p i e f
      → slice_get s.block.now.body.items s.instruction ≡ Some (instruction.Effect aim called args)
      → EffectStuck code s called args.items m → ⊥

  -- so does any instruction, and a wait, and any other end of a block
  abbrev pub InstructionMeant : Type 0
  InstructionMeant =
      (y : Instruction) → AtStep r code w ls x s m p i e f → slice_get s.block.now.body.items s.instruction ≡ Some y
      → DoesStuck code s y m → ⊥

  abbrev pub ChoiceMeant : Type 0
  ChoiceMeant =
      (g : ℕ) → AtStep r code w ls x s m p i e f → s.instruction ≡ length s.block.now.body.items
      → s.block.now.last ≡ last.Choose g → ChoosesStuck code s g m → ⊥

  abbrev pub EndMeant : Type 0
  EndMeant =
      AtStep r code w ls x s m p i e f → s.instruction ≡ length s.block.now.body.items → LastStuck code s s.block.now.last m → ⊥

  -- So no step of an actor goes astray.
  abbrev pub StepMeant : Type 0
  StepMeant = AtStep r code w ls x s m p i e f → StepStuck code s m → ⊥
