-- No step of an actor goes astray.
use Rattle.std.proofs.Common.{ℕ, List}
use Rattle.flow_class.specs.Classes.{RawTree}
use Rattle.flow_code.specs.declared.program.Code.{Code}
use Rattle.flow_trace.specs.declared.line.Line.{Line}
use Rattle.flow_meaning.specs.Requests.{Supply}
use Rattle.flow_meaning.specs.Process.{Entry, Proc}
use Rattle.flow_meaning.specs.References.{Scan}
use Rattle.flow_meaning.specs.Frame.{Frame}
use Rattle.flow_steps.specs.declared.frames.ControlPoint.{ControlPoint}
use Rattle.flow_steps.specs.declared.process.Process.{Process}
use Rattle.flow_steps.specs.StuckSteps.{behind_all, by_instruction, by_last}
use Rattle.flow_step_refinement.specs.Executing.{coded_by}
use Rattle.flow_step_refinement.specs.Continuing.{moves, chooses, MayStep}
use Rattle.flow_burst_refinement.proofs.Enabled.Steps.{standing}
use Rattle.flow_machine_progress.specs.Actors.{StepMeant}
use Rattle.flow_machine_progress.proofs.Actors.Instructions.{instruction_meant}
use Rattle.flow_machine_progress.proofs.Actors.Ends.{not_behind, end_meant}

pub step_meant : (r : RawTree) (code : Code) (w : Supply) (ls : List Line) (x : Scan) (s : ControlPoint) (m : Process) (p : Proc Frame) (i : ℕ) (e : Entry) (f : Frame)
    → StepMeant r code w ls x s m p i e f
step_meant r code w ls x s m p i e f now (behind_all behind) = by_step now.may
  where
    by_step : MayStep r ls x s m p i e f → ⊥
    by_step (moves st zero_state) =
        not_behind r code s i f (coded_by now.standing.program) now.standing.standing st.standing st.instruction (standing r w p i e f now.running).there behind
    by_step (chooses wait) =
        not_behind r code s i f (coded_by now.standing.program) now.standing.standing wait.standing wait.instruction (standing r w p i e f now.running).there behind
step_meant r code w ls x s m p i e f now (by_instruction y at stuck) = instruction_meant r code w ls x s m p i e f y now at stuck
step_meant r code w ls x s m p i e f now (by_last ends stuck) = end_meant r code w ls x s m p i e f now ends stuck
