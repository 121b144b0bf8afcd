-- What a process keeps allows each of its actors what it asks.
use Rattle.std.specs.Prelude.{ℕ}
use Rattle.flow_class.specs.Classes.{RawTree}
use Rattle.flow_class.specs.Code.{fetch}
use Rattle.flow_code.specs.declared.program.Code.{Code}
use Rattle.flow_meaning.specs.Requests.{Supply}
use Rattle.flow_meaning.specs.Process.{Entry, Proc}
use Rattle.flow_meaning.specs.Frame.{Frame}
use Rattle.flow_operation_refinement.specs.Seeing.{IsCodeOf}
use Rattle.flow_burst_refinement.specs.Enabled.Allowing.{Running}
use Rattle.flow_burst_refinement.specs.Requests.Next.{MayAskNext}

abbrev pub AskAllowed : Type 0
AskAllowed =
    (r : RawTree) (code : Code) (w : Supply) (p : Proc Frame) (i : ℕ) (e : Entry) (f : Frame)
    → Running r p i e f → IsCodeOf r code
    → MayAskNext r code w p i e f (fetch f.code f.block f.instr)
