-- What an actor sees while it evaluates, and how it goes on with what that comes to.
use Rattle.std.specs.Prelude.{◌≡◌, true, ℕ, ℤ, pos, ◌^◌, ◌-◌, nat_lt, if◌then◌else◌}
use Rattle.std.specs.declared.option.Option.TheVariants.{Some}
use Rattle.flow_base.specs.declared.ids.ErrorCode.{ErrorCode}
use Rattle.flow_tree.specs.declared.limits.TheConstants.{CALL_DEPTH}
use Rattle.flow_class.specs.View.{raw_of}
use Rattle.flow_eval.specs.Eval.{Setting, Res, Done, Fails, Spent}
use Rattle.flow_eval.specs.Functions.{run_function}
use Rattle.flow_eval.specs.declared.stop.Halt.{Halt}
use Rattle.flow_eval.specs.declared.stop.Halt.TheVariants as halt
use Rattle.flow_code.specs.Resolved.Evaluation.{ActorViewTree}
use Rattle.flow_code.specs.Resolved.View.{places_in}
use Rattle.flow_code.specs.declared.program.Code.{Code}
use Rattle.flow_cancel.specs.declared.task.Task.TheVariants.{Throw}
use Rattle.flow_steps.specs.declared.frames.ControlPoint.{ControlPoint}
use Rattle.flow_steps.specs.declared.next.Pace.{Pace}
use Rattle.flow_steps.specs.declared.next.Pace.TheVariants.{Off}
use Rattle.flow_steps.specs.declared.process.Process.{Process}
use Rattle.flow_steps.specs.Doing.{doing}
use Rattle.flow_steps.specs.Seen.{value_in, content_in}
use Rattle.flow_steps.specs.Points.{noted}

-- the time of the event as a number of programs
abbrev pub last_time : ℕ
last_time = 2 ^ 63 - 1

abbrev pub program_time : (ticks : ℕ) → ℤ
program_time t = if nat_lt last_time t then pos last_time else pos t

-- the records and functions of the program, what the set cells hold, and the time
abbrev pub setting_in : Code → Process → Setting
setting_in code p = record {
  records = (raw_of code.program).records;
  functions = (raw_of code.program).functions;
  cells = content_in p.heap.cells;
  now = program_time p.time;
}

-- that, and what the places of the actor hold
abbrev pub sight_in : Code → (actor : ℕ) → Process → ActorViewTree
sight_in code i p = record {
  setting = setting_in code p;
  run = run_function (setting_in code p) CALL_DEPTH;
  places = places_in code.fields;
  held = λ n. value_in p.heap.frames i (Some n);
}

abbrev pub with_left : (left : ℕ) → Process → Process
with_left n p = record p { left = n }

-- Evaluation broke off: an error is thrown where the actor stands, or a turn was needed and none was left.
abbrev pub Halted : ControlPoint → Halt → Process → Process → Type 0
Halted s (halt.Thrown e) p q = q ≡ doing (Throw s.actor e) (noted s p)
Halted s halt.Spent p q = q ≡ record (noted s p) { spent = true }
Halted s halt.NoMeaning p q = ⊥
Halted s halt.OutOfMemory p q = ⊥

-- What an actor does with what evaluation comes to: it goes on with the value and the turns that are left, or breaks off.
pub data Evaluates {A B : Type 0} (s : ControlPoint) (seen : B → A) (comes_to : Res A) (p : Process)
    (goes : B → Process → Pace → Process → Type 0) : Pace → Process → Type 0 where
  gives : (b : B) (left : ℕ) (pace : Pace) (q : Process) → comes_to ≡ Done (seen b) left → goes b (with_left left p) pace q
      → Evaluates s seen comes_to p goes pace q
  throws : (e : ErrorCode) (left : ℕ) (q : Process) → comes_to ≡ Fails e.0 left → Halted s (halt.Thrown e) (with_left left p) q
      → Evaluates s seen comes_to p goes Off q
  runs_out : (q : Process) → comes_to ≡ Spent → Halted s halt.Spent (with_left 0 p) q
      → Evaluates s seen comes_to p goes Off q
