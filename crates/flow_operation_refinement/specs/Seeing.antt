-- What an actor in memory evaluates is what the frame evaluates that it shows.
use Rattle.std.specs.Prelude.{◌≡◌, ◌≤◌, ℕ, ◌+◌, ◌^◌, pos, List, length}
use Rattle.flow_tree.specs.Tree.{ExprTree}
use Rattle.flow_class.specs.View.{raw_of}
use Rattle.flow_class.specs.Classes.{RawTree}
use Rattle.flow_code.specs.declared.program.Code.{Code}
use Rattle.flow_code.specs.Places.{place_in}
use Rattle.flow_code.specs.Coded.{IsCoded}
use Rattle.flow_code.specs.Resolved.Resolving.{resolved}
use Rattle.flow_code.specs.Resolved.Evaluation.{value_at}
use Rattle.flow_trace.specs.declared.line.Line.{Line}
use Rattle.flow_meaning.specs.Requests.{Supply}
use Rattle.flow_meaning.specs.Process.{Entry, Proc}
use Rattle.flow_meaning.specs.References.{Scan}
use Rattle.flow_meaning.specs.Evaluating.{value}
use Rattle.flow_meaning.specs.Step.{view}
use Rattle.flow_meaning.specs.Class.{class_names}
use Rattle.flow_meaning.specs.Frame.{Frame, look}
use Rattle.flow_steps.specs.declared.process.Process.{Process}
use Rattle.flow_steps.specs.Evaluating.{sight_in, program_time}
use Rattle.flow_operation_refinement.specs.Placing.{RepresentsActor}

-- The code is that of a program, and coded by some naming of it.
pub record IsCodeOf (r : RawTree) (code : Code) : Type 0 where
  pub program : raw_of code.program ≡ r
  pub coded : IsCoded r code.fields code.classes.items code.main

-- An expression of an actor's class comes to the same, with as many turns, where the time is the world's and the frame has
-- places with numbers below 2^32.
abbrev pub ExprFollows : Type 0
ExprFollows =
    (r : RawTree) (ls : List Line) (x : Scan) (m : Process) (p : Proc Frame) (i : ℕ) (e : Entry) (f : Frame) (code : Code) (s : Supply)
    (t : ExprTree) → RepresentsActor r ls x m p i e f → (c : IsCodeOf r code) → program_time m.time ≡ pos s.now
    → length f.code.slots + length f.mem.locals ≤ 2 ^ 32
    → value_at (sight_in code i m) (resolved (record c.coded.names { place = place_in (length f.code.slots) }) t) m.left
    ≡ value (class_names r) (view s i p.core) (look f.mem) t
