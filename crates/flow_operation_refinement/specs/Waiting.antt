-- An actor that has kept all its operands waits in memory as it does by the definitions.
use Rattle.std.specs.Prelude.{◌≡◌, ℕ, suc, false, List, [], ◌∷◌}
use Rattle.std.specs.declared.option.Option.TheVariants.{None, Some}
use Rattle.flow_value.specs.Values.{OutcomeTree}
use Rattle.flow_class.specs.Classes.{RawTree}
use Rattle.flow_trace.specs.declared.line.Line.{Line}
use Rattle.flow_numbered.specs.Numbered.{Numbered, thing, put}
use Rattle.flow_meaning.specs.Cells.{Ref, Cell, taken}
use Rattle.flow_meaning.specs.Process.{Entry, Proc}
use Rattle.flow_meaning.specs.References.{Scan, refs_in, value_in}
use Rattle.flow_meaning.specs.React.{wait}
use Rattle.flow_meaning.specs.Step.{proc}
use Rattle.flow_meaning.specs.Frame.{Frame, lose}
use Rattle.flow_heap_refinement.specs.Representing.{wait_spot}
use Rattle.flow_heap_refinement.specs.Leaving.{wait_kind}
use Rattle.flow_heap_refinement.specs.Holds.{AllThere}
use Rattle.flow_steps.specs.declared.frames.ControlPoint.{ControlPoint}
use Rattle.flow_steps.specs.declared.process.Process.{Process}
use Rattle.flow_steps.specs.Waiting.{Waits}
use Rattle.flow_operation_refinement.specs.Matching.{Matches}
use Rattle.flow_operation_refinement.specs.Placing.{RepresentsActor}
use Rattle.flow_operation_refinement.specs.Taking.{PointMatches, AtWait, MayGo}

-- each operand is of the kind by which one waits at its cell, which is there
abbrev pub Waitable : Numbered Cell → List Ref → Type 0
Waitable cs [] = Unit {0}
Waitable cs (q ∷ qs) = ((c : Cell) × (thing cs q.1 ≡ Some c) × (q.0 ≡ wait_kind (Some c))) × Waitable cs qs

-- An actor that runs, stands at a wait and has kept its operands, of which there are some.
pub record MayAwait (s : ControlPoint) (p : Proc Frame) (i group : ℕ) (e : Entry) (f : Frame) : Type 0 where
  pub standing : PointMatches s i f
  pub wait : AtWait s f (suc group)
  pub go : MayGo i e p.core
  pub awake : e.suspended ≡ false
  pub first : Ref
  pub others : List Ref
  pub operands : e.operands ≡ first ∷ others
  pub waitable : Waitable p.core.cells e.operands
  pub contents : (k : ℕ) (c : Cell) (o : OutcomeTree) → thing p.core.cells k ≡ Some c → taken c ≡ Some o
      → AllThere p (refs_in (value_in o))

-- The first operand that is ready is taken; otherwise the actor waits for all of them, with the line, and its locals are
-- dropped; where a stream refuses, that is thrown.
abbrev pub WaitDone : RawTree → List Line → Process → Proc Frame → Type 0
WaitDone r ls m p =
    (x : Scan) (s : ControlPoint) (i group : ℕ) (e : Entry) (f : Frame) (n : Process) → RepresentsActor r ls x m p i e f
    → m.asked ≡ None → MayAwait s p i group e f → Waits s (suc group) m n
    → Matches r ls x n (proc (wait i (wait_spot f) (thing p.core.entries i) (lose f).0 p.core)
    (put p.actors i (record (lose f).1 { state = suc group })))
