-- What a process keeps allows each step of its actors.
use Rattle.std.specs.Prelude.{◌≡◌, ℕ, suc}
use Rattle.std.specs.declared.option.Option.TheVariants.{Some}
use Rattle.flow_tree.specs.Tree.{ExprTree, ExprTrees}
use Rattle.flow_class.specs.Classes.{RawTree}
use Rattle.flow_class.specs.Code.{fetch}
use Rattle.flow_numbered.specs.Numbered.{thing}
use Rattle.flow_meaning.specs.Requests.{Supply}
use Rattle.flow_meaning.specs.Evaluating.{value, values}
use Rattle.flow_meaning.specs.Process.{Run, Entry, Proc}
use Rattle.flow_meaning.specs.Orderly.{Rising}
use Rattle.flow_meaning.specs.Work.{pushed}
use Rattle.flow_meaning.specs.Step.{view, on_core}
use Rattle.flow_meaning.specs.Class.{class_names}
use Rattle.flow_meaning.specs.Frame.{Frame, look}
use Rattle.flow_heap_refinement.specs.Acting.{Free}
use Rattle.flow_invariants.specs.Unmarked.{AreWhole}
use Rattle.flow_step_refinement.specs.Deciding.{GivesThere}
use Rattle.flow_step_refinement.specs.Referring.{AllGiveThere}
use Rattle.flow_step_refinement.specs.Executing.{MayDoNext}
use Rattle.flow_burst_refinement.specs.Invariants.Invariant.{ProcessInvariant}

-- An actor whose task is the newest of a process that keeps what it has to; its task is off.
pub record Running (r : RawTree) (p : Proc Frame) (i : ℕ) (e : Entry) (f : Frame) : Type 0 where
  pub whole : AreWhole r
  pub kept : ProcessInvariant r (on_core (pushed (Run i)) p)
  pub entered : thing p.core.entries i ≡ Some e
  pub acting : thing p.actors i ≡ Some f

-- By what it stands at it may take its next step.
abbrev pub StepAllowed : Type 0
StepAllowed =
    (r : RawTree) (w : Supply) (p : Proc Frame) (i : ℕ) (e : Entry) (f : Frame) → Running r p i e f
    → MayDoNext r w p i e f (fetch f.code f.block f.instr)

-- What it evaluates refers to what is there.
abbrev pub ValuesThere : Type 0
ValuesThere =
    (r : RawTree) (w : Supply) (p : Proc Frame) (i : ℕ) (e : Entry) (f : Frame) → Running r p i e f
    → ((t : ExprTree) → GivesThere p (value (class_names r) (view w i p.core) (look f.mem) t))
    × ((es : ExprTrees) → AllGiveThere p (values (class_names r) (view w i p.core) (look f.mem) es))

-- Numbers rise, and nothing waits for the next actor.
pub record Makes (p : Proc Frame) : Type 0 where
  pub cells : Rising 0 p.core.made p.core.cells
  pub entries : Rising 0 p.core.started p.core.entries
  pub next : Free (suc p.core.started) p.core

abbrev pub MakingAllowed : Type 0
MakingAllowed = (r : RawTree) (p : Proc Frame) (i : ℕ) (e : Entry) (f : Frame) → Running r p i e f → Makes p
