-- What an actor evaluates refers to what is there.
use Rattle.std.specs.Prelude.{◌≡◌, ℕ, List}
use Rattle.std.specs.declared.option.Option.TheVariants.{Some}
use Rattle.flow_tree.specs.Tree.{ExprTree, ExprTrees}
use Rattle.flow_value.specs.Values.{ValueTree, GoodOutcome, refs_of}
use Rattle.flow_eval.specs.Eval.{Res, Done}
use Rattle.flow_class.specs.declared.class.Slotted.{Slotted}
use Rattle.flow_class.specs.Classes.{RawTree}
use Rattle.flow_numbered.specs.Numbered.{thing}
use Rattle.flow_meaning.specs.Cells.{outcome}
use Rattle.flow_meaning.specs.Requests.{Supply}
use Rattle.flow_meaning.specs.Evaluating.{value, values}
use Rattle.flow_meaning.specs.Process.{Proc}
use Rattle.flow_meaning.specs.References.{refs_in}
use Rattle.flow_meaning.specs.Step.{view}
use Rattle.flow_meaning.specs.Class.{class_names}
use Rattle.flow_meaning.specs.Frame.{Frame, read, look}
use Rattle.flow_heap_refinement.specs.Holds.{AllThere}
use Rattle.flow_step_refinement.specs.Deciding.{GivesThere}

-- so do the variables of a frame, and what set cells hold; and so do arguments
abbrev pub HoldsThere : Proc Frame → Frame → Type 0
HoldsThere p f = (q : Slotted) (v : ValueTree) → read f.mem q ≡ Some v → AllThere p (refs_of v)

abbrev pub SetThere : Proc Frame → Type 0
SetThere p = (k : ℕ) (v : ValueTree) → outcome (thing p.core.cells k) ≡ Some (GoodOutcome v)
    → AllThere p (refs_of v)

abbrev pub AllGiveThere : Proc Frame → Res (List ValueTree) → Type 0
AllGiveThere p comes_to = (vs : List ValueTree) (left : ℕ) → comes_to ≡ Done vs left → AllThere p (refs_in vs)

abbrev pub ValueThere : Type 0
ValueThere =
    (r : RawTree) (p : Proc Frame) (f : Frame) (w : Supply) (i : ℕ) (t : ExprTree) → HoldsThere p f
    → SetThere p
    → GivesThere p (value (class_names r) (view w i p.core) (look f.mem) t)

abbrev pub ArgumentsThere : Type 0
ArgumentsThere =
    (r : RawTree) (p : Proc Frame) (f : Frame) (w : Supply) (i : ℕ) (es : ExprTrees) → HoldsThere p f
    → SetThere p
    → AllGiveThere p (values (class_names r) (view w i p.core) (look f.mem) es)
