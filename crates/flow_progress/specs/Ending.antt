-- Every event ends: what that says of one burst.
use Rattle.std.specs.Prelude.{◌≡◌, ◌⊎◌, ℕ, true, List, ◌∷◌, slice_get}
use Rattle.std.specs.declared.option.Option.TheVariants.{None, Some}
use Rattle.flow_tree.specs.declared.ty.Ident.{Ident}
use Rattle.flow_tree.specs.Tree.{ExprTree}
use Rattle.flow_value.specs.Values.{ValueTree}
use Rattle.flow_class.specs.Classes.{EffectInstr, ClassTree, RawTree}
use Rattle.flow_class.specs.Code.{Body, fetch}
use Rattle.flow_valid.specs.Validity.{leads_forward, catchers_kept}
use Rattle.flow_numbered.specs.Numbered.{Numbered, thing}
use Rattle.flow_meaning.specs.Process.{Task, Store, Core, Engine}
use Rattle.flow_meaning.specs.Orderly.{Orderly, UnlessStopped}
use Rattle.flow_meaning.specs.Burst.{Host, Live, advance}
use Rattle.flow_meaning.specs.Frame.{Frame, assign}
use Rattle.flow_meaning.specs.Class.{class_names, classes}
use Rattle.flow_progress.specs.Phases.{Placed}
use Rattle.flow_progress.specs.FramesByRequest.{Going}

-- In each class jumps, tests and catch parts lead to blocks of greater number.
abbrev pub LeadOn : RawTree → Type 0
LeadOn r = (k : ℕ) (c : ClassTree) → slice_get r.classes k ≡ Some c → (leads_forward c ≡ true) × (catchers_kept c ≡ true)

-- a process in order, whose frames are known by what they asked for last
pub record InPlace (r : RawTree) (c : Core) (xs : Numbered Frame) : Type 0 where
  pub orderly : Orderly c
  pub frames : Placed (Going r) c xs

-- some steps of a process in its world
pub data Reaches {W A : Type 0} (e : Engine A) (h : Host W) : Live W A → Live W A → Type 0 where
  here : {s : Live W A} → Reaches e h s s
  onward : {s t : Live W A} → (next : Live W A) → advance e h s ≡ Some next → Reaches e h next t → Reaches e h s t

-- The result of an effect is to be stored where nothing can be put: the path leads to no field of what stands there.
pub record NoPlace (r : RawTree) (c : Core) (xs : Numbered Frame) : Type 0 where
  pub actor : ℕ
  pub value : ValueTree
  pub rest : List Task
  pub frame : Frame
  pub path : List Ident
  pub call : ExprTree
  pub newest : c.tasks ≡ Store actor value ∷ rest
  pub stands : thing xs actor ≡ Some frame
  pub instruction : fetch frame.code frame.block frame.instr ≡ Body (EffectInstr path call)
  pub none : assign (class_names r).records frame.mem path value ≡ None

-- After so many steps nothing is left to do, or the result of an effect has no place.
abbrev pub Ends : {W : Type 0} → RawTree → Host W → Live W Frame → Type 0
Ends {W} r h s =
    (t : Live W Frame) × Reaches (classes r) h s t × ((advance (classes r) h t ≡ None) ⊎ NoPlace r t.proc.core t.proc.actors)

abbrev pub BurstsEnd : {W : Type 0} → RawTree → Host W → Type 0
BurstsEnd {W} r h =
    (s : Live W Frame) → UnlessStopped s.proc.core.halted (InPlace r s.proc.core s.proc.actors) → Ends r h s
