-- Where the code has an actor stand is where its frame does.
use Rattle.std.specs.Prelude.{◌≡◌, ℕ, suc, List, map, length, slice_get}
use Rattle.std.specs.declared.option.Option.{Option}
use Rattle.std.specs.declared.option.Option.TheVariants.{Some}
use Rattle.flow_class.specs.Classes.{ChooseLast, BlockTree, ClassTree, RawTree}
use Rattle.flow_class.specs.Code.{Last, fetch, catcher_at}
use Rattle.flow_code.specs.Resolved.Resolving.{Naming}
use Rattle.flow_code.specs.declared.class.Class.{Class}
use Rattle.flow_code.specs.View.{code_of, block_of}
use Rattle.flow_code.specs.Coding.{homes_of, coded_block}
use Rattle.flow_code.specs.Coded.{coding, coded}
use Rattle.flow_cancel.specs.Heap.{actor_id}
use Rattle.flow_meaning.specs.Process.{Entry, Proc}
use Rattle.flow_meaning.specs.Frame.{Frame}
use Rattle.flow_steps.specs.declared.frames.ControlPoint.{ControlPoint}
use Rattle.flow_steps.specs.declared.process.Process.{Process}
use Rattle.flow_steps.specs.Points.{IsAtPoint}
use Rattle.flow_operation_refinement.specs.Placing.{Acts}
use Rattle.flow_operation_refinement.specs.Taking.{PointMatches, AtWait}
use Rattle.flow_operation_refinement.specs.Throwing.{SameCatcher}

-- the classes that are run are coded from those of a program
pub record CodedBy (r : RawTree) (classes : List Class) : Type 0 where
  pub names : Naming
  pub class : List ℕ → Option ℕ
  pub are_coded : map code_of classes ≡ map (coded names class) r.classes

-- each group of a class has the block as its home that ends in its wait
abbrev pub AtHome : ClassTree → Type 0
AtHome c =
    (b g : ℕ) (block : BlockTree) → slice_get c.blocks b ≡ Some block → block.last ≡ ChooseLast (suc g)
    → slice_get (homes_of c) g ≡ Some b

-- An actor stands where its frame does: in the same block, with its catch part, and at the same wait.
pub record PointIsCoded {r : RawTree} {classes : List Class} (c : CodedBy r classes) (s : ControlPoint) (i : ℕ) (f : Frame) : Type 0 where
  pub standing : PointMatches s i f
  pub block : BlockTree
  pub there : slice_get f.code.blocks f.block ≡ Some block
  pub same : block_of s.block.now ≡ coded_block (coding c.names c.class (length f.code.slots)) f.code block
  pub catcher : SameCatcher (length f.code.slots) s.block.now.catcher (catcher_at f.code f.block)
  pub waits : (g : ℕ) → fetch f.code f.block f.instr ≡ Last (ChooseLast g) → AtWait s f g

abbrev pub StandFollows : Type 0
StandFollows =
    (r : RawTree) (classes : List Class) (m : Process) (p : Proc Frame) (i : ℕ) (e : Entry) (f : Frame) (s : ControlPoint)
    → (c : CodedBy r classes) → AtHome f.code → Acts r m.heap p i e f → IsAtPoint classes (actor_id i) m s → PointIsCoded c s i f
