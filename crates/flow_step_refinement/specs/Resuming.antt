-- A frame in memory that is in the state of a wait belongs to an actor that waits, or that is to be
-- thrown an error or to end.
use Rattle.std.specs.Prelude.{◌≡◌, ◌⊎◌, ℕ, true, false, List, [], ◌∷◌, slice_get}
use Rattle.std.specs.declared.option.Option.TheVariants.{Some}
use Rattle.flow_base.specs.declared.ids.ActorId.{ActorId}
use Rattle.flow_base.specs.declared.ids.ProcId.{ProcId}
use Rattle.flow_value.specs.declared.value.Value.{Value}
use Rattle.flow_class.specs.Classes.{CallbackTree, ClassTree, RawTree}
use Rattle.flow_code.specs.declared.class.Class.{Class}
use Rattle.flow_code.specs.declared.class.Group.{Group}
use Rattle.flow_code.specs.declared.program.Code.{Code}
use Rattle.flow_code.specs.View.{group_numbered}
use Rattle.flow_numbered.specs.Numbered.{thing, IsRising}
use Rattle.flow_frame.specs.Frames.{FrameTree}
use Rattle.flow_cancel.specs.declared.task.Task.{Task}
use Rattle.flow_cancel.specs.declared.task.Task.TheVariants as task
use Rattle.flow_cancel.specs.Heap.{HeapTree}
use Rattle.flow_cancel.specs.Leaving.{waits}
use Rattle.flow_meaning.specs.Orderly.{Orderly}
use Rattle.flow_meaning.specs.Process as meaning
use Rattle.flow_meaning.specs.Process.{Entry, Proc}
use Rattle.flow_meaning.specs.Frame.{Frame}
use Rattle.flow_heap_refinement.specs.Representing.{Represents}
use Rattle.flow_steps.specs.declared.call.Goal.{Goal}
use Rattle.flow_steps.specs.declared.process.Process.{Process}
use Rattle.flow_steps.specs.Holding.{Gives}
use Rattle.flow_steps.specs.Tasks.{TopTaken, IsDone, MainCalled}
use Rattle.flow_operation_refinement.specs.Placing.{Acts}
use Rattle.flow_operation_refinement.specs.Coded.{CodedBy}

-- a task by which an actor is thrown an error, or ends; and whether there is one
abbrev pub Ends : (actor : ℕ) → Task → Type 0
Ends i (task.Throw a e) = a.0 ≡ i
Ends i (task.Close a o) = a.0 ≡ i
Ends i t = ⊥

abbrev pub IsEnding : (actor : ℕ) → List Task → Type 0
IsEnding i [] = ⊥
IsEnding i (t ∷ ts) = Ends i t ⊎ IsEnding i ts

pub data Fine (i : ℕ) (a : FrameTree Value) (ts : List Task) : Type 0 where
  in_no_state : a.state ≡ 0 → Fine i a ts
  is_waiting : waits a.state a.callbacks ≡ true → Fine i a ts
  is_ending : IsEnding i ts → Fine i a ts

abbrev pub NoStaleWaits : HeapTree → Type 0
NoStaleWaits h = (i : ℕ) (a : FrameTree Value) → thing h.frames.things i ≡ Some a → Fine i a h.tasks

-- each wait of a class has a branch
abbrev pub Branched : List Class → Type 0
Branched classes =
    (k : ℕ) (c : Class) (number : ℕ) (g : Group) → slice_get classes k ≡ Some c
    → group_numbered number c.groups.items ≡ Some g
    → g.branches.items ≡ [] → ⊥

-- It has, where the classes are coded from ones in which each group has a callback.
abbrev pub GroupsBranched : Type 0
GroupsBranched =
    (r : RawTree) (classes : List Class) → CodedBy r classes
    → ((k : ℕ) (c : ClassTree) (n : ℕ) (g : List CallbackTree) → slice_get r.classes k ≡ Some c
    → slice_get c.groups n ≡ Some g
    → g ≡ [] → ⊥) → Branched classes

-- Each task, done in memory, keeps it.
abbrev pub TaskKeeps : Type 0
TaskKeeps =
    (code : Code) (t : Task) (m start n : Process) → Branched code.classes.items
    → IsRising 0 m.heap.frames.things m.heap.frames.greatest → NoStaleWaits m.heap → TopTaken t m start
    → IsDone code t start n
    → NoStaleWaits n.heap

-- So does what changes no frame and takes no task off; a result that is given; and the call of `main`.
abbrev pub AsideKeeps : Type 0
AsideKeeps =
    (h g : HeapTree) → g.frames ≡ h.frames → ((i : ℕ) → IsEnding i h.tasks → IsEnding i g.tasks) → NoStaleWaits h
    → NoStaleWaits g

abbrev pub GivesKeeps : Type 0
GivesKeeps = (g : Goal) (i : ActorId) (v : Value) (m n : Process) → Gives g i v m n → NoStaleWaits m.heap
    → NoStaleWaits n.heap

abbrev pub MainKeeps : Type 0
MainKeeps = (code : Code) (me : ProcId) (m n : Process) → MainCalled code me m n → NoStaleWaits m.heap
    → NoStaleWaits n.heap

-- An actor whose own task is the newest of an orderly process is in no state of a wait.
abbrev pub AtNextStep : Type 0
AtNextStep =
    (r : RawTree) (h : HeapTree) (p q : Proc Frame) (i : ℕ) (e : Entry) (f : Frame) (ts : List meaning.Task)
    → Represents r h p
    → Orderly p.core → NoStaleWaits h → p.core.tasks ≡ meaning.Run i ∷ ts → (a : Acts r h q i e f) → e.suspended
    ≡ false
    → a.memory.state ≡ 0
