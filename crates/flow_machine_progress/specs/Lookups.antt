-- What a process in memory looks for is there, where it shows a process of the definitions that keeps what it has to.
use Rattle.std.specs.Prelude.{◌≡◌, ◌<◌, ℕ, true, false, List, [], ◌∷◌, length, slice_get, map}
use Rattle.std.specs.declared.option.Option.{Option}
use Rattle.std.specs.declared.option.Option.TheVariants.{None, Some}
use Rattle.flow_base.specs.declared.ids.CellId.{CellId}
use Rattle.flow_value.specs.declared.value.Kind.{Kind}
use Rattle.flow_value.specs.declared.value.Outcome.{Outcome}
use Rattle.flow_value.specs.declared.value.Value.{Value}
use Rattle.flow_numbered.specs.Numbered as stored
use Rattle.flow_cell.specs.Cells.{CellTree}
use Rattle.flow_class.specs.Classes.{CallbackTree, ChooseLast, RawTree}
use Rattle.flow_class.specs.Code.{Last, Nothing, fetch, group_at}
use Rattle.flow_code.specs.declared.class.Catcher.{Catcher}
use Rattle.flow_code.specs.declared.class.Class.{Class}
use Rattle.flow_frame.specs.Frames.{FrameTree}
use Rattle.flow_frame.specs.declared.held.Held.{Held}
use Rattle.flow_cancel.specs.Heap.{HeapTree}
use Rattle.flow_meaning.specs.Cells.{Ref, Cell, is_complete}
use Rattle.flow_numbered.specs.Numbered.{thing}
use Rattle.flow_meaning.specs.Frame.{Frame, over}
use Rattle.flow_meaning.specs.References.{Scan}
use Rattle.flow_meaning.specs.Process.{Entry, Proc}
use Rattle.flow_heap_refinement.specs.Holds.{Holds, AllThere}
use Rattle.flow_heap_refinement.specs.Losing.{RightCell, Losing}
use Rattle.flow_heap_refinement.specs.Acting.{At}
use Rattle.flow_steps.specs.Holding.{outcome_refs}
use Rattle.flow_steps.specs.Stuck.{SomeMissing, HasNoPoint, LosesStuck}
use Rattle.flow_steps.specs.StuckTasks.{HandlesStuck, EndsStuck, ForgetsStuck, BringStuck}
use Rattle.flow_value.specs.View.{outcome_of}
use Rattle.flow_steps.specs.Seen.{content_in}
use Rattle.flow_steps.specs.Waiting.{ready_at}
use Rattle.flow_steps.specs.StuckWaits.{NothingTaken, SomeNoCell}
use Rattle.flow_operation_refinement.specs.Coded.{CodedBy, AtHome}
use Rattle.flow_operation_refinement.specs.Placing.{Acts}

-- no reference that leads to a cell there, of its kind, is missing
abbrev pub NoneMissing : Type 0
NoneMissing =
    (r : RawTree) (in_hand : Scan) (h : HeapTree) (p : Proc Frame) (qs : List Ref) → Holds r in_hand h p → AllThere p qs
    → SomeMissing qs h → ⊥

-- a frame stands at an instruction, and if that is a wait, its class has the group
pub record HasPoint (f : Frame) : Type 0 where
  pub there : fetch f.code f.block f.instr ≡ Nothing → ⊥
  pub group : (g : ℕ) → fetch f.code f.block f.instr ≡ Last (ChooseLast g)
      → (cs : List CallbackTree) × (group_at f.code.groups g ≡ Some cs)

-- so its actor stands somewhere in memory, too
abbrev pub StandFound : Type 0
StandFound =
    (r : RawTree) (classes : List Class) (h : HeapTree) (p : Proc Frame) (i : ℕ) (e : Entry) (f : Frame) → CodedBy r classes
    → AtHome f.code → Acts r h p i e f → HasPoint f → HasNoPoint classes i h → ⊥

-- and what the loss of a reference leads to can be done
abbrev pub LossFound : Type 0
LossFound = (r : RawTree) (h : HeapTree) (p : Proc Frame) (kd : Kind) (k : ℕ) (c : Cell) → Losing r h p kd k c → LosesStuck kd k h → ⊥

-- an actor that is over, without operands, may be forgotten
abbrev pub ForgetFound : Type 0
ForgetFound =
    (r : RawTree) (h : HeapTree) (p : Proc Frame) (i : ℕ) (a : At r h p i) → a.frame ≡ over → a.entry.operands ≡ []
    → ForgetsStuck i h → ⊥

-- The outcome of an actor goes to its result, where that is unset, the actor's promise is the one that counts, and nobody waits
-- at it where no future refers to it.
abbrev pub EndFound : Type 0
EndFound =
    (k : CellId) (h : HeapTree) (m : CellTree Outcome) → stored.thing h.cells.things k.0 ≡ Some m → m.content ≡ None
    → m.references.promises ≡ 1 → (m.references.futures ≡ 0 → slice_get m.waiters 0 ≡ None) → EndsStuck (Some k) h → ⊥

-- an error finds its handler's places, where the frame has as many
abbrev pub AllBelow : ℕ → List ℕ → Type 0
AllBelow l [] = Unit {0}
AllBelow l (n ∷ ns) = (n < l) × AllBelow l ns

abbrev pub ErrorBelow : ℕ → Option ℕ → Type 0
ErrorBelow l None = Unit {0}
ErrorBelow l (Some n) = n < l

abbrev pub HandlerFound : Type 0
HandlerFound =
    (i : ℕ) (c : Catcher) (h : HeapTree) (m : FrameTree Value) → stored.thing h.frames.things i ≡ Some m
    → AllBelow (length m.places) c.drops.items → ErrorBelow (length m.places) c.error → HandlesStuck i c h → ⊥

-- content that the world brings comes into a cell of its kind to which more can be sent, where its references are there
abbrev pub BringFound : Type 0
BringFound =
    (r : RawTree) (in_hand : Scan) (h : HeapTree) (p : Proc Frame) (kd : Kind) (k : ℕ) (c : Cell) (o : Outcome)
    → Holds r in_hand h p → AllThere p (outcome_refs o) → thing p.core.cells k ≡ Some c → RightCell kd c
    → is_complete c ≡ false → BringStuck kd k o h → ⊥

-- where a cell is ready, and what it holds leads to cells there, a branch takes something from it
abbrev pub TakenFound : Type 0
TakenFound =
    (r : RawTree) (in_hand : Scan) (h : HeapTree) (p : Proc Frame) (k : ℕ) → Holds r in_hand h p
    → ((o : Outcome) → content_in h.cells k ≡ Some (outcome_of o) → AllThere p (outcome_refs o)) → ready_at k h ≡ true
    → NothingTaken k h → ⊥

-- where operands' references lead to cells there, none of their cells is missing
abbrev pub CellsFound : Type 0
CellsFound =
    (r : RawTree) (in_hand : Scan) (h : HeapTree) (p : Proc Frame) (qs : List Ref) (xs : List Held) → Holds r in_hand h p
    → AllThere p qs → map (λ (q : Ref). q.1) qs ≡ map (λ (x : Held). x.cell.0) xs → SomeNoCell xs h → ⊥
