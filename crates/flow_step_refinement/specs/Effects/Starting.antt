-- An actor that starts in memory starts in the process.
use Rattle.std.specs.Prelude.{◌≡◌, ◌≤◌, ℕ, suc, pos, ◌+◌, List, [], ◌∷◌, map, length, slice_get}
use Rattle.std.specs.Option.{option_map}
use Rattle.std.specs.declared.option.Option.{Option}
use Rattle.std.specs.declared.option.Option.TheVariants.{None, Some}
use Rattle.flow_base.specs.declared.ids.ActorId.{ActorId}
use Rattle.flow_base.specs.declared.ids.ProcId.{ProcId}
use Rattle.flow_value.specs.declared.value.Value.{Value}
use Rattle.flow_value.specs.Values.{ValueTree, IntValue}
use Rattle.flow_value.specs.View.{value_of}
use Rattle.flow_class.specs.Classes.{ClassTree, RawTree}
use Rattle.flow_code.specs.declared.program.Code.{Code}
use Rattle.flow_trace.specs.declared.line.Line.{Line}
use Rattle.flow_cancel.specs.Heap.{cell_id, started_holding}
use Rattle.flow_meaning.specs.Requests as asks
use Rattle.flow_meaning.specs.Process.{Entry, Proc}
use Rattle.flow_meaning.specs.References.{Scan, refs_in}
use Rattle.flow_meaning.specs.Orderly.{Rising}
use Rattle.flow_meaning.specs.Deliver.{boot}
use Rattle.flow_meaning.specs.Step.{start, start_alone}
use Rattle.flow_meaning.specs.Class.{classes, begun}
use Rattle.flow_meaning.specs.Frame.{Frame}
use Rattle.flow_heap_refinement.specs.Acting.{Free, with_actor}
use Rattle.flow_heap_refinement.specs.Holds.{with_refs, There, AllThere}
use Rattle.flow_steps.specs.declared.call.Goal.{Goal}
use Rattle.flow_steps.specs.declared.process.Process.{Process}
use Rattle.flow_steps.specs.Holding.{on_heap}
use Rattle.flow_steps.specs.Acting.{some_values, ActorCalled, VoidCalled}
use Rattle.flow_steps.specs.Tasks.{MainCalled}
use Rattle.flow_value.specs.declared.value.Kind.TheVariants as kind
use Rattle.flow_operation_refinement.specs.Matching.{ProcessRepresents, Matches}
use Rattle.flow_operation_refinement.specs.Working.{SameGoal}
use Rattle.flow_operation_refinement.specs.Placing.{Acts}
use Rattle.flow_operation_refinement.specs.Coded.{CodedBy}

-- What is needed of a process in which an actor of a class starts: numbers rise, nothing waits for the next actor, and the
-- class takes the arguments, which refer to what is there.
pub record MayStart (r : RawTree) (p : Proc Frame) (code : Code) (class : ℕ) (vs : List ValueTree) : Type 0 where
  pub coded : CodedBy r code.classes.items
  pub cells : Rising 0 p.core.made p.core.cells
  pub entries : Rising 0 p.core.started p.core.entries
  pub free : Free (suc p.core.started) p.core
  pub there : AllThere p (refs_in vs)
  pub tree : ClassTree
  pub at : slice_get r.classes class ≡ Some tree
  pub taken : length vs ≡ tree.params
  pub fits : tree.params ≤ length tree.slots

module _ (r : RawTree) (ls : List Line) (x : Scan) (m : Process) (p : Proc Frame) where
  -- An actor of a class gets its frame: its arguments, which are in hand, fill the first slots; its result, where it has one, is there.
  abbrev pub ActorHolds : Type 0
  ActorHolds =
      (class places : ℕ) (result : Option ℕ) (c : ClassTree) (vs : List Value)
      → ProcessRepresents r ls (with_refs (refs_in (map value_of vs)) x) m p
      → slice_get r.classes class ≡ Some c → places ≡ length c.slots + length c.locals → length vs ≤ length c.slots
      → length vs ≡ c.params
      → Rising 0 p.core.started p.core.entries → Free (suc p.core.started) p.core
      → ((k : ℕ) → result ≡ Some k → There p (kind.Promise, k))
      → ProcessRepresents r ls x (on_heap (started_holding class places (some_values vs) (option_map cell_id result)) m)
      (with_actor class result (begun c (map value_of vs)) p)

  -- the call of an actor by another, where a turn is left
  abbrev pub CallStarts : Type 0
  CallStarts =
      (code : Code) (i : ActorId) (g : Goal) (h : asks.Goal) (class : ℕ) (vs : List Value) (e : Entry) (f : Frame) (n : Process)
      → ProcessRepresents r ls x m p → m.asked ≡ None → Acts r m.heap p i.0 e f → MayStart r p code class (map value_of vs)
      → SameGoal p i.0 g h
      → ActorCalled code i g class vs m n
      → Matches r ls x n (start (classes r) i.0 h class ((classes r).fresh class (map value_of vs)) p).0

  -- the call of a void actor, where a turn is left
  abbrev pub VoidStarts : Type 0
  VoidStarts =
      (code : Code) (i : ActorId) (class : ℕ) (vs : List Value) (e : Entry) (f : Frame) (n : Process)
      → ProcessRepresents r ls x m p → m.asked ≡ None → Acts r m.heap p i.0 e f → MayStart r p code class (map value_of vs)
      → VoidCalled code i class vs m n
      → Matches r ls x n (start_alone (classes r) i.0 class ((classes r).fresh class (map value_of vs)) p).0

-- the call of `main`, whose result the process holds
abbrev pub MainBoots : RawTree → List Line → Process → Proc Frame → Type 0
MainBoots r ls m p =
    (x : Scan) (code : Code) (me : ProcId) (n : Process) → ProcessRepresents r ls x m p → m.asked ≡ None → p.core.main ≡ None
    → code.main ≡ Some (classes r).main → MayStart r p code (classes r).main (IntValue (pos me.0) ∷ []) → MainCalled code me m n
    → Matches r ls x n (boot (classes r) me.0 p)
