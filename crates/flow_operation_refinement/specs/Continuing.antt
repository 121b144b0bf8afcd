-- An actor that goes on in memory, at once or by its task, goes on in the process.
use Rattle.std.specs.Prelude.{◌≡◌, ℕ, suc, ◌+◌, true, List, [], ◌∷◌, map, length}
use Rattle.flow_value.specs.declared.value.Value.{Value}
use Rattle.flow_value.specs.Values.{ValueTree}
use Rattle.flow_value.specs.View.{value_of}
use Rattle.flow_class.specs.declared.class.Slotted.{Slotted}
use Rattle.flow_class.specs.Classes.{RawTree}
use Rattle.std.specs.declared.option.Option.{Option}
use Rattle.std.specs.declared.option.Option.TheVariants.{None, Some}
use Rattle.flow_trace.specs.declared.line.Line.{Line}
use Rattle.flow_cancel.specs.Heap.{actor_id}
use Rattle.flow_numbered.specs.Numbered.{thing, put}
use Rattle.flow_meaning.specs.Cells.{Ref}
use Rattle.flow_meaning.specs.Process.{Run, Entry, Proc}
use Rattle.flow_meaning.specs.References.{Scan, refs_in}
use Rattle.flow_meaning.specs.Work.{turn, pushed, dropping}
use Rattle.flow_meaning.specs.Step.{proc, on_core}
use Rattle.flow_meaning.specs.Variables.{filled}
use Rattle.flow_meaning.specs.Frame.{Memory, Frame, read, write, held_in, emptied, go}
use Rattle.flow_heap_refinement.specs.Acting.{Free, put_frame}
use Rattle.flow_heap_refinement.specs.FrameChanges.{HasPlace, number_in}
use Rattle.flow_heap_refinement.specs.Holds.{with_refs}
use Rattle.flow_steps.specs.declared.frames.ControlPoint.{ControlPoint}
use Rattle.flow_steps.specs.declared.next.Pace.{Pace}
use Rattle.flow_steps.specs.declared.next.Pace.TheVariants.{On, Off}
use Rattle.flow_steps.specs.declared.process.Process.{Process}
use Rattle.flow_steps.specs.Holding.{on_heap, value_refs}
use Rattle.flow_steps.specs.Points.{GoesTo, next_stand, places_taken, places_emptied}
use Rattle.flow_steps.specs.Stepping.{OnAfter, GoesOnAt, Passes}
use Rattle.flow_steps.specs.Tasks.{bound_over, bound}
use Rattle.flow_operation_refinement.specs.Matching.{ProcessRepresents, AreSpent}
use Rattle.flow_operation_refinement.specs.Placing.{RepresentsActor, HasLocals}
use Rattle.flow_operation_refinement.specs.Taking.{PointMatches}

-- An actor that is free to go on: it runs, waits nowhere and has kept no operand. Where its frame in memory says that it
-- stands may be stale.
pub record MayMove (s : ControlPoint) (p : Proc Frame) (i : ℕ) (e : Entry) (f : Frame) : Type 0 where
  pub actor : s.actor ≡ actor_id i
  pub slots : s.class.now.slots ≡ length f.code.slots
  pub free : Free i p.core
  pub operands : e.operands ≡ []

-- a frame that says that it stands elsewhere
abbrev pub stale : (block instr state : ℕ) → Frame → Frame
stale b n k f = record f { block = b; instr = n; state = k }

-- Memory shows the process but for where an actor stands, which its frame there need not say yet.
pub record MayBeStale (r : RawTree) (ls : List Line) (x : Scan) (s : ControlPoint) (m : Process) (p : Proc Frame) (i : ℕ) (e : Entry)
    (f : Frame)
    : Type 0 where
  pub block : ℕ
  pub instr : ℕ
  pub state : ℕ
  pub stood : RepresentsActor r ls x m (put_frame i (stale block instr state f) p) i e (stale block instr state f)
  pub told : s.noted ≡ true → stale block instr state f ≡ f
  pub acting : thing p.actors i ≡ Some f
  pub standing : PointMatches s i f
  pub instruction : s.instruction ≡ f.instr
  pub free : Free i p.core
  pub operands : e.operands ≡ []

-- The actor goes on where this stand is, at once; its own task is off.
abbrev pub ContinuesAt : RawTree → List Line → Scan → ControlPoint → Process → Proc Frame → ℕ → Entry → Frame → Type 0
ContinuesAt r ls x t m p i e g = MayBeStale r ls x t m (put_frame i g p) i e g

module _ (r : RawTree) (ls : List Line) (m : Process) (p : Proc Frame) (i : ℕ) (e : Entry) (f : Frame) where
  -- it goes on at another instruction, or at the begin of another block
  abbrev pub GoneOn : Type 0
  GoneOn =
      (x : Scan) (s t : ControlPoint) (b n k : ℕ) → RepresentsActor r ls x m p i e f → MayMove s p i e f → GoesTo s b n t
      → ContinuesAt r ls x t m p i e (record f { block = b; instr = n; state = k })

  -- values in hand are left over: where there are none it goes on at once, and else they are dropped before its task
  abbrev pub AfterValues : Scan → ControlPoint → List Ref → Frame → Pace → Process → Type 0
  AfterValues x t rs g (On u) n = (u ≡ t) × (rs ≡ []) × ContinuesAt r ls x t n p i e g
  AfterValues x t rs g Off n = ProcessRepresents r ls x n (proc (dropping rs (pushed (Run i) p.core)) (put p.actors i g))

  abbrev pub ValuesLeft : Type 0
  ValuesLeft =
      (x : Scan) (s t : ControlPoint) (b j k : ℕ) (vs : List Value) (pace : Pace) (n : Process)
      → RepresentsActor r ls (with_refs (refs_in (map value_of vs)) x) m p i e f → MayMove s p i e f → GoesTo s b j t
      → OnAfter t vs m pace n
      → AfterValues x t (refs_in (map value_of vs)) (record f { block = b; instr = j; state = k }) pace n

  -- locals are emptied by an instruction, and dropped
  abbrev pub LocalsDropped : Type 0
  LocalsDropped =
      (x : Scan) (s : ControlPoint) (ns : List ℕ) (k : ℕ) (pace : Pace) (n : Process) → RepresentsActor r ls x m p i e f
      → MayMove s p i e f → HasLocals f ns
      → OnAfter (next_stand s) (places_taken i (map (λ k. length f.code.slots + k) ns) m.heap)
      (on_heap (places_emptied i (map (λ k. length f.code.slots + k) ns)) m) pace n
      → AfterValues x (next_stand s) (refs_in (held_in f.mem ns)) (record f {
        mem =
            emptied ns f.mem;
        block = s.place;
        instr = suc s.instruction;
        state = k;
      }) pace n

  -- It goes on at a block at once; where a pass of a loop begins, if a turn is left.
  abbrev pub GoesAt : Scan → Frame → Pace → Process → Type 0
  GoesAt x g (On t) n = ContinuesAt r ls x t n p i e g
  GoesAt x g Off n = ⊥

  abbrev pub AfterPass : Scan → Frame → Pace → Process → Type 0
  AfterPass x g (On t) n = (k : ℕ) × (m.left ≡ suc k) × ContinuesAt r ls x t n (on_core (λ c. record c { left = k }) p) i e g
  AfterPass x g Off n = AreSpent ls n (proc (turn p.core (λ d. pushed (Run i) d)) (put p.actors i g))

  abbrev pub WentTo : Type 0
  WentTo =
      (x : Scan) (s : ControlPoint) (b : ℕ) (pace : Pace) (n : Process) → RepresentsActor r ls x m p i e f → MayMove s p i e f
      → GoesOnAt s b m pace n → GoesAt x (go b f.mem f) pace n

  abbrev pub PassBegan : Type 0
  PassBegan =
      (x : Scan) (s : ControlPoint) (b : ℕ) (pace : Pace) (n : Process) → RepresentsActor r ls x m p i e f → MayMove s p i e f
      → Passes s b m pace n → AfterPass x (go b f.mem f) pace n

  -- What a branch that was taken is coded from: the block, and the place of its value, which the frame has.
  abbrev pub SameInto : Option ℕ → Option Slotted → Type 0
  SameInto None None = Unit {0}
  SameInto (Some n) (Some q) = (n ≡ number_in (length f.code.slots) q) × HasPlace f q
  SameInto None (Some q) = ⊥
  SameInto (Some n) None = ⊥

  -- the values that are left over where a value goes into a place, or nowhere, and the memory afterwards
  abbrev pub over_at : Option Slotted → ValueTree → List ValueTree
  over_at None v = v ∷ []
  over_at (Some q) v = filled (read f.mem q ∷ [])

  abbrev pub memory_at : Option Slotted → ValueTree → Memory
  memory_at None v = f.mem
  memory_at (Some q) v = write f.mem q (Some v)

  -- a value in hand goes to the place of a branch, and the actor goes on at the block of the branch
  abbrev pub ValueBound : Type 0
  ValueBound =
      (x : Scan) (s t : ControlPoint) (b : ℕ) (into : Option ℕ) (place : Option Slotted) (v : Value) (pace : Pace) (n : Process)
      → RepresentsActor r ls (with_refs (value_refs v) x) m p i e f → MayMove s p i e f → SameInto into place → GoesTo s b 0 t
      → OnAfter t (bound_over i into v m.heap) (on_heap (bound i into v) m) pace n
      → AfterValues x t (refs_in (over_at place (value_of v))) (go b (memory_at place (value_of v)) f) pace n
