-- A step of an actor in memory by which one of its variables gets a value is a step of the class machine,
-- or two.
use Rattle.std.specs.Prelude.{◌≡◌, ℕ, List, [], ◌∷◌, length}
use Rattle.std.specs.Option.{option_map}
use Rattle.std.specs.declared.option.Option.{Option}
use Rattle.std.specs.declared.option.Option.TheVariants.{None, Some}
use Rattle.flow_tree.specs.declared.ty.Ident.{Ident}
use Rattle.flow_tree.specs.Tree.{TypeTree, VectorType, ExprTree}
use Rattle.flow_tree.specs.Decls.{RecordTree}
use Rattle.flow_value.specs.declared.value.Value.{Value}
use Rattle.flow_value.specs.declared.value.Kind.{Kind}
use Rattle.flow_value.specs.Values.{ValueTree, CompositeValue, NoValues, ListWhole}
use Rattle.flow_value.specs.View.{value_of}
use Rattle.flow_eval.specs.Eval.{Res, Done}
use Rattle.flow_code.specs.Resolved.Resolving.{IsNumbering}
use Rattle.flow_code.specs.Resolved.View.{places_in}
use Rattle.flow_class.specs.declared.class.Slotted.{Slotted}
use Rattle.flow_class.specs.Classes.{SetInstr, NewInstr, RawTree}
use Rattle.flow_class.specs.Code.{Body, fetch, type_at}
use Rattle.flow_class.specs.Places.{place_named}
use Rattle.flow_code.specs.declared.class.Aim.{Aim}
use Rattle.flow_code.specs.declared.program.Code.{Code}
use Rattle.flow_code.specs.Coding.{fields_of}
use Rattle.flow_trace.specs.declared.line.Line.{Line}
use Rattle.flow_cancel.specs.Heap.{actor_id}
use Rattle.flow_meaning.specs.Requests.{Supply}
use Rattle.flow_meaning.specs.Evaluating.{value}
use Rattle.flow_meaning.specs.Process.{Run, Entry, Proc}
use Rattle.flow_meaning.specs.References.{Scan, refs_in}
use Rattle.flow_meaning.specs.Orderly.{Rising}
use Rattle.flow_meaning.specs.Work.{pushed}
use Rattle.flow_meaning.specs.Step.{view, on_core}
use Rattle.flow_meaning.specs.Class.{promise_kind, class_names}
use Rattle.flow_meaning.specs.Variables.{filled}
use Rattle.flow_meaning.specs.Frame.{Memory, Frame, look, assign}
use Rattle.flow_heap_refinement.specs.Acting.{put_frame}
use Rattle.flow_heap_refinement.specs.FrameChanges.{HasPlace, number_in}
use Rattle.flow_heap_refinement.specs.Holds.{with_refs}
use Rattle.flow_steps.specs.declared.frames.ControlPoint.{ControlPoint}
use Rattle.flow_steps.specs.declared.next.Pace.{Pace}
use Rattle.flow_steps.specs.declared.process.Process.{Process}
use Rattle.flow_steps.specs.Holding.{value_refs}
use Rattle.flow_steps.specs.Evaluating.{Evaluates}
use Rattle.flow_steps.specs.Points.{Assigns}
use Rattle.flow_steps.specs.Stepping.{IsSet, IsNew}
use Rattle.flow_operation_refinement.specs.Placing.{RepresentsActor, with_memory}
use Rattle.flow_operation_refinement.specs.Continuing.{MayBeStale}
use Rattle.flow_operation_refinement.specs.Carried.{StepsAs}
use Rattle.flow_step_refinement.specs.Continuing.{GoesBy}
use Rattle.flow_step_refinement.specs.Deciding.{GivesThere}

-- An aim in memory is that of a path: its place is that of the first name, which the frame has; its
-- numbers are those of the fields.
pub record AimsAt (rs : List RecordTree) (code : Code) (f : Frame) (path : List Ident) (aim : Aim)
    : Type 0 where
  pub name : Ident
  pub fields : List Ident
  pub place : Slotted
  pub field : List ℕ → Option ℕ
  pub names : path ≡ name ∷ fields
  pub named : place_named name.name ≡ Some place
  pub has : HasPlace f place
  pub number : aim.place ≡ number_in (length f.code.slots) place
  pub numbering : IsNumbering rs field (places_in code.fields)
  pub numbers : fields_of field fields ≡ Some aim.path.items

-- where a path leads a value can be put
abbrev pub CanAssign : List RecordTree → Frame → List Ident → ValueTree → Type 0
CanAssign rs f path v = assign rs f.mem path v ≡ None → ⊥

abbrev pub CanAssignAll : List RecordTree → Frame → List Ident → Res ValueTree → Type 0
CanAssignAll rs f path comes_to = (v : ValueTree) (left : ℕ) → comes_to ≡ Done v left → CanAssign rs f path v

module _ (r : RawTree) (ls : List Line) (m : Process) (p : Proc Frame) (i : ℕ) (e : Entry) (f : Frame) where
  -- A value in hand goes where a path leads, and what stood there comes to hand.
  pub record Assigned (x : Scan) (path : List Ident) (v : Value) (old : Option Value) (n : Process)
      : Type 0 where
    pub values : List ValueTree
    pub memory : Memory
    pub assigned : assign r.records f.mem path (value_of v) ≡ Some (values, memory)
    pub same : values ≡ filled (option_map value_of old ∷ [])
    pub stood : RepresentsActor r ls (with_refs (refs_in values) x) n (put_frame i (with_memory memory f) p) i e (with_memory memory f)

  abbrev pub PathPut : Type 0
  PathPut =
      (x : Scan) (code : Code) (path : List Ident) (aim : Aim) (v : Value) (old : Option Value) (n : Process)
      → RepresentsActor r ls (with_refs (value_refs v) x) m p i e f → AimsAt r.records code f path aim
      → CanAssign r.records f path (value_of v)
      → Assigns code.fields (actor_id i) aim v m old n → Assigned x path v old n

  -- an assignment of a value
  abbrev pub SetStep : Type 0
  SetStep =
      (x : Scan) (s : ControlPoint) (w : Supply) (code : Code) (path : List Ident) (t : ExprTree) (aim : Aim)
      (comes_to : Res ValueTree) (pace : Pace)
      (n : Process) → MayBeStale r ls x s m p i e f → fetch f.code f.block f.instr ≡ Body (SetInstr path t)
      → comes_to ≡ value (class_names r) (view w i p.core) (look f.mem) t → GivesThere p comes_to
      → AimsAt r.records code f path aim → CanAssignAll r.records f path comes_to
      → Evaluates s value_of comes_to m (IsSet code s aim) pace n → StepsAs r ls x w p i e pace n

  -- the empty vector goes into a place
  abbrev pub EmptyStep : Type 0
  EmptyStep =
      (x : Scan) (s : ControlPoint) (w : Supply) (code : Code) (q : Slotted) (u : TypeTree) (name : Ident) (aim : Aim) (pace : Pace)
      (n : Process)
      → MayBeStale r ls x s m p i e f → fetch f.code f.block f.instr ≡ Body (NewInstr q) → type_at f.code q ≡ Some (VectorType u)
      → place_named name.name ≡ Some q → AimsAt r.records code f (name ∷ []) aim
      → Evaluates s value_of (Done (CompositeValue ListWhole NoValues) m.left) m (IsSet code s aim) pace n → StepsAs r ls x w p i e pace n

  -- A new cell goes into a place: in the class machine it is made by one step, and stored by the next.
  abbrev pub NewStep : Type 0
  NewStep =
      (x : Scan) (s : ControlPoint) (w : Supply) (q : Slotted) (u : TypeTree) (kd : Kind) (pace : Pace) (n : Process)
      → MayBeStale r ls x s m p i e f → fetch f.code f.block f.instr ≡ Body (NewInstr q) → HasPlace f q
      → type_at f.code q ≡ Some u → promise_kind u ≡ Some kd → Rising 0 p.core.made p.core.cells
      → IsNew s (number_in (length f.code.slots) q) kd m pace n
      → GoesBy r ls x w i e.class (on_core (pushed (Run i)) p) pace n
