-- Effects and call statements of actors.
use Rattle.std.specs.Prelude.{◌≡◌, ℕ, ℤ, true, false, nat_lt, List, map, length, slice_get}
use Rattle.std.specs.declared.option.Option.{Option}
use Rattle.std.specs.declared.option.Option.TheVariants.{None, Some}
use Rattle.std.specs.declared.vec.Vec.{Vec}
use Rattle.std.specs.declared.alloc.Global.{Global}
use Rattle.flow_base.specs.declared.ids.ActorId.{ActorId}
use Rattle.flow_base.specs.declared.ids.CellId.{CellId}
use Rattle.flow_ast.specs.declared.predefined.Predefined.{Predefined}
use Rattle.flow_ast.specs.declared.predefined.Predefined.TheVariants as predefined
use Rattle.flow_ast.specs.declared.predefined.Method.{Method}
use Rattle.flow_ast.specs.declared.predefined.Method.TheVariants as method
use Rattle.flow_value.specs.declared.value.Value.{Value}
use Rattle.flow_value.specs.declared.value.Value.TheVariants.{Ref}
use Rattle.flow_value.specs.declared.value.Outcome.{Outcome}
use Rattle.flow_value.specs.declared.value.Kind.{Kind}
use Rattle.flow_value.specs.declared.value.Kind.TheVariants as kind
use Rattle.flow_value.specs.Values.{ValueTree}
use Rattle.flow_value.specs.View.{value_of, outcome_of}
use Rattle.flow_eval.specs.Answers.{int_of, text_of, arg}
use Rattle.flow_code.specs.declared.expr.expr.Resolved.{Resolved}
use Rattle.flow_code.specs.Resolved.View.{nodes_of}
use Rattle.flow_code.specs.Resolved.Evaluation.{values_at}
use Rattle.flow_code.specs.declared.class.Class.{Class}
use Rattle.flow_code.specs.declared.class.Effect.{Effect}
use Rattle.flow_code.specs.declared.class.Effect.TheVariants as effect
use Rattle.flow_code.specs.declared.program.Code.{Code}
use Rattle.flow_trace.specs.declared.line.Line.{Line}
use Rattle.flow_trace.specs.declared.line.Line.TheVariants as line
use Rattle.flow_cancel.specs.declared.task.Task.TheVariants as task
use Rattle.flow_cancel.specs.Heap.{HeapTree, next_cell, next_actor, with_result, started_holding}
use Rattle.flow_cancel.specs.Dropping.{refs_in}
use Rattle.flow_meaning.specs.Requests as asks
use Rattle.flow_meaning.specs.Evaluating as asked
use Rattle.flow_meaning.specs.Lines.{print_line}
use Rattle.flow_heap_refinement.specs.Holds.{hold_all}
use Rattle.flow_steps.specs.declared.call.DiskCall.{DiskCall}
use Rattle.flow_steps.specs.declared.call.DiskCall.TheVariants as disk
use Rattle.flow_steps.specs.declared.call.Call.{Call}
use Rattle.flow_steps.specs.declared.call.Call.TheVariants as call
use Rattle.flow_steps.specs.declared.call.Goal.{Goal}
use Rattle.flow_steps.specs.declared.frames.ControlPoint.{ControlPoint}
use Rattle.flow_steps.specs.declared.next.Pace.{Pace}
use Rattle.flow_steps.specs.declared.next.Pace.TheVariants.{Off}
use Rattle.flow_steps.specs.declared.process.Process.{Process}
use Rattle.flow_steps.specs.Doing.{turned, doing, asking, telling}
use Rattle.flow_steps.specs.Holding.{on_heap, Gives, owner_cancelled}
use Rattle.flow_steps.specs.Delivering.{made, sending}
use Rattle.flow_steps.specs.Points.{noted, values}
use Rattle.flow_steps.specs.Evaluating.{sight_in, Evaluates}

-- values as plain data
abbrev pub Values : Type 0
Values = Vec Value Global

abbrev pub args_of : Values → List ValueTree
args_of vs = map value_of vs.items

-- a request to a disk as plain data
abbrev pub disk_of : DiskCall → asks.DiskCall ℤ
disk_of (disk.Read file offset count) = asks.ReadCall file offset count
disk_of (disk.Write file offset text) = asks.WriteCall file offset text
disk_of (disk.Sync file) = asks.SyncCall file
disk_of (disk.Size file) = asks.SizeCall file

-- A new cell is given to an actor, to which nothing else refers.
pub record NewGiven (g : Goal) (i : ActorId) (kind : Kind) (p q : Process) : Type 0 where
  pub cell : CellId
  pub number : cell.0 ≡ next_cell p.heap
  pub given : Gives g i (Ref kind cell) (on_heap (made kind) p) q

-- A request to a disk is asked of the world.
pub record DiskAsked (i : ActorId) (g : Goal) (request : asks.DiskCall ℤ) (p q : Process) : Type 0 where
  pub asked : DiskCall
  pub same : disk_of asked ≡ request
  pub asks : q ≡ asking (call.Disk i g asked) p

-- An effect of an actor is asked of the world; a result that never comes is made at once.
abbrev pub EffectAsked : ActorId → Goal → Option asks.Effect → Process → Process → Type 0
EffectAsked i g (Some (asks.Draw lo hi)) p q = q ≡ asking (call.Draw i g lo hi) p
EffectAsked i g (Some (asks.Delay ticks)) p q = q ≡ asking (call.Delay i g ticks) p
EffectAsked i g (Some (asks.Listen port)) p q = q ≡ asking (call.Listen i g port) p
EffectAsked i g (Some asks.Never) p q = NewGiven g i kind.Future p q
EffectAsked i g (Some (asks.Disk request)) p q = DiskAsked i g request p q
EffectAsked i g _ p q = ⊥

abbrev pub WorldAsked : ActorId → Goal → Predefined → Values → Process → Process → Type 0
WorldAsked i g called args p q = EffectAsked i g (asked.world_effect called (args_of args)) p q

-- An actor of the class at a place is made, with these arguments: its result, its number and its frame.
abbrev pub some_values : List Value → List (Option Value)
some_values vs = map Some vs

abbrev pub with_args : List Value → HeapTree → HeapTree
with_args args h = hold_all (refs_in args) (with_result (next_cell h) h)

abbrev pub enrolled : (class places : ℕ) → List Value → CellId → HeapTree → HeapTree
enrolled class places args k h = started_holding class places (some_values args) (Some k) (with_args args h)

pub record Enrols (code : Code) (class : ℕ) (args : List Value) (i : ActorId) (k : CellId) (p q : Process) : Type 0 where
  pub of : Class
  pub at : slice_get code.classes.items class ≡ Some of
  pub params : length args ≡ of.params
  pub cell : k.0 ≡ next_cell p.heap
  pub actor : i.0 ≡ next_actor (with_args args p.heap)
  pub made : q ≡ on_heap (enrolled class of.places args k) p

-- with the line of its start
pub record StartTold (code : Code) (class : ℕ) (i : ActorId) (p q : Process) : Type 0 where
  pub of : Class
  pub at : slice_get code.classes.items class ≡ Some of
  pub told : q ≡ telling (line.Start i of.name) p

-- The call of an actor: the new actor runs; its result is then stored or kept, and the caller goes on.
pub record Starts (code : Code) (caller : ActorId) (g : Goal) (class : ℕ) (args : List Value) (p q : Process) : Type 0 where
  pub actor : ActorId
  pub cell : CellId
  pub enrolled : Process
  pub given : Process
  pub enrols : Enrols code class args actor cell p enrolled
  pub gives : Gives g caller (Ref kind.Future cell) enrolled given
  pub starts : StartTold code class actor (doing (task.Run actor) given) q

-- where a turn is left
pub data ActorCalled (code : Code) (caller : ActorId) (g : Goal) (class : ℕ) (args : List Value) (p q : Process) : Type 0 where
  not_called : nat_lt 0 p.left ≡ false → q ≡ turned p → ActorCalled code caller g class args p q
  actor_starts : nat_lt 0 p.left ≡ true → Starts code caller g class args (turned p) q → ActorCalled code caller g class args p q

-- A void actor of the class at a place is made, with these arguments: its number and its frame.
abbrev pub enrolled_alone : (class places : ℕ) → List Value → HeapTree → HeapTree
enrolled_alone class places args h = started_holding class places (some_values args) None (hold_all (refs_in args) h)

pub record EnrolsAlone (code : Code) (class : ℕ) (args : List Value) (i : ActorId) (p q : Process) : Type 0 where
  pub of : Class
  pub at : slice_get code.classes.items class ≡ Some of
  pub params : length args ≡ of.params
  pub actor : i.0 ≡ next_actor (hold_all (refs_in args) p.heap)
  pub made : q ≡ on_heap (enrolled_alone class of.places args) p

-- The call of a void actor: the new actor runs, and then the caller goes on.
pub record StartsAlone (code : Code) (caller : ActorId) (class : ℕ) (args : List Value) (p q : Process) : Type 0 where
  pub actor : ActorId
  pub enrolled : Process
  pub enrols : EnrolsAlone code class args actor p enrolled
  pub starts : StartTold code class actor (doing (task.Run actor) (doing (task.Run caller) enrolled)) q

-- where a turn is left
pub data VoidCalled (code : Code) (caller : ActorId) (class : ℕ) (args : List Value) (p q : Process) : Type 0 where
  void_not_called : nat_lt 0 p.left ≡ false → q ≡ turned p → VoidCalled code caller class args p q
  void_starts : nat_lt 0 p.left ≡ true → StartsAlone code caller class args (turned p) q → VoidCalled code caller class args p q

-- An effect with its arguments known; the frame of the actor says where it stands.
abbrev pub EffectMade : Code → ActorId → Goal → Effect → Values → Process → Process → Type 0
EffectMade code i g (effect.World called) args p q = WorldAsked i g called args p q
EffectMade code i g (effect.Actor class) args p q = ActorCalled code i g class args.items p q

abbrev pub EffectDone : Code → ControlPoint → Goal → Effect → Values → Process → Pace → Process → Type 0
EffectDone code s g e args p pace q = (pace ≡ Off) × EffectMade code s.actor g e args (noted s p) q

abbrev pub IsEffect : Code → ControlPoint → Goal → Effect → List Resolved → Process → Pace → Process → Type 0
IsEffect code s g e args p pace q =
    Evaluates s args_of (values_at (sight_in code s.actor.0 p) (nodes_of args) p.left) p (EffectDone code s g e) pace q

-- A value is printed.
pub record Printed (i : ActorId) (args : List ValueTree) (p q : Process) : Type 0 where
  pub line : Line
  pub prints : print_line i.0 (arg args 0) ≡ Some line
  pub told : q ≡ telling line (doing (task.Run i) p)

-- A text is sent to a port of a process.
abbrev pub IsMessage : ActorId → List ValueTree → Call → Type 0
IsMessage i args (call.SendTo j process port text) =
    (j ≡ i) × (int_of (arg args 0) ≡ Some process) × (int_of (arg args 1) ≡ Some port) × (text_of (arg args 2) ≡ Some text)
IsMessage i args c = ⊥

pub record MessageAsked (i : ActorId) (args : List ValueTree) (p q : Process) : Type 0 where
  pub message : Call
  pub is_message : IsMessage i args message
  pub asks : q ≡ asking message p

-- a call statement of a predefined name
abbrev pub PredefinedCalled : ActorId → Predefined → Values → Process → Process → Type 0
PredefinedCalled i predefined.Trace args p q = Printed i (args_of args) p q
PredefinedCalled i predefined.SendTo args p q = MessageAsked i (args_of args) p q
PredefinedCalled i _ args p q = ⊥

-- An actor sends what a method sends.
pub record Sends (i : ActorId) (m : Method) (kd : Kind) (k : CellId) (arg : Option Value) (p q : Process) : Type 0 where
  pub outcome : Outcome
  pub sent : asked.sent m (map value_of (values arg)) ≡ Some (outcome_of outcome)
  pub sends : q ≡ sending i kd k.0 outcome p

-- a call statement on a reference
abbrev pub MethodCalled : ActorId → Method → Kind → CellId → Option Value → Process → Process → Type 0
MethodCalled i m kind.Promise k arg p q = Sends i m kind.Promise k arg p q
MethodCalled i m kind.PromiseStream k arg p q = Sends i m kind.PromiseStream k arg p q
MethodCalled i m kind.Future k arg p q = (m ≡ method.Cancel) × (q ≡ owner_cancelled k.0 (doing (task.Run i) p))
MethodCalled i m kind.FutureStream k arg p q = ⊥
