-- Effects, actors that are called, and call statements.
use Rattle.std.proofs.Common.{◌≡◌, ℕ, ℤ, true, false, nat_lt, List, [], ◌∷◌, ◌++◌, length, map, set, slice_get, refl, ap, sym, subst, ◌∙◌, Result, OnOk}
use Rattle.std.proofs.lemmas.Option.{same_Some}
use Rattle.std.proofs.lemmas.Result.{IfOk-weaker}
use Rattle.std.specs.declared.option.Option.{Option}
use Rattle.std.specs.declared.option.Option.TheVariants.{None, Some}
use Rattle.flow_base.specs.declared.ids.ActorId.{ActorId}
use Rattle.flow_base.specs.declared.ids.CellId.{CellId}
use Rattle.flow_ast.specs.declared.predefined.Predefined.TheVariants as predefined
use Rattle.flow_ast.specs.declared.predefined.Method.{Method}
use Rattle.flow_value.specs.declared.value.Value.{Value}
use Rattle.flow_value.specs.declared.value.Value.TheVariants.{Ref, Void}
use Rattle.flow_value.specs.declared.value.Outcome.{Outcome}
use Rattle.flow_value.specs.declared.value.Kind.{Kind}
use Rattle.flow_value.specs.declared.value.Kind.TheVariants as kind
use Rattle.flow_value.specs.Values.{ValueTree}
use Rattle.flow_value.specs.View.{value_of, outcome_of}
use Rattle.flow_eval.specs.Answers.{int_of, text_of, arg}
use Rattle.flow_code.specs.declared.class.Class.{Class}
use Rattle.flow_code.specs.declared.class.Effect.{Effect}
use Rattle.flow_code.specs.declared.program.Code.{Code}
use Rattle.flow_trace.specs.declared.line.Line.{Line}
use Rattle.flow_trace.specs.declared.line.Line.TheVariants as line
use Rattle.flow_cancel.specs.declared.task.Task.TheVariants as task
use Rattle.flow_cancel.specs.Heap.{HeapTree, next_cell, next_actor, with_result, started_holding}
use Rattle.flow_cancel.specs.Dropping.{refs_in}
use Rattle.flow_meaning.specs.Lines.{print_line}
use Rattle.flow_meaning.specs.Requests as asks
use Rattle.flow_meaning.specs.Evaluating.{bind, sent, world_effect}
use Rattle.flow_heap_refinement.specs.Holds.{hold_all}
use Rattle.flow_steps.specs.declared.errors.Fault.{Fault}
use Rattle.flow_steps.specs.declared.call.Call.{Call}
use Rattle.flow_steps.specs.declared.call.Goal.{Goal}
use Rattle.flow_steps.specs.declared.frames.ControlPoint.{ControlPoint}
use Rattle.flow_steps.specs.declared.next.Pace.TheVariants.{Off}
use Rattle.flow_steps.specs.declared.process.Process.{Process}
use Rattle.flow_steps.specs.Doing.{turned, doing, asking, telling}
use Rattle.flow_steps.specs.Holding.{on_heap, value_refs, Gives}
use Rattle.flow_steps.specs.Delivering.{made, sending}
use Rattle.flow_steps.specs.Points.{noted, values}
use Rattle.flow_steps.specs.Acting.{Values, NewGiven, some_values, with_args, Enrols, StartTold, Starts, ActorCalled, not_called, actor_starts, EnrolsAlone, StartsAlone, VoidCalled, void_not_called, void_starts, EffectMade, EffectDone, Printed, IsMessage, MessageAsked, Sends}
use Rattle.flow_steps.proofs.Holding.{hold_append, value_alone}

-- the references of arguments up to one
pub args_held : (vs : List Value) (v : Value) (h : HeapTree) → hold_all (refs_in (vs ++ v ∷ [])) h ≡ hold_all (value_refs v) (hold_all (refs_in vs) h)
args_held [] v h = sym (value_alone v h)
args_held (u ∷ us) v h =
    hold_append (value_refs u) (refs_in (us ++ v ∷ [])) h
    ∙ args_held us v (hold_all (value_refs u) h)
    ∙ ap (hold_all (value_refs v)) (sym (hold_append (value_refs u) (refs_in us) h))

pub args_filled : (vs : List Value) (v : Value) → some_values (vs ++ v ∷ []) ≡ some_values vs ++ Some v ∷ []
args_filled [] v = refl
args_filled (u ∷ us) v = ap (λ l. Some u ∷ l) (args_filled us v)

-- an actor is made
pub enrols_by : (code : Code) (class : ℕ) (args : List Value) (xs : List (Option Value)) (i : ActorId) (k : CellId) (of : Class) (p one two q : Process)
    → Some of ≡ slice_get code.classes.items class → length args ≡ of.params → k.0 ≡ next_cell p.heap
    → one ≡ on_heap (with_result (next_cell p.heap)) p → two ≡ on_heap (hold_all (refs_in args)) one
    → xs ≡ some_values args → i.0 ≡ next_actor two.heap
    → q ≡ on_heap (started_holding class of.places xs (Some k)) two
    → Enrols code class args i k p q
enrols_by code class args xs i k of p one two q at params cell e f is actor s =
    let ready : two ≡ on_heap (with_args args) p = f ∙ ap (on_heap (hold_all (refs_in args))) e in
    record {
      of = of;
      at = sym at;
      params = params;
      cell = cell;
      actor = actor ∙ ap (λ (x : Process). next_actor x.heap) ready;
      made = s ∙ ap (on_heap (started_holding class of.places xs (Some k))) ready
          ∙ ap (λ l. on_heap (enrolled_with l) p) is;
    }
  where
    enrolled_with : List (Option Value) → HeapTree → HeapTree
    enrolled_with l h = started_holding class of.places l (Some k) (with_args args h)

-- the call of an actor
pub starts_by : (code : Code) (caller : ActorId) (g : Goal) (class : ℕ) (args : List Value) (i : ActorId) (k : CellId) (p one two three q : Process)
    → Enrols code class args i k p one → Gives g caller (Ref kind.Future k) one two
    → three ≡ doing (task.Run i) two → StartTold code class i three q → Starts code caller g class args p q
starts_by code caller g class args i k p one two three q e f t s = record {
  actor = i;
  cell = k;
  enrolled = one;
  given = two;
  enrols = e;
  gives = f;
  starts = subst (λ x. StartTold code class i x q) t s;
}

-- an effect whose arguments are known
pub effect_done : (code : Code) (s : ControlPoint) (g : Goal) (e : Effect) (args : Values) (p told q : Process) → told ≡ noted s p
    → EffectMade code s.actor g e args told q → EffectDone code s g e args p Off q
effect_done code s g e args p told q n w = (refl, subst (λ x. EffectMade code s.actor g e args x q) n w)

-- the line of a start
pub told_by : (code : Code) (class : ℕ) (of : Class) (i : ActorId) (name : List ℕ) (p q : Process) → Some of ≡ slice_get code.classes.items class → name ≡ of.name
    → q ≡ telling (line.Start i name) p → StartTold code class i p q
told_by code class of i name p q at n e = record { of = of; at = sym at; told = e ∙ ap (λ x. telling (line.Start i x) p) n }

-- what is printed, asked and sent
pub printed_by : (i : ActorId) (args : List ValueTree) (l : Line) (p one q : Process) → print_line i.0 (arg args 0) ≡ Some l
    → one ≡ doing (task.Run i) p → q ≡ telling l one → Printed i args p q
printed_by i args l p one q e f g = record { line = l; prints = e; told = g ∙ ap (telling l) f }

pub first_printed : (i : ActorId) (vs : List Value) (v : Value) (l : Line) (p one q : Process) → Some v ≡ slice_get vs 0 → print_line i.0 (value_of v) ≡ Some l
    → one ≡ doing (task.Run i) p → q ≡ telling l one → Printed i (map value_of vs) p q
first_printed i [] v l p one q at e f g = cc (at)
first_printed i (u ∷ us) v l p one q at e f g =
    printed_by i (map value_of (u ∷ us)) l p one q (ap (λ x. print_line i.0 (value_of x)) (sym (same_Some v u at)) ∙ e) f g

pub message_by : (i : ActorId) (args : List ValueTree) (c : Call) (p q : Process) → IsMessage i args c → q ≡ asking c p → MessageAsked i args p q
message_by i args c p q m e = record { message = c; is_message = m; asks = e }

pub sends_by : (i : ActorId) (m : Method) (kd : Kind) (k : CellId) (v : Option Value) (o : Outcome) (p q : Process)
    → sent m (map value_of (values v)) ≡ Some (outcome_of o) → q ≡ sending i kd k.0 o p → Sends i m kd k v p q
sends_by i m kd k v o p q e f = record { outcome = o; sent = e; sends = f }

pub new_given : (g : Goal) (i : ActorId) (kd : Kind) (k : CellId) (p q : Process) → k.0 ≡ next_cell p.heap
    → Gives g i (Ref kd k) (on_heap (made kd) p) q → NewGiven g i kd p q
new_given g i kd k p q n e = record { cell = k; number = n; given = e }

-- an actor that is called, or isn't for want of a turn
pub uncalled : (code : Code) (caller : ActorId) (g : Goal) (class : ℕ) (args : List Value) (p q : Process) → false ≡ nat_lt 0 p.left → q ≡ turned p
    → ActorCalled code caller g class args p q
uncalled code caller g class args p q t e = not_called (sym t) e

pub called_by : (code : Code) (caller : ActorId) (g : Goal) (class : ℕ) (args : List Value) (i : ActorId) (k : CellId) (r : Result (Unit {0}) Fault) (p mid one two three q : Process)
    → true ≡ nat_lt 0 p.left → mid ≡ turned p → Enrols code class args i k mid one → Gives g caller (Ref kind.Future k) one two
    → three ≡ doing (task.Run i) two → OnOk r (StartTold code class i three q) → OnOk r (ActorCalled code caller g class args p q)
called_by code caller g class args i k r p mid one two three q t e enrols f d s =
    IfOk-weaker r _ _ (λ _ is. actor_starts (sym t) (subst (λ x. Starts code caller g class args x q) e (starts_by code caller g class args i k mid one two three q enrols f d is))) s

-- a void actor is made
pub enrols_alone_by : (code : Code) (class : ℕ) (args : List Value) (xs : List (Option Value)) (i : ActorId) (of : Class) (p held q : Process)
    → Some of ≡ slice_get code.classes.items class → length args ≡ of.params → held ≡ on_heap (hold_all (refs_in args)) p
    → xs ≡ some_values args → i.0 ≡ next_actor held.heap → q ≡ on_heap (started_holding class of.places xs None) held
    → EnrolsAlone code class args i p q
enrols_alone_by code class args xs i of p held q at params e is actor s = record {
  of = of;
  at = sym at;
  params = params;
  actor = actor ∙ ap (λ (x : Process). next_actor x.heap) e;
  made = s ∙ ap (on_heap (started_holding class of.places xs None)) e
      ∙ ap (λ l. on_heap (λ h. started_holding class of.places l None (hold_all (refs_in args) h)) p) is;
}

-- a void actor that is called, or isn't for want of a turn
pub void_uncalled : (code : Code) (caller : ActorId) (class : ℕ) (args : List Value) (p q : Process) → false ≡ nat_lt 0 p.left → q ≡ turned p
    → VoidCalled code caller class args p q
void_uncalled code caller class args p q t e = void_not_called (sym t) e

pub void_called : (code : Code) (caller : ActorId) (class : ℕ) (args : List Value) (i : ActorId) (r : Result (Unit {0}) Fault) (p mid one two three q : Process)
    → true ≡ nat_lt 0 p.left → mid ≡ turned p → EnrolsAlone code class args i mid one → two ≡ doing (task.Run caller) one → three ≡ doing (task.Run i) two
    → OnOk r (StartTold code class i three q) → OnOk r (VoidCalled code caller class args p q)
void_called code caller class args i r p mid one two three q t e enrols d f s =
    let running = f ∙ ap (doing (task.Run i)) d in
    IfOk-weaker r _ _ (λ _ is. void_starts (sym t) (subst (λ x. StartsAlone code caller class args x q) e
    (record { actor = i; enrolled = one; enrols = enrols; starts = subst (λ x. StartTold code class i x q) running is }))) s

-- requests to a disk
pub read_asked : (vs : List ValueTree) (file : List ℕ) (offset count : ℤ) → text_of (arg vs 0) ≡ Some file → int_of (arg vs 1) ≡ Some offset → int_of (arg vs 2) ≡ Some count
    → world_effect predefined.ReadFile vs ≡ Some (asks.Disk (asks.ReadCall file offset count))
read_asked vs file offset count f o n =
    ap (λ x. bind x (λ file. bind (int_of (arg vs 1)) (λ offset. bind (int_of (arg vs 2)) (λ count. Some (asks.Disk (asks.ReadCall file offset count)))))) f
    ∙ ap (λ x. bind x (λ offset. bind (int_of (arg vs 2)) (λ count. Some (asks.Disk (asks.ReadCall file offset count))))) o
    ∙ ap (λ x. bind x (λ count. Some (asks.Disk (asks.ReadCall file offset count)))) n

pub first_kept : (vs : List Value) → arg (map value_of (set vs 2 Void)) 0 ≡ arg (map value_of vs) 0
first_kept [] = refl
first_kept (v ∷ vs) = refl

pub write_asked : (vs : List Value) (file text : List ℕ) (offset : ℤ) → int_of (arg (map value_of vs) 1) ≡ Some offset → text_of (arg (map value_of vs) 2) ≡ Some text
    → text_of (arg (map value_of (set vs 2 Void)) 0) ≡ Some file
    → world_effect predefined.WriteFile (map value_of vs) ≡ Some (asks.Disk (asks.WriteCall file offset text))
write_asked vs file text offset o t f =
    ap (λ x. bind x (λ file. bind (int_of (arg (map value_of vs) 1)) (λ offset. bind (text_of (arg (map value_of vs) 2)) (λ text. Some (asks.Disk (asks.WriteCall file offset text))))))
    (ap text_of (sym (first_kept vs)) ∙ f)
    ∙ ap (λ x. bind x (λ offset. bind (text_of (arg (map value_of vs) 2)) (λ text. Some (asks.Disk (asks.WriteCall file offset text))))) o
    ∙ ap (λ x. bind x (λ text. Some (asks.Disk (asks.WriteCall file offset text)))) t
