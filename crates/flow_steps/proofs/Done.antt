-- What tasks do.
use Rattle.std.proofs.Common.{◌≡◌, ℕ, true, false, nat_lt, List, [], ◌∷◌, drop, slice_get, pos, refl, ap, sym, subst, ◌∙◌, Result, OnOk, if◌then◌else◌}
use Rattle.std.proofs.lemmas.Option.{same_Some}
use Rattle.std.proofs.lemmas.Result.{IfOk-weaker}
use Rattle.std.proofs.lemmas.Bool.{false≢true}
use Rattle.std.specs.Option.{IsSomeAnd, is_some}
use Rattle.std.specs.declared.option.Option.{Option}
use Rattle.std.specs.declared.option.Option.TheVariants.{None, Some}
use Rattle.std.specs.declared.vec.Vec.{Vec}
use Rattle.std.specs.declared.alloc.Global.{Global}
use Rattle.flow_base.specs.declared.ids.ActorId.{ActorId}
use Rattle.flow_base.specs.declared.ids.CellId.{CellId}
use Rattle.flow_base.specs.declared.ids.ErrorCode.{ErrorCode}
use Rattle.flow_base.specs.declared.ids.ProcId.{ProcId}
use Rattle.flow_value.specs.declared.value.Value.{Value}
use Rattle.flow_value.specs.declared.value.Outcome.{Outcome}
use Rattle.flow_value.specs.declared.value.Outcome.TheVariants as outcome
use Rattle.flow_value.specs.declared.value.Value.TheVariants as value
use Rattle.flow_value.specs.declared.value.Kind.{Kind}
use Rattle.flow_value.specs.declared.value.Kind.TheVariants as kind
use Rattle.flow_heap_refinement.specs.Holds.{hold}
use Rattle.flow_steps.specs.declared.errors.Fault.{Fault}
use Rattle.flow_steps.specs.Acting.{Enrols, StartTold}
use Rattle.flow_code.specs.declared.class.Aim.{Aim}
use Rattle.flow_code.specs.declared.class.Branch.{Branch}
use Rattle.flow_code.specs.declared.class.Effect.{Effect}
use Rattle.flow_code.specs.declared.class.Group.{Group}
use Rattle.flow_code.specs.declared.class.Instruction.{Instruction}
use Rattle.flow_code.specs.declared.class.Instruction.TheVariants as instruction
use Rattle.flow_code.specs.declared.class.Last.TheVariants as last
use Rattle.flow_code.specs.declared.program.Code.{Code}
use Rattle.flow_code.specs.View.{group_numbered}
use Rattle.flow_code.specs.declared.expr.expr.Resolved.{Resolved}
use Rattle.flow_numbered.specs.Numbered.{thing}
use Rattle.flow_cell.specs.declared.waiter.Waiter.{Waiter}
use Rattle.flow_frame.specs.declared.held.Held.{Held}
use Rattle.flow_trace.specs.declared.line.Line.{Line}
use Rattle.flow_trace.specs.declared.line.Line.TheVariants as line
use Rattle.flow_cancel.specs.declared.actors.Note.{Note}
use Rattle.flow_cancel.specs.declared.task.Task.{Task}
use Rattle.flow_cancel.specs.declared.task.Task.TheVariants as task
use Rattle.flow_cancel.specs.Heap.{HeapTree, pushed}
use Rattle.flow_cancel.specs.Dropping.{dropping}
use Rattle.flow_cancel.specs.Leaving.{withdrawn}
use Rattle.flow_steps.specs.declared.frames.ControlPoint.{ControlPoint}
use Rattle.flow_steps.specs.declared.next.Pace.{Pace}
use Rattle.flow_steps.specs.declared.process.Process.{Process}
use Rattle.flow_steps.specs.declared.process.Next.TheVariants as next
use Rattle.flow_steps.specs.Doing.{turned, doing, telling}
use Rattle.flow_steps.specs.Holding.{on_heap, kind_in}
use Rattle.flow_steps.specs.Delivering.{end_line, ended_with, closing, closed}
use Rattle.flow_steps.specs.Points.{IsAtPoint, GoesTo, next_stand, noted, values, lost_from, Assigns}
use Rattle.flow_steps.specs.Waiting.{BranchOf, TakesBranch, KeepsOperand}
use Rattle.flow_steps.specs.Stepping.{OnAfter, GoesOn, Runs, IsClose}
use Rattle.flow_steps.specs.StuckTasks.{EffectTo}
use Rattle.flow_steps.specs.Tasks.{RunsNow, BranchAt, bound_over, bound, ValueGiven, Stored, TopTaken, IsKept, FailsBy, Raises, Raised, FiresAt, Fires, next_waiter, WaiterTakes, Closes, MainStarts, MainCalled, main_waits, main_starts, Tasks, no_task}

pub runs_now : (code : Code) (i : ActorId) (s : ControlPoint) (p q : Process) → IsAtPoint code.classes.items i p s → Runs code s p q → RunsNow code i p q
runs_now code i s p q a r = record { stand = s; stands = a; runs = r }

pub branch_found : (s : ControlPoint) (n group : ℕ) (g : Group) (b : Branch) → s.block.now.last ≡ last.Choose group
    → Some g ≡ group_numbered group s.class.now.groups.items → Some b ≡ slice_get g.branches.items n → BranchAt s n b
branch_found s n group g b w e at = record { group = group; of = g; waits = w; of_number = sym e; at = sym at }

pub value_given : (code : Code) (i : ActorId) (n : ℕ) (v : Value) (s t : ControlPoint) (b : Branch) (old : Option Value) (vs : List Value) (pace : Pace) (p one between q : Process)
    → IsAtPoint code.classes.items i p s → BranchAt s n b → vs ≡ bound_over i.0 b.into v p.heap → one ≡ on_heap (bound i.0 b.into v) p
    → GoesTo s b.block 0 t → OnAfter t vs one pace between → GoesOn code pace between q → ValueGiven code i n v p q
value_given code i n v s t b old vs pace p one between q at is o e g a go = record {
  stand = s;
  branch = b;
  goes = t;
  pace = pace;
  between = between;
  stands = at;
  at = is;
  to = g;
  after = subst (λ x. OnAfter t (bound_over i.0 b.into v p.heap) x pace between) e (subst (λ l. OnAfter t l one pace between) o a);
  further = go;
}

pub stored_by : (code : Code) (i : ActorId) (v : Value) (s : ControlPoint) (x : Instruction) (aim : Aim) (old : Option Value) (p one two q : Process)
    → IsAtPoint code.classes.items i p s → Some x ≡ slice_get s.block.now.body.items s.instruction → EffectTo x aim
    → Assigns code.fields i aim v p old one → two ≡ on_heap (dropping (values old)) one → q ≡ noted (next_stand s) two → Stored code i v p q
stored_by code i v s x aim old p one two q at is to a d n = record {
  stand = s;
  aim = aim;
  old = old;
  between = one;
  stands = at;
  effect = to.effect;
  args = to.args;
  at = sym is ∙ ap Some to.is;
  assigns = a;
  goes = n ∙ ap (noted (next_stand s)) d;
}

-- an instruction that is an effect
pub effect_to : (x : Instruction) (aim : Aim) (e : Effect) (args : Vec Resolved Global) → x ≡ instruction.Effect aim e args → EffectTo x aim
effect_to x aim e args is = record { effect = e; args = args; is = is }

pub kept_by : (code : Code) (i : ActorId) (x : Held) (s : ControlPoint) (pace : Pace) (p start between q : Process) → TopTaken (task.Run i) p start
    → IsAtPoint code.classes.items i start s → KeepsOperand s x start pace between → GoesOn code pace between q → IsKept code i x p q
kept_by code i x s pace p start between q t at k go =
    record { start = start; stand = s; pace = pace; between = between; next = t; stands = at; keeps = k; further = go }

pub fails_by : (i : ActorId) (e : ErrorCode) (t : Task) (p one two q : Process) → IsClose i (outcome.Error e) t → one ≡ on_heap (pushed t) p
    → two ≡ on_heap (lost_from i.0 0) one → q ≡ on_heap (withdrawn i.0) two → FailsBy i e p q
fails_by i e t p one two q c f l w =
    record { task = t; closes = c; fails = w ∙ ap (on_heap (withdrawn i.0)) (l ∙ ap (on_heap (lost_from i.0 0)) f) }

pub raised_by : (code : Code) (i : ActorId) (e : ErrorCode) (s : ControlPoint) (p between q : Process) → IsAtPoint code.classes.items i p s
    → Raises i s.block.now.catcher e p between → q ≡ telling (line.Throw i e) between → Raised code i e p q
raised_by code i e s p between q at r t = record { stand = s; between = between; stands = at; raises = r; told = t }

pub waiter_takes : (code : Code) (k : CellId) (w : Waiter) (s : ControlPoint) (b : ℕ) (p one q : Process) → one ≡ doing (task.Fire k) p
    → IsAtPoint code.classes.items w.actor one s → BranchOf s w.callback b → TakesBranch s b k one q → WaiterTakes code k w p q
waiter_takes code k w s b p one q e at is t = record {
  stand = s;
  branch = b;
  stands = subst (λ x. IsAtPoint code.classes.items w.actor x s) e at;
  at = is;
  takes = subst (λ x. TakesBranch s b k x q) e t;
}

pub fires_by : (code : Code) (k : CellId) (kd : Kind) (w : Option Waiter) (p q : Process)
    → Some kd ≡ kind_in (thing p.heap.cells.things k.0) (thing p.heap.streams.things k.0) → w ≡ next_waiter kd k.0 p.heap
    → FiresAt code kd k w p q → Fires code k p q
fires_by code k kd w p q e is f = record { kind = kd; at = sym e; fires = subst (λ x. FiresAt code kd k x p q) is f }

pub closes_by : (i : ActorId) (o : Outcome) (p q : Process) → IsSomeAnd (thing p.heap.actors.things i.0) (λ n. q ≡ closed i o n.result p) → Closes i o p q
closes_by i o p q is = by (thing p.heap.actors.things i.0) refl is
  where
    by : (n : Option Note) → thing p.heap.actors.things i.0 ≡ n → IsSomeAnd n (λ n. q ≡ closed i o n.result p) → Closes i o p q
    by (Some n) at e = record { note = n; noted = at; closes = e }
    by None at e = absurd e

-- the outcome of an actor goes to its result, and the line is told
pub closing_by : (i : ActorId) (o : Outcome) (k : Option CellId) (l : Line) (r : Result (Unit {0}) Fault) (p mid ended q : Process) → true ≡ nat_lt 0 p.left → mid ≡ turned p
    → l ≡ end_line i o → OnOk r (ended ≡ ended_with k o mid) → q ≡ telling l ended → OnOk r (q ≡ closing i o k p)
closing_by i o k l r p mid ended q t e n is f =
    IfOk-weaker r _ _ (λ _ d. subst (λ b. q ≡ (if b then telling (end_line i o) (ended_with k o (turned p)) else turned p)) t
    (f ∙ ap (λ x. telling x ended) n ∙ ap (telling (end_line i o)) (d ∙ ap (ended_with k o) e))) is

-- `main`
pub main_starts_by : (code : Code) (me : ProcId) (class : ℕ) (args : List Value) (i : ActorId) (k : CellId) (r : Result (Unit {0}) Fault) (p one two three four q : Process)
    → Some class ≡ code.main → args ≡ value.Int (pos me.0) ∷ [] → Enrols code class args i k p one → two ≡ on_heap (hold kind.Future k.0) one
    → three ≡ on_heap (λ h. record h { main = Some k }) two → four ≡ doing (task.Run i) three
    → OnOk r (StartTold code class i four q) → OnOk r (MainStarts code me p q)
main_starts_by code me class args i k r p one two three four q main is e held set on s =
    IfOk-weaker r _ _ (λ _ st. record {
      class = class;
      actor = i;
      cell = k;
      between = one;
      main = sym main;
      enrols = subst (λ l. Enrols code class l i k p one) is e;
      starts = subst (λ x. StartTold code class i x q) (on ∙ ap (doing (task.Run i)) (set ∙ ap (on_heap (λ h. record h { main = Some k })) held)) st;
    }) s

pub main_not_called : (code : Code) (me : ProcId) (p q : Process) → false ≡ nat_lt 0 p.left → q ≡ turned p → MainCalled code me p q
main_not_called code me p q t e = main_waits (sym t) e

pub main_called : (code : Code) (me : ProcId) (r : Result (Unit {0}) Fault) (p mid q : Process) → true ≡ nat_lt 0 p.left → mid ≡ turned p
    → OnOk r (MainStarts code me mid q) → OnOk r (MainCalled code me p q)
main_called code me r p mid q t e s = IfOk-weaker r _ _ (λ _ is. main_starts (sym t) (subst (λ x. MainStarts code me x q) e is)) s

-- the newest task, and none
no_tasks : (ts : List Task) → None ≡ slice_get ts 0 → ts ≡ []
no_tasks [] e = refl
no_tasks (t ∷ ts) e = absurd (false≢true (ap is_some e))

first_of : (ts : List Task) (t : Task) → Some t ≡ slice_get ts 0 → ts ≡ t ∷ drop 1 ts
first_of [] t e = absurd (false≢true (sym (ap is_some e)))
first_of (u ∷ ts) t e = ap (λ x. x ∷ ts) (sym (same_Some t u e))

pub rested_by : (code : Code) (p : Process) (h : HeapTree) → p.spent ≡ false → None ≡ slice_get p.heap.tasks 0 → h ≡ record p.heap { tasks = drop 1 p.heap.tasks }
    → Tasks code p next.Rested (record p { heap = h })
rested_by code p h s e rest =
    let none = no_tasks p.heap.tasks e in
    let same : record p { heap = h } ≡ p =
    ap (λ x. record p { heap = x }) (rest ∙ ap (λ ts. record p.heap { tasks = drop 1 ts }) none ∙ ap (λ ts. record p.heap { tasks = ts }) (sym none)) in
    subst (λ q. Tasks code p next.Rested q) (sym same) (no_task p s none)

pub top_taken : (p : Process) (h : HeapTree) (t : Task) → Some t ≡ slice_get p.heap.tasks 0 → h ≡ record p.heap { tasks = drop 1 p.heap.tasks }
    → TopTaken t p (record p { heap = h })
top_taken p h t e rest = record { tasks = drop 1 p.heap.tasks; top = first_of p.heap.tasks t e; rest = ap (λ x. record p { heap = x }) rest }
