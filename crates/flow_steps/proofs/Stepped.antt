-- The steps of actors.
use Rattle.std.proofs.Common.{◌≡◌, ℕ, ◌+◌, ◌<◌, true, false, nat_lt, List, [], ◌∷◌, length, get_or, slice_get, refl, ap, sym, subst, ◌∙◌, Result, Ok, IfOk, arith}
use Rattle.std.proofs.lemmas.Result.{IfOk-weaker}
use Rattle.std.specs.Option.{option_map}
use Rattle.std.specs.declared.option.Option.{Option}
use Rattle.std.specs.declared.option.Option.TheVariants.{None, Some}
use Rattle.flow_base.specs.declared.ids.CellId.{CellId}
use Rattle.flow_ast.specs.declared.predefined.Method.{Method}
use Rattle.flow_value.specs.declared.value.Value.{Value}
use Rattle.flow_value.specs.declared.value.Value.TheVariants as value
use Rattle.flow_value.specs.declared.value.Outcome.TheVariants as outcome
use Rattle.flow_value.specs.declared.value.Kind.{Kind}
use Rattle.flow_value.specs.Values.{RefValue, may_refer}
use Rattle.flow_value.specs.View.{value_of}
use Rattle.flow_code.specs.Resolved.View.{places_in}
use Rattle.flow_code.specs.declared.class.Aim.{Aim}
use Rattle.std.specs.declared.vec.Vec.{Vec}
use Rattle.std.specs.declared.alloc.Global.{Global}
use Rattle.flow_code.specs.declared.expr.expr.Resolved.{Resolved}
use Rattle.flow_code.specs.declared.class.Act.{Act}
use Rattle.flow_code.specs.declared.class.Instruction.{Instruction}
use Rattle.flow_code.specs.declared.class.Instruction.TheVariants as instruction
use Rattle.flow_code.specs.declared.class.Last.{Last}
use Rattle.flow_code.specs.declared.class.Last.TheVariants as last
use Rattle.flow_code.specs.declared.class.Branch.{Branch}
use Rattle.flow_code.specs.declared.class.Group.{Group}
use Rattle.flow_code.specs.declared.program.Code.{Code}
use Rattle.flow_code.specs.View.{group_numbered}
use Rattle.flow_cancel.specs.declared.task.Task.{Task}
use Rattle.flow_cancel.specs.declared.task.Task.TheVariants as task
use Rattle.flow_cancel.specs.Heap.{next_cell, pushed}
use Rattle.flow_cancel.specs.Dropping.{dropping}
use Rattle.flow_heap_refinement.specs.Holds.{hold, hold_all}
use Rattle.flow_steps.specs.declared.errors.Fault.{Fault}
use Rattle.flow_steps.specs.declared.frames.ControlPoint.{ControlPoint}
use Rattle.flow_steps.specs.declared.next.Pace.{Pace}
use Rattle.flow_steps.specs.declared.next.Pace.TheVariants.{On, Off}
use Rattle.flow_steps.specs.declared.process.Process.{Process}
use Rattle.flow_steps.specs.Doing.{turned, doing}
use Rattle.flow_steps.specs.Holding.{on_heap, value_refs}
use Rattle.flow_steps.specs.Delivering.{made}
use Rattle.flow_steps.specs.Points.{noted, noted_stand, GoesTo, next_stand, place_held, place_put, referring, if_refers, lost_from, field_path, Assigns}
use Rattle.flow_steps.specs.Waiting.{Waits}
use Rattle.flow_steps.specs.Acting.{args_of, MethodCalled}
use Rattle.flow_steps.specs.Evaluating.{Evaluates}
use Rattle.flow_steps.specs.Stepping.{value_for, truth_for, values_for, truth_value, IsAct, IsMethodOf, MethodStep, Does, IsTest, Ends, StepsOn, by_instruction, OnAfter, IsSet, made_in_place, IsNew, IsCall, GoesOnAt, Passes, no_pass, pass_begins, OperandStep, Chooses, asks_operand, all_kept, IsChoose, kept_by, IsClose, ended, IsReturn}

-- values are left over, or one
pub after_values : (s : ControlPoint) (vs : List Value) (p told on q : Process) → 0 < length vs → told ≡ noted s p → on ≡ doing (task.Run s.actor) told
    → q ≡ on_heap (dropping vs) on → OnAfter s vs p Off q
after_values s [] p told on q lt n r d = absurd (omega arith)
after_values s (v ∷ vs) p told on q lt n r d = (refl, d ∙ ap (on_heap (dropping (v ∷ vs))) (r ∙ ap (doing (task.Run s.actor)) n))

pub after_one : (s : ControlPoint) (v : Value) (p told on q : Process) → may_refer (value_of v) ≡ true → told ≡ noted s p → on ≡ doing (task.Run s.actor) told
    → q ≡ on_heap (dropping (v ∷ [])) on → OnAfter s (referring (Some v)) p Off q
after_one s v p told on q may n r d =
    subst (λ b. OnAfter s (if_refers b v) p Off q) (sym may) (after_values s (v ∷ []) p told on q (omega arith) n r d)

pub after_none : (s : ControlPoint) (vs : List Value) (p : Process) → vs ≡ [] → OnAfter s vs p (On s) p
after_none s vs p e = subst (λ l. OnAfter s l p (On s) p) (sym e) (refl, refl)

-- an assignment, and a new cell
pub set_by : (code : Code) (s t : ControlPoint) (aim : Aim) (v : Value) (old : Option Value) (r : Result Pace Fault) (p one two q : Process)
    → one ≡ on_heap (hold_all (value_refs v)) p → Assigns code.fields s.actor aim v one old two → t ≡ next_stand s
    → IfOk r (λ pace. OnAfter t (referring old) two pace q) → IfOk r (λ pace. IsSet code s aim v p pace q)
set_by code s t aim v old r p one two q e a n after =
    IfOk-weaker r _ _ (λ pace is. record {
      old = old;
      between = two;
      assigns = subst (λ x. Assigns code.fields s.actor aim v x old two) e a;
      after = subst (λ x. OnAfter x (referring old) two pace q) n is;
    }) after

pub new_by : (s t : ControlPoint) (place : ℕ) (kd : Kind) (k : CellId) (old : Option Value) (r : Result Pace Fault) (p one two three q : Process)
    → k.0 ≡ next_cell p.heap → one ≡ on_heap (made kd) p → two ≡ on_heap (hold kd k.0) one
    → three ≡ on_heap (place_put s.actor.0 place (Some (value.Ref kd k))) two → old ≡ place_held s.actor.0 place two.heap → t ≡ next_stand s
    → IfOk r (λ pace. OnAfter t (referring old) three pace q) → IfOk r (λ pace. IsNew s place kd p pace q)
new_by s t place kd k old r p one two three q n e f g held m after =
    let held_then : two ≡ on_heap (hold kd k.0) (on_heap (made kd) p) = f ∙ ap (on_heap (hold kd k.0)) e in
    let old_is = held ∙ ap (λ (x : Process). place_held s.actor.0 place x.heap) held_then in
    let put_is = g ∙ ap (on_heap (place_put s.actor.0 place (Some (value.Ref kd k)))) held_then in
    IfOk-weaker r _ _ (λ pace is. record {
      cell = k;
      number = n;
      after = subst (λ o. OnAfter (next_stand s) (referring o) (on_heap (made_in_place s.actor.0 place kd k) p) pace q) old_is
          (subst (λ x. OnAfter (next_stand s) (referring old) x pace q) put_is
          (subst (λ x. OnAfter x (referring old) three pace q) m is));
    }) after

-- a method of a reference
pub method_by : (code : Code) (s : ControlPoint) (aim : Aim) (m : Method) (sent : Option Value) (kd : Kind) (k : CellId) (p told q : Process)
    → field_path (places_in code.fields) aim.path.items (option_map value_of (place_held s.actor.0 aim.place p.heap)) ≡ Some (RefValue kd k.0)
    → told ≡ noted (next_stand s) p → MethodCalled s.actor m kd k sent told q → IsCall code s aim m sent p Off q
method_by code s aim m sent kd k p told q a n c =
    record { kind = kd; cell = k; aims = a; off = refl; calls = subst (λ x. MethodCalled s.actor m kd k sent x q) n c }

-- the begin of a block
pub goes_at : (s t : ControlPoint) (b : ℕ) (p : Process) → GoesTo s b 0 t → GoesOnAt s b p (On t) p
goes_at s t b p g = (t, g, refl, refl)

-- a wait
pub chooses_by : (code : Code) (s t : ControlPoint) (number : ℕ) (g : Group) (r : Result Pace Fault) (p told q : Process)
    → Some g ≡ group_numbered number s.class.now.groups.items → t ≡ noted_stand s → told ≡ noted s p
    → IfOk r (λ pace. Chooses code t number g told pace q) → IfOk r (λ pace. IsChoose code s number p pace q)
chooses_by code s t number g r p told q e m n c =
    IfOk-weaker r _ _ (λ pace is. record {
      group = g;
      of_number = sym e;
      chooses = subst (λ x. Chooses code (noted_stand s) number g x pace q) n (subst (λ x. Chooses code x number g told pace q) m is);
    }) c

-- the end of an actor
pub returns_by : (s : ControlPoint) (v : Value) (t : Task) (p one two three q : Process) → one ≡ on_heap (hold_all (value_refs v)) p → two ≡ noted s one
    → IsClose s.actor (outcome.Value v) t → three ≡ on_heap (pushed t) two → q ≡ on_heap (lost_from s.actor.0 0) three
    → IsReturn s v p Off q
returns_by s v t p one two three q e n c f l = record {
  off = refl;
  task = t;
  closes = c;
  ends = l ∙ ap (on_heap (lost_from s.actor.0 0)) f ∙ ap (on_heap (ended s t)) (n ∙ ap (noted s) e);
}

-- a pass of a loop, or none for want of a turn
pub pass_on : (s t : ControlPoint) (b : ℕ) (p q : Process) → GoesTo s b 0 t → true ≡ nat_lt 0 p.left → q ≡ turned p → Passes s b p (On t) q
pass_on s t b p q g n e = pass_begins t q g (sym n) e

pub pass_off : (s t : ControlPoint) (b : ℕ) (p mid q : Process) → GoesTo s b 0 t → false ≡ nat_lt 0 p.left → mid ≡ turned p → q ≡ noted t mid → Passes s b p Off q
pass_off s t b p mid q g n e f = no_pass t q g (sym n) (f ∙ ap (noted t) e)

-- the next operand, or none
pub operand_asked : (code : Code) (s t : ControlPoint) (number : ℕ) (g : Group) (b : Branch) (n : ℕ) (r : Result Pace Fault) (p told q : Process)
    → Some g ≡ group_numbered number s.class.now.groups.items → t ≡ noted_stand s → told ≡ noted s p
    → Some b ≡ slice_get g.branches.items (kept_by t told) → n ≡ g.first + kept_by t told
    → IfOk r (λ pace. OperandStep code t n b.operand told pace q) → IfOk r (λ pace. IsChoose code s number p pace q)
operand_asked code s t number g b n r p told q e m d at k o =
    chooses_by code s t number g r p told q e m d
    (IfOk-weaker r _ _ (λ pace is. asks_operand b (sym at) (subst (λ x. OperandStep code t x b.operand told pace q) k is)) o)

pub operands_kept : (code : Code) (s t : ControlPoint) (number : ℕ) (g : Group) (p told q : Process)
    → Some g ≡ group_numbered number s.class.now.groups.items → t ≡ noted_stand s → told ≡ noted s p
    → None ≡ slice_get g.branches.items (kept_by t told) → Waits t number told q → IsChoose code s number p Off q
operands_kept code s t number g p told q e m d at w = chooses_by code s t number g (Ok Off) p told q e m d (all_kept (sym at) refl w)

-- a method with one argument
pub one_argument : (code : Code) (s : ControlPoint) (aim : Aim) (m : Method) (es : List Resolved) (e : Resolved) (r : Result Pace Fault) (p q : Process) → length es ≡ 1 → e ≡ get_or es 0 e
    → IfOk r (λ pace. Evaluates s value_of (value_for code s.actor.0 e p) p (IsMethodOf code s aim m) pace q) → IfOk r (λ pace. MethodStep code s aim m es p pace q)
one_argument code s aim m [] e r p q n is go = absurd (omega (arith, n))
one_argument code s aim m (x ∷ []) e r p q n is go =
    subst (λ y. IfOk r (λ pace. Evaluates s value_of (value_for code s.actor.0 y p) p (IsMethodOf code s aim m) pace q)) is go
one_argument code s aim m (x ∷ y ∷ zs) e r p q n is go = absurd (omega (arith, n))

-- instructions by their kinds
pub acts_by : (code : Code) (s : ControlPoint) (x : Instruction) (a : Act) (args : Vec Resolved Global) (es : List Resolved) (r : Result Pace Fault) (p q : Process)
    → x ≡ instruction.Act a args → es ≡ args.items
    → IfOk r (λ pace. Evaluates s args_of (values_for code s.actor.0 es p) p (IsAct code s a) pace q) → IfOk r (λ pace. Does code s x p pace q)
acts_by code s x a args es r p q is e go =
    subst (λ y. IfOk r (λ pace. Does code s y p pace q)) (sym is)
    (subst (λ l. IfOk r (λ pace. Evaluates s args_of (values_for code s.actor.0 l p) p (IsAct code s a) pace q)) e go)

pub goes_by : (code : Code) (s t : ControlPoint) (x : Last) (b : ℕ) (p : Process) → x ≡ last.Goto b → GoesTo s b 0 t → Ends code s x p (On t) p
goes_by code s t x b p is g = subst (λ y. Ends code s y p (On t) p) (sym is) (goes_at s t b p g)

pub tests_by : (code : Code) (s : ControlPoint) (x : Last) (e : Resolved) (one other : ℕ) (r : Result Pace Fault) (p q : Process) → x ≡ last.Test e one other
    → IfOk r (λ pace. Evaluates s truth_value (truth_for code s.actor.0 e p) p (IsTest s one other) pace q) → IfOk r (λ pace. Ends code s x p pace q)
tests_by code s x e one other r p q is go = subst (λ y. IfOk r (λ pace. Ends code s y p pace q)) (sym is) go

-- a step
pub steps_by : (code : Code) (s : ControlPoint) (x : Instruction) (r : Result Pace Fault) (p q : Process) → Some x ≡ slice_get s.block.now.body.items s.instruction
    → IfOk r (λ pace. Does code s x p pace q) → IfOk r (λ pace. StepsOn code s p pace q)
steps_by code s x r p q at go = IfOk-weaker r _ _ (λ pace is. by_instruction x (sym at) is) go
