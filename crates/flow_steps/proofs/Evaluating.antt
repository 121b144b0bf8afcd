-- What an actor does with what evaluation comes to.
use Rattle.std.proofs.Common.{◌≡◌, ℕ, Bool, List, map, Result, Ok, Err, IfOk, OnOk, inl, inr, refl, sym, subst}
use Rattle.std.proofs.lemmas.Result.{IfOk-weaker}
use Rattle.std.specs.declared.vec.Vec.{Vec}
use Rattle.std.specs.declared.alloc.Global.{Global}
use Rattle.flow_value.specs.declared.value.Value.{Value}
use Rattle.flow_value.specs.Values.{ValueTree, BoolValue}
use Rattle.flow_value.specs.View.{value_of}
use Rattle.flow_eval.specs.Eval.{Res, Done, Fails, Spent, Meaningless}
use Rattle.flow_eval.specs.View.{Gives, GivesAll}
use Rattle.flow_eval.specs.declared.stop.Halt.{Halt}
use Rattle.flow_eval.specs.declared.stop.Halt.TheVariants as halt
use Rattle.flow_code.specs.Resolved.Truth.{GivesTruth}
use Rattle.flow_steps.specs.declared.errors.Fault.{Fault}
use Rattle.flow_steps.specs.declared.frames.ControlPoint.{ControlPoint}
use Rattle.flow_steps.specs.declared.next.Pace.{Pace}
use Rattle.flow_steps.specs.declared.next.Pace.TheVariants.{On, Off}
use Rattle.flow_steps.specs.declared.process.Process.{Process}
use Rattle.flow_steps.specs.Points.{next_stand}
use Rattle.flow_steps.specs.Stepping.{GoesNext, IsTest}
use Rattle.flow_steps.specs.Stuck.{OnStuck, FrameMissing}
use Rattle.flow_steps.specs.StuckCalls.{HaltsStuck, EvaluatesStuck, meaningless, frame_gone, rest_stuck}
use Rattle.flow_steps.proofs.Holding.{on_stuck_weaker}
use Rattle.flow_steps.specs.Evaluating.{Halted, with_left, Evaluates, gives, throws, runs_out}

module _ {A B : Type 0} (s : ControlPoint) (seen : B → A) (comes_to : Res A) (p mid q : Process) (goes : B → Process → Pace → Process → Type 0) where
  -- evaluation gives a value, and what follows is done
  pub value_given : (b : B) (r : Result Pace Fault) → comes_to ≡ Done (seen b) mid.left → mid ≡ with_left mid.left p
      → IfOk r (λ pace. goes b mid pace q) → IfOk r (λ pace. Evaluates s seen comes_to p goes pace q)
  value_given b r e rest after =
      IfOk-weaker r _ _ (λ pace is. gives b mid.left pace q e (subst (λ x. goes b x pace q) rest is)) after

  -- it breaks off
  abbrev pub Breaks : Halt → ℕ → Type 0
  Breaks (halt.Thrown e) left = comes_to ≡ Fails e.0 left
  Breaks halt.Spent left = (comes_to ≡ Spent) × (left ≡ 0)
  Breaks halt.NoMeaning left = comes_to ≡ Meaningless
  Breaks halt.OutOfMemory left = Unit {0}

  broken_off : (h : Halt) → Breaks h mid.left → mid ≡ with_left mid.left p → Halted s h mid q → Evaluates s seen comes_to p goes Off q
  broken_off (halt.Thrown e) b rest is = throws e mid.left q b (subst (λ x. Halted s (halt.Thrown e) x q) rest is)
  broken_off halt.Spent b rest is =
      runs_out q b.0 (subst (λ n. Halted s halt.Spent (with_left n p) q) b.1 (subst (λ x. Halted s halt.Spent x q) rest is))
  broken_off halt.NoMeaning b rest is = absurd is
  broken_off halt.OutOfMemory b rest is = absurd is

  pub breaks_off : (h : Halt) (r : Result Pace Fault) → Breaks h mid.left → mid ≡ with_left mid.left p
      → IfOk r (λ pace. pace ≡ Off) → OnOk r (Halted s h mid q) → IfOk r (λ pace. Evaluates s seen comes_to p goes pace q)
  breaks_off h (Ok pace) b rest off is = subst (λ x. Evaluates s seen comes_to p goes x q) (sym off) (broken_off h b rest is)
  breaks_off h (Err e) b rest off is = is

-- the same of a value, of values and of a truth value
module _ (s : ControlPoint) (p mid q : Process) where
  pub value_breaks : (comes_to : Res ValueTree) (goes : Value → Process → Pace → Process → Type 0) (h : Halt) (r : Result Pace Fault) → Gives comes_to (Err h) mid.left
      → mid ≡ with_left mid.left p → IfOk r (λ pace. pace ≡ Off) → OnOk r (Halted s h mid q) → IfOk r (λ pace. Evaluates s value_of comes_to p goes pace q)
  value_breaks c goes h r g = breaks_off s value_of c p mid q goes h r (by h g)
    where
      by : (h : Halt) → Gives c (Err h) mid.left → Breaks s value_of c p mid q goes h mid.left
      by (halt.Thrown e) g = g
      by halt.Spent g = g
      by halt.NoMeaning g = g
      by halt.OutOfMemory g = g

  pub values_break : (comes_to : Res (List ValueTree)) (goes : Vec Value Global → Process → Pace → Process → Type 0) (h : Halt) (r : Result Pace Fault) → GivesAll comes_to (Err h) mid.left
      → mid ≡ with_left mid.left p → IfOk r (λ pace. pace ≡ Off) → OnOk r (Halted s h mid q) → IfOk r (λ pace. Evaluates s (λ vs. map value_of vs.items) comes_to p goes pace q)
  values_break c goes h r g = breaks_off s (λ vs. map value_of vs.items) c p mid q goes h r (by h g)
    where
      by : (h : Halt) → GivesAll c (Err h) mid.left → Breaks s (λ (vs : Vec Value Global). map value_of vs.items) c p mid q goes h mid.left
      by (halt.Thrown e) g = g
      by halt.Spent g = g
      by halt.NoMeaning g = g
      by halt.OutOfMemory g = g

  pub truth_breaks : (comes_to : Res ValueTree) (goes : Bool → Process → Pace → Process → Type 0) (h : Halt) (r : Result Pace Fault) → GivesTruth comes_to (Err h) mid.left
      → mid ≡ with_left mid.left p → IfOk r (λ pace. pace ≡ Off) → OnOk r (Halted s h mid q) → IfOk r (λ pace. Evaluates s BoolValue comes_to p goes pace q)
  truth_breaks c goes h r g = breaks_off s BoolValue c p mid q goes h r (by h g)
    where
      by : (h : Halt) → GivesTruth c (Err h) mid.left → Breaks s BoolValue c p mid q goes h mid.left
      by (halt.Thrown e) g = g
      by halt.Spent g = g
      by halt.NoMeaning g = g
      by halt.OutOfMemory g = g

  -- a value that is forgotten
  pub function_done : (comes_to : Res ValueTree) (v : Value) (r : Result Pace Fault) → comes_to ≡ Done (value_of v) mid.left → mid ≡ with_left mid.left p
      → IfOk r (λ pace. pace ≡ On (next_stand s)) → IfOk r (λ pace. Evaluates s value_of comes_to p (GoesNext s) pace mid)
  function_done c v r e rest on =
      value_given s value_of c p mid mid (GoesNext s) v r e rest (IfOk-weaker r _ _ (λ pace is. (is, refl)) on)

  -- a truth value that leads to one of two blocks
  pub test_done : (comes_to : Res ValueTree) (b : Bool) (one other : ℕ) (t : ControlPoint) → comes_to ≡ Done (BoolValue b) mid.left → mid ≡ with_left mid.left p
      → IsTest s one other b mid (On t) mid → Evaluates s BoolValue comes_to p (IsTest s one other) (On t) mid
  test_done c b one other t e rest is = gives b mid.left (On t) mid e (subst (λ x. IsTest s one other b x (On t) mid) rest is)

-- what an actor does with what evaluation comes to goes astray
module _ {A B T : Type 0} (s : ControlPoint) (seen : B → A) (comes_to : Res A) (p mid : Process) (rest : B → Process → Type 0) (r : Result T Fault) where
  pub rest_gets_stuck : (b : B) → comes_to ≡ Done (seen b) mid.left → mid ≡ with_left mid.left p → OnStuck r (rest b mid)
      → OnStuck r (EvaluatesStuck s seen comes_to p rest)
  rest_gets_stuck b e same m = on_stuck_weaker r _ _ (λ x. rest_stuck b mid.left e (subst (rest b) same x)) m

  pub halt_stuck : (h : Halt) → (h ≡ halt.NoMeaning → comes_to ≡ Meaningless) → mid ≡ with_left mid.left p → OnStuck r (HaltsStuck s h mid.heap)
      → OnStuck r (EvaluatesStuck s seen comes_to p rest)
  halt_stuck h none same m = on_stuck_weaker r _ _ by m
    where
      by : HaltsStuck s h mid.heap → EvaluatesStuck s seen comes_to p rest
      by (inl f) = frame_gone (subst (λ (x : Process). FrameMissing s.actor.0 x.heap) same f)
      by (inr e) = meaningless (none e)

module _ {T : Type 0} (s : ControlPoint) (p mid : Process) (r : Result T Fault) (h : Halt) where
  pub value_stuck : (c : Res ValueTree) (rest : Value → Process → Type 0) → Gives c (Err h) mid.left → mid ≡ with_left mid.left p
      → OnStuck r (HaltsStuck s h mid.heap) → OnStuck r (EvaluatesStuck s value_of c p rest)
  value_stuck c rest g = halt_stuck s value_of c p mid rest r h (λ e. subst (λ x. Gives c (Err x) mid.left) e g)

  pub values_stuck : (c : Res (List ValueTree)) (rest : Vec Value Global → Process → Type 0) → GivesAll c (Err h) mid.left → mid ≡ with_left mid.left p
      → OnStuck r (HaltsStuck s h mid.heap) → OnStuck r (EvaluatesStuck s (λ vs. map value_of vs.items) c p rest)
  values_stuck c rest g = halt_stuck s (λ (vs : Vec Value Global). map value_of vs.items) c p mid rest r h (λ e. subst (λ x. GivesAll c (Err x) mid.left) e g)

  pub truth_stuck : (c : Res ValueTree) (rest : Bool → Process → Type 0) → GivesTruth c (Err h) mid.left → mid ≡ with_left mid.left p
      → OnStuck r (HaltsStuck s h mid.heap) → OnStuck r (EvaluatesStuck s BoolValue c p rest)
  truth_stuck c rest g = halt_stuck s BoolValue c p mid rest r h (λ e. subst (λ x. GivesTruth c (Err x) mid.left) e g)
