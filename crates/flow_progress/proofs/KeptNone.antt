-- Operands are kept at a `choose` alone, and there a frame asks for nothing but its wait.
use Rattle.std.proofs.Common.{◌≡◌, ℕ, suc, List, [], ◌∷◌, refl, sym, ap, ◌∙◌, subst}
use Rattle.std.specs.declared.option.Option.{Option}
use Rattle.std.specs.declared.option.Option.TheVariants.{None, Some}
use Rattle.flow_tree.specs.Tree.{ExprTree, ExprTrees}
use Rattle.flow_value.specs.Values.{ValueTree, RefValue}
use Rattle.flow_eval.specs.Eval.{Res, Done, Fails, Spent, Meaningless}
use Rattle.flow_class.specs.Classes.{ChooseLast, CallbackTree, RawTree}
use Rattle.flow_class.specs.Code.{Last, fetch, callback_at}
use Rattle.flow_meaning.specs.Cells.{Ref}
use Rattle.flow_meaning.specs.Requests.{Ask, Act, Effects, Operand, Waits, Throws, RunsOut, Stuck, Spot, Kept}
use Rattle.flow_meaning.specs.Process.{View}
use Rattle.flow_meaning.specs.Evaluating.{Names, StepOf, asks, given, evaluated, Effectful, effect_in, effect_of, value, values}
use Rattle.flow_meaning.specs.Frame.{Frame, look, spot_of}
use Rattle.flow_meaning.specs.Class.{operand_ref, operand_by, choose, fetched, next_step}
use Rattle.flow_tree.specs.Tree.{TypeTree}
use Rattle.flow_progress.specs.Rules.{takes_type}
use Rattle.flow_progress.specs.Asking.{NextOperand}
use Rattle.flow_progress.specs.Fitting.{CellTypes, OperandsFit}

-- what a wait asks for
abbrev pub OfWait : Act → Type 0
OfWait (Effects (Kept spot) eff) = Unit {0}
OfWait (Operand spot q) = Unit {0}
OfWait (Waits spot vs) = Unit {0}
OfWait (Throws e) = Unit {0}
OfWait RunsOut = Unit {0}
OfWait Stuck = Unit {0}
OfWait act = ⊥

-- the same class and position
abbrev pub SamePoint : Frame → Frame → Type 0
SamePoint f g = (g.code ≡ f.code) × (g.block ≡ f.block) × (g.instr ≡ f.instr)

abbrev pub AsksOfWaitAt : Frame → StepOf Frame → Type 0
AsksOfWaitAt f (None, g) = ⊥
AsksOfWaitAt f (Some ask, g) = OfWait ask.act × SamePoint f g

module _ (ns : Names) (v : View) (f : Frame) where
  abbrev AsksOfWait : StepOf Frame → Type 0
  AsksOfWait p = AsksOfWaitAt f p

  here : SamePoint f f
  here = (refl, refl, refl)

  evaluated_waits : {B : Type 0} (q : Res B) (go : B → ℕ → StepOf Frame) → ((x : B) (left : ℕ) → AsksOfWait (go x left)) → AsksOfWait (evaluated f q go)
  evaluated_waits (Done x left) go h = h x left
  evaluated_waits (Fails e left) go h = (tt, here)
  evaluated_waits Spent go h = (tt, here)
  evaluated_waits Meaningless go h = (tt, here)

  given_waits : {B : Type 0} (o : Option B) (go : B → StepOf Frame) → ((x : B) → AsksOfWait (go x)) → AsksOfWait (given f o go)
  given_waits None go h = (tt, here)
  given_waits (Some x) go h = h x

  ref_waits : (left : ℕ) (spot : Spot) (u : ValueTree) → AsksOfWait (operand_ref ns v f left spot u)
  ref_waits left spot (RefValue k cell) = (tt, here)
  ref_waits left spot u = (tt, here)

  operand_waits : (spot : Spot) (e : ExprTree) (o : Option (Effectful × ExprTrees)) → AsksOfWait (operand_by ns v f spot e o)
  operand_waits spot e (Some g) =
      evaluated_waits (values ns v (look f.mem) g.1) (λ vs left. given f (effect_of g.0 vs) (λ eff. asks left (Effects (Kept spot) eff) f))
      (λ vs left. given_waits (effect_of g.0 vs) (λ eff. asks left (Effects (Kept spot) eff) f) (λ eff. (tt, here)))
  operand_waits spot e None = evaluated_waits (value ns v (look f.mem) e) (λ u left. operand_ref ns v f left spot u) (λ u left. ref_waits left spot u)

  choose_waits : (spot : Spot) (o : Option CallbackTree) → AsksOfWait (choose ns v f spot o)
  choose_waits spot (Some c) = operand_waits spot c.operand (effect_in ns c.operand)
  choose_waits spot None = (tt, here)

  pub at_choose : (g : ℕ) → fetch f.code f.block f.instr ≡ Last (ChooseLast g) → AsksOfWait (next_step ns v f)
  at_choose g e = subst (λ o. AsksOfWait (fetched ns v f o)) (sym e) (choose_waits (spot_of f.code g) (callback_at f.code g v.kept))

-- so elsewhere no operand is kept, and there those that are kept stay where they fit
pub next_moved : (f g : Frame) (n : ℕ) (t : TypeTree) → SamePoint f g → NextOperand f n t → NextOperand g n t
next_moved f g n t q h = record {
  group = h.group;
  callback = h.callback;
  takes = h.takes;
  there = ap (λ z. fetch z g.block g.instr) q.0 ∙ ap (λ z. fetch f.code z g.instr) q.1 ∙ ap (fetch f.code f.block) q.2 ∙ h.there;
  next = ap (λ z. callback_at z h.group n) q.0 ∙ h.next;
  into = ap (λ z. takes_type z h.callback.into) q.0 ∙ h.into;
  type = h.type;
}

pub operands_moved : (r : RawTree) (types : CellTypes) (f g : Frame) (n : ℕ) (qs : List Ref) → SamePoint f g → OperandsFit r types f n qs → OperandsFit r types g n qs
operands_moved r types f g n [] q h = tt
operands_moved r types f g n (x ∷ qs) q h = ((h.0.0, next_moved f g n h.0.0 q h.0.1, h.0.2), operands_moved r types f g (suc n) qs q h.1)

pub none_kept : (r : RawTree) (types : CellTypes) (ns : Names) (v : View) (f : Frame) (qs : List Ref) → OperandsFit r types f 0 qs → (AsksOfWaitAt f (next_step ns v f) → ⊥) → qs ≡ []
none_kept r types ns v f [] h n = refl
none_kept r types ns v f (q ∷ qs) h n = absurd (n (at_choose ns v f h.0.1.group h.0.1.there))

pub still_kept : (r : RawTree) (types : CellTypes) (ns : Names) (v : View) (f : Frame) (qs : List Ref) (ask : Ask) (g : Frame) → OperandsFit r types f 0 qs → next_step ns v f ≡ (Some ask, g)
    → OperandsFit r types g 0 qs
still_kept r types ns v f [] ask g h e = tt
still_kept r types ns v f (q ∷ qs) ask g h e =
    let w : AsksOfWaitAt f (Some ask, g) = subst (AsksOfWaitAt f) e (at_choose ns v f h.0.1.group h.0.1.there) in
    operands_moved r types f g 0 (q ∷ qs) w.1 h
