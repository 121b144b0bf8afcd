-- An actor that goes on stands in the code of its class.
use Rattle.std.proofs.Common.{◌≡◌, Bool, true, false, List, [], ◌∷◌, refl, sym, ap, ◌∙◌, subst}
use Rattle.std.specs.Prelude.{ℕ, slice_get}
use Rattle.std.specs.declared.option.Option.TheVariants.{Some, None}
use Rattle.std.specs.declared.option.Option.{Option}
use Rattle.flow_ast.specs.declared.predefined.Method.{Method}
use Rattle.flow_value.specs.declared.value.Value.{Value}
use Rattle.flow_value.specs.Values.{ValueTree, IntValue, BoolValue, TextValue, VoidValue, ErrorValue, CompositeValue, RefValue}
use Rattle.flow_value.specs.View.{value_of}
use Rattle.flow_eval.specs.Eval.{Res}
use Rattle.flow_code.specs.declared.expr.expr.Resolved.{Resolved}
use Rattle.flow_code.specs.declared.class.Aim.{Aim}
use Rattle.flow_code.specs.declared.class.Act.{Act}
use Rattle.flow_code.specs.declared.class.Act.TheVariants as act
use Rattle.flow_code.specs.declared.class.Effect.{Effect}
use Rattle.flow_code.specs.declared.class.Group.{Group}
use Rattle.flow_code.specs.declared.class.Instruction.{Instruction}
use Rattle.flow_code.specs.declared.class.Instruction.TheVariants as instruction
use Rattle.flow_code.specs.declared.class.Last as code_last
use Rattle.flow_code.specs.declared.class.Last.TheVariants as last
use Rattle.flow_code.specs.declared.class.Operand.{Operand}
use Rattle.flow_code.specs.declared.class.Operand.TheVariants as operand
use Rattle.flow_code.specs.declared.program.Code.{Code}
use Rattle.flow_code.specs.View.{code_of}
use Rattle.flow_code.specs.Coded.{coded}
use Rattle.flow_frame.specs.declared.held.Held.{Held}
use Rattle.flow_steps.specs.declared.call.Goal.{Goal}
use Rattle.flow_steps.specs.declared.frames.ControlPoint.{ControlPoint}
use Rattle.flow_steps.specs.declared.next.Pace.{Pace}
use Rattle.flow_steps.specs.declared.next.Pace.TheVariants.{On, Off}
use Rattle.flow_steps.specs.declared.process.Process.{Process}
use Rattle.flow_steps.specs.Acting.{Values, IsEffect}
use Rattle.flow_steps.specs.Evaluating.{Evaluates, gives, throws, runs_out, with_left}
use Rattle.flow_steps.specs.Points.{GoesTo, next_stand, noted_stand}
use Rattle.flow_steps.specs.Stepping.{OnAfter, IsAct, MethodStep, Does, GoesOnAt, Passes, no_pass, pass_begins, IsTest, ReferenceKept, OperandStep, Chooses, asks_operand, all_kept, ErrorThrown, Ends, StepsOn, by_instruction, by_last, grown, is_full, IsChange, IsMethodBy}
use Rattle.flow_steps.specs.Waiting.{KeepsOperand, kept_marked, kept_unready, kept_ready}
use Rattle.flow_step_refinement.specs.Decoding as law
use Rattle.flow_meaning.specs.Evaluating.{Change, Grows, Clears, change_by}

-- a stand of the same class, at a block of it, of which the frame is told or not
record SameClass (s : ControlPoint) (told : Bool) (t : ControlPoint) : Type 0 where
  class : t.class ≡ s.class
  block : slice_get s.class.now.blocks.items t.place ≡ Some t.block.now
  noted : t.noted ≡ told

-- after the end of a block it isn't, but at a wait
abbrev pub told_after : code_last.Last → Bool
told_after (last.Choose g) = true
told_after _ = false

pub never : (t : ControlPoint) → Off ≡ On t → ⊥
never t h = cc (h)

-- what evaluation leads to where the actor goes on
pub evaluated_on : {A B : Type 0} (s : ControlPoint) (seen : B → A) (c : Res A) (p : Process) (goal : B → Process → Pace → Process → Type 0) (t : ControlPoint) (pace : Pace) (n : Process)
    → pace ≡ On t → Evaluates s seen c p goal pace n → (b : B) × ((left : ℕ) × goal b (with_left left p) pace n)
evaluated_on s seen c p goal t pace n on (gives b left a q done goes) = (b, (left, goes))
evaluated_on s seen c p goal t pace n on (throws err left q fails halted) = absurd (never t on)
evaluated_on s seen c p goal t pace n on (runs_out q spent halted) = absurd (never t on)

-- what asks something, and what throws, doesn't go on at once
module _ (code : Code) (s : ControlPoint) where
  -- what a method of a vector or of a reference does, with its argument known
  pub by_argument : (t : ControlPoint) (aim : Aim) (m : Method) (how : Option Change) (es : List Resolved) (p n : Process) (pace : Pace) → change_by (Some m) ≡ how → pace ≡ On t
      → MethodStep code s aim m es p pace n → (sent : Option Value) × ((k : Process) × (IsMethodBy how code s aim m sent k pace n × ((k.asked ≡ p.asked) × (k.time ≡ p.time))))
  by_argument t aim m how [] p n pace is on does = (None, (p, (subst (λ o. IsMethodBy o code s aim m None p pace n) is does, (refl, refl))))
  by_argument t aim m how (e ∷ []) p n pace is on does =
      let a = evaluated_on s _ _ p _ t pace n on does in
      let k : Process = with_left a.1.0 p in
      (Some a.0, (k, (subst (λ o. IsMethodBy o code s aim m (Some a.0) k pace n) is a.1.1, (refl, refl))))
  by_argument t aim m how (e ∷ d ∷ es) p n pace is on does = absurd does

  pub by_method : (t : ControlPoint) (aim : Aim) (m : Method) (es : List Resolved) (p n : Process) (pace : Pace) → change_by (Some m) ≡ None → pace ≡ On t → MethodStep code s aim m es p pace n → ⊥
  by_method t aim m es p n pace is on does = let a = by_argument t aim m None es p n pace is on does in never t (sym a.1.1.0.off ∙ on)

  pub by_effect : (t : ControlPoint) (g : Goal) (e : Effect) (es : List Resolved) (p n : Process) (pace : Pace) (u : ControlPoint) → pace ≡ On t → IsEffect code u g e es p pace n → ⊥
  by_effect t g e es p n pace u on does = let a = evaluated_on u _ _ p _ t pace n on does in never t (sym a.1.1.0 ∙ on)

  pub by_throw : (t : ControlPoint) (v : ValueTree) (p n : Process) (pace : Pace) → pace ≡ On t → ErrorThrown s v p pace n → ⊥
  by_throw t (ErrorValue k) p n pace on thrown = never t (sym thrown.0 ∙ on)
  by_throw t (IntValue k) p n pace on thrown = absurd thrown
  by_throw t (BoolValue k) p n pace on thrown = absurd thrown
  by_throw t (TextValue k) p n pace on thrown = absurd thrown
  by_throw t VoidValue p n pace on thrown = absurd thrown
  by_throw t (CompositeValue d vs) p n pace on thrown = absurd thrown
  by_throw t (RefValue d k) p n pace on thrown = absurd thrown

module _ (code : Code) (s : ControlPoint) (here : slice_get s.class.now.blocks.items s.place ≡ Some s.block.now) where
  same_as : (told : Bool) (t u : ControlPoint) → u ≡ t → SameClass s told u → SameClass s told t
  same_as told t u e h = subst (SameClass s told) e h

  onward : (t : ControlPoint) (pace : Pace) → pace ≡ On t → pace ≡ On (next_stand s) → SameClass s false t
  onward t pace on is =
      let same : On (next_stand s) ≡ On t = sym is ∙ on in
      same_as false t (next_stand s) (let e : next_stand s ≡ t = cc (same) in e) (record { class = refl; block = here; noted = refl })

  after_values : (t : ControlPoint) (vs : List Value) (p n : Process) (pace : Pace) → pace ≡ On t → OnAfter (next_stand s) vs p pace n → SameClass s false t
  after_values t [] p n pace on after = onward t pace on after.0
  after_values t (v ∷ vs) p n pace on after = absurd (never t (sym after.0 ∙ on))

  goes_to : (t u : ControlPoint) (b k : ℕ) (pace : Pace) → pace ≡ On t → pace ≡ On u → GoesTo s b k u → SameClass s false t
  goes_to t u b k pace on is to =
      let same : On u ≡ On t = sym is ∙ on in
      same_as false t u (let e : u ≡ t = cc (same) in e) (record {
        class = ap (λ (y : ControlPoint). y.class) to.same;
        block = ap (λ (y : ControlPoint). slice_get s.class.now.blocks.items y.place) to.same ∙ to.at;
        noted = ap (λ (y : ControlPoint). y.noted) to.same;
      })

  at_block : (t : ControlPoint) (b : ℕ) (p n : Process) (pace : Pace) → pace ≡ On t → GoesOnAt s b p pace n → SameClass s false t
  at_block t b p n pace on to = goes_to t to.0 b 0 pace on to.2 to.1

  by_pass : (t : ControlPoint) (b : ℕ) (p n : Process) (pace : Pace) → pace ≡ On t → Passes s b p pace n → SameClass s false t
  by_pass t b p n pace on (no_pass u q to none is) = absurd (never t on)
  by_pass t b p n pace on (pass_begins u q to some is) = goes_to t u b 0 (On u) on refl to

  by_act : (t : ControlPoint) (a : Act) (args : Values) (p n : Process) (pace : Pace) → pace ≡ On t → IsAct code s a args p pace n → SameClass s false t
  by_act t (act.World called) args p n pace on does = absurd (never t (sym does.0 ∙ on))
  by_act t (act.Actor class) args p n pace on does = absurd (never t (sym does.0 ∙ on))
  by_act t (act.Function k) args p n pace on does = let a = evaluated_on s _ _ p _ t pace n on does in onward t pace on a.1.1.0

  by_change : (t : ControlPoint) (aim : Aim) (how : Change) (sent : Option Value) (p n : Process) (pace : Pace) → pace ≡ On t → IsChange code s aim how sent p pace n → SameClass s false t
  by_change t aim Grows (Some v) p n pace on (grown es old q room is) = onward t (On (next_stand s)) on refl
  by_change t aim Grows (Some v) p n pace on (is_full es q aimed full is) = absurd (never t on)
  by_change t aim Grows None p n pace on is = absurd is
  by_change t aim Clears sent p n pace on is = after_values t _ _ n pace on is.after

  by_does : (t : ControlPoint) (x : Instruction) (p n : Process) (pace : Pace) → pace ≡ On t → Does code s x p pace n → SameClass s false t
  by_does t (instruction.Set aim e) p n pace on does = let a = evaluated_on s _ _ p _ t pace n on does in after_values t _ _ n pace on a.1.1.after
  by_does t (instruction.Effect aim e args) p n pace on does = absurd (by_effect code s t _ e args.items p n pace s on does)
  by_does t (instruction.New place kd) p n pace on does = after_values t _ _ n pace on does.after
  by_does t (instruction.Act a args) p n pace on does = let b = evaluated_on s _ _ p _ t pace n on does in by_act t a b.0 _ n pace on b.1.1
  by_does t (instruction.Method aim m args) p n pace on does = by_how (change_by (Some m)) refl
    where
      by_how : (o : Option Change) → change_by (Some m) ≡ o → SameClass s false t
      by_how None is = absurd (by_method code s t aim m args.items p n pace is on does)
      by_how (Some how) is = let a = by_argument code s t aim m (Some how) args.items p n pace is on does in by_change t aim how a.0 a.1.0 n pace on a.1.1.0
  by_does t (instruction.Drop places) p n pace on does = after_values t _ _ n pace on does
  by_does t instruction.Invalid p n pace on does = absurd does

  -- at a wait
  by_keep : (t : ControlPoint) (x : Held) (p n : Process) (pace : Pace) → pace ≡ On t → KeepsOperand (noted_stand s) x p pace n → SameClass s true t
  by_keep t x p n pace on (kept_marked q marked is) = absurd (never t on)
  by_keep t x p n pace on (kept_unready q unmarked unready is) = let e : noted_stand s ≡ t = cc (on) in same_as true t (noted_stand s) e (record { class = refl; block = here; noted = refl })
  by_keep t x p n pace on (kept_ready q b unmarked ready at takes) = absurd (never t on)

  by_reference : (t : ControlPoint) (k : ℕ) (v : ValueTree) (p n : Process) (pace : Pace) → pace ≡ On t → ReferenceKept (noted_stand s) k v p pace n → SameClass s true t
  by_reference t k (RefValue kd c) p n pace on keeps = by_keep t _ _ n pace on keeps
  by_reference t k (IntValue z) p n pace on keeps = absurd keeps
  by_reference t k (BoolValue z) p n pace on keeps = absurd keeps
  by_reference t k (TextValue z) p n pace on keeps = absurd keeps
  by_reference t k VoidValue p n pace on keeps = absurd keeps
  by_reference t k (ErrorValue z) p n pace on keeps = absurd keeps
  by_reference t k (CompositeValue d vs) p n pace on keeps = absurd keeps

  by_operand : (t : ControlPoint) (k : ℕ) (o : Operand) (p n : Process) (pace : Pace) → pace ≡ On t → OperandStep code (noted_stand s) k o p pace n → SameClass s true t
  by_operand t k (operand.Value e) p n pace on does = let a = evaluated_on (noted_stand s) _ _ p _ t pace n on does in by_reference t k (value_of a.0) _ n pace on a.1.1
  by_operand t k (operand.Effect e args) p n pace on does = absurd (by_effect code s t _ e args.items p n pace (noted_stand s) on does)

  by_choice : (t : ControlPoint) (g : ℕ) (group : Group) (p n : Process) (pace : Pace) → pace ≡ On t → Chooses code (noted_stand s) g group p pace n → SameClass s true t
  by_choice t g group p n pace on (asks_operand b at does) = by_operand t _ b.operand p n pace on does
  by_choice t g group p n pace on (all_kept none off waits) = absurd (never t (sym off ∙ on))

  by_test : (t : ControlPoint) (one other : ℕ) (b : Bool) (p n : Process) (pace : Pace) → pace ≡ On t → IsTest s one other b p pace n → SameClass s false t
  by_test t one other true p n pace on to = at_block t one p n pace on to
  by_test t one other false p n pace on to = at_block t other p n pace on to

  by_end : (t : ControlPoint) (l : code_last.Last) (p n : Process) (pace : Pace) → pace ≡ On t → Ends code s l p pace n → SameClass s (told_after l) t
  by_end t (last.Goto b) p n pace on does = at_block t b p n pace on does
  by_end t (last.Pass b) p n pace on does = by_pass t b p n pace on does
  by_end t (last.Test e one other) p n pace on does = let a = evaluated_on s _ _ p _ t pace n on does in by_test t one other a.0 _ n pace on a.1.1
  by_end t (last.Choose g) p n pace on does = by_choice t g does.group _ n pace on does.chooses
  by_end t (last.Return e) p n pace on does = let a = evaluated_on s _ _ p _ t pace n on does in absurd (never t (sym a.1.1.off ∙ on))
  by_end t (last.Throw e) p n pace on does = let a = evaluated_on s _ _ p _ t pace n on does in absurd (by_throw code s t (value_of a.0) _ n pace on a.1.1)

  by_step : (t : ControlPoint) (p n : Process) (pace : Pace) → pace ≡ On t → StepsOn code s p pace n → (told : Bool) × SameClass s told t
  by_step t p n pace on (by_instruction x at does) = (false, by_does t x p n pace on does)
  by_step t p n pace on (by_last at does) = (told_after s.block.now.last, by_end t s.block.now.last p n pace on does)

  pub instruction_later : (t : ControlPoint) (x : Instruction) (p n : Process) (pace : Pace) → pace ≡ On t → Does code s x p pace n → t.noted ≡ false
  instruction_later t x p n pace on does = (by_does t x p n pace on does).noted

  pub end_later : (t : ControlPoint) (l : code_last.Last) (p n : Process) (pace : Pace) → pace ≡ On t → Ends code s l p pace n → t.noted ≡ told_after l
  end_later t l p n pace on does = (by_end t l p n pace on does).noted

pub stays_in_code : law.StaysInCode
stays_in_code r classes code s t f g m n c at same steps =
    let a = (by_step code s at.block t m n (On t) refl steps).1 in record {
      class = ap (λ y. code_of y.now) a.class ∙ at.class ∙ ap (coded c.names c.class) (sym same);
      block = ap (λ y. slice_get y.now.blocks.items t.place) a.class ∙ a.block;
    }

pub in_class_stays : law.InClassStays
in_class_stays code number s t m n here steps =
    let a = (by_step code s here.block t m n (On t) refl steps).1 in record {
      class = here.class ∙ ap (λ y. Some y.now) (sym a.class);
      block = ap (λ y. slice_get y.now.blocks.items t.place) a.class ∙ a.block;
    }
