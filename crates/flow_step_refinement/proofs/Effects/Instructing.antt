-- What the code has an actor do by an effect or a call statement is a step of the class machine.
use Rattle.std.proofs.Common.{◌≡◌, ℕ, List, [], ◌∷◌, length, refl, ap, ◌∙◌, subst}
use Rattle.std.specs.declared.option.Option.TheVariants.{Some, None}
use Rattle.flow_base.specs.declared.ids.ActorId.{ActorId}
use Rattle.flow_ast.specs.TypingNames.{named, method_names}
use Rattle.flow_tree.specs.declared.ty.Ident.{Ident}
use Rattle.flow_tree.specs.Tree.{ExprTree, ExprTrees, NoExprs, MoreExprs}
use Rattle.flow_value.specs.Values.{ValueTree}
use Rattle.flow_value.specs.View.{value_of}
use Rattle.flow_eval.specs.Eval.{Res}
use Rattle.flow_class.specs.Classes.{ActInstr, RawTree}
use Rattle.flow_class.specs.Code.{Body}
use Rattle.flow_code.specs.declared.expr.expr.Resolved.{Resolved}
use Rattle.flow_code.specs.Resolved.Resolving.{resolved, resolved_all}
use Rattle.flow_code.specs.Resolved.Evaluation.{value_at, values_at}
use Rattle.flow_code.specs.Resolved.View.{node_of, nodes_of}
use Rattle.flow_code.specs.declared.class.Act.TheVariants as act
use Rattle.flow_code.specs.declared.program.Code.{Code}
use Rattle.flow_code.specs.View.{aim_of}
use Rattle.flow_code.specs.Coding.{Coding}
use Rattle.flow_code.specs.Coded.{coding}
use Rattle.flow_trace.specs.declared.line.Line.{Line}
use Rattle.flow_meaning.specs.Requests.{Supply}
use Rattle.flow_meaning.specs.Evaluating.{value, values, last_of}
use Rattle.flow_meaning.specs.Process.{Entry, Proc}
use Rattle.flow_meaning.specs.References.{Scan}
use Rattle.flow_meaning.specs.Step.{view}
use Rattle.flow_meaning.specs.Class.{class_names}
use Rattle.flow_meaning.specs.Frame.{Frame, look}
use Rattle.flow_steps.specs.declared.call.Goal.TheVariants as goal
use Rattle.flow_steps.specs.declared.frames.ControlPoint.{ControlPoint}
use Rattle.flow_steps.specs.declared.process.Process.{Process}
use Rattle.flow_steps.specs.Evaluating.{sight_in, Evaluates}
use Rattle.flow_steps.specs.Acting.{args_of, EffectDone}
use Rattle.flow_steps.specs.Stepping.{value_for, MethodStep, IsAct, IsCall, IsMethodBy}
use Rattle.flow_operation_refinement.specs.Seeing.{IsCodeOf}
use Rattle.flow_operation_refinement.specs.Continuing.{MayBeStale}
use Rattle.flow_operation_refinement.proofs.Seen.{expr_follows}
use Rattle.flow_operation_refinement.proofs.Arguments.{args_follow}
use Rattle.flow_operation_refinement.proofs.Carrying.{old, seen, noted_follows}
use Rattle.flow_step_refinement.specs.Effects.Asking.{Answered}
use Rattle.flow_step_refinement.specs.Effects.Instructed as law
use Rattle.flow_step_refinement.specs.Effects.Instructed.{Judged, MethodMay}
use Rattle.flow_step_refinement.proofs.Effects.Effecting.{effect_step, effect_operand_step}
use Rattle.flow_step_refinement.proofs.Effects.Calls.{predefined_step, void_step}
use Rattle.flow_step_refinement.proofs.Effects.Methods.{method_step, method_of_step}
use Rattle.flow_step_refinement.proofs.Effects.Decoded.{effect_coded, operand_coded, call_coded, void_coded, method_coded}

module _ (r : RawTree) (ls : List Line) (m : Process) (p : Proc Frame) (i : ℕ) (e : Entry) (f : Frame) where
  -- what the frame's class is coded by
  abbrev by : {code : Code} → IsCodeOf r code → Coding
  by c = coding c.coded.names c.coded.class (length f.code.slots)

  module _ (x : Scan) (s : ControlPoint) (w : Supply) (code : Code) (st : MayBeStale r ls x s m p i e f) (j : Judged r code m w f) where
    -- arguments and an expression come to the same
    args_seen : (args : List Resolved) (es : ExprTrees) → nodes_of args ≡ resolved_all (by j.is).names es
        → values_at (sight_in code s.actor.0 m) (nodes_of args) m.left ≡ values (class_names r) (view w i p.core) (look f.mem) es
    args_seen args es is =
        ap (λ (a : ActorId). values_at (sight_in code a.0 m) (nodes_of args) m.left) st.standing.actor
        ∙ ap (λ k. values_at (sight_in code i m) k m.left) is
        ∙ args_follow r ls x m (seen r ls m p i e f x s st) i e (old r ls m p i e f x s st) code w st.stood j.is j.time j.few es

    expr_seen : (arg : Resolved) (t : ExprTree) → node_of arg ≡ resolved (by j.is).names t
        → value_at (sight_in code s.actor.0 m) (node_of arg) m.left ≡ value (class_names r) (view w i p.core) (look f.mem) t
    expr_seen arg t is =
        ap (λ (a : ActorId). value_at (sight_in code a.0 m) (node_of arg) m.left) st.standing.actor
        ∙ ap (λ k. value_at (sight_in code i m) k m.left) is
        ∙ expr_follows r ls x m (seen r ls m p i e f x s st) i e (old r ls m p i e f x s st) code w t st.stood j.is j.time j.few

  pub effect_does : law.EffectDoes r ls m p i e f
  effect_does x s w code aim eff args text pace n st none j from may does =
      let of = effect_coded r (by j.is) f.code text (aim_of aim) eff (nodes_of args.items) j.is.coded.are_classes from.coded in
      let comes_to : Res (List ValueTree) = values (class_names r) (view w i p.core) (look f.mem) of.effect.exprs in
      effect_step r ls m p i e f x s w code of.path of.expr of.effect.exprs of.effect.called eff comes_to pace n
      (record { actor = st.standing.actor; stood = noted_follows r ls m p i e f x s st; asked = none })
      (may of.path of.expr of.is of.effect.called of.effect.exprs of.effect.is_effect)
      (from.fetched ∙ ap Body of.is) of.effect.is_effect of.effect.same refl
      (subst (λ k. Evaluates s args_of k m (EffectDone code s goal.Stored eff) pace n) (args_seen x s w code st j args.items of.effect.exprs of.effect.resolved) does)

  pub operand_does : law.OperandDoes r ls m p i e f
  operand_does x s w code group k b eff args pace n ask st j fetched callback number coded may does =
      let of = operand_coded r (by j.is) b.operand eff (nodes_of args.items) j.is.coded.are_classes coded in
      let comes_to : Res (List ValueTree) = values (class_names r) (view w i p.core) (look f.mem) of.exprs in
      let same : values_at (sight_in code s.actor.0 m) (nodes_of args.items) m.left ≡ comes_to =
      ap (λ (a : ActorId). values_at (sight_in code a.0 m) (nodes_of args.items) m.left) ask.actor
      ∙ ap (λ l. values_at (sight_in code i m) l m.left) of.resolved
      ∙ args_follow r ls x m p i e f code w st j.is j.time j.few of.exprs in
      effect_operand_step r ls m p i e f x s w code group k b of.exprs of.called eff comes_to pace n ask (may of.called of.exprs of.is_effect) fetched callback of.is_effect of.same number refl
      (subst (λ l. Evaluates s args_of l m (EffectDone code s (goal.Kept k) eff) pace n) same does)

  pub call_does : law.CallDoes r ls m p i e f
  call_does x s w code called args text pace n st none j from does =
      let of = call_coded (by j.is) f.code text called (nodes_of args.items) from.coded in
      let comes_to : Res (List ValueTree) = values (class_names r) (view w i p.core) (look f.mem) of.exprs in
      predefined_step r ls m p i e f x s w code of.name of.exprs called comes_to pace n st none (from.fetched ∙ ap Body of.is) of.named refl
      (subst (λ k. Evaluates s args_of k m (IsAct code s (act.World called)) pace n) (args_seen x s w code st j args.items of.exprs of.resolved) does)

  pub void_does : law.VoidDoes r ls m p i e f
  void_does x s w code class args text pace n st none j from may does =
      let of = void_coded r (by j.is) f.code text class (nodes_of args.items) j.is.coded.are_classes j.is.coded.are_functions from.coded in
      let comes_to : Res (List ValueTree) = values (class_names r) (view w i p.core) (look f.mem) of.exprs in
      void_step r ls m p i e f x s w code of.name of.exprs class comes_to pace n st none (from.fetched ∙ ap Body of.is) of.starts (may of.name of.exprs of.is of.starts) refl
      (subst (λ k. Evaluates s args_of k m (IsAct code s (act.Actor class)) pace n) (args_seen x s w code st j args.items of.exprs of.resolved) does)

  pub method_does : law.MethodDoes r ls m p i e f
  method_does x s w code aim called args text pace n st may j from changes will does =
      let of = method_coded (by j.is) f.code text (aim_of aim) called (nodes_of args.items) from.coded in
      by_args of.root of.second of.others args.items of.exprs of.resolved of.is of.named does
    where
      by_args : (y z : Ident) (ys : List Ident) (items : List Resolved) (es : ExprTrees) → nodes_of items ≡ resolved_all (by j.is).names es → text ≡ ActInstr (y ∷ z ∷ ys) es
          → named method_names (last_of z ys).name ≡ Some called → MethodStep code s aim called items m pace n → Answered r ls x w p i e pace n
      by_args y z ys [] NoExprs is text_is name d = method_step r ls m p i e f x s w code y z ys aim called pace n st may (from.fetched ∙ ap Body text_is) name changes (will.aims y z ys NoExprs text_is)
          (subst (λ o. IsMethodBy o code s aim called None m pace n) changes d)
      by_args y z ys (a ∷ []) (MoreExprs t NoExprs) is text_is name d =
          let one : node_of a ≡ resolved (by j.is).names t = cc (is) in
          method_of_step r ls m p i e f x s w code y z ys t aim called (value (class_names r) (view w i p.core) (look f.mem) t) pace n st may (from.fetched ∙ ap Body text_is) name changes
          (will.aims y z ys (MoreExprs t NoExprs) text_is) (λ v left h. will.there (y ∷ z ∷ ys) t v left text_is h) refl
          (subst (λ k. Evaluates s value_of k m (λ v. IsCall code s aim called (Some v)) pace n) (expr_seen x s w code st j a t one)
          (subst (λ o. Evaluates s value_of (value_for code s.actor.0 a m) m (λ v. IsMethodBy o code s aim called (Some v)) pace n) changes d))
      by_args y z ys [] (MoreExprs t es) is text_is name d = absurd (cc (is))
      by_args y z ys (a ∷ []) NoExprs is text_is name d = absurd (cc (is))
      by_args y z ys (a ∷ []) (MoreExprs t (MoreExprs u es)) is text_is name d = absurd (cc (is))
      by_args y z ys (a ∷ b ∷ items) es is text_is name d = absurd d
