-- What a process keeps allows each of its actors what it asks.
use Rattle.std.proofs.Common.{◌≡◌, ℕ, List, [], ◌∷◌, length, refl, ap, subst, ◌∙◌}
use Rattle.std.specs.Prelude.{slice_get}
use Rattle.std.specs.declared.option.Option.{Option}
use Rattle.std.specs.declared.option.Option.TheVariants.{None, Some}
use Rattle.flow_tree.specs.declared.ty.Ident.{Ident}
use Rattle.flow_ast.specs.TypingNames.{named, call_names}
use Rattle.flow_tree.specs.Tree.{ExprTree, ExprTrees}
use Rattle.flow_tree.specs.Decls.{RecordTree}
use Rattle.flow_value.specs.Values.{ValueTree, IntValue, BoolValue, TextValue, VoidValue, ErrorValue, CompositeValue, RefValue, ValueTrees, refs_of, refs_of_all, at_place}
use Rattle.flow_value.proofs.References.{refs_listed, listed_in, part_refs}
use Rattle.flow_eval.specs.Eval.{Res, Done, then as goes_on}
use Rattle.flow_eval.specs.Records.{field_place, field}
use Rattle.flow_eval.specs.Functions.{read_in}
use Rattle.flow_class.specs.declared.class.Slotted.{Slotted}
use Rattle.flow_class.specs.Classes.{SetInstr, EffectInstr, NewInstr, ActInstr, DropInstr, GotoLast, PassLast, TestLast, ChooseLast, ReturnLast, ThrowLast, CallbackTree, ClassTree, RawTree}
use Rattle.flow_class.specs.Code.{Fetched, Body, Last, Nothing, fetch, callback_at}
use Rattle.flow_class.specs.Places.{place_named}
use Rattle.flow_code.specs.declared.program.Code.{Code}
use Rattle.flow_numbered.specs.Numbered.{thing}
use Rattle.flow_meaning.specs.Requests.{Supply, Act, Goal, Stored, Kept, Effects}
use Rattle.flow_meaning.specs.Process.{Entry, Proc}
use Rattle.flow_meaning.specs.Evaluating.{StepOf, Effectful, Actor, asks, bind, given, evaluated, effect_in, effect_of, values, plain_act, function_act, started_act, before_last}
use Rattle.flow_meaning.specs.Step.{kept_by, view}
use Rattle.flow_meaning.specs.Class.{effects, choose, operand_by, class_names}
use Rattle.flow_meaning.specs.Frame.{Frame, read, look, next_instr, spot_of}
use Rattle.flow_heap_refinement.specs.Holds.{AllThere, There}
use Rattle.flow_progress.specs.Places.{class_vars}
use Rattle.flow_progress.specs.Asking.{Called, AsksFit}
use Rattle.flow_progress.specs.Fitting.{typed_by}
use Rattle.flow_progress.specs.Written.{heads}
use Rattle.flow_progress.proofs.Handed.{args_many}
use Rattle.flow_operation_refinement.specs.Seeing.{IsCodeOf}
use Rattle.flow_step_refinement.specs.Executing.{MayDoNext, MayChoose, coded_by}
use Rattle.flow_step_refinement.specs.Referring.{HoldsThere}
use Rattle.flow_step_refinement.specs.Effects.Starting.{MayStart}
use Rattle.flow_burst_refinement.specs.Enabled.Allowing.{Running}
use Rattle.flow_burst_refinement.proofs.Enabled.Steps.{call_rooted, rules, holds_there, asks_fit, step_allowed, values_there, making_allowed}
use Rattle.flow_burst_refinement.specs.Requests.Next.{MayAffect, MayStartBy, MayCallOn, MayChooseBy, MayAskNext}
use Rattle.flow_burst_refinement.specs.Requests.Allowing as law

-- what a path leads to refers to what is there, if what it begins with does
module _ (p : Proc Frame) where
  at_place_there : (vs : ValueTrees) (o : Option ℕ) (w : ValueTree) → at_place vs o ≡ Some w → AllThere p (refs_of_all vs) → AllThere p (refs_of w)
  at_place_there vs None w e h = cc
  at_place_there vs (Some k) w e h = refs_listed (There p) w (part_refs (There p) vs k w e (listed_in (There p) vs h))

  field_there : (rs : List RecordTree) (v : ValueTree) (x : List ℕ) (w : ValueTree) → field rs v x ≡ Some w → AllThere p (refs_of v) → AllThere p (refs_of w)
  field_there rs (CompositeValue n vs) x w e h = at_place_there vs (field_place rs n x) w e h
  field_there rs (IntValue z) x w e h = cc
  field_there rs (BoolValue b) x w e h = cc
  field_there rs (TextValue t) x w e h = cc
  field_there rs VoidValue x w e h = cc
  field_there rs (ErrorValue n) x w e h = cc
  field_there rs (RefValue kd k) x w e h = cc

  read_in_there : (rs : List RecordTree) (o : Option ValueTree) (xs : List Ident) (w : ValueTree) → read_in rs o xs ≡ Some w
      → ((v : ValueTree) → o ≡ Some v → AllThere p (refs_of v)) → AllThere p (refs_of w)
  read_in_there rs None xs w e h = cc
  read_in_there rs (Some v) [] w e h = let s : v ≡ w = cc in subst (λ x. AllThere p (refs_of x)) s (h v refl)
  read_in_there rs (Some v) (x ∷ xs) w e h = read_in_there rs (field rs v x.name) xs w e (λ u at. field_there rs v x.name u at (h v refl))

  -- what stands in a place that is named
  look_there : (f : Frame) (x : List ℕ) → HoldsThere p f → (v : ValueTree) → look f.mem x ≡ Some v → AllThere p (refs_of v)
  look_there f x holds = by_place (place_named x)
    where
      by_place : (o : Option Slotted) (v : ValueTree) → bind o (read f.mem) ≡ Some v → AllThere p (refs_of v)
      by_place None v e = cc
      by_place (Some q) v e = holds q v e

module _ (r : RawTree) (code : Code) (w : Supply) (p : Proc Frame) (i : ℕ) (e : Entry) (f : Frame) (run : Running r p i e f) (is : IsCodeOf r code) where
  abbrev kept : ℕ
  kept = kept_by (thing p.core.entries i)

  abbrev Fit : StepOf Frame → Type 0
  Fit = AsksFit r (class_vars f.code) (typed_by run.kept.types) f.code kept

  -- the actor that is started takes the arguments
  takes : (k : ℕ) (d : ClassTree) (es : ExprTrees) (vs : List ValueTree) (left : ℕ) → Called r (typed_by run.kept.types) k d vs
      → values (class_names r) (view w i p.core) (look f.mem) es ≡ Done vs left → MayStart r p code k vs
  takes k d es vs left called done =
      let params = ((rules r w p i e f run).classes k d called.0).params in
      let making = making_allowed r p i e f run in
      record {
        coded = coded_by is;
        cells = making.cells;
        entries = making.entries;
        free = making.next;
        there = (values_there r w p i e f run).1 es vs left done;
        tree = d;
        at = called.0;
        taken = args_many r (heads r) (class_vars d) (typed_by run.kept.types) vs d.slots d.params params called.1;
        fits = params;
      }

  starts : (goal : Goal) (k : ℕ) (es : ExprTrees) (vs : List ValueTree) (left : ℕ) → Fit (effects (class_names r) (view w i p.core) f goal (Actor k, es))
      → values (class_names r) (view w i p.core) (look f.mem) es ≡ Done vs left → MayStart r p code k vs
  starts goal k es vs left fit done =
      let one = subst (λ z. Fit (evaluated f z (λ us left. given f (effect_of (Actor k) us) (λ eff. asks left (Effects goal eff) f)))) done fit in
      let gives = one.0.1.2 in takes k gives.0 es vs left gives.1 done

  -- so does a void actor
  abbrev Asked : Res Act → StepOf Frame
  Asked done = evaluated f done (λ act left. asks left act (next_instr f.mem f))

  starts_by : (y : Ident) (es : ExprTrees) → fetch f.code f.block f.instr ≡ Body (ActInstr (y ∷ []) es) → MayStartBy r code w p i e f y es
  starts_by y es at k is_class vs left done =
      let fit = asks_fit r w p i e f run (Body (ActInstr (y ∷ []) es)) at in
      let one = subst (λ z. Fit (Asked (goes_on z (λ us rest. plain_act (class_names r) (view w i p.core) (look f.mem) (named call_names y.name) y.name us rest)))) done fit in
      let two = subst (λ z. Fit (Asked (plain_act (class_names r) (view w i p.core) (look f.mem) z y.name vs left))) is_class.own one in
      let three = subst (λ z. Fit (Asked (function_act (class_names r) (view w i p.core) (look f.mem) z y.name vs left))) is_class.function two in
      let four = subst (λ z. Fit (Asked (started_act (class_names r) (view w i p.core) (look f.mem) z vs left))) is_class.same three in
      let gives = four.0.1 in takes k gives.0 es vs left gives.1 done

  affects : (goal : Goal) (t : ExprTree) → ((g : Effectful × ExprTrees) → effect_in (class_names r) t ≡ Some g → Fit (effects (class_names r) (view w i p.core) f goal g))
      → MayAffect r code w p i e f t
  affects goal t fit called es at = record {
    cells = (making_allowed r p i e f run).cells;
    starts = λ k actor vs left done. starts goal k es vs left (fit (Actor k, es) (at ∙ ap (λ c. Some (c, es)) actor)) done;
  }

  affects_next : (path : List Ident) (t : ExprTree) → fetch f.code f.block f.instr ≡ Body (EffectInstr path t) → MayAffect r code w p i e f t
  affects_next path t at =
      affects Stored t (λ g next. subst (λ o. Fit (given f o (effects (class_names r) (view w i p.core) f Stored))) next (asks_fit r w p i e f run (Body (EffectInstr path t)) at))

  affects_operand : (g : ℕ) → fetch f.code f.block f.instr ≡ Last (ChooseLast g) → (b : CallbackTree) → callback_at f.code g (length e.operands) ≡ Some b → MayAffect r code w p i e f b.operand
  affects_operand g at b next =
      let spot = spot_of f.code g in
      let fit = asks_fit r w p i e f run (Last (ChooseLast g)) at in
      let one = subst (λ z. Fit (choose (class_names r) (view w i p.core) f spot z)) (ap (λ o. callback_at f.code g (kept_by o)) run.entered ∙ next) fit in
      affects (Kept spot) b.operand (λ h effect. subst (λ z. Fit (operand_by (class_names r) (view w i p.core) f spot b.operand z)) effect one)

  calls_on : (y z : Ident) (ys : List Ident) (es : ExprTrees) → fetch f.code f.block f.instr ≡ Body (ActInstr (y ∷ z ∷ ys) es) → MayCallOn r code w p i e f y z ys es
  calls_on y z ys es at = record {
    rooted = call_rooted r w p i e f run (y ∷ z ∷ ys) es at;
    there = λ kd k to. (read_in_there p r.records (look f.mem y.name) (before_last z ys) (RefValue kd k) to (look_there p f y.name (holds_there r w p i e f run))).0;
    sent = λ t v left one done. (values_there r w p i e f run).0 t v left done;
  }

  chooses : (g : ℕ) → fetch f.code f.block f.instr ≡ Last (ChooseLast g) → MayChooseBy r code w p i e f g
  chooses g at =
      let may : MayChoose r w p i e f g = subst (MayDoNext r w p i e f) at (step_allowed r w p i e f run) in
      record { go = may.go; operand = affects_operand g at }

  by_fetched : (o : Fetched) → fetch f.code f.block f.instr ≡ o → MayAskNext r code w p i e f o
  by_fetched (Body (EffectInstr path t)) at = affects_next path t at
  by_fetched (Body (ActInstr [] es)) at = tt
  by_fetched (Body (ActInstr (y ∷ []) es)) at = starts_by y es at
  by_fetched (Body (ActInstr (y ∷ z ∷ ys) es)) at = calls_on y z ys es at
  by_fetched (Body (SetInstr path t)) at = tt
  by_fetched (Body (NewInstr q)) at = tt
  by_fetched (Body (DropInstr ns)) at = tt
  by_fetched (Last (ChooseLast g)) at = chooses g at
  by_fetched (Last (GotoLast b)) at = tt
  by_fetched (Last (PassLast b)) at = tt
  by_fetched (Last (TestLast t a b)) at = tt
  by_fetched (Last (ReturnLast t)) at = tt
  by_fetched (Last (ThrowLast t)) at = tt
  by_fetched Nothing at = tt

pub ask_allowed : law.AskAllowed
ask_allowed r code w p i e f run is = by_fetched r code w p i e f run is (fetch f.code f.block f.instr) refl
