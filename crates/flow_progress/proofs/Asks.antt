-- A frame that fits asks for what fits, and never comes to what has no meaning.
use Rattle.std.proofs.Common.{◌≡◌, ℕ, zero, suc, Bool, true, false, ◌||◌, List, [], ◌∷◌, ◌++◌, length, ◌⊎◌, inl, inr, refl, sym, ap, ◌∙◌, subst, arith}
use Rattle.std.specs.Prelude.{slice_get, Contains, nat_lt}
use Rattle.std.specs.Str.{bytes_eq}
use Rattle.std.specs.Option.{option_map, option_and_then}
use Rattle.std.specs.declared.option.Option.{Option}
use Rattle.std.specs.declared.option.Option.TheVariants.{None, Some}
use Rattle.flow_ast.specs.declared.predefined.Predefined.{Predefined}
use Rattle.flow_ast.specs.declared.predefined.Predefined.TheVariants as code
use Rattle.flow_ast.specs.Typing.{param_named, is_nothing}
use Rattle.flow_ast.specs.TypingNames.{named, call_names, method_names}
use Rattle.flow_ast.specs.Fits.{fields_type, path_type, FunctionsFit}
use Rattle.flow_ast.specs.declared.predefined.Method.{Method}
use Rattle.flow_ast.specs.declared.predefined.Method.TheVariants as method
use Rattle.flow_tree.specs.declared.ty.Ident.{Ident}
use Rattle.flow_tree.specs.Tree.{TypeTree, IntType, StringType, BoolType, ErrorType, PromiseType, PromiseStreamType, ExprTree, ExprTrees, CallExpr, VectorType, NothingType, VoidType}
use Rattle.flow_tree.specs.Decls.{ParamTree, SlotTree, RecordTree, RoutineTree}
use Rattle.flow_tree.specs.declared.limits.TheConstants.{ELEMENTS}
use Rattle.flow_value.specs.declared.value.Kind.{Kind}
use Rattle.flow_value.specs.declared.value.Kind.TheVariants as kind
use Rattle.flow_value.specs.Values.{ValueTree, RefValue, values_of_list, ValueTrees, NoValues, MoreValues, IntValue, BoolValue, TextValue, VoidValue, ErrorValue, CompositeValue, RecordWhole, ListWhole, with_last, count_of}
use Rattle.flow_eval.specs.Eval.{Res, Done, Fails, Spent, Meaningless, Setting}
use Rattle.flow_eval.specs.Answers.{int_of, text_of, bool_of, error_of, arg}
use Rattle.flow_eval.specs.Functions.{Call, read_in, deepest, default_value}
use Rattle.flow_eval.specs.Typed.{reference_type, HasType, HaveTypes, CellsFit, AllAre}
use Rattle.flow_eval.specs.WellTyped.{Safe}
use Rattle.flow_eval.proofs.TypedValues.{some_same, none_some, first_there, is_bool_value, is_error_value}
use Rattle.flow_eval.proofs.TypedExprs.{then_good}
use Rattle.flow_eval.proofs.TypedStatements.{function_good}
use Rattle.flow_class.specs.declared.class.Slotted.{Slotted}
use Rattle.flow_class.specs.declared.class.Slotted.TheVariants.{Slot, Local}
use Rattle.flow_class.specs.Classes.{InstrTree, SetInstr, EffectInstr, NewInstr, ActInstr, DropInstr, LastTree, GotoLast, PassLast, TestLast, ChooseLast, ReturnLast, ThrowLast, CallbackTree, ClassTree, RawTree}
use Rattle.flow_class.specs.Places.{place_named}
use Rattle.flow_class.specs.Code.{type_at, Fetched, Body, Last, Nothing, fetch, group_at, callback_at}
use Rattle.flow_valid.specs.Named.{listed, expr_places, exprs_places, base_place, targets}
use Rattle.flow_valid.specs.Filling.{among, instr_reads, instr_fills, operands, group_reads, reads, same_place}
use Rattle.flow_valid.specs.Validity.{operand_type}
use Rattle.flow_meaning.specs.Variables.{flat, filled}
use Rattle.flow_meaning.specs.Requests.{Act, Goes, Effects, Sends, Cancels, SendsTo, Returns, Spot, Make, Goal, Stored, Kept, Starts, Drops}
use Rattle.flow_meaning.specs.Process.{View}
use Rattle.flow_meaning.specs.Evaluating.{Names, effectful, setting, bind, StepOf, asks, given, evaluated, Effectful, effect_in, effect_of, done, before_last, last_of, value, values, function_act, plain_act, based_act, call_act, Change, Grows, Clears, change_by, change_of, changed, grown_by, Storing, storing, call_by, started_act}
use Rattle.flow_meaning.specs.Frame.{Memory, Frame, read, write, look, held_in, emptied, reversed, everything, assign, spot_of, go, next_instr, over, lose, put_at}
use Rattle.flow_meaning.specs.Class.{promise_kind, placed, effects, instruction, test, operand_ref as asks_operand, operand_by, choose, throw_value, last, fetched, next_step, class_names, new_by, put_path}
use Rattle.flow_progress.specs.Places.{Filled, HoldsTypes}
use Rattle.flow_progress.specs.FramesAtPoints.{Stands, StandsWaiting}
use Rattle.flow_progress.specs.Rules.{EffectFits, InstrFits, SayFits, CallFits, BranchFits, LastFits, KeepsRules, Typed, AllTyped, MessageFits}
use Rattle.flow_progress.specs.Asking.{Stores, NextOperand, HaveSome, Wanted, ActFits, StaysIn, AsksFit, end_type}
use Rattle.flow_progress.proofs.Evaluates.{AllFilled, readable_by, all_readable_by, among_left, among_right, same_self, value_safe, values_safe}
use Rattle.flow_progress.proofs.Memories.{blank_at, emptied_holds, emptied_other, lost_holds, place_eq}
use Rattle.flow_progress.proofs.Stood.{read_filled, next_there, reached_next, full_next, reached_jump, full_jump}
use Rattle.flow_progress.proofs.Assigned.{Assigned, assigns, written_next, untouched_next, reads_typed}
use Rattle.flow_progress.proofs.Given.{arg_typed, int_arg, text_arg, operand_ref, prints, Message, message_told, effect_is, effect_made, list_value}

-- values that a memory holds have types
module _ (rs : List RecordTree) (typed : ℕ → TypeTree → Type 0) where
  pub some_both : (vs us : List ValueTree) → HaveSome rs typed vs → HaveSome rs typed us → HaveSome rs typed (vs ++ us)
  some_both [] us h k = k
  some_both (v ∷ vs) us h k = (h.0, some_both vs us h.1 k)

  abbrev SomeType : ValueTree → Type 0
  SomeType v = (t : TypeTree) × HasType rs typed v t

  filled_both : (xs ys : List (Option ValueTree)) → HaveSome rs typed (filled xs) → HaveSome rs typed (filled ys) → HaveSome rs typed (filled (xs ++ ys))
  filled_both [] ys h k = k
  filled_both (None ∷ xs) ys h k = filled_both xs ys h k
  filled_both (Some v ∷ xs) ys h k = (h.0, filled_both xs ys h.1 k)

  some_reversed : (os : List (Option ValueTree)) → ((n : ℕ) (v : ValueTree) → flat (slice_get os n) ≡ Some v → SomeType v) → HaveSome rs typed (filled (reversed os))
  some_reversed [] h = tt
  some_reversed (o ∷ os) h = filled_both (reversed os) (o ∷ []) (some_reversed os (λ n v e. h (suc n) v e)) (one o (h zero))
    where
      one : (o : Option ValueTree) → ((v : ValueTree) → o ≡ Some v → SomeType v) → HaveSome rs typed (filled (o ∷ []))
      one None h = tt
      one (Some v) h = (h v refl, tt)

  -- what stands at a place stands at one of the class
  in_class : {A B : Type 0} (xs : List A) (os : List (Option B)) (n : ℕ) (v : B) → length os ≡ length xs → flat (slice_get os n) ≡ Some v → (x : A) × (slice_get xs n ≡ Some x)
  in_class [] [] n v l e = none_some v e
  in_class [] (o ∷ os) n v l e = absurd cc
  in_class (x ∷ xs) [] n v l e = none_some v e
  in_class (x ∷ xs) (o ∷ os) zero v l e = (x, refl)
  in_class (x ∷ xs) (o ∷ os) (suc n) v l e = in_class xs os n v (let f : length os ≡ length xs = omega (arith, l) in f) e

  pub held_some : (c : ClassTree) (m : Memory) (q : Slotted) (v : ValueTree) → HoldsTypes rs typed c m → read m q ≡ Some v → SomeType v
  held_some c m (Slot n) v h e =
      let x = in_class c.slots m.slots n v h.slots e in
      let at : type_at c (Slot n) ≡ Some x.0.ty = ap (option_map (λ (s : SlotTree). s.ty)) x.1 in
      (x.0.ty, h.types (Slot n) x.0.ty v at e)
  held_some c m (Local n) v h e = let x = in_class c.locals m.locals n v h.locals e in (x.0, h.types (Local n) x.0 v x.1 e)

  pub locals_some : (c : ClassTree) (m : Memory) → HoldsTypes rs typed c m → HaveSome rs typed (filled (reversed m.locals))
  locals_some c m h = some_reversed m.locals (λ n v e. held_some c m (Local n) v h e)

  pub everything_some : (c : ClassTree) (m : Memory) → HoldsTypes rs typed c m → HaveSome rs typed (everything m)
  everything_some c m h =
      some_both (filled (reversed m.locals)) (filled (reversed m.slots)) (locals_some c m h) (some_reversed m.slots (λ n v e. held_some c m (Slot n) v h e))

  pub dropped_some : (c : ClassTree) (ns : List ℕ) (m : Memory) → HoldsTypes rs typed c m → HaveSome rs typed (held_in m ns)
  dropped_some c [] m h = tt
  dropped_some c (n ∷ ns) m h =
      some_both (filled (read m (Local n) ∷ [])) (held_in (write m (Local n) None) ns) (one (read m (Local n)) refl)
      (dropped_some c ns (write m (Local n) None) (emptied_holds rs typed c (n ∷ []) m h))
    where
      one : (o : Option ValueTree) → read m (Local n) ≡ o → HaveSome rs typed (filled (o ∷ []))
      one None e = tt
      one (Some v) e = (held_some c m (Local n) v h e, tt)

-- an operand of a group is read before it waits
operand_read : (ks : List CallbackTree) (n : ℕ) (k : CallbackTree) (q : Slotted) → slice_get ks n ≡ Some k → among (expr_places k.operand) q ≡ true → among (operands ks) q ≡ true
operand_read [] n k q e h = none_some k e
operand_read (x ∷ ks) zero k q e h =
    let same : x ≡ k = some_same x k e in
    among_left (expr_places x.operand) (operands ks) q (subst (λ (z : CallbackTree). among (expr_places z.operand) q ≡ true) (sym same) h)
operand_read (x ∷ ks) (suc n) k q e h = among_right (expr_places x.operand) (operands ks) q (operand_read ks n k q e h)

group_read : (o : Option (List CallbackTree)) (n : ℕ) (k : CallbackTree) (q : Slotted) → option_and_then (λ cs. slice_get cs n) o ≡ Some k → among (expr_places k.operand) q ≡ true
    → among (group_reads o) q ≡ true
group_read None n k q e h = none_some k e
group_read (Some ks) n k q e h = operand_read ks n k q e h

-- an effect's arguments are read where it stands
effect_places : (ns : Names) (e : ExprTree) (g : Effectful) (es : ExprTrees) → effect_in ns e ≡ Some (g, es) → (q : Slotted) → among (exprs_places es) q ≡ true → among (expr_places e) q ≡ true
effect_places ns (CallExpr x xs) g es k q a = by_effect (effectful ns x.name) k
  where
    by_effect : (o : Option Effectful) → option_map {U = Effectful × ExprTrees} (λ (z : Effectful). (z, xs)) o ≡ Some (g, es) → among (exprs_places xs) q ≡ true
    by_effect None k = none_some (g, es) k
    by_effect (Some z) k =
        let same : xs ≡ es = ap (λ (y : Effectful × ExprTrees). y.1) (some_same (z, xs) (g, es) k) in
        subst (λ us. among (exprs_places us) q ≡ true) (sym same) a
effect_places ns e g es k q a = none_some (g, es) k

module _ (r : RawTree) (actors : List RoutineTree) (vars : List ParamTree) (typed : ℕ → TypeTree → Type 0) (v : View) (f : Frame)
    (rules : KeepsRules r actors f.code vars) (functions : FunctionsFit r.records r.functions actors) (cells : CellsFit r.records typed v.cells) (s : Stands r.records typed f) where
  abbrev Fit : StepOf Frame → Type 0
  Fit p = AsksFit r vars typed f.code v.kept p

  abbrev Is : ValueTree → TypeTree → Type 0
  Is u t = HasType r.records typed u t

  abbrev now : Setting
  now = setting (class_names r) v

  -- what is read here is filled
  read_here : (q : Slotted) → among (reads f.code (fetch f.code f.block f.instr)) q ≡ true → Filled f.mem q
  read_here q h =
      let t = rules.known f.block f.instr q h in
      read_filled f.code f.mem f.block f.instr rules.filled s.full q t.0 t.1 h

  abbrev Here : Fetched → Type 0
  Here o = fetch f.code f.block f.instr ≡ o

  filled_here : (o : Fetched) → Here o → (q : Slotted) → among (reads f.code o) q ≡ true → Filled f.mem q
  filled_here o here q h = read_here q (subst (λ z. among (reads f.code z) q ≡ true) (sym here) h)

  evaluated_fits : {B : Type 0} (P : B → Type 0) (q : Res B) (go : B → ℕ → StepOf Frame) → Safe P q → ((x : B) (left : ℕ) → P x → Fit (go x left)) → Fit (evaluated f q go)
  evaluated_fits P (Done x left) go h k = k x left h
  evaluated_fits P (Fails e left) go h k = (s, refl)
  evaluated_fits P Spent go h k = (tt, refl)
  evaluated_fits P Meaningless go h k = absurd h

  value_fits : (e : ExprTree) (t : TypeTree) → AllFilled f.mem (expr_places e) → Typed r actors f.code vars e t → Safe (λ u. Is u t) (value (class_names r) v (look f.mem) e)
  value_fits e t full y = value_safe now typed actors f.code vars rules.places f.mem s.holds cells functions e t v.left (readable_by f.mem e full) y

  values_fit : (es : ExprTrees) (ts : List TypeTree) → AllFilled f.mem (exprs_places es) → AllTyped r actors f.code vars es ts
      → Safe (λ us. HaveTypes r.records typed (values_of_list us) ts) (values (class_names r) v (look f.mem) es)
  values_fit es ts full y = values_safe now typed actors f.code vars rules.places f.mem s.holds cells functions es ts v.left (all_readable_by f.mem es full) y.0 y.1

  -- effects
  effects_fit : (goal : Goal) (e : ExprTree) (g : Effectful × ExprTrees) (t : TypeTree) → AllFilled f.mem (exprs_places g.1) → effect_in (class_names r) e ≡ Some g
      → EffectFits r actors f.code vars e t → Wanted r vars typed goal f v.kept t
      → Fit (effects (class_names r) v f goal g)
  effects_fit goal e g t full is k wanted =
      let same : (k.effect, k.args) ≡ g = some_same (k.effect, k.args) g (sym k.is ∙ is) in
      let args : k.args ≡ g.1 = ap (λ (z : Effectful × ExprTrees). z.1) same in
      let eff : k.effect ≡ g.0 = ap (λ (z : Effectful × ExprTrees). z.0) same in
      evaluated_fits (λ us. HaveTypes r.records typed (values_of_list us) k.types) (values (class_names r) v (look f.mem) g.1)
      (λ vs left. given f (effect_of g.0 vs) (λ eff. asks left (Effects goal eff) f))
      (values_fit g.1 k.types full (subst (λ es. AllTyped r actors f.code vars es k.types) args k.typed))
      (λ us left h. let made = effect_made r typed us actors f.code vars k.effect k.types t (λ q w. effect_is (class_names r) e q k.args (k.is ∙ ap (λ z. Some (z, k.args)) w)) k.gives h in
      let there = ap (λ z. effect_of z us) (sym eff) ∙ made.1 in
      subst (λ o. Fit (given f o (λ eff. asks left (Effects goal eff) f))) (sym there) ((s, (t, wanted, made.2)), refl))

  -- call statements
  abbrev CallFit : Act → Type 0
  CallFit act = ActFits r vars typed f.code v.kept act (next_instr f.mem f) × StaysIn r vars typed f.code act (next_instr f.mem f)

  told_fits : (act : Act) → Stands r.records typed (next_instr f.mem f) → Message r.records typed act → CallFit act
  told_fits (Sends k o) n h = ((n, h), refl)
  told_fits (Cancels k) n h = (n, refl)
  told_fits _ n h = absurd h

  plain_fits : (o : Option Predefined) (x : Ident) (ts : List TypeTree) (us : List ValueTree) (left : ℕ) → Stands r.records typed (next_instr f.mem f) → SayFits r actors f.code vars o x ts
      → HaveTypes r.records typed (values_of_list us) ts
      → Safe CallFit (plain_act (class_names r) v (look f.mem) o x.name us left)
  plain_fits (Some code.Trace) x ts us left n h a =
      let args = subst (HaveTypes r.records typed (values_of_list us)) h.1 a in
      ((n, prints r.records typed (arg us 0) h.0 (arg_typed r.records typed us (h.0 ∷ []) 0 h.0 args refl) h.2), refl)
  plain_fits (Some code.SendTo) x ts us left n h a =
      let ps = IntType ∷ IntType ∷ StringType ∷ [] in
      let args = subst (HaveTypes r.records typed (values_of_list us)) h a in
      let p = int_arg r.records typed us ps 0 args refl in
      let q = int_arg r.records typed us ps 1 args refl in
      let t = text_arg r.records typed us ps 2 args refl in
      let there = ap (λ o. bind o (λ p. bind (int_of (arg us 1)) (λ q. bind (text_of (arg us 2)) (λ t. Some (SendsTo p q t))))) p.1
      ∙ ap (λ o. bind o (λ q. bind (text_of (arg us 2)) (λ t. Some (SendsTo p.0 q t)))) q.1 ∙ ap (λ o. bind o (λ t. Some (SendsTo p.0 q.0 t))) t.1 in
      subst (λ o. Safe CallFit (done o left)) (sym there) (n, refl)
  plain_fits None x ts us left n (inl h) a =
      let args = subst (HaveTypes r.records typed (values_of_list us)) (sym h.2) a in
      subst (λ o. Safe CallFit (function_act (class_names r) v (look f.mem) o x.name us left)) (sym h.1)
      (then_good (λ u. Is u h.0.returns) CallFit (Call now h.0 us left) (λ u left. Done Goes left)
      (let at = first_there (λ (g : RoutineTree). bytes_eq g.name.name x.name) r.functions h.0 h.1 in function_good now typed actors cells functions deepest h.0 us left (functions at.0 h.0 at.2) args)
      (λ u left k. (n, refl)))
  plain_fits None x ts us left n (inr w) a =
      subst (λ o. Safe CallFit (function_act (class_names r) v (look f.mem) o x.name us left)) (sym w.no_function)
      (subst (λ o. Safe CallFit (started_act (class_names r) v (look f.mem) o us left)) (sym w.named)
      ((n, (w.class, (w.is, subst (HaveTypes r.records typed (values_of_list us)) (sym w.takes) a), w.is_void)), refl))
  plain_fits (Some p) x ts us left n h a = absurd h

  -- a path is read where its base is filled
  path_read : (x : Ident) (xs : List Ident) (t : TypeTree) → path_type r.records vars (x ∷ xs) ≡ Some t → ((q : Slotted) → place_named x.name ≡ Some q → Filled f.mem q)
      → (w : ValueTree) × (read_in r.records (look f.mem x.name) xs ≡ Some w) × Is w t
  path_read x xs t e full = by_var (param_named vars x.name) refl e
    where
      no_fields : (xs : List Ident) → fields_type r.records None xs ≡ Some t → (w : ValueTree) × (read_in r.records (look f.mem x.name) xs ≡ Some w) × Is w t
      no_fields [] e = none_some t e
      no_fields (y ∷ ys) e = none_some t e

      by_var : (o : Option ParamTree) → param_named vars x.name ≡ o → fields_type r.records (option_map (λ (p : ParamTree). p.ty) o) xs ≡ Some t
          → (w : ValueTree) × (read_in r.records (look f.mem x.name) xs ≡ Some w) × Is w t
      by_var None q e = no_fields xs e
      by_var (Some p) q e =
          let n = rules.places x.name p q in
          let u = full n.0 n.1 in
          let got = reads_typed r.records typed xs t u.0 p.ty (s.holds.types n.0 p.ty u.0 n.2 u.1) e in
          (got.0, ap (λ o. read_in r.records o xs) (ap (λ o. bind o (read f.mem)) n.1 ∙ u.1) ∙ got.1, got.2)

  call_fits : (path : List Ident) (es : ExprTrees) (ts : List TypeTree) → Stands r.records typed (next_instr f.mem f)
      → ((q : Slotted) → among (instr_reads (ActInstr path es)) q ≡ true → Filled f.mem q)
      → AllTyped r actors f.code vars es ts → CallFits r actors f.code vars path ts → change_of path ≡ None → Safe CallFit (call_act (class_names r) v (look f.mem) path es)
  call_fits [] es ts n full y h none = absurd h
  call_fits (x ∷ []) es ts n full y h none =
      then_good (λ us. HaveTypes r.records typed (values_of_list us) ts) CallFit (values (class_names r) v (look f.mem) es)
      (λ vs left. plain_act (class_names r) v (look f.mem) (named call_names x.name) x.name vs left)
      (values_fit es ts full y) (λ us left a. plain_fits (named call_names x.name) x ts us left n h a)
  call_fits (x ∷ (z ∷ zs)) es ts n full y h none =
      let base = listed (place_named x.name) in
      let got = path_read x (before_last z zs) h.0 h.2 (λ q e. full q (among_left base (exprs_places es) q (ap (λ o. among (listed o) q) e ∙ ap (λ b. b || false) (same_self q)))) in
      then_good (λ us. HaveTypes r.records typed (values_of_list us) ts) CallFit (values (class_names r) v (look f.mem) es)
      (λ vs left. based_act (class_names r) v (look f.mem) (read_in r.records (look f.mem x.name) (before_last z zs)) (named method_names (last_of z zs).name) vs left)
      (values_fit es ts (λ q a. full q (among_right base (exprs_places es) q a)) y)
      (λ us left a. let told = message_told r.records typed h.1 h.0 ts got.0 us (sym (ap change_by h.3) ∙ none) got.2 h.4 a in
      subst (λ o. Safe CallFit (based_act (class_names r) v (look f.mem) o (named method_names (last_of z zs).name) us left)) (sym got.1)
      (subst (λ o. Safe CallFit (based_act (class_names r) v (look f.mem) (Some got.0) o us left)) (sym h.3)
      (subst (λ o. Safe CallFit (done o left)) (sym told.1) (told_fits told.0 n told.2))))

  abbrev pub InstrOk : InstrTree → Type 0
  InstrOk i = InstrFits r actors f.code vars i

  -- what is assigned leads to the next instruction
  assigned_fits : (i : InstrTree) (path : List Ident) (t : TypeTree) (u : ValueTree) (left : ℕ) → Here (Body i) → path_type r.records vars path ≡ Some t → Is u t
      → ((q : Slotted) → among (base_place path) q ≡ true → Filled f.mem q) → ((a : Assigned r.records typed f.code f.mem path u) (q : Slotted) → among (instr_fills i) q ≡ true → q ≡ a.place)
      → Fit (given f (assign r.records f.mem path u) (placed (class_names r) v f left))
  assigned_fits i path t u left here e k full only =
      let a = assigns r.records typed f.code vars rules.places f.mem s.holds path t u e k full in
      subst (λ o. Fit (given f o (placed (class_names r) v f left))) (sym a.is)
      ((written_next r.records typed f i a.place a.type a.value s here a.at a.fits (only a), a.dropped), refl)

  among_one : (p q : Slotted) → among (p ∷ []) q ≡ true → q ≡ p
  among_one p q h = place_eq q p (first (same_place q p) h)
    where
      first : (b : Bool) → b || false ≡ true → b ≡ true
      first true h = refl
      first false h = h

  -- and what a call statement changes in place does
  put_fits : (i : InstrTree) (path : List Ident) (t : TypeTree) (u : ValueTree) (ds : List ValueTree) (left : ℕ) → Here (Body i) → path_type r.records vars path ≡ Some t → Is u t
      → HaveSome r.records typed ds → ((q : Slotted) → among (base_place path) q ≡ true → Filled f.mem q)
      → ((a : Assigned r.records typed f.code f.mem path u) (q : Slotted) → among (instr_fills i) q ≡ true → q ≡ a.place)
      → Fit (given f (put_path (class_names r) v f path u) (λ g. asks left (Drops ds) g))
  put_fits i path t u ds left here e k some full only =
      let a = assigns r.records typed f.code vars rules.places f.mem s.holds path t u e k full in
      subst (λ o. Fit (given f (option_map (λ (p : List ValueTree × Memory). next_instr p.1 f) o) (λ g. asks left (Drops ds) g))) (sym a.is)
      ((written_next r.records typed f i a.place a.type a.value s here a.at a.fits (only a), some), refl)

  -- a new cell, or an empty vector
  made_fits : (p : Slotted) (t u : TypeTree) (kd : Kind) → Here (Body (NewInstr p)) → type_at f.code p ≡ Some t → promise_kind t ≡ Some kd → t ≡ reference_type kd u
      → Fit (new_by (class_names r) v f p t (promise_kind t))
  made_fits p t u kd here at kinds e =
      subst (λ o. Fit (new_by (class_names r) v f p t o)) (sym kinds) ((s, (t, subst (λ o. Stores r f.code vars o t) (sym here) at, (u, e))), refl)

  new_fits : (p : Slotted) (t u : TypeTree) → Here (Body (NewInstr p)) → type_at f.code p ≡ Some t → (t ≡ PromiseType u) ⊎ ((t ≡ PromiseStreamType u) ⊎ (t ≡ VectorType u))
      → Fit (new_by (class_names r) v f p t (promise_kind t))
  new_fits p t u here at (inl e) = made_fits p t u kind.Promise here at (ap promise_kind e) e
  new_fits p t u here at (inr (inl e)) = made_fits p t u kind.PromiseStream here at (ap promise_kind e) e
  new_fits p t u here at (inr (inr e)) =
      let empty = CompositeValue ListWhole NoValues in
      let has : Is empty t = subst (Is empty) (sym e) ([], (u, refl, tt), refl) in
      subst (λ o. Fit (new_by (class_names r) v f p t o)) (sym (ap promise_kind e))
      (subst (λ o. Fit (given f o (λ w. given f (put_at r.records f.mem p [] w) (placed (class_names r) v f v.left)))) (sym (ap default_value e))
      ((written_next r.records typed f (NewInstr p) p t empty s here at has (among_one p), old_some (read f.mem p) refl), refl))
    where
      old_some : (o : Option ValueTree) → read f.mem p ≡ o → HaveSome r.records typed (filled (o ∷ []))
      old_some None q = tt
      old_some (Some w) q = (held_some r.records typed f.code f.mem p w s.holds q, tt)

  -- how a call statement changes a vector
  abbrev Changed : TypeTree → Storing → Type 0
  Changed t st = Is st.0 t × HaveSome r.records typed st.1

  grown_fits : (room : Bool) (es : ValueTrees) (w : ValueTree) (u : TypeTree) (ts : List TypeTree) (left : ℕ) → AllAre u ts → HaveTypes r.records typed es ts → Is w u
      → Safe (Changed (VectorType u)) (grown_by room es w left)
  grown_fits true es w u ts left all have is = ((ts ++ u ∷ [], (u, refl, more_are u ts all), more_have es w u ts have is), tt)
    where
      more_are : (u : TypeTree) (ts : List TypeTree) → AllAre u ts → AllAre u (ts ++ u ∷ [])
      more_are u [] a = (refl, tt)
      more_are u (t ∷ ts) a = (a.0, more_are u ts a.1)

      more_have : (es : ValueTrees) (w : ValueTree) (u : TypeTree) (ts : List TypeTree) → HaveTypes r.records typed es ts → Is w u → HaveTypes r.records typed (with_last es w) (ts ++ u ∷ [])
      more_have NoValues w u ts h k = (u, [], ap (λ l. l ++ u ∷ []) h, k, refl)
      more_have (MoreValues e es) w u ts h k = (h.0, h.1 ++ u ∷ [], ap (λ l. l ++ u ∷ []) h.2, h.3, more_have es w u h.1 h.4 k)
  grown_fits false es w u ts left all have is = tt

  vector_fits : (how : Change) (m : Method) (t : TypeTree) (ts : List TypeTree) (us : List ValueTree) (w : ValueTree) (left : ℕ) → change_by (Some m) ≡ Some how → MessageFits m t ts → Is w t
      → HaveTypes r.records typed (values_of_list us) ts → Safe (Changed t) (changed how us (Some w) left)
  vector_fits Grows method.PushBack (VectorType u) ts us w left e f h a =
      let k = list_value r.records typed w u h in
      let x = subst (HaveTypes r.records typed (values_of_list us)) f a in
      subst (λ z. Safe (Changed (VectorType u)) (changed Grows us (Some z) left)) (sym k.is)
      (grown_fits (nat_lt (count_of k.parts) ELEMENTS) k.parts (arg us 0) u k.types left k.all k.have (arg_typed r.records typed us (u ∷ []) 0 u x refl))
  vector_fits Clears method.Clear (VectorType u) ts us w left e f h a =
      let k = list_value r.records typed w u h in
      subst (λ z. Safe (Changed (VectorType u)) (changed Clears us (Some z) left)) (sym k.is)
      (([], (u, refl, tt), refl), ((VectorType u, (k.types, (u, refl, k.all), k.have)), tt))
  vector_fits Clears method.PushBack t ts us w left e f h a = absurd cc
  vector_fits Grows method.PushBack t ts us w left e f h a = absurd f
  vector_fits Grows method.Clear t ts us w left e f h a = absurd cc
  vector_fits Clears method.Clear t ts us w left e f h a = absurd f
  vector_fits how m t ts us w left e f h a = absurd cc

  statement_fits : (path : List Ident) (es : ExprTrees) → Here (Body (ActInstr path es)) → InstrOk (ActInstr path es) → (o : Option Change) → change_of path ≡ o
      → Fit (call_by (class_names r) v (look f.mem) o f (next_instr f.mem f) (put_path (class_names r) v f) path es)
  statement_fits path es here h None none =
      let n = untouched_next r.records typed f (ActInstr path es) s here (λ p a. no_fill a) in
      evaluated_fits CallFit (call_act (class_names r) v (look f.mem) path es) (λ act left. asks left act (next_instr f.mem f))
      (call_fits path es h.0 n (λ q a. filled_here (Body (ActInstr path es)) here q a) h.1 h.2 none) (λ act left k. k)
    where
      no_fill : false ≡ true → ⊥
      no_fill h = cc
  statement_fits [] es here h (Some how) some = absurd h.2
  statement_fits (x ∷ []) es here h (Some how) some = absurd cc
  statement_fits (x ∷ (z ∷ zs)) es here h (Some how) some =
      let c = h.2 in
      let bs = before_last z zs in
      let base = listed (place_named x.name) in
      let full : (q : Slotted) → among (instr_reads (ActInstr (x ∷ (z ∷ zs)) es)) q ≡ true → Filled f.mem q = (λ q a. filled_here (Body (ActInstr (x ∷ (z ∷ zs)) es)) here q a) in
      let based : (q : Slotted) → place_named x.name ≡ Some q → Filled f.mem q =
      (λ q e. full q (among_left base (exprs_places es) q (ap (λ o. among (listed o) q) e ∙ ap (λ b. b || false) (same_self q)))) in
      let got = path_read x bs c.0 c.2 based in
      evaluated_fits (Changed c.0) (storing (class_names r) v (look f.mem) how (x ∷ bs) es)
      (λ st left. given f (put_path (class_names r) v f (x ∷ bs) st.0) (λ g. asks left (Drops st.1) g))
      (then_good (λ us. HaveTypes r.records typed (values_of_list us) h.0) (Changed c.0) (values (class_names r) v (look f.mem) es)
      (λ vs left. changed how vs (read_in r.records (look f.mem x.name) bs) left)
      (values_fit es h.0 (λ q a. full q (among_right base (exprs_places es) q a)) h.1)
      (λ us left a. subst (λ o. Safe (Changed c.0) (changed how us o left)) (sym got.1)
      (vector_fits how c.1 c.0 h.0 us got.0 left (sym (ap change_by c.3) ∙ some) c.4 got.2 a)))
      (λ st left k. put_fits (ActInstr (x ∷ (z ∷ zs)) es) (x ∷ bs) c.0 st.0 st.1 left here c.2 k.0 k.1 (λ q a. based_place x bs q based a) (λ a q b. no_fill b))
    where
      no_fill : {X : Type 0} → false ≡ true → X
      no_fill h = absurd cc

      based_place : (x : Ident) (bs : List Ident) (q : Slotted) → ((q : Slotted) → place_named x.name ≡ Some q → Filled f.mem q) → among (base_place (x ∷ bs)) q ≡ true → Filled f.mem q
      based_place x [] q h a = no_fill a
      based_place x (y ∷ ys) q h a = by_place (place_named x.name) refl a
        where
          by_place : (o : Option Slotted) → place_named x.name ≡ o → among (listed o) q ≡ true → Filled f.mem q
          by_place None e a = no_fill a
          by_place (Some p) e a = subst (Filled f.mem) (sym (among_one p q a)) (h p e)

  instruction_fits : (i : InstrTree) → Here (Body i) → InstrOk i → Fit (instruction (class_names r) v f i)
  instruction_fits (SetInstr path e) here h =
      evaluated_fits (λ u. Is u h.0) (value (class_names r) v (look f.mem) e) (λ u left. given f (assign r.records f.mem path u) (placed (class_names r) v f left))
      (value_fits e h.0 (λ q a. filled_here (Body (SetInstr path e)) here q (among_right (base_place path) (expr_places e) q a)) h.2)
      (λ u left k. assigned_fits (SetInstr path e) path h.0 u left here h.1 k (λ q a. filled_here (Body (SetInstr path e)) here q (among_left (base_place path) (expr_places e) q a)) (λ a. a.fills))
  instruction_fits (EffectInstr path e) here h =
      let k = h.2 in
      subst (λ o. Fit (given f o (effects (class_names r) v f Stored))) (sym k.is)
      (effects_fit Stored e (k.effect, k.args) h.0
      (λ q a. filled_here (Body (EffectInstr path e)) here q (among_right (base_place path) (expr_places e) q (effect_places (class_names r) e k.effect k.args k.is q a))) k.is k
      (subst (λ o. Stores r f.code vars o h.0) (sym here) h.1))
  instruction_fits (NewInstr p) here h =
      subst (λ o. Fit (given f o (λ t. new_by (class_names r) v f p t (promise_kind t)))) (sym h.1) (new_fits p h.0 h.2.0 here h.1 h.2.1)
  instruction_fits (ActInstr path es) here h = statement_fits path es here h (change_of path) refl
  instruction_fits (DropInstr ns) here h = ((stood, dropped_some r.records typed f.code ns f.mem s.holds), refl)
    where
      no_fill : {X : Type 0} → false ≡ true → X
      no_fill h = absurd cc

      stood : Stands r.records typed (next_instr (emptied ns f.mem) f)
      stood = record {
        there = next_there f.code f.block f.instr (DropInstr ns) here;
        reached = reached_next f.code f.block f.instr (DropInstr ns) here s.reached;
        full = full_next f.code f.mem (emptied ns f.mem) f.block f.instr (DropInstr ns) here s.reached s.full (λ p t e k. no_fill k) (λ p a e k. (k.0, emptied_other ns f.mem p e ∙ k.1));
        holds = emptied_holds r.records typed f.code ns f.mem s.holds;
      }

  -- last instructions
  jumped : (l : LastTree) (to : ℕ) → Here (Last l) → Contains (targets l) to → (fetch f.code to 0 ≡ Nothing → ⊥) → Stands r.records typed (go to f.mem f)
  jumped l to here in_targets there = record {
    there = there;
    reached = reached_jump f.code f.block f.instr to l here in_targets s.reached;
    full = full_jump f.code f.mem f.block f.instr to l here in_targets s.full;
    holds = s.holds;
  }

  test_fits : (left : ℕ) (u : ValueTree) (x y : ℕ) → Is u BoolType → Stands r.records typed (go x f.mem f) → Stands r.records typed (go y f.mem f) → Fit (test (class_names r) v f left (bool_of u) x y)
  test_fits left u x y h a b =
      let k = is_bool_value r.records typed u h in
      subst (λ z. Fit (test (class_names r) v f left (bool_of z) x y)) (sym k.1) (by_truth k.0)
    where
      by_truth : (t : Bool) → Fit (test (class_names r) v f left (Some t) x y)
      by_truth true = (a, refl)
      by_truth false = (b, refl)

  asked_operand : (left : ℕ) (spot : Spot) (u : ValueTree) (t : TypeTree) (q : Kind × ℕ) → u ≡ RefValue q.0 q.1 → NextOperand f v.kept t → Is u t → Fit (asks_operand (class_names r) v f left spot u)
  asked_operand left spot u t q e next k =
      subst (λ z. Fit (asks_operand (class_names r) v f left spot z)) (sym e) ((s, (t, next, subst (λ z. Is z t) e k)), refl)

  operand_fits : (g : ℕ) (k : CallbackTree) (o : Option (Effectful × ExprTrees)) → Here (Last (ChooseLast g)) → callback_at f.code g v.kept ≡ Some k → BranchFits r actors f.code vars k
      → effect_in (class_names r) k.operand ≡ o
      → Fit (operand_by (class_names r) v f (spot_of f.code g) k.operand o)
  operand_fits g k o here at b q = by_effect o q
    where
      next : NextOperand f v.kept (operand_type k.next b.takes)
      next = record { group = g; callback = k; takes = b.takes; there = here; next = at; into = b.into; type = refl }

      full : (q : Slotted) → among (expr_places k.operand) q ≡ true → Filled f.mem q
      full q a = filled_here (Last (ChooseLast g)) here q (group_read (group_at f.code.groups g) v.kept k q at a)

      by_effect : (o : Option (Effectful × ExprTrees)) → effect_in (class_names r) k.operand ≡ o → Fit (operand_by (class_names r) v f (spot_of f.code g) k.operand o)
      by_effect (Some x) q =
          effects_fit (Kept (spot_of f.code g)) k.operand x (operand_type k.next b.takes) (λ z a. full z (effect_places (class_names r) k.operand x.0 x.1 q z a)) q (b.effects x q) next
      by_effect None q =
          evaluated_fits (λ u. Is u (operand_type k.next b.takes)) (value (class_names r) v (look f.mem) k.operand) (λ u left. asks_operand (class_names r) v f left (spot_of f.code g) u)
          (value_fits k.operand (operand_type k.next b.takes) full (b.value q))
          (λ u left h. let z = operand_ref r.records typed k.next u b.takes h in asked_operand left (spot_of f.code g) u (operand_type k.next b.takes) z.0 z.1 next h)

  choose_fits : (g : ℕ) (o : Option CallbackTree) → Here (Last (ChooseLast g)) → callback_at f.code g v.kept ≡ o → LastFits r actors f.code vars (ChooseLast g)
      → Fit (choose (class_names r) v f (spot_of f.code g) o)
  choose_fits g (Some k) here at h = operand_fits g k (effect_in (class_names r) k.operand) here at (h v.kept k at) refl
  choose_fits g None here at h = ((waiting, locals_some r.records typed f.code f.mem s.holds, all_kept), refl)
    where
      waiting : StandsWaiting r.records typed (record (lose f).1 { state = g })
      waiting = record {
        group = g;
        there = here;
        reached = s.reached;
        full = λ n t e never. s.full (Slot n) t e never;
        lost = λ n. blank_at f.mem.locals n;
        holds = lost_holds r.records typed f.code f.mem s.holds;
      }

      same_group : (h : ℕ) → Last (ChooseLast g) ≡ Last (ChooseLast h) → g ≡ h
      same_group h e = cc

      all_kept : (h : ℕ) → fetch f.code f.block f.instr ≡ Last (ChooseLast h) → callback_at f.code h v.kept ≡ None
      all_kept h e = subst (λ z. callback_at f.code z v.kept ≡ None) (same_group h (sym here ∙ e)) at

  last_fits : (l : LastTree) → Here (Last l) → LastFits r actors f.code vars l → Fit (last (class_names r) v f l)
  last_fits (GotoLast b) here h = (jumped (GotoLast b) b here (0, omega arith, refl) h, refl)
  last_fits (PassLast b) here h = (jumped (PassLast b) b here (0, omega arith, refl) h, refl)
  last_fits (TestLast e x y) here h =
      evaluated_fits (λ u. Is u BoolType) (value (class_names r) v (look f.mem) e) (λ u left. test (class_names r) v f left (bool_of u) x y)
      (value_fits e BoolType (filled_here (Last (TestLast e x y)) here) h.0)
      (λ u left k. test_fits left u x y k (jumped (TestLast e x y) x here (0, omega arith, refl) h.1) (jumped (TestLast e x y) y here (1, omega arith, refl) h.2))
  last_fits (ChooseLast g) here h = choose_fits g (callback_at f.code g v.kept) here refl h
  last_fits (ReturnLast None) here h = ((nothing_is f.code.returns h, everything_some r.records typed f.code f.mem s.holds, refl), tt)
    where
      nothing_is : (t : TypeTree) → is_nothing t ≡ true → end_type t ≡ VoidType
      nothing_is NothingType e = refl
      nothing_is t e = absurd cc
  last_fits (ReturnLast (Some e)) here h =
      evaluated_fits (λ u. Is u f.code.returns) (value (class_names r) v (look f.mem) e) (λ u left. asks left (Returns u (everything f.mem)) over)
      (value_fits e f.code.returns (filled_here (Last (ReturnLast (Some e))) here) h)
      (λ u left k. ((end_typed u f.code.returns k, everything_some r.records typed f.code f.mem s.holds, refl), tt))
    where
      end_typed : (u : ValueTree) (t : TypeTree) → Is u t → Is u (end_type t)
      end_typed (IntValue n) NothingType h = absurd cc
      end_typed (BoolValue b) NothingType h = absurd cc
      end_typed (TextValue b) NothingType h = absurd cc
      end_typed VoidValue NothingType h = absurd cc
      end_typed (ErrorValue n) NothingType h = absurd cc
      end_typed (CompositeValue (RecordWhole i) vs) NothingType h = let e = h.1.named in absurd cc
      end_typed (CompositeValue ListWhole vs) NothingType h = let e = h.1.1 in absurd cc
      end_typed (RefValue kind.Promise n) NothingType h = let e = h.1 in absurd cc
      end_typed (RefValue kind.Future n) NothingType h = let e = h.1 in absurd cc
      end_typed (RefValue kind.PromiseStream n) NothingType h = let e = h.1 in absurd cc
      end_typed (RefValue kind.FutureStream n) NothingType h = let e = h.1 in absurd cc
      end_typed u t h = h
  last_fits (ThrowLast e) here h =
      evaluated_fits (λ u. Is u ErrorType) (value (class_names r) v (look f.mem) e) (λ u left. throw_value (class_names r) v f left (error_of u))
      (value_fits e ErrorType (filled_here (Last (ThrowLast e)) here) h)
      (λ u left k. let n = is_error_value r.records typed u k in subst (λ z. Fit (throw_value (class_names r) v f left (error_of z))) (sym n.1) (s, refl))

  fetched_fits : (o : Fetched) → Here o → Fit (fetched (class_names r) v f o)
  fetched_fits (Body i) here = instruction_fits i here (rules.instructions f.block f.instr i here)
  fetched_fits (Last l) here = last_fits l here (rules.lasts f.block f.instr l here)
  fetched_fits Nothing here = absurd (s.there here)

  pub next_fits : Fit (next_step (class_names r) v f)
  next_fits = fetched_fits (fetch f.code f.block f.instr) refl
