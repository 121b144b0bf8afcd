-- Each step of a frame leaves less ahead of it, or asks for what takes a turn.
use Rattle.std.proofs.Common.{◌≡◌, ℕ, suc, ◌+◌, ◌<◌, ◌≤◌, Bool, true, false, List, [], ◌∷◌, refl, sym, subst, arith}
use Rattle.std.specs.declared.option.Option.{Option}
use Rattle.std.specs.declared.option.Option.TheVariants.{None, Some}
use Rattle.std.specs.Prelude.{nat_lt, position, option_map}
use Rattle.std.specs.Str.{bytes_eq}
use Rattle.flow_ast.specs.declared.predefined.Predefined.{Predefined}
use Rattle.flow_ast.specs.declared.predefined.Predefined.TheVariants as code
use Rattle.flow_ast.specs.declared.predefined.Method.{Method}
use Rattle.flow_ast.specs.Typing.{routine_named}
use Rattle.flow_ast.specs.TypingNames.{named, call_names, method_names}
use Rattle.flow_tree.specs.declared.ty.Ident.{Ident}
use Rattle.flow_tree.specs.Tree.{ExprTree, ExprTrees, TypeTree, returned_expr}
use Rattle.flow_tree.specs.Decls.{RoutineTree}
use Rattle.flow_tree.specs.declared.limits.TheConstants.{ELEMENTS}
use Rattle.flow_value.specs.Values.{ValueTree, RefValue, CompositeValue, ListWhole, count_of}
use Rattle.flow_value.specs.declared.value.Kind.{Kind}
use Rattle.flow_eval.specs.Eval.{Res, Done, Fails, Spent, Meaningless}
use Rattle.flow_eval.specs.Answers.{int_of, text_of, bool_of, error_of, arg}
use Rattle.flow_eval.specs.Functions.{Call, read_in, default_value}
use Rattle.flow_class.specs.Classes.{InstrTree, SetInstr, EffectInstr, NewInstr, ActInstr, DropInstr, LastTree, GotoLast, PassLast, TestLast, ChooseLast, ReturnLast, ThrowLast, CallbackTree}
use Rattle.flow_class.specs.Code.{type_at, Fetched, Body, Last, Nothing, fetch, callback_at}
use Rattle.flow_class.specs.declared.class.Slotted.{Slotted}
use Rattle.flow_valid.specs.Validity.{leads_forward}
use Rattle.flow_meaning.specs.Requests.{Act, Goes, Effects, Sends, Cancels, Prints, SendsTo, Returns, Spot, Make, Goal, Stored, Kept, Drops, Starts}
use Rattle.flow_meaning.specs.Process.{View}
use Rattle.flow_meaning.specs.Evaluating.{Names, Look, setting, bind, StepOf, asks, given, evaluated, Effectful, effect_in, effect_of, method_act, done, before_last, last_of, value, values, function_act, plain_act, based_act, call_act, started_act, Change, Grows, Clears, changed, grown_by, change_of, base_of, storing, call_by}
use Rattle.flow_meaning.specs.Frame.{Frame, look, assign, spot_of, next_instr, over, put_at, Memory}
use Rattle.flow_meaning.specs.Class.{promise_kind, placed, effects, instruction, test, operand_ref, operand_by, choose, throw_value, last, fetched, next_step, new_by, put_path}
use Rattle.flow_progress.proofs.FewerTurns.{AtMost, then_fewer, whole_fewer, all_fewer, call_fewer_whole}
use Rattle.flow_progress.proofs.Calls.{IsCalled, Comes, act_called}
use Rattle.flow_progress.proofs.Ahead.{behind, ahead, ahead_behind, ahead_next, ahead_kept, ahead_jump, Leads, leads_at}
use Rattle.flow_progress.proofs.Weights.{stored_room}
use Rattle.flow_progress.proofs.Reacts.{goal_room, Room}

-- a call statement leaves no more turns than it has
done_fewer : (n : ℕ) (o : Option Act) (left : ℕ) → left ≤ n → AtMost n (done o left)
done_fewer n None left h = tt
done_fewer n (Some act) left h = h

module _ (ns : Names) (v : View) (look : Look) where
  started_fewer : (o : Option ℕ) (vs : List ValueTree) (left : ℕ) → left ≤ v.left → AtMost v.left (started_act ns v look o vs left)
  started_fewer None vs left h = tt
  started_fewer (Some k) vs left h = h

  function_act_fewer : (o : Option RoutineTree) (f : List ℕ) (vs : List ValueTree) (left : ℕ) → left ≤ v.left → AtMost v.left (function_act ns v look o f vs left)
  function_act_fewer None f vs left h = started_fewer (position (bytes_eq f) ns.actors) vs left h
  function_act_fewer (Some g) f vs left h =
      then_fewer v.left (Call (setting ns v) g vs left) (λ u left. Done Goes left) (call_fewer_whole v.left (setting ns v) g vs left h) (λ u left le. le)

  plain_fewer : (o : Option Predefined) (f : List ℕ) (vs : List ValueTree) (left : ℕ) → left ≤ v.left → AtMost v.left (plain_act ns v look o f vs left)
  plain_fewer (Some code.Trace) f vs left h = h
  plain_fewer (Some code.SendTo) f vs left h =
      done_fewer v.left (bind (int_of (arg vs 0)) (λ q. bind (int_of (arg vs 1)) (λ port. bind (text_of (arg vs 2)) (λ text. Some (SendsTo q port text))))) left h
  plain_fewer (Some p) f vs left h = tt
  plain_fewer None f vs left h = function_act_fewer (routine_named ns.functions f) f vs left h

  based_fewer : (u : Option ValueTree) (m : Option Method) (vs : List ValueTree) (left : ℕ) → left ≤ v.left → AtMost v.left (based_act ns v look u m vs left)
  based_fewer (Some u) (Some m) vs left h = done_fewer v.left (method_act m u vs) left h
  based_fewer (Some u) None vs left h = tt
  based_fewer None (Some m) vs left h = tt
  based_fewer None None vs left h = tt

  act_fewer : (xs : List Ident) (es : ExprTrees) → AtMost v.left (call_act ns v look xs es)
  act_fewer [] es = tt
  act_fewer (f ∷ []) es =
      then_fewer v.left (values ns v look es) (λ vs left. plain_act ns v look (named call_names f.name) f.name vs left) (all_fewer (setting ns v) look es v.left)
      (λ vs left le. plain_fewer (named call_names f.name) f.name vs left le)
  act_fewer (x ∷ y ∷ ys) es =
      then_fewer v.left (values ns v look es) (λ vs left. based_act ns v look (read_in ns.records (look x.name) (before_last y ys)) (named method_names (last_of y ys).name) vs left)
      (all_fewer (setting ns v) look es v.left)
      (λ vs left le. based_fewer (read_in ns.records (look x.name) (before_last y ys)) (named method_names (last_of y ys).name) vs left le)

-- neither does a change of a vector
changed_fewer : (n : ℕ) (how : Change) (vs : List ValueTree) (o : Option ValueTree) (left : ℕ) → left ≤ n → AtMost n (changed how vs o left)
changed_fewer n Grows vs (Some (CompositeValue ListWhole es)) left h = by_room (nat_lt (count_of es) ELEMENTS)
  where
    by_room : (b : Bool) → AtMost n (grown_by b es (arg vs 0) left)
    by_room true = h
    by_room false = h
changed_fewer n Clears vs (Some (CompositeValue ListWhole es)) left h = h
changed_fewer n how vs o left h = tt

storing_fewer : (ns : Names) (v : View) (look : Look) (how : Change) (xs : List Ident) (es : ExprTrees) → AtMost v.left (storing ns v look how xs es)
storing_fewer ns v look how [] es = tt
storing_fewer ns v look how (x ∷ xs) es =
    then_fewer v.left (values ns v look es) (λ vs left. changed how vs (read_in ns.records (look x.name) xs) left) (all_fewer (setting ns v) look es v.left)
    (λ vs left le. changed_fewer v.left how vs (read_in ns.records (look x.name) xs) left le)

module _ (v : View) (f : Frame) where
  -- what is ahead of the frame
  abbrev now : ℕ
  now = ahead f.code f.block f.instr v.kept

  abbrev pub Leaves : StepOf Frame → Type 0
  Leaves (None, g) = ahead g.code g.block g.instr v.kept < ahead f.code f.block f.instr v.kept
  Leaves (Some ask, g) = (ask.left ≤ v.left) × Room ask.act g v.kept (ahead f.code f.block f.instr v.kept)

  given_leaves : {B : Type 0} (o : Option B) (go : B → StepOf Frame) → ((x : B) → Leaves (go x)) → Leaves (given f o go)
  given_leaves None go h = (omega arith, tt)
  given_leaves (Some x) go h = h x

  evaluated_leaves : {B : Type 0} (P : B → Type 0) (q : Res B) (go : B → ℕ → StepOf Frame) → behind f.code f.block + 6 ≤ now → AtMost v.left q → Comes P q
      → ((x : B) (left : ℕ) → left ≤ v.left → P x → Leaves (go x left)) → Leaves (evaluated f q go)
  evaluated_leaves P (Done x left) go b le c h = h x left le c
  evaluated_leaves P (Fails e left) go b le c h = (le, omega (arith, b))
  evaluated_leaves P Spent go b le c h = (omega arith, tt)
  evaluated_leaves P Meaningless go b le c h = (omega arith, tt)

  always : {B : Type 0} (q : Res B) → Comes (λ x. Unit {0}) q
  always (Done x left) = tt
  always (Fails e left) = tt
  always Spent = tt
  always Meaningless = tt

  valued_leaves : {B : Type 0} (q : Res B) (go : B → ℕ → StepOf Frame) → behind f.code f.block + 6 ≤ now → AtMost v.left q → ((x : B) (left : ℕ) → left ≤ v.left → Leaves (go x left))
      → Leaves (evaluated f q go)
  valued_leaves q go b le h = evaluated_leaves (λ x. Unit {0}) q go b le (always q) (λ x left le u. h x left le)

  module _ (ns : Names) (forward : leads_forward f.code ≡ true) where
    value_fewer : (e : ExprTree) → AtMost v.left (value ns v (look f.mem) e)
    value_fewer e = whole_fewer (setting ns v) (look f.mem) e v.left

    effects_leaves : (goal : Goal) (g : Effectful × ExprTrees) → behind f.code f.block + 6 ≤ now → goal_room goal f v.kept < now → Leaves (effects ns v f goal g)
    effects_leaves goal g b room =
        valued_leaves (values ns v (look f.mem) g.1) (λ vs left. given f (effect_of g.0 vs) (λ eff. asks left (Effects goal eff) f)) b (all_fewer (setting ns v) (look f.mem) g.1 v.left)
        (λ vs left le. given_leaves (effect_of g.0 vs) (λ eff. asks left (Effects goal eff) f) (λ eff. (le, (room, omega (arith, b)))))

    act_leaves : (left : ℕ) (act : Act) → left ≤ v.left → IsCalled act → behind f.code f.block + 6 ≤ now → ahead f.code f.block (suc f.instr) v.kept < now → Leaves (asks left act (next_instr f.mem f))
    act_leaves left Goes le h b a = (le, a)
    act_leaves left (Sends k o) le h b a = (le, omega (arith, b))
    act_leaves left (Cancels k) le h b a = (le, a)
    act_leaves left (Prints u) le h b a = (le, a)
    act_leaves left (SendsTo q port text) le h b a = (le, (a, omega (arith, b)))
    act_leaves left (Starts class args) le h b a = (le, tt)
    act_leaves left _ le h b a = absurd h

    -- at an instruction the result of its effect leads to the next one
    result_room : (i : InstrTree) → fetch f.code f.block f.instr ≡ Body i → ahead f.code f.block (suc f.instr) v.kept + 2 ≤ now → goal_room Stored f v.kept < now
    result_room i q a = subst (λ o. 1 + stored_room o f v.kept < now) (sym q) (omega (arith, a))

    new_leaves : (p : Slotted) (t : TypeTree) (o : Option Kind) → fetch f.code f.block f.instr ≡ Body (NewInstr p) → behind f.code f.block + 6 ≤ now
        → ahead f.code f.block (suc f.instr) v.kept + 2 ≤ now → Leaves (new_by ns v f p t o)
    new_leaves p t (Some k) q b a = (omega arith, (result_room (NewInstr p) q a, omega (arith, b)))
    new_leaves p t None q b a = given_leaves (default_value t) (λ u. given f (put_at ns.records f.mem p [] u) (placed ns v f v.left))
        (λ u. given_leaves (put_at ns.records f.mem p [] u) (placed ns v f v.left) (λ p. (omega arith, omega (arith, a))))

    statement_leaves : (path : List Ident) (es : ExprTrees) → behind f.code f.block + 6 ≤ now → ahead f.code f.block (suc f.instr) v.kept + 2 ≤ now → (o : Option Change)
        → Leaves (call_by ns v (look f.mem) o f (next_instr f.mem f) (put_path ns v f) path es)
    statement_leaves path es b a None =
        evaluated_leaves IsCalled (call_act ns v (look f.mem) path es) (λ act left. asks left act (next_instr f.mem f)) b (act_fewer ns v (look f.mem) path es)
        (act_called ns v (look f.mem) path es) asked
      where
        asked : (act : Act) (left : ℕ) → left ≤ v.left → IsCalled act → Leaves (asks left act (next_instr f.mem f))
        asked act left le h = act_leaves left act le h b (omega (arith, a))
    statement_leaves path es b a (Some how) =
        valued_leaves (storing ns v (look f.mem) how (base_of path) es) (λ s left. given f (put_path ns v f (base_of path) s.0) (λ g. asks left (Drops s.1) g)) b
        (storing_fewer ns v (look f.mem) how (base_of path) es)
        (λ s left le. path_leaves left s.1 le (assign ns.records f.mem (base_of path) s.0))
      where
        path_leaves : (left : ℕ) (ds : List ValueTree) → left ≤ v.left → (o : Option (List ValueTree × Memory))
            → Leaves (given f (option_map (λ (p : List ValueTree × Memory). next_instr p.1 f) o) (λ g. asks left (Drops ds) g))
        path_leaves left ds le None = (omega arith, tt)
        path_leaves left ds le (Some p) = (le, omega (arith, a))

    instruction_leaves : (i : InstrTree) → fetch f.code f.block f.instr ≡ Body i → behind f.code f.block + 6 ≤ now → ahead f.code f.block (suc f.instr) v.kept + 2 ≤ now → Leaves (instruction ns v f i)
    instruction_leaves (SetInstr path e) q b a =
        valued_leaves (value ns v (look f.mem) e) (λ u left. given f (assign ns.records f.mem path u) (placed ns v f left)) b (value_fewer e)
        (λ u left le. given_leaves (assign ns.records f.mem path u) (placed ns v f left) (λ p. (le, omega (arith, a))))
    instruction_leaves (EffectInstr path e) q b a = given_leaves (effect_in ns e) (effects ns v f Stored) (λ g. effects_leaves Stored g b (result_room (EffectInstr path e) q a))
    instruction_leaves (NewInstr p) q b a =
        given_leaves (type_at f.code p) (λ t. new_by ns v f p t (promise_kind t)) (λ t. new_leaves p t (promise_kind t) q b a)
    instruction_leaves (ActInstr path es) q b a = statement_leaves path es b a (change_of path)
    instruction_leaves (DropInstr locals) q b a = (omega arith, omega (arith, a))

    test_leaves : (left : ℕ) (o : Option Bool) (x y : ℕ) → left ≤ v.left → behind f.code f.block + 6 ≤ now → f.block < x → f.block < y → Leaves (test ns v f left o x y)
    test_leaves left None x y le b p q = (omega arith, tt)
    test_leaves left (Some true) x y le b p q = (le, omega (arith, b, ahead_jump f.code f.block x v.kept p))
    test_leaves left (Some false) x y le b p q = (le, omega (arith, b, ahead_jump f.code f.block y v.kept q))

    ref_leaves : (left : ℕ) (spot : Spot) (u : ValueTree) → left ≤ v.left → 1 + ahead f.code f.block f.instr (suc v.kept) < now → Leaves (operand_ref ns v f left spot u)
    ref_leaves left spot (RefValue k cell) le room = (le, room)
    ref_leaves left spot u le room = (omega arith, tt)

    operand_leaves : (spot : Spot) (e : ExprTree) (o : Option (Effectful × ExprTrees)) → behind f.code f.block + 6 ≤ now → 1 + ahead f.code f.block f.instr (suc v.kept) < now
        → Leaves (operand_by ns v f spot e o)
    operand_leaves spot e (Some g) b room = effects_leaves (Kept spot) g b room
    operand_leaves spot e None b room =
        valued_leaves (value ns v (look f.mem) e) (λ u left. operand_ref ns v f left spot u) b (value_fewer e) (λ u left le. ref_leaves left spot u le room)

    choose_leaves : (g : ℕ) (o : Option CallbackTree) → callback_at f.code g v.kept ≡ o → fetch f.code f.block f.instr ≡ Last (ChooseLast g) → behind f.code f.block + 6 ≤ now
        → Leaves (choose ns v f (spot_of f.code g) o)
    choose_leaves g (Some c) q at b =
        operand_leaves (spot_of f.code g) c.operand (effect_in ns c.operand) b (omega (arith, ahead_kept f.code f.block f.instr g v.kept c at q))
    choose_leaves g None q at b = (omega arith, omega (arith, b))

    throw_leaves : (left : ℕ) (o : Option ℕ) → left ≤ v.left → behind f.code f.block + 6 ≤ now → Leaves (throw_value ns v f left o)
    throw_leaves left None le b = (omega arith, tt)
    throw_leaves left (Some err) le b = (le, omega (arith, b))

    last_leaves : (l : LastTree) → fetch f.code f.block f.instr ≡ Last l → Leads f.block l → behind f.code f.block + 6 ≤ now → Leaves (last ns v f l)
    last_leaves (GotoLast to) q h b = omega (arith, b, ahead_jump f.code f.block to v.kept h)
    last_leaves (PassLast to) q h b = (omega arith, tt)
    last_leaves (TestLast e x y) q h b =
        valued_leaves (value ns v (look f.mem) e) (λ u left. test ns v f left (bool_of u) x y) b (value_fewer e) (λ u left le. test_leaves left (bool_of u) x y le b h.0 h.1)
    last_leaves (ChooseLast g) q h b = choose_leaves g (callback_at f.code g v.kept) refl q b
    last_leaves (ReturnLast e) q h b = valued_leaves (value ns v (look f.mem) (returned_expr e)) (λ u left. asks left (Returns u _) over) b (value_fewer (returned_expr e)) (λ u left le. (le, omega (arith, b)))
    last_leaves (ThrowLast e) q h b =
        valued_leaves (value ns v (look f.mem) e) (λ u left. throw_value ns v f left (error_of u)) b (value_fewer e) (λ u left le. throw_leaves left (error_of u) le b)

    there : (o : Fetched) → fetch f.code f.block f.instr ≡ o → (o ≡ Nothing → ⊥) → behind f.code f.block + 6 ≤ now
    there o q h = ahead_behind f.code f.block f.instr v.kept (subst (λ x. x ≡ Nothing → ⊥) (sym q) h)

    fetched_leaves : (o : Fetched) → fetch f.code f.block f.instr ≡ o → Leaves (fetched ns v f o)
    fetched_leaves (Body i) q = instruction_leaves i q (there (Body i) q body_there) (ahead_next f.code f.block f.instr v.kept v.kept i q)
      where
        body_there : Body i ≡ Nothing → ⊥
        body_there h = cc
    fetched_leaves (Last l) q = last_leaves l q (leads_at f.code f.block f.instr l forward q) (there (Last l) q last_there)
      where
        last_there : Last l ≡ Nothing → ⊥
        last_there h = cc
    fetched_leaves Nothing q = (omega arith, tt)

    pub next_leaves : Leaves (next_step ns v f)
    next_leaves = fetched_leaves (fetch f.code f.block f.instr) refl
