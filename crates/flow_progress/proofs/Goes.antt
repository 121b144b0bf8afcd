-- Frames go on as they are known by their phases.
use Rattle.std.proofs.Common.{◌≡◌, ℕ, nat_eq, Bool, true, false, List, length, if◌then◌else◌, inl, inr, refl, sym, subst, []}
use Rattle.std.specs.Prelude.{slice_get, option_map}
use Rattle.std.specs.declared.option.Option.{Option}
use Rattle.std.specs.declared.option.Option.TheVariants.{None, Some}
use Rattle.flow_value.specs.Values.{ValueTree, RefValue}
use Rattle.flow_value.specs.declared.value.Kind.{Kind}
use Rattle.flow_tree.specs.Tree.{ExprTree, ExprTrees, TypeTree, returned_expr}
use Rattle.flow_tree.specs.declared.ty.Ident.{Ident}
use Rattle.flow_eval.specs.Eval.{Res, Done, Fails, Spent, Meaningless}
use Rattle.flow_eval.specs.Answers.{bool_of, error_of}
use Rattle.flow_eval.specs.Functions.{default_value}
use Rattle.flow_class.specs.Classes.{CatcherTree, InstrTree, SetInstr, EffectInstr, NewInstr, ActInstr, DropInstr, LastTree, GotoLast, PassLast, TestLast, ChooseLast, ReturnLast, ThrowLast, CallbackTree, ClassTree, RawTree}
use Rattle.flow_class.specs.Code.{type_at, Fetched, Body, Last, Nothing, fetch, catcher_at, callback_at}
use Rattle.flow_class.specs.declared.class.Slotted.{Slotted}
use Rattle.flow_meaning.specs.Requests.{Act, Goes, Effects, Sends, Cancels, Prints, SendsTo, Returns, Spot, Make, Goal, Stored, Kept, Drops, Starts}
use Rattle.flow_meaning.specs.Process.{View}
use Rattle.flow_meaning.specs.Evaluating.{Names, bind, StepOf, asks, given, evaluated, Effectful, effect_in, effect_of, value, values, call_act, Change, change_of, base_of, storing, call_by}
use Rattle.flow_meaning.specs.Frame.{Memory, Frame, look, assign, spot_of, next_instr, over, raised, put_at}
use Rattle.flow_meaning.specs.Class.{promise_kind, placed, effects, instruction, test, operand_ref, operand_by, choose, throw_value, last, fetched, next_step, stored, store_at, bound, onward, take_callback, take_at, begun, fresh_from, class_names, classes, new_by, put_path}
use Rattle.flow_progress.specs.Phases.{KnownAfter, KeepsPhases}
use Rattle.flow_progress.specs.FramesByRequest.{IsOf, AsksHere, WaitsHere, Going}
use Rattle.flow_progress.proofs.Calls.{IsCalled, Comes, act_called}

module _ (r : RawTree) (v : View) (f : Frame) (own : IsOf r f.code) where
  abbrev Known : StepOf Frame → Type 0
  Known p = KnownAfter (Going r) p

  given_known : {B : Type 0} (o : Option B) (go : B → StepOf Frame) → ((x : B) → Known (go x)) → Known (given f o go)
  given_known None go h = own
  given_known (Some x) go h = h x

  evaluated_known : {B : Type 0} (P : B → Type 0) (q : Res B) (go : B → ℕ → StepOf Frame) → Comes P q → ((x : B) (left : ℕ) → P x → Known (go x left)) → Known (evaluated f q go)
  evaluated_known P (Done x left) go c h = h x left c
  evaluated_known P (Fails e left) go c h = own
  evaluated_known P Spent go c h = own
  evaluated_known P Meaningless go c h = own

  always : {B : Type 0} (q : Res B) → Comes (λ x. Unit {0}) q
  always (Done x left) = tt
  always (Fails e left) = tt
  always Spent = tt
  always Meaningless = tt

  valued_known : {B : Type 0} (q : Res B) (go : B → ℕ → StepOf Frame) → ((x : B) (left : ℕ) → Known (go x left)) → Known (evaluated f q go)
  valued_known q go h = evaluated_known (λ x. Unit {0}) q go (always q) (λ x left u. h x left)

  module _ (ns : Names) where
    here : Fetched
    here = fetch f.code f.block f.instr

    effects_known : (goal : Goal) (g : Effectful × ExprTrees) → AsksHere here → Known (effects ns v f goal g)
    unfolding here
    effects_known goal g h =
        valued_known (values ns v (look f.mem) g.1) (λ vs left. given f (effect_of g.0 vs) (λ eff. asks left (Effects goal eff) f))
        (λ vs left. given_known (effect_of g.0 vs) (λ eff. asks left (Effects goal eff) f) (λ eff. (own, h)))

    asked_known : (left : ℕ) (act : Act) → IsCalled act → Known (asks left act (next_instr f.mem f))
    asked_known left Goes h = own
    asked_known left (Sends k o) h = own
    asked_known left (Cancels k) h = own
    asked_known left (Prints u) h = own
    asked_known left (SendsTo q port text) h = own
    asked_known left (Starts class args) h = own
    asked_known left _ h = absurd h

    new_known : (p : Slotted) (t : TypeTree) (o : Option Kind) → here ≡ Body (NewInstr p) → Known (new_by ns v f p t o)
    unfolding here
    new_known p t (Some k) q = (own, subst AsksHere (sym q) tt)
    new_known p t None q = given_known (default_value t) (λ u. given f (put_at ns.records f.mem p [] u) (placed ns v f v.left))
        (λ u. given_known (put_at ns.records f.mem p [] u) (placed ns v f v.left) (λ p. own))

    statement_known : (path : List Ident) (es : ExprTrees) (o : Option Change) → Known (call_by ns v (look f.mem) o f (next_instr f.mem f) (put_path ns v f) path es)
    statement_known path es None =
        evaluated_known IsCalled (call_act ns v (look f.mem) path es) (λ act left. asks left act (next_instr f.mem f)) (act_called ns v (look f.mem) path es) asked
      where
        asked : (act : Act) (left : ℕ) → IsCalled act → Known (asks left act (next_instr f.mem f))
        asked act left h = asked_known left act h
    statement_known path es (Some how) =
        valued_known (storing ns v (look f.mem) how (base_of path) es) (λ s left. given f (put_path ns v f (base_of path) s.0) (λ g. asks left (Drops s.1) g))
        (λ s left. path_known left s.1 (assign ns.records f.mem (base_of path) s.0))
      where
        path_known : (left : ℕ) (ds : List ValueTree) (o : Option (List ValueTree × Memory))
            → Known (given f (option_map (λ (p : List ValueTree × Memory). next_instr p.1 f) o) (λ g. asks left (Drops ds) g))
        path_known left ds None = own
        path_known left ds (Some p) = own

    instruction_known : (i : InstrTree) → here ≡ Body i → Known (instruction ns v f i)
    unfolding here
    instruction_known (SetInstr path e) q =
        valued_known (value ns v (look f.mem) e) (λ u left. given f (assign ns.records f.mem path u) (placed ns v f left))
        (λ u left. given_known (assign ns.records f.mem path u) (placed ns v f left) (λ p. own))
    instruction_known (EffectInstr path e) q =
        given_known (effect_in ns e) (effects ns v f Stored) (λ g. effects_known Stored g (subst AsksHere (sym q) tt))
    instruction_known (NewInstr p) q =
        given_known (type_at f.code p) (λ t. new_by ns v f p t (promise_kind t)) (λ t. new_known p t (promise_kind t) q)
    instruction_known (ActInstr path es) q = statement_known path es (change_of path)
    instruction_known (DropInstr locals) q = own

    test_known : (left : ℕ) (o : Option Bool) (b c : ℕ) → Known (test ns v f left o b c)
    test_known left None b c = own
    test_known left (Some true) b c = own
    test_known left (Some false) b c = own

    ref_known : (left : ℕ) (spot : Spot) (u : ValueTree) → AsksHere here → Known (operand_ref ns v f left spot u)
    unfolding here
    ref_known left spot (RefValue k cell) h = (own, h)
    ref_known left spot u h = own

    operand_known : (spot : Spot) (e : ExprTree) (o : Option (Effectful × ExprTrees)) → AsksHere here → Known (operand_by ns v f spot e o)
    operand_known spot e (Some g) h = effects_known (Kept spot) g h
    operand_known spot e None h = valued_known (value ns v (look f.mem) e) (λ u left. operand_ref ns v f left spot u) (λ u left. ref_known left spot u h)

    choose_known : (g : ℕ) (o : Option CallbackTree) → here ≡ Last (ChooseLast g) → Known (choose ns v f (spot_of f.code g) o)
    unfolding here
    choose_known g (Some c) q = operand_known (spot_of f.code g) c.operand (effect_in ns c.operand) (subst AsksHere (sym q) tt)
    choose_known g None q = (own, subst WaitsHere (sym q) tt)

    throw_known : (left : ℕ) (o : Option ℕ) → Known (throw_value ns v f left o)
    throw_known left None = own
    throw_known left (Some err) = own

    last_known : (l : LastTree) → here ≡ Last l → Known (last ns v f l)
    last_known (GotoLast b) q = own
    last_known (PassLast b) q = own
    last_known (TestLast e b c) q = valued_known (value ns v (look f.mem) e) (λ u left. test ns v f left (bool_of u) b c) (λ u left. test_known left (bool_of u) b c)
    last_known (ChooseLast g) q = choose_known g (callback_at f.code g v.kept) q
    last_known (ReturnLast e) q = valued_known (value ns v (look f.mem) (returned_expr e)) (λ u left. asks left (Returns u _) over) (λ u left. inl refl)
    last_known (ThrowLast e) q = valued_known (value ns v (look f.mem) e) (λ u left. throw_value ns v f left (error_of u)) (λ u left. throw_known left (error_of u))

    fetched_known : (o : Fetched) → here ≡ o → Known (fetched ns v f o)
    fetched_known (Body i) q = instruction_known i q
    fetched_known (Last l) q = last_known l q
    fetched_known Nothing q = own

    pub next_known : Known (next_step ns v f)
    unfolding here
    next_known = fetched_known (fetch f.code f.block f.instr) refl

-- what a frame is handed
stored_known : (r : RawTree) (f : Frame) (o : Option (List ValueTree × Memory)) → IsOf r f.code → IsOf r (stored f o).1.code
stored_known r f None h = h
stored_known r f (Some p) h = h

store_known : (r : RawTree) (ns : Names) (u : ValueTree) (f : Frame) (o : Fetched) → IsOf r f.code → IsOf r (store_at ns u f o).1.code
store_known r ns u f (Body (EffectInstr path e)) h = stored_known r f (assign ns.records f.mem path u) h
store_known r ns u f (Body (NewInstr p)) h = h
store_known r ns u f (Body (SetInstr path e)) h = h
store_known r ns u f (Body (ActInstr path es)) h = h
store_known r ns u f (Body (DropInstr ns2)) h = h
store_known r ns u f (Last l) h = h
store_known r ns u f Nothing h = h

onward_known : (r : RawTree) (f : Frame) (b : ℕ) (o : Option (List ValueTree × Memory)) → IsOf r f.code → IsOf r (onward f b o).1.code
onward_known r f b None h = h
onward_known r f b (Some p) h = h

callback_known : (r : RawTree) (ns : Names) (u : ValueTree) (f : Frame) (o : Option CallbackTree) → IsOf r f.code → IsOf r (take_callback ns u f o).1.code
callback_known r ns u f None h = h
callback_known r ns u f (Some c) h = onward_known r f c.block (bound ns u f.mem c.into) h

take_known : (r : RawTree) (ns : Names) (n : ℕ) (u : ValueTree) (f : Frame) (o : Fetched) → IsOf r f.code → IsOf r (take_at ns n u f o).1.code
take_known r ns n u f (Last (ChooseLast g)) h = callback_known r ns u f (callback_at f.code g n) h
take_known r ns n u f (Last (GotoLast b)) h = h
take_known r ns n u f (Last (PassLast b)) h = h
take_known r ns n u f (Last (TestLast e b c)) h = h
take_known r ns n u f (Last (ReturnLast e)) h = h
take_known r ns n u f (Last (ThrowLast e)) h = h
take_known r ns n u f (Body i) h = h
take_known r ns n u f Nothing h = h

raised_known : (r : RawTree) (err : ℕ) (f : Frame) (o : Option CatcherTree) → IsOf r f.code → IsOf r (raised err f o).1.code
raised_known r err f None h = inl refl
raised_known r err f (Some c) h = h

-- a frame that begins
begun_known : (r : RawTree) (k : ℕ) (o : Option ClassTree) (vs : List ValueTree) (f : Frame) → slice_get r.classes k ≡ o → fresh_from o vs ≡ Some f → IsOf r f.code
begun_known r k None vs f at q = absurd (none_some q)
  where
    none_some : {X : Type 0} {x : X} → None ≡ Some x → ⊥
    none_some h = cc
begun_known r k (Some c) vs f at q = by_test (nat_eq (length vs) c.params) q
  where
    none_some : {X : Type 0} {x : X} → None ≡ Some x → ⊥
    none_some h = cc

    same_of : {X : Type 0} {x y : X} → Some x ≡ Some y → x ≡ y
    same_of h = cc

    by_test : (b : Bool) → (if b then Some (begun c vs) else None) ≡ Some f → IsOf r f.code
    by_test true e = subst (λ g. IsOf r g.code) (same_of e) (inr (k, at))
    by_test false e = absurd (none_some e)

waits_asks : (o : Fetched) → WaitsHere o → AsksHere o
waits_asks (Last (ChooseLast g)) h = tt
waits_asks (Last (GotoLast b)) h = absurd h
waits_asks (Last (PassLast b)) h = absurd h
waits_asks (Last (TestLast e b c)) h = absurd h
waits_asks (Last (ReturnLast e)) h = absurd h
waits_asks (Last (ThrowLast e)) h = absurd h
waits_asks (Body i) h = absurd h
waits_asks Nothing h = absurd h

pub frames_going : (r : RawTree) → KeepsPhases (classes r) (Going r)
frames_going r = record {
  fresh = λ k vs f q. begun_known r k (slice_get r.classes k) vs f refl q;
  waits = λ f h. (h.0, waits_asks (fetch f.code f.block f.instr) h.1);
  dues = λ f h. h.0;
  risks = λ f h. h;
  next = λ v f h. next_known r v f h (class_names r);
  lose = λ f h. h;
  store = λ u f h. store_known r (class_names r) u f (fetch f.code f.block f.instr) h.0;
  take = λ n u f h. take_known r (class_names r) n u f (fetch f.code f.block f.instr) h.0;
  raise = λ err f h. raised_known r err f (catcher_at f.code f.block) h;
}
