-- A frame asks for values that keep a rule on references, where it and the cells keep it.
use Rattle.std.proofs.Common.{◌≡◌, ℕ, Bool, true, false, List, [], ◌∷◌, map, drop, ◌⊎◌, inl, inr, refl, subst, nat_eq, length, if◌then◌else◌}
use Rattle.std.specs.Prelude.{nat_lt, position}
use Rattle.std.specs.Option.{option_map}
use Rattle.std.specs.Str.{bytes_eq}
use Rattle.std.specs.declared.option.Option.{Option}
use Rattle.std.specs.declared.option.Option.TheVariants.{None, Some}
use Rattle.flow_tree.specs.declared.ty.Ident.{Ident}
use Rattle.flow_tree.specs.Decls.{RoutineTree}
use Rattle.flow_tree.specs.declared.limits.TheConstants.{ELEMENTS}
use Rattle.flow_tree.specs.Tree.{TypeTree, ExprTree, ExprTrees, returned_expr}
use Rattle.flow_ast.specs.declared.predefined.Predefined.{Predefined}
use Rattle.flow_ast.specs.declared.predefined.Predefined.TheVariants as code
use Rattle.flow_ast.specs.declared.predefined.Method.{Method}
use Rattle.flow_ast.specs.declared.predefined.Method.TheVariants as method
use Rattle.flow_ast.specs.TypingNames.{named, call_names, method_names}
use Rattle.flow_ast.specs.Typing.{routine_named}
use Rattle.flow_value.specs.declared.value.Kind.{Kind}
use Rattle.flow_value.specs.declared.value.Kind.TheVariants as kind
use Rattle.flow_value.specs.Values.{ValueTree, ValueTrees, NoValues, MoreValues, IntValue, BoolValue, TextValue, VoidValue, ErrorValue, CompositeValue, ListWhole, RefValue, OutcomeTree, BadOutcome, count_of, with_last, AllRefsIn}
use Rattle.flow_class.specs.declared.class.Slotted.{Slotted}
use Rattle.flow_class.specs.declared.class.Slotted.TheVariants.{Local}
use Rattle.flow_class.specs.Classes.{CatcherTree, ClassTree, InstrTree, SetInstr, EffectInstr, NewInstr, ActInstr, DropInstr, LastTree, GotoLast, PassLast, TestLast, ChooseLast, ReturnLast, ThrowLast, CallbackTree}
use Rattle.flow_class.specs.Code.{Fetched, Body, Last, Nothing, fetch, callback_at, type_at, catcher_at}
use Rattle.flow_eval.specs.Functions.{read_in, default_value}
use Rattle.flow_eval.specs.Eval.{Res, Done, Fails, Spent, Meaningless}
use Rattle.flow_eval.specs.Eval.{then as goes_on}
use Rattle.flow_eval.specs.Answers.{bool_of, int_of, text_of, error_of, arg}
use Rattle.flow_meaning.specs.Requests.{Spot, Act, Goes, Drops, Effects, Starts, Operand, Waits, Sends, Returns, Effect, Start, Goal, Stored, Kept, Ask}
use Rattle.flow_meaning.specs.Process.{View}
use Rattle.flow_meaning.specs.Evaluating.{Names, setting, bind, StepOf, asks, given, evaluated, Effectful, World, Actor, effect_in, effect_of, world_effect, value, values, call_act, plain_act, function_act, started_act, based_act, method_act, sent, cancelled, done, before_last, last_of, Change, Grows, Clears, Storing, grown_by, changed, change_of, base_of, storing, call_by}
use Rattle.flow_meaning.specs.Frame.{Memory, Frame, look, emptied, reversed, blanks, everything, put_at, assign, spot_of, go, next_instr, over, lose, raised, raise, with_error}
use Rattle.flow_meaning.specs.Class as class
use Rattle.flow_meaning.specs.Class.{begun, fresh_from}
use Rattle.flow_heap_refinement.specs.Evaluation.{Rule, GivesFutures, Named, AllNamed, MaybeNamed, ResNamed, AllResNamed, RefNamed}
use Rattle.flow_heap_refinement.specs.Evaluation as names
use Rattle.flow_heap_refinement.proofs.Evaluation.Answering.{default_named, read_in_named}
use Rattle.flow_heap_refinement.proofs.Evaluation.Names.{eval_names, all_names}
use Rattle.flow_heap_refinement.proofs.NamingPlaces.{arg_named, joined_named, reversed_named, filled_named, blanks_named, write_named, look_named, held_named, emptied_named, everything_named, PutNamed, put_named, assign_named}
use Rattle.flow_heap_refinement.specs.Naming.{OutcomeNamed, PlacesNamed, MemoryNamed}

module _ (p : Rule) where
  -- a part more
  more_parts : (es : ValueTrees) (u : ValueTree) → AllRefsIn (RefNamed p) es → Named p u → AllRefsIn (RefNamed p) (with_last es u)
  more_parts NoValues u h n = (n, tt)
  more_parts (MoreValues e es) u h n = (h.0, more_parts es u h.1 n)

  -- asks
  abbrev pub EffectNamed : Effect → Type 0
  EffectNamed (Start class args) = AllNamed p args
  EffectNamed _ = Unit {0}

  abbrev pub ActNamed : Act → Type 0
  ActNamed (Drops vs) = AllNamed p vs
  ActNamed (Effects goal eff) = EffectNamed eff
  ActNamed (Starts class args) = AllNamed p args
  ActNamed (Operand spot r) = RefNamed p r
  ActNamed (Waits spot vs) = AllNamed p vs
  ActNamed (Sends k o) = OutcomeNamed p o × ((p kind.Promise k ≡ true) ⊎ (p kind.PromiseStream k ≡ true))
  ActNamed (Returns v vs) = Named p v × AllNamed p vs
  ActNamed _ = Unit {0}

  abbrev pub AskNamed : Option Ask → Type 0
  AskNamed None = Unit {0}
  AskNamed (Some q) = ActNamed q.act

  abbrev pub StepNamed : StepOf Frame → Type 0
  StepNamed r = AskNamed r.0 × MemoryNamed p r.1.mem

  -- steps
  module _ (gives : GivesFutures p) (ns : Names) (v : View) (cells : names.CellsNamed p (setting ns v)) (f : Frame) (h : MemoryNamed p f.mem) where
    given_named : {B : Type 0} (o : Option B) (go : B → StepOf Frame) → ((x : B) → o ≡ Some x → StepNamed (go x)) → StepNamed (given f o go)
    given_named None go k = (tt, h)
    given_named (Some x) go k = k x refl

    value_named : (r : Res ValueTree) (go : ValueTree → ℕ → StepOf Frame) → ResNamed p r → ((u : ValueTree) (left : ℕ) → Named p u → StepNamed (go u left)) → StepNamed (evaluated f r go)
    value_named (Done u left) go n k = k u left n
    value_named (Fails e left) go n k = (tt, h)
    value_named Spent go n k = (tt, h)
    value_named Meaningless go n k = (tt, h)

    values_named : (r : Res (List ValueTree)) (go : List ValueTree → ℕ → StepOf Frame) → AllResNamed p r → ((us : List ValueTree) (left : ℕ) → AllNamed p us → StepNamed (go us left))
        → StepNamed (evaluated f r go)
    values_named (Done us left) go n k = k us left n
    values_named (Fails e left) go n k = (tt, h)
    values_named Spent go n k = (tt, h)
    values_named Meaningless go n k = (tt, h)

    value_of : (e : ExprTree) → ResNamed p (value ns v (look f.mem) e)
    value_of e = eval_names p (setting ns v) (look f.mem) e v.left gives cells (look_named p f.mem h)

    values_of : (es : ExprTrees) → AllResNamed p (values ns v (look f.mem) es)
    values_of es = all_names p (setting ns v) (look f.mem) es v.left gives cells (look_named p f.mem h)

    -- effects
    abbrev MaybeEffect : Option Effect → Type 0
    MaybeEffect None = Unit {0}
    MaybeEffect (Some eff) = EffectNamed eff

    bind_effect : {A : Type 0} (o : Option A) (go : A → Option Effect) → ((x : A) → MaybeEffect (go x)) → MaybeEffect (bind o go)
    bind_effect None go k = tt
    bind_effect (Some x) go k = k x

    world_named : (c : Predefined) (us : List ValueTree) → MaybeEffect (world_effect c us)
    world_named code.RandomInt us = bind_effect (int_of (arg us 0)) _ (λ lo. bind_effect (int_of (arg us 1)) _ (λ hi. tt))
    world_named code.Delay us = bind_effect (int_of (arg us 0)) _ (λ n. tt)
    world_named code.Never us = tt
    world_named code.Listen us = bind_effect (int_of (arg us 0)) _ (λ port. tt)
    world_named code.ReadFile us = bind_effect (text_of (arg us 0)) _ (λ file. bind_effect (int_of (arg us 1)) _ (λ offset. bind_effect (int_of (arg us 2)) _ (λ count. tt)))
    world_named code.WriteFile us = bind_effect (text_of (arg us 0)) _ (λ file. bind_effect (int_of (arg us 1)) _ (λ offset. bind_effect (text_of (arg us 2)) _ (λ text. tt)))
    world_named code.SyncFile us = bind_effect (text_of (arg us 0)) _ (λ file. tt)
    world_named code.FileSize us = bind_effect (text_of (arg us 0)) _ (λ file. tt)
    world_named c us = tt

    effect_named : (x : Effectful) (us : List ValueTree) → AllNamed p us → MaybeEffect (effect_of x us)
    effect_named (World c) us n = world_named c us
    effect_named (Actor k) us n = n

    effects_named : (goal : Goal) (x : Effectful × ExprTrees) → StepNamed (class.effects ns v f goal x)
    effects_named goal x =
        values_named (values ns v (look f.mem) x.1) (λ us left. given f (effect_of x.0 us) (λ eff. asks left (Effects goal eff) f)) (values_of x.1)
        (λ us left n. given_named (effect_of x.0 us) (λ eff. asks left (Effects goal eff) f) (λ eff e. (subst MaybeEffect e (effect_named x.0 us n), h)))

    -- call statements
    abbrev ActRes : Res Act → Type 0
    ActRes (Done act left) = ActNamed act
    ActRes _ = Unit {0}

    abbrev MaybeAct : Option Act → Type 0
    MaybeAct None = Unit {0}
    MaybeAct (Some act) = ActNamed act

    done_named : (o : Option Act) (left : ℕ) → MaybeAct o → ActRes (done o left)
    done_named None left n = tt
    done_named (Some act) left n = n

    act_then : (r : Res (List ValueTree)) (go : List ValueTree → ℕ → Res Act) → AllResNamed p r → ((us : List ValueTree) (left : ℕ) → AllNamed p us → ActRes (go us left)) → ActRes (goes_on r go)
    act_then (Done us left) go n k = k us left n
    act_then (Fails e left) go n k = tt
    act_then Spent go n k = tt
    act_then Meaningless go n k = tt

    goes_after : (r : Res ValueTree) → ActRes (goes_on r (λ u left. Done Goes left))
    goes_after (Done u left) = tt
    goes_after (Fails e left) = tt
    goes_after Spent = tt
    goes_after Meaningless = tt

    started_named : (o : Option ℕ) (us : List ValueTree) (left : ℕ) → AllNamed p us → ActRes (started_act ns v (look f.mem) o us left)
    started_named None us left n = tt
    started_named (Some k) us left n = n

    function_named : (o : Option RoutineTree) (x : List ℕ) (us : List ValueTree) (left : ℕ) → AllNamed p us → ActRes (function_act ns v (look f.mem) o x us left)
    function_named None x us left n = started_named (position (bytes_eq x) ns.actors) us left n
    function_named (Some g) x us left n = goes_after _

    bind_act : {A : Type 0} (o : Option A) (go : A → Option Act) → ((x : A) → MaybeAct (go x)) → MaybeAct (bind o go)
    bind_act None go k = tt
    bind_act (Some x) go k = k x

    plain_named : (c : Option Predefined) (x : List ℕ) (us : List ValueTree) (left : ℕ) → AllNamed p us → ActRes (plain_act ns v (look f.mem) c x us left)
    plain_named (Some code.Trace) x us left n = tt
    plain_named (Some code.SendTo) x us left n =
        done_named _ left (bind_act (int_of (arg us 0)) _ (λ q. bind_act (int_of (arg us 1)) _ (λ port. bind_act (text_of (arg us 2)) _ (λ text. tt))))
    plain_named None x us left n = function_named (routine_named ns.functions x) x us left n
    plain_named (Some c) x us left n = tt

    abbrev MaybeOutcome : Option OutcomeTree → Type 0
    MaybeOutcome None = Unit {0}
    MaybeOutcome (Some o) = OutcomeNamed p o

    error_outcome : (o : Option ℕ) → MaybeOutcome (option_map BadOutcome o)
    error_outcome None = tt
    error_outcome (Some e) = tt

    sent_named : (m : Method) (us : List ValueTree) → AllNamed p us → MaybeOutcome (sent m us)
    sent_named method.Send us n = arg_named p us 0 n
    sent_named method.SendError us n = error_outcome (error_of (arg us 0))
    sent_named m us n = tt

    sends_named : (k : ℕ) (o : Option OutcomeTree) → MaybeOutcome o → (p kind.Promise k ≡ true) ⊎ (p kind.PromiseStream k ≡ true) → MaybeAct (option_map (Sends k) o)
    sends_named k None n e = tt
    sends_named k (Some o) n e = (n, e)

    cancels_named : (m : Method) (k : ℕ) → MaybeAct (cancelled m k)
    cancels_named method.Cancel k = tt
    cancels_named m k = tt

    method_named : (m : Method) (u : ValueTree) (us : List ValueTree) → Named p u → AllNamed p us → MaybeAct (method_act m u us)
    method_named m (RefValue kind.Promise k) us n a = sends_named k (sent m us) (sent_named m us a) (inl n)
    method_named m (RefValue kind.PromiseStream k) us n a = sends_named k (sent m us) (sent_named m us a) (inr n)
    method_named m (RefValue kind.Future k) us n a = cancels_named m k
    method_named m (RefValue kind.FutureStream k) us n a = tt
    method_named m (IntValue z) us n a = tt
    method_named m (BoolValue b) us n a = tt
    method_named m (TextValue t) us n a = tt
    method_named m VoidValue us n a = tt
    method_named m (ErrorValue e) us n a = tt
    method_named m (CompositeValue r vs) us n a = tt

    based_named : (o : Option ValueTree) (m : Option Method) (us : List ValueTree) (left : ℕ) → MaybeNamed p o → AllNamed p us → ActRes (based_act ns v (look f.mem) o m us left)
    based_named (Some u) (Some m) us left n a = done_named (method_act m u us) left (method_named m u us n a)
    based_named (Some u) None us left n a = tt
    based_named None m us left n a = tt

    call_named : (path : List Ident) (es : ExprTrees) → ActRes (call_act ns v (look f.mem) path es)
    call_named [] es = tt
    call_named (x ∷ []) es = act_then (values ns v (look f.mem) es) _ (values_of es) (λ us left n. plain_named (named call_names x.name) x.name us left n)
    call_named (x ∷ y ∷ ys) es =
        act_then (values ns v (look f.mem) es) _ (values_of es)
        (λ us left n. based_named (read_in ns.records (look f.mem x.name) (before_last y ys)) (named method_names (last_of y ys).name) us left
        (read_in_named p ns.records (look f.mem x.name) (before_last y ys) (look_named p f.mem h x.name)) n)

    act_named : (r : Res Act) → ActRes r → StepNamed (evaluated f r (λ act left. asks left act (next_instr f.mem f)))
    act_named (Done act left) n = (n, h)
    act_named (Fails e left) n = (tt, h)
    act_named Spent n = (tt, h)
    act_named Meaningless n = (tt, h)

    -- changes of vectors
    abbrev StoringRes : Res Storing → Type 0
    StoringRes (Done s left) = Named p s.0 × AllNamed p s.1
    StoringRes _ = Unit {0}

    grown_named : (b : Bool) (es : ValueTrees) (u : ValueTree) (left : ℕ) → AllRefsIn (RefNamed p) es → Named p u → StoringRes (grown_by b es u left)
    grown_named true es u left h n = (more_parts es u h n, tt)
    grown_named false es u left h n = tt

    changed_named : (how : Change) (us : List ValueTree) (o : Option ValueTree) (left : ℕ) → AllNamed p us → MaybeNamed p o → StoringRes (changed how us o left)
    changed_named Grows us (Some (CompositeValue ListWhole es)) left a n = grown_named (nat_lt (count_of es) ELEMENTS) es (arg us 0) left n (arg_named p us 0 a)
    changed_named Clears us (Some (CompositeValue ListWhole es)) left a n = (tt, (n, tt))
    changed_named _ us _ left a n = tt

    storing_then : (r : Res (List ValueTree)) (go : List ValueTree → ℕ → Res Storing) → AllResNamed p r
        → ((us : List ValueTree) (left : ℕ) → AllNamed p us → StoringRes (go us left)) → StoringRes (goes_on r go)
    storing_then (Done us left) go n k = k us left n
    storing_then (Fails e left) go n k = tt
    storing_then Spent go n k = tt
    storing_then Meaningless go n k = tt

    storing_named : (how : Change) (path : List Ident) (es : ExprTrees) → StoringRes (storing ns v (look f.mem) how path es)
    storing_named how [] es = tt
    storing_named how (x ∷ xs) es =
        storing_then (values ns v (look f.mem) es) _ (values_of es)
        (λ us left n. changed_named how us (read_in ns.records (look f.mem x.name) xs) left n
        (read_in_named p ns.records (look f.mem x.name) xs (look_named p f.mem h x.name)))

    -- the vector is put in place, and the next instruction follows
    put_behind : (o : Option (List ValueTree × Memory)) (left : ℕ) (dropped : List ValueTree) → PutNamed p o → AllNamed p dropped
        → StepNamed (given f (option_map (λ (q : List ValueTree × Memory). next_instr q.1 f) o) (λ a. asks left (Drops dropped) a))
    put_behind None left dropped n d = (tt, h)
    put_behind (Some q) left dropped n d = (d, n.1)

    change_stored : (path : List Ident) (r : Res Storing) → StoringRes r
        → StepNamed (evaluated f r (λ s left. given f (class.put_path ns v f path s.0) (λ a. asks left (Drops s.1) a)))
    change_stored path (Done s left) n = put_behind (assign ns.records f.mem path s.0) left s.1 (assign_named p ns.records f.mem path s.0 h n.0) n.1
    change_stored path (Fails e left) n = (tt, h)
    change_stored path Spent n = (tt, h)
    change_stored path Meaningless n = (tt, h)

    statement_named : (o : Option Change) (path : List Ident) (es : ExprTrees)
        → StepNamed (call_by ns v (look f.mem) o f (next_instr f.mem f) (class.put_path ns v f) path es)
    statement_named None path es = act_named (call_act ns v (look f.mem) path es) (call_named path es)
    statement_named (Some how) path es = change_stored (base_of path) (storing ns v (look f.mem) how (base_of path) es) (storing_named how (base_of path) es)

    -- instructions
    placed_named : (o : Option (List ValueTree × Memory)) (left : ℕ) → PutNamed p o → StepNamed (given f o (class.placed ns v f left))
    placed_named None left n = (tt, h)
    placed_named (Some x) left n = n

    new_named : (q : Slotted) (t : TypeTree) (o : Option Kind) → StepNamed (class.new_by ns v f q t o)
    new_named q t (Some k) = (tt, h)
    new_named q t None =
        given_named (default_value t) (λ u. given f (put_at ns.records f.mem q [] u) (class.placed ns v f v.left))
        (λ u e. placed_named (put_at ns.records f.mem q [] u) v.left (put_named p ns.records f.mem q [] u h (subst (MaybeNamed p) e (default_named p t))))

    instruction_named : (x : InstrTree) → StepNamed (class.instruction ns v f x)
    instruction_named (SetInstr path e) =
        value_named (value ns v (look f.mem) e) (λ u left. given f (assign ns.records f.mem path u) (class.placed ns v f left)) (value_of e)
        (λ u left n. placed_named (assign ns.records f.mem path u) left (assign_named p ns.records f.mem path u h n))
    instruction_named (EffectInstr path e) = given_named (effect_in ns e) (class.effects ns v f Stored) (λ x q. effects_named Stored x)
    instruction_named (NewInstr q) = given_named (type_at f.code q) (λ t. class.new_by ns v f q t (class.promise_kind t)) (λ t e. new_named q t (class.promise_kind t))
    instruction_named (ActInstr path es) = statement_named (change_of path) path es
    instruction_named (DropInstr locals) = (held_named p f.mem locals h, emptied_named p locals f.mem h)

    test_named : (left : ℕ) (b : Option Bool) (c d : ℕ) → StepNamed (class.test ns v f left b c d)
    test_named left None c d = (tt, h)
    test_named left (Some true) c d = (tt, h)
    test_named left (Some false) c d = (tt, h)

    ref_named : (left : ℕ) (spot : Spot) (u : ValueTree) → Named p u → StepNamed (class.operand_ref ns v f left spot u)
    ref_named left spot (RefValue k cell) n = (n, h)
    ref_named left spot _ n = (tt, h)

    operand_named : (spot : Spot) (e : ExprTree) (o : Option (Effectful × ExprTrees)) → StepNamed (class.operand_by ns v f spot e o)
    operand_named spot e (Some x) = effects_named (Kept spot) x
    operand_named spot e None = value_named (value ns v (look f.mem) e) (λ u left. class.operand_ref ns v f left spot u) (value_of e) (λ u left n. ref_named left spot u n)

    choose_named : (spot : Spot) (o : Option CallbackTree) → StepNamed (class.choose ns v f spot o)
    choose_named spot (Some c) = operand_named spot c.operand (effect_in ns c.operand)
    choose_named spot None = (filled_named p (reversed f.mem.locals) (reversed_named p f.mem.locals h.locals), record { slots = h.slots; locals = blanks_named p f.mem.locals })

    throw_named : (left : ℕ) (o : Option ℕ) → StepNamed (class.throw_value ns v f left o)
    throw_named left None = (tt, h)
    throw_named left (Some e) = (tt, h)

    last_named : (x : LastTree) → StepNamed (class.last ns v f x)
    last_named (GotoLast b) = (tt, h)
    last_named (PassLast b) = (tt, h)
    last_named (TestLast e b c) = value_named (value ns v (look f.mem) e) (λ u left. class.test ns v f left (bool_of u) b c) (value_of e) (λ u left n. test_named left (bool_of u) b c)
    last_named (ChooseLast g) = choose_named (spot_of f.code g) (callback_at f.code g v.kept)
    last_named (ReturnLast e) =
        value_named (value ns v (look f.mem) (returned_expr e)) (λ u left. asks left (Returns u (everything f.mem)) over) (value_of (returned_expr e))
        (λ u left n. ((n, everything_named p f.mem h), record { slots = tt; locals = tt }))
    last_named (ThrowLast e) = value_named (value ns v (look f.mem) e) (λ u left. class.throw_value ns v f left (error_of u)) (value_of e) (λ u left n. throw_named left (error_of u))

    fetched_named : (x : Fetched) → StepNamed (class.fetched ns v f x)
    fetched_named (Body i) = instruction_named i
    fetched_named (Last l) = last_named l
    fetched_named Nothing = (tt, h)

    pub next_named : StepNamed (class.next_step ns v f)
    next_named = fetched_named (fetch f.code f.block f.instr)

  -- values go into places, or out of them
  pub lose_named : (f : Frame) → MemoryNamed p f.mem → AllNamed p (lose f).0 × MemoryNamed p (lose f).1.mem
  lose_named f h = (filled_named p (reversed f.mem.locals) (reversed_named p f.mem.locals h.locals), record { slots = h.slots; locals = blanks_named p f.mem.locals })

  abbrev pub HandsNamed : List ValueTree × Frame → Type 0
  HandsNamed x = AllNamed p x.0 × MemoryNamed p x.1.mem

  stored_named : (f : Frame) (o : Option (List ValueTree × Memory)) → MemoryNamed p f.mem → PutNamed p o → HandsNamed (class.stored f o)
  stored_named f None h n = (tt, h)
  stored_named f (Some x) h n = n

  pub store_named : (ns : Names) (u : ValueTree) (f : Frame) (x : Fetched) → MemoryNamed p f.mem → Named p u → HandsNamed (class.store_at ns u f x)
  store_named ns u f (Body (EffectInstr path e)) h n = stored_named f (assign ns.records f.mem path u) h (assign_named p ns.records f.mem path u h n)
  store_named ns u f (Body (NewInstr q)) h n = stored_named f (put_at ns.records f.mem q [] u) h (put_named p ns.records f.mem q [] u h n)
  store_named ns u f (Body (SetInstr path e)) h n = (tt, h)
  store_named ns u f (Body (ActInstr path es)) h n = (tt, h)
  store_named ns u f (Body (DropInstr ls)) h n = (tt, h)
  store_named ns u f (Last l) h n = (tt, h)
  store_named ns u f Nothing h n = (tt, h)

  onward_named : (f : Frame) (b : ℕ) (o : Option (List ValueTree × Memory)) → MemoryNamed p f.mem → PutNamed p o → HandsNamed (class.onward f b o)
  onward_named f b None h n = (tt, h)
  onward_named f b (Some x) h n = n

  bound_named : (ns : Names) (u : ValueTree) (m : Memory) (o : Option Slotted) → MemoryNamed p m → Named p u → PutNamed p (class.bound ns u m o)
  bound_named ns u m None h n = ((n, tt), h)
  bound_named ns u m (Some q) h n = put_named p ns.records m q [] u h n

  callback_named : (ns : Names) (u : ValueTree) (f : Frame) (o : Option CallbackTree) → MemoryNamed p f.mem → Named p u → HandsNamed (class.take_callback ns u f o)
  callback_named ns u f None h n = (tt, h)
  callback_named ns u f (Some c) h n = onward_named f c.block (class.bound ns u f.mem c.into) h (bound_named ns u f.mem c.into h n)

  pub take_named : (ns : Names) (b : ℕ) (u : ValueTree) (f : Frame) (x : Fetched) → MemoryNamed p f.mem → Named p u → HandsNamed (class.take_at ns b u f x)
  take_named ns b u f (Last (ChooseLast g)) h n = callback_named ns u f (callback_at f.code g b) h n
  take_named ns b u f (Last (GotoLast c)) h n = (tt, h)
  take_named ns b u f (Last (PassLast c)) h n = (tt, h)
  take_named ns b u f (Last (TestLast e c d)) h n = (tt, h)
  take_named ns b u f (Last (ReturnLast e)) h n = (tt, h)
  take_named ns b u f (Last (ThrowLast e)) h n = (tt, h)
  take_named ns b u f (Body i) h n = (tt, h)
  take_named ns b u f Nothing h n = (tt, h)

  error_named : (o : Option ℕ) (err : ℕ) (m : Memory) → MemoryNamed p m → MemoryNamed p (with_error o err m)
  error_named None err m h = h
  error_named (Some n) err m h = write_named p m (Local n) (Some (ErrorValue err)) h tt

  raised_named : (err : ℕ) (f : Frame) (o : Option CatcherTree) → MemoryNamed p f.mem → AllNamed p (raised err f o).0.values × MemoryNamed p (raised err f o).1.mem
  raised_named err f None h = (everything_named p f.mem h, record { slots = tt; locals = tt })
  raised_named err f (Some c) h = (held_named p f.mem c.drops h, error_named c.error err (emptied c.drops f.mem) (emptied_named p c.drops f.mem h))

  pub raise_named : (err : ℕ) (f : Frame) → MemoryNamed p f.mem → AllNamed p (raise err f).0.values × MemoryNamed p (raise err f).1.mem
  raise_named err f h = raised_named err f (catcher_at f.code f.block) h

  filled_slots : (vs : List ValueTree) → AllNamed p vs → PlacesNamed p (map Some vs)
  filled_slots [] h = tt
  filled_slots (v ∷ vs) h = (h.0, filled_slots vs h.1)

  begun_named : (c : ClassTree) (vs : List ValueTree) → AllNamed p vs → MemoryNamed p (begun c vs).mem
  begun_named c vs h = record { slots = joined_named p (map Some vs) (blanks (drop c.params c.slots)) (filled_slots vs h) (blanks_named p (drop c.params c.slots)); locals = blanks_named p c.locals }

  abbrev pub MaybeFrame : Option Frame → Type 0
  MaybeFrame None = Unit {0}
  MaybeFrame (Some f) = MemoryNamed p f.mem

  pub fresh_named : (o : Option ClassTree) (vs : List ValueTree) → AllNamed p vs → MaybeFrame (fresh_from o vs)
  fresh_named None vs h = tt
  fresh_named (Some c) vs h = by_test (nat_eq (length vs) c.params)
    where
      by_test : (t : Bool) → MaybeFrame (if t then Some (begun c vs) else None)
      by_test true = begun_named c vs h
      by_test false = tt
