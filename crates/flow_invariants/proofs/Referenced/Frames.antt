-- What a step takes out of a frame it gives: nothing that a frame refers to is forgotten.
use Rattle.std.proofs.Common.{◌≡◌, ◌⊎◌, inl, inr, ℕ, zero, suc, ◌+◌, ◌<◌, ◌≤◌, Bool, true, false, List, [], ◌∷◌, length, refl, sym, ap, ◌∙◌, arith}
use Rattle.std.specs.Prelude.{nat_lt, slice_set}
use Rattle.std.specs.declared.option.Option.{Option}
use Rattle.std.specs.declared.option.Option.TheVariants.{None, Some}
use Rattle.std.specs.Option.{option_map}
use Rattle.flow_tree.specs.declared.ty.Ident.{Ident}
use Rattle.flow_tree.specs.Tree.{ExprTree, ExprTrees, TypeTree, returned_expr}
use Rattle.flow_tree.specs.Decls.{RecordTree}
use Rattle.flow_tree.specs.declared.limits.TheConstants.{ELEMENTS}
use Rattle.flow_value.specs.Values.{ValueTree, IntValue, BoolValue, TextValue, VoidValue, ErrorValue, CompositeValue, RefValue, ValueTrees, NoValues, ListWhole, count_of, with_last}
use Rattle.flow_value.specs.declared.value.Kind.{Kind}
use Rattle.flow_eval.specs.Eval.{Res, Done, Fails, Spent, Meaningless, then}
use Rattle.flow_eval.specs.Answers.{bool_of, error_of, arg}
use Rattle.flow_eval.specs.Functions.{read_in, put_in, default_value}
use Rattle.flow_class.specs.declared.class.Slotted.{Slotted}
use Rattle.flow_class.specs.declared.class.Slotted.TheVariants.{Slot, Local}
use Rattle.flow_class.specs.Places.{place_named}
use Rattle.flow_class.specs.Classes.{InstrTree, SetInstr, EffectInstr, NewInstr, ActInstr, DropInstr, LastTree, GotoLast, PassLast, TestLast, ChooseLast, ReturnLast, ThrowLast, CallbackTree}
use Rattle.flow_class.specs.Code.{type_at, Fetched, Body, Last, Nothing, fetch, callback_at}
use Rattle.flow_meaning.specs.Cells.{Side}
use Rattle.flow_meaning.specs.Requests.{Spot, Goal, Stored, Kept, Act, Drops, Waits, Returns, Effects, Ask}
use Rattle.flow_meaning.specs.Process.{View}
use Rattle.flow_meaning.specs.References.{count, refs_in}
use Rattle.flow_meaning.specs.Variables.{filled}
use Rattle.flow_meaning.specs.Evaluating.{Names, bind, StepOf, asks, given, evaluated, Effectful, effect_in, effect_of, value, values, call_act, Change, Grows, Clears, Storing, change_of, before_last, changed, grown_by, call_by}
use Rattle.flow_meaning.specs.Frame.{Memory, Frame, look, read, write, everything, occ_memory, put_root, put_at, assign, spot_of, next_instr, over}
use Rattle.flow_meaning.specs.Class as class
use Rattle.flow_meaning.proofs.Shifts.{same_of}
use Rattle.flow_meaning.proofs.InOrder.{no_thing}
use Rattle.flow_heap_refinement.specs.Holding.{InMemory}
use Rattle.flow_heap_refinement.proofs.Holding.{of_path, of_locals, of_all_locals}
use Rattle.flow_heap_refinement.proofs.Sums.{longer_refs, one_refs}

module _ (s : Side) (k : ℕ) where
  abbrev pub holds : Memory → ℕ
  holds m = occ_memory s k m

  abbrev pub all : List ValueTree → ℕ
  all vs = count s k (refs_in vs)

  -- a place is there, or writing it changes nothing
  set_beyond : (os : List (Option ValueTree)) (n : ℕ) (o : Option ValueTree) → (n < length os → ⊥) → slice_set os n o ≡ os
  set_beyond [] n o h = refl
  set_beyond (x ∷ os) zero o h = absurd (h (omega arith))
  set_beyond (x ∷ os) (suc n) o h = ap (λ l. x ∷ l) (set_beyond os n o (λ l. h (omega (arith, l))))

  is_there : (m : Memory) (q : Slotted) → InMemory m q ⊎ ((o : Option ValueTree) → write m q o ≡ m)
  is_there m (Slot n) = by_test (nat_lt n (length m.slots)) refl
    where
      by_test : (b : Bool) → nat_lt n (length m.slots) ≡ b → InMemory m (Slot n) ⊎ ((o : Option ValueTree) → write m (Slot n) o ≡ m)
      by_test true e = inl (grind (arith, e))
      by_test false e = inr (λ o. ap (λ l. record m { slots = l }) (set_beyond m.slots n o (λ l. let f : ⊥ = grind (arith, e, l) in f)))
  is_there m (Local n) = by_test (nat_lt n (length m.locals)) refl
    where
      by_test : (b : Bool) → nat_lt n (length m.locals) ≡ b → InMemory m (Local n) ⊎ ((o : Option ValueTree) → write m (Local n) o ≡ m)
      by_test true e = inl (grind (arith, e))
      by_test false e = inr (λ o. ap (λ l. record m { locals = l }) (set_beyond m.locals n o (λ l. let f : ⊥ = grind (arith, e, l) in f)))

  -- what a path leads to gets a value: what stood there comes out, or the place isn't there
  put_holds : (rs : List RecordTree) (m : Memory) (q : Slotted) (xs : List Ident) (v : ValueTree) (x : List ValueTree × Memory) → put_at rs m q xs v ≡ Some x
      → (holds x.1 + all x.0 ≡ holds m + all (v ∷ [])) ⊎ (holds x.1 ≡ holds m)
  put_holds rs m q xs v x e = by_there (is_there m q)
    where
      same_memory : ((o : Option ValueTree) → write m q o ≡ m) → (xs : List Ident) → put_at rs m q xs v ≡ Some x → m ≡ x.1
      same_memory h [] e = sym (h (Some v)) ∙ ap (λ (z : List ValueTree × Memory). z.1) (same_of e)
      same_memory h (y ∷ ys) e = by_root (put_in rs (read m q) (y ∷ ys) v) e
        where
          by_root : (o : Option ValueTree) → put_root m q (filled (read_in rs (read m q) (y ∷ ys) ∷ [])) o ≡ Some x → m ≡ x.1
          by_root None f = absurd (no_thing f)
          by_root (Some u) f = sym (h (Some u)) ∙ ap (λ (z : List ValueTree × Memory). z.1) (same_of f)

      by_there : InMemory m q ⊎ ((o : Option ValueTree) → write m q o ≡ m) → (holds x.1 + all x.0 ≡ holds m + all (v ∷ [])) ⊎ (holds x.1 ≡ holds m)
      by_there (inl l) = inl (of_path s k m rs q xs v x.0 x.1 l e)
      by_there (inr h) = inr (ap holds (sym (same_memory h xs e)))

  put_gives : (rs : List RecordTree) (m : Memory) (q : Slotted) (xs : List Ident) (v : ValueTree) (x : List ValueTree × Memory) → put_at rs m q xs v ≡ Some x → holds m ≤ holds x.1 + all x.0
  put_gives rs m q xs v x e = by_put (put_holds rs m q xs v x e)
    where
      by_put : (holds x.1 + all x.0 ≡ holds m + all (v ∷ [])) ⊎ (holds x.1 ≡ holds m) → holds m ≤ holds x.1 + all x.0
      by_put (inl a) = omega (arith, a)
      by_put (inr a) = omega (arith, a)

  assign_gives : (rs : List RecordTree) (m : Memory) (xs : List Ident) (v : ValueTree) (x : List ValueTree × Memory) → assign rs m xs v ≡ Some x → holds m ≤ holds x.1 + all x.0
  assign_gives rs m [] v x e = absurd (no_thing e)
  assign_gives rs m (y ∷ xs) v x e = by_place (place_named y.name) e
    where
      by_place : (o : Option Slotted) → bind o (λ p. put_at rs m p xs v) ≡ Some x → holds m ≤ holds x.1 + all x.0
      by_place None f = absurd (no_thing f)
      by_place (Some p) f = put_gives rs m p xs v x f

  -- what stood where it leads is what it takes
  put_takes : (rs : List RecordTree) (m : Memory) (q : Slotted) (xs : List Ident) (v : ValueTree) (x : List ValueTree × Memory) → put_at rs m q xs v ≡ Some x
      → x.0 ≡ filled (read_in rs (read m q) xs ∷ [])
  put_takes rs m q [] v x e = ap (λ (z : List ValueTree × Memory). z.0) (sym (same_of e)) ∙ by_value (read m q)
    where
      by_value : (o : Option ValueTree) → filled (o ∷ []) ≡ filled (read_in rs o [] ∷ [])
      by_value None = refl
      by_value (Some u) = refl
  put_takes rs m q (y ∷ ys) v x e = by_root (put_in rs (read m q) (y ∷ ys) v) e
    where
      by_root : (o : Option ValueTree) → put_root m q (filled (read_in rs (read m q) (y ∷ ys) ∷ [])) o ≡ Some x → x.0 ≡ filled (read_in rs (read m q) (y ∷ ys) ∷ [])
      by_root None f = absurd (no_thing f)
      by_root (Some u) f = ap (λ (z : List ValueTree × Memory). z.0) (sym (same_of f))

  assign_takes : (rs : List RecordTree) (m : Memory) (x : Ident) (xs : List Ident) (v : ValueTree) (z : List ValueTree × Memory) → assign rs m (x ∷ xs) v ≡ Some z
      → z.0 ≡ filled (read_in rs (look m x.name) xs ∷ [])
  assign_takes rs m x xs v z e = by_place (place_named x.name) e
    where
      by_place : (o : Option Slotted) → bind o (λ p. put_at rs m p xs v) ≡ Some z → z.0 ≡ filled (read_in rs (bind o (read m)) xs ∷ [])
      by_place None f = absurd (no_thing f)
      by_place (Some p) f = put_takes rs m p xs v z f

  -- a vector that grows is in what takes its place
  abbrev longer : ValueTrees → ValueTree → ValueTree
  longer es u = CompositeValue ListWhole (with_last es u)

  grows_give : (rs : List RecordTree) (m : Memory) (x : Ident) (xs : List Ident) (es : ValueTrees) (u : ValueTree) (z : List ValueTree × Memory)
      → read_in rs (look m x.name) xs ≡ Some (CompositeValue ListWhole es) → assign rs m (x ∷ xs) (CompositeValue ListWhole (with_last es u)) ≡ Some z → holds m ≤ holds z.1 + 0
  grows_give rs m x xs es u z read e = by_place (place_named x.name) e
    where
      taken : all z.0 ≡ all (CompositeValue ListWhole es ∷ [])
      taken = ap all (assign_takes rs m x xs (longer es u) z e ∙ ap (λ o. filled (o ∷ [])) read)

      by_put : (holds z.1 + all z.0 ≡ holds m + all (longer es u ∷ [])) ⊎ (holds z.1 ≡ holds m) → holds m ≤ holds z.1 + 0
      by_put (inl a) =
          let b = longer_refs s k es u in
          let c = one_refs s k (longer es u) in
          let d = one_refs s k (CompositeValue ListWhole es) in
          let t = taken in omega (arith, a, b, c, d, t)
      by_put (inr a) = omega (arith, a)

      by_place : (o : Option Slotted) → bind o (λ p. put_at rs m p xs (longer es u)) ≡ Some z → holds m ≤ holds z.1 + 0
      by_place None f = absurd (no_thing f)
      by_place (Some p) f = by_put (put_holds rs m p xs (longer es u) z f)

  -- what an act takes out of a frame
  abbrev pub handed : Act → List ValueTree
  handed (Drops vs) = vs
  handed (Waits spot vs) = vs
  handed (Returns v vs) = vs
  handed _ = []

  abbrev pub handed_by : Option Ask → List ValueTree
  handed_by None = []
  handed_by (Some ask) = handed ask.act

  module _ (ns : Names) (v : View) (f : Frame) where
    abbrev Gives : StepOf Frame → Type 0
    Gives r = holds f.mem ≤ holds r.1.mem + all (handed_by r.0)

    still : holds f.mem ≤ holds f.mem + 0
    still = omega arith

    given_gives : {B : Type 0} (o : Option B) (go : B → StepOf Frame) → ((x : B) → o ≡ Some x → Gives (go x)) → Gives (given f o go)
    given_gives None go h = still
    given_gives (Some x) go h = h x refl

    evaluated_gives : {B : Type 0} (r : Res B) (go : B → ℕ → StepOf Frame) → ((x : B) (left : ℕ) → Gives (go x left)) → Gives (evaluated f r go)
    evaluated_gives (Done x left) go h = h x left
    evaluated_gives (Fails e left) go h = still
    evaluated_gives Spent go h = still
    evaluated_gives Meaningless go h = still

    effects_give : (goal : Goal) (e : Effectful × ExprTrees) → Gives (class.effects ns v f goal e)
    effects_give goal e =
        evaluated_gives (values ns v (look f.mem) e.1) (λ vs left. given f (effect_of e.0 vs) (λ eff. asks left (Effects goal eff) f))
        (λ vs left. given_gives (effect_of e.0 vs) (λ eff. asks left (Effects goal eff) f) (λ eff q. still))

    -- a call hands out nothing that stood in the frame
    asked_gives : (act : Act) (left : ℕ) → Gives (asks left act (next_instr f.mem f))
    asked_gives act left = omega arith

    -- `new` makes a cell, or hands out what stood in the place
    new_gives : (p : Slotted) (t : TypeTree) (o : Option Kind) → Gives (class.new_by ns v f p t o)
    new_gives p t (Some kd) = still
    new_gives p t None =
        given_gives (default_value t) (λ u. given f (put_at ns.records f.mem p [] u) (class.placed ns v f v.left))
        (λ u q. given_gives (put_at ns.records f.mem p [] u) (class.placed ns v f v.left) (λ x e. put_gives ns.records f.mem p [] u x e))

    -- A change of a vector hands out the vector that stood there, or nothing that isn't in the new one.
    abbrev stores : (c : Storing) (xs : List Ident) → Type 0
    stores c xs = (x : List ValueTree × Memory) → assign ns.records f.mem xs c.0 ≡ Some x → holds f.mem ≤ holds x.1 + all c.1

    stored_gives : (left : ℕ) (c : Storing) (xs : List Ident) → stores c xs → (o : Option (List ValueTree × Memory)) → assign ns.records f.mem xs c.0 ≡ o
        → Gives (given f (option_map (λ (p : List ValueTree × Memory). next_instr p.1 f) o) (λ a. asks left (Drops c.1) a))
    stored_gives left c xs h None e = still
    stored_gives left c xs h (Some x) e = h x e

    -- what stands where a path leads, and how it goes on with what is put there
    abbrev here : Ident → List Ident → Option ValueTree
    here x xs = read_in ns.records (look f.mem x.name) xs

    abbrev put_on : Ident → List Ident → Storing → ℕ → StepOf Frame
    put_on x xs c left = given f (class.put_path ns v f (x ∷ xs) c.0) (λ a. asks left (Drops c.1) a)

    room_gives : (x : Ident) (xs : List Ident) (es : ValueTrees) (u : ValueTree) (left : ℕ) → here x xs ≡ Some (CompositeValue ListWhole es) → (b : Bool)
        → Gives (evaluated f (grown_by b es u left) (put_on x xs))
    room_gives x xs es u left e true =
        let c : Storing = (CompositeValue ListWhole (with_last es u), []) in
        stored_gives left c (x ∷ xs) (λ z q. grows_give ns.records f.mem x xs es u z e q) (assign ns.records f.mem (x ∷ xs) c.0) refl
    room_gives x xs es u left e false = still

    change_gives : (how : Change) (x : Ident) (xs : List Ident) (vs : List ValueTree) (left : ℕ) (o : Option ValueTree) → here x xs ≡ o
        → Gives (evaluated f (changed how vs o left) (put_on x xs))
    change_gives Grows x xs vs left (Some (CompositeValue ListWhole es)) e = room_gives x xs es (arg vs 0) left e (nat_lt (count_of es) ELEMENTS)
    change_gives Clears x xs vs left (Some (CompositeValue ListWhole es)) e =
        let c : Storing = (CompositeValue ListWhole NoValues, CompositeValue ListWhole es ∷ []) in
        stored_gives left c (x ∷ xs)
        (λ z q.
        let a = assign_gives ns.records f.mem (x ∷ xs) c.0 z q in
        let b = ap all (assign_takes ns.records f.mem x xs c.0 z q ∙ ap (λ o. filled (o ∷ [])) e) in omega (arith, a, b)) (assign ns.records f.mem (x ∷ xs) c.0) refl
    change_gives how x xs vs left o e = still

    values_give : (how : Change) (x : Ident) (xs : List Ident) (r : Res (List ValueTree)) → Gives (evaluated f (then r (λ vs left. changed how vs (here x xs) left)) (put_on x xs))
    values_give how x xs (Done vs left) = change_gives how x xs vs left (here x xs) refl
    values_give how x xs (Fails e left) = still
    values_give how x xs Spent = still
    values_give how x xs Meaningless = still

    call_gives : (o : Option Change) (path : List Ident) (es : ExprTrees) → Gives (call_by ns v (look f.mem) o f (next_instr f.mem f) (class.put_path ns v f) path es)
    call_gives None path es = evaluated_gives (call_act ns v (look f.mem) path es) (λ act left. asks left act (next_instr f.mem f)) (λ act left. asked_gives act left)
    call_gives (Some how) [] es = still
    call_gives (Some how) (x ∷ []) es = still
    call_gives (Some how) (x ∷ y ∷ ys) es = values_give how x (before_last y ys) (values ns v (look f.mem) es)

    instruction_gives : (i : InstrTree) → Gives (class.instruction ns v f i)
    instruction_gives (SetInstr path e) =
        evaluated_gives (value ns v (look f.mem) e) (λ u left. given f (assign ns.records f.mem path u) (class.placed ns v f left))
        (λ u left. given_gives (assign ns.records f.mem path u) (class.placed ns v f left) (λ x q. assign_gives ns.records f.mem path u x q))
    instruction_gives (EffectInstr path e) = given_gives (effect_in ns e) (class.effects ns v f Stored) (λ g q. effects_give Stored g)
    instruction_gives (NewInstr p) = given_gives (type_at f.code p) (λ t. class.new_by ns v f p t (class.promise_kind t)) (λ t q. new_gives p t (class.promise_kind t))
    instruction_gives (ActInstr path es) = call_gives (change_of path) path es
    instruction_gives (DropInstr locals) = let a = of_locals s k f.mem locals in omega (arith, a)

    test_gives : (left : ℕ) (b : Option Bool) (y n : ℕ) → Gives (class.test ns v f left b y n)
    test_gives left None y n = still
    test_gives left (Some true) y n = still
    test_gives left (Some false) y n = still

    ref_gives : (left : ℕ) (spot : Spot) (u : ValueTree) → Gives (class.operand_ref ns v f left spot u)
    ref_gives left spot (RefValue kd cell) = still
    ref_gives left spot (IntValue z) = still
    ref_gives left spot (BoolValue z) = still
    ref_gives left spot (TextValue z) = still
    ref_gives left spot VoidValue = still
    ref_gives left spot (ErrorValue z) = still
    ref_gives left spot (CompositeValue z vs) = still

    operand_gives : (spot : Spot) (e : ExprTree) (o : Option (Effectful × ExprTrees)) → Gives (class.operand_by ns v f spot e o)
    operand_gives spot e (Some g) = effects_give (Kept spot) g
    operand_gives spot e None = evaluated_gives (value ns v (look f.mem) e) (λ u left. class.operand_ref ns v f left spot u) (λ u left. ref_gives left spot u)

    choose_gives : (spot : Spot) (o : Option CallbackTree) → Gives (class.choose ns v f spot o)
    choose_gives spot (Some c) = operand_gives spot c.operand (effect_in ns c.operand)
    choose_gives spot None = let a = of_all_locals s k f.mem in omega (arith, a)

    throw_gives : (left : ℕ) (o : Option ℕ) → Gives (class.throw_value ns v f left o)
    throw_gives left None = still
    throw_gives left (Some e) = still

    last_gives : (l : LastTree) → Gives (class.last ns v f l)
    last_gives (GotoLast b) = still
    last_gives (PassLast b) = still
    last_gives (TestLast e y n) = evaluated_gives (value ns v (look f.mem) e) (λ u left. class.test ns v f left (bool_of u) y n) (λ u left. test_gives left (bool_of u) y n)
    last_gives (ChooseLast g) = choose_gives (spot_of f.code g) (callback_at f.code g v.kept)
    last_gives (ReturnLast e) = evaluated_gives (value ns v (look f.mem) (returned_expr e)) (λ u left. asks left (Returns u (everything f.mem)) over) (λ u left. omega arith)
    last_gives (ThrowLast e) = evaluated_gives (value ns v (look f.mem) e) (λ u left. class.throw_value ns v f left (error_of u)) (λ u left. throw_gives left (error_of u))

    fetched_gives : (x : Fetched) → Gives (class.fetched ns v f x)
    fetched_gives (Body i) = instruction_gives i
    fetched_gives (Last l) = last_gives l
    fetched_gives Nothing = still

    pub next_gives : Gives (class.next_step ns v f)
    next_gives = fetched_gives (fetch f.code f.block f.instr)
