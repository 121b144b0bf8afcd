-- Frames do the same whatever the places of their classes are.
use Rattle.std.proofs.Common.{◌≡◌, ℕ, zero, suc, ◌+◌, nat_eq, Bool, true, false, List, [], ◌∷◌, map, length, refl, sym, ap, ap₂, ◌∙◌, if◌then◌else◌}
use Rattle.std.specs.Prelude.{option_map, slice_get, unwrap_or}
use Rattle.std.specs.Option.{option_and_then}
use Rattle.std.specs.declared.option.Option.{Option}
use Rattle.std.specs.declared.option.Option.TheVariants.{None, Some}
use Rattle.std.proofs.lemmas.List.{length-map}
use Rattle.flow_tree.specs.declared.ty.Ident.{Ident}
use Rattle.flow_tree.specs.Tree.{ExprTree, ExprTrees, TypeTree}
use Rattle.flow_tree.specs.Decls.{RecordTree}
use Rattle.flow_tree.specs.Canon.{placeless_ident, placeless_expr, placeless_exprs, placeless_record}
use Rattle.flow_value.specs.Values.{ValueTree, RefValue}
use Rattle.flow_value.specs.declared.value.Kind.{Kind}
use Rattle.flow_eval.specs.Answers.{bool_of, error_of}
use Rattle.flow_eval.specs.Functions.{default_value}
use Rattle.flow_class.specs.declared.class.Slotted.{Slotted}
use Rattle.flow_class.specs.declared.class.Slotted.TheVariants.{Slot, Local}
use Rattle.flow_class.specs.Classes.{CatcherTree, InstrTree, SetInstr, EffectInstr, NewInstr, ActInstr, DropInstr, LastTree, GotoLast, PassLast, TestLast, ChooseLast, ReturnLast, ThrowLast, BlockTree, CallbackTree, ClassTree, RawTree}
use Rattle.flow_class.specs.Places.{place_named}
use Rattle.flow_class.specs.Code.{Fetched, Body, Last, Nothing, fetch, fetch_in, fetch_at, catcher_in, catcher_at, group_at, callbacks_before, callback_at, type_at}
use Rattle.flow_meaning.specs.Requests.{Spot, Make, Goal, Stored, Kept, Effects, Returns}
use Rattle.flow_meaning.specs.Process.{View}
use Rattle.flow_meaning.specs.Evaluating.{Names, bind, StepOf, asks, given, evaluated, Effectful, effect_in, effect_of, value, values, call_act}
use Rattle.flow_meaning.specs.Variables.{filled}
use Rattle.flow_meaning.specs.Frame.{Memory, Frame, read, look, everything, put_root, put_at, assign, spot_of, next_instr, over, raised}
use Rattle.flow_meaning.specs.Class as class
use Rattle.flow_meaning.specs.Source.{main_of}
use Rattle.flow_meaning.specs.Placeless.{placeless_instr, placeless_last, placeless_block, placeless_callback, placeless_class, placeless_classes}
use Rattle.flow_meaning.proofs.BareParts.{get-map, put_in_bare, read_in_bare}
use Rattle.flow_meaning.proofs.BareActs.{placeless_names, through, placeless_effect, evaluated_through, given_same, given_through, effect_in_bare, value_bare, values_bare, call_act_bare, call_through}
use Rattle.flow_meaning.proofs.Mirrors.{Mirrors}

abbrev pub placeless_frame : Frame → Frame
placeless_frame f = record { code = placeless_class f.code; mem = f.mem; block = f.block; instr = f.instr; state = f.state }

abbrev placeless_fetched : Fetched → Fetched
placeless_fetched (Body i) = Body (placeless_instr i)
placeless_fetched (Last l) = Last (placeless_last l)
placeless_fetched Nothing = Nothing

-- what stands where in a class
in_block : (is : List InstrTree) (l : LastTree) (n : ℕ) → fetch_in (map placeless_instr is) (placeless_last l) n ≡ placeless_fetched (fetch_in is l n)
in_block [] l zero = refl
in_block [] l (suc n) = refl
in_block (i ∷ is) l zero = refl
in_block (i ∷ is) l (suc n) = in_block is l n

at_block : (o : Option BlockTree) (n : ℕ) → fetch_at (option_map placeless_block o) n ≡ placeless_fetched (fetch_at o n)
at_block None n = refl
at_block (Some x) n = in_block x.body x.last n

module _ (c : ClassTree) where
  fetch_bare : (k n : ℕ) → fetch (placeless_class c) k n ≡ placeless_fetched (fetch c k n)
  fetch_bare k n = ap (λ o. fetch_at o n) (get-map placeless_block c.blocks k) ∙ at_block (slice_get c.blocks k) n

  catcher_bare : (k : ℕ) → catcher_at (placeless_class c) k ≡ catcher_at c k
  catcher_bare k = ap catcher_in (get-map placeless_block c.blocks k) ∙ by_block (slice_get c.blocks k)
    where
      by_block : (o : Option BlockTree) → catcher_in (option_map placeless_block o) ≡ catcher_in o
      by_block None = refl
      by_block (Some x) = refl

  group_bare : (n : ℕ) → group_at (placeless_class c).groups n ≡ option_map (map placeless_callback) (group_at c.groups n)
  group_bare zero = refl
  group_bare (suc n) = get-map (map placeless_callback) c.groups n

  callback_bare : (g n : ℕ) → callback_at (placeless_class c) g n ≡ option_map placeless_callback (callback_at c g n)
  callback_bare g n = ap (option_and_then (λ cs. slice_get cs n)) (group_bare g) ∙ by_group (group_at c.groups g)
    where
      by_group : (o : Option (List CallbackTree)) → option_and_then (λ cs. slice_get cs n) (option_map (map placeless_callback) o)
          ≡ option_map placeless_callback (option_and_then (λ cs. slice_get cs n) o)
      by_group None = refl
      by_group (Some cs) = get-map placeless_callback cs n

  type_bare : (p : Slotted) → type_at (placeless_class c) p ≡ type_at c p
  type_bare (Slot n) = refl
  type_bare (Local n) = refl

before_bare : (gs : List (List CallbackTree)) (n : ℕ) → callbacks_before (map (map placeless_callback) gs) n ≡ callbacks_before gs n
before_bare gs zero = refl
before_bare gs (suc zero) = refl
before_bare [] (suc (suc n)) = refl
before_bare (g ∷ gs) (suc (suc n)) = ap₂ (λ x y. x + y) (length-map g placeless_callback) (before_bare gs (suc n))

abbrev spot_at : ℕ → ℕ → Spot
spot_at g n = record { group = g; first = n }

spot_same : (c : ClassTree) (g : ℕ) → spot_of (placeless_class c) g ≡ spot_of c g
spot_same c g = ap (spot_at g) (before_bare c.groups g)

-- assignments
bind_same : {A B : Type 0} (o : Option A) (go next : A → Option B) → ((x : A) → go x ≡ next x) → bind o go ≡ bind o next
bind_same None go next h = refl
bind_same (Some x) go next h = h x

module _ (rs : List RecordTree) where
  put_bare : (m : Memory) (p : Slotted) (xs : List Ident) (u : ValueTree) → put_at (map placeless_record rs) m p (map placeless_ident xs) u ≡ put_at rs m p xs u
  put_bare m p [] u = refl
  put_bare m p (y ∷ ys) u = ap₂ (λ q o. put_root m p (filled (q ∷ [])) o) (read_in_bare rs (read m p) (y ∷ ys)) (put_in_bare rs (read m p) (y ∷ ys) u)

  assign_bare : (m : Memory) (xs : List Ident) (u : ValueTree) → assign (map placeless_record rs) m (map placeless_ident xs) u ≡ assign rs m xs u
  assign_bare m [] u = refl
  assign_bare m (x ∷ xs) u = bind_same (place_named x.name) (λ p. put_at (map placeless_record rs) m p (map placeless_ident xs) u) (λ p. put_at rs m p xs u) (λ p. put_bare m p xs u)

module _ (ns : Names) (v : View) (f : Frame) where
  abbrev b : Names
  b = placeless_names ns

  effects_through : (g : Goal) (x : Effectful × ExprTrees) → class.effects b v (placeless_frame f) g (placeless_effect x) ≡ through placeless_frame (class.effects ns v f g x)
  effects_through g x =
      evaluated_through placeless_frame f
      (λ vs left. given f (effect_of x.0 vs) (λ eff. asks left (Effects g eff) f)) (λ vs left. given (placeless_frame f) (effect_of x.0 vs) (λ eff. asks left (Effects g eff) (placeless_frame f)))
      (values ns v (look f.mem) x.1) (values b v (look f.mem) (placeless_effect x).1) (values_bare ns v (look f.mem) x.1)
      (λ vs left. given_same placeless_frame f (λ eff. asks left (Effects g eff) f) (λ eff. asks left (Effects g eff) (placeless_frame f)) (effect_of x.0 vs) (λ eff. refl))

  valued_through : (go : ValueTree → ℕ → StepOf Frame) (next : ValueTree → ℕ → StepOf Frame) (e : ExprTree) → ((u : ValueTree) (left : ℕ) → next u left ≡ through placeless_frame (go u left))
      → evaluated (placeless_frame f) (value b v (look f.mem) (placeless_expr e)) next ≡ through placeless_frame (evaluated f (value ns v (look f.mem) e) go)
  valued_through go next e h = evaluated_through placeless_frame f go next (value ns v (look f.mem) e) (value b v (look f.mem) (placeless_expr e)) (value_bare ns v (look f.mem) e) h

  placed_through : (path : List Ident) (u : ValueTree) (left : ℕ)
      → given (placeless_frame f) (assign b.records f.mem (map placeless_ident path) u) (class.placed b v (placeless_frame f) left)
      ≡ through placeless_frame (given f (assign ns.records f.mem path u) (class.placed ns v f left))
  placed_through path u left =
      ap (λ o. given (placeless_frame f) o (class.placed b v (placeless_frame f) left)) (assign_bare ns.records f.mem path u)
      ∙ given_same placeless_frame f (class.placed ns v f left) (class.placed b v (placeless_frame f) left) (assign ns.records f.mem path u) (λ p. refl)

  -- a new cell, or the value that a type has at first
  new_through : (p : Slotted) (t : TypeTree) (o : Option Kind) → class.new_by b v (placeless_frame f) p t o ≡ through placeless_frame (class.new_by ns v f p t o)
  new_through p t (Some k) = refl
  new_through p t None =
      given_same placeless_frame f (λ u. given f (put_at ns.records f.mem p [] u) (class.placed ns v f v.left))
      (λ u. given (placeless_frame f) (put_at b.records f.mem p [] u) (class.placed b v (placeless_frame f) v.left)) (default_value t)
      (λ u. ap (λ o. given (placeless_frame f) o (class.placed b v (placeless_frame f) v.left)) (put_bare ns.records f.mem p [] u)
      ∙ given_same placeless_frame f (class.placed ns v f v.left) (class.placed b v (placeless_frame f) v.left) (put_at ns.records f.mem p [] u) (λ q. refl))

  put_through : (path : List Ident) (u : ValueTree) → class.put_path b v (placeless_frame f) (map placeless_ident path) u ≡ option_map placeless_frame (class.put_path ns v f path u)
  put_through path u = ap (λ o. option_map (λ (p : List ValueTree × Memory). next_instr p.1 (placeless_frame f)) o) (assign_bare ns.records f.mem path u) ∙ by_thing (assign ns.records f.mem path u)
    where
      by_thing : (o : Option (List ValueTree × Memory))
          → option_map (λ (p : List ValueTree × Memory). next_instr p.1 (placeless_frame f)) o ≡ option_map placeless_frame (option_map (λ (p : List ValueTree × Memory). next_instr p.1 f) o)
      by_thing None = refl
      by_thing (Some p) = refl

  instr_through : (i : InstrTree) → class.instruction b v (placeless_frame f) (placeless_instr i) ≡ through placeless_frame (class.instruction ns v f i)
  instr_through (SetInstr path e) =
      valued_through (λ u left. given f (assign ns.records f.mem path u) (class.placed ns v f left))
      (λ u left. given (placeless_frame f) (assign b.records f.mem (map placeless_ident path) u) (class.placed b v (placeless_frame f) left)) e (placed_through path)
  instr_through (EffectInstr path e) =
      given_through placeless_frame f (class.effects ns v f Stored) (class.effects b v (placeless_frame f) Stored) placeless_effect (effect_in ns e) (effect_in b (placeless_expr e))
      (effect_in_bare ns e) (effects_through Stored)
  instr_through (NewInstr p) =
      ap (λ o. given (placeless_frame f) o (λ t. class.new_by b v (placeless_frame f) p t (class.promise_kind t))) (type_bare f.code p)
      ∙ given_same placeless_frame f (λ t. class.new_by ns v f p t (class.promise_kind t)) (λ t. class.new_by b v (placeless_frame f) p t (class.promise_kind t)) (type_at f.code p)
      (λ t. new_through p t (class.promise_kind t))
  instr_through (ActInstr path es) =
      call_through ns v (look f.mem) placeless_frame f (next_instr f.mem f) (class.put_path ns v f) (class.put_path b v (placeless_frame f)) put_through path es
  instr_through (DropInstr ls) = refl

  test_through : (left : ℕ) (o : Option Bool) (y n : ℕ) → class.test b v (placeless_frame f) left o y n ≡ through placeless_frame (class.test ns v f left o y n)
  test_through left None y n = refl
  test_through left (Some true) y n = refl
  test_through left (Some false) y n = refl

  ref_through : (left : ℕ) (p : Spot) (u : ValueTree) → class.operand_ref b v (placeless_frame f) left p u ≡ through placeless_frame (class.operand_ref ns v f left p u)
  ref_through left p (RefValue k cell) = refl
  ref_through left p u = refl

  operand_through : (p : Spot) (e : ExprTree) (o : Option (Effectful × ExprTrees))
      → class.operand_by b v (placeless_frame f) p (placeless_expr e) (option_map placeless_effect o) ≡ through placeless_frame (class.operand_by ns v f p e o)
  operand_through p e (Some x) = effects_through (Kept p) x
  operand_through p e None =
      valued_through (λ u left. class.operand_ref ns v f left p u) (λ u left. class.operand_ref b v (placeless_frame f) left p u) e (λ u left. ref_through left p u)

  choose_through : (p : Spot) (o : Option CallbackTree) → class.choose b v (placeless_frame f) p (option_map placeless_callback o) ≡ through placeless_frame (class.choose ns v f p o)
  choose_through p (Some c) = ap (class.operand_by b v (placeless_frame f) p (placeless_expr c.operand)) (effect_in_bare ns c.operand) ∙ operand_through p c.operand (effect_in ns c.operand)
  choose_through p None = refl

  throw_through : (left : ℕ) (o : Option ℕ) → class.throw_value b v (placeless_frame f) left o ≡ through placeless_frame (class.throw_value ns v f left o)
  throw_through left None = refl
  throw_through left (Some err) = refl

  last_through : (l : LastTree) → class.last b v (placeless_frame f) (placeless_last l) ≡ through placeless_frame (class.last ns v f l)
  last_through (GotoLast k) = refl
  last_through (PassLast k) = refl
  last_through (TestLast e y n) =
      valued_through (λ u left. class.test ns v f left (bool_of u) y n) (λ u left. class.test b v (placeless_frame f) left (bool_of u) y n) e (λ u left. test_through left (bool_of u) y n)
  last_through (ChooseLast g) =
      ap₂ (class.choose b v (placeless_frame f)) (spot_same f.code g) (callback_bare f.code g v.kept) ∙ choose_through (spot_of f.code g) (callback_at f.code g v.kept)
  last_through (ReturnLast None) = refl
  last_through (ReturnLast (Some e)) =
      valued_through (λ u left. asks left (Returns u (everything f.mem)) over) (λ u left. asks left (Returns u (everything f.mem)) over) e (λ u left. refl)
  last_through (ThrowLast e) =
      valued_through (λ u left. class.throw_value ns v f left (error_of u)) (λ u left. class.throw_value b v (placeless_frame f) left (error_of u)) e (λ u left. throw_through left (error_of u))

  fetched_through : (x : Fetched) → class.fetched b v (placeless_frame f) (placeless_fetched x) ≡ through placeless_frame (class.fetched ns v f x)
  fetched_through (Body i) = instr_through i
  fetched_through (Last l) = last_through l
  fetched_through Nothing = refl

-- the results of effects, branches and errors
module _ (ns : Names) (u : ValueTree) (f : Frame) where
  stored_by : (o : Option (List ValueTree × Memory)) → class.stored (placeless_frame f) o ≡ through placeless_frame (class.stored f o)
  stored_by None = refl
  stored_by (Some p) = refl

  store_through : (x : Fetched) → class.store_at (placeless_names ns) u (placeless_frame f) (placeless_fetched x) ≡ through placeless_frame (class.store_at ns u f x)
  store_through (Body (EffectInstr path e)) = ap (class.stored (placeless_frame f)) (assign_bare ns.records f.mem path u) ∙ stored_by (assign ns.records f.mem path u)
  store_through (Body (NewInstr p)) = refl
  store_through x = refl

  bound_through : (k : ℕ) (o : Option Slotted) → class.onward (placeless_frame f) k (class.bound (placeless_names ns) u f.mem o) ≡ through placeless_frame (class.onward f k (class.bound ns u f.mem o))
  bound_through k None = refl
  bound_through k (Some p) = refl

  callback_through : (o : Option CallbackTree) → class.take_callback (placeless_names ns) u (placeless_frame f) (option_map placeless_callback o)
      ≡ through placeless_frame (class.take_callback ns u f o)
  callback_through None = refl
  callback_through (Some c) = bound_through c.block c.into

  take_through : (n : ℕ) (x : Fetched) → class.take_at (placeless_names ns) n u (placeless_frame f) (placeless_fetched x) ≡ through placeless_frame (class.take_at ns n u f x)
  take_through n (Last (ChooseLast g)) = ap (class.take_callback (placeless_names ns) u (placeless_frame f)) (callback_bare f.code g n) ∙ callback_through (callback_at f.code g n)
  take_through n x = refl

raised_through : (err : ℕ) (f : Frame) (o : Option CatcherTree) → raised err (placeless_frame f) o ≡ through placeless_frame (raised err f o)
raised_through err f None = refl
raised_through err f (Some c) = refl

fresh_through : (o : Option ClassTree) (vs : List ValueTree) → class.fresh_from (option_map placeless_class o) vs ≡ option_map placeless_frame (class.fresh_from o vs)
fresh_through None vs = refl
fresh_through (Some c) vs = by_test (nat_eq (length vs) c.params)
  where
    by_test : (t : Bool) → (if t then Some (class.begun (placeless_class c) vs) else None) ≡ option_map placeless_frame (if t then Some (class.begun c vs) else None)
    by_test true = refl
    by_test false = refl

names_same : (cs : List ClassTree) → map class.class_name (map placeless_class cs) ≡ map class.class_name cs
names_same [] = refl
names_same (c ∷ cs) = ap (λ z. c.name ∷ z) (names_same cs)

abbrev named_so : Names → List (List ℕ) → Names
named_so ns z = record { records = ns.records; functions = ns.functions; actors = z }

names_bare : (r : RawTree) → class.class_names (placeless_classes r) ≡ placeless_names (class.class_names r)
names_bare r = ap (named_so (placeless_names (class.class_names r))) (names_same r.classes)

pub classes_mirror : (r : RawTree) → Mirrors (class.classes r) (class.classes (placeless_classes r)) placeless_frame
classes_mirror r = record {
  main = sym (ap (λ (n : Names). main_of n.actors) (names_bare r));
  label = λ k. sym (ap (λ (n : Names). unwrap_or (slice_get n.actors k) []) (names_bare r));
  fresh = λ k vs. ap (λ o. class.fresh_from o vs) (get-map placeless_class r.classes k) ∙ fresh_through (slice_get r.classes k) vs;
  next = λ v f.
      ap₂ (λ n x. class.fetched n v (placeless_frame f) x) (names_bare r) (fetch_bare f.code f.block f.instr)
      ∙ fetched_through (class.class_names r) v f (fetch f.code f.block f.instr);
  lose = λ f. refl;
  store = λ u f.
      ap₂ (λ n x. class.store_at n u (placeless_frame f) x) (names_bare r) (fetch_bare f.code f.block f.instr)
      ∙ store_through (class.class_names r) u f (fetch f.code f.block f.instr);
  take = λ k u f.
      ap₂ (λ n x. class.take_at n k u (placeless_frame f) x) (names_bare r) (fetch_bare f.code f.block f.instr)
      ∙ take_through (class.class_names r) u f k (fetch f.code f.block f.instr);
  raise = λ err f. ap (raised err (placeless_frame f)) (catcher_bare f.code f.block) ∙ raised_through err f (catcher_at f.code f.block);
  occ = λ s k f. refl;
}

-- where a frame waits
pub spot_bare : (f : Frame) → spot_of f.code f.state ≡ spot_of (placeless_frame f).code (placeless_frame f).state
spot_bare f = sym (spot_same f.code f.state)
