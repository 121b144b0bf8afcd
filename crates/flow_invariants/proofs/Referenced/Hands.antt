-- What is handed to a frame that fits stands in it, and what it replaces is handed out.
use Rattle.std.proofs.Common.{◌≡◌, ℕ, ◌+◌, ◌≤◌, List, [], ◌∷◌, refl, sym, ap, subst, ◌∙◌, arith}
use Rattle.std.specs.Option.{option_map}
use Rattle.std.specs.declared.option.Option.{Option}
use Rattle.std.specs.declared.option.Option.TheVariants.{None, Some}
use Rattle.flow_tree.specs.declared.ty.Ident.{Ident}
use Rattle.flow_tree.specs.Tree.{TypeTree, ErrorType}
use Rattle.flow_tree.specs.Decls.{ParamTree, RecordTree}
use Rattle.flow_ast.specs.Typing.{param_named}
use Rattle.flow_ast.specs.Fits.{path_type, fields_type}
use Rattle.flow_value.specs.Values.{ValueTree, ErrorValue}
use Rattle.flow_eval.proofs.TypedValues.{is_error_value}
use Rattle.flow_class.specs.declared.class.Slotted.{Slotted}
use Rattle.flow_class.specs.declared.class.Slotted.TheVariants.{Slot, Local}
use Rattle.flow_class.specs.Places.{place_named}
use Rattle.flow_class.specs.Classes.{CatcherTree, SetInstr, EffectInstr, NewInstr, ActInstr, DropInstr, ChooseLast, CallbackTree, ClassTree, RawTree}
use Rattle.flow_class.specs.Code.{type_at, Fetched, Body, Last, Nothing, fetch, callback_at}
use Rattle.flow_meaning.specs.Cells.{Side}
use Rattle.flow_meaning.specs.Evaluating.{bind}
use Rattle.flow_meaning.specs.Frame.{Memory, Frame, read, emptied, put_at, assign, with_error, raised}
use Rattle.flow_meaning.specs.Class.{class_names, stored, store_at, bound, onward, take_callback, take_at}
use Rattle.flow_meaning.proofs.InOrder.{no_thing}
use Rattle.flow_heap_refinement.specs.Holding.{held, InMemory}
use Rattle.flow_heap_refinement.proofs.Holding.{of_path, of_written, of_locals}
use Rattle.flow_progress.specs.Places.{AreNamed, HoldsTypes}
use Rattle.flow_progress.specs.Asking.{Stores}
use Rattle.flow_progress.proofs.Memories.{within_of, emptied_holds}
use Rattle.flow_invariants.proofs.Referenced.Frames.{holds, all}

module _ (rs : List RecordTree) (typed : ℕ → TypeTree → Type 0) (c : ClassTree) where
  -- a place of the class is in memory
  in_memory : (m : Memory) (q : Slotted) (t : TypeTree) → HoldsTypes rs typed c m → type_at c q ≡ Some t → InMemory m q
  in_memory m (Slot n) t h e = within_of c m (Slot n) t h.slots h.locals e
  in_memory m (Local n) t h e = within_of c m (Local n) t h.slots h.locals e

  no_fields : (xs : List Ident) (t : TypeTree) → fields_type rs None xs ≡ Some t → ⊥
  no_fields [] t e = no_thing e
  no_fields (y ∷ ys) t e = no_thing e

  -- where a path begins
  path_place : (vars : List ParamTree) (x : Ident) (xs : List Ident) (t : TypeTree) → AreNamed c vars → path_type rs vars (x ∷ xs) ≡ Some t
      → (q : Slotted) × (u : TypeTree) × (place_named x.name ≡ Some q) × (type_at c q ≡ Some u)
  path_place vars x xs t named e = by_var (param_named vars x.name) refl e
    where
      by_var : (o : Option ParamTree) → param_named vars x.name ≡ o → fields_type rs (option_map (λ (p : ParamTree). p.ty) o) xs ≡ Some t
          → (q : Slotted) × (u : TypeTree) × (place_named x.name ≡ Some q) × (type_at c q ≡ Some u)
      by_var None q f = absurd (no_fields xs t f)
      by_var (Some p) q f = let n = named x.name p q in (n.0, p.ty, n.1, n.2)

  module _ (s : Side) (k : ℕ) where
    put_takes : (m : Memory) (q : Slotted) (xs : List Ident) (v : ValueTree) (x : List ValueTree × Memory) → InMemory m q → put_at rs m q xs v ≡ Some x
        → holds s k m + all s k (v ∷ []) ≤ holds s k x.1 + all s k x.0
    put_takes m q xs v x l e = let a = of_path s k m rs q xs v x.0 x.1 l e in omega (arith, a)

    assign_takes : (m : Memory) (vars : List ParamTree) (xs : List Ident) (t : TypeTree) (v : ValueTree) (x : List ValueTree × Memory) → HoldsTypes rs typed c m → AreNamed c vars
        → path_type rs vars xs ≡ Some t → assign rs m xs v ≡ Some x
        → holds s k m + all s k (v ∷ []) ≤ holds s k x.1 + all s k x.0
    assign_takes m vars [] t v x h named e f = absurd (no_thing f)
    assign_takes m vars (y ∷ ys) t v x h named e f =
        let p = path_place vars y ys t named e in
        put_takes m p.0 ys v x (in_memory m p.0 p.1 h p.3) (ap (λ o. bind o (λ q. put_at rs m q ys v)) (sym p.2) ∙ f)

    -- an error that is replaced by another
    error_free : (m : Memory) (n : ℕ) → HoldsTypes rs typed c m → type_at c (Local n) ≡ Some ErrorType → held s k (read m (Local n)) ≡ 0
    error_free m n h e = by_value (read m (Local n)) refl
      where
        by_value : (o : Option ValueTree) → read m (Local n) ≡ o → held s k o ≡ 0
        by_value None q = refl
        by_value (Some v) q = let z = is_error_value rs typed v (h.types (Local n) ErrorType v e q) in ap (λ u. held s k (Some u)) z.1

    error_takes : (m : Memory) (o : Option ℕ) (err : ℕ) → HoldsTypes rs typed c m → ((n : ℕ) → o ≡ Some n → type_at c (Local n) ≡ Some ErrorType) → holds s k m ≤ holds s k (with_error o err m)
    error_takes m None err h e = omega arith
    error_takes m (Some n) err h e =
        let t = e n refl in
        let a = of_written s k m (Local n) (Some (ErrorValue err)) (in_memory m (Local n) ErrorType h t) in
        let b = error_free m n h t in omega (arith, a, b)

-- frames
module _ (r : RawTree) (typed : ℕ → TypeTree → Type 0) (vars : List ParamTree) (f : Frame) (named : AreNamed f.code vars) (h : HoldsTypes r.records typed f.code f.mem) (s : Side) (k : ℕ) where
  abbrev Takes : ValueTree → List ValueTree × Frame → Type 0
  Takes u z = holds s k f.mem + all s k (u ∷ []) ≤ holds s k z.1.mem + all s k z.0

  pub store_takes : (u : ValueTree) (t : TypeTree) (o : Fetched) → Stores r f.code vars o t → ((path : List Ident) (e : _) → o ≡ Body (EffectInstr path e) → assign r.records f.mem path u ≡ None → ⊥)
      → Takes u (store_at (class_names r) u f o)
  store_takes u t (Body (EffectInstr path e)) at some = by_put (assign r.records f.mem path u) refl
    where
      by_put : (o : Option (List ValueTree × Memory)) → assign r.records f.mem path u ≡ o → Takes u (stored f o)
      by_put None q = absurd (some path e refl q)
      by_put (Some x) q = assign_takes r.records typed f.code s k f.mem vars path t u x h named at q
  store_takes u t (Body (NewInstr p)) at some = put_takes r.records typed f.code s k f.mem p [] u _ (in_memory r.records typed f.code f.mem p t h at) refl
  store_takes u t (Body (SetInstr path e)) at some = absurd at
  store_takes u t (Body (ActInstr path es)) at some = absurd at
  store_takes u t (Body (DropInstr ns)) at some = absurd at
  store_takes u t (Last l) at some = absurd at
  store_takes u t Nothing at some = absurd at

  -- a branch that is taken
  callback_takes : (u : ValueTree) (x : CallbackTree) → ((p : Slotted) → x.into ≡ Some p → (t : TypeTree) × (type_at f.code p ≡ Some t)) → Takes u (take_callback (class_names r) u f (Some x))
  callback_takes u x typed_so = by_into x.into typed_so
    where
      by_into : (o : Option Slotted) → ((p : Slotted) → o ≡ Some p → (t : TypeTree) × (type_at f.code p ≡ Some t)) → Takes u (onward f x.block (bound (class_names r) u f.mem o))
      by_into None e = omega arith
      by_into (Some p) e = let t = e p refl in put_takes r.records typed f.code s k f.mem p [] u _ (in_memory r.records typed f.code f.mem p t.0 h t.1) refl

  pub take_takes : (n : ℕ) (u : ValueTree) (g : ℕ) (x : CallbackTree) → fetch f.code f.block f.instr ≡ Last (ChooseLast g) → callback_at f.code g n ≡ Some x
      → ((p : Slotted) → x.into ≡ Some p → (t : TypeTree) × (type_at f.code p ≡ Some t))
      → Takes u (take_at (class_names r) n u f (fetch f.code f.block f.instr))
  take_takes n u g x here there e =
      subst (λ z. Takes u (take_at (class_names r) n u f z)) (sym here)
      (subst (λ o. Takes u (take_callback (class_names r) u f o)) (sym there) (callback_takes u x e))

  -- an error that is thrown
  pub raise_takes : (err : ℕ) (x : Option CatcherTree) → ((y : CatcherTree) (n : ℕ) → x ≡ Some y → y.error ≡ Some n → type_at f.code (Local n) ≡ Some ErrorType)
      → holds s k f.mem ≤ holds s k (raised err f x).1.mem + all s k (raised err f x).0.values
  raise_takes err None e = omega arith
  raise_takes err (Some y) e =
      let a = of_locals s k f.mem y.drops in
      let b = error_takes r.records typed f.code s k (emptied y.drops f.mem) y.error err (emptied_holds r.records typed f.code y.drops f.mem h) (λ n q. e y n refl q) in omega (arith, a, b)
