-- A frame that is handed what it asked for stands where it goes on.
use Rattle.std.proofs.Common.{◌≡◌, ℕ, zero, suc, ◌<◌, ◌≤◌, nat_eq, nat_lt, Bool, true, false, ◌||◌, List, [], ◌∷◌, ◌++◌, length, map, drop, refl, sym, ap, ◌∙◌, subst, arith}
use Rattle.std.specs.Prelude.{slice_get}
use Rattle.std.specs.Option.{option_map}
use Rattle.std.specs.declared.option.Option.{Option}
use Rattle.std.specs.declared.option.Option.TheVariants.{None, Some}
use Rattle.flow_tree.specs.declared.ty.Ident.{Ident}
use Rattle.flow_tree.specs.Tree.{TypeTree, ErrorType, ExprTree}
use Rattle.flow_tree.specs.Decls.{ParamTree, SlotTree, RoutineTree}
use Rattle.flow_value.specs.Values.{ValueTree, ErrorValue, values_of_list}
use Rattle.flow_eval.specs.Typed.{HasType, HaveTypes}
use Rattle.flow_eval.proofs.TypedValues.{some_same, none_some}
use Rattle.flow_class.specs.declared.class.Slotted.{Slotted}
use Rattle.flow_class.specs.declared.class.Slotted.TheVariants.{Slot, Local}
use Rattle.flow_class.specs.Classes.{CatcherTree, SetInstr, EffectInstr, NewInstr, ActInstr, DropInstr, ChooseLast, CallbackTree, ClassTree, RawTree}
use Rattle.flow_class.specs.Code.{type_at, Fetched, Body, Last, Nothing, fetch, catcher_at, callback_at}
use Rattle.flow_valid.specs.Named.{listed, base_place, expr_places}
use Rattle.flow_valid.specs.Filling.{same_place, among, reads, dropped, is_error, is_parameter, Comes, begins}
use Rattle.flow_meaning.specs.Variables.{flat}
use Rattle.flow_meaning.specs.Frame.{assign, Memory, Frame, read, write, held_in, emptied, blanks, go, lose, with_error}
use Rattle.flow_meaning.specs.Class.{stored, store_at, bound, onward, take_callback, take_at, begun, class_names}
use Rattle.flow_progress.specs.Places.{Filled, HoldsTypes}
use Rattle.flow_progress.specs.FramesAtPoints.{Reached, FullAt, Stands, StandsWaiting}
use Rattle.flow_progress.specs.Rules.{first_types, takes_type, BranchFits, KeepsRules}
use Rattle.flow_progress.specs.Asking.{Stores, HaveSome}
use Rattle.flow_progress.proofs.Evaluates.{among_left}
use Rattle.flow_progress.proofs.Memories.{place_eq, blank_at, write_other, write_same, within_of, write_holds, emptied_holds, emptied_other, lost_holds}
use Rattle.flow_progress.proofs.Stood.{read_filled, reached_taken, full_taken, reached_failed, full_failed, full_wait_failed}
use Rattle.flow_progress.proofs.Assigned.{assigns, written_next, read_some}
use Rattle.flow_progress.proofs.Asks.{dropped_some, locals_some}

module _ (r : RawTree) (actors : List RoutineTree) (vars : List ParamTree) (typed : ℕ → TypeTree → Type 0) where
  -- what was handed out has types, and the frame stands
  abbrev pub Onward : ClassTree → List ValueTree × Frame → Type 0
  Onward c p = Stands r.records typed p.1 × HaveSome r.records typed p.0 × (p.1.code ≡ c)

  module _ (f : Frame) (rules : KeepsRules r actors f.code vars) where
    -- the result of an effect
    only_place : (p q : Slotted) → among (p ∷ []) q ≡ true → q ≡ p
    only_place p q h = place_eq q p (first (same_place q p) h)
      where
        first : (b : Bool) → b || false ≡ true → b ≡ true
        first true h = refl
        first false h = h

    -- the result of an effect has a place
    pub has_place : (u : ValueTree) (t : TypeTree) (path : List Ident) (e : ExprTree) → Stands r.records typed f → fetch f.code f.block f.instr ≡ Body (EffectInstr path e)
        → Stores r f.code vars (Body (EffectInstr path e)) t → HasType r.records typed u t
        → assign r.records f.mem path u ≡ None → ⊥
    has_place u t path e s here at k none =
        let full = λ (q : Slotted) (h : among (base_place path) q ≡ true).
        let h2 : among (reads f.code (fetch f.code f.block f.instr)) q ≡ true = subst (λ o. among (reads f.code o) q ≡ true) (sym here) (among_left (base_place path) (expr_places e) q h) in
        let z = rules.known f.block f.instr q h2 in
        read_filled f.code f.mem f.block f.instr rules.filled s.full q z.0 z.1 h2 in
        let a = assigns r.records typed f.code vars rules.places f.mem s.holds path t u at k full in
        differ none a.is
      where
        differ : {A : Type 0} {o : Option A} {x : A} → o ≡ None → o ≡ Some x → ⊥
        differ a b = cc

    pub store_fits : (u : ValueTree) (t : TypeTree) (o : Fetched) → Stands r.records typed f → fetch f.code f.block f.instr ≡ o → Stores r f.code vars o t → HasType r.records typed u t
        → Onward f.code (store_at (class_names r) u f o)
    store_fits u t (Body (EffectInstr path e)) s here at k =
        let full = λ (q : Slotted) (h : among (base_place path) q ≡ true).
        let h2 : among (reads f.code (fetch f.code f.block f.instr)) q ≡ true = subst (λ o. among (reads f.code o) q ≡ true) (sym here) (among_left (base_place path) (expr_places e) q h) in
        let z = rules.known f.block f.instr q h2 in
        read_filled f.code f.mem f.block f.instr rules.filled s.full q z.0 z.1 h2 in
        let a = assigns r.records typed f.code vars rules.places f.mem s.holds path t u at k full in
        subst (λ o. Onward f.code (stored f o)) (sym a.is)
        (written_next r.records typed f (EffectInstr path e) a.place a.type a.value s here a.at a.fits a.fills, a.dropped, refl)
    store_fits u t (Body (NewInstr p)) s here at k =
        (written_next r.records typed f (NewInstr p) p t u s here at k (only_place p), read_some r.records typed f.code f.mem p t s.holds at, refl)
    store_fits u t (Body (SetInstr path e)) s here at k = absurd at
    store_fits u t (Body (ActInstr path es)) s here at k = absurd at
    store_fits u t (Body (DropInstr ns)) s here at k = absurd at
    store_fits u t (Last l) s here at k = absurd at
    store_fits u t Nothing s here at k = absurd at

    -- a frame that loses its locals at a wait
    pub lose_fits : (g : ℕ) → Stands r.records typed f → fetch f.code f.block f.instr ≡ Last (ChooseLast g) → StandsWaiting r.records typed (lose f).1 × HaveSome r.records typed (lose f).0
    lose_fits g s here = (
      record {
        group = g;
        there = here;
        reached = s.reached;
        full = λ n t e never. s.full (Slot n) t e never;
        lost = λ n. blank_at f.mem.locals n;
        holds = lost_holds r.records typed f.code f.mem s.holds;
      },
      locals_some r.records typed f.code f.mem s.holds,
    )

    -- a branch is taken
    taken_here : (s : StandsWaiting r.records typed f) (n : ℕ) (k : CallbackTree) (u : ValueTree) (t : TypeTree) (o : Option Slotted) → k.into ≡ o → callback_at f.code s.group n ≡ Some k
        → BranchFits r actors f.code vars k
        → takes_type f.code o ≡ Some t → HasType r.records typed u t → Onward f.code (onward f k.block (bound (class_names r) u f.mem o))
    taken_here s n k u t None into at b e h = (
      record {
        there = b.goes;
        reached = reached_taken f.code f.block f.instr s.group n k s.there at s.reached;
        full = full_taken f.code f.mem f.mem f.block f.instr s.group n k s.there at s.reached s.full (λ p z has a. absurd (none_among p (subst (λ o. among (listed o) p ≡ true) into a)))
            (λ p a l x. x);
        holds = s.holds;
      },
      ((t, h), tt),
      refl,
    )
      where
        none_among : (p : Slotted) → false ≡ true → ⊥
        none_among p h = cc
    taken_here s n k u t (Some p) into at b e h =
        let m = write f.mem p (Some u) in
        let here : read m p ≡ Some u = write_same f.mem p (Some u) (within_of f.code f.mem p t s.holds.slots s.holds.locals e) in (
          record {
            there = b.goes;
            reached = reached_taken f.code f.block f.instr s.group n k s.there at s.reached;
            full = full_taken f.code f.mem m f.block f.instr s.group n k s.there at s.reached s.full
                (λ q z has a. subst (Filled m) (sym (only_place p q (subst (λ o. among (listed o) q ≡ true) into a))) (u, here))
                (λ q a l x. by_place q x (same_place q p) refl here);
            holds = write_holds r.records typed f.code f.mem p t u s.holds e h;
          },
          read_some r.records typed f.code f.mem p t s.holds e,
          refl,
        )
      where
        by_place : (q : Slotted) → Filled f.mem q → (b : Bool) → same_place q p ≡ b → read (write f.mem p (Some u)) p ≡ Some u → Filled (write f.mem p (Some u)) q
        by_place q x true z here = subst (Filled (write f.mem p (Some u))) (sym (place_eq q p z)) (u, here)
        by_place q x false z here = (x.0, write_other f.mem p q (Some u) z ∙ x.1)

    pub take_fits : (s : StandsWaiting r.records typed f) (n : ℕ) (k : CallbackTree) (u : ValueTree) (t : TypeTree) → callback_at f.code s.group n ≡ Some k → takes_type f.code k.into ≡ Some t
        → HasType r.records typed u t
        → Onward f.code (take_at (class_names r) n u f (fetch f.code f.block f.instr))
    take_fits s n k u t at e h =
        let b = rules.lasts f.block f.instr (ChooseLast s.group) s.there n k at in
        subst (λ o. Onward f.code (take_at (class_names r) n u f o)) (sym s.there)
        (subst (λ o. Onward f.code (take_callback (class_names r) u f o)) (sym at) (taken_here s n k u t k.into refl at b e h))

    -- an error
    module _ (err : ℕ) (k : CatcherTree) (at : catcher_at f.code f.block ≡ Some k) (holds : HoldsTypes r.records typed f.code f.mem) where
      abbrev cleared : Memory
      cleared = emptied k.drops f.mem

      abbrev caught : Memory
      caught = with_error k.error err cleared

      caught_holds : (o : Option ℕ) → ((n : ℕ) → o ≡ Some n → type_at f.code (Local n) ≡ Some ErrorType) → HoldsTypes r.records typed f.code (with_error o err cleared)
      caught_holds None h = emptied_holds r.records typed f.code k.drops f.mem holds
      caught_holds (Some n) h = write_holds r.records typed f.code cleared (Local n) ErrorType (ErrorValue err) (emptied_holds r.records typed f.code k.drops f.mem holds) (h n refl) refl

      caught_filled : (o : Option ℕ) → ((n : ℕ) → o ≡ Some n → type_at f.code (Local n) ≡ Some ErrorType) → (p : Slotted) → is_error f.code p o p ≡ true → Filled (with_error o err cleared) p
      caught_filled None h p e = absurd (no_true e)
        where
          no_true : false ≡ true → ⊥
          no_true h = cc
      caught_filled (Some n) h p e =
          let z = emptied_holds r.records typed f.code k.drops f.mem holds in
          let same : Local n ≡ p = place_eq (Local n) p e in
          let here : read (write cleared (Local n) (Some (ErrorValue err))) (Local n) ≡ Some (ErrorValue err) =
          write_same cleared (Local n) (Some (ErrorValue err)) (within_of f.code cleared (Local n) ErrorType z.slots z.locals (h n refl)) in
          subst (Filled (write cleared (Local n) (Some (ErrorValue err)))) same (ErrorValue err, here)

      caught_kept : (o : Option ℕ) → (p : Slotted) → is_error f.code p o p ≡ false → dropped k.drops p ≡ false → Filled f.mem p → Filled (with_error o err cleared) p
      caught_kept None p e d x = (x.0, emptied_other k.drops f.mem p d ∙ x.1)
      caught_kept (Some n) p e d x = (x.0, write_other cleared (Local n) p (Some (ErrorValue err)) (turned p e) ∙ emptied_other k.drops f.mem p d ∙ x.1)
        where
          turned : (p : Slotted) → same_place (Local n) p ≡ false → same_place p (Local n) ≡ false
          turned (Slot m) e = refl
          turned (Local m) e = let z : nat_eq m n ≡ false = grind (arith, e) in z

      caught_onward : Reached f.code f.block f.instr → FullAt f.code caught k.block 0 → Onward f.code (held_in f.mem k.drops, go k.block caught f)
      caught_onward reached full =
          let z = rules.catchers f.block k at in (
            record {
              there = z.0;
              reached = reached_failed f.code f.block f.instr k at reached;
              full = full;
              holds = caught_holds k.error z.1;
            },
            dropped_some r.records typed f.code k.drops f.mem holds,
            refl,
          )

      pub caught_standing : Stands r.records typed f → Onward f.code (held_in f.mem k.drops, go k.block caught f)
      caught_standing s =
          let z = rules.catchers f.block k at in
          caught_onward s.reached (full_failed f.code f.mem caught f.block f.instr k at s.reached (λ p t e x. caught_filled k.error z.1 p x) (λ p e d x. caught_kept k.error p e d x) s.full)

      pub caught_waiting : StandsWaiting r.records typed f → Onward f.code (held_in f.mem k.drops, go k.block caught f)
      caught_waiting s =
          let z = rules.catchers f.block k at in
          caught_onward s.reached (full_wait_failed f.code f.mem caught f.block f.instr k at s.reached (λ p t e x. caught_filled k.error z.1 p x)
          (λ p e d x. caught_kept k.error p e d x) s.group s.there s.full)

  -- a frame that begins: the first slots hold the arguments
  arg_filled : (vs : List ValueTree) (rest : List (Option ValueTree)) (n : ℕ) → n < length vs → (v : ValueTree) × (flat (slice_get (map Some vs ++ rest) n) ≡ Some v)
  arg_filled [] rest n lt = absurd (omega (arith, lt))
  arg_filled (v ∷ vs) rest zero lt = (v, refl)
  arg_filled (v ∷ vs) rest (suc n) lt = arg_filled vs rest n (omega (arith, lt))

  arg_holds : (vs : List ValueTree) (ss : List SlotTree) (n k : ℕ) (t : TypeTree) (v : ValueTree) → length vs ≡ k → HaveTypes r.records typed (values_of_list vs) (first_types k ss)
      → option_map (λ (s : SlotTree). s.ty) (slice_get ss n) ≡ Some t
      → flat (slice_get (map Some vs ++ blanks (drop k ss)) n) ≡ Some v → HasType r.records typed v t
  arg_holds [] ss n k t v l h at e = none_some v (sym (blank_at (drop k ss) n) ∙ e)
  arg_holds (x ∷ vs) [] n k t v l h at e = absurd (let d = h.2 in cc)
  arg_holds (x ∷ vs) (s ∷ ss) n zero t v l h at e = absurd (omega (arith, l))
  arg_holds (x ∷ vs) (s ∷ ss) zero (suc k) t v l h at e =
      let first : h.0 ≡ s.ty = let d = h.2 in cc in
      let same : s.ty ≡ t = some_same s.ty t at in
      let value : x ≡ v = some_same x v e in
      subst (λ z. HasType r.records typed z t) value (subst (HasType r.records typed x) (first ∙ same) h.3)
  arg_holds (x ∷ vs) (s ∷ ss) (suc n) (suc k) t v l h at e =
      let rest : h.1 ≡ first_types k ss = let d = h.2 in cc in
      arg_holds vs ss n k t v (omega (arith, l)) (subst (HaveTypes r.records typed (values_of_list vs)) rest h.4) at e

  all_blank : (ss : List SlotTree) (k : ℕ) → 0 ≡ k → length (blanks (drop k ss)) ≡ length ss
  all_blank ss k l = subst (λ z. length (blanks (drop z ss)) ≡ length ss) l (sizes ss)
    where
      sizes : {A : Type 0} (xs : List A) → length (blanks xs) ≡ length xs
      sizes [] = refl
      sizes (x ∷ xs) = ap suc (sizes xs)

  begun_sizes : (vs : List ValueTree) (ss : List SlotTree) (k : ℕ) → length vs ≡ k → k ≤ length ss → length (map Some vs ++ blanks (drop k ss)) ≡ length ss
  begun_sizes [] ss k l le = all_blank ss k l
  begun_sizes (v ∷ vs) [] k l le = absurd (omega (arith, l, le))
  begun_sizes (v ∷ vs) (s ∷ ss) zero l le = absurd (omega (arith, l))
  begun_sizes (v ∷ vs) (s ∷ ss) (suc k) l le = ap suc (begun_sizes vs ss k (omega (arith, l)) (omega (arith, le)))

  -- there are as many arguments as parameters
  pub args_many : (vs : List ValueTree) (ss : List SlotTree) (k : ℕ) → k ≤ length ss → HaveTypes r.records typed (values_of_list vs) (first_types k ss) → length vs ≡ k
  args_many [] [] k le h = omega (arith, le)
  args_many [] (s ∷ ss) zero le h = refl
  args_many [] (s ∷ ss) (suc k) le h = absurd cc
  args_many (v ∷ vs) [] k le h = absurd (let d = h.2 in cc)
  args_many (v ∷ vs) (s ∷ ss) zero le h = absurd (let d = h.2 in cc)
  args_many (v ∷ vs) (s ∷ ss) (suc k) le h =
      let rest : h.1 ≡ first_types k ss = let d = h.2 in cc in
      ap suc (args_many vs ss k (omega (arith, le)) (subst (HaveTypes r.records typed (values_of_list vs)) rest h.4))

  module _ (c : ClassTree) (rules : KeepsRules r actors c vars) (vs : List ValueTree) (fits : HaveTypes r.records typed (values_of_list vs) (first_types c.params c.slots)) where
    abbrev many : Type 0
    many = length vs ≡ c.params

    begun_filled : length vs ≡ c.params → FullAt c (begun c vs).mem 0 0
    begun_filled l (Slot n) t at never = by_test (nat_lt n c.params) refl
      where
        by_test : (b : Bool) → nat_lt n c.params ≡ b → Filled (begun c vs).mem (Slot n)
        by_test true e = arg_filled vs (blanks (drop c.params c.slots)) n (let lt : n < c.params = grind (arith, e) in omega (arith, lt, l))
        by_test false e = absurd (never (subst (λ b. Comes c (Slot n) 0 0 b) e begins))
    begun_filled l (Local n) t at never = absurd (never begins)

    begun_typed : length vs ≡ c.params → HoldsTypes r.records typed c (begun c vs).mem
    begun_typed l = record {
      slots = begun_sizes vs c.slots c.params l rules.params;
      locals = sizes c.locals;
      types = by_place;
    }
      where
        sizes : {A : Type 0} (xs : List A) → length (blanks xs) ≡ length xs
        sizes [] = refl
        sizes (x ∷ xs) = ap suc (sizes xs)

        by_place : (q : Slotted) (t : TypeTree) (v : ValueTree) → type_at c q ≡ Some t → read (begun c vs).mem q ≡ Some v → HasType r.records typed v t
        by_place (Slot n) t v at e = arg_holds vs c.slots n c.params t v l fits at e
        by_place (Local n) t v at e = none_some v (sym (blank_at c.locals n) ∙ e)

    pub begun_fits : Stands r.records typed (begun c vs)
    begun_fits =
        let l = args_many vs c.slots c.params rules.params fits in
        record { there = rules.begins; reached = λ q. (is_parameter c q q, begins); full = begun_filled l; holds = begun_typed l }
