-- A class is read where it is filled, if each block is entered with places that all ways into it fill.
use Rattle.std.proofs.Common.{◌≡◌, ℕ, zero, suc, ◌+◌, ◌<◌, Bool, true, false, not, ◌&&◌, ◌||◌, List, [], ◌∷◌, slice_get, Contains, refl, ap, sym, subst, ◌∙◌, arith}
use Rattle.std.proofs.lemmas.Bool.{false≢true}
use Rattle.std.specs.List.{slice_index_or}
use Rattle.std.specs.declared.option.Option.{Option}
use Rattle.std.specs.declared.option.Option.TheVariants.{None, Some}
use Rattle.flow_class.specs.declared.class.Slotted.{Slotted}
use Rattle.flow_class.specs.declared.class.Slotted.TheVariants as place
use Rattle.flow_class.specs.Classes.{CatcherTree, InstrTree, LastTree, GotoLast, PassLast, TestLast, ChooseLast, ReturnLast, ThrowLast, BlockTree, CallbackTree, ClassTree}
use Rattle.flow_class.specs.Code.{Body, Last, fetch_in, fetch_at, fetch, catcher_in, catcher_at, callback_at}
use Rattle.flow_valid.specs.Named.{listed, targets}
use Rattle.flow_valid.specs.Filling.{among, is_local, instr_reads, instr_fills, instr_empties, dropped, reads, is_parameter, is_error, Comes, begins, goes_on, jumps, is_taken, fails, wait_fails, ReadsFilled}
use Rattle.flow_valid.specs.Filling as filling

-- sets of places
abbrev pub Places : Type 0
Places = Slotted → Bool

abbrev pub after : InstrTree → Places → Places
after i s q = among (instr_fills i) q || (s q && not (instr_empties i q))

abbrev pub waited : Places → Places
waited s q = s q && not (is_local q)

abbrev pub taken : CallbackTree → Places → Places
taken k s q = among (listed k.into) q || waited s q

abbrev pub is_caught : Option ℕ → Slotted → Bool
is_caught None q = false
is_caught (Some n) q = filling.same_place (place.Local n) q

abbrev pub handled : CatcherTree → Places → Places
handled k s q = is_caught k.error q || (s q && not (dropped k.drops q))

-- these places are all in the set
abbrev pub AllIn : List Slotted → Places → Type 0
AllIn ps s = (q : Slotted) → among ps q ≡ true → s q ≡ true

module _ (c : ClassTree) (entry : ℕ → Option (List Slotted)) where
  -- a block is entered so that what is wanted there is filled
  abbrev pub Enters : Places → ℕ → Type 0
  Enters s t = (ps : List Slotted) × (entry t ≡ Some ps) × AllIn ps s

  abbrev pub Catches : Option CatcherTree → Places → Type 0
  Catches None s = Unit {0}
  Catches (Some k) s = Enters (handled k s) k.block

  abbrev pub Leads : Option CatcherTree → Places → LastTree → Type 0
  Leads k s (GotoLast t) = Enters s t
  Leads k s (PassLast t) = Enters s t
  Leads k s (TestLast e y n) = Enters s y × Enters s n
  Leads k s (ChooseLast g) = ((n : ℕ) (b : CallbackTree) → callback_at c g n ≡ Some b → Enters (taken b s) b.block) × Catches k (waited s)
  Leads k s (ReturnLast e) = Unit {0}
  Leads k s (ThrowLast e) = Unit {0}

  -- the rest of a block
  abbrev pub Kept : Option CatcherTree → Places → List InstrTree → LastTree → Type 0
  Kept k s [] l = AllIn (reads c (Last l)) s × Catches k s × Leads k s l
  Kept k s (i ∷ is) l = AllIn (instr_reads i) s × Catches k s × Kept k (after i s) is l

  -- each block that has an entry
  pub record IsKept (b : ℕ) (ps : List Slotted) : Type 0 where
    pub block : BlockTree
    pub is : slice_get c.blocks b ≡ Some block
    pub kept : Kept block.catcher (among ps) block.body block.last

  module _ (all : (b : ℕ) (ps : List Slotted) → entry b ≡ Some ps → IsKept b ps) (p : Slotted) where
    -- where a walk has come
    pub record At (b n : ℕ) (filled : Bool) : Type 0 where
      set : Places
      rest : List InstrTree
      last : LastTree
      is : (j : ℕ) → fetch c b (n + j) ≡ fetch_in rest last j
      kept : Kept (catcher_at c b) set rest last
      holds : set p ≡ true → filled ≡ true

    zero_plus : (j : ℕ) → 0 + j ≡ j
    zero_plus j = omega arith

    plus_zero : (n : ℕ) → n + 0 ≡ n
    plus_zero n = omega arith

    plus_suc : (n j : ℕ) → suc n + j ≡ n + suc j
    plus_suc n j = omega arith

    entered : (s : Places) (t : ℕ) (filled : Bool) → Enters s t → (s p ≡ true → filled ≡ true) → At t 0 filled
    entered s t filled e h =
        let k = all t e.0 e.1 in
        record {
          set = among e.0;
          rest = k.block.body;
          last = k.block.last;
          is = λ j. ap (λ o. fetch_at o (0 + j)) k.is ∙ ap (fetch_in k.block.body k.block.last) (zero_plus j);
          kept = subst (λ o. Kept o (among e.0) k.block.body k.block.last) (sym (ap catcher_in k.is)) k.kept;
          holds = λ q. h (e.2 p q);
        }

    no_body : (l : LastTree) (i : InstrTree) → Last l ≡ Body i → ⊥
    no_body l i e = cc

    no_last : (i : InstrTree) (l : LastTree) → Body i ≡ Last l → ⊥
    no_last i l e = cc

    same_body : (i j : InstrTree) → Body i ≡ Body j → i ≡ j
    same_body i j e = cc

    same_last : (i j : LastTree) → Last i ≡ Last j → i ≡ j
    same_last i j e = cc

    -- what is in a set after an instruction is filled there
    moved : (x y a b : Bool) → (a ≡ true → b ≡ true) → x || (a && not y) ≡ true → x || (b && not y) ≡ true
    moved true y a b f h = refl
    moved false true true b f h = cc
    moved false true false b f h = cc
    moved false false true true f h = refl
    moved false false true false f h = f refl
    moved false false false b f h = cc

    both_and : (a b y : Bool) → (a ≡ true → b ≡ true) → a && y ≡ true → b && y ≡ true
    both_and true true y f h = h
    both_and true false y f h = absurd (false≢true (f refl))
    both_and false b y f h = cc

    one_step : {b n : ℕ} {filled : Bool} (i : InstrTree) (a : At b n filled) (rest : List InstrTree) → a.rest ≡ rest → fetch c b n ≡ Body i → At b (suc n) (filling.behind c p i filled)
    one_step {b = b} {n = n} i a [] e f = absurd (no_body a.last i (sym (ap (λ r. fetch_in r a.last 0) e) ∙ sym (a.is 0) ∙ ap (fetch c b) (plus_zero n) ∙ f))
    one_step {b = b} {n = n} {filled = filled} i a (o ∷ os) e f =
        let same = same_body o i (sym (ap (λ r. fetch_in r a.last 0) e) ∙ sym (a.is 0) ∙ ap (fetch c b) (plus_zero n) ∙ f) in
        let k = subst (λ r. Kept (catcher_at c b) a.set r a.last) e a.kept in
        record {
          set = after o a.set;
          rest = os;
          last = a.last;
          is = λ j. ap (fetch c b) (plus_suc n j) ∙ a.is (suc j) ∙ ap (λ r. fetch_in r a.last (suc j)) e;
          kept = k.2;
          holds = λ h. moved (among (instr_fills i) p) (instr_empties i p) (a.set p) filled a.holds (ap (λ z. after z a.set p) (sym same) ∙ h);
        }

    record Ended (b n : ℕ) (l : LastTree) (filled : Bool) : Type 0 where
      set : Places
      caught : Catches (catcher_at c b) set
      leads : Leads (catcher_at c b) set l
      holds : set p ≡ true → filled ≡ true

    at_end : {b n : ℕ} {filled : Bool} (l : LastTree) (a : At b n filled) (rest : List InstrTree) → a.rest ≡ rest → fetch c b n ≡ Last l → Ended b n l filled
    at_end {b = b} {n = n} l a [] e f =
        let same = same_last a.last l (sym (ap (λ r. fetch_in r a.last 0) e) ∙ sym (a.is 0) ∙ ap (fetch c b) (plus_zero n) ∙ f) in
        let k = subst (λ r. Kept (catcher_at c b) a.set r a.last) e a.kept in
        record { set = a.set; caught = k.1; leads = subst (Leads (catcher_at c b) a.set) same k.2; holds = a.holds }
    at_end {b = b} {n = n} l a (o ∷ os) e f = absurd (no_last o l (sym (ap (λ r. fetch_in r a.last 0) e) ∙ sym (a.is 0) ∙ ap (fetch c b) (plus_zero n) ∙ f))

    caught_in : (k : Option CatcherTree) (s : Places) (is : List InstrTree) (l : LastTree) → Kept k s is l → Catches k s
    caught_in k s [] l h = h.1
    caught_in k s (i ∷ is) l h = h.1

    reads_in : {b n : ℕ} {filled : Bool} (a : At b n filled) (rest : List InstrTree) → a.rest ≡ rest → among (reads c (fetch c b n)) p ≡ true → filled ≡ true
    reads_in {b = b} {n = n} a [] e h =
        let k = subst (λ r. Kept (catcher_at c b) a.set r a.last) e a.kept in
        let is = sym (ap (fetch c b) (plus_zero n)) ∙ a.is 0 ∙ ap (λ r. fetch_in r a.last 0) e in
        a.holds (k.0 p (ap (λ z. among (reads c z) p) (sym is) ∙ h))
    reads_in {b = b} {n = n} a (o ∷ os) e h =
        let k = subst (λ r. Kept (catcher_at c b) a.set r a.last) e a.kept in
        let is = sym (ap (fetch c b) (plus_zero n)) ∙ a.is 0 ∙ ap (λ r. fetch_in r a.last 0) e in
        a.holds (k.0 p (ap (λ z. among (reads c z) p) (sym is) ∙ h))

    one_at : (t to k : ℕ) → k < 1 → slice_index_or (t ∷ []) k to ≡ to → t ≡ to
    one_at t to zero lt e = e
    one_at t to (suc k) lt e = absurd (omega (arith, lt))

    one_target : (t to : ℕ) → Contains (t ∷ []) to → t ≡ to
    one_target t to m = one_at t to m.0 m.1 m.2

    no_target : (to : ℕ) → Contains [] to → ⊥
    no_target to m = omega (arith, m.1)

    two_at : (y n to k : ℕ) (s : Places) → Enters s y × Enters s n → k < 2 → slice_index_or (y ∷ n ∷ []) k to ≡ to → Enters s to
    two_at y n to zero s h lt e = subst (Enters s) e h.0
    two_at y n to (suc zero) s h lt e = subst (Enters s) e h.1
    two_at y n to (suc (suc k)) s h lt e = absurd (omega (arith, lt))

    two_targets : (y n to : ℕ) (s : Places) → Enters s y × Enters s n → Contains (y ∷ n ∷ []) to → Enters s to
    two_targets y n to s h m = two_at y n to m.0 s h m.1 m.2

    or_and : (x a b y : Bool) → (a ≡ true → b ≡ true) → x || (a && y) ≡ true → x || (b && y) ≡ true
    or_and true a b y f h = refl
    or_and false a b y f h = both_and a b y f h

    jumped : (l : LastTree) (to : ℕ) (k : Option CatcherTree) (s : Places) → Leads k s l → Contains (targets l) to → Enters s to
    jumped (GotoLast t) to k s h m = subst (Enters s) (one_target t to m) h
    jumped (PassLast t) to k s h m = subst (Enters s) (one_target t to m) h
    jumped (TestLast e y n) to k s h m = two_targets y n to s h m
    jumped (ChooseLast g) to k s h m = absurd (no_target to m)
    jumped (ReturnLast e) to k s h m = absurd (no_target to m)
    jumped (ThrowLast e) to k s h m = absurd (no_target to m)

    same_caught : (o : Option ℕ) (q : Slotted) → is_caught o q ≡ is_error c p o q
    same_caught None q = refl
    same_caught (Some n) q = refl

    handled_holds : (k : CatcherTree) (s : Places) (filled : Bool) → (s p ≡ true → filled ≡ true) → handled k s p ≡ true → filling.handled c p k filled ≡ true
    handled_holds k s filled f h =
        ap (λ x. x || (filled && not (dropped k.drops p))) (sym (same_caught k.error p)) ∙ moved (is_caught k.error p) (dropped k.drops p) (s p) filled f h

    caught_at : (b : ℕ) (filled : Bool) (k : CatcherTree) (s : Places) → Catches (catcher_at c b) s → catcher_at c b ≡ Some k → (s p ≡ true → filled ≡ true)
        → At k.block 0 (filling.handled c p k filled)
    caught_at b filled k s h e f = entered (handled k s) k.block (filling.handled c p k filled) (subst (λ o. Catches o s) e h) (handled_holds k s filled f)

    come : {b n : ℕ} {filled : Bool} → ((ps : List Slotted) × (entry 0 ≡ Some ps) × ((q : Slotted) → among ps q ≡ true → is_parameter c p q ≡ true)) → Comes c p b n filled → At b n filled
    come start begins = entered (is_parameter c p) 0 (is_parameter c p p) (start.0, start.1, start.2) (λ h. h)
    come start (goes_on i w e) = let a = come start w in one_step i a a.rest refl e
    come start (jumps l to w e m) =
        let a = come start w in
        let z = at_end l a a.rest refl e in
        entered z.set to _ (jumped l to _ z.set z.leads m) z.holds
    come start (is_taken {filled = filled} g n k w e f) =
        let a = come start w in
        let z = at_end (ChooseLast g) a a.rest refl e in
        entered (taken k z.set) k.block _ (z.leads.0 n k f) (λ h. or_and (among (listed k.into) p) (z.set p) filled (not (is_local p)) z.holds h)
    come start (fails {b = b} {filled = filled} k w e) = let a = come start w in caught_at b filled k a.set (caught_in (catcher_at c b) a.set a.rest a.last a.kept) e a.holds
    come start (wait_fails {b = b} {filled = filled} g k w e f) =
        let a = come start w in
        let z = at_end (ChooseLast g) a a.rest refl e in
        caught_at b (filling.waited c p filled) k (waited z.set) z.leads.1 f (λ h. both_and (z.set p) filled (not (is_local p)) z.holds h)

    never : (b n : ℕ) → At b n false → among (reads c (fetch c b n)) p ≡ false
    never b n a = by_reads (among (reads c (fetch c b n)) p) refl
      where
        by_reads : (x : Bool) → among (reads c (fetch c b n)) p ≡ x → x ≡ false
        by_reads true h = sym (reads_in a a.rest refl h)
        by_reads false h = refl

-- each block that is entered is kept, and the first one is entered with the parameters
pub reads_filled : (c : ClassTree) (entry : ℕ → Option (List Slotted)) → ((b : ℕ) (ps : List Slotted) → entry b ≡ Some ps → IsKept c entry b ps)
    → ((p : Slotted) → (ps : List Slotted) × (entry 0 ≡ Some ps) × ((q : Slotted) → among ps q ≡ true → is_parameter c p q ≡ true)) → ReadsFilled c
reads_filled c entry all start p b n w = never c entry all p b n (come c entry all p (start p) w)
