-- The actor of a result, in memory and in the process.
use Rattle.std.proofs.Common.{◌≡◌, ℕ, ◌≤◌, nat_eq, Bool, true, false, [], ◌∷◌, if◌then◌else◌, refl, sym, ap, ◌∙◌, subst, arith}
use Rattle.std.specs.Prelude.{◌&&◌, not}
use Rattle.std.proofs.lemmas.Bool.Decides.{nat_tests}
use Rattle.std.specs.Option.{option_map}
use Rattle.std.specs.declared.option.Option.{Option}
use Rattle.std.specs.declared.option.Option.TheVariants.{None, Some}
use Rattle.flow_base.specs.declared.ids.CellId.{CellId}
use Rattle.flow_numbered.specs.Numbered as stored
use Rattle.flow_numbered.proofs.Things.{above}
use Rattle.flow_cancel.specs.declared.actors.Note.{Note}
use Rattle.flow_cancel.specs.Heap as memory
use Rattle.flow_numbered.specs.Numbered.{Numbered, thing, removed}
use Rattle.flow_meaning.specs.Cells.{PromiseSide}
use Rattle.flow_meaning.specs.Process.{Entry}
use Rattle.flow_meaning.specs.References.{one, count_maybe, in_entries}
use Rattle.flow_meaning.specs.Orderly.{Rising}
use Rattle.flow_meaning.specs.Work.{is_result, owner}
use Rattle.flow_meaning.proofs.Posture.{same_number, thing_removed_other, above_none}
use Rattle.flow_heap_refinement.specs.References.{entry_holds}
use Rattle.flow_heap_refinement.proofs.Sums.{sum_removed, entries_sum}

-- the result of a note and of an entry
pub noted_result : (k : ℕ) (o : Option CellId) → memory.is_result k o ≡ true → option_map (λ (c : CellId). c.0) o ≡ Some k
noted_result k None e = absurd (cc)
noted_result k (Some c) e = let same : k ≡ c.0 = grind (arith, nat_tests) in ap Some (sym same)

pub result_noted : (k : ℕ) (o : Option CellId) → option_map (λ (c : CellId). c.0) o ≡ Some k → memory.is_result k o ≡ true
result_noted k None e = absurd (cc)
result_noted k (Some c) e = let same : c.0 ≡ k = cc (e) in ap (nat_eq k) same ∙ same_number k

the_result : (k : ℕ) (o : Option ℕ) → is_result k o ≡ true → o ≡ Some k
the_result k None e = absurd (cc)
the_result k (Some c) e = let same : k ≡ c = grind (arith, nat_tests) in ap Some (sym same)

is_the_result : (k : ℕ) (o : Option ℕ) → o ≡ Some k → is_result k o ≡ true
is_the_result k None e = absurd (cc)
is_the_result k (Some c) e = let same : c ≡ k = cc (e) in ap (nat_eq k) same ∙ same_number k

-- a thing further on, where numbers rise
stored_on : {A : Type 0} (x : ℕ × A) (xs : stored.Numbered A) (most m : ℕ) (a : A) → stored.IsRising x.0 xs most → stored.thing xs m ≡ Some a → stored.thing (x ∷ xs) m ≡ Some a
stored_on x xs most m a h e =
    let l = above x.0 xs most m a h e in
    let other : nat_eq m x.0 ≡ false = grind (arith, nat_tests, l.0) in rw other e

thing_on : {A : Type 0} (x : ℕ × A) (xs : Numbered A) (most m : ℕ) (a : A) → Rising x.0 most xs → thing xs m ≡ Some a → thing (x ∷ xs) m ≡ Some a
thing_on x xs most m a h e = by_test (nat_eq m x.0) refl
  where
    by_test : (t : Bool) → nat_eq m x.0 ≡ t → (if t then Some x.1 else thing xs m) ≡ Some a
    by_test true g =
        let same : m ≡ x.0 = grind (arith, nat_tests) in
        let none = above_none xs x.0 most m h (omega (arith, same)) in absurd (let f = sym none ∙ e in cc)
    by_test false g = e

-- what a scan of the notes finds
pub note_found : (k i low most : ℕ) (xs : stored.Numbered Note) → stored.IsRising low xs most → memory.owner k xs ≡ Some i
    → (n : Note) × (stored.thing xs i ≡ Some n) × (memory.is_result k n.result ≡ true)
note_found k i low most [] h e = absurd (cc)
note_found k i low most (x ∷ xs) h e = by_test (memory.is_result k x.1.result) refl e (note_found k i x.0 most xs h.1)
  where
    by_test : (t : Bool) → memory.is_result k x.1.result ≡ t → (if t then Some x.0 else memory.owner k xs) ≡ Some i
        → (memory.owner k xs ≡ Some i → (n : Note) × (stored.thing xs i ≡ Some n) × (memory.is_result k n.result ≡ true))
        → (n : Note) × (stored.thing (x ∷ xs) i ≡ Some n) × (memory.is_result k n.result ≡ true)
    by_test true g f rest =
        let same : x.0 ≡ i = cc (f) in
        let t : nat_eq i x.0 ≡ true = subst (λ m. nat_eq m x.0 ≡ true) same (same_number x.0) in (x.1, ap (λ b. if b then Some x.1 else stored.thing xs i) t, g)
    by_test false g f rest = let r = rest f in (r.0, stored_on x xs most i r.0 h.1 r.1, r.2)

pub note_unfound : (k i : ℕ) (n : Note) (xs : stored.Numbered Note) → memory.owner k xs ≡ None → stored.thing xs i ≡ Some n → memory.is_result k n.result ≡ false
note_unfound k i n [] e f = absurd (cc)
note_unfound k i n (x ∷ xs) e f = by_test (memory.is_result k x.1.result) refl e (note_unfound k i n xs)
  where
    by_test : (t : Bool) → memory.is_result k x.1.result ≡ t → (if t then Some x.0 else memory.owner k xs) ≡ None
        → (memory.owner k xs ≡ None → stored.thing xs i ≡ Some n → memory.is_result k n.result ≡ false) → memory.is_result k n.result ≡ false
    by_test true g q rest = absurd (cc)
    by_test false g q rest = by_number (nat_eq i x.0) f
      where
        by_number : (u : Bool) → (if u then Some x.1 else stored.thing xs i) ≡ Some n → memory.is_result k n.result ≡ false
        by_number true h = let same : x.1 ≡ n = cc (h) in subst (λ (m : Note). memory.is_result k m.result ≡ false) same g
        by_number false h = rest q h

-- and of the entries
pub entry_found : (k low most : ℕ) (o : ℕ × Entry) (xs : Numbered Entry) → Rising low most xs → owner k xs ≡ Some o → (thing xs o.0 ≡ Some o.1) × (o.1.result ≡ Some k) × (o.1.marked ≡ false)
entry_found k low most o [] h e = absurd (cc)
entry_found k low most o (x ∷ xs) h e = by_tests (is_result k x.1.result) refl x.1.marked refl e (entry_found k x.0 most o xs h.2)
  where
    by_tests : (t : Bool) → is_result k x.1.result ≡ t → (m : Bool) → x.1.marked ≡ m → (if t && not m then Some x else owner k xs) ≡ Some o
        → (owner k xs ≡ Some o → (thing xs o.0 ≡ Some o.1) × (o.1.result ≡ Some k) × (o.1.marked ≡ false)) → (thing (x ∷ xs) o.0 ≡ Some o.1) × (o.1.result ≡ Some k) × (o.1.marked ≡ false)
    by_tests true g false f q rest =
        let same : x ≡ o = cc (q) in
        subst (λ (y : ℕ × Entry). (thing (x ∷ xs) y.0 ≡ Some y.1) × (y.1.result ≡ Some k) × (y.1.marked ≡ false)) same
        (ap (λ b. if b then Some x.1 else thing xs x.0) (same_number x.0), the_result k x.1.result g, f)
    by_tests true g true f q rest = let r = rest q in (thing_on x xs most o.0 o.1 h.2 r.0, r.1, r.2)
    by_tests false g m f q rest = let r = rest q in (thing_on x xs most o.0 o.1 h.2 r.0, r.1, r.2)

pub entry_unfound : (k i : ℕ) (e : Entry) (xs : Numbered Entry) → owner k xs ≡ None → thing xs i ≡ Some e → e.result ≡ Some k → e.marked ≡ true
entry_unfound k i e [] q f g = absurd (cc)
entry_unfound k i e (x ∷ xs) q f g = by_tests (is_result k x.1.result) refl x.1.marked refl q (λ u v. entry_unfound k i e xs u v g)
  where
    by_tests : (t : Bool) → is_result k x.1.result ≡ t → (m : Bool) → x.1.marked ≡ m → (if t && not m then Some x else owner k xs) ≡ None
        → (owner k xs ≡ None → thing xs i ≡ Some e → e.marked ≡ true) → e.marked ≡ true
    by_tests true a false b u rest = absurd (cc)
    by_tests true a true b u rest = by_number (nat_eq i x.0) f
      where
        by_number : (w : Bool) → (if w then Some x.1 else thing xs i) ≡ Some e → e.marked ≡ true
        by_number true h = let same : x.1 ≡ e = cc (h) in subst (λ (y : Entry). y.marked ≡ true) same b
        by_number false h = rest u h
    by_tests false a m b u rest = by_number (nat_eq i x.0) f
      where
        by_number : (w : Bool) → (if w then Some x.1 else thing xs i) ≡ Some e → e.marked ≡ true
        by_number true h =
            let same : x.1 ≡ e = cc (h) in
            let is = subst (λ (y : Entry). is_result k y.result ≡ false) same a in
            let isnt = is_the_result k e.result g in absurd (cc (is, isnt))
        by_number false h = rest u h

-- a result is that of one actor
holds_one : (k : ℕ) (e : Entry) → e.result ≡ Some k → 1 ≤ entry_holds PromiseSide k e
holds_one k e f =
    let a = ap (count_maybe PromiseSide k PromiseSide) f in
    let b : one PromiseSide k PromiseSide k ≡ 1 = ap (λ t. if t then 1 else 0) (same_number k) in omega (arith, a, b)

pub one_owner : (k i j : ℕ) (d e : Entry) (xs : Numbered Entry) → in_entries PromiseSide k xs ≤ 1 → thing xs i ≡ Some d → thing xs j ≡ Some e → d.result ≡ Some k → e.result ≡ Some k → i ≡ j
one_owner k i j d e xs l di ej dk ek = by_test (nat_eq j i) refl
  where
    by_test : (t : Bool) → nat_eq j i ≡ t → i ≡ j
    by_test true g = grind (arith, nat_tests)
    by_test false g =
        let n : i ≡ j → ⊥ = λ f. differ f g in
        let a = entries_sum PromiseSide k xs in
        let b = sum_removed (λ m x. entry_holds PromiseSide k x) xs i d di in
        let c = sum_removed (λ m x. entry_holds PromiseSide k x) (removed xs i) j e (thing_removed_other xs i j n ∙ ej) in
        let u = holds_one k d dk in
        let v = holds_one k e ek in absurd (omega (arith, a, b, c, u, v, l))
      where
        differ : i ≡ j → nat_eq j i ≡ false → ⊥
        differ f h = grind (arith, nat_tests)
