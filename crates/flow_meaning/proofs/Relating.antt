-- Related actors of two kinds, where one of them changes and the phases of the others.
use Rattle.std.proofs.Common.{◌≡◌, ℕ, ◌≤◌, nat_eq, Bool, true, false, [], ◌∷◌, if◌then◌else◌, refl, sym, ap, subst, arith}
use Rattle.std.specs.declared.option.Option.{Option}
use Rattle.std.specs.declared.option.Option.TheVariants.{None, Some}
use Rattle.flow_numbered.specs.Numbered.{Numbered, thing, added, put, removed}
use Rattle.flow_meaning.specs.Process.{Core, Engine}
use Rattle.flow_meaning.specs.Orderly.{Phase, Free, Risky, Due, Waiting, phase_of}
use Rattle.flow_meaning.specs.Law.{BothOrNone, Simulates, AllRelated, Related}
use Rattle.flow_meaning.proofs.Posture.{each_number, thing_added, thing_removed_other, thing_put_other, thing_put, rank, Shifts, Eases}

module _ {A B : Type 0} (R : A → B → Type 0) where
  pub related_thing : (xs : Numbered A) (ys : Numbered B) (i : ℕ) → AllRelated R xs ys → BothOrNone R (thing xs i) (thing ys i)
  related_thing [] [] i h = tt
  related_thing [] (y ∷ ys) i h = absurd h
  related_thing (x ∷ xs) [] i h = absurd h
  related_thing (x ∷ xs) (y ∷ ys) i h = by_test (nat_eq i x.0) (nat_eq i y.0) (ap (nat_eq i) h.0) (related_thing xs ys i h.2)
    where
      by_test : (p q : Bool) → p ≡ q → BothOrNone R (thing xs i) (thing ys i) → BothOrNone R (if p then Some x.1 else thing xs i) (if q then Some y.1 else thing ys i)
      by_test true true e k = h.1
      by_test true false e k = absurd cc
      by_test false true e k = absurd cc
      by_test false false e k = k

  pub related_put : (xs : Numbered A) (ys : Numbered B) (i : ℕ) (a : A) (b : B) → AllRelated R xs ys → R a b → AllRelated R (put xs i a) (put ys i b)
  related_put [] [] i a b h r = tt
  related_put [] (y ∷ ys) i a b h r = absurd h
  related_put (x ∷ xs) [] i a b h r = absurd h
  related_put (x ∷ xs) (y ∷ ys) i a b h r = by_test (nat_eq i x.0) (nat_eq i y.0) (ap (nat_eq i) h.0) (related_put xs ys i a b h.2 r)
    where
      by_test : (p q : Bool) → p ≡ q → AllRelated R (put xs i a) (put ys i b) → AllRelated R (if p then (x.0, a) ∷ xs else x ∷ put xs i a) (if q then (y.0, b) ∷ ys else y ∷ put ys i b)
      by_test true true e k = (h.0, r, h.2)
      by_test true false e k = absurd cc
      by_test false true e k = absurd cc
      by_test false false e k = (h.0, h.1, k)

  pub related_added : (xs : Numbered A) (ys : Numbered B) (i : ℕ) (a : A) (b : B) → AllRelated R xs ys → R a b → AllRelated R (added xs i a) (added ys i b)
  related_added [] [] i a b h r = (refl, r, tt)
  related_added [] (y ∷ ys) i a b h r = absurd h
  related_added (x ∷ xs) [] i a b h r = absurd h
  related_added (x ∷ xs) (y ∷ ys) i a b h r = (h.0, h.1, related_added xs ys i a b h.2 r)

  pub related_removed : (xs : Numbered A) (ys : Numbered B) (i : ℕ) → AllRelated R xs ys → AllRelated R (removed xs i) (removed ys i)
  related_removed [] [] i h = tt
  related_removed [] (y ∷ ys) i h = absurd h
  related_removed (x ∷ xs) [] i h = absurd h
  related_removed (x ∷ xs) (y ∷ ys) i h = by_test (nat_eq i x.0) (nat_eq i y.0) (ap (nat_eq i) h.0) (related_removed xs ys i h.2)
    where
      by_test : (p q : Bool) → p ≡ q → AllRelated R (removed xs i) (removed ys i) → AllRelated R (if p then xs else x ∷ removed xs i) (if q then ys else y ∷ removed ys i)
      by_test true true e k = h.2
      by_test true false e k = absurd cc
      by_test false true e k = absurd cc
      by_test false false e k = (h.0, h.1, k)

module _ {A B : Type 0} (e : Engine A) (d : Engine B) (R : Phase → A → B → Type 0) (sim : Simulates e d R) where
  -- a phase says what those of a lower rank say
  eased : (p q : Phase) (a : A) (b : B) → rank q ≤ rank p → R p a b → R q a b
  eased Free Free a b le r = r
  eased Free Risky a b le r = absurd (omega (arith, le))
  eased Free Due a b le r = absurd (omega (arith, le))
  eased Free Waiting a b le r = absurd (omega (arith, le))
  eased Risky Free a b le r = sim.risks a b r
  eased Risky Risky a b le r = r
  eased Risky Due a b le r = absurd (omega (arith, le))
  eased Risky Waiting a b le r = absurd (omega (arith, le))
  eased Due Free a b le r = sim.risks a b (sim.dues a b r)
  eased Due Risky a b le r = sim.dues a b r
  eased Due Due a b le r = r
  eased Due Waiting a b le r = absurd (omega (arith, le))
  eased Waiting Free a b le r = sim.risks a b (sim.dues a b (sim.waits a b r))
  eased Waiting Risky a b le r = sim.dues a b (sim.waits a b r)
  eased Waiting Due a b le r = sim.waits a b r
  eased Waiting Waiting a b le r = r

  both_eased : (p q : Phase) (x : Option A) (y : Option B) → rank q ≤ rank p → BothOrNone (R p) x y → BothOrNone (R q) x y
  both_eased p q None None le h = tt
  both_eased p q None (Some b) le h = absurd h
  both_eased p q (Some a) None le h = absurd h
  both_eased p q (Some a) (Some b) le h = eased p q a b le h

  -- all phases are eased
  pub related_eased : (c k : Core) (xs : Numbered A) (ys : Numbered B) → Related R c xs ys → Eases c k → Related R k xs ys
  related_eased c k xs ys rs h = record { all = rs.all; phases = λ j. both_eased (phase_of c j) (phase_of k j) (thing xs j) (thing ys j) (h j) (rs.phases j) }

  -- at the number of one actor so, and at the others by what stood there
  by_number : (i : ℕ) (p : Phase) (c k : Core) (xs zs : Numbered A) (ys us : Numbered B) → ((j : ℕ) → (i ≡ j → ⊥) → (thing zs j ≡ thing xs j) × (thing us j ≡ thing ys j))
      → Related R c xs ys → Shifts i p c k → BothOrNone (R p) (thing zs i) (thing us i) → (j : ℕ) → BothOrNone (R (phase_of k j)) (thing zs j) (thing us j)
  by_number i p c k xs zs ys us same rs h own =
      each_number i (λ j. BothOrNone (R (phase_of k j)) (thing zs j) (thing us j)) (both_eased p (phase_of k i) (thing zs i) (thing us i) h.0 own)
      (λ j n. let o = same j n in
      subst (λ x. BothOrNone (R (phase_of k j)) x (thing us j)) (sym o.0)
      (subst (λ y. BothOrNone (R (phase_of k j)) (thing xs j) y) (sym o.1)
      (both_eased (phase_of c j) (phase_of k j) (thing xs j) (thing ys j) (h.1 j n) (rs.phases j))))

  pub related_shifts : (i : ℕ) (p : Phase) (c k : Core) (xs : Numbered A) (ys : Numbered B) (a0 a : A) (b0 b : B) → thing xs i ≡ Some a0 → thing ys i ≡ Some b0
      → Related R c xs ys → Shifts i p c k → R p a b → Related R k (put xs i a) (put ys i b)
  related_shifts i p c k xs ys a0 a b0 b ex ey rs h r = record {
    all = related_put (R Free) xs ys i a b rs.all (eased p Free a b (omega arith) r);
    phases = by_number i p c k xs (put xs i a) ys (put ys i b) (λ j n. (thing_put_other xs i j a n, thing_put_other ys i j b n)) rs h
        (subst (λ x. BothOrNone (R p) x (thing (put ys i b) i)) (sym (thing_put xs i a0 a ex)) (subst (λ y. BothOrNone (R p) (Some a) y) (sym (thing_put ys i b0 b ey)) r));
  }

  -- an actor is gone, or there is a new one that has asked for nothing
  pub related_gone : (i : ℕ) (c k : Core) (xs : Numbered A) (ys : Numbered B) → Related R c xs ys → Shifts i Free c k → Related R k (removed xs i) (removed ys i)
  related_gone i c k xs ys rs h =
      let all = related_removed (R Free) xs ys i rs.all in record {
        all = all;
        phases = by_number i Free c k xs (removed xs i) ys (removed ys i) (λ j n. (thing_removed_other xs i j n, thing_removed_other ys i j n)) rs h
            (related_thing (R Free) (removed xs i) (removed ys i) i all);
      }

  pub related_new : (i : ℕ) (c k : Core) (xs : Numbered A) (ys : Numbered B) (a : A) (b : B) → Related R c xs ys → Eases c k → rank (phase_of k i) ≤ 0 → R Free a b
      → Related R k (added xs i a) (added ys i b)
  related_new i c k xs ys a b rs h le r =
      let all = related_added (R Free) xs ys i a b rs.all r in record {
        all = all;
        phases = by_number i Free c k xs (added xs i a) ys (added ys i b) (λ j n. (thing_added xs i j a n, thing_added ys i j b n)) rs (le, λ j n. h j)
            (related_thing (R Free) (added xs i a) (added ys i b) i all);
      }
