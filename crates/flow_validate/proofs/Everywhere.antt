-- The places of all windows are all the places that are read.
use Rattle.std.proofs.Common.{◌≡◌, ◌⊎◌, inl, inr, ℕ, zero, suc, ◌+◌, ◌-◌, ◌*◌, ◌<◌, ◌≤◌, Bool, true, false, ◌||◌, List, [], ◌∷◌, length, slice_get, if◌then◌else◌, refl, sym, subst, ap, ◌∙◌, arith}
use Rattle.std.specs.List.{list_all}
use Rattle.std.proofs.lemmas.Bool.{and_parts, cases_lt, eqb-true}
use Rattle.std.specs.declared.option.Option.{Option}
use Rattle.std.specs.declared.option.Option.TheVariants.{None, Some}
use Rattle.flow_tree.specs.Decls.{SlotTree}
use Rattle.flow_class.specs.declared.class.Slotted.{Slotted}
use Rattle.flow_class.specs.declared.class.Slotted.TheVariants.{Slot, Local}
use Rattle.flow_class.specs.Classes.{InstrTree, LastTree, GotoLast, PassLast, TestLast, ChooseLast, ReturnLast, ThrowLast, BlockTree, ClassTree}
use Rattle.flow_class.specs.Code.{fetch_in, fetch_at, fetch}
use Rattle.flow_valid.specs.Named.{has_place, has_last, instr_places, names_exist}
use Rattle.flow_validate.specs.Sizes.{HasFewPlaces}
use Rattle.flow_valid.specs.Filling.{same_place, among, reads, Comes, ReadsFilled}
use Rattle.flow_validate.specs.Following.{place_in}
use Rattle.flow_validate.specs.WalkStates.{IsFilled, AreFilledBelow, FilledOr}
use Rattle.flow_validate.proofs.Plain.{reads_there, group_there, last_there, block_named, groups_named, there_below, there_mapped}

-- 64 more places
pub more_filled : (c : ClassTree) (locals : Bool) (number : ℕ) → AreFilledBelow c locals (64 * number)
    → ((j : ℕ) → j < 64 → IsFilled c (place_in (record { locals = locals; first = 64 * number }) j)) → AreFilledBelow c locals (64 * (number + 1))
more_filled c locals number below here = λ n lt. by n lt (cases_lt n (64 * number))
  where
    by : (n : ℕ) → n < 64 * (number + 1) → (n < 64 * number) ⊎ (64 * number ≤ n) → IsFilled c (if locals then Local n else Slot n)
    by n lt (inl less) = below n less
    by n lt (inr le) =
        let back : 64 * number + (n - 64 * number) ≡ n = omega (arith, le) in
        subst (λ (m : ℕ). IsFilled c (if locals then Local m else Slot m)) back (here (n - 64 * number) (omega (arith, lt, le)))

-- places that are read exist
same_kind : (p q : Slotted) → same_place p q ≡ true → q ≡ p
same_kind (Slot m) (Slot n) h = let e : m ≡ n = eqb-true m n h in ap Slot (sym e)
same_kind (Local m) (Local n) h = let e : m ≡ n = eqb-true m n h in ap Local (sym e)
same_kind (Slot m) (Local n) h = cc
same_kind (Local m) (Slot n) h = cc

among_all : (f : Slotted → Bool) (ps : List Slotted) (p : Slotted) → list_all f ps ≡ true → among ps p ≡ true → f p ≡ true
among_all f [] p h g = cc
among_all f (q ∷ qs) p h g = let both = and_parts (f q) (list_all f qs) h in by both.0 (same_place p q) refl (λ i. among_all f qs p both.1 i)
  where
    by : f q ≡ true → (b : Bool) → same_place p q ≡ b → (among qs p ≡ true → f p ≡ true) → f p ≡ true
    by own true e rest = ap f (sym (same_kind p q e)) ∙ own
    by own false e rest = rest (sym (ap (λ (x : Bool). x || among qs p) e) ∙ g)

module _ (c : ClassTree) (few : HasFewPlaces c) (named : names_exist c ≡ true) where
  body_there : (is : List InstrTree) (l : LastTree) (n : ℕ) → list_all (λ (i : InstrTree). list_all (has_place c) (instr_places i)) is ≡ true → has_last c l ≡ true
      → list_all (has_place c) (reads c (fetch_in is l n)) ≡ true
  body_there [] (GotoLast t) zero h g = refl
  body_there [] (PassLast t) zero h g = refl
  body_there [] (TestLast e t f) zero h g = last_there c few (TestLast e t f) g
  body_there [] (ChooseLast t) zero h g = group_there c few (groups_named c few named) t
  body_there [] (ReturnLast e) zero h g = last_there c few (ReturnLast e) g
  body_there [] (ThrowLast e) zero h g = last_there c few (ThrowLast e) g
  body_there [] l (suc n) h g = refl
  body_there (i ∷ is) l zero h g = reads_there c few i (and_parts (list_all (has_place c) (instr_places i)) (list_all (λ (j : InstrTree). list_all (has_place c) (instr_places j)) is) h).0
  body_there (i ∷ is) l (suc n) h g = body_there is l n (and_parts (list_all (has_place c) (instr_places i)) (list_all (λ (j : InstrTree). list_all (has_place c) (instr_places j)) is) h).1 g

  fetched_there : (b n : ℕ) → list_all (has_place c) (reads c (fetch c b n)) ≡ true
  fetched_there b n = by (slice_get c.blocks b) refl
    where
      by : (o : Option BlockTree) → slice_get c.blocks b ≡ o → list_all (has_place c) (reads c (fetch_at o n)) ≡ true
      by None e = refl
      by (Some k) e = let own = block_named c few named b k e in body_there k.body k.last n own.body own.last

  slot_below : (n : ℕ) → has_place c (Slot n) ≡ true → n < length c.slots
  slot_below n h = there_below c.slots n (sym (there_mapped (λ (s : SlotTree). s.ty) (slice_get c.slots n)) ∙ h)

  place_filled : AreFilledBelow c false (length c.slots) → AreFilledBelow c true (length c.locals) → (p : Slotted) → has_place c p ≡ true → IsFilled c p
  place_filled slots locals (Slot n) h = slots n (slot_below n h)
  place_filled slots locals (Local n) h = locals n (there_below c.locals n h)

  pub everywhere : AreFilledBelow c false (length c.slots) → AreFilledBelow c true (length c.locals) → ReadsFilled c
  everywhere slots locals = λ p b n walk. by p b n walk (among (reads c (fetch c b n)) p) refl
    where
      by : (p : Slotted) (b n : ℕ) → Comes c p b n false → (x : Bool) → among (reads c (fetch c b n)) p ≡ x → among (reads c (fetch c b n)) p ≡ false
      by p b n walk false e = e
      by p b n walk true e = place_filled slots locals p (among_all (has_place c) (reads c (fetch c b n)) p (fetched_there b n) e) b n walk

-- what is told where all is filled
pub filled_or : (c : ClassTree) (p q : Type 0) → (p → q) → (b : Bool) → FilledOr c p b → FilledOr c q b
filled_or c p q f true h = f h
filled_or c p q f false h = h

pub below_as : (c : ClassTree) (locals : Bool) (m n : ℕ) → m ≡ n → AreFilledBelow c locals m → AreFilledBelow c locals n
below_as c locals m n e h = subst (AreFilledBelow c locals) e h
