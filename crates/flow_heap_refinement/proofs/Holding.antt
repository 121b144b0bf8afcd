-- The references that a frame holds after its places change.
use Rattle.std.proofs.Common.{◌≡◌, ℕ, zero, suc, ◌+◌, ◌<◌, List, [], ◌∷◌, ◌++◌, length, set, refl, sym, ap, ◌∙◌, arith}
use Rattle.std.specs.Prelude.{slice_get}
use Rattle.std.specs.declared.option.Option.{Option}
use Rattle.std.specs.declared.option.Option.TheVariants.{None, Some}
use Rattle.flow_tree.specs.declared.ty.Ident.{Ident}
use Rattle.flow_tree.specs.Decls.{RecordTree}
use Rattle.flow_value.specs.Values.{ValueTree, ValueTrees, NoValues, MoreValues, IntValue, BoolValue, TextValue, VoidValue, ErrorValue, CompositeValue, RefValue, refs_of, refs_of_all, value_at, value_put, at_place}
use Rattle.flow_class.specs.declared.class.Slotted.TheVariants.{Slot, Local}
use Rattle.flow_eval.specs.Records.{field_place}
use Rattle.flow_eval.specs.Functions.{put_in, read_in, place_of}
use Rattle.flow_eval.specs.Functions as eval
use Rattle.flow_meaning.specs.Cells.{Side}
use Rattle.flow_meaning.specs.References.{count, refs_in}
use Rattle.flow_meaning.specs.Variables.{filled, flat}
use Rattle.flow_meaning.specs.Frame.{Memory, read, write, held_in, reversed, blanks, all_emptied, occ_memory, put_root}
use Rattle.flow_meaning.proofs.Shifts.{same_of}
use Rattle.flow_heap_refinement.specs.Holding as of
use Rattle.flow_heap_refinement.specs.Holding.{held, InMemory}
use Rattle.flow_heap_refinement.proofs.Sums.{count_joined, refs_joined}

module _ (s : Side) (j : ℕ) where
  -- what stands at places, in order
  abbrev pub all_held : List (Option ValueTree) → ℕ
  all_held [] = 0
  all_held (o ∷ os) = held s j o + all_held os

  filled_joined : (os ps : List (Option ValueTree)) → filled (os ++ ps) ≡ filled os ++ filled ps
  filled_joined [] ps = refl
  filled_joined (None ∷ os) ps = filled_joined os ps
  filled_joined (Some v ∷ os) ps = ap (λ vs. v ∷ vs) (filled_joined os ps)

  reversed_held : (os : List (Option ValueTree)) → count s j (refs_in (filled (reversed os))) ≡ all_held os
  reversed_held [] = refl
  reversed_held (o ∷ os) =
      let a = ap (λ vs. count s j (refs_in vs)) (filled_joined (reversed os) (o ∷ [])) in
      let b = refs_joined s j (filled (reversed os)) (filled (o ∷ [])) in
      let c = reversed_held os in omega (arith, a, b, c)

  pub memory_held : (m : Memory) → occ_memory s j m ≡ all_held m.locals + all_held m.slots
  memory_held m =
      let a = refs_joined s j (filled (reversed m.locals)) (filled (reversed m.slots)) in
      let b = reversed_held m.locals in
      let c = reversed_held m.slots in omega (arith, a, b, c)

  set_held : (os : List (Option ValueTree)) (n : ℕ) (o : Option ValueTree) → n < length os → all_held (set os n o) + held s j (flat (slice_get os n)) ≡ all_held os + held s j o
  set_held [] n o l = absurd (omega arith)
  set_held (x ∷ os) zero o l = omega arith
  set_held (x ∷ os) (suc n) o l = let a = set_held os n o (omega (arith, l)) in omega (arith, a)

  set_none : (os : List (Option ValueTree)) (n : ℕ) → all_held (set os n None) + held s j (flat (slice_get os n)) ≡ all_held os
  set_none [] n = omega arith
  set_none (x ∷ os) zero = omega arith
  set_none (x ∷ os) (suc n) = let a = set_none os n in omega (arith, a)

  pub of_written : (m : Memory) → of.OfWritten m s j
  of_written m (Slot n) o l = let a = memory_held m in let b = memory_held (write m (Slot n) o) in let c = set_held m.slots n o l in omega (arith, a, b, c)
  of_written m (Local n) o l = let a = memory_held m in let b = memory_held (write m (Local n) o) in let c = set_held m.locals n o l in omega (arith, a, b, c)

  pub of_emptied : (m : Memory) → of.OfEmptied m s j
  of_emptied m (Slot n) = let a = memory_held m in let b = memory_held (write m (Slot n) None) in let c = set_none m.slots n in omega (arith, a, b, c)
  of_emptied m (Local n) = let a = memory_held m in let b = memory_held (write m (Local n) None) in let c = set_none m.locals n in omega (arith, a, b, c)

  pub of_locals : (m : Memory) → of.OfLocals m s j
  of_locals m [] = omega arith
  of_locals m (n ∷ ns) =
      let a = of_emptied m (Local n) in
      let b = of_locals (write m (Local n) None) ns in
      let c = refs_joined s j (filled (read m (Local n) ∷ [])) (held_in (write m (Local n) None) ns) in omega (arith, a, b, c)

  blank_held : (os : List (Option ValueTree)) → all_held (blanks os) ≡ 0
  blank_held [] = refl
  blank_held (o ∷ os) = let a = blank_held os in omega (arith, a)

  pub of_all_locals : (m : Memory) → of.OfAllLocals m s j
  of_all_locals m =
      let a = memory_held m in
      let b = memory_held (all_emptied m) in
      let c = reversed_held m.locals in
      let d = blank_held m.locals in omega (arith, a, b, c, d)

  -- a field of a record gets a value
  abbrev refs : ValueTree → ℕ
  refs v = count s j (refs_of v)

  abbrev fields : ValueTrees → ℕ
  fields vs = count s j (refs_of_all vs)

  held_one : (v : ValueTree) → held s j (Some v) ≡ refs v
  held_one v = let a = count_joined s j (refs_of v) [] in omega (arith, a)

  put_held : (vs : ValueTrees) (n : ℕ) (u old : ValueTree) → value_at vs n ≡ Some old → fields (value_put vs n u) + refs old ≡ fields vs + refs u
  put_held NoValues n u old e = absurd (cc)
  put_held (MoreValues v vs) zero u old e =
      let same : v ≡ old = cc (e) in
      let a = ap refs same in
      let b = count_joined s j (refs_of u) (refs_of_all vs) in
      let c = count_joined s j (refs_of v) (refs_of_all vs) in omega (arith, a, b, c)
  put_held (MoreValues v vs) (suc n) u old e =
      let a = put_held vs n u old e in
      let b = count_joined s j (refs_of v) (refs_of_all (value_put vs n u)) in
      let c = count_joined s j (refs_of v) (refs_of_all vs) in omega (arith, a, b, c)

  module _ (rs : List RecordTree) where
    -- nothing leads out of nothing
    nothing_in : (xs : List Ident) (w u : ValueTree) → put_in rs None xs w ≡ Some u → ⊥
    nothing_in xs w u e = cc

    put_in_held : (root : Option ValueTree) (xs : List Ident) (w u : ValueTree) → put_in rs root xs w ≡ Some u → held s j (Some u) + held s j (read_in rs root xs) ≡ held s j root + held s j (Some w)
    put_in_held None xs w u e = absurd (nothing_in xs w u e)
    put_in_held (Some v) [] w u e = let same : w ≡ u = cc (e) in let a = ap (λ x. held s j (Some x)) same in omega (arith, a)
    put_in_held (Some (CompositeValue r vs)) (x ∷ xs) w u e = by_place (field_place rs r x.name) e (λ o i f. put_in_held o xs w i f)
      where
        by_place : (n : Option ℕ) → eval.put_at (CompositeValue r vs) n (put_in rs (at_place vs n) xs w) ≡ Some u
            → ((o : Option ValueTree) (i : ValueTree) → put_in rs o xs w ≡ Some i → held s j (Some i) + held s j (read_in rs o xs) ≡ held s j o + held s j (Some w))
            → held s j (Some u) + held s j (read_in rs (at_place vs n) xs) ≡ held s j (Some (CompositeValue r vs)) + held s j (Some w)
        by_place None f rest = absurd (cc)
        by_place (Some n) f rest = by_inner (put_in rs (value_at vs n) xs w) refl f
          where
            by_inner : (i : Option ValueTree) → put_in rs (value_at vs n) xs w ≡ i → eval.put_at (CompositeValue r vs) (Some n) i ≡ Some u
                → held s j (Some u) + held s j (read_in rs (value_at vs n) xs) ≡ held s j (Some (CompositeValue r vs)) + held s j (Some w)
            by_inner None g q = absurd (cc)
            by_inner (Some i) g q = by_old (value_at vs n) refl
              where
                by_old : (o : Option ValueTree) → value_at vs n ≡ o → held s j (Some u) + held s j (read_in rs (value_at vs n) xs) ≡ held s j (Some (CompositeValue r vs)) + held s j (Some w)
                by_old None z = absurd (nothing_in xs w i (ap (λ y. put_in rs y xs w) (sym z) ∙ g))
                by_old (Some old) z =
                    let same : CompositeValue r (value_put vs n i) ≡ u = cc (q) in
                    let a = ap (λ y. held s j (Some y)) same in
                    let b = rest (value_at vs n) i g in
                    let c = put_held vs n i old z in
                    let d = ap (held s j) z in
                    let e1 = held_one (CompositeValue r (value_put vs n i)) in
                    let e2 = held_one (CompositeValue r vs) in
                    let e3 = held_one i in
                    let e4 = held_one old in omega (arith, a, b, c, d, e1, e2, e3, e4)
    put_in_held (Some (IntValue n)) (x ∷ xs) w u e = absurd (cc)
    put_in_held (Some (BoolValue n)) (x ∷ xs) w u e = absurd (cc)
    put_in_held (Some (TextValue n)) (x ∷ xs) w u e = absurd (cc)
    put_in_held (Some VoidValue) (x ∷ xs) w u e = absurd (cc)
    put_in_held (Some (ErrorValue n)) (x ∷ xs) w u e = absurd (cc)
    put_in_held (Some (RefValue n c)) (x ∷ xs) w u e = absurd (cc)

  pub of_path : (m : Memory) → of.OfPath m s j
  of_path m rs q [] v old n l e =
      let a = of_written m q (Some v) l in
      let f : filled (read m q ∷ []) ≡ old = ap (λ x. x.0) (same_of e) in
      let g : write m q (Some v) ≡ n = ap (λ x. x.1) (same_of e) in
      let b = ap (λ vs. count s j (refs_in vs)) f in
      let c = ap (occ_memory s j) g in omega (arith, a, b, c)
  of_path m rs q (y ∷ ys) v old n l e = by_root (put_in rs (read m q) (y ∷ ys) v) refl e
    where
      by_root : (o : Option ValueTree) → put_in rs (read m q) (y ∷ ys) v ≡ o → put_root m q (filled (read_in rs (read m q) (y ∷ ys) ∷ [])) o ≡ Some (old, n)
          → occ_memory s j n + count s j (refs_in old) ≡ occ_memory s j m + held s j (Some v)
      by_root None f g = absurd (cc)
      by_root (Some u) f g =
          let a = of_written m q (Some u) l in
          let b = put_in_held rs (read m q) (y ∷ ys) v u f in
          let c : filled (read_in rs (read m q) (y ∷ ys) ∷ []) ≡ old = ap (λ x. x.0) (same_of g) in
          let d : write m q (Some u) ≡ n = ap (λ x. x.1) (same_of g) in
          let x = ap (λ vs. count s j (refs_in vs)) c in
          let z = ap (occ_memory s j) d in omega (arith, a, b, x, z)
