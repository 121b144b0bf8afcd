-- Values that an actor hands out, waits and cancels leave each cell with a reference.
use Rattle.std.proofs.Common.{◌≡◌, ℕ, suc, ◌+◌, ◌≤◌, Bool, true, false, List, [], ◌∷◌, inl, inr, refl, sym, ap, subst, ◌∙◌, arith}
use Rattle.std.specs.declared.option.Option.{Option}
use Rattle.std.specs.declared.option.Option.TheVariants.{None, Some}
use Rattle.flow_base.specs.ErrorNumbers.{operation_cancelled, second_waiter}
use Rattle.flow_value.specs.Values.{ValueTree, OutcomeTree}
use Rattle.flow_numbered.specs.Numbered.{Numbered, thing, put}
use Rattle.flow_meaning.specs.Cells.{Side, FutureSide, side_of, Ref, Waiter, Cell, Single, Stream, is_busy, with_waiter, taken, after_taking}
use Rattle.flow_meaning.specs.Requests.{Spot}
use Rattle.flow_meaning.specs.Process.{Task, Give, Throw, Entry, Core}
use Rattle.flow_meaning.specs.References.{refs_in, one, count, count_kept, in_task}
use Rattle.flow_meaning.specs.Orderly.{Rising}
use Rattle.flow_meaning.specs.Lines.{take_line, wait_line, cancel_line}
use Rattle.flow_meaning.specs.Work.{writes, pushed, dropping_values, leave_for, give, take_branch, first_ready, Registration, Registered, Refused, Missing, register_at, register, owner, marked, cancel_by, cancel, cancel_owner}
use Rattle.flow_meaning.specs.React.{at_spot, suspend, wait_by, wait}
use Rattle.flow_meaning.specs.Step.{proc}
use Rattle.flow_meaning.specs.Frame.{Frame}
use Rattle.flow_meaning.proofs.Posture.{Unless, unless, after_turn, each_number, thing_put, thing_put_other}
use Rattle.flow_meaning.proofs.Order.{rising_put}
use Rattle.flow_heap_refinement.specs.Counted.{Agree}
use Rattle.flow_heap_refinement.specs.Leaving.{wait_kind, RightKinds}
use Rattle.flow_heap_refinement.specs.References.{cell_holds, entry_holds}
use Rattle.flow_heap_refinement.proofs.Owners.{entry_found}
use Rattle.flow_heap_refinement.proofs.Referring.{of_waiter}
use Rattle.flow_invariants.proofs.Referenced.Onward.{no_refs, Onward, onward_on, Refers, refers_on, entry_onward, replaced_onward, cell_onward, taking_onward, drop_onward, drop_push_onward}
use Rattle.flow_invariants.proofs.Referenced.Tasks.{agree_put}
use Rattle.flow_invariants.proofs.Referenced.Ends.{taken_agrees, taken_kinds}

-- a cell keeps its kind with a waiter more
busy_kind : (cell : Cell) (w : Waiter) → wait_kind (Some (with_waiter cell w)) ≡ wait_kind (Some cell)
busy_kind (Single o ws) w = refl
busy_kind (Stream q e x) w = refl

waited_kinds : (cs : Numbered Cell) (j : ℕ) (cell : Cell) (w : Waiter) → thing cs j ≡ Some cell → (qs : List Ref) → RightKinds cs qs → RightKinds (put cs j (with_waiter cell w)) qs
waited_kinds cs j cell w at [] h = tt
waited_kinds cs j cell w at (q ∷ qs) h = (
  h.0
      ∙ each_number j (λ n. wait_kind (thing cs n) ≡ wait_kind (thing (put cs j (with_waiter cell w)) n))
      (ap wait_kind at ∙ sym (busy_kind cell w) ∙ sym (ap wait_kind (thing_put cs j cell (with_waiter cell w) at)))
      (λ n o. ap wait_kind (sym (thing_put_other cs j n (with_waiter cell w) o))) q.1,
  waited_kinds cs j cell w at qs h.1,
)

kind_side : (x : Option Cell) → side_of (wait_kind x) ≡ FutureSide
kind_side None = refl
kind_side (Some (Single o ws)) = refl
kind_side (Some (Stream q e w)) = refl

module _ (k : ℕ) (ys : Numbered Frame) (i : ℕ) where
  -- each operand becomes a waiter, which is a future
  abbrev Reg : Core → List Ref → Registration → Type 0
  Reg d qs (Registered cells) = Onward k (λ s. count s k qs) no_refs d ys (record d { cells = cells }) ys
  Reg d qs Refused = Unit {0}
  Reg d qs Missing = Unit {0}

  missing : (d : Core) (all : List Ref) (b : ℕ) (qs : List Ref) → Reg d all (register i b qs Missing)
  missing d all b [] = tt
  missing d all b (q ∷ qs) = missing d all (suc b) qs

  refused : (d : Core) (all : List Ref) (b : ℕ) (qs : List Ref) → Reg d all (register i b qs Refused)
  refused d all b [] = tt
  refused d all b (q ∷ qs) = refused d all (suc b) qs

  registered : (d : Core) (b : ℕ) (qs : List Ref) → RightKinds d.cells qs → Reg d qs (register i b qs (Registered d.cells))
  registered d b [] h = ((λ z. z), (λ s. omega arith), (λ w. w))
  registered d b (q ∷ qs) h = by_cell (thing d.cells q.1) refl (λ c z. registered c (suc b) qs z)
    where
      more : (cell : Cell) → thing d.cells q.1 ≡ Some cell → is_busy cell ≡ false → (x : Registration)
          → Reg (record d { cells = put d.cells q.1 (with_waiter cell (record { actor = i; branch = b })) }) qs x → Reg d (q ∷ qs) x
      more cell at free (Registered cells) g =
          let e = record d { cells = put d.cells q.1 (with_waiter cell (record { actor = i; branch = b })) } in
          let there = (cell_onward k no_refs (λ s. cell_holds s k q.1 cell) q.1 cell (with_waiter cell (record { actor = i; branch = b })) d ys at (λ s. omega arith)).0 in (
            λ z. there (g.0 z),
            λ s.
                let x = g.1 s in
                let y = of_waiter (proc d ys) s k q.1 cell (record { actor = i; branch = b }) at free in
                let side : one s k (side_of q.0) q.1 ≡ one s k FutureSide q.1 = ap (λ z. one s k z q.1) (ap side_of h.0 ∙ kind_side (thing d.cells q.1)) in omega (arith, x, y, side),
            λ z. g.2 z,
          )
      more cell at free Refused g = tt
      more cell at free Missing g = tt

      by_busy : (cell : Cell) → thing d.cells q.1 ≡ Some cell → (t : Bool) → is_busy cell ≡ t → ((c : Core) → RightKinds c.cells qs → Reg c qs (register i (suc b) qs (Registered c.cells)))
          → Reg d (q ∷ qs) (register i (suc b) qs (Rattle.std.specs.Prelude.if◌then◌else◌ t Refused (Registered (put d.cells q.1 (with_waiter cell (record { actor = i; branch = b }))))))
      by_busy cell at true e later = refused d (q ∷ qs) (suc b) qs
      by_busy cell at false e later =
          let c = record d { cells = put d.cells q.1 (with_waiter cell (record { actor = i; branch = b })) } in
          more cell at e (register i (suc b) qs (Registered c.cells)) (later c (waited_kinds d.cells q.1 cell (record { actor = i; branch = b }) at qs h.1))

      by_cell : (x : Option Cell) → thing d.cells q.1 ≡ x → ((c : Core) → RightKinds c.cells qs → Reg c qs (register i (suc b) qs (Registered c.cells)))
          → Reg d (q ∷ qs) (register i (suc b) qs (register_at (record { actor = i; branch = b }) q.1 d.cells x))
      by_cell None e later = missing d (q ∷ qs) (suc b) qs
      by_cell (Some cell) e later = by_busy cell e (is_busy cell) refl later

  -- an actor is cancelled
  cancel_by_on : (c : Core) → Agree c → Rising 0 c.made c.cells → (b : Bool) (j : ℕ) (e : Entry) → thing c.entries j ≡ Some e → (b ≡ true → RightKinds c.cells e.operands)
      → Onward k no_refs no_refs c ys (cancel_by b j e (writes (cancel_line j) c)) ys
  cancel_by_on c agree up false j e at kinds = entry_onward k no_refs no_refs j e (marked e) (writes (cancel_line j) c) ys at (inl refl) (λ z. omega arith)
  cancel_by_on c agree up true j e at kinds =
      let m = replaced_onward k no_refs j e (marked e) [] (Throw j operation_cancelled) (writes (cancel_line j) c) ys at (inl refl) (λ z. omega arith) (agree_put c j e (marked e) at refl agree)
      (kinds refl) up in
      (m.0, (λ s. let n = m.1 s in omega (arith, n)), m.2)

  pub cancel_refers : (c : Core) → Refers k c ys → Agree c → Rising 0 c.made c.cells → Rising 0 c.started c.entries
      → ((j : ℕ) (e : Entry) → thing c.entries j ≡ Some e → e.suspended ≡ true → RightKinds c.cells e.operands) → (n : ℕ)
      → Unless (λ d. Refers k d ys) (cancel_owner (owner n c.entries) c)
  cancel_refers c h agree up rising kinds n = by_owner (owner n c.entries) refl
    where
      by_owner : (o : Option (ℕ × Entry)) → owner n c.entries ≡ o → Unless (λ d. Refers k d ys) (cancel_owner o c)
      by_owner None q = unless c.halted h
      by_owner (Some o) q =
          let at = (entry_found n 0 c.started o c.entries rising q).0 in
          let d = cancel o.0 o.1 c in
          unless d.halted (refers_on k c ys d ys (cancel_by_on c agree up o.1.suspended o.0 o.1 at (kinds o.0 o.1 at)) h)

  -- with values that the actor's frame gave
  module _ (b : Core) (xs : Numbered Frame) (c : Core) (vs : List ValueTree) (g : Onward k no_refs (λ s. count s k (refs_in vs)) b xs c ys) (h : Refers k b xs) where
    abbrev Fine : Core → Type 0
    Fine d = Unless (λ d. Refers k d ys) d

    abbrev hand : Side → ℕ
    hand s = count s k (refs_in vs)

    finish : (d : Core) → Onward k (λ s. count s k (refs_in vs)) no_refs c ys d ys → Fine d
    finish d f = unless d.halted (refers_on k b xs d ys (onward_on k no_refs (λ s. count s k (refs_in vs)) no_refs b xs c ys d ys g f) h)

    pub dropped_refers : (t : Task) → Fine (dropping_values vs (pushed t c))
    dropped_refers t =
        let m = drop_push_onward k vs t c ys in
        finish (dropping_values vs (pushed t c)) (m.0, (λ s. let n = m.1 s in omega (arith, n)), m.2)

    module _ (spot : Spot) (e : Entry) (at : thing c.entries i ≡ Some e) (awake : e.suspended ≡ false) (kinds : RightKinds c.cells e.operands) (agree : Agree c) (up : Rising 0 c.made c.cells) where
      abbrev there : Entry
      there = at_spot spot e

      agree_there : Agree (record c { entries = put c.entries i there })
      agree_there = agree_put c i e there at refl agree

      takes : (m : ℕ) (j : ℕ) (x : Option Cell) → thing c.cells j ≡ x → Fine (take_branch i m j there vs x c)
      takes m j None found = tt
      takes m j (Some cell) found = after_turn (λ d. Refers k d ys)
          (λ d. give i m there vs (taken cell) (record (writes (take_line i there.spot.group m) d) { cells = put d.cells j (after_taking cell) })) c c.left (λ n. by_taken n (taken cell) refl)
        where
          by_taken : (n : ℕ) (o : Option OutcomeTree) → taken cell ≡ o
              → Fine (give i m there vs o (record (writes (take_line i there.spot.group m) (record c { left = n })) { cells = put c.cells j (after_taking cell) }))
          by_taken n None got = tt
          by_taken n (Some o) got =
              let d = record (writes (take_line i there.spot.group m) (record c { left = n })) { cells = put c.cells j (after_taking cell) } in
              let x = taking_onward k j cell o c ys found got in
              let l = replaced_onward k no_refs i e there vs (Give i m o) d ys at (inr (refl, refl)) (λ s. omega arith)
              (taken_agrees (record c { entries = put c.entries i there }) j cell found agree_there) (taken_kinds c j cell found e.operands kinds)
              (rising_put c.cells 0 c.made j (after_taking cell) up) in
              finish (leave_for i there vs (Give i m o) d) (
                (λ w. x.0 (l.0 w)),
                (λ s. let y = x.1 s in let z = l.1 s in let w : in_task s k (Give i m o) ≡ in_task s k (Give 0 0 o) = refl in omega (arith, y, z, w)),
                (λ w. x.2 (l.2 w)),
              )

      abbrev asleep : Core
      asleep = record (writes (wait_line i spot.group) c) { entries = put c.entries i (record there { suspended = true }) }

      suspends : (q : Registration) → Reg asleep e.operands q → Fine (suspend i spot there vs q c)
      suspends Missing f = tt
      suspends Refused f =
          let m = replaced_onward k no_refs i e there vs (Throw i second_waiter) c ys at (inr (refl, refl)) (λ s. omega arith) agree_there kinds up in
          finish (leave_for i there vs (Throw i second_waiter) c) (m.0, (λ s. let n = m.1 s in omega (arith, n)), m.2)
      suspends (Registered cells) f =
          let kept : (s : Side) → entry_holds s k e + 0 ≤ entry_holds s k (record there { suspended = true }) + count s k e.operands =
          (λ s. let a = ap (λ t. count_kept s k t e.operands) awake in omega (arith, a)) in
          let x = entry_onward k no_refs (λ s. count s k e.operands) i e (record there { suspended = true }) (writes (wait_line i spot.group) c) ys at (inr (refl, refl)) kept in
          let d = record asleep { cells = cells } in
          let y = drop_onward k vs d ys in
          finish (dropping_values vs d) ((λ z. x.0 (f.0 z)), (λ s. let a = x.1 s in let b = f.1 s in let m = y.1 s in omega (arith, a, b, m)), (λ w. x.2 (f.2 w)))

      pub wait_refers : Fine (wait i spot (thing c.entries i) vs c)
      wait_refers = subst (λ x. Fine (wait i spot x vs c)) (sym at) (by_first (first_ready c.cells 0 e.operands))
        where
          by_first : (o : Option (ℕ × ℕ)) → Fine (wait_by i spot there vs o c)
          by_first (Some o) = takes o.0 o.1 (thing c.cells o.1) refl
          by_first None = suspends (register i 0 e.operands (Registered c.cells)) (registered asleep 0 e.operands kinds)
