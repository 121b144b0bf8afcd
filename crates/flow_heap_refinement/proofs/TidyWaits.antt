-- An actor waits, starts, keeps an operand, ends: waiters and operands agree, and numbers rise.
use Rattle.std.proofs.Common.{◌≡◌, ℕ, suc, nat_eq, Bool, true, false, List, [], ◌∷◌, ◌++◌, if◌then◌else◌, refl, sym, ap, ◌∙◌, arith}
use Rattle.std.specs.declared.option.Option.{Option}
use Rattle.std.specs.declared.option.Option.TheVariants.{None, Some}
use Rattle.flow_base.specs.ErrorNumbers.{second_waiter}
use Rattle.flow_value.specs.Values.{ValueTree}
use Rattle.flow_numbered.specs.Numbered.{Numbered, thing, added, put, removed}
use Rattle.flow_meaning.specs.Cells.{Ref, Waiter, Cell, Single, Stream, waiters, with_waiter, is_busy}
use Rattle.flow_meaning.specs.Requests.{Spot}
use Rattle.flow_meaning.specs.Process.{Throw, Entry, Core}
use Rattle.flow_meaning.specs.Work.{new_cell, Registration, Registered, Refused, Missing, register_at, register_one, register}
use Rattle.flow_meaning.specs.Step.{entry_of, enrol_with, enrol, with_operand}
use Rattle.flow_meaning.specs.React.{suspend}
use Rattle.flow_meaning.specs.Orderly.{is_suspended, Rising}
use Rattle.flow_meaning.proofs.Posture.{same_number, other_number, each_number, thing_put, thing_put_other, thing_added, thing_removed_other, Unless, unless, Awake}
use Rattle.flow_meaning.proofs.Order.{rising_put}
use Rattle.flow_heap_refinement.specs.Counted.{branches_of, branches_at, waiters_at, waiting_by, waiting_of, Agree}
use Rattle.flow_heap_refinement.proofs.Finds.{none_above, thing_new, thing_removed}
use Rattle.flow_heap_refinement.proofs.Leaving.{joined, no_more}
use Rattle.flow_heap_refinement.proofs.OwnersOnce.{Since, entry_once, entry_made, entry_alone, entry_gone}
use Rattle.flow_heap_refinement.proofs.Tidy.{Tidy, agree_by, entry_tidy, leave_tidy, new_tidy}

-- an actor that runs waits nowhere
pub awake_waits : (o : Option Entry) → is_suspended o ≡ Some false → waiting_of o ≡ []
awake_waits None e = refl
awake_waits (Some e) h = by_flag e.suspended h
  where
    by_flag : (b : Bool) → Some b ≡ Some false → waiting_by b e.operands ≡ []
    by_flag true q = absurd (cc)
    by_flag false q = refl

-- the branches of an actor after a waiter came
branches_joined : (i : ℕ) (ws : List Waiter) (w : Waiter) → branches_of i (ws ++ w ∷ []) ≡ branches_of i ws ++ branches_of i (w ∷ [])
branches_joined i [] w = refl
branches_joined i (x ∷ ws) w = by_test (nat_eq x.actor i) (branches_joined i ws w)
  where
    by_test : (t : Bool) → branches_of i (ws ++ w ∷ []) ≡ branches_of i ws ++ branches_of i (w ∷ [])
        → (if t then x.branch ∷ branches_of i (ws ++ w ∷ []) else branches_of i (ws ++ w ∷ [])) ≡ (if t then x.branch ∷ branches_of i ws else branches_of i ws) ++ branches_of i (w ∷ [])
    by_test true e = ap (λ bs. x.branch ∷ bs) e
    by_test false e = e

with_branches : (i : ℕ) (c : Cell) (w : Waiter) → is_busy c ≡ false → branches_of i (waiters (with_waiter c w)) ≡ branches_of i (waiters c) ++ branches_of i (w ∷ [])
with_branches i (Single o ws) w n = branches_joined i ws w
with_branches i (Stream q x None) w n = refl
with_branches i (Stream q x (Some y)) w n = absurd (cc)

own_branch : (i b : ℕ) → branches_of i (record { actor = i; branch = b } ∷ []) ≡ b ∷ []
own_branch i b = ap (λ t. if t then b ∷ [] else []) (same_number i)

other_branch : (i j b : ℕ) → (i ≡ j → ⊥) → branches_of j (record { actor = i; branch = b } ∷ []) ≡ []
other_branch i j b n = ap (λ t. if t then b ∷ [] else []) (other_number j i (λ e. n (sym e)))

-- an actor is registered at its operands in order, and the others wait as before
module _ (i above made : ℕ) (cs : Numbered Cell) where
  abbrev Waits : (own : ℕ → List ℕ) → Registration → Type 0
  Waits own (Registered ds) =
      ((k : ℕ) → branches_of i (waiters_at (thing ds k)) ≡ own k) × ((j k : ℕ) → (i ≡ j → ⊥) → branches_of j (waiters_at (thing ds k)) ≡ branches_of j (waiters_at (thing cs k))) × Rising above made ds
  Waits own Refused = Unit {0}
  Waits own Missing = Unit {0}

  one_more : (own : ℕ → List ℕ) (b : ℕ) (r : Ref) (ds : Numbered Cell) (x : Option Cell) → thing ds r.1 ≡ x → Waits own (Registered ds)
      → Waits (λ k. own k ++ branches_at k b (r ∷ [])) (register_at (record { actor = i; branch = b }) r.1 ds x)
  one_more own b r ds None at h = tt
  one_more own b r ds (Some c) at h = by_test (is_busy c) refl
    where
      w : Waiter
      w = record { actor = i; branch = b }

      es : Numbered Cell
      es = put ds r.1 (with_waiter c w)

      here_is : thing es r.1 ≡ Some (with_waiter c w)
      here_is = thing_put ds r.1 c (with_waiter c w) at

      by_test : (t : Bool) → is_busy c ≡ t → Waits (λ k. own k ++ branches_at k b (r ∷ [])) (if t then Refused else Registered es)
      by_test true g = tt
      by_test false g = (
        each_number r.1 (λ k. branches_of i (waiters_at (thing es k)) ≡ own k ++ branches_at k b (r ∷ []))
            (ap (λ o. branches_of i (waiters_at o)) here_is ∙ with_branches i c w g ∙ ap (λ bs. branches_of i (waiters c) ++ bs) (own_branch i b)
            ∙ ap (λ bs. bs ++ b ∷ []) (sym (ap (λ o. branches_of i (waiters_at o)) at) ∙ h.0 r.1)
            ∙ ap (λ t. own r.1 ++ (if t then b ∷ [] else [])) (sym (same_number r.1)))
            (λ k n. ap (λ o. branches_of i (waiters_at o)) (thing_put_other ds r.1 k (with_waiter c w) n) ∙ h.0 k ∙ sym (no_more (own k))
            ∙ ap (λ t. own k ++ (if t then b ∷ [] else [])) (sym (other_number k r.1 (λ e. n (sym e))))),
        λ j k n. each_number r.1 (λ k. branches_of j (waiters_at (thing es k)) ≡ branches_of j (waiters_at (thing cs k)))
            (ap (λ o. branches_of j (waiters_at o)) here_is ∙ with_branches j c w g ∙ ap (λ bs. branches_of j (waiters c) ++ bs) (other_branch i j b n) ∙ no_more (branches_of j (waiters c))
            ∙ sym (ap (λ o. branches_of j (waiters_at o)) at) ∙ h.1 j r.1 n)
            (λ k d. ap (λ o. branches_of j (waiters_at o)) (thing_put_other ds r.1 k (with_waiter c w) d) ∙ h.1 j k n) k,
        rising_put ds above made r.1 (with_waiter c w) h.2,
      )

  one_registered : (own : ℕ → List ℕ) (b : ℕ) (r : Ref) (q : Registration) → Waits own q → Waits (λ k. own k ++ branches_at k b (r ∷ [])) (register_one (record { actor = i; branch = b }) r.1 q)
  one_registered own b r (Registered ds) h = one_more own b r ds (thing ds r.1) refl h
  one_registered own b r Refused h = tt
  one_registered own b r Missing h = tt

  by_same : (own new : ℕ → List ℕ) (q : Registration) → ((k : ℕ) → own k ≡ new k) → Waits own q → Waits new q
  by_same own new (Registered ds) e h = (λ k. h.0 k ∙ e k, h.1, h.2)
  by_same own new Refused e h = tt
  by_same own new Missing e h = tt

  all_registered : (own : ℕ → List ℕ) (b : ℕ) (rs : List Ref) (q : Registration) → Waits own q → Waits (λ k. own k ++ branches_at k b rs) (register i b rs q)
  all_registered own b [] q h = by_same own (λ k. own k ++ []) q (λ k. sym (no_more (own k))) h
  all_registered own b (r ∷ rs) q h =
      by_same (λ k. (own k ++ branches_at k b (r ∷ [])) ++ branches_at k (suc b) rs) (λ k. own k ++ branches_at k b (r ∷ rs))
      (register i (suc b) rs (register_one (record { actor = i; branch = b }) r.1 q))
      (λ k. by_test k (nat_eq r.1 k))
      (all_registered (λ k. own k ++ branches_at k b (r ∷ [])) (suc b) rs (register_one (record { actor = i; branch = b }) r.1 q) (one_registered own b r q h))
    where
      by_test : (k : ℕ) (t : Bool) → (own k ++ (if t then b ∷ [] else [])) ++ branches_at k (suc b) rs ≡ own k ++ (if t then b ∷ branches_at k (suc b) rs else branches_at k (suc b) rs)
      by_test k true = sym (joined (own k) (branches_at k (suc b) rs) b)
      by_test k false = ap (λ bs. bs ++ branches_at k (suc b) rs) (no_more (own k))

-- an actor in hand waits
pub suspend_tidy : (z : Since) → (i : ℕ) (spot : Spot) (e e0 : Entry) (vs : List ValueTree) (c : Core) → Awake i c → thing c.entries i ≡ Some e0 → e.result ≡ e0.result → Tidy z c
    → Unless (Tidy z) (suspend i spot e vs (register i 0 e.operands (Registered c.cells)) c)
suspend_tidy z i spot e e0 vs c awake at same t =
    by_registration (register i 0 e.operands (Registered c.cells))
    (all_registered i 0 c.made c.cells (λ k. []) 0 e.operands (Registered c.cells) (λ k. t.0 i k ∙ ap (branches_at k 0) (awake_waits (thing c.entries i) awake), λ j k n. refl, t.1))
  where
    asleep : Entry
    asleep = record e { suspended = true }

    by_registration : (q : Registration) → Waits i 0 c.made c.cells (λ k. [] ++ branches_at k 0 e.operands) q → Unless (Tidy z) (suspend i spot e vs q c)
    by_registration Missing h = tt
    by_registration Refused h = unless c.halted (leave_tidy z i e e0 vs (Throw i second_waiter) c at same t)
    by_registration (Registered cells) h = unless c.halted (
      each_number i (λ j. (k : ℕ) → branches_of j (waiters_at (thing cells k)) ≡ branches_at k 0 (waiting_of (thing (put c.entries i asleep) j)))
          (λ k. h.0 k ∙ sym (ap (λ o. branches_at k 0 (waiting_of o)) (thing_put c.entries i e0 asleep at)))
          (λ j n k. h.1 j k n ∙ t.0 j k ∙ ap (λ o. branches_at k 0 (waiting_of o)) (sym (thing_put_other c.entries i j asleep n))),
      h.2,
      t.2,
      t.3,
      entry_once z c i e0 asleep at same t.4,
    )

-- an actor is made, which waits nowhere
enrolled_agree : (class : ℕ) (name : List ℕ) (result : Option ℕ) (c : Core) → Rising 0 c.started c.entries → Agree c → Agree (enrol_with class name result c)
enrolled_agree class name result c rise a =
    let i = suc c.started in
    let e = entry_of class result in
    let none = none_above c.entries 0 c.started i rise (omega arith) in
    agree_by c (enrol_with class name result c) (λ k. refl)
    (each_number i (λ j. waiting_of (thing (added c.entries i e) j) ≡ waiting_of (thing c.entries j))
    (ap waiting_of (thing_new c.entries i e none) ∙ sym (ap waiting_of none)) (λ j d. ap waiting_of (thing_added c.entries i j e d)))
    a

pub enrol_tidy : (z : Since) → (class : ℕ) (name : List ℕ) (c : Core) → Rising 0 c.started c.entries → Tidy z c → Tidy z (enrol class name c)
enrol_tidy z class name c rise t =
    let n = new_tidy z (Single None []) c refl t in (
      enrolled_agree class name (Some (suc c.made)) (new_cell (Single None []) c) rise n.0,
      n.1,
      n.2,
      n.3,
      entry_made z c (suc c.started) (entry_of class (Some (suc c.made))) refl t.4,
    )

pub enrol_void_tidy : (z : Since) → (class : ℕ) (name : List ℕ) (c : Core) → Rising 0 c.started c.entries → Tidy z c → Tidy z (enrol_with class name None c)
enrol_void_tidy z class name c rise t =
    (enrolled_agree class name None c rise t.0, t.1, t.2, t.3, entry_alone z c (suc c.started) (entry_of class None) refl t.4)

-- one operand more
pub kept_tidy : (z : Since) → (i : ℕ) (spot : Spot) (r : Ref) (e : Entry) (c : Core) → Awake i c → thing c.entries i ≡ Some e → Tidy z c
    → Tidy z (record c { entries = put c.entries i (with_operand spot r e) })
kept_tidy z i spot r e c awake at t = entry_tidy z i e (with_operand spot r e) c at (by_flag e.suspended (sym (ap is_suspended at) ∙ awake)) refl t
  where
    by_flag : (b : Bool) → Some b ≡ Some false → waiting_by b (e.operands ++ r ∷ []) ≡ waiting_by b e.operands
    by_flag true q = absurd (cc)
    by_flag false q = refl

-- an actor is gone
pub over_tidy : (z : Since) → (i : ℕ) (c : Core) → Awake i c → Rising 0 c.started c.entries → Tidy z c → Tidy z (record c { entries = removed c.entries i })
over_tidy z i c awake rise t = (
  agree_by c (record c { entries = removed c.entries i }) (λ k. refl)
      (each_number i (λ j. waiting_of (thing (removed c.entries i) j) ≡ waiting_of (thing c.entries j))
      (ap waiting_of (thing_removed c.entries 0 c.started i rise) ∙ sym (awake_waits (thing c.entries i) awake)) (λ j n. ap waiting_of (thing_removed_other c.entries i j n)))
      t.0,
  t.1,
  t.2,
  t.3,
  entry_gone z c i t.4,
)
