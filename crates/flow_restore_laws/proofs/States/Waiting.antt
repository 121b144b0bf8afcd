-- Who waits at a cell of a heap at rest is a callback there, and a callback waits at its cell.
use Rattle.std.proofs.Common.{◌≡◌, ◌⊎◌, inl, inr, ℕ, suc, ◌+◌, nat_eq, Bool, true, false, ◌&&◌, ◌||◌, List, [], ◌∷◌, map, if◌then◌else◌, refl, sym, ap, ap₂, ◌∙◌, subst, arith}
use Rattle.std.proofs.lemmas.Bool.Decides.{nat_tests}
use Rattle.std.specs.List.{AllByRecursion}
use Rattle.std.specs.Option.{option_map}
use Rattle.std.specs.declared.option.Option.{Option}
use Rattle.std.specs.declared.option.Option.TheVariants.{None, Some}
use Rattle.flow_value.specs.declared.value.Value.{Value}
use Rattle.flow_class.specs.Classes.{RawTree}
use Rattle.flow_numbered.specs.Numbered.{Numbered, thing}
use Rattle.flow_cell.specs.declared.waiter.Waiter as memory
use Rattle.flow_cell.specs.Waiting.{same_waiter, has_waiter}
use Rattle.flow_frame.specs.Frames.{FrameTree}
use Rattle.flow_cancel.specs.Heap.{HeapTree, actor_id}
use Rattle.flow_cancel.specs.Leaving.{is_waiter}
use Rattle.flow_heapstate.specs.State.{cell_part, stream_part, actor_part, parts_of}
use Rattle.flow_heapstate.specs.Sound.{at_number, cell_at, stream_at, actor_at, waits_in, WaitsAt, has_held, calls_back, IsWaiting}
use Rattle.flow_meaning.specs.Requests.{Spot}
use Rattle.flow_meaning.specs.Cells.{Ref, Waiter, Cell, Single, Stream, waiters, as_list}
use Rattle.flow_meaning.specs.Process.{Entry, Proc}
use Rattle.flow_meaning.specs.Frame.{Frame}
use Rattle.flow_meaning.specs.Views.{spot_at}
use Rattle.flow_meaning.proofs.Posture.{same_number}
use Rattle.flow_meaning.proofs.Shifts.{same_of}
use Rattle.flow_heap_refinement.specs.Counted.{branches_of, branches_at, waiters_at, waiting_by, waiting_of}
use Rattle.flow_heap_refinement.specs.Representing.{waiter_in, held_from, wait_spot}
use Rattle.flow_restore_laws.specs.States.Heaps.{Fitting}
use Rattle.flow_restore_laws.proofs.States.Standing.{spots, SingleAt, single_at, single_back, StreamAt, stream_back, ActorStands, actor_stands, actor_back}
use Rattle.flow_restore_laws.proofs.States.Standing as standing

-- a number is among these
abbrev Among : ℕ → List ℕ → Type 0
Among b [] = ⊥
Among b (c ∷ cs) = (c ≡ b) ⊎ Among b cs

-- what stands at a number among the parts
pub part_at : {A P : Type 0} (number : P → ℕ) (part : ℕ × A → P) → ((x : ℕ × A) → number (part x) ≡ x.0) → (xs : Numbered A) (n : ℕ)
    → at_number number (map part xs) n ≡ option_map (λ a. part (n, a)) (thing xs n)
part_at number part same [] n = refl
part_at number part same (x ∷ xs) n = ap (λ m. if nat_eq n m then Some (part x) else at_number number (map part xs) n) (same x) ∙ by_test (nat_eq n x.0) refl (part_at number part same xs n)
  where
    by_test : (t : Bool) → nat_eq n x.0 ≡ t → at_number number (map part xs) n ≡ option_map (λ a. part (n, a)) (thing xs n)
        → (if t then Some (part x) else at_number number (map part xs) n) ≡ option_map (λ a. part (n, a)) (if t then Some x.1 else thing xs n)
    by_test true e rest = let is : x.0 ≡ n = grind (arith, nat_tests, e) in ap (λ m. Some (part (m, x.1))) is
    by_test false e rest = rest

or_true : (a b : Bool) → b ≡ true → (a || b) ≡ true
or_true true b e = refl
or_true false b e = e

both_true : (n m k j : ℕ) → n ≡ m → k ≡ j → (nat_eq n m && nat_eq k j) ≡ true
both_true n m k j a b = ap₂ (λ x y. nat_eq x m && nat_eq y j) a b ∙ ap₂ (λ x y. x && y) (same_number m) (same_number j)

-- a branch that waits is a callback
called : (n b c first : ℕ) (rs : List Ref) → Among b (branches_at n c rs) → has_held (held_from (first + c) rs) (first + b) n ≡ true
called n b c first [] t = absurd t
called n b c first (r ∷ rs) t = by_test (nat_eq r.1 n) refl t (λ u. called n b (suc c) first rs u)
  where
    next : first + suc c ≡ suc (first + c)
    next = omega arith

    by_test : (x : Bool) → nat_eq r.1 n ≡ x → Among b (if x then c ∷ branches_at n (suc c) rs else branches_at n (suc c) rs)
        → (Among b (branches_at n (suc c) rs) → has_held (held_from (first + suc c) rs) (first + b) n ≡ true)
        → ((nat_eq (first + c) (first + b) && nat_eq r.1 n) || has_held (held_from (suc (first + c)) rs) (first + b) n) ≡ true
    by_test true e (inl is) rest =
        ap (λ x. x || has_held (held_from (suc (first + c)) rs) (first + b) n) (both_true (first + c) (first + b) r.1 n (ap (λ m. first + m) is) (grind (arith, nat_tests, e)))
    by_test true e (inr u) rest =
        or_true (nat_eq (first + c) (first + b) && nat_eq r.1 n) _ (ap (λ m. has_held (held_from m rs) (first + b) n) (sym next) ∙ rest u)
    by_test false e u rest =
        or_true (nat_eq (first + c) (first + b) && nat_eq r.1 n) _ (ap (λ m. has_held (held_from m rs) (first + b) n) (sym next) ∙ rest u)

-- a branch of an actor among the waiters of a cell is a waiter there
waiting : (at : ℕ → Spot) (i b : ℕ) (ws : List Waiter) → Among b (branches_of i ws) → has_waiter (map (waiter_in at) ws) (record { actor = actor_id i; callback = (at i).first + b }) ≡ true
waiting at i b [] t = absurd t
waiting at i b (w ∷ ws) t = by_test (nat_eq w.actor i) refl t (waiting at i b ws)
  where
    v : memory.Waiter
    v = record { actor = actor_id i; callback = (at i).first + b }

    by_test : (x : Bool) → nat_eq w.actor i ≡ x → Among b (if x then w.branch ∷ branches_of i ws else branches_of i ws) → (Among b (branches_of i ws) → has_waiter (map (waiter_in at) ws) v ≡ true)
        → (same_waiter (waiter_in at w) v || has_waiter (map (waiter_in at) ws) v) ≡ true
    by_test true e (inl is) rest =
        let same : w.actor ≡ i = grind (arith, nat_tests, e) in
        ap (λ x. x || has_waiter (map (waiter_in at) ws) v)
        (both_true w.actor i ((at w.actor).first + w.branch) ((at i).first + b) same (ap₂ (λ x y. (at x).first + y) same is))
    by_test true e (inr u) rest = or_true (same_waiter (waiter_in at w) v) _ (rest u)
    by_test false e u rest = or_true (same_waiter (waiter_in at w) v) _ (rest u)

-- each waiter's branch is among those of its actor
own_branch : (ws : List Waiter) → AllByRecursion (λ (w : Waiter). Among w.branch (branches_of w.actor ws)) ws
own_branch ws = each ws (λ w t. t)
  where
    -- those of a part of the list are among those of the list
    each : (us : List Waiter) → ((w : Waiter) → Among w.branch (branches_of w.actor us) → Among w.branch (branches_of w.actor ws))
        → AllByRecursion (λ (w : Waiter). Among w.branch (branches_of w.actor ws)) us
    each [] f = tt
    each (u ∷ us) f = (f u (own u us), each us (λ w t. f w (more w u us t)))
      where
        own : (u : Waiter) (us : List Waiter) → Among u.branch (branches_of u.actor (u ∷ us))
        own u us = subst (λ x. Among u.branch (if x then u.branch ∷ branches_of u.actor us else branches_of u.actor us)) (sym (same_number u.actor)) (inl refl)

        more : (w u : Waiter) (us : List Waiter) → Among w.branch (branches_of w.actor us) → Among w.branch (branches_of w.actor (u ∷ us))
        more w u us t = by_test (nat_eq u.actor w.actor)
          where
            by_test : (x : Bool) → Among w.branch (if x then u.branch ∷ branches_of w.actor us else branches_of w.actor us)
            by_test true = inr t
            by_test false = t

module _ (r : RawTree) (h : HeapTree) (p : Proc Frame) (f : Fitting r h p) where
  -- where somebody is a branch at a cell, it is a suspended actor
  calls : (n i b : ℕ) → Among b (branches_of i (waiters_at (thing p.core.cells n))) → calls_back (actor_at (parts_of h) i) ((spots r h p f i).first + b) n ≡ true
  calls n i b t = by_entry (thing p.core.entries i) refl (subst (Among b) (f.rested.running.agree i n) t)
    where
      by_entry : (o : Option Entry) → thing p.core.entries i ≡ o → Among b (branches_at n 0 (waiting_of o)) → calls_back (actor_at (parts_of h) i) ((spots r h p f i).first + b) n ≡ true
      by_entry None e u = absurd u
      by_entry (Some x) e u =
          let back = actor_back r h p f i x e in
          let a = actor_stands r h p f i back.0 back.1 in
          let same : a.entry ≡ x = same_of (sym a.entered ∙ e) in
          let asleep : x.suspended ≡ true = ap (λ (y : Entry). y.suspended) (sym same) ∙ a.asleep in
          let at : (spots r h p f i).first ≡ (wait_spot a.frame).first = ap (λ o. (spot_at wait_spot o).first) a.acting in
          let part = part_at (λ y. y.actor) (actor_part h.actors.things) (λ y. refl) h.frames.things i in
          let there : actor_at (parts_of h) i ≡ Some (actor_part h.actors.things (i, back.0)) = part ∙ ap (option_map (λ m. actor_part h.actors.things (i, m))) back.1 in
          let v : Among b (branches_at n 0 x.operands) = subst (λ y. Among b (branches_at n 0 (waiting_by y x.operands))) asleep u in
          let zero_first : (wait_spot a.frame).first + 0 ≡ (wait_spot a.frame).first = omega arith in
          let held : has_held (held_from (wait_spot a.frame).first x.operands) ((wait_spot a.frame).first + b) n ≡ true =
          ap (λ m. has_held (held_from m x.operands) ((wait_spot a.frame).first + b) n) (sym zero_first) ∙ called n b 0 (wait_spot a.frame).first x.operands v in
          let callbacks : back.0.callbacks ≡ held_from (wait_spot a.frame).first x.operands = a.stands.callbacks ∙ ap (λ (y : Entry). held_from (wait_spot a.frame).first y.operands) same in
          ap (λ o. calls_back o ((spots r h p f i).first + b) n) there ∙ ap (λ m. has_held back.0.callbacks (m + b) n) at ∙ ap (λ xs. has_held xs ((wait_spot a.frame).first + b) n) callbacks ∙ held

  -- each waiter of a cell is a callback of its actor
  pub waiters_call : (n : ℕ) (ws : List Waiter) → waiters_at (thing p.core.cells n) ≡ ws → AllByRecursion (IsWaiting (parts_of h) n) (map (waiter_in (spots r h p f)) ws)
  waiters_call n ws e = each ws (own_branch ws)
    where
      each : (us : List Waiter) → AllByRecursion (λ (w : Waiter). Among w.branch (branches_of w.actor ws)) us → AllByRecursion (IsWaiting (parts_of h) n) (map (waiter_in (spots r h p f)) us)
      each [] t = tt
      each (u ∷ us) t = (calls n u.actor u.branch (subst (λ xs. Among u.branch (branches_of u.actor xs)) (sym e) t.0), each us t.1)

  -- a branch at a cell waits there
  waits : (n i b : ℕ) → Among b (branches_of i (waiters_at (thing p.core.cells n)))
      → waits_in (cell_at (parts_of h) n) (stream_at (parts_of h) n) (record { actor = actor_id i; callback = (spots r h p f i).first + b }) ≡ true
  waits n i b t = by_cell (thing p.core.cells n) refl t
    where
      v : memory.Waiter
      v = record { actor = actor_id i; callback = (spots r h p f i).first + b }

      cell_is : cell_at (parts_of h) n ≡ option_map (λ m. cell_part h.requests (n, m)) (thing h.cells.things n)
      cell_is = part_at (λ y. y.cell) (cell_part h.requests) (λ y. refl) h.cells.things n

      stream_is : stream_at (parts_of h) n ≡ option_map (λ m. stream_part h.ports (n, m)) (thing h.streams.things n)
      stream_is = part_at (λ y. y.cell) (stream_part h.ports) (λ y. refl) h.streams.things n

      one_list : (o : Option Waiter) → has_waiter (map (waiter_in (spots r h p f)) (as_list o)) v ≡ true → is_waiter v (option_map (waiter_in (spots r h p f)) o) ≡ true
      one_list None e = e
      one_list (Some w) e = sym (or_no (same_waiter (waiter_in (spots r h p f) w) v)) ∙ e
        where
          or_no : (a : Bool) → (a || false) ≡ a
          or_no true = refl
          or_no false = refl

      by_cell : (o : Option Cell) → thing p.core.cells n ≡ o → Among b (branches_of i (waiters_at o)) → waits_in (cell_at (parts_of h) n) (stream_at (parts_of h) n) v ≡ true
      by_cell None e u = absurd u
      by_cell (Some (Single content ws)) e u =
          let back = single_back r h p f n content ws e in
          let s = single_at r h p f n back.0 back.1 in
          let same : s.waiters ≡ ws = ap waiters (same_of (sym s.at ∙ e)) in
          ap (λ o. waits_in o (stream_at (parts_of h) n) v) (cell_is ∙ ap (option_map (λ m. cell_part h.requests (n, m))) back.1)
          ∙ ap (λ us. has_waiter us v) (s.waiters_are ∙ ap (map (waiter_in (spots r h p f))) same) ∙ waiting (spots r h p f) i b ws u
      by_cell (Some (Stream q x w)) e u =
          let back = stream_back r h p f n q x w e in
          let s = standing.stream_at r h p f n back.0 back.1 in
          let same : s.waiter ≡ w = by_stream (same_of (sym s.at ∙ e)) in
          ap₂ (λ o y. waits_in o y v) (cell_is ∙ ap (option_map (λ m. cell_part h.requests (n, m))) s.apart) (stream_is ∙ ap (option_map (λ m. stream_part h.ports (n, m))) back.1)
          ∙ ap (is_waiter v) (s.waiter_is ∙ ap (option_map (waiter_in (spots r h p f))) same) ∙ one_list w (waiting (spots r h p f) i b (as_list w) u)
        where
          by_stream : {q' : _} {x' : _} {w' : Option Waiter} → Stream q' x' w' ≡ Stream q x w → w' ≡ w
          by_stream z = cc

  -- each callback of an actor waits at its cell
  pub callbacks_wait : (i : ℕ) (m : FrameTree Value) → thing h.frames.things i ≡ Some m → AllByRecursion (WaitsAt (parts_of h) i) m.callbacks
  callbacks_wait i m e =
      let a = actor_stands r h p f i m e in
      let at : (spots r h p f i).first ≡ (wait_spot a.frame).first = ap (λ o. (spot_at wait_spot o).first) a.acting in
      let from : (spots r h p f i).first + 0 ≡ (wait_spot a.frame).first = omega (arith, at) in
      subst (AllByRecursion (WaitsAt (parts_of h) i)) (ap (λ k. held_from k a.entry.operands) from ∙ sym a.stands.callbacks)
      (each a.entry.operands 0 (λ n b t. waits n i b (subst (Among b) (sym (f.rested.running.agree i n)) (listed a n b t))))
    where
      listed : (a : ActorStands r h p f i m) (n b : ℕ) → Among b (branches_at n 0 a.entry.operands) → Among b (branches_at n 0 (waiting_of (thing p.core.entries i)))
      listed a n b t =
          subst (λ o. Among b (branches_at n 0 (waiting_of o))) (sym a.entered)
          (subst (λ y. Among b (branches_at n 0 (waiting_by y a.entry.operands))) (sym a.asleep) t)

      each : (rs : List Ref) (c : ℕ)
          → ((n b : ℕ) → Among b (branches_at n c rs) → waits_in (cell_at (parts_of h) n) (stream_at (parts_of h) n) (record { actor = actor_id i; callback = (spots r h p f i).first + b }) ≡ true)
          → AllByRecursion (WaitsAt (parts_of h) i) (held_from ((spots r h p f i).first + c) rs)
      each [] c g = tt
      each (x ∷ rs) c g =
          let next : (spots r h p f i).first + suc c ≡ suc ((spots r h p f i).first + c) = omega arith in
          (g x.1 c (here (same_number x.1)), subst (λ k. AllByRecursion (WaitsAt (parts_of h) i) (held_from k rs)) next (each rs (suc c) (λ n b t. g n b (later n b t))))
        where
          here : nat_eq x.1 x.1 ≡ true → Among c (branches_at x.1 c (x ∷ rs))
          here e = subst (λ y. Among c (if y then c ∷ branches_at x.1 (suc c) rs else branches_at x.1 (suc c) rs)) (sym e) (inl refl)

          later : (n b : ℕ) → Among b (branches_at n (suc c) rs) → Among b (branches_at n c (x ∷ rs))
          later n b t = by_test (nat_eq x.1 n)
            where
              by_test : (y : Bool) → Among b (if y then c ∷ branches_at n (suc c) rs else branches_at n (suc c) rs)
              by_test true = inr t
              by_test false = t
