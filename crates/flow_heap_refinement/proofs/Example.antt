-- A `main` that waits for a timer is at rest.
use Rattle.std.proofs.Common.{◌≡◌, ℕ, ◌+◌, ◌<◌, nat_eq, Bool, true, false, [], ◌∷◌, refl, subst, arith}
use Rattle.std.proofs.lemmas.Bool.Decides.{nat_tests}
use Rattle.std.specs.declared.option.Option.TheVariants.{Some}
use Rattle.flow_value.specs.declared.value.Kind.TheVariants as kind
use Rattle.flow_numbered.specs.Numbered as stored
use Rattle.flow_numbered.specs.Numbered.{thing}
use Rattle.flow_meaning.specs.Cells.{PromiseSide, FutureSide}
use Rattle.flow_meaning.specs.Process.{Entry}
use Rattle.flow_meaning.specs.Orderly.{is_suspended, tasks_of, Stands, Orderly}
use Rattle.flow_meaning.proofs.Posture.{other_number, each_number}
use Rattle.flow_heap_refinement.specs.Representing.{Represents, CellRepresents, ActorRepresents, nobody, somebody, stands, at_wait, spot_of_actor}
use Rattle.flow_heap_refinement.specs.Counted.{kept_count, references, nothing_in_hand, Counted, branches_of, branches_at, waiters_at, waiting_of, Agree}
use Rattle.flow_heap_refinement.specs.Rested.{has, IsUnset, Owned}
use Rattle.flow_heap_refinement.specs.Example.{waiting_classes, waiting_heap, waiting_process, WaitingRests}

-- what holds at 1 and 2 and elsewhere
one_two : (P : ℕ → Type 0) → P 1 → P 2 → ((k : ℕ) → nat_eq k 1 ≡ false → nat_eq k 2 ≡ false → P k) → (k : ℕ) → P k
one_two P a b rest = each_number 1 P a (λ k n. by_two k (other_number 1 k n))
  where
    by_two : (k : ℕ) → nat_eq k 1 ≡ false → P k
    by_two k e = by_test (nat_eq k 2) refl
      where
        by_test : (t : Bool) → nat_eq k 2 ≡ t → P k
        by_test true f = let same : 2 ≡ k = grind (arith, nat_tests) in subst P same b
        by_test false f = rest k e f

shown : Represents waiting_classes waiting_heap waiting_process
shown = record {
  cells =
      one_two (λ k. CellRepresents (spot_of_actor waiting_process.actors) (stored.thing waiting_heap.cells.things k) (stored.thing waiting_heap.streams.things k) (thing waiting_process.core.cells k))
      (refl, refl) (refl, refl)
      (λ k a b. rw (a, b) tt);
  actors =
      one_two (λ i. ActorRepresents waiting_classes (stored.thing waiting_heap.actors.things i) (stored.thing waiting_heap.frames.things i) (thing waiting_process.core.entries i)
      (thing waiting_process.actors i))
      (somebody (record {
        note = _;
        memory = _;
        entry = _;
        frame = _;
        noted = refl;
        framed = refl;
        entered = refl;
        acting = refl;
        same = record {
          class = refl;
          result = refl;
          marked = refl;
          frame = stands (record { code = refl; places = refl; slots = refl; position = at_wait 0 refl refl; callbacks = refl; suspended = refl; spot = λ e. refl });
        };
      }))
      (nobody refl refl refl refl) (λ i a b. rw a (nobody refl refl refl refl));
  tasks = tt;
  made = refl;
  started = refl;
  main = refl;
  ports = λ k. refl;
  requests = refl;
}

counted : Counted nothing_in_hand waiting_heap waiting_process
counted PromiseSide =
    one_two (λ k. kept_count PromiseSide k waiting_heap ≡ references PromiseSide k waiting_process + 0) refl refl (λ k a b. rw (a, b) refl)
counted FutureSide =
    one_two (λ k. kept_count FutureSide k waiting_heap ≡ references FutureSide k waiting_process + 0) refl refl (λ k a b. rw (a, b) refl)

agree : Agree waiting_process.core
agree i =
    one_two (λ i. (k : ℕ) → branches_of i (waiters_at (thing waiting_process.core.cells k)) ≡ branches_at k 0 (waiting_of (thing waiting_process.core.entries i)))
    (one_two (λ k. branches_of 1 (waiters_at (thing waiting_process.core.cells k)) ≡ branches_at k 0 (waiting_of (thing waiting_process.core.entries 1))) refl refl (λ k a b. rw (a, b) (not_two k b)))
    (one_two (λ k. branches_of 2 (waiters_at (thing waiting_process.core.cells k)) ≡ branches_at k 0 (waiting_of (thing waiting_process.core.entries 2))) refl refl (λ k a b. rw (a, b) refl))
    (λ i c d. one_two (λ k. branches_of i (waiters_at (thing waiting_process.core.cells k)) ≡ branches_at k 0 (waiting_of (thing waiting_process.core.entries i))) (rw c refl) (rw (c, turned i c) refl)
    (λ k a b. rw (a, b, c) refl)) i
  where
    turned : (i : ℕ) → nat_eq i 1 ≡ false → nat_eq 1 i ≡ false
    turned i e = grind (arith, nat_tests)

    not_two : (k : ℕ) → nat_eq k 2 ≡ false → [] ≡ branches_at k 0 ((kind.Future, 2) ∷ [])
    not_two k b = let e : nat_eq 2 k ≡ false = grind (arith, nat_tests) in rw e refl

orderly : Orderly waiting_process.core
orderly = record {
  actors = one_two (λ i. Stands i (is_suspended (thing waiting_process.core.entries i)) (tasks_of i [])) refl refl (λ i a b. rw a refl);
  paired = tt;
  waiting = (tt, ((refl, tt), tt));
  numbered = (omega arith, omega arith, tt);
}

-- the one entry
only : (P : ℕ → Entry → Type 0) → ((e : Entry) → thing waiting_process.core.entries 1 ≡ Some e → P 1 e) → (i : ℕ) (e : Entry) → thing waiting_process.core.entries i ≡ Some e → P i e
only P one i e =
    one_two (λ i. thing waiting_process.core.entries i ≡ Some e → P i e) (one e) (λ at. absurd (cc)) (λ i a b. rw a (λ at. absurd (cc))) i

owned : Owned waiting_process
owned = record {
  result = λ i k e at res. only (λ i e. e.result ≡ Some k → IsUnset (thing waiting_process.core.cells k) × (references PromiseSide k waiting_process ≡ 1)) (λ e f g. its k (cc (f, g))) i e at res;
  request = one_two (λ k. has k waiting_process.core.requests ≡ true → IsUnset (thing waiting_process.core.cells k) × (references PromiseSide k waiting_process ≡ 1)) (λ h. absurd (cc))
      (λ h. (tt, refl)) (λ k a b. rw b (λ h. absurd (cc)));
  port = λ q k h. absurd (cc);
}
  where
    its : (k : ℕ) → 1 ≡ k → IsUnset (thing waiting_process.core.cells k) × (references PromiseSide k waiting_process ≡ 1)
    its k e = subst (λ k. IsUnset (thing waiting_process.core.cells k) × (references PromiseSide k waiting_process ≡ 1)) e (tt, refl)

pub waiting_rests : WaitingRests
waiting_rests = record {
  running = record {
    shows = shown;
    counted = counted;
    agree = agree;
    orderly = orderly;
    numbers = record { ports = tt; cells = (omega arith, omega arith, (omega arith, omega arith, tt)); requests = (omega arith, omega arith, tt) };
    sorted = record { cells = (omega arith, (omega arith, omega arith)); streams = omega arith; actors = (omega arith, omega arith); frames = (omega arith, omega arith); ports = λ k. refl };
    owned = owned;
    cared = record {
      awake = only (λ i e. e.marked ≡ true → e.suspended ≡ false) (λ e f g. absurd (cc (f, g)));
      wanted = λ i k e at m res. only (λ i e. e.result ≡ Some k → 0 < references FutureSide k waiting_process) (λ e f g. wanted k (cc (f, g))) i e at res;
    };
    referenced = λ k c. one_two (λ k. thing waiting_process.core.cells k ≡ Some c → 0 < references PromiseSide k waiting_process + references FutureSide k waiting_process) (λ h. omega arith)
        (λ h. omega arith) (λ k a b. rw (a, b) (λ h. absurd (cc))) k;
  };
  rest = record { orderly = orderly; no_tasks = refl; suspended = only (λ i e. e.suspended ≡ true) (λ e f. cc (f)) };
  referred = (refl, omega arith, tt);
}
  where
    wanted : (k : ℕ) → 1 ≡ k → 0 < references FutureSide k waiting_process
    wanted k e = subst (λ k. 0 < references FutureSide k waiting_process) e (omega arith)
