-- What a process does to itself keeps the order of its tasks.
use Rattle.std.proofs.Common.{◌≡◌, ℕ, suc, ◌≤◌, nat_eq, Bool, true, false, List, [], ◌∷◌, if◌then◌else◌, refl, sym, subst, arith}
use Rattle.std.specs.declared.option.Option.TheVariants.{None, Some}
use Rattle.flow_value.specs.Values.{OutcomeTree, GoodOutcome, BadOutcome}
use Rattle.flow_numbered.specs.Numbered.{Numbered, thing, added, put, removed}
use Rattle.flow_meaning.specs.Cells.{Waiter, Cell, Single, Stream, waiters, filled, after_taking, without, left_by}
use Rattle.flow_meaning.specs.Process.{Entry, Core}
use Rattle.flow_meaning.specs.Work.{left_cells}
use Rattle.flow_meaning.specs.Orderly.{tasks_of, is_suspended, Stands, Paired, AllWait, CellsWait, Rising, Orderly}
use Rattle.flow_meaning.proofs.Posture.{each_number, Unmoved}

abbrev pub StandsAt : ℕ → Core → Type 0
StandsAt j c = Stands j (is_suspended (thing c.entries j)) (tasks_of j c.tasks)

-- the parts of the order of a process
abbrev pub Ordered : Core → Type 0
Ordered c = ((j : ℕ) → StandsAt j c) × Paired c.tasks × CellsWait c.entries c.cells × Rising 0 c.started c.entries

pub ordered : (c : Core) → Orderly c → Ordered c
ordered c o = (o.actors, o.paired, o.waiting, o.numbered)

pub orderly : (c : Core) → Ordered c → Orderly c
orderly c o = record { actors = o.0; paired = o.1; waiting = o.2; numbered = o.3 }

-- but for one actor, for which nothing is to be done
abbrev pub InHand : ℕ → Core → Type 0
InHand i c = (tasks_of i c.tasks ≡ []) × ((j : ℕ) → (i ≡ j → ⊥) → StandsAt j c) × Paired c.tasks × CellsWait c.entries c.cells × Rising 0 c.started c.entries

pub unmoved_stands : (j : ℕ) (c d : Core) → Unmoved j c d → StandsAt j c → StandsAt j d
unmoved_stands j c d u h = subst (λ o. Stands j o (tasks_of j d.tasks)) (sym u.0) (subst (Stands j (is_suspended (thing c.entries j))) (sym u.1) h)

pub all_stand : (i : ℕ) (d : Core) → StandsAt i d → ((j : ℕ) → (i ≡ j → ⊥) → StandsAt j d) → (j : ℕ) → StandsAt j d
all_stand i d h k = each_number i (λ j. StandsAt j d) h k

-- numbers that rise
rising_from : {A : Type 0} (xs : Numbered A) (low above n : ℕ) → low ≤ above → Rising above n xs → Rising low n xs
rising_from [] low above n le h = tt
rising_from (x ∷ xs) low above n le h = (omega (arith, h.0), h.1, h.2)

pub rising_put : {A : Type 0} (xs : Numbered A) (above n i : ℕ) (a : A) → Rising above n xs → Rising above n (put xs i a)
rising_put [] above n i a h = tt
rising_put (x ∷ xs) above n i a h = by_test (nat_eq i x.0) (rising_put xs x.0 n i a h.2)
  where
    by_test : (p : Bool) → Rising x.0 n (put xs i a) → Rising above n (if p then (x.0, a) ∷ xs else x ∷ put xs i a)
    by_test true k = h
    by_test false k = (h.0, h.1, k)

pub rising_removed : {A : Type 0} (xs : Numbered A) (above n i : ℕ) → Rising above n xs → Rising above n (removed xs i)
rising_removed [] above n i h = tt
rising_removed (x ∷ xs) above n i h = by_test (nat_eq i x.0) (rising_removed xs x.0 n i h.2)
  where
    by_test : (p : Bool) → Rising x.0 n (removed xs i) → Rising above n (if p then xs else x ∷ removed xs i)
    by_test true k = rising_from xs above x.0 n (omega (arith, h.0)) h.2
    by_test false k = (h.0, h.1, k)

pub rising_added : {A : Type 0} (xs : Numbered A) (above n : ℕ) (a : A) → above ≤ n → Rising above n xs → Rising above (suc n) (added xs (suc n) a)
rising_added [] above n a le h = (omega arith, omega arith, tt)
rising_added (x ∷ xs) above n a le h = (h.0, omega (arith, h.1), rising_added xs x.0 n a (omega (arith, h.1)) h.2)

-- whoever waits is suspended: with other entries, and with other cells
abbrev StaySuspended : Numbered Entry → Numbered Entry → Type 0
StaySuspended es fs = (j : ℕ) → is_suspended (thing es j) ≡ Some true → is_suspended (thing fs j) ≡ Some true

all_by : (es fs : Numbered Entry) (ws : List Waiter) → StaySuspended es fs → AllWait es ws → AllWait fs ws
all_by es fs [] s h = tt
all_by es fs (w ∷ ws) s h = (s w.actor h.0, all_by es fs ws s h.1)

pub waits_by : (es fs : Numbered Entry) (xs : Numbered Cell) → StaySuspended es fs → CellsWait es xs → CellsWait fs xs
waits_by es fs [] s h = tt
waits_by es fs (x ∷ xs) s h = (all_by es fs (waiters x.1) s h.0, waits_by es fs xs s h.1)

pub waits_put : (es : Numbered Entry) (xs : Numbered Cell) (k : ℕ) (new : Cell) → AllWait es (waiters new) → CellsWait es xs → CellsWait es (put xs k new)
waits_put es [] k new w h = tt
waits_put es (x ∷ xs) k new w h = by_test (nat_eq k x.0) (waits_put es xs k new w h.1)
  where
    by_test : (p : Bool) → CellsWait es (put xs k new) → CellsWait es (if p then (x.0, new) ∷ xs else x ∷ put xs k new)
    by_test true r = (w, h.1)
    by_test false r = (h.0, r)

pub waits_removed : (es : Numbered Entry) (xs : Numbered Cell) (k : ℕ) → CellsWait es xs → CellsWait es (removed xs k)
waits_removed es [] k h = tt
waits_removed es (x ∷ xs) k h = by_test (nat_eq k x.0) (waits_removed es xs k h.1)
  where
    by_test : (p : Bool) → CellsWait es (removed xs k) → CellsWait es (if p then xs else x ∷ removed xs k)
    by_test true r = h.1
    by_test false r = (h.0, r)

pub waits_added : (es : Numbered Entry) (xs : Numbered Cell) (k : ℕ) (new : Cell) → AllWait es (waiters new) → CellsWait es xs → CellsWait es (added xs k new)
waits_added es [] k new w h = (w, tt)
waits_added es (x ∷ xs) k new w h = (h.0, waits_added es xs k new w h.1)

-- the waiters of one actor are gone
abbrev OthersSuspended : ℕ → Numbered Entry → Numbered Entry → Type 0
OthersSuspended i es fs = (j : ℕ) → (i ≡ j → ⊥) → is_suspended (thing es j) ≡ Some true → is_suspended (thing fs j) ≡ Some true

differs : (i j : ℕ) → nat_eq j i ≡ false → i ≡ j → ⊥
differs i j e f = grind arith

without_waits : (i : ℕ) (es fs : Numbered Entry) (ws : List Waiter) → OthersSuspended i es fs → AllWait es ws → AllWait fs (without ws i)
without_waits i es fs [] s h = tt
without_waits i es fs (w ∷ ws) s h = by_test (nat_eq w.actor i) refl (without_waits i es fs ws s h.1)
  where
    by_test : (p : Bool) → nat_eq w.actor i ≡ p → AllWait fs (without ws i) → AllWait fs (if p then without ws i else w ∷ without ws i)
    by_test true e k = k
    by_test false e k = (s w.actor (differs i w.actor e) h.0, k)

left_waits : (i : ℕ) (es fs : Numbered Entry) (cell : Cell) → OthersSuspended i es fs → AllWait es (waiters cell) → AllWait fs (waiters (left_by i cell))
left_waits i es fs (Single o ws) s h = without_waits i es fs ws s h
left_waits i es fs (Stream q end None) s h = tt
left_waits i es fs (Stream q end (Some w)) s h = by_test (nat_eq w.actor i) refl
  where
    by_test : (p : Bool) → nat_eq w.actor i ≡ p → AllWait fs (waiters (Stream q end (if p then None else Some w)))
    by_test true e = tt
    by_test false e = (s w.actor (differs i w.actor e) h.0, tt)

pub waits_left : (i : ℕ) (es fs : Numbered Entry) (xs : Numbered Cell) → OthersSuspended i es fs → CellsWait es xs → CellsWait fs (left_cells i xs)
waits_left i es fs [] s h = tt
waits_left i es fs (x ∷ xs) s h = (left_waits i es fs x.1 s h.0, waits_left i es fs xs s h.1)

-- the waiters of a cell that was filled, or from which something was taken, are as before
pub filled_waiters : (cell : Cell) (o : OutcomeTree) → waiters (filled cell o) ≡ waiters cell
filled_waiters (Single c ws) o = refl
filled_waiters (Stream q end w) (GoodOutcome v) = refl
filled_waiters (Stream q end w) (BadOutcome e) = refl

pub taking_waiters : (cell : Cell) → waiters (after_taking cell) ≡ waiters cell
taking_waiters (Single c ws) = refl
taking_waiters (Stream [] end w) = refl
taking_waiters (Stream (v ∷ vs) end w) = refl
