-- At each boundary of a run, processes own what they made cells for.
use Rattle.std.proofs.Common.{◌≡◌, ℕ, suc, ◌+◌, ◌<◌, [], ◌∷◌, subst, arith}
use Rattle.std.specs.Option.{option_map}
use Rattle.std.specs.declared.option.Option.{Option}
use Rattle.std.specs.declared.option.Option.TheVariants.{None, Some}
use Rattle.flow_class.specs.Classes.{RawTree}
use Rattle.flow_numbered.specs.Numbered.{thing, added}
use Rattle.flow_meaning.specs.Cells.{PromiseSide, Waiter, Cell, Single, Stream, after_taking, with_waiter, left_by}
use Rattle.flow_meaning.specs.Process.{Core, Proc}
use Rattle.flow_meaning.specs.References.{in_requests}
use Rattle.flow_meaning.specs.Step.{entry_of}
use Rattle.flow_meaning.specs.Deliver.{idle}
use Rattle.flow_meaning.specs.Frame.{Frame}
use Rattle.flow_heap_refinement.specs.Alone.{results_at, owners_of}
use Rattle.flow_heap_refinement.specs.CellsTied.{CellsTied}
use Rattle.flow_heap_refinement.specs.Rested.{IsUnset, Owned}
use Rattle.flow_heap_refinement.proofs.OwnersOnce.{results_put, results_added, results_removed, requests_added}
use Rattle.flow_invariants.specs.Fitting.Laws.{AreValid}
use Rattle.flow_invariants.specs.Invariant.{Invariant}
use Rattle.flow_invariants.specs.Owned.{awaited, Unset, StepsUnset, StatesOwn}
use Rattle.flow_invariants.specs.Writes.{Things, KeptByWrites}
use Rattle.flow_invariants.proofs.Fitting.Dues.{one_closed}
use Rattle.flow_invariants.proofs.Invariant.{at_boundaries}
use Rattle.flow_invariants.proofs.Owned.Owns.{owns}
use Rattle.flow_invariants.proofs.Writes.Owners.{not_one, port_there}
use Rattle.flow_invariants.proofs.Writes.Cells.{put_other, removed_other, put_changed, left_changed, new_cell_holds}
use Rattle.flow_invariants.proofs.Writes.Steps.{step_kept}
use Rattle.flow_invariants.proofs.Writes.Events.{of_writes}

-- an unset single result stays one: an actor that leaves, a branch that is taken, a waiter more
left_unset : (i : ℕ) (x : Option Cell) → IsUnset x → IsUnset (option_map (left_by i) x)
left_unset i None h = h
left_unset i (Some (Single None ws)) h = tt
left_unset i (Some (Single (Some o) ws)) h = h
left_unset i (Some (Stream q e w)) h = h

taking_unset : (cell : Cell) → IsUnset (Some cell) → IsUnset (Some (after_taking cell))
taking_unset (Single o ws) h = h
taking_unset (Stream [] e w) h = h
taking_unset (Stream (v ∷ vs) e w) h = h

waiter_unset : (cell : Cell) (w : Waiter) → IsUnset (Some cell) → IsUnset (Some (with_waiter cell w))
waiter_unset (Single None ws) w h = tt
waiter_unset (Single (Some o) ws) w h = h
waiter_unset (Stream q e x) w h = h

abbrev AwaitedUnset : Things → Type 0
AwaitedUnset t = (k : ℕ) → 0 < results_at k t.entries + in_requests PromiseSide k t.requests → IsUnset (thing t.cells k)

-- what is awaited is the process's own, was made, and is no port's stream
not_own : (c : Core) (j k : ℕ) → owners_of j c ≡ 0 → 0 < awaited k c → j ≡ k → ⊥
not_own c j k own w q = let a = subst (λ n. owners_of n c ≡ 0) q own in omega (arith, a, w)

unmade : (c : Core) (k : ℕ) → CellsTied c → suc c.made ≡ k → 0 < awaited k c → ⊥
unmade c k tied e w =
    let l : c.made < k = omega (arith, e) in
    let a = (tied.once k).1 l in omega (arith, a, w)

no_port : (c : Core) (port j k : ℕ) → CellsTied c → thing c.ports port ≡ Some j → 0 < awaited k c → j ≡ k → ⊥
no_port c port j k tied at w q =
    let a = port_there k c.ports port (subst (λ n. thing c.ports port ≡ Some n) q at) in
    let b = (tied.once k).0 in omega (arith, a, b, w)

other_cell : (c : Core) (cell : Cell) → CellsTied c → Unset c → (k : ℕ) → 0 < awaited k c → IsUnset (thing (added c.cells (suc c.made) cell) k)
other_cell c cell tied h k w = new_cell_holds IsUnset c.cells k c.made cell tied.numbers.cells (λ q. absurd (unmade c k tied q w)) (λ o. h k w)

own_cell : (c : Core) (k : ℕ) → CellsTied c → ((suc c.made ≡ k → ⊥) → IsUnset (thing c.cells k)) → IsUnset (thing (added c.cells (suc c.made) (Single None [])) k)
own_cell c k tied old = new_cell_holds IsUnset c.cells k c.made (Single None []) tied.numbers.cells (λ q. tt) old

writes_unset : KeptByWrites AwaitedUnset
writes_unset = record {
  sets = λ c j old new own at h k w. put_other IsUnset c.cells k j new (not_own c j k own w) (h k w);
  goes = λ c j own h k w. removed_other IsUnset c.cells k j (not_own c j k own w) (h k w);
  taken = λ c j old at h k w. put_changed IsUnset c.cells k j old (after_taking old) at (taking_unset old) (h k w);
  waited = λ c j old waiter at h k w. put_changed IsUnset c.cells k j old (with_waiter old waiter) at (waiter_unset old waiter) (h k w);
  element = λ c port j old v tied heard at h k w. put_other IsUnset c.cells k j _ (no_port c port j k tied heard w) (h k w);
  left = λ c i h k w. left_changed IsUnset c.cells k i (left_unset i (thing c.cells k)) (h k w);
  entry = λ c i old new at becomes h k w. h k (let a = results_put k c.entries i old new at becomes.result in omega (arith, a, w));
  ends = λ c i up h k w. h k (let a = results_removed k c.entries i in omega (arith, a, w));
  unheard = λ c port h. h;
  answered = λ c cell there h k w. h k (let a = one_closed k cell c.requests there in omega (arith, a, w));
  makes = λ c cell tied h k w. other_cell c cell tied h k w;
  asks = λ c tied h k w. own_cell c k tied (λ o. h k (let a = requests_added k c.requests (suc c.made) in let b = not_one k (suc c.made) o in omega (arith, a, b, w)));
  listens = λ c port tied h k w. other_cell c (Stream [] None None) tied h k w;
  starts = λ c class tied h k w. own_cell c k tied
      (λ o. h k (let a = results_added k c.entries (suc c.started) (entry_of class (Some (suc c.made))) in let b = not_one k (suc c.made) o in omega (arith, a, b, w)));
  starts_alone = λ c class h k w. h k (let a = results_added k c.entries (suc c.started) (entry_of class None) in omega (arith, a, w));
}

abbrev pub CellsUnset : Proc Frame → Type 0
CellsUnset p = Unset p.core

pub idle_unset : CellsUnset idle
idle_unset k w = absurd (omega (arith, w))

pub keeps_unset : (r : RawTree) → Invariant r CellsUnset CellsUnset
keeps_unset r = of_writes r AwaitedUnset writes_unset (λ made started k w. absurd (omega (arith, w)))

pub steps_unset : StepsUnset
steps_unset r s p q o t alone h e = step_kept AwaitedUnset writes_unset r s p q o t alone h e

pub valid_own : (r : RawTree) → AreValid r → StatesOwn r
valid_own r v w states range run = at_boundaries r v CellsUnset CellsUnset (keeps_unset r) Owned (λ n events p rest f h. owns r n events p f h) w states range run
