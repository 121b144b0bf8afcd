-- The streams of ports are open before the first event of a world, and after each event.
use Rattle.std.proofs.Common.{◌≡◌, ℕ, suc, ◌<◌, false, List, [], ◌∷◌, subst, arith}
use Rattle.std.specs.Prelude.{slice_index_or}
use Rattle.std.specs.Option.{option_map}
use Rattle.std.specs.declared.option.Option.{Option}
use Rattle.std.specs.declared.option.Option.TheVariants.{None, Some}
use Rattle.flow_value.specs.Values.{ValueTree, GoodOutcome}
use Rattle.flow_class.specs.Classes.{RawTree}
use Rattle.flow_numbered.specs.Numbered.{thing, added}
use Rattle.flow_meaning.specs.Cells.{PromiseSide, Waiter, Cell, Single, Stream, filled, after_taking, with_waiter, left_by}
use Rattle.flow_meaning.specs.Process.{Core, Proc}
use Rattle.flow_meaning.specs.References.{in_ports}
use Rattle.flow_meaning.specs.Deliver.{idle}
use Rattle.flow_meaning.specs.World.{Place}
use Rattle.flow_meaning.specs.Frame.{Frame}
use Rattle.flow_heap_refinement.specs.Alone.{owners_of}
use Rattle.flow_heap_refinement.specs.CellsTied.{CellsTied}
use Rattle.flow_heap_refinement.proofs.OwnersOnce.{ports_added, ports_removed}
use Rattle.flow_invariants.specs.Fitting.Laws.{AreValid}
use Rattle.flow_invariants.specs.Invariant.{Invariant, HoldsInPlaces}
use Rattle.flow_invariants.specs.OpenPorts.{IsOpen, Open, StepsOpen, StartOpen, EventOpen}
use Rattle.flow_invariants.specs.Writes.{Things, KeptByWrites}
use Rattle.flow_invariants.proofs.Invariant.{in_place, none_ran, after_event}
use Rattle.flow_invariants.proofs.Writes.Owners.{not_one}
use Rattle.flow_invariants.proofs.Writes.Cells.{put_other, removed_other, put_changed, left_changed, new_cell_holds}
use Rattle.flow_invariants.proofs.Writes.Steps.{step_kept}
use Rattle.flow_invariants.proofs.Writes.Events.{of_writes}

-- an open stream stays one: an element more, an actor that leaves, an element taken, a waiter more
more_open : (v : ValueTree) (cell : Cell) → IsOpen (Some cell) → IsOpen (Some (filled cell (GoodOutcome v)))
more_open v (Single o ws) h = absurd h
more_open v (Stream q None w) h = tt
more_open v (Stream q (Some e) w) h = absurd h

left_open : (i : ℕ) (x : Option Cell) → IsOpen x → IsOpen (option_map (left_by i) x)
left_open i None h = h
left_open i (Some (Single o ws)) h = absurd h
left_open i (Some (Stream q None w)) h = tt
left_open i (Some (Stream q (Some e) w)) h = absurd h

taking_open : (cell : Cell) → IsOpen (Some cell) → IsOpen (Some (after_taking cell))
taking_open (Single o ws) h = absurd h
taking_open (Stream [] None w) h = tt
taking_open (Stream (v ∷ vs) None w) h = tt
taking_open (Stream q (Some e) w) h = absurd h

waiter_open : (cell : Cell) (w : Waiter) → IsOpen (Some cell) → IsOpen (Some (with_waiter cell w))
waiter_open (Single o ws) w h = absurd h
waiter_open (Stream q None x) w h = tt
waiter_open (Stream q (Some e) x) w h = absurd h

abbrev PortsOpen : Things → Type 0
PortsOpen t = (k : ℕ) → 0 < in_ports PromiseSide k t.ports → IsOpen (thing t.cells k)

-- the stream of a port is the process's own, and was made
not_own : (c : Core) (j k : ℕ) → owners_of j c ≡ 0 → 0 < in_ports PromiseSide k c.ports → j ≡ k → ⊥
not_own c j k own w q = let a = subst (λ n. owners_of n c ≡ 0) q own in omega (arith, a, w)

unmade : (c : Core) (k : ℕ) → CellsTied c → suc c.made ≡ k → 0 < in_ports PromiseSide k c.ports → ⊥
unmade c k tied e w =
    let l : c.made < k = omega (arith, e) in
    let a = (tied.once k).1 l in omega (arith, a, w)

other_cell : (c : Core) (cell : Cell) → CellsTied c → ((k : ℕ) → 0 < in_ports PromiseSide k c.ports → IsOpen (thing c.cells k)) → (k : ℕ) → 0 < in_ports PromiseSide k c.ports
    → IsOpen (thing (added c.cells (suc c.made) cell) k)
other_cell c cell tied h k w = new_cell_holds IsOpen c.cells k c.made cell tied.numbers.cells (λ q. absurd (unmade c k tied q w)) (λ o. h k w)

writes_open : KeptByWrites PortsOpen
writes_open = record {
  sets = λ c j old new own at h k w. put_other IsOpen c.cells k j new (not_own c j k own w) (h k w);
  goes = λ c j own h k w. removed_other IsOpen c.cells k j (not_own c j k own w) (h k w);
  taken = λ c j old at h k w. put_changed IsOpen c.cells k j old (after_taking old) at (taking_open old) (h k w);
  waited = λ c j old waiter at h k w. put_changed IsOpen c.cells k j old (with_waiter old waiter) at (waiter_open old waiter) (h k w);
  element = λ c port j old v tied heard at h k w. put_changed IsOpen c.cells k j old (filled old (GoodOutcome v)) at (more_open v old) (h k w);
  left = λ c i h k w. left_changed IsOpen c.cells k i (left_open i (thing c.cells k)) (h k w);
  entry = λ c i old new at becomes h. h;
  ends = λ c i up h. h;
  unheard = λ c port h k w. h k (let a = ports_removed k c.ports port in omega (arith, a, w));
  answered = λ c cell there h. h;
  makes = λ c cell tied h k w. other_cell c cell tied h k w;
  asks = λ c tied h k w. other_cell c (Single None []) tied h k w;
  listens = λ c port tied h k w. new_cell_holds IsOpen c.cells k c.made (Stream [] None None) tied.numbers.cells (λ q. tt)
      (λ o. h k (let a = ports_added k c.ports port (suc c.made) in let b = not_one k (suc c.made) o in omega (arith, a, b, w)));
  starts = λ c class tied h k w. other_cell c (Single None []) tied h k w;
  starts_alone = λ c class h. h;
}

abbrev OpenIn : Proc Frame → Type 0
OpenIn p = Open p.core

keeps_open : (r : RawTree) → Invariant r OpenIn OpenIn
keeps_open r = of_writes r PortsOpen writes_open (λ made started k w. absurd (omega (arith, w)))

pub steps_open : StepsOpen
steps_open r s p q o t alone h e = step_kept PortsOpen writes_open r s p q o t alone h e

pub open_at : (ps : List (Place Frame)) (k : ℕ) → HoldsInPlaces OpenIn ps → Open (slice_index_or ps k (record { up = false; proc = idle })).proc.core
open_at ps k h = in_place OpenIn ps k (λ k w. absurd (omega (arith, w))) h

pub start_open : StartOpen
start_open w = none_ran OpenIn w.processes (λ k w. absurd (omega (arith, w)))

pub valid_open : (r : RawTree) → AreValid r → EventOpen r
valid_open r v w b l fits h g q go = after_event r v OpenIn OpenIn (keeps_open r) w b l fits h g q go
