-- Waiters in memory and in the process.
use Rattle.std.proofs.Common.{◌≡◌, ℕ, nat_eq, Bool, true, false, List, [], ◌∷◌, map, if◌then◌else◌, refl, sym, ap, ◌∙◌, arith}
use Rattle.std.specs.Option.{option_map}
use Rattle.std.specs.declared.option.Option.{Option}
use Rattle.std.specs.declared.option.Option.TheVariants.{None, Some}
use Rattle.flow_value.specs.declared.value.Value.{Value}
use Rattle.flow_value.specs.declared.value.Outcome.{Outcome}
use Rattle.flow_numbered.specs.Numbered as stored
use Rattle.flow_cell.specs.Cells.{CellTree}
use Rattle.flow_stream.specs.Streams.{StreamTree}
use Rattle.flow_numbered.specs.Numbered.{Numbered, thing}
use Rattle.flow_meaning.specs.Cells.{Waiter, Cell, Single, Stream, as_list}
use Rattle.flow_meaning.specs.Requests.{Spot}
use Rattle.flow_heap_refinement.specs.Representing.{CellRepresents, waiter_in}
use Rattle.flow_heap_refinement.specs.Counted.{branches_of, waiters_at}
use Rattle.flow_heap_refinement.proofs.Cells.{CellsRepresent}

-- Where each actor stands may change for one that waits nowhere.
module _ (spots spots' : ℕ → Spot) (i : ℕ) (same : (j : ℕ) → (i ≡ j → ⊥) → spots' j ≡ spots j) where
  not_of : (w : Waiter) (ws : List Waiter) → branches_of i (w ∷ ws) ≡ [] → nat_eq w.actor i ≡ false
  not_of w ws h = by_test (nat_eq w.actor i) refl
    where
      some_is_none : (bs : List ℕ) → w.branch ∷ bs ≡ [] → ⊥
      some_is_none bs e = cc

      by_test : (b : Bool) → nat_eq w.actor i ≡ b → b ≡ false
      by_test true e = absurd (some_is_none (branches_of i ws) (ap (λ c. if c then w.branch ∷ branches_of i ws else branches_of i ws) (sym e) ∙ h))
      by_test false e = refl

  rest_not : (w : Waiter) (ws : List Waiter) → branches_of i (w ∷ ws) ≡ [] → branches_of i ws ≡ []
  rest_not w ws h = ap (λ c. if c then w.branch ∷ branches_of i ws else branches_of i ws) (sym (not_of w ws h)) ∙ h

  differs : (a : ℕ) → nat_eq a i ≡ false → i ≡ a → ⊥
  differs a e f = grind arith

  pub waiters_aside : (ws : List Waiter) → branches_of i ws ≡ [] → map (waiter_in spots) ws ≡ map (waiter_in spots') ws
  waiters_aside [] h = refl
  waiters_aside (w ∷ ws) h =
      let s = same w.actor (differs w.actor (not_of w ws h)) in
      let t = waiters_aside ws (rest_not w ws h) in
      rw (s, t) refl

  maybe_aside : (w : Option Waiter) → branches_of i (as_list w) ≡ [] → option_map (waiter_in spots) w ≡ option_map (waiter_in spots') w
  maybe_aside None h = refl
  maybe_aside (Some w) h = let s = same w.actor (differs w.actor (not_of w [] h)) in rw s refl

  cell_aside : (m : Option (CellTree Outcome)) (s : Option (StreamTree Value)) (c : Option Cell) → branches_of i (waiters_at c) ≡ [] → CellRepresents spots m s c → CellRepresents spots' m s c
  cell_aside None None None n h = tt
  cell_aside (Some m) None (Some (Single o ws)) n h = (h.0, h.1 ∙ waiters_aside ws n)
  cell_aside None (Some m) (Some (Stream q e w)) n h = (h.0, h.1, h.2 ∙ maybe_aside w n)
  cell_aside None None (Some c) n h = absurd h
  cell_aside (Some m) None None n h = absurd h
  cell_aside (Some m) None (Some (Stream q e w)) n h = absurd h
  cell_aside None (Some m) None n h = absurd h
  cell_aside None (Some m) (Some (Single o ws)) n h = absurd h
  cell_aside (Some m) (Some s) None n h = absurd h
  cell_aside (Some m) (Some s) (Some c) n h = absurd h

  pub cells_aside : (ms : stored.Numbered (CellTree Outcome)) (ss : stored.Numbered (StreamTree Value)) (cs : Numbered Cell) → ((k : ℕ) → branches_of i (waiters_at (thing cs k)) ≡ [])
      → CellsRepresent spots ms ss cs → CellsRepresent spots' ms ss cs
  cells_aside ms ss cs n all k = cell_aside (stored.thing ms k) (stored.thing ss k) (thing cs k) (n k) (all k)

-- where all stand as before, nothing has changed
module _ (spots spots' : ℕ → Spot) (same : (j : ℕ) → spots' j ≡ spots j) where
  waiters_same : (ws : List Waiter) → map (waiter_in spots) ws ≡ map (waiter_in spots') ws
  waiters_same [] = refl
  waiters_same (w ∷ ws) = let s = same w.actor in let t = waiters_same ws in rw (s, t) refl

  maybe_same : (w : Option Waiter) → option_map (waiter_in spots) w ≡ option_map (waiter_in spots') w
  maybe_same None = refl
  maybe_same (Some w) = let s = same w.actor in rw s refl

  cell_same : (m : Option (CellTree Outcome)) (s : Option (StreamTree Value)) (c : Option Cell) → CellRepresents spots m s c → CellRepresents spots' m s c
  cell_same None None None h = tt
  cell_same (Some m) None (Some (Single o ws)) h = (h.0, h.1 ∙ waiters_same ws)
  cell_same None (Some m) (Some (Stream q e w)) h = (h.0, h.1, h.2 ∙ maybe_same w)
  cell_same None None (Some c) h = absurd h
  cell_same (Some m) None None h = absurd h
  cell_same (Some m) None (Some (Stream q e w)) h = absurd h
  cell_same None (Some m) None h = absurd h
  cell_same None (Some m) (Some (Single o ws)) h = absurd h
  cell_same (Some m) (Some s) None h = absurd h
  cell_same (Some m) (Some s) (Some c) h = absurd h

  pub cells_same : (ms : stored.Numbered (CellTree Outcome)) (ss : stored.Numbered (StreamTree Value)) (cs : Numbered Cell) → CellsRepresent spots ms ss cs → CellsRepresent spots' ms ss cs
  cells_same ms ss cs all k = cell_same (stored.thing ms k) (stored.thing ss k) (thing cs k) (all k)
