-- A suspended actor waits at each of its operands.
use Rattle.std.specs.Prelude.{◌≡◌, ◌⊎◌, ℕ, true, List, [], ◌∷◌}
use Rattle.std.specs.declared.option.Option.{Option}
use Rattle.std.specs.declared.option.Option.TheVariants.{None, Some}
use Rattle.flow_numbered.specs.Numbered.{Numbered, thing}
use Rattle.flow_meaning.specs.Cells.{Ref, Waiter, Cell, waiters}
use Rattle.flow_meaning.specs.Process.{Entry}

-- the actor is among the waiters of a cell
abbrev pub Among : (actor : ℕ) → List Waiter → Type 0
Among i [] = ⊥
Among i (w ∷ ws) = (w.actor ≡ i) ⊎ Among i ws

abbrev pub WaitsAt : (actor : ℕ) → Option Cell → Type 0
WaitsAt i None = ⊥
WaitsAt i (Some cell) = Among i (waiters cell)

abbrev pub AtEach : (actor : ℕ) → Numbered Cell → List Ref → Type 0
AtEach i cells [] = Unit {0}
AtEach i cells (q ∷ qs) = WaitsAt i (thing cells q.1) × AtEach i cells qs

abbrev pub IsRegistered : (actor : ℕ) → Numbered Entry → Numbered Cell → Type 0
IsRegistered i entries cells = (e : Entry) → thing entries i ≡ Some e → e.suspended ≡ true → AtEach i cells e.operands
