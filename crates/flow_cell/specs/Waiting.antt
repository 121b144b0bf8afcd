-- Lists of waiters: one for each cell, which may be empty, in one slab, and for each waiter in a list its newest link there.
use Rattle.std.specs.Prelude.{◌≡◌, ℕ, nat_eq, Bool, false, ◌&&◌, ◌||◌, List, [], ◌∷◌, map, if◌then◌else◌}
use Rattle.std.specs.declared.option.Option.{Option}
use Rattle.std.specs.declared.option.Option.TheVariants.{None, Some}
use Rattle.flow_numbered.specs.declared.links.Ends.{Ends}
use Rattle.flow_numbered.specs.Links.{Slots, walk}
use Rattle.flow_numbered.specs.Lists.{IsList}
use Rattle.flow_cell.specs.Cells.{CellTree}
use Rattle.flow_cell.specs.declared.waiter.Waiter.{Waiter}
use Rattle.flow_cell.specs.declared.queue.Spot.{Spot}
use Rattle.flow_cell.specs.declared.queue.Waiting.{Waiting}

-- the same waiter at the same cell
abbrev pub same_spot : Spot → Spot → Bool
same_spot x y = nat_eq x.cell y.cell && (nat_eq x.actor y.actor && nat_eq x.callback y.callback)

abbrev pub spot_waiter : Spot → Waiter
spot_waiter s = record { actor = record { 0 = s.actor }; callback = s.callback }

abbrev pub waiter_of : Waiting → Waiter
waiter_of w = spot_waiter w.spot

abbrev pub spot_of : (cell : ℕ) → Waiter → Spot
spot_of cell w = record { cell = cell; actor = w.actor.0; callback = w.callback }

-- the same waiter; whether it is among these; and these without the newest of it
abbrev pub same_waiter : Waiter → Waiter → Bool
same_waiter v w = nat_eq v.actor.0 w.actor.0 && nat_eq v.callback w.callback

abbrev pub has_waiter : List Waiter → Waiter → Bool
has_waiter [] w = false
has_waiter (v ∷ vs) w = same_waiter v w || has_waiter vs w

-- whether a waiter waits at a cell, where there is one
abbrev pub waits_at : {T : Type 0} → Option (CellTree T) → Waiter → Bool
waits_at None w = false
waits_at (Some c) w = has_waiter c.waiters w

abbrev pub without_newest : List Waiter → Waiter → List Waiter
without_newest [] w = []
without_newest (v ∷ vs) w = if has_waiter vs w then v ∷ without_newest vs w else if same_waiter v w then vs else v ∷ vs

-- who waits in the list with these ends, oldest first
abbrev pub waiters_in : Slots Waiting → Ends → List Waiter
waiters_in at e = map waiter_of (walk at e.length e.first)

-- the newest link of each waiter at each cell, as one link more is read
abbrev pub newer : (Spot → Option ℕ) → ℕ × Waiting → Spot → Option ℕ
newer newest p s = if same_spot p.1.spot s then Some p.0 else newest s

abbrev pub newest_in : (Spot → Option ℕ) → List (ℕ × Waiting) → Spot → Option ℕ
newest_in newest [] s = newest s
newest_in newest (p ∷ ps) s = newest_in (newer newest p) ps s

-- each link names the next older one of the same waiter
abbrev pub KnowOlder : (Spot → Option ℕ) → List (ℕ × Waiting) → Type 0
KnowOlder newest [] = Unit {0}
KnowOlder newest (p ∷ ps) = (p.1.older ≡ newest p.1.spot) × KnowOlder (newer newest p) ps

-- they wait at this cell
abbrev pub AreAt : ℕ → List (ℕ × Waiting) → Type 0
AreAt n [] = Unit {0}
AreAt n (p ∷ ps) = (p.1.spot.cell ≡ n) × AreAt n ps

abbrev pub nowhere : Spot → Option ℕ
nowhere s = None

-- the list with these ends has the waiters of a cell
pub record IsQueue (at : Slots Waiting) (newest : Spot → Option ℕ) (n : ℕ) (e : Ends) : Type 0 where
  pub list : List (ℕ × Waiting)
  pub linked : IsList at e list
  pub here : AreAt n list
  pub known : KnowOlder nowhere list
  pub newest_is : (s : Spot) → s.cell ≡ n → newest s ≡ newest_in nowhere list s

-- each cell has its list, and nobody waits where there is no cell
pub record AreQueues (ends : ℕ → Option Ends) (at : Slots Waiting) (newest : Spot → Option ℕ) : Type 0 where
  pub each : (n : ℕ) (e : Ends) → ends n ≡ Some e → IsQueue at newest n e
  pub none : (s : Spot) → ends s.cell ≡ None → newest s ≡ None
