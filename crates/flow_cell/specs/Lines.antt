-- The waiters of one cell, and the lists of all.
use Rattle.std.specs.Prelude.{◌≡◌, ◌≢◌, ℕ, nat_eq, List, [], ◌∷◌, if◌then◌else◌}
use Rattle.std.specs.HashMap as hash
use Rattle.slab.specs.Slab as slab
use Rattle.std.specs.declared.option.Option.{Option}
use Rattle.std.specs.declared.option.Option.TheVariants.{Some}
use Rattle.flow_numbered.specs.declared.links.Ends.{Ends}
use Rattle.flow_numbered.specs.Links.{Slots, no_links}
use Rattle.flow_cell.specs.Waiting.{same_spot, waiters_in, AreQueues}
use Rattle.flow_cell.specs.declared.waiter.Waiter.{Waiter}
use Rattle.flow_cell.specs.declared.queue.Spot.{Spot}
use Rattle.flow_cell.specs.declared.queue.Waiting.{Waiting}
use Rattle.flow_cell.specs.declared.waiters.Waiters.{Waiters}
use Rattle.flow_cell.specs.declared.waiters.Waiters.TheVariants.{Nobody, One, Listed}
use Rattle.flow_cell.specs.declared.waiters.Lists.{Lists}

-- the ends of a cell's list, which has no link where nobody or one waits
abbrev pub list_ends : Waiters → Ends
list_ends Nobody = no_links
list_ends (One w) = no_links
list_ends (Listed e) = e.value

-- who waits, oldest first
abbrev pub waiters_at : Slots Waiting → Waiters → List Waiter
waiters_at at Nobody = []
waiters_at at (One w) = w ∷ []
waiters_at at (Listed e) = waiters_in at e.value

-- the lists of all cells, and of one cell the ends of its list and who waits
pub record Line : Type 0 where
  pub at : Slots Waiting
  pub newest : Spot → Option ℕ
  pub ends : Ends
  pub waiters : List Waiter

abbrev pub links_of : Lists → Slots Waiting
links_of l k = slab.get l.links k

abbrev pub newest_of : Lists → Spot → Option ℕ
newest_of l s = hash.get same_spot l.newest s

abbrev pub line : Lists → Waiters → Line
line l ws = record { at = links_of l; newest = newest_of l; ends = list_ends ws; waiters = waiters_at (links_of l) ws }

-- the ends of all cells' lists, this cell's among them
pub record AreEnds (n : ℕ) (a : Line) (ends : ℕ → Option Ends) : Type 0 where
  pub here : ends n ≡ Some a.ends
  pub queues : AreQueues ends a.at a.newest

abbrev pub IsIn : ℕ → Line → Type 0
IsIn n a = (ends : ℕ → Option Ends) × AreEnds n a ends

-- a fact of who waits at a cell, whatever other cells there are
abbrev pub Tells : ℕ → Line → (List Waiter → Type 0) → Type 0
Tells n a Fact = (ends : ℕ → Option Ends) → AreEnds n a ends → Fact a.waiters

-- who waits at a cell changes like this, and nobody else, whatever other cells there are
pub record Becomes (n : ℕ) (change : List Waiter → List Waiter) (a b : Line) : Type 0 where
  pub queues : (ends new : ℕ → Option Ends) → AreEnds n a ends → ((m : ℕ) → new m ≡ (if nat_eq m n then Some b.ends else ends m))
      → AreQueues new b.at b.newest
  pub told : (ends : ℕ → Option Ends) → AreEnds n a ends → b.waiters ≡ change a.waiters
  pub others : (ends : ℕ → Option Ends) → AreEnds n a ends → (m : ℕ) (d : Ends) → ends m ≡ Some d → m ≢ n
      → waiters_in b.at d ≡ waiters_in a.at d
