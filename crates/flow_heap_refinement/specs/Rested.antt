-- What a process keeps while it runs, and when it rests.
use Rattle.std.specs.Prelude.{◌≡◌, ℕ, suc, ◌+◌, ◌<◌, nat_eq, Bool, true, false, List, [], ◌∷◌, if◌then◌else◌}
use Rattle.std.specs.declared.option.Option.{Option}
use Rattle.std.specs.declared.option.Option.TheVariants.{None, Some}
use Rattle.flow_class.specs.Classes.{RawTree}
use Rattle.flow_numbered.specs.Numbered as stored
use Rattle.flow_cancel.specs.Heap.{HeapTree, has_number, without_number}
use Rattle.flow_numbered.specs.Numbered.{Numbered, thing, removed}
use Rattle.flow_meaning.specs.Cells.{PromiseSide, FutureSide, Cell, Single, Stream}
use Rattle.flow_meaning.specs.Process.{Entry, Core, Proc}
use Rattle.flow_meaning.specs.Orderly.{Orderly, Rising}
use Rattle.flow_meaning.specs.Law.{AtRest}
use Rattle.flow_meaning.specs.Dropping.{port_of}
use Rattle.flow_meaning.specs.Views.{Referred}
use Rattle.flow_meaning.specs.Class.{classes}
use Rattle.flow_meaning.specs.Frame.{Frame}
use Rattle.flow_heap_refinement.specs.Representing.{Represents}
use Rattle.flow_heap_refinement.specs.Counted.{references, nothing_in_hand, Counted, Agree}

-- numbers that rise strictly, and the last is n at most
abbrev pub NumbersRise : (above : ℕ) → ℕ → List ℕ → Type 0
NumbersRise above n [] = Unit {0}
NumbersRise above n (k ∷ ks) = (above < k) × (k < suc n) × NumbersRise k n ks

-- whether a number is among some
abbrev pub has : ℕ → List ℕ → Bool
has k [] = false
has k (n ∷ ns) = if nat_eq k n then true else has k ns

-- a cell that is an unset single result, and one that is a stream
abbrev pub IsUnset : Option Cell → Type 0
IsUnset (Some (Single None ws)) = Unit {0}
IsUnset _ = ⊥

abbrev pub IsStream : Option Cell → Type 0
IsStream (Some (Stream queue end w)) = Unit {0}
IsStream _ = ⊥

-- What a process made is its own: the result of an unfinished actor and the cell of an open request are unset single
-- results, that of a port is a stream, and the actor, the request and the port alone refer to the promise side of theirs.
pub record Owned (p : Proc Frame) : Type 0 where
  pub result : (i k : ℕ) (e : Entry) → thing p.core.entries i ≡ Some e → e.result ≡ Some k
      → IsUnset (thing p.core.cells k) × (references PromiseSide k p ≡ 1)
  pub request : (k : ℕ) → has k p.core.requests ≡ true
      → IsUnset (thing p.core.cells k) × (references PromiseSide k p ≡ 1)
  pub port : (q k : ℕ) → port_of k p.core.ports ≡ Some q
      → IsStream (thing p.core.cells k) × (references PromiseSide k p ≡ 1)

-- each cell is referred to
abbrev pub Referenced : Proc Frame → Type 0
Referenced p =
    (k : ℕ) (c : Cell) → thing p.core.cells k ≡ Some c
    → 0 < references PromiseSide k p + references FutureSide k p

-- An actor that is marked as cancelled runs, and the result of any other unfinished actor has a future.
pub record Cared (p : Proc Frame) : Type 0 where
  pub awake : (i : ℕ) (e : Entry) → thing p.core.entries i ≡ Some e → e.marked ≡ true → e.suspended ≡ false
  pub wanted : (i k : ℕ) (e : Entry) → thing p.core.entries i ≡ Some e → e.marked ≡ false
      → e.result ≡ Some k → 0 < references FutureSide k p

-- each port has a stream of its own
abbrev pub OneEach : Numbered ℕ → Type 0
OneEach xs = (q k : ℕ) → port_of k xs ≡ Some q → (thing xs q ≡ Some k) × (port_of k (removed xs q) ≡ None)

-- ports differ, and the numbers of their streams rise
abbrev pub PortsRise : (above : ℕ) → ℕ → Numbered ℕ → Type 0
PortsRise above n [] = Unit {0}
PortsRise above n (x ∷ xs) = (above < x.1) × (x.1 < suc n) × (thing xs x.0 ≡ None) × PortsRise x.1 n xs

-- the numbers of cells, of open requests and of ports' streams rise
pub record InNumbers (c : Core) : Type 0 where
  pub ports : PortsRise 0 c.made c.ports
  pub cells : Rising 0 c.made c.cells
  pub requests : NumbersRise 0 c.made c.requests

-- In memory too numbers rise: what a heap's own types keep.
pub record Sorted (h : HeapTree) : Type 0 where
  pub cells : stored.IsRising 0 h.cells.things h.cells.greatest
  pub streams : stored.IsRising 0 h.streams.things h.streams.greatest
  pub actors : stored.IsRising 0 h.actors.things h.actors.greatest
  pub frames : stored.IsRising 0 h.frames.things h.frames.greatest
  pub ports : (k : ℕ) → has_number (without_number h.ports k) k ≡ false

-- What a heap and the process that it shows keep from step to step of an event that isn't stopped.
pub record Running (r : RawTree) (h : HeapTree) (p : Proc Frame) : Type 0 where
  pub shows : Represents r h p
  pub counted : Counted nothing_in_hand h p
  pub agree : Agree p.core
  pub orderly : Orderly p.core
  pub numbers : InNumbers p.core
  pub sorted : Sorted h
  pub owned : Owned p
  pub cared : Cared p
  pub referenced : Referenced p

-- A heap at rest, and the process that it shows: no task is left, no unfinished actor is marked, each waits and has a future
-- reference, and no cell is without one.
pub record Rested (r : RawTree) (h : HeapTree) (p : Proc Frame) : Type 0 where
  pub running : Running r h p
  pub rest : AtRest p.core
  pub referred : Referred (classes r) p
