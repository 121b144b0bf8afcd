-- Edits that make a world smaller, one after another, as long as its run is stopped.
use Rattle.std.specs.Prelude.{◌≡◌, ◌≤◌, ◌<◌, ◌+◌, ℕ, length}
use Rattle.flow_worldfile.specs.Worlds.{World, seen}
use Rattle.flow_shrink.specs.declared.shrinking.Shrunk.{Shrunk}
use Rattle.flow_shrink.specs.declared.shrinking.Shrunk.TheVariants.{Least, NotStopped}
use Rattle.flow_shrink.specs.Shrinking.{without}

-- An edit: at how many places of a world it can be made, and the world after it at one of them.
pub record Edit : Type 0 where
  pub places : World → ℕ
  pub edited : ℕ → World → World

-- after it there is one place less
abbrev pub TakesAPlace : Edit → Type 0
TakesAPlace e = (w : World) (k : ℕ) → k < e.places w → e.places (e.edited k w) + 1 ≡ e.places w

-- a line of the script goes
abbrev pub line_goes : Edit
line_goes = record { places = λ w. length w.script; edited = without }

-- a world that edits of the first one lead to, one after another
pub data Leads (e : Edit) (first : World) : World → Type 0 where
  itself : Leads e first first
  edits : {w : World} (k : ℕ) → k < e.places w → Leads e first w → Leads e first (e.edited k w)

-- A world that edits of the first one lead to, that stops; and after any one edit more it doesn't.
pub record IsLeastBy (e : Edit) (IsStopped : World → Type 0) (first least : World) : Type 0 where
  pub leads : Leads e first least
  pub stops : IsStopped least
  pub each : (k : ℕ) → k < e.places least → IsStopped (e.edited k least) → ⊥

-- what making a world smaller by an edit comes to
abbrev pub ShrinksBy : Edit → (IsStopped : World → Type 0) → (first : World) → Shrunk → Type 0
ShrinksBy e IsStopped first (Least w) = IsStopped first × IsLeastBy e IsStopped first (seen w)
ShrinksBy e IsStopped first NotStopped = IsStopped first → ⊥

-- What trying an edit of a world at a place comes to: it is made where the world after it stops, and else the world stays.
pub data Tried (e : Edit) (IsStopped : World → Type 0) (k : ℕ) (old new : World) : Type 0 where
  made : new ≡ e.edited k old → IsStopped new → Tried e IsStopped k old new
  refused : new ≡ old → (IsStopped (e.edited k old) → ⊥) → Tried e IsStopped k old new

-- Some edits of a world were made, and it still stops. Where none was, the edit was refused at each place from one on.
pub record TriedFrom (e : Edit) (IsStopped : World → Type 0) (k : ℕ) (first now : World) : Type 0 where
  pub leads : Leads e first now
  pub stops : IsStopped now
  pub left : k ≤ e.places now
  pub none : e.places now ≡ e.places first
      → (now ≡ first) × ((j : ℕ) → k ≤ j → j < e.places first → IsStopped (e.edited j first) → ⊥)
