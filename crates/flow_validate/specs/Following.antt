-- How the code follows places through a class, 64 at a time: what a block does to a place, one touch after another.
use Rattle.std.specs.Prelude.{◌≡◌, ℕ, ◌<◌, ◌+◌, Bool, false, not, ◌&&◌, ◌||◌, eqb, List, [], ◌∷◌, ◌++◌, map, if◌then◌else◌}
use Rattle.std.specs.Int.{bit_at}
use Rattle.flow_class.specs.declared.class.Slotted.{Slotted}
use Rattle.flow_class.specs.declared.class.Slotted.TheVariants.{Slot, Local}
use Rattle.flow_class.specs.Classes.{InstrTree, DropInstr, LastTree, ChooseLast, BlockTree, ClassTree}
use Rattle.flow_class.specs.Code.{group_at}
use Rattle.flow_validate.specs.declared.touch.Touch.{Touch}
use Rattle.flow_validate.specs.declared.touch.Touch.TheVariants.{Throws, Reads, Fills, Empties, Waits}
use Rattle.flow_validate.specs.declared.window.Window.{Window}
use Rattle.flow_validate.specs.declared.window.Passage.{Passage}
use Rattle.flow_valid.specs.Named.{last_places}
use Rattle.flow_valid.specs.Filling.{same_place, is_local, instr_reads, instr_fills, group_reads}

-- A place on the way through a block: whether it is empty now, was empty where an error may have been thrown, and was read
-- while it was empty.
pub record Passing : Type 0 where
  pub empty : Bool
  pub thrown : Bool
  pub misread : Bool

abbrev pub entering : (empty : Bool) → Passing
entering e = record { empty = e; thrown = false; misread = false }

module _ (p : Slotted) where
  abbrev pub touched : Touch → Passing → Passing
  touched Throws s = record s { thrown = s.thrown || s.empty }
  touched (Reads q) s = record s { misread = s.misread || (s.empty && same_place q p) }
  touched (Fills q) s = record s { empty = s.empty && not (same_place q p) }
  touched (Empties n) s = record s { empty = s.empty || same_place (Local n) p }
  touched Waits s = record s { empty = s.empty || is_local p }

  abbrev pub passed : List Touch → Passing → Passing
  passed [] s = s
  passed (t ∷ ts) s = passed ts (touched t s)

-- what instructions and blocks do to places
abbrev pub emptied_by : InstrTree → List ℕ
emptied_by (DropInstr ns) = ns
emptied_by _ = []

abbrev pub instr_touches : InstrTree → List Touch
instr_touches i = Throws ∷ map Reads (instr_reads i) ++ map Fills (instr_fills i) ++ map Empties (emptied_by i)

abbrev pub body_touches : List InstrTree → List Touch
body_touches [] = []
body_touches (i ∷ is) = instr_touches i ++ body_touches is

abbrev pub last_touches : ClassTree → LastTree → List Touch
last_touches c (ChooseLast g) = Throws ∷ map Reads (group_reads (group_at c.groups g)) ++ Waits ∷ Throws ∷ []
last_touches c l = Throws ∷ map Reads (last_places l)

abbrev pub block_touches : ClassTree → BlockTree → List Touch
block_touches c b = body_touches b.body ++ last_touches c b.last

-- the place of a bit of a window
abbrev pub place_in : Window → (bit : ℕ) → Slotted
place_in w j = if w.locals then Local (w.first + j) else Slot (w.first + j)

abbrev pub has_bit : ℕ → ℕ → Bool
has_bit n j = eqb (bit_at n j) 1

-- these bits are those of the places that are so
abbrev pub AreBits : Window → ℕ → (Slotted → Bool) → Type 0
AreBits w bits f = (j : ℕ) → j < 64 → has_bit bits j ≡ f (place_in w j)

-- these places are so on their way
pub record ArePassing (w : Window) (p : Passage) (s : Slotted → Passing) : Type 0 where
  pub empty : AreBits w p.empty (λ q. (s q).empty)
  pub thrown : AreBits w p.thrown (λ q. (s q).thrown)
  pub misread : AreBits w p.misread (λ q. (s q).misread)
