-- Places with numbers below 2^32, which are those that the code can name.
use Rattle.std.specs.Prelude.{◌^◌, nat_lt, Bool, List, [], ◌∷◌, ◌++◌, map, filter}
use Rattle.flow_class.specs.declared.class.Slotted.{Slotted}
use Rattle.flow_class.specs.declared.class.Slotted.TheVariants.{Slot, Local}
use Rattle.flow_class.specs.Classes.{InstrTree, NewInstr, LastTree, ChooseLast, BlockTree, ClassTree}
use Rattle.flow_class.specs.Code.{group_at}
use Rattle.flow_validate.specs.declared.touch.Touch.{Touch}
use Rattle.flow_validate.specs.declared.touch.Touch.TheVariants.{Throws, Reads, Fills, Empties, Waits}
use Rattle.flow_valid.specs.Named.{last_places}
use Rattle.flow_valid.specs.Filling.{instr_reads, instr_fills, group_reads}
use Rattle.flow_validate.specs.Following.{emptied_by}

abbrev pub is_small : Slotted → Bool
is_small (Slot n) = nat_lt n (2 ^ 32)
is_small (Local n) = nat_lt n (2 ^ 32)

abbrev pub small_places : List Slotted → List Slotted
small_places ps = filter is_small ps

abbrev pub reads_of : List Slotted → List Touch
reads_of ps = map Reads (small_places ps)

abbrev pub small_fills : InstrTree → List Slotted
small_fills (NewInstr p) = p ∷ []
small_fills i = small_places (instr_fills i)

abbrev pub small_instr : InstrTree → List Touch
small_instr i = Throws ∷ reads_of (instr_reads i) ++ map Fills (small_fills i) ++ map Empties (emptied_by i)

abbrev pub small_body : List InstrTree → List Touch
small_body [] = []
small_body (i ∷ is) = small_instr i ++ small_body is

abbrev pub small_last : ClassTree → LastTree → List Touch
small_last c (ChooseLast g) = Throws ∷ reads_of (group_reads (group_at c.groups g)) ++ Waits ∷ Throws ∷ []
small_last c l = Throws ∷ reads_of (last_places l)

abbrev pub small_block : ClassTree → BlockTree → List Touch
small_block c b = small_body b.body ++ small_last c b.last
