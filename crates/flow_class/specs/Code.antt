-- What stands where in a class: instructions, catch parts, groups of callbacks, types of places.
use Rattle.std.specs.Prelude.{ℕ, zero, suc, ◌+◌, List, [], ◌∷◌, length, slice_get}
use Rattle.std.specs.Option.{option_map, option_and_then}
use Rattle.std.specs.declared.option.Option.{Option}
use Rattle.std.specs.declared.option.Option.TheVariants.{None, Some}
use Rattle.flow_tree.specs.Tree.{TypeTree}
use Rattle.flow_tree.specs.Decls.{SlotTree}
use Rattle.flow_class.specs.declared.class.Slotted.{Slotted}
use Rattle.flow_class.specs.declared.class.Slotted.TheVariants.{Slot, Local}
use Rattle.flow_class.specs.Classes.{CatcherTree, InstrTree, LastTree, BlockTree, CallbackTree, ClassTree}

-- what stands at a position: an instruction, the last one of a block, or nothing
pub data Fetched : Type 0 where
  Body : InstrTree → Fetched
  Last : LastTree → Fetched
  Nothing : Fetched

abbrev pub fetch_in : List InstrTree → LastTree → ℕ → Fetched
fetch_in [] last zero = Last last
fetch_in [] last (suc n) = Nothing
fetch_in (i ∷ is) last zero = Body i
fetch_in (i ∷ is) last (suc n) = fetch_in is last n

abbrev pub fetch_at : Option BlockTree → ℕ → Fetched
fetch_at None n = Nothing
fetch_at (Some b) n = fetch_in b.body b.last n

abbrev pub fetch : ClassTree → (block instr : ℕ) → Fetched
fetch c b n = fetch_at (slice_get c.blocks b) n

-- the catch part of a block
abbrev pub catcher_in : Option BlockTree → Option CatcherTree
catcher_in None = None
catcher_in (Some b) = b.catcher

abbrev pub catcher_at : ClassTree → (block : ℕ) → Option CatcherTree
catcher_at c b = catcher_in (slice_get c.blocks b)

-- the callbacks of a group, from 1, and how many stand before them in the class
abbrev pub group_at : List (List CallbackTree) → ℕ → Option (List CallbackTree)
group_at gs zero = None
group_at gs (suc n) = slice_get gs n

abbrev pub callbacks_before : List (List CallbackTree) → ℕ → ℕ
callbacks_before gs zero = 0
callbacks_before gs (suc zero) = 0
callbacks_before [] (suc (suc n)) = 0
callbacks_before (g ∷ gs) (suc (suc n)) = length g + callbacks_before gs (suc n)

abbrev pub callback_at : ClassTree → (group branch : ℕ) → Option CallbackTree
callback_at c g n = option_and_then (λ cs. slice_get cs n) (group_at c.groups g)

-- the type of a place
abbrev pub type_at : ClassTree → Slotted → Option TypeTree
type_at c (Slot n) = option_map (λ (s : SlotTree). s.ty) (slice_get c.slots n)
type_at c (Local n) = slice_get c.locals n
