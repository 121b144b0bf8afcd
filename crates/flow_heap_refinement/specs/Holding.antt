-- How the references that a frame holds change with its places.
use Rattle.std.specs.Prelude.{◌≡◌, ℕ, ◌+◌, ◌<◌, List, [], ◌∷◌, length}
use Rattle.std.specs.declared.option.Option.{Option}
use Rattle.std.specs.declared.option.Option.TheVariants.{None, Some}
use Rattle.flow_tree.specs.declared.ty.Ident.{Ident}
use Rattle.flow_tree.specs.Decls.{RecordTree}
use Rattle.flow_value.specs.Values.{ValueTree}
use Rattle.flow_class.specs.declared.class.Slotted.{Slotted}
use Rattle.flow_class.specs.declared.class.Slotted.TheVariants.{Slot, Local}
use Rattle.flow_meaning.specs.Cells.{Side}
use Rattle.flow_meaning.specs.References.{count, refs_in}
use Rattle.flow_meaning.specs.Variables.{filled}
use Rattle.flow_meaning.specs.Frame.{Memory, read, write, held_in, emptied, reversed, all_emptied, occ_memory, put_at}

-- the references of what may stand at a place
abbrev pub held : Side → ℕ → Option ValueTree → ℕ
held s j o = count s j (refs_in (filled (o ∷ [])))

-- a place that is there
abbrev pub InMemory : Memory → Slotted → Type 0
InMemory m (Slot n) = n < length m.slots
InMemory m (Local n) = n < length m.locals

module _ (m : Memory) (s : Side) (j : ℕ) where
  -- a place is written; one that need not be there is emptied
  abbrev pub OfWritten : Type 0
  OfWritten =
      (q : Slotted) (o : Option ValueTree) → InMemory m q
      → occ_memory s j (write m q o) + held s j (read m q) ≡ occ_memory s j m + held s j o

  abbrev pub OfEmptied : Type 0
  OfEmptied = (q : Slotted) → occ_memory s j (write m q None) + held s j (read m q) ≡ occ_memory s j m

  -- locals are emptied one by one, and all of them
  abbrev pub OfLocals : Type 0
  OfLocals =
      (ns : List ℕ)
      → occ_memory s j (emptied ns m) + count s j (refs_in (held_in m ns)) ≡ occ_memory s j m

  abbrev pub OfAllLocals : Type 0
  OfAllLocals =
      occ_memory s j (all_emptied m) + count s j (refs_in (filled (reversed m.locals))) ≡ occ_memory s j m

  -- what a path leads to gets a value
  abbrev pub OfPath : Type 0
  OfPath =
      (rs : List RecordTree) (q : Slotted) (path : List Ident) (v : ValueTree) (old : List ValueTree) (n : Memory)
      → InMemory m q → put_at rs m q path v ≡ Some (old, n)
      → occ_memory s j n + count s j (refs_in old) ≡ occ_memory s j m + held s j (Some v)
