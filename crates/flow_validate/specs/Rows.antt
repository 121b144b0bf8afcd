-- Variables that are slots of a class alone, from the first on.
use Rattle.std.specs.Prelude.{◌≡◌, ℕ, List}
use Rattle.flow_tree.specs.Tree.{TypeTree}
use Rattle.flow_tree.specs.Decls.{SlotTree}
use Rattle.flow_valid.specs.Validity.{slot_rows}

abbrev pub AreSlotRows : List (List ℕ × TypeTree) → Type 0
AreSlotRows rows = (ss : List SlotTree) × (rows ≡ slot_rows 0 ss)
