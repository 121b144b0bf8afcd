-- Names over places, as the code writes them.
use Rattle.std.specs.Prelude.{List, map}
use Rattle.std.specs.declared.option.Option.{Option}
use Rattle.flow_tree.specs.declared.decl.Slot.{Slot}
use Rattle.flow_tree.specs.declared.ty.Ident.{Ident}
use Rattle.flow_tree.specs.Decls.{SlotTree}
use Rattle.flow_tree.specs.DeclView.{slot_of}
use Rattle.flow_class.specs.declared.class.Slotted.{Slotted}
use Rattle.flow_class.specs.Scopes.{var_over}

abbrev pub slots_seen : List Slot → List SlotTree
slots_seen ss = map slot_of ss

-- the name of a place, where a name stands
abbrev pub ident_at : Option Slotted → Ident → Ident
ident_at p x = record x { name = var_over p }
