-- What the code gathers of a class program before it judges it.
use Rattle.std.specs.Prelude.{◌≡◌, ◌^◌, ◌<◌, ◌≤◌, map, take, length}
use Rattle.flow_tree.specs.DeclView.{params_of, decl_of}
use Rattle.flow_ast.specs.Typing.{packet_fields}
use Rattle.flow_rules.specs.Known.{field_row}
use Rattle.flow_class.specs.Classes.{RawTree}
use Rattle.flow_class.specs.View.{class_of}
use Rattle.flow_valid.specs.Heads.{plain_decls, all_decls}
use Rattle.flow_validate.specs.declared.validate.Gathered.{Gathered}
use Rattle.flow_validate.specs.Sizes.{AreFew}
use Rattle.flow_validate.specs.PlaceNames.{AreEnoughFor}

-- these are the parts of a class program: all that has a name at the top, the records and functions first, and the classes
pub record AreParts (r : RawTree) (g : Gathered) : Type 0 where
  pub all : all_decls r ≡ map decl_of g.decls.items
  pub plain : plain_decls r ≡ take g.count (map decl_of g.decls.items)
  pub kept : r.classes ≡ map class_of g.classes.items

-- there are few enough of all, and what is looked up is there
pub record IsReady (g : Gathered) : Type 0 where
  pub within : g.count ≤ length g.decls.items
  pub few : AreFew (map class_of g.classes.items)
  pub many : length g.classes.items < 2 ^ 32
  pub packet : map field_row (params_of g.packet.items) ≡ packet_fields
  pub places : AreEnoughFor g.places.slots.items g.places.locals.items (map class_of g.classes.items)
