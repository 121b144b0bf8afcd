-- The class of an actor has its shape.
use Rattle.std.proofs.Common.{[], refl}
use Rattle.flow_tree.specs.Decls.{RoutineTree}
use Rattle.flow_layout.specs.Laying.{layout_of}
use Rattle.flow_meaning.specs.Evaluating.{Names}
use Rattle.flow_meaning.specs.Shape.{IsClassOf}
use Rattle.flow_split.specs.Around.{whole}
use Rattle.flow_split.specs.Lowered.{lowered_class, close_of}
use Rattle.flow_lowering_laws.specs.Actors.Parts.{HasParts}
use Rattle.flow_lowering_laws.proofs.Actors.Groups.{lowered_kinds}

pub keeps_shape : (ns : Names) (a : RoutineTree) → HasParts a.body → IsClassOf a (lowered_class ns (layout_of a) a)
keeps_shape ns a parts = record {
  name = refl;
  returns = refl;
  params = refl;
  slots = refl;
  groups = lowered_kinds ns (layout_of a).slots [] (whole (close_of a)) (record { block = 1; local = 0; group = 1 }) a.body parts;
}
