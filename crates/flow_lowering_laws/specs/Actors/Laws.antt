-- What the class of an actor keeps of it.
use Rattle.std.specs.Prelude.{◌≤◌, ◌<◌, ◌^◌, [], false, length}
use Rattle.flow_tree.specs.Decls.{RoutineTree}
use Rattle.flow_ast.specs.Slots.{slots_of}
use Rattle.flow_layout.specs.Locals.{locals_of}
use Rattle.flow_layout.specs.Laying.{LayoutTree, layout_of}
use Rattle.flow_meaning.specs.Evaluating.{Names}
use Rattle.flow_meaning.specs.Shape.{IsClassOf}
use Rattle.flow_meaning.specs.Carries.{Carries}
use Rattle.flow_split.specs.Lowered.{lowered_class}
use Rattle.flow_split.specs.Weight.{weight}
use Rattle.flow_lowering_laws.specs.Actors.Parts.{HasParts}
use Rattle.flow_lowering_laws.specs.Actors.InPlace.{InPlace}

-- The class of an actor has no more blocks than the actor weighs.
abbrev pub WithinWeight : Type 0
WithinWeight =
    (ns : Names) (l : LayoutTree) (a : RoutineTree) → length (lowered_class ns l a).blocks ≤ weight a

-- It has the name, the result and the parameters of the actor, and in the order of the text its slots and groups, where
-- the text is one of the grammar.
abbrev pub KeepsShape : Type 0
KeepsShape = (ns : Names) (a : RoutineTree) → HasParts a.body → IsClassOf a (lowered_class ns (layout_of a) a)

-- few enough slots and locals for their numbers to be written: decimal digits stand for a number below 2^64
pub record IsSmall (a : RoutineTree) : Type 0 where
  pub slots : length (slots_of a) < 2 ^ 64
  pub locals : length (locals_of a) < 2 ^ 64

-- And it carries the actor, where the statements are in place besides.
abbrev pub KeepsText : Type 0
KeepsText =
    (ns : Names) (a : RoutineTree) → IsSmall a → HasParts a.body → InPlace (slots_of a) false false [] a.body
    → Carries ns a (lowered_class ns (layout_of a) a)
