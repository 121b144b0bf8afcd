-- The rules of classes don't depend on places, nor do heads of classes, and class text is read back as the same, places aside.
use Rattle.std.specs.Prelude.{◌≡◌, ℕ, List, slice_get}
use Rattle.std.specs.declared.option.Option.{Option}
use Rattle.std.specs.declared.option.Option.TheVariants.{Some}
use Rattle.flow_base.specs.declared.place.Place.{Place}
use Rattle.flow_tree.specs.declared.limits.TheConstants.{OF_CLASS_TEXT}
use Rattle.flow_tree.specs.declared.token.Spot.{Spot}
use Rattle.flow_tree.specs.Lexing.{Lexes}
use Rattle.flow_tree.specs.GrammarToken.{DerivesOf}
use Rattle.flow_class.specs.Classes.{ClassTree, RawTree}
use Rattle.flow_classprint.specs.declared.version.Version.TheVariants.{Two}
use Rattle.flow_classprint.specs.ClassGrammar.{VersionRule, IsWritten}
use Rattle.flow_classprint.specs.ClassText.{ClassText}
use Rattle.flow_meaning.specs.Placeless.{placeless_class, placeless_classes}
use Rattle.flow_valid.specs.Validity.{IsSoundClass, IsValid, Breaks}

-- Classes that are equal, places aside, to valid classes are valid.
abbrev pub ValidityAside : Type 0
ValidityAside = (a b : RawTree) → placeless_classes a ≡ placeless_classes b → IsValid a → IsValid b

-- And of such classes the same one breaks the same rule first.
abbrev pub BreachesAside : Type 0
BreachesAside =
    (a b : RawTree) (rule : ℕ) (class : Option ℕ) → placeless_classes a ≡ placeless_classes b → Breaks a rule class → Breaks b rule class

-- A class keeps the rules on single classes where an equal one does, places aside.
abbrev pub SoundnessAside : Type 0
SoundnessAside =
    (a b : RawTree) (c d : ClassTree) → placeless_classes a ≡ placeless_classes b → placeless_class c ≡ placeless_class d
    → IsSoundClass a c → IsSoundClass b d

-- Two classes have one name and result, the same parameters, and slots and locals of the same types.
pub record SameHead (c d : ClassTree) : Type 0 where
  pub name : c.name ≡ d.name
  pub returns : c.returns ≡ d.returns
  pub params : c.params ≡ d.params
  pub slots : c.slots ≡ d.slots
  pub locals : c.locals ≡ d.locals

-- So have those of one number, of such classes: the class that breaks a rule has the same name, and none has more places.
abbrev pub HeadsAside : Type 0
HeadsAside =
    (a b : RawTree) (k : ℕ) (c : ClassTree) → placeless_classes a ≡ placeless_classes b → slice_get a.classes k ≡ Some c
    → (d : ClassTree) × (slice_get b.classes k ≡ Some d) × SameHead c d

-- The canonical text of classes has tokens, which are derived in version 2 as classes equal to them, places aside, within the limits
-- of class text. The limit on bytes is no part of this.
pub record AreReadBack (raw : RawTree) : Type 0 where
  pub spots : List Spot
  pub end : Place
  pub tree : RawTree
  pub lexes : Lexes (ClassText raw) spots end
  pub derives : DerivesOf OF_CLASS_TEXT (VersionRule Two) 7 spots tree
  pub same : placeless_classes tree ≡ placeless_classes raw

-- So are the records, functions and classes that some class text derives.
abbrev pub ClassTextReadBack : Type 0
ClassTextReadBack = (raw : RawTree) → IsWritten raw → AreReadBack raw
