-- A program's code is what its text is coded to.
use Rattle.std.specs.Prelude.{◌≡◌, ℕ, List, map, length, codes}
use Rattle.std.specs.declared.option.Option.{Option}
use Rattle.flow_class.specs.Classes.{ClassTree, RawTree}
use Rattle.flow_code.specs.Resolved.Named.{first_from}
use Rattle.flow_code.specs.Resolved.Resolving.{Naming, AreRecords, AreFunctions, IsNumbering}
use Rattle.flow_code.specs.Resolved.View.{places_in}
use Rattle.flow_code.specs.declared.expr.names.FieldNames.{FieldNames}
use Rattle.flow_code.specs.declared.class.Class.{Class}
use Rattle.flow_code.specs.Places.{place_in}
use Rattle.flow_code.specs.Classes.{ClassCode}
use Rattle.flow_code.specs.View.{code_of}
use Rattle.flow_code.specs.Coding.{Coding, coded_class}

-- the place of the first class of a name
abbrev pub class_named : List ClassTree → List ℕ → Option ℕ
class_named cs x = first_from 0 (map (λ (c : ClassTree). c.name) cs) x

-- what a class with so many slots is coded by, and each class coded
abbrev pub coding : Naming → (List ℕ → Option ℕ) → (slots : ℕ) → Coding
coding n at slots = record { names = record n { place = place_in slots }; class = at; slots = slots }

abbrev pub coded : Naming → (List ℕ → Option ℕ) → ClassTree → ClassCode
coded n at c = coded_class (coding n at (length c.slots)) c

-- Some naming is that of the program's records, functions and classes, the fields of its records are numbered by it, and the
-- classes are coded by it.
pub record IsCoded (raw : RawTree) (fields : FieldNames) (classes : List Class) (main : Option ℕ) : Type 0 where
  pub names : Naming
  pub class : List ℕ → Option ℕ
  pub are_records : AreRecords raw.records names.record_of
  pub are_functions : AreFunctions raw.functions names.function
  pub are_numbers : IsNumbering raw.records names.field (places_in fields)
  pub are_classes : (x : List ℕ) → class x ≡ class_named raw.classes x
  pub are_coded : map code_of classes ≡ map (coded names class) raw.classes
  pub is_main : main ≡ class_named raw.classes (codes "main")
