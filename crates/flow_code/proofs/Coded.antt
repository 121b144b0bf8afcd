-- The code of a program from its parts.
use Rattle.std.proofs.Common.{◌≡◌, ℕ, List, [], ◌∷◌, map, codes, refl, ap, ◌∙◌}
use Rattle.std.specs.declared.option.Option.{Option}
use Rattle.std.specs.declared.option.Option.TheVariants.{None}
use Rattle.flow_tree.specs.DeclView.{record_of, function_of}
use Rattle.flow_class.specs.declared.class.Class as text
use Rattle.flow_class.specs.declared.class.RawClasses.{RawClasses}
use Rattle.flow_class.specs.Classes.{ClassTree}
use Rattle.flow_class.specs.View.{class_of, raw_of}
use Rattle.flow_code.specs.declared.expr.names.Names.{Names}
use Rattle.flow_code.specs.declared.expr.names.FieldNames.{FieldNames}
use Rattle.flow_code.specs.Resolved.Named.{at_name, first_from, naming_of}
use Rattle.flow_code.specs.Resolved.Resolving.{AreRecords, AreFunctions, IsNumbering}
use Rattle.flow_code.specs.Resolved.View.{places_in}
use Rattle.flow_code.specs.declared.class.Class.{Class}
use Rattle.flow_code.specs.declared.coding.ClassNames.{ClassNames}
use Rattle.flow_code.specs.Coder.{name_of_class}
use Rattle.flow_code.specs.Coded.{IsCoded, coded}
use Rattle.flow_code.specs.View.{code_of}

names_of : (cs : List text.Class) → map name_of_class cs ≡ map (λ (c : ClassTree). c.name) (map class_of cs)
names_of [] = refl
names_of (c ∷ cs) = ap (λ l. c.name ∷ l) (names_of cs)

pub is_coded : (raw : RawClasses) (names : Names) (at : ClassNames) (fields : FieldNames) (classes : List Class) (main : Option ℕ)
    → AreRecords (map record_of raw.records.items) (naming_of names (λ _. None)).record_of
    → AreFunctions (map function_of raw.functions.items) (naming_of names (λ _. None)).function
    → IsNumbering (map record_of raw.records.items) (naming_of names (λ _. None)).field (places_in fields)
    → ((x : List ℕ) → at_name at.named x ≡ first_from 0 (map name_of_class raw.classes.items) x)
    → map code_of classes ≡ map (coded (naming_of names (λ _. None)) (at_name at.named)) (map class_of raw.classes.items)
    → main ≡ at_name at.named (codes "main")
    → IsCoded (raw_of raw) fields classes main
is_coded raw names at fields classes main rs fs ns cs code is = record {
  names = naming_of names (λ _. None);
  class = at_name at.named;
  are_records = rs;
  are_functions = fs;
  are_numbers = ns;
  are_classes = λ x. cs x ∙ ap (λ l. first_from 0 l x) (names_of raw.classes.items);
  are_coded = code;
  is_main = is ∙ cs (codes "main") ∙ ap (λ l. first_from 0 l (codes "main")) (names_of raw.classes.items);
}
