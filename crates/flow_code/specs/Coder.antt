-- What the coding of a class in the code stands for.
use Rattle.std.specs.Prelude.{ℕ, List}
use Rattle.flow_class.specs.declared.class.Class.{Class}
use Rattle.flow_code.specs.Resolved.Named.{at_name, naming_of}
use Rattle.flow_code.specs.declared.coding.Coder.{Coder}
use Rattle.flow_code.specs.Places.{place_in}
use Rattle.flow_code.specs.Coding.{Coding}

abbrev pub name_of_class : Class → List ℕ
name_of_class c = c.name

abbrev pub coding_of : Coder → Coding
coding_of c = record { names = naming_of c.names.now (place_in c.slots); class = at_name c.classes.now.named; slots = c.slots }
