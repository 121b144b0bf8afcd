use Rattle.std.proofs.Common.{◌≡◌, map, take}
use Rattle.std.specs.declared.option.Option.TheVariants.{None}
use Rattle.flow_class.specs.View.{class_of}
use Rattle.flow_code.specs.Resolved.Named.{at_name, naming_of}
use Rattle.flow_code.specs.Coded.{coded}
use Rattle.flow_code.specs.View.{code_of}
use Rattle.flow_code.proofs.program.coded_classes.Given as goal

abbrev pub invariant-loop-class : goal.invariant-loop-class
invariant-loop-class l =
    map code_of l.coded.items ≡ map (coded (naming_of l.names (λ _. None)) (at_name l.class_names.named)) (map class_of (take l.class-index l.classes))
