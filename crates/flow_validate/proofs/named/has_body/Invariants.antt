use Rattle.std.proofs.Common.{◌≡◌, drop, map}
use Rattle.std.specs.List.{list_all}
use Rattle.flow_class.specs.View.{class_of, instr_of}
use Rattle.flow_class.specs.Classes.{InstrTree}
use Rattle.flow_valid.specs.Named.{has_place, instr_places}
use Rattle.flow_validate.proofs.named.has_body.Given as goal

abbrev pub invariant-loop-instr : goal.invariant-loop-instr
invariant-loop-instr l =
    list_all (λ (i : InstrTree). list_all (has_place (class_of l.class)) (instr_places i)) (map instr_of (drop l.instr-index l.body))
    ≡ list_all (λ (i : InstrTree). list_all (has_place (class_of l.class)) (instr_places i)) (map instr_of l.body)
