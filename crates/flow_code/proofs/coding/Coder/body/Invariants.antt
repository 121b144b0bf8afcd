use Rattle.std.proofs.Common.{◌≡◌, map, take}
use Rattle.flow_class.specs.View as text
use Rattle.flow_code.specs.Coding.{coded_instruction}
use Rattle.flow_code.specs.Coder.{coding_of}
use Rattle.flow_code.specs.View.{instruction_of}
use Rattle.flow_code.proofs.coding.Coder.body.Given as goal

abbrev pub invariant-loop-instr : goal.invariant-loop-instr
invariant-loop-instr l =
    map instruction_of l.coded.items ≡ map (coded_instruction (coding_of l.self) (text.class_of l.class)) (map text.instr_of (take l.instr-index l.body))
