use Rattle.std.proofs.Common.{◌≡◌, ◌++◌, map, take}
use Rattle.flow_class.specs.View.{instr_of}
use Rattle.flow_classprint.specs.ClassText.{all_text, instr_line}
use Rattle.flow_classprint.proofs.block.put_instrs.Given as goal

abbrev pub invariant-loop-instr : goal.invariant-loop-instr
invariant-loop-instr l = l.out ≡ l.initial.out ++ all_text instr_line (map instr_of (take l.instr-index l.body))
