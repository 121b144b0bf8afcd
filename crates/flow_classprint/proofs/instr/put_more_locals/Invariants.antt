use Rattle.std.proofs.Common.{◌≡◌, ◌++◌, take}
use Rattle.flow_classprint.specs.ClassText.{all_text, further_local}
use Rattle.flow_classprint.proofs.instr.put_more_locals.Given as goal

abbrev pub invariant-loop-local : goal.invariant-loop-local
invariant-loop-local l = l.out ≡ l.initial.out ++ all_text further_local (take l.local-index l.locals)
