use Rattle.std.proofs.Common.{◌≡◌, ◌++◌, map, take}
use Rattle.flow_tree.specs.DeclView.{function_of}
use Rattle.flow_classprint.specs.ClassText.{all_text, function_text}
use Rattle.flow_classprint.proofs.print.put_functions.Given as goal

abbrev pub invariant-loop-function : goal.invariant-loop-function
invariant-loop-function l = l.out ≡ l.initial.out ++ all_text function_text (map function_of (take l.function-index l.functions))
