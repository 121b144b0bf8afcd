use Rattle.flow_tree.specs.View.{type_of}
use Rattle.flow_classprint.specs.ClassText.{all_text, local_line}
use Rattle.flow_classprint.proofs.Steps.{Ahead}
use Rattle.flow_classprint.proofs.class.put_local_lines.Given as goal

abbrev pub invariant-loop-ty : goal.invariant-loop-ty
invariant-loop-ty l = Ahead local_line type_of l.locals 0 l.number l.ty-index l.initial.out l.out
