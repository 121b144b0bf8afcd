use Rattle.flow_class.specs.View.{callback_of}
use Rattle.flow_classprint.specs.ClassText.{all_text, callback_text}
use Rattle.flow_classprint.proofs.Steps.{Ahead}
use Rattle.flow_classprint.proofs.block.put_callbacks.Given as goal

abbrev pub invariant-loop-callback : goal.invariant-loop-callback
invariant-loop-callback l = Ahead callback_text callback_of l.callbacks l.fn.first l.number l.callback-index l.initial.out l.out
