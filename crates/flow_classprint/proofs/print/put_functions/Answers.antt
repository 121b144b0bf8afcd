use Rattle.flow_tree.specs.DeclView.{function_of}
use Rattle.flow_classprint.specs.ClassText.{function_text}
use Rattle.flow_classprint.proofs.Steps.{all_step, all_whole}
use Rattle.flow_classprint.proofs.print.put_functions.Goals as goal

pub loop-function-preserved : goal.loop-function-preserved
loop-function-preserved c =
    all_step function_text function_of c.args.functions.now c.loop-function.function-index c.function-item.result _ _ _ _ c.loop-function-test.true c.function-item.is c.loop-function.invariant
    c.in_ok-put_function.ensures

pub returns : goal.returns
returns c = all_whole function_text function_of c.args.functions.now c.loop-function.function-index _ _ c.loop-function-test.false c.loop-function.invariant
