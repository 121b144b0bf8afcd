use Rattle.flow_tree.specs.DeclView.{function_of}
use Rattle.flow_show.proofs.Texts.{whole_routine}
use Rattle.flow_show.proofs.source.Source.put_function.Goals as goal

pub returns : goal.returns
returns c = whole_routine (function_of c.args.function.now) _ _ _ _ c.in_ok-put_type.ensures c.in_ok-put_routine.ensures
