use Rattle.std.proofs.Common.{◌≡◌, ◌++◌, take}
use Rattle.flow_tree.specs.DeclView.{params_of}
use Rattle.flow_tree.specs.Canon.{more_params_text}
use Rattle.flow_show.proofs.source.Source.put_more_params.Given as goal

abbrev pub invariant-loop-param : goal.invariant-loop-param
invariant-loop-param l = l.self ≡ l.initial.self ++ more_params_text (params_of (take l.param-index l.params))
