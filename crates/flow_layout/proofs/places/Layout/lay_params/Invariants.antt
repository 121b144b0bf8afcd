use Rattle.std.proofs.Common.{◌≡◌, [], map, take}
use Rattle.flow_tree.specs.DeclView.{param_of}
use Rattle.flow_ast.specs.Slots.{param_slot}
use Rattle.flow_layout.specs.Laying.{laid, with_more}
use Rattle.flow_layout.proofs.places.Layout.lay_params.Given as goal

abbrev pub invariant-loop-param : goal.invariant-loop-param
invariant-loop-param l = laid l.self ≡ with_more (laid l.initial.self) (map param_slot (map param_of (take l.param-index l.params))) []
