use Rattle.std.proofs.Common.{◌≡◌, map, take}
use Rattle.flow_tree.specs.View.{exprs_of}
use Rattle.flow_class.specs.Scopes.{over_all}
use Rattle.flow_choose.specs.Places.{slots_seen}
use Rattle.flow_choose.proofs.places.+over.Given as goal

abbrev pub invariant-over_all-loop-expr : goal.invariant-over_all-loop-expr
invariant-over_all-loop-expr l = exprs_of l.all.items ≡ over_all (slots_seen l.slots) l.scopes (exprs_of (take l.expr-index l.exprs))
