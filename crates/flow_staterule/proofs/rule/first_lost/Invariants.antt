use Rattle.std.proofs.Common.{◌≡◌, drop, map}
use Rattle.flow_tree.specs.DeclView.{decl_of}
use Rattle.flow_staterule.specs.StateRule.{first_lost}
use Rattle.flow_staterule.proofs.rule.first_lost.Given as goal

abbrev pub invariant-loop-decl : goal.invariant-loop-decl
invariant-loop-decl l = first_lost (map decl_of (drop l.decl-index l.decls)) ≡ first_lost (map decl_of l.decls)
