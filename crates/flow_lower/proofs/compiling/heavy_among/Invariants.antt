use Rattle.std.proofs.Common.{◌≡◌, drop, map}
use Rattle.flow_tree.specs.DeclView.{decl_of}
use Rattle.flow_lower.specs.Weighing.{first_heavy}
use Rattle.flow_lower.proofs.compiling.heavy_among.Given as goal

abbrev pub invariant-loop-decl : goal.invariant-loop-decl
invariant-loop-decl l = first_heavy (map decl_of (drop l.decl-index l.decls)) ≡ first_heavy (map decl_of l.decls)
