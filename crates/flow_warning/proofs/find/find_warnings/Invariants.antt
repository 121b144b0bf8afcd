use Rattle.std.proofs.Common.{◌≡◌, ◌++◌, map, drop}
use Rattle.flow_tree.specs.DeclView.{decl_of}
use Rattle.flow_warning.specs.Warnings.{program_warnings}
use Rattle.flow_warning.proofs.find.find_warnings.Given as goal

abbrev pub invariant-loop-decl : goal.invariant-loop-decl
invariant-loop-decl l = l.found.items ++ program_warnings (map decl_of (drop l.decl-index l.decls)) ≡ program_warnings (map decl_of l.decls)
