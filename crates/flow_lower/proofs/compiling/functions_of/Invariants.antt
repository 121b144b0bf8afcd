use Rattle.std.proofs.Common.{◌≡◌, map, take}
use Rattle.flow_tree.specs.DeclView.{decl_of, function_of}
use Rattle.flow_meaning.specs.Source.{functions_in}
use Rattle.flow_lower.proofs.compiling.functions_of.Given as goal

abbrev pub invariant-loop-decl : goal.invariant-loop-decl
invariant-loop-decl l = map function_of l.functions.items ≡ functions_in (map decl_of (take l.decl-index l.decls))
