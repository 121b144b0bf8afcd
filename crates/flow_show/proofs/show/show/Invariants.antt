use Rattle.std.proofs.Common.{◌≡◌, map, take}
use Rattle.flow_tree.specs.DeclView.{decl_of}
use Rattle.flow_tree.specs.Canon.{decls_text}
use Rattle.flow_show.proofs.show.show.Given as goal

abbrev pub invariant-loop-decl : goal.invariant-loop-decl
invariant-loop-decl l = l.source ≡ decls_text (map decl_of (take l.decl-index l.program.decls.items))
