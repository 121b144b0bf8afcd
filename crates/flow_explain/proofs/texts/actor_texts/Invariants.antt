use Rattle.std.proofs.Common.{◌≡◌, ◌++◌, map, drop}
use Rattle.flow_tree.specs.DeclView.{decl_of}
use Rattle.flow_explain.specs.Texts.{actor_texts}
use Rattle.flow_explain.proofs.texts.actor_texts.Given as goal

abbrev pub invariant-loop-decl : goal.invariant-loop-decl
invariant-loop-decl l = l.texts.items ++ actor_texts (map decl_of (drop l.decl-index l.decls)) ≡ actor_texts (map decl_of l.decls)
