use Rattle.std.proofs.Common.{◌≡◌, ◌≤◌, ◌+◌, ◌++◌, length, map, drop}
use Rattle.flow_tree.specs.DeclView.{decl_of}
use Rattle.flow_ast.specs.TypingNames.{named}
use Rattle.flow_rules.specs.Known.{row_of, known}
use Rattle.flow_types.specs.MapView.{rows_of}
use Rattle.flow_types.proofs.top_names.first_meanings.Given as goal

abbrev pub invariant-loop-decl : goal.invariant-loop-decl
invariant-loop-decl l =
    (named (rows_of l.meanings ++ map row_of (map decl_of (drop l.decl-index l.decls))) ≡ known (map decl_of l.decls)) × (length l.meanings.entries ≤ l.decl-index + 1)
