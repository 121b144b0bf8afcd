use Rattle.std.proofs.Common.{◌≡◌, [], ◌∷◌, map, take, drop}
use Rattle.flow_tree.specs.DeclView.{decl_of}
use Rattle.flow_rules.specs.Known.{row_of, packet_row}
use Rattle.flow_rules.specs.Rules.{decls_refusal}
use Rattle.flow_types.specs.MapView.{rows_of}
use Rattle.flow_types.specs.ProgramView.{setting_by}
use Rattle.flow_types.proofs.program.declarations.Given as goal

abbrev pub invariant-loop-decl : goal.invariant-loop-decl
invariant-loop-decl l =
    (rows_of l.before ≡ packet_row ∷ map row_of (map decl_of (take l.decl-index l.decls)))
    × (decls_refusal (setting_by l.names) (map decl_of (take l.decl-index l.decls)) (map decl_of (drop l.decl-index l.decls))
    ≡ decls_refusal (setting_by l.names) [] (map decl_of l.decls))
