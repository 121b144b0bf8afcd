use Rattle.std.proofs.Common.{map, ap, ap₂, ◌++◌, ◌∷◌, [], ◌∙◌}
use Rattle.flow_ast.specs.TypingNames.{named}
use Rattle.flow_types.specs.View.{meaning_of}
use Rattle.flow_types.specs.MapView.{bound, rows_of}
use Rattle.flow_types.proofs.Inserts.{row_inserted}
use Rattle.flow_types.proofs.program.declare.Goals as goal

pub returns : goal.returns
returns c =
    let rows = rows_of c.args.before.now in
    ap (map (bound meaning_of)) c.in_ok-insert.ensures.entries
    ∙ row_inserted meaning_of c.name_of.result c.meaning_of.result c.args.before.now.entries (ap (named rows) c.name_of.ensures ∙ c.requires)
    ∙ ap₂ (λ x m. rows ++ (x, m) ∷ []) c.name_of.ensures c.meaning_of.ensures
