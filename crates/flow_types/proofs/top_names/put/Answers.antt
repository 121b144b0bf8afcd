use Rattle.std.proofs.Common.{map, sym, ap, ◌∙◌}
use Rattle.flow_tree.specs.DeclView.{decl_of}
use Rattle.flow_ast.specs.TypingNames.{named}
use Rattle.flow_ast.specs.Typing.{is_there}
use Rattle.flow_rules.specs.Known.{row_of}
use Rattle.flow_types.specs.View.{meaning_of}
use Rattle.flow_types.specs.MapView.{rows_of}
use Rattle.flow_types.proofs.Holders.{put_known, put_new}
use Rattle.flow_types.proofs.top_names.put.Goals as goal

pub returns-then-is_known-clause-known : goal.returns-then-is_known-clause-known
returns-then-is_known-clause-known c = λ ds.
    let rows = rows_of c.args.meanings.now in
    put_known rows (map row_of ds) (row_of (decl_of c.args.decl.now))
    (ap (λ x. is_there (named rows x)) (sym c.name_of-name.ensures) ∙ sym c.is_known.ensures ∙ c.if-is_known.true)

pub returns-clause-known : goal.returns-clause-known
returns-clause-known c = λ ds.
    put_new meaning_of c.name_of-name.result c.meaning_of.result c.args.meanings.now.entries c.insert.new.self.entries (row_of (decl_of c.args.decl.now)) (map row_of ds)
    c.in_ok-insert.ensures.entries (sym c.is_known.ensures ∙ c.if-is_known.false) c.name_of-name.ensures c.meaning_of.ensures
