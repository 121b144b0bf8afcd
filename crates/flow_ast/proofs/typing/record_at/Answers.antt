use Rattle.std.proofs.Common.{ap, ◌∙◌}
use Rattle.std.specs.Option.{option_map}
use Rattle.std.specs.Str.{bytes_eq}
use Rattle.flow_tree.specs.DeclView.{record_of}
use Rattle.flow_tree.specs.Decls.{RecordTree}
use Rattle.flow_ast.proofs.TypingScope.{map-find}
use Rattle.flow_ast.proofs.typing.record_at.Goals as goal

pub returns : goal.returns
returns c =
    ap (option_map record_of) c.find_named.ensures
    ∙ map-find record_of (λ (x : RecordTree). bytes_eq x.name.name c.args.name.now) c.args.records.now
