use Rattle.std.proofs.Common.{map, ap, ap₂, sym, ◌++◌, ◌∷◌, [], ◌∙◌}
use Rattle.flow_tree.specs.DeclView.{record_of}
use Rattle.flow_ast.specs.TypingNames.{named}
use Rattle.flow_ast.specs.Typing.{is_there}
use Rattle.flow_types.specs.SizeView.{size_of, sizes_of}
use Rattle.flow_types.specs.MapView.{bound}
use Rattle.flow_types.proofs.Walking.{none_there}
use Rattle.flow_types.proofs.Inserts.{row_inserted}
use Rattle.flow_types.proofs.Sizes.{size_put}
use Rattle.flow_types.proofs.size.add_size.Goals as goal

pub returns : goal.returns
returns c =
    let ns = sizes_of c.args.sizes.now in
    let free = sym c.has_size.ensures ∙ c.if-has_size.false in (
      c.in-Some.ensures.1,
      size_put ns (sizes_of c.insert.new.self) (record_of c.args.declared.now)
          (ap (λ x. is_there (named ns x)) (sym c.bytes-name.ensures.bytes) ∙ free)
          (ap (map (bound size_of)) c.in_ok-insert.ensures.entries
          ∙ row_inserted size_of c.bytes-name.result c.in-Some.size c.args.sizes.now.entries (none_there (named ns c.bytes-name.result.now) free)
          ∙ ap₂ (λ x z. ns ++ (x, z) ∷ []) c.bytes-name.ensures.bytes c.in-Some.ensures.0),
    )
