use Rattle.std.proofs.Common.{◌≡◌, [], ◌∷◌, map, drop, codes}
use Rattle.flow_tree.specs.DeclView.{decl_of}
use Rattle.flow_rules.specs.Rules.{packet_size, first_large}
use Rattle.flow_types.specs.SizeView.{sizes_of}
use Rattle.flow_types.proofs.size.sizes.Given as goal

abbrev pub invariant-loop-decl : goal.invariant-loop-decl
invariant-loop-decl l = first_large (sizes_of l.sizes) (map decl_of (drop l.decl-index l.decls)) ≡ first_large ((codes "Packet", packet_size) ∷ []) (map decl_of l.decls)
