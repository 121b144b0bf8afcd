use Rattle.std.proofs.Common.{map, take}
use Rattle.flow_tree.specs.DeclView.{decl_of}
use Rattle.flow_types.specs.WalkView.{texts_of}
use Rattle.flow_validate.specs.Apart.{AreTaken}
use Rattle.flow_validate.proofs.heads.take_names.Given as goal

abbrev pub invariant-loop-decl : goal.invariant-loop-decl
invariant-loop-decl l = AreTaken (texts_of l.taken) (map decl_of (take l.decl-index l.decls))
