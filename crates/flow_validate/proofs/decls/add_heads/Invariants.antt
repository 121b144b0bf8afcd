use Rattle.std.proofs.Common.{◌≡◌, ◌++◌, map, take}
use Rattle.flow_tree.specs.DeclView.{decl_of}
use Rattle.flow_class.specs.View.{class_of}
use Rattle.flow_valid.specs.Heads.{head_of}
use Rattle.flow_validate.proofs.decls.add_heads.Given as goal

abbrev pub invariant-loop-class : goal.invariant-loop-class
invariant-loop-class l = map decl_of l.decls.items ≡ map decl_of l.fn.decls.items ++ map head_of (map class_of (take l.class-index l.classes))
