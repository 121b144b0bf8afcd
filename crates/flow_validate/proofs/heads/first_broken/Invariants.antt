use Rattle.std.proofs.Common.{◌≡◌, ◌++◌, map, take, drop}
use Rattle.flow_tree.specs.DeclView.{decl_of}
use Rattle.flow_types.specs.MapView.{known_by}
use Rattle.flow_types.specs.WalkView.{texts_of}
use Rattle.flow_class.specs.View.{class_of}
use Rattle.flow_valid.specs.Heads.{head_of, first_head}
use Rattle.flow_validate.specs.Apart.{AreTaken}
use Rattle.flow_validate.proofs.heads.first_broken.Given as goal

abbrev pub invariant-loop-place : goal.invariant-loop-place
invariant-loop-place l = record {
  taken : AreTaken (texts_of l.taken) (map decl_of l.decls ++ map head_of (map class_of (take l.place l.classes)));
  first :
      first_head (known_by l.names) (map decl_of l.decls ++ map head_of (map class_of (take l.place l.classes))) l.place (map class_of (drop l.place l.classes))
      ≡ first_head (known_by l.names) (map decl_of l.decls) 0 (map class_of l.classes);
}
