use Rattle.std.proofs.Common.{◌≡◌, map, take}
use Rattle.flow_tree.specs.DeclView.{decl_of, program_of}
use Rattle.flow_meaning.specs.Source.{names_of, actors_in}
use Rattle.flow_class.specs.View.{class_of}
use Rattle.flow_lower.specs.Compiled.{class_in}
use Rattle.flow_lower.proofs.compiling.classes_of.Given as goal

abbrev pub invariant-loop-decl : goal.invariant-loop-decl
invariant-loop-decl l = map class_of l.classes.items ≡ map (class_in (names_of (program_of l.program))) (actors_in (map decl_of (take l.decl-index l.decls)))
