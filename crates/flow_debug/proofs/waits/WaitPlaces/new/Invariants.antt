use Rattle.std.proofs.Common.{◌≡◌, ◌++◌, map, drop}
use Rattle.flow_tree.specs.DeclView.{decl_of}
use Rattle.flow_debug.specs.Told.{places_of_waits}
use Rattle.flow_debug.specs.Waits.{waits_seen}
use Rattle.flow_debug.proofs.waits.WaitPlaces.new.Given as goal

abbrev pub invariant-loop-decl : goal.invariant-loop-decl
invariant-loop-decl l =
    waits_seen l.waits ++ places_of_waits (map decl_of (drop l.decl-index l.decls)) ≡ places_of_waits (map decl_of l.decls)
