use Rattle.std.proofs.Common.{◌≡◌, ◌++◌, map, drop}
use Rattle.flow_debug.specs.ViewText.{branch_lines}
use Rattle.flow_debug.specs.Views.{cell_number}
use Rattle.flow_debug.proofs.print.put_branches.Given as goal

abbrev pub invariant-loop-branch : goal.invariant-loop-branch
invariant-loop-branch l =
    l.out.items ++ branch_lines l.view.process.0 l.view.actor.0 l.branch (map cell_number (drop l.branch l.view.cells.items))
    ≡ l.initial.out.items ++ branch_lines l.view.process.0 l.view.actor.0 0 (map cell_number l.view.cells.items)
