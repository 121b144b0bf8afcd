use Rattle.std.proofs.Common.{◌≡◌, map, take}
use Rattle.flow_class.specs.View as text
use Rattle.flow_code.specs.Coding.{coded_branch}
use Rattle.flow_code.specs.Coder.{coding_of}
use Rattle.flow_code.specs.View.{branch_of}
use Rattle.flow_code.proofs.coding.Coder.branches.Given as goal

abbrev pub invariant-loop-callback : goal.invariant-loop-callback
invariant-loop-callback l =
    map branch_of l.branches.items ≡ map (coded_branch (coding_of l.self)) (map text.callback_of (take l.callback-index l.group.callbacks.items))
