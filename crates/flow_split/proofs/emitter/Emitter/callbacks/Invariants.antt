use Rattle.std.proofs.Common.{◌≡◌, ◌++◌, drop}
use Rattle.flow_tree.specs.StmtView.{branches_of}
use Rattle.flow_split.specs.Contexts.{names_in, slots_in}
use Rattle.flow_split.specs.Emitting.{callbacks_of}
use Rattle.flow_split.specs.Lowered.{callbacks}
use Rattle.flow_split.proofs.emitter.Emitter.callbacks.Given as goal

abbrev pub invariant-loop-branch : goal.invariant-loop-branch
invariant-loop-branch l =
    callbacks_of l.callbacks.items
    ++ callbacks (names_in l.context) (slots_in l.context) l.self.scopes l.tried (record { block = l.block; local = l.next; group = 0 }) (branches_of (drop l.branch-index l.branches))
    ≡ callbacks (names_in l.context) (slots_in l.context) l.self.scopes l.tried (record { block = l.first; local = l.self.next; group = 0 }) (branches_of l.branches)
