use Rattle.std.proofs.Common.{◌≡◌, ◌++◌, drop}
use Rattle.flow_tree.specs.StmtView.{branches_of}
use Rattle.flow_explain.specs.Texts.{when_places}
use Rattle.flow_explain.proofs.texts.WaitText.among.Given as goal

abbrev pub invariant-loop-when : goal.invariant-loop-when
invariant-loop-when l = l.branches.items ++ when_places (branches_of (drop l.when-index l.whens)) ≡ when_places (branches_of l.whens)
