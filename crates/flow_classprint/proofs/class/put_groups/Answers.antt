use Rattle.std.proofs.lemmas.List.{drop_all}
use Rattle.flow_class.specs.View.{group_of}
use Rattle.flow_classprint.proofs.Steps.{groups_whole, next_groups}
use Rattle.flow_classprint.proofs.class.put_groups.Goals as goal

pub loop-group-preserved : goal.loop-group-preserved
loop-group-preserved c =
    next_groups group_of c.args.groups.now c.loop-group.number c.in_ok-number.number c.loop-group.first c.in_ok-first.first c.loop-group.group-index c.branches.result c.group-item.result _ _ _ _
    c.in_ok-number.ensures c.in_ok-first.ensures c.loop-group-test.true c.group-item.is c.branches.ensures c.loop-group.invariant c.in_ok-put_group.ensures

pub returns : goal.returns
returns c =
    groups_whole group_of c.args.groups.now c.loop-group.number c.loop-group.first c.loop-group.group-index _ _
    (drop_all c.loop-group.group-index c.args.groups.now c.loop-group-test.false) c.loop-group.invariant
