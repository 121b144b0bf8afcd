use Rattle.flow_class.specs.View.{group_of}
use Rattle.flow_classprint.proofs.Steps.{GroupsAhead}
use Rattle.flow_classprint.proofs.class.put_groups.Given as goal

abbrev pub invariant-loop-group : goal.invariant-loop-group
invariant-loop-group l = GroupsAhead group_of l.groups l.number l.first l.group-index l.initial.out l.out
