use Rattle.std.proofs.Common.{◌-◌, ◌+◌, ◌≤◌, length, map, ◌++◌}
use Rattle.flow_tree.specs.declared.limits.TheConstants.{OF_CLASS_TEXT}
use Rattle.std.specs.Prelude.{codes}
use Rattle.flow_tree.specs.declared.token.Token.TheVariants as token
use Rattle.flow_parse.specs.Follow.{NotBefore}
use Rattle.flow_parse.proofs.Leaves.{Leaves}
use Rattle.flow_classprint.specs.ClassGrammar.{GroupsRule}
use Rattle.flow_class.specs.View.{group_of}
use Rattle.flow_classread.proofs.group.groups.Given as goal

abbrev pub invariant-items : goal.invariant-items
invariant-items l =
    (l.fn.at ≤ l.at) × (l.at ≤ length l.tokens.spots.items) × (l.number ≤ l.at + 1) × (l.before ≤ l.at) × Leaves OF_CLASS_TEXT (GroupsRule 1 0) (NotBefore (token.Name (codes "group")))
    (GroupsRule l.number l.before) (NotBefore (token.Name (codes "group"))) (λ ys. map group_of l.groups.items ++ ys) l.tokens.spots.items l.fn.at l.at

abbrev pub decreases-items : goal.decreases-items
decreases-items l = length l.tokens.spots.items - l.at
