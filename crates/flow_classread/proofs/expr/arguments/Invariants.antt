use Rattle.std.proofs.Common.{◌-◌, ◌≤◌, ◌<◌, length}
use Rattle.flow_tree.specs.declared.limits.TheConstants.{OF_CLASS_TEXT}
use Rattle.flow_parse.specs.Reading.{Any}
use Rattle.flow_parse.proofs.Leaves.{Leaves}
use Rattle.flow_classread.specs.Parts.{Args, MoreArgs}
use Rattle.flow_classread.proofs.ExprForms.{args_before}
use Rattle.flow_classread.proofs.expr.arguments.Given as goal

abbrev pub invariant-items : goal.invariant-items
invariant-items l = (l.fn.at < l.at) × (l.at ≤ length l.tokens.spots.items) × Leaves OF_CLASS_TEXT Args Any MoreArgs Any (args_before l.args.items) l.tokens.spots.items l.fn.at l.at

abbrev pub decreases-items : goal.decreases-items
decreases-items l = length l.tokens.spots.items - l.at
