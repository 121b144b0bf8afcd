use Rattle.std.proofs.Common.{◌-◌, ◌≤◌, length, map, ◌++◌}
use Rattle.flow_tree.specs.declared.limits.TheConstants.{OF_CLASS_TEXT}
use Rattle.flow_parse.specs.Follow.{AtEnd}
use Rattle.flow_parse.proofs.Leaves.{Leaves}
use Rattle.flow_classprint.specs.ClassGrammar.{ClassesRule}
use Rattle.flow_classread.specs.Parts.{NotFirst}
use Rattle.flow_class.specs.View.{class_of}
use Rattle.flow_classread.proofs.TextReads.{All}
use Rattle.flow_classread.proofs.text.classes.Given as goal

abbrev pub invariant-items : goal.invariant-items
invariant-items l =
    (l.fn.at ≤ l.at) × (l.at ≤ length l.tokens.spots.items) × Leaves OF_CLASS_TEXT (ClassesRule l.fn.version) AtEnd (ClassesRule l.fn.version) (NotFirst All) (λ ys. map class_of l.classes.items ++ ys) l.tokens.spots.items l.fn.at
    l.at

abbrev pub decreases-items : goal.decreases-items
decreases-items l = length l.tokens.spots.items - l.at
