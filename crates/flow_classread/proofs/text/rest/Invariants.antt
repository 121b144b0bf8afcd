use Rattle.std.proofs.Common.{◌-◌, ◌≤◌, length}
use Rattle.flow_tree.specs.declared.limits.TheConstants.{OF_CLASS_TEXT}
use Rattle.flow_parse.specs.Follow.{AtEnd}
use Rattle.flow_parse.proofs.Leaves.{Leaves}
use Rattle.flow_classread.specs.Parts.{Rest}
use Rattle.flow_classread.proofs.TextForms.{Things}
use Rattle.flow_classread.proofs.TextReads.{rest_before}
use Rattle.flow_classread.proofs.text.rest.Given as goal

abbrev pub invariant-items : goal.invariant-items
invariant-items l =
    (l.fn.at ≤ l.at) × (l.at ≤ length l.tokens.spots.items) × Leaves OF_CLASS_TEXT (Rest l.fn.version) AtEnd (Things l.fn.version) AtEnd (rest_before l.records.items l.functions.items) l.tokens.spots.items l.fn.at l.at

abbrev pub decreases-items : goal.decreases-items
decreases-items l = length l.tokens.spots.items - l.at
