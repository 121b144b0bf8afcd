use Rattle.std.proofs.Common.{◌-◌, ◌≤◌, length, map, ◌++◌}
use Rattle.flow_tree.specs.declared.limits.TheConstants.{OF_CLASS_TEXT}
use Rattle.flow_parse.proofs.Leaves.{Leaves}
use Rattle.flow_classprint.specs.ClassGrammar.{InstrsRule}
use Rattle.flow_classread.specs.Parts.{NotFirst, InstrToken}
use Rattle.flow_class.specs.View.{instr_of}
use Rattle.flow_classread.proofs.block.instrs.Given as goal

abbrev pub invariant-items : goal.invariant-items
invariant-items l =
    (l.fn.at ≤ l.at) × (l.at ≤ length l.tokens.spots.items) × Leaves OF_CLASS_TEXT InstrsRule (NotFirst InstrToken) InstrsRule (NotFirst InstrToken) (λ ys. map instr_of l.instrs.items ++ ys)
    l.tokens.spots.items l.fn.at l.at

abbrev pub decreases-items : goal.decreases-items
decreases-items l = length l.tokens.spots.items - l.at
