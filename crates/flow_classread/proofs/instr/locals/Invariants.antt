use Rattle.std.proofs.Common.{◌≡◌, ◌-◌, ◌≤◌, ◌<◌, length, ◌++◌}
use Rattle.flow_tree.specs.declared.limits.TheConstants.{OF_CLASS_TEXT}
use Rattle.flow_parse.proofs.Leaves.{Leaves}
use Rattle.flow_parse.specs.Follow.{NotBefore}
use Rattle.flow_tree.specs.declared.token.Token.TheVariants as token
use Rattle.flow_tree.specs.declared.token.Sign.TheVariants as sign
use Rattle.flow_classprint.specs.ClassGrammar.{LocalsRule}
use Rattle.flow_classread.specs.Parts.{NotFirst}
use Rattle.flow_classread.proofs.BlockForms.{NextLocals}
use Rattle.flow_classread.proofs.instr.locals.Given as goal

abbrev pub invariant-items : goal.invariant-items
invariant-items l =
    (l.fn.at < l.at) × (l.at ≤ length l.tokens.spots.items) × Leaves OF_CLASS_TEXT LocalsRule (NotBefore (token.Sign sign.Comma)) (NextLocals 0) (NotFirst (λ t. t ≡ token.Sign sign.Comma))
    (λ ys. l.locals.items ++ ys) l.tokens.spots.items l.fn.at l.at

abbrev pub decreases-items : goal.decreases-items
decreases-items l = length l.tokens.spots.items - l.at
