use Rattle.std.proofs.Common.{◌-◌, ◌≤◌, ◌<◌, length, map, ◌++◌}
use Rattle.flow_tree.specs.declared.limits.TheConstants.{OF_CLASS_TEXT}
use Rattle.std.specs.Prelude.{codes}
use Rattle.flow_tree.specs.declared.token.Token.TheVariants as token
use Rattle.flow_parse.proofs.Leaves.{Leaves}
use Rattle.flow_parse.specs.Follow.{NotBefore}
use Rattle.flow_classread.specs.Parts.{NotFirst}
use Rattle.flow_classprint.specs.ClassGrammar.{NumberedRule, BlockRule}
use Rattle.flow_classread.proofs.ClassForms.{IsWord}
use Rattle.flow_class.specs.View.{block_of}
use Rattle.flow_classread.specs.Parts.{Blocks}
use Rattle.flow_classread.proofs.class.blocks.Given as goal

abbrev pub invariant-items : goal.invariant-items
invariant-items l =
    (l.fn.at < l.at) × (l.at ≤ length l.tokens.spots.items) × (l.n ≤ l.at) × Leaves OF_CLASS_TEXT (Blocks l.fn.version) (NotBefore (token.Name (codes "block"))) (NumberedRule (BlockRule l.fn.version) l.n)
    (NotFirst (IsWord (codes "block"))) (λ ys. map block_of l.blocks.items ++ ys) l.tokens.spots.items l.fn.at l.at

abbrev pub decreases-items : goal.decreases-items
decreases-items l = length l.tokens.spots.items - l.at
