use Rattle.std.proofs.Common.{◌≡◌, ◌-◌, ◌≤◌, List, [], ◌∷◌, ◌++◌, length}
use Rattle.flow_tree.specs.declared.token.Token.TheVariants as token
use Rattle.flow_tree.specs.declared.token.Sign.TheVariants as sign
use Rattle.flow_tree.specs.declared.ty.Ident.{Ident}
use Rattle.flow_tree.specs.declared.limits.Limits.{Limits}
use Rattle.flow_parse.specs.Follow.{NotBefore}
use Rattle.flow_parse.specs.Parts.{MoreNames}
use Rattle.flow_parse.proofs.Leaves.{Leaves}
use Rattle.flow_parse.proofs.simple.more_names.Given as goal

abbrev pub invariant-names : goal.invariant-names
invariant-names l = (l.fn.at ≤ l.at) × (l.at ≤ length l.tokens.spots.items)
    × (before : List Ident) × (last : Ident) × (l.path.items ≡ before ++ last ∷ [])
    × ((limits : Limits) → Leaves limits (MoreNames l.fn.first) (NotBefore (token.Sign sign.Dot)) (MoreNames last) (NotBefore (token.Sign sign.Dot))
    (λ ys. before ++ ys) l.tokens.spots.items l.fn.at l.at)

abbrev pub decreases-names : goal.decreases-names
decreases-names l = length l.tokens.spots.items - l.at
