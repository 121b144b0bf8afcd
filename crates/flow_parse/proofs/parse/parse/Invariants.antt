use Rattle.std.proofs.Common.{◌-◌, ◌≤◌, length}
use Rattle.flow_tree.specs.declared.limits.TheConstants.{OF_PROGRAMS}
use Rattle.flow_tree.specs.GrammarDecl.{DeclsRule}
use Rattle.flow_parse.specs.Follow.{AtEnd}
use Rattle.flow_parse.proofs.Leaves.{Leaves}
use Rattle.flow_parse.proofs.DeclLoops.{decls_before}
use Rattle.flow_parse.proofs.parse.parse.Given as goal

abbrev pub invariant-items : goal.invariant-items
invariant-items l = (l.at ≤ length l.tokens.spots.items) × (l.number ≤ 4097)
    × Leaves OF_PROGRAMS (DeclsRule 1) AtEnd (DeclsRule l.number) AtEnd (decls_before l.decls.items) l.tokens.spots.items 0 l.at

abbrev pub decreases-items : goal.decreases-items
decreases-items l = length l.tokens.spots.items - l.at
