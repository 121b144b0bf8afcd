-- Laws of the grammar.
use Rattle.std.specs.Prelude.{◌≡◌, ℕ, List}
use Rattle.flow_tree.specs.declared.token.Spot.{Spot}
use Rattle.flow_tree.specs.Tree.{TypeTree, ExprTree}
use Rattle.flow_tree.specs.GrammarToken.{Derives}
use Rattle.flow_tree.specs.Grammar.{ExprRule, TypeRule}

-- tokens are derived as one expression at most, and as one type at most
abbrev pub OneExpr : Type 0
OneExpr = (depth n m : ℕ) (tokens : List Spot) (t u : ExprTree) → Derives (ExprRule 0 depth) n tokens t
    → Derives (ExprRule 0 depth) m tokens u → t ≡ u

abbrev pub OneType : Type 0
OneType = (depth n m : ℕ) (tokens : List Spot) (t u : TypeTree) → Derives (TypeRule depth) n tokens t → Derives (TypeRule depth) m tokens u
    → t ≡ u
