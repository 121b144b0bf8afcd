-- The scope and the setting of a program's declarations.
use Rattle.std.specs.Prelude.{◌≡◌, Bool, true, List, map}
use Rattle.flow_tree.specs.Tree.{ExprTree, CallExpr}
use Rattle.flow_tree.specs.Decls.{ParamTree, DeclTree}
use Rattle.flow_ast.specs.Typing.{ScopeTree, without_effects, all_without_effects}
use Rattle.flow_ast.specs.Fits.{scope_over}
use Rattle.flow_rules.specs.Known.{field_row}
use Rattle.flow_rules.specs.Judged.{Setting}
use Rattle.flow_rules.specs.Rules.{setting_of}
use Rattle.flow_meaning.specs.Source.{records_in, functions_in, actors_in}

-- the scope of a program's declarations with these variables, and its setting in a function or an actor
abbrev pub scope_in : List DeclTree → List ParamTree → ScopeTree
scope_in ds vars = scope_over (records_in ds) (functions_in ds) (actors_in ds) vars

abbrev pub setting_in : List DeclTree → Bool → List ParamTree → Setting
setting_in ds plain vars = record (setting_of ds plain) { vars = map field_row vars }

-- no effects stand inside an expression, which may be one itself
abbrev pub QuietInside : ScopeTree → ExprTree → Type 0
QuietInside c (CallExpr f xs) = all_without_effects c xs ≡ true
QuietInside c e = without_effects c e ≡ true
