-- How a body is left, said twice: by what fits in a function, and by the rule on closing braces.
use Rattle.std.specs.Prelude.{◌≡◌, ℕ, Bool, List}
use Rattle.std.specs.declared.option.Option.{Option}
use Rattle.flow_tree.specs.Tree.{TypeTree}
use Rattle.flow_tree.specs.Body.{Body}
use Rattle.flow_tree.specs.Decls.{ParamTree, RecordTree, RoutineTree}
use Rattle.flow_ast.specs.Leaving.{reaches_end, reaches_break}
use Rattle.flow_ast.specs.Fits.{BodyFits}
use Rattle.flow_rules.specs.Closing.{ways}

-- both say the same of its end, and of a `break` of the loop around it
pub record SameEnds (b : Body) : Type 0 where
  pub ends : reaches_end b ≡ (ways b).end
  pub breaks : reaches_break b ≡ (ways b).breaks

-- so they do of each body that fits in a function
abbrev pub EndsAlike : Type 0
EndsAlike =
    (rs : List RecordTree) (fs actors : List RoutineTree) (r : TypeTree) (b : Body)
    (loop : Bool) (c : Option (List ℕ)) (vars : List ParamTree) → BodyFits rs fs actors r loop c vars b → SameEnds b
