-- The weights of a program's actors, against their limit.
use Rattle.std.specs.Prelude.{ℕ, ◌-◌, ◌^◌, min, nat_lt, List, [], ◌∷◌, if◌then◌else◌}
use Rattle.std.specs.declared.option.Option.{Option}
use Rattle.std.specs.declared.option.Option.TheVariants.{None, Some}
use Rattle.flow_base.specs.declared.place.Place.{Place}
use Rattle.flow_tree.specs.declared.limits.TheConstants.{WEIGHT}
use Rattle.flow_tree.specs.Body.{Body}
use Rattle.flow_tree.specs.Decls.{DeclTree, StructDecl, FunctionDecl, ActorDecl}
use Rattle.flow_split.specs.Weight.{weight, body_weight}

-- a number of 64 bits, which stands still at the greatest one
abbrev pub capped : ℕ → ℕ
capped n = min n (2 ^ 64 - 1)

abbrev pub else_weight : Option Body → ℕ
else_weight None = 0
else_weight (Some b) = body_weight b

-- the place of the first actor of these declarations whose weight is above 60,000
abbrev pub first_heavy : List DeclTree → Option Place
first_heavy [] = None
first_heavy (StructDecl r ∷ ds) = first_heavy ds
first_heavy (FunctionDecl f ∷ ds) = first_heavy ds
first_heavy (ActorDecl a ∷ ds) = if nat_lt WEIGHT (weight a) then Some a.at else first_heavy ds
