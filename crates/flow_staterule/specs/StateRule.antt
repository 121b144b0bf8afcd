-- The rule on state: no use of a local is stale. It is broken at the first stale use in the order of the text, and told with
-- its declaration and with the first wait in the order of the text that makes it stale.
use Rattle.std.specs.Prelude.{ℕ, ◌+◌, Bool, false, List, [], ◌∷◌, map, reverse, length, slice_get, if◌then◌else◌}
use Rattle.std.specs.declared.option.Option.{Option}
use Rattle.std.specs.declared.option.Option.TheVariants.{None, Some}
use Rattle.flow_base.specs.declared.place.Place.{Place}
use Rattle.flow_tree.specs.Body.{Body, ChooseStmt, WaitStmt, Branches}
use Rattle.flow_tree.specs.Folds.{Fold, folded, folded_branches, listing, no_items}
use Rattle.flow_tree.specs.Decls.{ParamTree, DeclTree, StructDecl, FunctionDecl, ActorDecl}
use Rattle.flow_staterule.specs.declared.rule.Lost.{Lost}
use Rattle.flow_staterule.specs.declared.scope.Use.{Use}
use Rattle.flow_staterule.specs.Uses.{uses, parameter, begins}

-- the places of the waits of a body, in the order of the text; a choose is one
abbrev pub stmt_places : Body → List Place
stmt_places (ChooseStmt at bs k) = at ∷ []
stmt_places (WaitStmt at w k) = at ∷ []
stmt_places b = []

abbrev pub places_listed : Fold (List Place)
places_listed = listing stmt_places no_items no_items

abbrev pub wait_places : Body → List Place
wait_places b = folded places_listed b

abbrev pub branch_places : Branches → List Place
branch_places bs = folded_branches places_listed bs

-- the places of the waits in the body of an `else`
abbrev pub else_places : Option Body → List Place
else_places None = []
else_places (Some b) = wait_places b

-- the uses in a body with these parameters, of whose waits the first n are looked for
abbrev pub routine_uses : List ParamTree → Body → ℕ → List Use
routine_uses ps b n = uses n (reverse (map parameter ps)) begins None b

-- the number of the first stale use, where the first one has number n
abbrev pub first_stale : ℕ → List Use → Option ℕ
first_stale n [] = None
first_stale n (u ∷ us) = if u.stale then Some n else first_stale (n + 1) us

abbrev pub is_stale_use : Option Use → Bool
is_stale_use None = false
is_stale_use (Some u) = u.stale

-- whether the use of a number is stale where the first n waits are looked for
abbrev pub is_lost_with : List ParamTree → Body → (number n : ℕ) → Bool
is_lost_with ps b u n = is_stale_use (slice_get (routine_uses ps b n) u)

-- the first wait with which, and with those before it, this holds; so many waits stand before these
abbrev pub first_with : (ℕ → Bool) → ℕ → List Place → Option Place
first_with holds n [] = None
first_with holds n (w ∷ ws) = if holds (n + 1) then Some w else first_with holds (n + 1) ws

abbrev pub lost_at : Option Use → Option Place → Option Lost
lost_at None w = None
lost_at (Some u) None = None
lost_at (Some u) (Some w) = Some (record { at = u.at; declared = u.declared; wait = w })

-- what is told of the first stale use
abbrev pub told_of : List ParamTree → Body → List Use → Option ℕ → Option Lost
told_of ps b us None = None
told_of ps b us (Some u) = lost_at (slice_get us u) (first_with (is_lost_with ps b u) 0 (wait_places b))

-- the first use in a function or actor that breaks the rule
abbrev pub lost_in : List ParamTree → Body → Option Lost
lost_in ps b = let us = routine_uses ps b (length (wait_places b)) in told_of ps b us (first_stale 0 us)

abbrev pub lost_in_decl : DeclTree → Option Lost
lost_in_decl (StructDecl r) = None
lost_in_decl (FunctionDecl f) = lost_in f.params f.body
lost_in_decl (ActorDecl f) = lost_in f.params f.body

abbrev pub first_of : Option Lost → Option Lost → Option Lost
first_of (Some l) o = Some l
first_of None o = o

-- the first one in declarations
abbrev pub first_lost : List DeclTree → Option Lost
first_lost [] = None
first_lost (d ∷ ds) = first_of (lost_in_decl d) (first_lost ds)
