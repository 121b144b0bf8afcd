-- What the text of a program says of its actors: their names, and the places at which they wait and go on.
use Rattle.std.specs.Prelude.{ℕ, List, [], ◌∷◌}
use Rattle.std.specs.declared.option.Option.{Option}
use Rattle.std.specs.declared.option.Option.TheVariants.{None, Some}
use Rattle.flow_base.specs.declared.place.Place.{Place}
use Rattle.flow_tree.specs.Body.{Body, ChooseStmt, WaitStmt, Branches, NoBranches, MoreBranches}
use Rattle.flow_tree.specs.Decls.{DeclTree, StructDecl, FunctionDecl, ActorDecl}
use Rattle.flow_tree.specs.Folds.{Fold, folded, folded_branches, listing, no_items}

-- a wait: where it stands, and where its branches go on, which is the same place where it is no `choose`
pub record WaitText : Type 0 where
  pub at : Place
  pub branches : List Place

-- an actor: its name, and its waits in the order of the text
pub record ActorText : Type 0 where
  pub name : List ℕ
  pub waits : List WaitText

-- the places of the branches of a `choose`, each that of its `when`
abbrev pub when_places : Branches → List Place
when_places NoBranches = []
when_places (MoreBranches at w b bs) = at ∷ when_places bs

abbrev pub stmt_waits : Body → List WaitText
stmt_waits (ChooseStmt at bs k) = record { at = at; branches = when_places bs } ∷ []
stmt_waits (WaitStmt at w k) = record { at = at; branches = at ∷ [] } ∷ []
stmt_waits b = []

abbrev pub waits_listed : Fold (List WaitText)
waits_listed = listing stmt_waits no_items no_items

-- the waits of a body, in the order of the text
abbrev pub waits_in : Body → List WaitText
waits_in b = folded waits_listed b

abbrev pub branch_waits : Branches → List WaitText
branch_waits bs = folded_branches waits_listed bs

-- the waits in the body of an `else`
abbrev pub else_waits : Option Body → List WaitText
else_waits None = []
else_waits (Some b) = waits_in b

-- the actors of a program, in the order of the text
abbrev pub actor_texts : List DeclTree → List ActorText
actor_texts [] = []
actor_texts (ActorDecl a ∷ ds) = record { name = a.name.name; waits = waits_in a.body } ∷ actor_texts ds
actor_texts (StructDecl r ∷ ds) = actor_texts ds
actor_texts (FunctionDecl f ∷ ds) = actor_texts ds
