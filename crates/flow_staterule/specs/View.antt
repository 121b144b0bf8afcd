-- The variables and uses of the code, seen as plain data.
use Rattle.std.specs.Prelude.{◌≡◌, ℕ, List, [], ◌∷◌, ◌++◌, take, length}
use Rattle.std.specs.declared.option.Option.{Option}
use Rattle.std.specs.declared.option.Option.TheVariants.{None, Some}
use Rattle.flow_tree.specs.declared.ty.Ident.{Ident}
use Rattle.flow_tree.specs.Body.{Body, Branches, End}
use Rattle.flow_staterule.specs.declared.scope.Variable as code
use Rattle.flow_staterule.specs.declared.scope.Variables.{Variables}
use Rattle.flow_staterule.specs.declared.scope.Use.{Use}
use Rattle.flow_staterule.specs.declared.scope.Point.{Point}
use Rattle.flow_staterule.specs.declared.uses.Here.{Here}
use Rattle.flow_staterule.specs.declared.uses.Finder.{Finder}
use Rattle.flow_staterule.specs.Ways.{ways, head, round, with_step}
use Rattle.flow_staterule.specs.Uses.{Variable, uses, branch_uses, behind, beyond, declaring, left}

abbrev pub variable_of : code.Variable → Variable
variable_of v = record { name = v.name.now; local = v.local }

-- the variables of the code, of which the newest stands last, declared after others
abbrev pub declared_after : List Variable → List code.Variable → List Variable
declared_after vs [] = vs
declared_after vs (c ∷ cs) = declared_after (variable_of c ∷ vs) cs

abbrev pub in_force : Variables → List Variable
in_force v = declared_after [] v.list.items

-- variables with others declared after them
abbrev pub Extends : Variables → Variables → Type 0
Extends old new = take (length old.list.items) new.list.items ≡ old.list.items

abbrev pub listed : Option Use → List Use
listed None = []
listed (Some u) = u ∷ []

-- the uses that have been found, and those in a body or in branches that come next
abbrev pub found : Finder → Here → Body → List Use
found f h b = f.uses.items ++ uses h.looked.0 (in_force f.variables) h.point h.caught b

abbrev pub in_branches : Finder → Point → Here → Branches → List Use
in_branches f p h bs = f.uses.items ++ branch_uses h.looked.0 (in_force f.variables) p h.point h.caught bs

-- what is known behind a body, and in the parts of a `for` and of a `try`
abbrev pub known_behind : List Variable → Here → Body → Here
known_behind vs h b = record h { looked = record { 0 = left h.looked.0 b }; point = beyond h.looked.0 vs h.point b }

abbrev pub for_body : ℕ → Here → (step body : Body) → Here
for_body d h t b =
    let m = left h.looked.0 t in
    record h { looked = record { 0 = m }; point = behind d h.point (head (with_step (ways m b) (ways h.looked.0 t))) }

abbrev pub for_step : ℕ → Here → (step body : Body) → Here
for_step d h t b = record h { point = behind d (for_body d h t b).point (round (ways (left h.looked.0 t) b)) }

abbrev pub in_handler : ℕ → Here → Body → Ident → Here
in_handler d h b x = record {
  looked = record { 0 = left h.looked.0 b };
  point = behind d h.point (ways h.looked.0 b).throws;
  caught = Some (record { number = d; declared = x.at });
}

-- A statement is found: with any body behind it the uses are those that the statement and this body make, and the variables
-- in force are those behind it.
pub record Finds (old new : Finder) (h : Here) (put : Body → Body) : Type 0 where
  pub uses : (k : Body) → found new (known_behind (in_force old.variables) h (put End)) k ≡ found old h (put k)
  pub variables : in_force new.variables ≡ declaring (in_force old.variables) (put End)
