-- The named variables of an actor that is run from its text.
use Rattle.std.specs.Prelude.{ℕ, ◌+◌, List, [], ◌∷◌, ◌++◌, if◌then◌else◌}
use Rattle.std.specs.Str.{bytes_eq}
use Rattle.std.specs.declared.option.Option.{Option}
use Rattle.std.specs.declared.option.Option.TheVariants.{None, Some}
use Rattle.flow_ast.specs.TypingNames.{named}
use Rattle.flow_class.specs.Scopes.{Local, Mark, Var, find, all_locals}
use Rattle.flow_value.specs.Values.{ValueTree}
use Rattle.flow_meaning.specs.Cells.{Side}
use Rattle.flow_meaning.specs.References.{count, refs_in}

-- Parameters and state variables in the order of the text, all of them from the start, and the locals. A state variable
-- that was not declared yet has no value, and a local loses its value at a wait and stays.
pub record Vars : Type 0 where
  pub states : List (List ℕ × Option ValueTree)
  pub locals : List (Local (Option ValueTree))

-- the newest local of a name replaced
abbrev pub set_local : {P : Type 0} → List (Local P) → List ℕ → P → List (Local P)
set_local [] x q = []
set_local (Mark ∷ es) x q = Mark ∷ set_local es x q
set_local (Var y p ∷ es) x q = if bytes_eq x y then Var y q ∷ es else Var y p ∷ set_local es x q

abbrev pub set_state : {P : Type 0} → List (List ℕ × P) → List ℕ → P → List (List ℕ × P)
set_state [] x q = []
set_state (s ∷ ss) x q = if bytes_eq x s.0 then (s.0, q) ∷ ss else s ∷ set_state ss x q

-- all locals without their values
abbrev pub emptied : List (Local (Option ValueTree)) → List (Local (Option ValueTree))
emptied [] = []
emptied (Mark ∷ es) = Mark ∷ emptied es
emptied (Var y p ∷ es) = Var y None ∷ emptied es

abbrev pub flat : {A : Type 0} → Option (Option A) → Option A
flat None = None
flat (Some o) = o

-- the values that are there, in order
abbrev pub filled : List (Option ValueTree) → List ValueTree
filled [] = []
filled (None ∷ os) = filled os
filled (Some v ∷ os) = v ∷ filled os

-- the state variables' values, the last of the text first
abbrev pub backwards : List (List ℕ × Option ValueTree) → List (Option ValueTree)
backwards [] = []
backwards (s ∷ ss) = backwards ss ++ s.1 ∷ []

-- what stands at a name: at the newest local, or else at the state variable or parameter; none, where there is no such
-- variable; and its value
abbrev pub or_else : {A : Type 0} → Option A → Option A → Option A
or_else (Some a) o = Some a
or_else None o = o

abbrev pub place_in : Vars → List ℕ → Option (Option ValueTree)
place_in vars x = or_else (find vars.locals x) (named vars.states x)

abbrev pub look : Vars → List ℕ → Option ValueTree
look vars x = flat (place_in vars x)

-- the variable of a name gets a value
abbrev pub set_found : Option (Option ValueTree) → Vars → List ℕ → ValueTree → Vars
set_found (Some o) vars x v = record vars { locals = set_local vars.locals x (Some v) }
set_found None vars x v = record vars { states = set_state vars.states x (Some v) }

abbrev pub set_var : Vars → List ℕ → ValueTree → Vars
set_var vars x v = set_found (find vars.locals x) vars x v

-- how often the variables refer to a side of a cell
abbrev pub occ_vars : Side → ℕ → Vars → ℕ
occ_vars s k vars = count s k (refs_in (filled (all_locals vars.locals))) + count s k (refs_in (filled (backwards vars.states)))
