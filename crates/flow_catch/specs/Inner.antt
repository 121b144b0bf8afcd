-- The locals of the innermost scopes, as they are dropped.
use Rattle.std.specs.Prelude.{ℕ, zero, suc, List, [], ◌∷◌, ◌++◌, reverse, map}
use Rattle.std.specs.declared.alloc.Global.{Global}
use Rattle.std.specs.declared.vec.Vec.{Vec}
use Rattle.flow_catch.specs.declared.entry.Entry.{Entry}
use Rattle.flow_catch.specs.declared.entry.Entry.TheVariants as code
use Rattle.flow_class.specs.Scopes.{Local, Mark, Var, Scope, scope, outside}

-- what the code keeps in the order of declaration, seen newest first
abbrev pub entry_of : Entry → Local ℕ
entry_of code.Mark = Mark
entry_of (code.Var x n) = Var x n

abbrev pub scope_of : List Entry → Scope
scope_of es = reverse (map entry_of es)

-- the locals of so many scopes, the innermost ones, newest first
abbrev pub inner_locals : (depth : ℕ) → Scope → List ℕ
inner_locals zero s = []
inner_locals (suc d) s = scope s ++ inner_locals d (outside s)

-- a list where there is something to be dropped
abbrev pub listed : List ℕ → List (List ℕ) → List (List ℕ)
listed [] lists = lists
listed (n ∷ ns) lists = (n ∷ ns) ∷ lists

-- the locals of each of so many scopes, the innermost ones, newest first; a scope without locals has none
abbrev pub left_lists : (depth : ℕ) → Scope → List (List ℕ)
left_lists zero s = []
left_lists (suc d) s = listed (scope s) (left_lists d (outside s))

abbrev pub lists_of : List (Vec ℕ Global) → List (List ℕ)
lists_of vs = map (λ v. v.items) vs
