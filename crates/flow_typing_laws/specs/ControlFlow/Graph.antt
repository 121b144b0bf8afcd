-- Graphs: points, and edges that lead from point to point; walks along the edges; sets of points that are grown along them.
use Rattle.std.specs.Prelude.{List, [], ◌∷◌, Contains, ◌↔◌}

pub record Edge (P : Type 0) : Type 0 where
  pub from : P
  pub to : P

abbrev pub Leads : {P : Type 0} → List (Edge P) → P → P → Type 0
Leads edges a b = Contains edges (record { from = a; to = b })

-- a walk from a point to a point, and the points that it leaves, in order
pub data Walk {P : Type 0} (edges : List (Edge P)) : P → List P → P → Type 0 where
  stay : (a : P) → Walk edges a [] a
  go : {c : P} {left : List P} (a b : P) → Leads edges a b → Walk edges b left c → Walk edges a (a ∷ left) c

-- some walk leads from a point to a point
abbrev pub Reaches : {P : Type 0} → List (Edge P) → P → P → Type 0
Reaches {P} edges a b = (left : List P) × Walk edges a left b

-- sets of points that are grown from some points, by the ends of edges that lead on from them
pub data Grown {P : Type 0} (edges : List (Edge P)) (begins : List P) : List P → Type 0 where
  begun : Grown edges begins begins
  added : {reached : List P} (a b : P) → Contains reached a → Leads edges a b → Grown edges begins reached
      → Grown edges begins (b ∷ reached)

-- nothing is added to a set any more
abbrev pub IsClosed : {P : Type 0} → List (Edge P) → List P → Type 0
IsClosed {P} edges reached = (a b : P) → Contains reached a → Leads edges a b → Contains reached b

-- some walk leads to a point from one of these
abbrev pub ReachedFrom : {P : Type 0} → List (Edge P) → List P → P → Type 0
ReachedFrom {P} edges begins b = (a : P) × Contains begins a × Reaches edges a b

-- a set that is grown until nothing is added holds exactly the points to which some walk leads
abbrev pub IsExact : {P : Type 0} → List (Edge P) → (begins reached : List P) → Type 0
IsExact {P} edges begins reached =
    Grown edges begins reached → IsClosed edges reached → (b : P) → Contains reached b ↔ ReachedFrom edges begins b
