-- Tokens that carry the parts of a program that begin at them, and the limits on these parts.
use Rattle.std.specs.Prelude.{◌≡◌, ℕ, ◌≤◌, List, [], ◌∷◌, ◌++◌}
use Rattle.flow_base.specs.declared.place.Place.{Place}
use Rattle.flow_tree.specs.declared.token.Token.{Token}
use Rattle.flow_tree.specs.declared.token.Spot.{Spot}
use Rattle.flow_tree.specs.declared.limits.Limits.{Limits}
use Rattle.flow_tree.specs.declared.limits.TheConstants.{DEPTH, OF_PROGRAMS}

-- a part of a program: a declaration by its number in the program, a statement by its number in its
-- function or actor, a node (a statement, a branch, an expression or a type) by its depth, a
-- parameter, state variable or field by its number in its declaration, a branch by its number in
-- its choose; numbers and depths count from 1
pub data Part : Type 0 where
  Declaration : ℕ → Part
  Statement : ℕ → Part
  Node : ℕ → Part
  Variable : ℕ → Part
  Branch : ℕ → Part

-- a token at its place, and the parts that begin with it
pub record Marked : Type 0 where
  pub spot : Spot
  pub parts : List Part

-- a token with which these parts begin
abbrev pub opens : List Part → Token → Place → Marked
opens ps t p = record { spot = record { token = t; at = p }; parts = ps }

-- one more part begins with the first of these tokens
abbrev pub begin : Part → List Marked → List Marked
begin part [] = []
begin part (x ∷ xs) = record { spot = x.spot; parts = part ∷ x.parts } ∷ xs

-- the tokens alone
abbrev pub spots_of : List Marked → List Spot
spots_of [] = []
spots_of (x ∷ xs) = x.spot ∷ spots_of xs

-- the part keeps the limits L3 to Ln, which are these and that of depth
abbrev pub InLimitsOf : Limits → ℕ → Part → Type 0
InLimitsOf l n (Declaration k) = 3 ≤ n → k ≤ l.declarations
InLimitsOf l n (Statement k) = 4 ≤ n → k ≤ l.statements
InLimitsOf l n (Node depth) = 5 ≤ n → depth ≤ DEPTH
InLimitsOf l n (Variable k) = 6 ≤ n → k ≤ l.variables
InLimitsOf l n (Branch k) = 7 ≤ n → k ≤ l.branches

abbrev pub AllInLimitsOf : Limits → ℕ → List Part → Type 0
AllInLimitsOf l n [] = Unit {0}
AllInLimitsOf l n (p ∷ ps) = InLimitsOf l n p × AllInLimitsOf l n ps

-- every part that begins with one of these tokens keeps the limits L3 to Ln
abbrev pub KeepsOf : Limits → ℕ → List Marked → Type 0
KeepsOf l n [] = Unit {0}
KeepsOf l n (x ∷ xs) = AllInLimitsOf l n x.parts × KeepsOf l n xs

-- these tokens are derived as this tree, and their parts keep the limits L3 to Ln; with n below 3
-- there is no limit
pub record DerivesOf (l : Limits) {A : Type 0} (R : List Marked → A → Type 0) (n : ℕ) (tokens : List Spot) (tree : A) : Type 0 where
  pub marked : List Marked
  pub rule : R marked tree
  pub is : spots_of marked ≡ tokens
  pub keeps : KeepsOf l n marked

-- something is derived that begins with these tokens, and the parts that begin with one of them
-- keep the limits L3 to Ln
pub record GoodOf (l : Limits) {A : Type 0} (R : List Marked → A → Type 0) (n : ℕ) (tokens : List Spot) : Type 0 where
  pub read : List Marked
  pub rest : List Marked
  pub tree : A
  pub rule : R (read ++ rest) tree
  pub is : spots_of read ≡ tokens
  pub keeps : KeepsOf l n read

-- the same by the limits of programs
abbrev pub InLimits : ℕ → Part → Type 0
InLimits = InLimitsOf OF_PROGRAMS

abbrev pub AllInLimits : ℕ → List Part → Type 0
AllInLimits = AllInLimitsOf OF_PROGRAMS

abbrev pub Keeps : ℕ → List Marked → Type 0
Keeps = KeepsOf OF_PROGRAMS

abbrev pub Derives : {A : Type 0} → (List Marked → A → Type 0) → ℕ → List Spot → A → Type 0
Derives R = DerivesOf OF_PROGRAMS R

abbrev pub Good : {A : Type 0} → (List Marked → A → Type 0) → ℕ → List Spot → Type 0
Good R = GoodOf OF_PROGRAMS R
