-- The numbers of waits and branches, given in the order of the text.
use Rattle.std.specs.Prelude.{ℕ, suc, ◌+◌}
use Rattle.flow_tree.specs.Body.{Body, ChooseStmt, WaitStmt, Branches, NoBranches, MoreBranches}
use Rattle.flow_tree.specs.Folds.{Fold, folded, folded_branches}
use Rattle.flow_meaning.specs.Requests.{Spot}

-- how many branches a choose has
abbrev pub branch_count : Branches → ℕ
branch_count NoBranches = 0
branch_count (MoreBranches at w b more) = suc (branch_count more)

-- the wait after one with so many branches
abbrev pub next_spot : ℕ → Spot → Spot
next_spot n s = record { group = suc s.group; first = s.first + n }

-- what a statement makes of the next wait before it, for what is inside of it and behind it
abbrev pub stmt_spots : Body → (Spot → Spot) → Spot → Spot
stmt_spots (ChooseStmt at bs k) f s = f (next_spot (branch_count bs) s)
stmt_spots (WaitStmt at w k) f s = f (next_spot 1 s)
stmt_spots b f s = f s

abbrev pub spots_passed : Fold (Spot → Spot)
spots_passed = record { nothing = λ s. s; both = λ f g s. g (f s); of_stmt = stmt_spots; of_catch = λ x f. f; of_wait = λ w f. f }

-- The next wait after a body, if the next one before it is s: waits are numbered in the order of the text, a choose
-- before the waits in its branches.
abbrev pub past : Body → Spot → Spot
past b s = folded spots_passed b s

abbrev pub past_branches : Branches → Spot → Spot
past_branches bs s = folded_branches spots_passed bs s

-- the first wait of a text
abbrev pub first_spot : Spot
first_spot = record { group = 1; first = 0 }
