-- What is seen of a process at the boundary of events: its unfinished actors, and the branches at which they wait. And
-- what holds of them there.
use Rattle.std.specs.Prelude.{◌≡◌, ℕ, suc, ◌<◌, false, List, [], ◌∷◌, ◌++◌}
use Rattle.std.specs.declared.option.Option.{Option}
use Rattle.std.specs.declared.option.Option.TheVariants.{None, Some}
use Rattle.flow_numbered.specs.Numbered.{Numbered, thing}
use Rattle.flow_meaning.specs.Cells.{Ref, FutureSide}
use Rattle.flow_meaning.specs.References.{reference_count}
use Rattle.flow_meaning.specs.Step.{scanned}
use Rattle.flow_meaning.specs.Requests.{Spot}
use Rattle.flow_meaning.specs.Process.{Entry, Proc, Engine}
use Rattle.flow_tree.specs.Body.{ChooseStmt, WaitStmt}
use Rattle.flow_meaning.specs.Items.{Item, Do, Actor}
use Rattle.flow_meaning.specs.Frame.{Frame, spot_of}

-- an unfinished actor: its number, its declaration's place among the actors, and the number of its wait
pub record Unfinished : Type 0 where
  pub actor : ℕ
  pub class : ℕ
  pub group : ℕ

-- a branch at which an actor waits: its number among all branches of the actor's text, and its cell
pub record WaitingBranch : Type 0 where
  pub actor : ℕ
  pub branch : ℕ
  pub cell : ℕ

-- where an actor waits, by its text and by its frame
abbrev pub no_spot : Spot
no_spot = record { group = 0; first = 0 }

abbrev pub spot_in : List Item → Spot
spot_in (Do s (WaitStmt at w k) ∷ r) = s.spot
spot_in (Do s (ChooseStmt at bs k) ∷ r) = s.spot
spot_in _ = no_spot

abbrev pub actor_spot : Actor → Spot
actor_spot a = spot_in a.rest

abbrev pub frame_spot : Frame → Spot
frame_spot f = spot_of f.code f.state

abbrev pub spot_at : {A : Type 0} → (A → Spot) → Option A → Spot
spot_at spot None = no_spot
spot_at spot (Some a) = spot a

-- one line for each unfinished actor, in the order of their numbers
abbrev pub unfinished : {A : Type 0} → (A → Spot) → Numbered A → Numbered Entry → List Unfinished
unfinished spot xs [] = []
unfinished spot xs (x ∷ es) = record { actor = x.0; class = x.1.class; group = (spot_at spot (thing xs x.0)).group } ∷ unfinished spot xs es

-- one line for each branch of each of them, in the order of the branches
abbrev pub branches_from : (actor branch : ℕ) → List Ref → List WaitingBranch
branches_from i b [] = []
branches_from i b (r ∷ rs) = record { actor = i; branch = b; cell = r.1 } ∷ branches_from i (suc b) rs

abbrev pub waiting : {A : Type 0} → (A → Spot) → Numbered A → Numbered Entry → List WaitingBranch
waiting spot xs [] = []
waiting spot xs (x ∷ es) = branches_from x.0 (spot_at spot (thing xs x.0)).first x.1.operands ++ waiting spot xs es

-- the unfinished actors of a process and their branches, by their texts
abbrev pub Live : Proc Actor → List Unfinished
Live p = unfinished actor_spot p.actors p.core.entries

abbrev pub Pending : Proc Actor → List WaitingBranch
Pending p = waiting actor_spot p.actors p.core.entries

-- the same by their frames
abbrev pub Frames : Proc Frame → List Unfinished
Frames p = unfinished frame_spot p.actors p.core.entries

abbrev pub Callbacks : Proc Frame → List WaitingBranch
Callbacks p = waiting frame_spot p.actors p.core.entries

-- Each unfinished actor is uncancelled, and a future refers to its result, which a void one has none of.
abbrev pub IsReferred : Option ℕ → (ℕ → ℕ) → Type 0
IsReferred None futures = Unit {0}
IsReferred (Some k) futures = 0 < futures k

abbrev pub AllReferred : (ℕ → ℕ) → Numbered Entry → Type 0
AllReferred futures [] = Unit {0}
AllReferred futures (x ∷ xs) = (x.1.marked ≡ false) × IsReferred x.1.result futures × AllReferred futures xs

abbrev pub Referred : {A : Type 0} → Engine A → Proc A → Type 0
Referred e p = AllReferred (λ k. reference_count (scanned e p) FutureSide k p.core) p.core.entries
