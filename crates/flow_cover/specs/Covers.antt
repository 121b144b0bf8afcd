-- Which branches of a program's waits a run takes, and what is written of many runs.
use Rattle.std.specs.Prelude.{ℕ, suc, Bool, true, false, ◌||◌, ◌&&◌, nat_eq, List, [], ◌∷◌, ◌++◌, length, replicate, slice_get, codes, decimal}
use Rattle.std.specs.declared.option.Option.{Option}
use Rattle.std.specs.declared.option.Option.TheVariants.{None, Some}
use Rattle.flow_base.specs.declared.place.Place.{Place}
use Rattle.flow_trace.specs.declared.line.Line.{Line}
use Rattle.flow_trace.specs.declared.line.Line.TheVariants.{Take}
use Rattle.flow_explain.specs.Texts.{WaitText, ActorText}
use Rattle.flow_explain.specs.Living.{Telling, told_nothing, told_after, living_in, text_of}

-- a branch: its actor's place among the program's actors, from 0, and its name; its wait by its number there, from 1; its own number,
-- from 0; and where it goes on in the text
pub record Branch : Type 0 where
  pub text : ℕ
  pub actor : List ℕ
  pub wait : ℕ
  pub branch : ℕ
  pub at : Place

-- what things come to, one after another, each by its number, from such a one on
abbrev pub numbered : {A B : Type 0} → (ℕ → A → List B) → (from : ℕ) → List A → List B
numbered f n [] = []
numbered f n (x ∷ xs) = f n x ++ numbered f (suc n) xs

-- the branches of a wait, of an actor and of a program, in the order of the text
abbrev pub own_branch : (text : ℕ) (actor : List ℕ) (wait branch : ℕ) → Place → List Branch
own_branch k x g n at = record { text = k; actor = x; wait = g; branch = n; at = at } ∷ []

abbrev pub wait_branches : (text : ℕ) (actor : List ℕ) (wait : ℕ) → WaitText → List Branch
wait_branches k x g w = numbered (own_branch k x g) 0 w.branches

abbrev pub actor_branches : (text : ℕ) → ActorText → List Branch
actor_branches k t = numbered (wait_branches k t.name) 1 t.waits

abbrev pub branches_of : List ActorText → List Branch
branches_of texts = numbered actor_branches 0 texts

-- an actor that lives takes it, by this line
abbrev pub is_text : (text : ℕ) → Option ℕ → Bool
is_text k None = false
is_text k (Some j) = nat_eq j k

abbrev pub takes : Telling → Line → Branch → Bool
takes s (Take a g n) b = is_text b.text (text_of (living_in s.living s.process) a.0) && (nat_eq g b.wait && nat_eq n b.branch)
takes s _ b = false

-- what is kept of a run: what its lines told, and of each branch whether it was taken
pub record Marks : Type 0 where
  pub telling : Telling
  pub taken : List Bool

abbrev pub no_marks : List ActorText → Marks
no_marks texts = record { telling = told_nothing; taken = replicate (length (branches_of texts)) false }

abbrev pub takes_one : Telling → Line → Option Branch → Bool
takes_one s l None = false
takes_one s l (Some b) = takes s l b

abbrev pub marked : Telling → Line → List Branch → (from : ℕ) → List Bool → List Bool
marked s l bs k [] = []
marked s l bs k (m ∷ ms) = (m || takes_one s l (slice_get bs k)) ∷ marked s l bs (suc k) ms

abbrev pub marks_after : List ActorText → Line → Marks → Marks
marks_after texts l m = record {
  telling = told_after texts l m.telling;
  taken = marked m.telling l (branches_of texts) 0 m.taken;
}

abbrev pub marks_from : List ActorText → Marks → List Line → Marks
marks_from texts m [] = m
marks_from texts m (l ∷ ls) = marks_from texts (marks_after texts l m) ls

-- of each branch whether lines show that it was taken
abbrev pub taken_in : List ActorText → List Line → List Bool
taken_in texts ls = (marks_from texts (no_marks texts) ls).taken

-- a line for each branch, with the number of the runs that took it
abbrev pub branch_line : Branch → (runs : ℕ) → List ℕ
branch_line b n =
    codes "branch " ++ b.actor ++ codes " " ++ decimal b.wait ++ codes " " ++ decimal b.branch ++ codes " at " ++ decimal b.at.line
    ++ codes ":" ++ decimal b.at.column ++ codes " runs " ++ decimal n ++ codes "\n"

abbrev pub count_of : Option ℕ → ℕ
count_of None = 0
count_of (Some n) = n

abbrev pub cover_text : List Branch → (runs : List ℕ) → List ℕ
cover_text bs runs = numbered (λ k b. branch_line b (count_of (slice_get runs k))) 0 bs
