-- The text of a view: what was run, and then a block of lines for each unfinished actor.
use Rattle.std.specs.Prelude.{ℕ, suc, List, [], ◌∷◌, ◌++◌, codes, decimal}
use Rattle.std.specs.List.{flat_map}
use Rattle.flow_valuetext.specs.ValueText.{value_text}
use Rattle.flow_debug.specs.Seen.{VariableSeen, ActorSeen}

abbrev pub line_end : List ℕ
line_end = codes "\n"

-- the process and the number of an actor, as each of its lines names them behind its first word
abbrev pub actor_words : (process actor : ℕ) → List ℕ
actor_words p i = decimal p ++ codes " " ++ decimal i ++ codes " "

-- `actor P A NAME G at LINE:COLUMN`
abbrev pub actor_line : ActorSeen → List ℕ
actor_line a =
    codes "actor " ++ actor_words a.process a.actor ++ a.name ++ codes " " ++ decimal a.group
    ++ codes " at " ++ decimal a.at.line ++ codes ":" ++ decimal a.at.column ++ line_end

-- `branch P A B C` for each branch, which is numbered from 0 within its wait
abbrev pub branch_lines : (process actor branch : ℕ) → List ℕ → List ℕ
branch_lines p i n [] = []
branch_lines p i n (cell ∷ cells) =
    (codes "branch " ++ actor_words p i ++ decimal n ++ codes " " ++ decimal cell ++ line_end) ++ branch_lines p i (suc n) cells

-- `var P A NAME = VALUE`
abbrev pub variable_line : (process actor : ℕ) → VariableSeen → List ℕ
variable_line p i v = codes "var " ++ actor_words p i ++ v.name ++ codes " = " ++ value_text v.value ++ line_end

abbrev pub actor_lines : ActorSeen → List ℕ
actor_lines a = actor_line a ++ branch_lines a.process a.actor 0 a.cells ++ flat_map (variable_line a.process a.actor) a.variables

-- the first lines: how many events were run, and the time of the last one
abbrev pub view_head : (ran time : ℕ) → List ℕ
view_head n t = codes "debug 1\nat " ++ decimal n ++ codes " " ++ decimal t ++ line_end

abbrev pub ViewText : (ran time : ℕ) → List ActorSeen → List ℕ
ViewText n t actors = view_head n t ++ flat_map actor_lines actors
