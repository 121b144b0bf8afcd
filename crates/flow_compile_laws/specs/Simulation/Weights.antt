-- What falls with each quiet step of an actor that is run from its text, of whatever program.
use Rattle.std.specs.Prelude.{ℕ, ◌+◌, List, [], ◌∷◌}
use Rattle.flow_tree.specs.Body.{Body, BlockStmt, WhileStmt, ForStmt, LoopStmt, TryStmt}
use Rattle.flow_meaning.specs.Items.{Item, Do, Leave, Round, Check, Made, Handler, Over, Actor}

-- Statements that ask weigh nothing: what comes after an ask may be of any weight.
abbrev pub body_weight : Body → ℕ
body_weight (BlockStmt at b k) = 3 + body_weight b + body_weight k
body_weight (WhileStmt at e b k) = 2 + body_weight k
body_weight (LoopStmt at b k) = 2 + body_weight k
body_weight (ForStmt at i e t b k) = 4 + body_weight i + body_weight k
body_weight (TryStmt at b q x h k) = 4 + body_weight b + body_weight k
body_weight _ = 0

abbrev pub rest_weight : List Item → ℕ
rest_weight [] = 0
rest_weight (Do x b ∷ r) = 1 + body_weight b + rest_weight r
rest_weight (Leave ∷ r) = 1 + rest_weight r
rest_weight (Round l ∷ r) = 1 + rest_weight r
rest_weight (Check l ∷ r) = 6 + body_weight l.inner + body_weight l.step + rest_weight r
rest_weight (Made l ∷ r) = 3 + body_weight l.step + rest_weight r
rest_weight (Handler x y k ∷ r) = 1 + rest_weight r
rest_weight (Over ∷ r) = 1 + rest_weight r

abbrev pub actor_weight : Actor → ℕ
actor_weight a = rest_weight a.rest
