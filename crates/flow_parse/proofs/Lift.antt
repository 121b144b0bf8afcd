-- A statement alone is also a statement before others.
use Rattle.std.proofs.Common.{ℕ, Bool, List}
use Rattle.flow_tree.specs.declared.decl.RoutineKind.{RoutineKind}
use Rattle.flow_base.specs.declared.place.Place.{Place}
use Rattle.flow_tree.specs.Body.{Body, End}
use Rattle.flow_tree.specs.GrammarToken.{Marked}
use Rattle.flow_tree.specs.GrammarStmt.{Counts, AssignRule, assign, plus, minus, up, down, InitRule, declare, declare_value, change, PlainRule, if_stmt, if_else_stmt, while_stmt, for_stmt, loop_stmt, break_stmt, continue_stmt, return_stmt, throw_stmt, try_stmt, choose_stmt, init_stmt, wait_stmt, call_stmt, StmtRule, block_stmt, plain_stmt}
use Rattle.flow_parse.specs.Parts.{put_before}

lift_assign : {d : ℕ} {w : List Marked} {p : Place} {s : Body} (rest : Body) → AssignRule d w p End s → AssignRule d w p rest (put_before s rest)
lift_assign rest (assign at p path value r e f g) = assign at p path value r e f g
lift_assign rest (plus at p path value r e f g) = plus at p path value r e f g
lift_assign rest (minus at p path value r e f g) = minus at p path value r e f g
lift_assign rest (up at p path r f g) = up at p path r f g
lift_assign rest (down at p path r f g) = down at p path r f g

lift_init : {home : RoutineKind} {d : ℕ} {c c' : Counts} {w : List Marked} {p : Place} {s : Body} (rest : Body) → InitRule home d c c' w p End s → InitRule home d c c' w p rest (put_before s rest)
lift_init rest (declare at i s) = declare at i s
lift_init rest (declare_value at p left value i e f s) = declare_value at p left value i e f s
lift_init rest (change at r) = change at (lift_assign rest r)

lift_plain : {home : RoutineKind} {d : ℕ} {c c' : Counts} {w : List Marked} {p : Place} {s : Body} {b : Bool} (rest : Body) → PlainRule home d c c' w p End s b
    → PlainRule home d c c' w p rest (put_before s rest) b
lift_plain rest (if_stmt at p q test body e b f) = if_stmt at p q test body e b f
lift_plain rest (if_else_stmt at p q r test body other e b o f) = if_else_stmt at p q r test body other e b o f
lift_plain rest (while_stmt at p q test body e b f) = while_stmt at p q test body e b f
lift_plain rest (for_stmt at p q r s init test step body i e n b f) = for_stmt at p q r s init test step body i e n b f
lift_plain rest (loop_stmt at body b f) = loop_stmt at body b f
lift_plain rest (break_stmt at p) = break_stmt at p
lift_plain rest (continue_stmt at p) = continue_stmt at p
lift_plain rest (return_stmt at p value e f) = return_stmt at p value e f
lift_plain rest (throw_stmt at p value e f) = throw_stmt at p value e f
lift_plain rest (try_stmt at p q r s u x body caught b h f) = try_stmt at p q r s u x body caught b h f
lift_plain rest (choose_stmt at p q first more w ws f) = choose_stmt at p q first more w ws f
lift_plain rest (init_stmt at p xs i f) = init_stmt at p xs (lift_init rest i) f
lift_plain rest (wait_stmt at p xs w f s) = wait_stmt at p xs w f s
lift_plain rest (call_stmt at p q r path args x a f s) = call_stmt at p q r path args x a f s

pub lift : {home : RoutineKind} {d : ℕ} {c c' : Counts} {w : List Marked} {s : Body} {b : Bool} (rest : Body) → StmtRule home d c c' w End s b → StmtRule home d c c' w rest (put_before s rest) b
lift rest (block_stmt at xs b s f) = block_stmt at xs b s f
lift rest (plain_stmt at xs p f) = plain_stmt at xs (lift_plain rest p) f
