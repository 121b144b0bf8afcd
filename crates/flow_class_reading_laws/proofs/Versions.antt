-- What a class text of version 1 derives, one of version 2 derives: the same tokens behind its own number.
use Rattle.std.proofs.Common.{ℕ, Bool, List, ◌∷◌, ◌++◌, refl, subst, arith}
use Rattle.std.specs.Prelude.{codes}
use Rattle.std.proofs.lemmas.Bool.{false≢true}
use Rattle.std.specs.declared.option.Option.{Option}
use Rattle.flow_tree.specs.declared.decl.RoutineKind.TheVariants.{Function, OldFunction}
use Rattle.flow_tree.specs.Tree.{TypeTree, ExprTree}
use Rattle.flow_tree.specs.Body.{IntoTree, WaitTree, Body, Branches}
use Rattle.flow_tree.specs.Decls.{RecordTree, RoutineTree}
use Rattle.flow_tree.specs.declared.limits.TheConstants.{OF_CLASS_TEXT}
use Rattle.flow_tree.specs.GrammarToken.{Marked, KeepsOf}
use Rattle.flow_tree.specs.GrammarStmt.{Counts, StateRule, no_state, some_state, IntoRule, declared, WaitingRule, plain_wait, into_wait, InitRule, declare, declare_value, change, InitPart, no_init, some_init, ReturnedRule, nothing, something, PlainRule, if_stmt, if_else_stmt, while_stmt, for_stmt, loop_stmt, break_stmt, continue_stmt, return_stmt, throw_stmt, try_stmt, choose_stmt, init_stmt, wait_stmt, call_stmt, StmtRule, block_stmt, plain_stmt, BlockRule, braces, BodyRule, block_body, one_body, StmtsRule, no_stmts, more_stmts, WhensRule, no_whens, more_whens, WhenRule, branch}
use Rattle.flow_tree.specs.GrammarDecl.{RoutineRule, routine, FunctionRule, function}
use Rattle.flow_class.specs.Classes.{LastTree, BlockTree, ClassTree, RawTree}
use Rattle.flow_classprint.specs.declared.version.Version.TheVariants.{One, Two}
use Rattle.flow_classprint.specs.ClassGrammar as rules
use Rattle.flow_classprint.specs.ClassGrammar.{said, number_at, LastRule, goto, pass, test, choose, return, throw, block, NumberedRule, none, next, ResultRule, result, ClassRule, class, ClassesRule, no_classes, more_classes, HeadFunctionRule, function_rule, HeadsRule, no_heads, more_records, more_functions, VersionRule, text, AreSpelled, IsWritten}
use Rattle.flow_class_text_laws.proofs.Spelled.{number_spelled}

-- statements of a function
state : {c c' : Counts} {all : List Marked} {b : Bool} → StateRule OldFunction c c' all b → StateRule Function c c' all b
state no_state = no_state
state (some_state p) = some_state p

into : {d : ℕ} {c c' : Counts} {all : List Marked} {i : IntoTree} → IntoRule OldFunction d c c' all i → IntoRule Function d c c' all i
into (declared x kept of s t e) = declared x kept of (state s) t e

waiting : {d : ℕ} {c c' : Counts} {all : List Marked} {w : WaitTree} → WaitingRule OldFunction d c c' all w → WaitingRule Function d c c' all w
waiting (plain_wait o) = plain_wait o
waiting (into_wait p left right i o e) = into_wait p left right (into i) o e

init : {d : ℕ} {c c' : Counts} {all : List Marked} {at : _} {rest body : Body} → InitRule OldFunction d c c' all at rest body → InitRule Function d c c' all at rest body
init (declare at i s) = declare at (into i) s
init (declare_value at p left value i e q s) = declare_value at p left value (into i) e q s
init (change at a) = change at a

init_part : {d : ℕ} {c c' : Counts} {all : List Marked} {body : Body} → InitPart OldFunction d c c' all body → InitPart Function d c c' all body
init_part no_init = no_init
init_part (some_init at xs r e) = some_init at xs (init r) e

returned : {d : ℕ} {all : List Marked} {e : Option ExprTree} → ReturnedRule OldFunction d all e → ReturnedRule Function d all e
returned (nothing e) = absurd (false≢true e)
returned (something r) = something r

mutual
  plain : {d : ℕ} {c c' : Counts} {all : List Marked} {at : _} {rest body : Body} {b : Bool} → PlainRule OldFunction d c c' all at rest body b
      → PlainRule Function d c c' all at rest body b
  plain (if_stmt at p q tested body t b e) = if_stmt at p q tested body t (of_body b) e
  plain (if_else_stmt at p q r tested body other t b o e) = if_else_stmt at p q r tested body other t (of_body b) (of_body o) e
  plain (while_stmt at p q tested body t b e) = while_stmt at p q tested body t (of_body b) e
  plain (for_stmt at p q r s first tested step body i t n b e) = for_stmt at p q r s first tested step body (init_part i) t n (of_body b) e
  plain (loop_stmt at body b e) = loop_stmt at body (of_body b) e
  plain (break_stmt at p) = break_stmt at p
  plain (continue_stmt at p) = continue_stmt at p
  plain (return_stmt at p value r e) = return_stmt at p value (returned r) e
  plain (throw_stmt at p value r e) = throw_stmt at p value r e
  plain (try_stmt at p q r s u x body caught b h e) = try_stmt at p q r s u x body caught (in_braces b) (in_braces h) e
  plain (choose_stmt at p q first more w ws e) = choose_stmt at p q first more (when w) (whens ws) e
  plain (init_stmt at p xs r e) = init_stmt at p xs (init r) e
  plain (wait_stmt at p xs w e s) = wait_stmt at p xs (waiting w) e s
  plain (call_stmt at p q r path args x a e s) = call_stmt at p q r path args x a e s

  stmt : {d : ℕ} {c c' : Counts} {all : List Marked} {rest body : Body} {b : Bool} → StmtRule OldFunction d c c' all rest body b → StmtRule Function d c c' all rest body b
  stmt (block_stmt at xs b s e) = block_stmt at xs (in_braces b) s e
  stmt (plain_stmt at xs r e) = plain_stmt at xs (plain r) e

  in_braces : {d : ℕ} {c c' : Counts} {all : List Marked} {body : Body} → BlockRule OldFunction d c c' all body → BlockRule Function d c c' all body
  in_braces (braces p q xs r e) = braces p q xs (stmts r) e

  of_body : {d : ℕ} {c c' : Counts} {all : List Marked} {body : Body} {b : Bool} → BodyRule OldFunction d c c' all body b → BodyRule Function d c c' all body b
  of_body (block_body b) = block_body (in_braces b)
  of_body (one_body at xs r e) = one_body at xs (plain r) e

  stmts : {d : ℕ} {c c' : Counts} {all : List Marked} {body : Body} → StmtsRule OldFunction d c c' all body → StmtsRule Function d c c' all body
  stmts no_stmts = no_stmts
  stmts (more_stmts first more r rs e) = more_stmts first more (stmt r) (stmts rs) e

  whens : {d n : ℕ} {c c' : Counts} {all : List Marked} {bs : Branches} → WhensRule OldFunction d n c c' all bs → WhensRule Function d n c c' all bs
  whens no_whens = no_whens
  whens (more_whens first more w ws e) = more_whens first more (when w) (whens ws) e

  when : {d n : ℕ} {c c' : Counts} {all : List Marked} {rest bs : Branches} → WhenRule OldFunction d n c c' all rest bs → WhenRule Function d n c c' all rest bs
  when (branch at p q xs body w b e) = branch at p q xs body (waiting w) (of_body b) e

-- a function
in_routine : {at : _} {t : TypeTree} {all : List Marked} {f : RoutineTree} → RoutineRule OldFunction at t all f → RoutineRule Function at t all f
in_routine (routine p q r close x params xs ps b e) = routine p q r close x params xs ps (stmts b) e

in_function : {all : List Marked} {f : RoutineTree} → FunctionRule OldFunction all f → FunctionRule Function all f
in_function (function at of xs t r e s) = function at of xs t (in_routine r) e s

head_function : {all : List Marked} {f : RoutineTree} → HeadFunctionRule One all f → HeadFunctionRule Two all f
head_function (function_rule of f) = function_rule of (in_function f)

heads : {all : List Marked} {rs : List RecordTree} {fs : List RoutineTree} → HeadsRule One all rs fs → HeadsRule Two all rs fs
heads no_heads = no_heads
heads (more_records first rest r s e) = more_records first rest r (heads s) e
heads (more_functions first rest f s e) = more_functions first rest (head_function f) (heads s) e

-- a class
given : {all : List Marked} {e : Option ExprTree} → rules.ReturnedRule One all e → rules.ReturnedRule Two all e
given (rules.something r) = rules.something r

last : {all : List Marked} {l : LastTree} → LastRule One all l → LastRule Two all l
last (goto p q r h) = goto p q r h
last (pass p q r h) = pass p q r h
last (test p q r s t u v w of e y n eq) = test p q r s t u v w of e y n eq
last (choose p q r h) = choose p q r h
last (return p q of r e) = return p q of (given r) e
last (throw p q of r e) = throw p q of r e

in_block : {n : ℕ} {all : List Marked} {b : BlockTree} → rules.BlockRule One n all b → rules.BlockRule Two n all b
in_block (block p q r s caught body end n c i l e) = block p q r s caught body end n c i (last l) e

blocks : {n : ℕ} {all : List Marked} {bs : List BlockTree} → NumberedRule (rules.BlockRule One) n all bs → NumberedRule (rules.BlockRule Two) n all bs
blocks none = none
blocks (next first rest r s e) = next first rest (in_block r) (blocks s) e

what_is_given : {all : List Marked} {t : TypeTree} → ResultRule One all t → ResultRule Two all t
what_is_given (result t) = result t

in_class : {all : List Marked} {c : ClassTree} → ClassRule One all c → ClassRule Two all c
in_class (class p q r s u o w of in_slots in_locals in_blocks in_groups t n ss ls bs gs e) =
    class p q r s u o w of in_slots in_locals in_blocks in_groups (what_is_given t) n ss ls (blocks bs) gs e

classes : {all : List Marked} {cs : List ClassTree} → ClassesRule One all cs → ClassesRule Two all cs
classes no_classes = no_classes
classes (more_classes first rest c cs e) = more_classes first rest (in_class c) (classes cs) e

-- so a text of version 1 is one of version 2 but for its number
pub newest : {all : List Marked} {raw : RawTree} → VersionRule One all raw → AreSpelled all → KeepsOf OF_CLASS_TEXT 7 all → IsWritten raw
newest (text p q front back h c e) s k =
    let t = subst AreSpelled e s in
    let l = subst (KeepsOf OF_CLASS_TEXT 7) e k in
    record {
      tokens = said (codes "classes") p ∷ number_at 2 q ∷ (front ++ back);
      rule = text p q front back (heads h) (classes c) refl;
      spelled = (t.0, (number_spelled 2 (omega arith), t.1.1));
      keeps = (l.0, (l.1.0, l.1.1));
    }
