-- Each statement that the grammar derives is formed as it says.
use Rattle.std.proofs.Common.{ℕ, Bool, List, [], ◌∷◌}
use Rattle.flow_base.specs.declared.place.Place.{Place}
use Rattle.flow_tree.specs.declared.ty.Ident.{Ident}
use Rattle.flow_tree.specs.declared.token.Tokens.{Tokens}
use Rattle.flow_tree.specs.declared.decl.RoutineKind.{RoutineKind}
use Rattle.flow_tree.specs.Body.{Body, End, Branches}
use Rattle.flow_tree.specs.Decls.{RoutineTree, DeclTree, StructDecl, FunctionDecl, ActorDecl, ProgramTree}
use Rattle.flow_tree.specs.GrammarToken.{Marked}
use Rattle.flow_tree.specs.GrammarStmt.{Counts, PathRule, last_name, more_names, AssignRule, assign, plus, minus, up, down, InitRule, declare, declare_value, change, InitPart, no_init, some_init, StepPart, no_step, some_step, PlainRule, if_stmt, if_else_stmt, while_stmt, for_stmt, loop_stmt, break_stmt, continue_stmt, return_stmt, throw_stmt, try_stmt, choose_stmt, init_stmt, wait_stmt, call_stmt, StmtRule, block_stmt, plain_stmt, BlockRule, braces, BodyRule, block_body, one_body, StmtsRule, no_stmts, more_stmts, WhensRule, no_whens, more_whens, WhenRule, branch}
use Rattle.flow_tree.specs.GrammarDecl.{RoutineRule, routine, function, actor, void_actor, DeclRule, record_decl, function_decl, actor_decl, DeclsRule, no_decls, more_decls, ProgramRule, program, IsProgram}
use Rattle.flow_tree.specs.Folds.{EachStmt, EachBranch}
use Rattle.flow_tree.specs.Formed.{IsPath, IsStep, IsInit, IsBranched, IsFormed, InDecl, EachBody}

abbrev Formed : Body → Type 0
Formed b = EachStmt IsFormed b

pub path_formed : {all : List Marked} {xs : List Ident} → PathRule all xs → IsPath xs
path_formed (last_name x) = tt
path_formed (more_names x p more r q) = tt

assigned : {d : ℕ} {all : List Marked} {at : Place} {rest body : Body} → AssignRule d all at rest body → Formed rest → Formed body
assigned (assign at p path value x e q s) h = (path_formed x, h)
assigned (plus at p path value x e q s) h = (path_formed x, h)
assigned (minus at p path value x e q s) h = (path_formed x, h)
assigned (up at p path x q s) h = (path_formed x, h)
assigned (down at p path x q s) h = (path_formed x, h)

begun : {home : RoutineKind} {d : ℕ} {c c' : Counts} {all : List Marked} {at : Place} {rest body : Body} → InitRule home d c c' all at rest body → Formed rest → Formed body
begun (declare at i s) h = (tt, h)
begun (declare_value at p left value i e q s) h = (tt, h)
begun (change at a) h = assigned a h

-- the parts of a `for`
is_step : {d : ℕ} {all : List Marked} {at : Place} {body : Body} → AssignRule d all at End body → IsStep body × IsInit body
is_step (assign at p path value x e q s) = (tt, tt)
is_step (plus at p path value x e q s) = (tt, tt)
is_step (minus at p path value x e q s) = (tt, tt)
is_step (up at p path x q s) = (tt, tt)
is_step (down at p path x q s) = (tt, tt)

is_init : {home : RoutineKind} {d : ℕ} {c c' : Counts} {all : List Marked} {at : Place} {body : Body} → InitRule home d c c' all at End body → IsInit body
is_init (declare at i s) = tt
is_init (declare_value at p left value i e q s) = tt
is_init (change at a) = (is_step a).1

init_part : {home : RoutineKind} {d : ℕ} {c c' : Counts} {all : List Marked} {body : Body} → InitPart home d c c' all body → IsInit body × Formed body
init_part no_init = (tt, tt)
init_part (some_init at xs r q) = (is_init r, begun r tt)

step_part : {d : ℕ} {c c' : Counts} {all : List Marked} {body : Body} → StepPart d c c' all body → IsStep body × Formed body
step_part no_step = (tt, tt)
step_part (some_step at xs r q) = ((is_step r).0, assigned r tt)

branched : {home : RoutineKind} {d n : ℕ} {c c' : Counts} {all : List Marked} {bs b : Branches} → WhenRule home d n c c' all bs b → IsBranched b
branched (branch at p q xs body w b eq) = tt

mutual
  plain : {home : RoutineKind} {d : ℕ} {c c' : Counts} {all : List Marked} {at : Place} {rest body : Body} {ends_if : Bool} → PlainRule home d c c' all at rest body ends_if → Formed rest → Formed body
  plain (if_stmt at p q test body e b eq) h = (tt, of_body b, h)
  plain (if_else_stmt at p q r test body other e b o eq) h = (tt, of_body b, of_body o, h)
  plain (while_stmt at p q test body e b eq) h = (tt, of_body b, h)
  plain (for_stmt at p q r s init test step body i e t b eq) h =
      let a = init_part i in
      let z = step_part t in
      ((a.0, z.0), a.1, z.1, of_body b, h)
  plain (loop_stmt at body b eq) h = (tt, of_body b, h)
  plain (break_stmt at p) h = (tt, h)
  plain (continue_stmt at p) h = (tt, h)
  plain (return_stmt at p value e eq) h = (tt, h)
  plain (throw_stmt at p value e eq) h = (tt, h)
  plain (try_stmt at p q r s u x body caught b k eq) h = (tt, block b, block k, h)
  plain (choose_stmt at p q first more w ws eq) h = (branched w, when w (whens ws), h)
  plain (init_stmt at p xs i eq) h = begun i h
  plain (wait_stmt at p xs w eq s) h = (tt, h)
  plain (call_stmt at p q r path args x a eq s) h = (path_formed x, h)

  stmt : {home : RoutineKind} {d : ℕ} {c c' : Counts} {all : List Marked} {rest body : Body} {ends_if : Bool} → StmtRule home d c c' all rest body ends_if → Formed rest → Formed body
  stmt (block_stmt at xs b s eq) h = (tt, block b, h)
  stmt (plain_stmt at xs p eq) h = plain p h

  block : {home : RoutineKind} {d : ℕ} {c c' : Counts} {all : List Marked} {body : Body} → BlockRule home d c c' all body → Formed body
  block (braces p q xs s eq) = stmts_formed s

  of_body : {home : RoutineKind} {d : ℕ} {c c' : Counts} {all : List Marked} {body : Body} {ends_if : Bool} → BodyRule home d c c' all body ends_if → Formed body
  of_body (block_body b) = block b
  of_body (one_body at xs p eq) = plain p tt

  pub stmts_formed : {home : RoutineKind} {d : ℕ} {c c' : Counts} {all : List Marked} {body : Body} → StmtsRule home d c c' all body → EachStmt IsFormed body
  stmts_formed no_stmts = tt
  stmts_formed (more_stmts first more s ss eq) = stmt s (stmts_formed ss)

  whens : {home : RoutineKind} {d n : ℕ} {c c' : Counts} {all : List Marked} {bs : Branches} → WhensRule home d n c c' all bs → EachBranch IsFormed bs
  whens no_whens = tt
  whens (more_whens first more w ws eq) = when w (whens ws)

  when : {home : RoutineKind} {d n : ℕ} {c c' : Counts} {all : List Marked} {bs b : Branches} → WhenRule home d n c c' all bs b → EachBranch IsFormed bs → EachBranch IsFormed b
  when (branch at p q xs body w b eq) h = (tt, of_body b, h)

of_routine : {home : RoutineKind} {at : Place} {t : _} {all : List Marked} {f : RoutineTree} → RoutineRule home at t all f → Formed f.body
of_routine (routine p q r close x params xs ps ss eq) = stmts_formed ss

of_decl : {all : List Marked} {d : DeclTree} → DeclRule all d → InDecl Formed d
of_decl (record_decl r) = tt
of_decl (function_decl (function at of xs t r eq s)) = of_routine r
of_decl (actor_decl (actor at p q r of xs t f eq)) = of_routine f
of_decl (actor_decl (void_actor at p xs f eq)) = of_routine f

of_decls : {n : ℕ} {all : List Marked} {ds : List DeclTree} → DeclsRule n all ds → EachBody Formed ds
of_decls no_decls = tt
of_decls (more_decls first more d ds eq) = (of_decl d, of_decls ds)

of_program : {end : Place} {all : List Marked} {p : ProgramTree} → ProgramRule end all p → EachBody Formed p.decls
of_program (program ds) = of_decls ds

pub program_formed : (t : Tokens) (p : ProgramTree) → IsProgram t p → EachBody (λ b. EachStmt IsFormed b) p.decls
program_formed t p d = of_program d.rule

-- what follows of each body
pub bodies_follow : (P Q : Body → Type 0) → ((b : Body) → P b → Q b) → (ds : List DeclTree) → EachBody P ds → EachBody Q ds
bodies_follow P Q f [] h = tt
bodies_follow P Q f (StructDecl r ∷ ds) h = (tt, bodies_follow P Q f ds h.1)
bodies_follow P Q f (FunctionDecl r ∷ ds) h = (f r.body h.0, bodies_follow P Q f ds h.1)
bodies_follow P Q f (ActorDecl r ∷ ds) h = (f r.body h.0, bodies_follow P Q f ds h.1)
