-- What the grammar says of a body: no more variables are declared than it has tokens.
use Rattle.std.proofs.Common.{◌≡◌, ℕ, suc, ◌+◌, ◌≤◌, Bool, true, false, List, [], ◌∷◌, ◌++◌, length, if◌then◌else◌, refl, ap, ◌∙◌, arith, length-append}
use Rattle.std.specs.declared.option.Option.{Option}
use Rattle.std.specs.declared.option.Option.TheVariants.{None, Some}
use Rattle.flow_base.specs.declared.place.Place.{Place}
use Rattle.flow_tree.specs.declared.token.Word.TheVariants as word
use Rattle.flow_tree.specs.declared.token.Sign.TheVariants as sign
use Rattle.flow_tree.specs.declared.decl.RoutineKind.{RoutineKind}
use Rattle.flow_tree.specs.Body.{IntoTree, WaitTree, Body, End, DeclareStmt, WaitStmt, Branches, ForStmt, ModifyStmt}
use Rattle.flow_tree.specs.Decls.{SlotTree}
use Rattle.flow_tree.specs.GrammarToken.{Part, Statement, Node, Marked, begin}
use Rattle.flow_tree.specs.Grammar.{sign_at, word_at, name_at}
use Rattle.flow_tree.specs.GrammarStmt.{Counts, begin_statement, IntoRule, declared, WaitingRule, plain_wait, into_wait, AssignRule, assign, plus, minus, up, down, InitRule, declare, declare_value, change, InitPart, no_init, some_init, StepPart, no_step, some_step, PlainRule, if_stmt, if_else_stmt, while_stmt, for_stmt, loop_stmt, break_stmt, continue_stmt, return_stmt, throw_stmt, try_stmt, choose_stmt, init_stmt, wait_stmt, call_stmt, StmtRule, block_stmt, plain_stmt, BlockRule, braces, BodyRule, block_body, one_body, StmtsRule, no_stmts, more_stmts, WhensRule, no_whens, more_whens, WhenRule, branch}
use Rattle.flow_ast.specs.Slots.{stmt_slots, slots_listed, body_slots, declared_slots, into_slots}
use Rattle.flow_split.specs.Counts.{local_count, into_count, locals_in, branch_local_count}
use Rattle.flow_tree.specs.Folds.{Fold, folded, folded_branches, counting}
use Rattle.flow_tree.specs.Formed.{IsFormed}
use Rattle.flow_tree.proofs.Folds.{each_follows, folds_alike}
use Rattle.flow_tree.proofs.Formed.{stmts_formed}
use Rattle.flow_lowering_laws.specs.Actors.Parts.{HasPart, HasParts}

-- how many state variables a body declares
abbrev pub state_count : IntoTree → ℕ
state_count i = if i.state then 1 else 0

abbrev pub into_states : Option IntoTree → ℕ
into_states None = 0
into_states (Some i) = state_count i

abbrev pub stmt_states : Body → ℕ → ℕ
stmt_states (DeclareStmt at i e k) n = state_count i + n
stmt_states (WaitStmt at w k) n = into_states w.into + n
stmt_states b n = n

abbrev pub states_counted : Fold ℕ
states_counted = counting stmt_states (λ x n. n) (λ w n. into_states w.into + n)

abbrev pub states_in : Body → ℕ
states_in b = folded states_counted b

abbrev pub branch_states : Branches → ℕ
branch_states bs = folded_branches states_counted bs

two : (xs ys : List SlotTree) (a b : ℕ) → length xs ≡ a → length ys ≡ b → length (xs ++ ys) ≡ a + b
two xs ys a b e f = omega (arith, length-append xs ys, e, f)

declared_count : (i : IntoTree) → length (declared_slots i) ≡ state_count i
declared_count i = by_state i.state (record { ty = i.ty; name = i.name.name })
  where
    by_state : (b : Bool) (s : SlotTree) → length (if b then s ∷ [] else []) ≡ (if b then 1 else 0)
    by_state true s = refl
    by_state false s = refl

into_slots_count : (o : Option IntoTree) → length (into_slots o) ≡ into_states o
into_slots_count None = refl
into_slots_count (Some i) = declared_count i

stmt_slots_count : (s : Body) (xs : List SlotTree) (n : ℕ) → length xs ≡ n → length (stmt_slots s ++ xs) ≡ stmt_states s n
stmt_slots_count (DeclareStmt at i e k) xs n h = two (declared_slots i) xs _ n (declared_count i) h
stmt_slots_count (WaitStmt at w k) xs n h = two (into_slots w.into) xs _ n (into_slots_count w.into) h
stmt_slots_count _ xs n h = h

pub slots_count : (b : Body) → length (body_slots b) ≡ states_in b
slots_count b = folds_alike (λ (xs : List SlotTree) n. length xs ≡ n) slots_listed states_counted (record {
  nothing = refl;
  both = two;
  of_stmt = λ s xs n p h. stmt_slots_count s xs n h;
  of_catch = λ x xs n h. h;
  of_wait = λ at w k xs n p h. two (into_slots w.into) xs _ n (into_slots_count w.into) h;
}) b

-- how many variables a body declares
abbrev pub variables : Body → ℕ
variables b = states_in b + locals_in b

abbrev pub branch_variables : Branches → ℕ
branch_variables bs = branch_states bs + branch_local_count bs

-- tokens of statements put before a body: no more variables than tokens
abbrev pub Puts : List Marked → Body → Body → Type 0
Puts all rest body = variables body ≤ length all + variables rest

abbrev PutsBranches : List Marked → Branches → Branches → Type 0
PutsBranches all rest bs = branch_variables bs ≤ length all + branch_variables rest

-- the tokens of a whole body
abbrev pub Makes : List Marked → Body → Type 0
Makes all body = variables body ≤ length all

pub begun : (p : Part) (xs : List Marked) → length (begin p xs) ≡ length xs
begun p [] = refl
begun p (x ∷ xs) = refl

statement_begun : (c : Counts) (d : ℕ) (xs : List Marked) → length (begin_statement c d xs) ≡ length xs
statement_begun c d xs = begun (Statement (suc c.statements)) (begin (Node d) xs) ∙ begun (Node d) xs

one_variable : (i : IntoTree) → state_count i + local_count i ≡ 1
one_variable i = by_state i.state
  where
    by_state : (b : Bool) → (if b then 1 else 0) + (if b then 0 else 1) ≡ 1
    by_state true = omega arith
    by_state false = omega arith

into_tokens : {home : RoutineKind} {d : ℕ} {c c' : Counts} {all : List Marked} {i : IntoTree} → IntoRule home d c c' all i → state_count i + local_count i ≤ length all
into_tokens {i = i} (declared x kept of s t eq) =
    let e = ap length eq in
    omega (arith, one_variable i, e, length-append kept (of ++ name_at x ∷ []), length-append of (name_at x ∷ []))

waiting_tokens : {home : RoutineKind} {d : ℕ} {c c' : Counts} {all : List Marked} {w : WaitTree} → WaitingRule home d c c' all w → into_states w.into + into_count w.into ≤ length all
waiting_tokens (plain_wait o) = omega arith
waiting_tokens (into_wait p left right i o eq) =
    let e = ap length eq in
    omega (arith, into_tokens i, e, length-append left (sign_at sign.Assign p ∷ right))

assign_puts : {d : ℕ} {all : List Marked} {at : Place} {rest body : Body} → AssignRule d all at rest body → Puts all rest body
assign_puts (assign at p path value r e eq s) = omega arith
assign_puts (plus at p path value r e eq s) = omega arith
assign_puts (minus at p path value r e eq s) = omega arith
assign_puts (up at p path r eq s) = omega arith
assign_puts (down at p path r eq s) = omega arith

init_puts : {home : RoutineKind} {d : ℕ} {c c' : Counts} {all : List Marked} {at : Place} {rest body : Body} → InitRule home d c c' all at rest body → Puts all rest body
init_puts (declare at i s) = omega (arith, into_tokens i)
init_puts (declare_value at p left value i e eq s) = omega (arith, into_tokens i, ap length eq, length-append left (sign_at sign.Assign p ∷ value))
init_puts (change at r) = assign_puts r

-- the parts of a `for`
step_alone : {d : ℕ} {all : List Marked} {at : Place} {body : Body} → AssignRule d all at End body → variables body ≡ 0
step_alone (assign at p path value r e eq s) = refl
step_alone (plus at p path value r e eq s) = refl
step_alone (minus at p path value r e eq s) = refl
step_alone (up at p path r eq s) = refl
step_alone (down at p path r eq s) = refl

init_part : {home : RoutineKind} {d : ℕ} {c c' : Counts} {all : List Marked} {body : Body} → InitPart home d c c' all body → Makes all body
init_part no_init = omega arith
init_part {d = d} {c = c} (some_init at xs r eq) = omega (arith, init_puts r, ap length eq, statement_begun c d xs)

step_part : {d : ℕ} {c c' : Counts} {all : List Marked} {body : Body} → StepPart d c c' all body → variables body ≡ 0
step_part no_step = refl
step_part (some_step at xs r eq) = step_alone r

mutual
  plain_puts : {home : RoutineKind} {d : ℕ} {c c' : Counts} {all : List Marked} {at : Place} {rest body : Body} {e : Bool} → PlainRule home d c c' all at rest body e → Puts all rest body
  plain_puts (if_stmt at p q test body t b eq) = omega (arith, body_makes b, ap length eq, length-append test (sign_at sign.CloseRound q ∷ body))
  plain_puts (if_else_stmt at p q r test body other t b d eq) =
      omega (
        arith,
        body_makes b,
        body_makes d,
        ap length eq,
        length-append test (sign_at sign.CloseRound q ∷ (body ++ (word_at word.Else r ∷ other))),
        length-append body (word_at word.Else r ∷ other),
      )
  plain_puts (while_stmt at p q test body t b eq) = omega (arith, body_makes b, ap length eq, length-append test (sign_at sign.CloseRound q ∷ body))
  plain_puts (for_stmt at p q r s init test step body i t n b eq) =
      let a = init_part i in
      let z = step_part n in
      let m = body_makes b in
      omega (
        arith,
        a,
        z,
        m,
        ap length eq,
        length-append init (sign_at sign.Semicolon q ∷ (test ++ (sign_at sign.Semicolon r ∷ (step ++ (sign_at sign.CloseRound s ∷ body))))),
        length-append test (sign_at sign.Semicolon r ∷ (step ++ (sign_at sign.CloseRound s ∷ body))),
        length-append step (sign_at sign.CloseRound s ∷ body),
      )
  plain_puts (loop_stmt at body b eq) = omega (arith, body_makes b, ap length eq)
  plain_puts (try_stmt at p q r s u x body caught b h eq) =
      let m = block_makes b in
      let n = block_makes h in
      let tail = word_at word.Catch p ∷ sign_at sign.OpenRound q ∷ word_at word.Error r ∷ sign_at sign.Amp s ∷ name_at x ∷ sign_at sign.CloseRound u ∷ caught in
      omega (arith, m, n, ap length eq, length-append body tail)
  plain_puts (choose_stmt at p q first more w ws eq) =
      omega (arith, whens_make ws, when_puts w, ap length eq, length-append first (more ++ sign_at sign.CloseCurly q ∷ []), length-append more (sign_at sign.CloseCurly q ∷ []))
  plain_puts (init_stmt at p xs r eq) = omega (arith, init_puts r, ap length eq, length-append xs (sign_at sign.Semicolon p ∷ []))
  plain_puts (wait_stmt at p xs w eq s) = omega (arith, waiting_tokens w, ap length eq, length-append xs (sign_at sign.Semicolon p ∷ []))
  plain_puts _ = omega arith

  stmt_puts : {home : RoutineKind} {d : ℕ} {c c' : Counts} {all : List Marked} {rest body : Body} {e : Bool} → StmtRule home d c c' all rest body e → Puts all rest body
  stmt_puts {d = d} {c = c} (block_stmt at xs b s eq) = omega (arith, block_makes b, ap length eq, statement_begun c d xs)
  stmt_puts {d = d} {c = c} (plain_stmt at xs r eq) = omega (arith, plain_puts r, ap length eq, statement_begun c d xs)

  block_makes : {home : RoutineKind} {d : ℕ} {c c' : Counts} {all : List Marked} {body : Body} → BlockRule home d c c' all body → Makes all body
  block_makes (braces p q xs r eq) = omega (arith, stmts_make r, ap length eq, length-append xs (sign_at sign.CloseCurly q ∷ []))

  body_makes : {home : RoutineKind} {d : ℕ} {c c' : Counts} {all : List Marked} {body : Body} {e : Bool} → BodyRule home d c c' all body e → Makes all body
  body_makes (block_body b) = block_makes b
  body_makes {d = d} {c = c} (one_body at xs r eq) = omega (arith, plain_puts r, ap length eq, statement_begun c d xs)

  pub stmts_make : {home : RoutineKind} {d : ℕ} {c c' : Counts} {all : List Marked} {body : Body} → StmtsRule home d c c' all body → Makes all body
  stmts_make no_stmts = omega arith
  stmts_make (more_stmts first more r rs eq) = omega (arith, stmt_puts r, stmts_make rs, ap length eq, length-append first more)

  whens_make : {home : RoutineKind} {d n : ℕ} {c c' : Counts} {all : List Marked} {bs : Branches} → WhensRule home d n c c' all bs → branch_variables bs ≤ length all
  whens_make no_whens = omega arith
  whens_make (more_whens first more w ws eq) = omega (arith, when_puts w, whens_make ws, ap length eq, length-append first more)

  when_puts : {home : RoutineKind} {d n : ℕ} {c c' : Counts} {all : List Marked} {rest bs : Branches} → WhenRule home d n c c' all rest bs → PutsBranches all rest bs
  when_puts (branch at p q xs body w b eq) = omega (arith, waiting_tokens w, body_makes b, ap length eq, length-append xs (sign_at sign.CloseRound q ∷ body))

-- the parts of each `for` are simple, and each change has a target
has_part : (s : Body) → IsFormed s → HasPart s
has_part (ForStmt at i e t b k) h = h
has_part (ModifyStmt at xs c k) h = h
has_part _ h = tt

pub stmts_parts : {home : RoutineKind} {d : ℕ} {c c' : Counts} {all : List Marked} {body : Body} → StmtsRule home d c c' all body → HasParts body
stmts_parts {body = body} r = each_follows IsFormed HasPart has_part body (stmts_formed r)
