use Rattle.std.proofs.Common.{◌≡◌, List, [], ◌∷◌, ◌++◌, refl, ap, sym, ◌∙◌, append_assoc, append-nil, arith}
use Rattle.std.specs.declared.alloc.Global.{Global}
use Rattle.std.specs.declared.vec.Vec.{Vec}
use Rattle.std.specs.declared.option.Option.{Option}
use Rattle.std.specs.declared.option.Option.TheVariants.{None, Some}
use Rattle.flow_base.specs.declared.place.Place.{Place}
use Rattle.flow_tree.specs.declared.expr.Expr.{Expr}
use Rattle.flow_tree.specs.declared.stmt.Stmt.{Stmt}
use Rattle.flow_tree.specs.declared.stmt.When.{When}
use Rattle.flow_tree.specs.declared.stmt.StmtKind.TheVariants as kind
use Rattle.flow_tree.specs.View.{expr_of}
use Rattle.flow_tree.specs.StmtView.{stmt_of, body_of, branches_of, else_of, simple_of}
use Rattle.flow_tree.specs.Body.{Body, End, IfStmt, IfElseStmt}
use Rattle.flow_layout.proofs.StmtKinds.{is_break, is_continue, is_if, is_if_else, is_for, is_block, is_while, is_loop, is_return, is_throw, is_try, is_choose, is_declare, is_assign, is_modify, is_call, is_wait}
use Rattle.flow_explain.specs.Texts.{WaitText, when_places, waits_in, branch_waits, else_waits}
use Rattle.flow_explain.proofs.Listed.{body_next, body_end, branches_next, branches_end}
use Rattle.flow_explain.proofs.texts.+waits.Goals as goal

-- what a statement adds, and then what stands behind it
added : (s : Stmt) (put : Body → Body) (old new inner : List WaitText) → ((k : Body) → stmt_of s k ≡ put k) → ((k : Body) → inner ++ waits_in k ≡ waits_in (put k)) → new ≡ old ++ inner
    → (k : Body) → new ++ waits_in k ≡ old ++ waits_in (stmt_of s k)
added s put old new inner is whole eq k =
    ap (λ l. l ++ waits_in k) eq ∙ append_assoc old inner (waits_in k) ∙ ap (λ l. old ++ l) (whole k) ∙ ap (λ b. old ++ waits_in b) (sym (is k))

two : (old mid new a b : List WaitText) → mid ≡ old ++ a → new ≡ mid ++ b → new ≡ old ++ (a ++ b)
two old mid new a b e f = f ∙ ap (λ l. l ++ b) e ∙ append_assoc old a b

if_added : (s : Stmt) (e : Expr) (b : Vec Stmt Global) (o : Option (Vec Stmt Global)) (old mid new : List WaitText) → s.kind ≡ kind.If e b o → mid ≡ old ++ waits_in (body_of b.items)
    → new ≡ mid ++ else_waits (else_of o)
    → (k : Body) → new ++ waits_in k ≡ old ++ waits_in (stmt_of s k)
if_added s e b None old mid new is p q =
    added s (IfStmt s.at (expr_of e) (body_of b.items)) old new (waits_in (body_of b.items)) (λ k. is_if s e b k is) (λ k. refl) (q ∙ append-nil mid ∙ p)
if_added s e b (Some c) old mid new is p q =
    let first = waits_in (body_of b.items) in
    let second = waits_in (body_of c.items) in
    added s (IfElseStmt s.at (expr_of e) (body_of b.items) (body_of c.items)) old new (first ++ second) (λ k. is_if_else s e b c k is) (λ k. refl)
    (two old mid new first second p q)

two_bodies : (s : Stmt) (put : Body → Body) (old mid new : List WaitText) (x y b h : List Stmt) → ((k : Body) → stmt_of s k ≡ put k)
    → ((k : Body) → waits_in (body_of b) ++ waits_in (body_of h) ++ waits_in k ≡ waits_in (put k)) → mid ≡ old ++ waits_in (body_of x) → x ≡ b → new ≡ mid ++ waits_in (body_of y)
    → y ≡ h
    → (k : Body) → new ++ waits_in k ≡ old ++ waits_in (stmt_of s k)
two_bodies s put old mid new x y b h is whole p d q e =
    added s put old new (waits_in (body_of b) ++ waits_in (body_of h)) is whole
    (two old mid new (waits_in (body_of b)) (waits_in (body_of h)) (p ∙ ap (λ l. old ++ waits_in (body_of l)) d) (q ∙ ap (λ l. mid ++ waits_in (body_of l)) e))

for_parts : (s : Stmt) (put : Body → Body) (old first second new i t : List WaitText) (x b : List Stmt) → ((k : Body) → stmt_of s k ≡ put k)
    → ((k : Body) → i ++ t ++ waits_in (body_of b) ++ waits_in k ≡ waits_in (put k)) → first ≡ old ++ i → second ≡ first ++ t → new ≡ second ++ waits_in (body_of x) → x ≡ b
    → (k : Body) → new ++ waits_in k ≡ old ++ waits_in (stmt_of s k)
for_parts s put old first second new i t x b is whole p q r d =
    added s put old new (i ++ t ++ waits_in (body_of b)) is whole
    (two old second new (i ++ t) (waits_in (body_of b)) (two old first second i t p q) (r ∙ ap (λ l. second ++ waits_in (body_of l)) d))

choose_parts : (s : Stmt) (put : Body → Body) (old mid new : List WaitText) (at : Place) (w : WaitText) (y x bs : List When) → ((k : Body) → stmt_of s k ≡ put k)
    → ((k : Body) → (record { at = at; branches = when_places (branches_of bs) } ∷ branch_waits (branches_of bs)) ++ waits_in k ≡ waits_in (put k))
    → mid ≡ old ++ w ∷ [] → w ≡ record { at = at; branches = when_places (branches_of y) } → y ≡ bs → new ≡ mid ++ branch_waits (branches_of x) → x ≡ bs
    → (k : Body) → new ++ waits_in k ≡ old ++ waits_in (stmt_of s k)
choose_parts s put old mid new at w y x bs is whole p v d q e =
    let here : List When → WaitText = λ l. record { at = at; branches = when_places (branches_of l) } in
    added s put old new (here bs ∷ branch_waits (branches_of bs)) is whole
    (two old mid new (here bs ∷ []) (branch_waits (branches_of bs)) (p ∙ ap (λ u. old ++ u ∷ []) (v ∙ ap here d)) (q ∙ ap (λ l. mid ++ branch_waits (branches_of l)) e))

pub list_stmt-returns-in-Break : goal.list_stmt-returns-in-Break
list_stmt-returns-in-Break t c k = ap (λ b. c.args.waits.now.items ++ waits_in b) (sym (is_break c.args.stmt.now k c.in-Break.is))

pub list_stmt-returns-in-Continue : goal.list_stmt-returns-in-Continue
list_stmt-returns-in-Continue t c k = ap (λ b. c.args.waits.now.items ++ waits_in b) (sym (is_continue c.args.stmt.now k c.in-Continue.is))

pub list_stmt-returns-in-Return : goal.list_stmt-returns-in-Return
list_stmt-returns-in-Return t c k = ap (λ b. c.args.waits.now.items ++ waits_in b) (sym (is_return c.args.stmt.now _ k c.in-Return.is))

pub list_stmt-returns-in-Throw : goal.list_stmt-returns-in-Throw
list_stmt-returns-in-Throw t c k = ap (λ b. c.args.waits.now.items ++ waits_in b) (sym (is_throw c.args.stmt.now _ k c.in-Throw.is))

pub list_stmt-returns-in-Declare : goal.list_stmt-returns-in-Declare
list_stmt-returns-in-Declare t c k = ap (λ b. c.args.waits.now.items ++ waits_in b) (sym (is_declare c.args.stmt.now _ _ k c.in-Declare.is))

pub list_stmt-returns-in-Assign : goal.list_stmt-returns-in-Assign
list_stmt-returns-in-Assign t c k = ap (λ b. c.args.waits.now.items ++ waits_in b) (sym (is_assign c.args.stmt.now _ _ k c.in-Assign.is))

pub list_stmt-returns-in-Modify : goal.list_stmt-returns-in-Modify
list_stmt-returns-in-Modify t c k = ap (λ b. c.args.waits.now.items ++ waits_in b) (sym (is_modify c.args.stmt.now _ _ k c.in-Modify.is))

pub list_stmt-returns-in-Call : goal.list_stmt-returns-in-Call
list_stmt-returns-in-Call t c k = ap (λ b. c.args.waits.now.items ++ waits_in b) (sym (is_call c.args.stmt.now _ _ k c.in-Call.is))

pub list_stmt-returns-in_ok-list_body-in-Block : goal.list_stmt-returns-in_ok-list_body-in-Block
list_stmt-returns-in_ok-list_body-in-Block t c =
    added c.args.stmt.now _ c.args.waits.now.items _ (waits_in (body_of c.in-Block.body.items)) (λ k. is_block c.args.stmt.now c.in-Block.body k c.in-Block.is) (λ k. refl)
    (c.in_ok-list_body-in-Block.ensures ∙ ap (λ l. c.args.waits.now.items ++ waits_in (body_of l)) c.deref.ensures.value)

pub list_stmt-returns-in_ok-list_body-in-While : goal.list_stmt-returns-in_ok-list_body-in-While
list_stmt-returns-in_ok-list_body-in-While t c =
    added c.args.stmt.now _ c.args.waits.now.items _ (waits_in (body_of c.in-While.body.items)) (λ k. is_while c.args.stmt.now _ c.in-While.body k c.in-While.is) (λ k. refl)
    (c.in_ok-list_body-in-While.ensures ∙ ap (λ l. c.args.waits.now.items ++ waits_in (body_of l)) c.deref-in-While.ensures.value)

pub list_stmt-returns-in_ok-list_body-in-Loop : goal.list_stmt-returns-in_ok-list_body-in-Loop
list_stmt-returns-in_ok-list_body-in-Loop t c =
    added c.args.stmt.now _ c.args.waits.now.items _ (waits_in (body_of c.in-Loop.body.items)) (λ k. is_loop c.args.stmt.now c.in-Loop.body k c.in-Loop.is) (λ k. refl)
    (c.in_ok-list_body-in-Loop.ensures ∙ ap (λ l. c.args.waits.now.items ++ waits_in (body_of l)) c.deref-in-Loop.ensures.value)

pub list_stmt-returns-in_ok-push-in-Wait : goal.list_stmt-returns-in_ok-push-in-Wait
list_stmt-returns-in_ok-push-in-Wait t c =
    let at = c.args.stmt.now.at in
    added c.args.stmt.now _ c.args.waits.now.items _ (record { at = at; branches = at ∷ [] } ∷ []) (λ k. is_wait c.args.stmt.now _ k c.in-Wait.is) (λ k. refl)
    (c.in_ok-push-in-Wait.ensures.items ∙ ap (λ w. c.args.waits.now.items ++ w ∷ []) c.in_ok-alone-in-Wait.ensures)

pub list_stmt-returns-in_ok-list_else-in-If : goal.list_stmt-returns-in_ok-list_else-in-If
list_stmt-returns-in_ok-list_else-in-If t c =
    if_added c.args.stmt.now _ c.in-If.chosen c.in-If.otherwise c.args.waits.now.items _ _ c.in-If.is
    (c.in_ok-list_body-in-If.ensures ∙ ap (λ l. c.args.waits.now.items ++ waits_in (body_of l)) c.deref-in-If.ensures.value) c.in_ok-list_else-in-If.ensures

pub list_stmt-returns-in_ok-list_body-in-Try-2 : goal.list_stmt-returns-in_ok-list_body-in-Try-2
list_stmt-returns-in_ok-list_body-in-Try-2 t c =
    two_bodies c.args.stmt.now _ _ _ _ _ _ c.in-Try.body.items c.in-Try.handler.items (λ k. is_try c.args.stmt.now c.in-Try.body _ _ c.in-Try.handler k c.in-Try.is)
    (λ k. refl) c.in_ok-list_body-in-Try.ensures
    c.deref-in-Try.ensures.value c.in_ok-list_body-in-Try-2.ensures c.deref-in-Try-2.ensures.value

pub list_stmt-returns-in_ok-list_body-in-For : goal.list_stmt-returns-in_ok-list_body-in-For
list_stmt-returns-in_ok-list_body-in-For t c =
    for_parts c.args.stmt.now _ _ _ _ _ _ _ _ c.in-For.body.items (λ k. is_for c.args.stmt.now c.in-For.init _ c.in-For.step c.in-For.body k c.in-For.is) (λ k. refl) c.in_ok-list_part-in-For.ensures
    c.in_ok-list_part-in-For-2.ensures c.in_ok-list_body-in-For.ensures c.deref-in-For.ensures.value

pub list_stmt-returns-in_ok-list_branches-in-Choose : goal.list_stmt-returns-in_ok-list_branches-in-Choose
list_stmt-returns-in_ok-list_branches-in-Choose t c =
    choose_parts c.args.stmt.now _ _ _ _ _ _ _ _ c.in-Choose.branches.items (λ k. is_choose c.args.stmt.now c.in-Choose.branches k c.in-Choose.is) (λ k. refl)
    c.in_ok-push-in-Choose.ensures.items c.in_ok-among-in-Choose.ensures c.deref-in-Choose.ensures.value
    c.in_ok-list_branches-in-Choose.ensures c.deref-in-Choose-2.ensures.value

pub list_body-loop-stmt-preserved : goal.list_body-loop-stmt-preserved
list_body-loop-stmt-preserved t c =
    body_next c.args.stmts.now c.loop-stmt.stmt-index c.stmt-item.result _ _ _ (omega (arith, c.loop-stmt-test.true)) c.stmt-item.is c.in_ok-list_stmt.ensures c.loop-stmt.invariant

pub list_body-returns : goal.list_body-returns
list_body-returns t c = body_end c.args.stmts.now c.loop-stmt.stmt-index _ _ (omega (arith, c.loop-stmt-test.false)) c.loop-stmt.invariant

pub list_branches-loop-branch-preserved : goal.list_branches-loop-branch-preserved
list_branches-loop-branch-preserved t c =
    branches_next c.args.branches.now c.loop-branch.branch-index c.branch-item.result _ _ _ (omega (arith, c.loop-branch-test.true)) c.branch-item.is c.in_ok-list_branch.ensures
    c.loop-branch.invariant

pub list_branches-returns : goal.list_branches-returns
list_branches-returns t c = branches_end c.args.branches.now c.loop-branch.branch-index _ _ (omega (arith, c.loop-branch-test.false)) c.loop-branch.invariant

pub list_else-returns-in-None : goal.list_else-returns-in-None
list_else-returns-in-None t c =
    sym (append-nil c.args.waits.now.items) ∙ ap (λ o. c.args.waits.now.items ++ else_waits (else_of o)) (sym c.in-None.is)

pub list_else-returns-in-Some : goal.list_else-returns-in-Some
list_else-returns-in-Some t c = rw c.in-Some.is (rw c.deref.ensures.value at c.list_body.ensures)

pub list_part-returns-in-None : goal.list_part-returns-in-None
list_part-returns-in-None t c =
    sym (append-nil c.args.waits.now.items) ∙ ap (λ o. c.args.waits.now.items ++ waits_in (simple_of o)) (sym c.in-None.is)

pub list_part-returns-in_ok-list_stmt-in-Some : goal.list_part-returns-in_ok-list_stmt-in-Some
list_part-returns-in_ok-list_stmt-in-Some t c =
    sym (append-nil c.list_stmt.new.waits.items) ∙ c.in_ok-list_stmt-in-Some.ensures End
    ∙ ap (λ s. c.args.waits.now.items ++ waits_in (stmt_of s End)) c.deref.ensures
    ∙ ap (λ o. c.args.waits.now.items ++ waits_in (simple_of o)) (sym c.in-Some.is)
