use Rattle.std.proofs.Common.{suc, ◌++◌, refl, ap, ap₂, ◌∙◌, arith}
use Rattle.std.specs.Prelude.{codes}
use Rattle.flow_tree.specs.View.{expr_of}
use Rattle.flow_tree.specs.StmtView.{body_of, branches_of}
use Rattle.flow_tree.specs.Canon.{line, expr_text, body_text, branches_text}
use Rattle.flow_tree.proofs.Views.{kind_block, kind_while, kind_for, kind_loop, kind_try, kind_choose}
use Rattle.flow_show.proofs.StatementKinds.{puts_kind, puts_if, for_text}
use Rattle.flow_show.proofs.Texts.{one_by_one, three, five, body_step, body_end, branches_step, branches_end}
use Rattle.flow_show.proofs.source.Source.+stmt.Goals as goal

pub put_nested-returns-in_ok-put_handler-in-Try : goal.put_nested-returns-in_ok-put_handler-in-Try
put_nested-returns-in_ok-put_handler-in-Try t c =
    let k = c.args.level in
    puts_kind k c.args.stmt.now _ _ _ _ _ c.in-Try.is (kind_try c.in-Try.body c.in-Try.field-1 c.in-Try.error c.in-Try.handler) (λ at rest. refl)
    (five c.args.self.now _ _ _ (line k (codes "try {")) _ _ _ _ c.in_ok-put_line-in-Try.ensures c.in_ok-put_deeper-in-Try.ensures c.in_ok-put_handler-in-Try.ensures
    ∙ ap₂ (λ b h. c.args.self.now ++ (line k (codes "try {") ++ body_text (suc k) (body_of b) ++ line k (codes "} catch (Error& " ++ c.in-Try.error.name ++ codes ") {")
    ++ body_text (suc k) (body_of h) ++ line k (codes "}")))
    c.deref-in-Try.ensures.value c.deref-in-Try-2.ensures.value)

pub put_nested-returns-in_ok-put_branches-in-Choose : goal.put_nested-returns-in_ok-put_branches-in-Choose
put_nested-returns-in_ok-put_branches-in-Choose t c =
    let k = c.args.level in
    puts_kind k c.args.stmt.now _ _ _ _ _ c.in-Choose.is (kind_choose c.in-Choose.branches) (λ at rest. refl)
    (three c.args.self.now _ _ (line k (codes "choose {")) _ _ c.in_ok-put_line-in-Choose.ensures c.in_ok-put_branches-in-Choose.ensures
    ∙ ap (λ b. c.args.self.now ++ (line k (codes "choose {") ++ branches_text (suc k) (branches_of b) ++ line k (codes "}"))) c.deref-in-Choose.ensures.value)

pub put_nested-returns-in_ok-put_inner-in-Block : goal.put_nested-returns-in_ok-put_inner-in-Block
put_nested-returns-in_ok-put_inner-in-Block t c =
    let k = c.args.level in
    puts_kind k c.args.stmt.now _ _ _ _ _ c.in-Block.is (kind_block c.in-Block.body) (λ at rest. refl)
    (three c.args.self.now _ _ (line k (codes "{")) _ _ c.in_ok-put_line-in-Block.ensures c.in_ok-put_inner-in-Block.ensures
    ∙ ap (λ b. c.args.self.now ++ (line k (codes "{") ++ body_text (suc k) (body_of b) ++ line k (codes "}"))) c.deref.ensures.value)

pub put_nested-returns-in_ok-put_else-in-If : goal.put_nested-returns-in_ok-put_else-in-If
put_nested-returns-in_ok-put_else-in-If t c =
    let k = c.args.level in
    puts_if k c.args.stmt.now c.in-If.test c.in-If.body c.in-If.otherwise _ _ c.in-If.is
    (one_by_one c.args.self.now _ _ _ (line k (codes "if (" ++ expr_text (expr_of c.in-If.test) ++ codes ") {")) _ _ c.in_ok-put_around-in-If.ensures
    (c.in_ok-put_deeper-in-If.ensures ∙ ap (λ b. c.put_around.new.self ++ body_text (suc k) (body_of b)) c.deref-in-If.ensures.value)
    c.in_ok-put_else-in-If.ensures)

pub put_nested-returns-in_ok-put_inner-in-While : goal.put_nested-returns-in_ok-put_inner-in-While
put_nested-returns-in_ok-put_inner-in-While t c =
    let k = c.args.level in
    let first = line k (codes "while (" ++ expr_text (expr_of c.in-While.test) ++ codes ") {") in
    puts_kind k c.args.stmt.now _ _ _ _ _ c.in-While.is (kind_while c.in-While.test c.in-While.body) (λ at rest. refl)
    (three c.args.self.now _ _ first _ _ c.in_ok-put_around-in-While.ensures c.in_ok-put_inner-in-While.ensures
    ∙ ap (λ b. c.args.self.now ++ (line k (codes "while (" ++ expr_text (expr_of c.in-While.test) ++ codes ") {") ++ body_text (suc k) (body_of b) ++ line k (codes "}")))
    c.deref-in-While.ensures.value)

pub put_nested-returns-in_ok-put_inner-in-For : goal.put_nested-returns-in_ok-put_inner-in-For
put_nested-returns-in_ok-put_inner-in-For t c =
    let k = c.args.level in
    puts_kind k c.args.stmt.now _ _ _ _ _ c.in-For.is (kind_for c.in-For.init c.in-For.test c.in-For.step c.in-For.body) (λ at rest. refl)
    (three c.args.self.now _ _ (for_text k c.in-For.init c.in-For.test c.in-For.step) _ _ c.in_ok-put_for-in-For.ensures c.in_ok-put_inner-in-For.ensures
    ∙ ap (λ b. c.args.self.now ++ (for_text k c.in-For.init c.in-For.test c.in-For.step ++ body_text (suc k) (body_of b) ++ line k (codes "}"))) c.deref-in-For.ensures.value)

pub put_nested-returns-in_ok-put_inner-in-Loop : goal.put_nested-returns-in_ok-put_inner-in-Loop
put_nested-returns-in_ok-put_inner-in-Loop t c =
    let k = c.args.level in
    puts_kind k c.args.stmt.now _ _ _ _ _ c.in-Loop.is (kind_loop c.in-Loop.body) (λ at rest. refl)
    (three c.args.self.now _ _ (line k (codes "loop {")) _ _ c.in_ok-put_line-in-Loop.ensures c.in_ok-put_inner-in-Loop.ensures
    ∙ ap (λ b. c.args.self.now ++ (line k (codes "loop {") ++ body_text (suc k) (body_of b) ++ line k (codes "}"))) c.deref-in-Loop.ensures.value)

pub put_body-loop-stmt-preserved : goal.put_body-loop-stmt-preserved
put_body-loop-stmt-preserved t c =
    body_step c.args.level c.args.body.now c.loop-stmt.stmt-index c.stmt-item.result _ _ _ (omega (arith, c.loop-stmt-test.true)) c.stmt-item.is c.in_ok-put_stmt.ensures c.loop-stmt.invariant

pub put_body-returns : goal.put_body-returns
put_body-returns t c = body_end c.args.level c.args.body.now _ _ c.loop-stmt.stmt-index (omega (arith, c.loop-stmt-test.false)) c.loop-stmt.invariant

pub put_whens-loop-branch-preserved : goal.put_whens-loop-branch-preserved
put_whens-loop-branch-preserved t c =
    branches_step c.args.level c.args.branches.now c.loop-branch.branch-index c.branch-item.result _ _ _ (omega (arith, c.loop-branch-test.true)) c.branch-item.is c.in_ok-put_when.ensures
    c.loop-branch.invariant

pub put_whens-returns : goal.put_whens-returns
put_whens-returns t c = branches_end c.args.level c.args.branches.now _ _ c.loop-branch.branch-index (omega (arith, c.loop-branch-test.false)) c.loop-branch.invariant
