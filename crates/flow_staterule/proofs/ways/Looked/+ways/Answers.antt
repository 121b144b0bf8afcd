use Rattle.std.proofs.Common.{◌≡◌, ℕ, ◌-◌, length, refl, sym, ap, ap₂, ◌∙◌, arith}
use Rattle.flow_tree.specs.declared.stmt.Stmt.{Stmt}
use Rattle.flow_tree.specs.StmtView.{stmt_of, body_of}
use Rattle.flow_tree.specs.Body.{Body}
use Rattle.flow_ast.specs.Slots.{body_groups}
use Rattle.flow_layout.proofs.StmtKinds.{is_block, is_break, is_continue, is_return, is_throw, is_while, is_loop, is_declare, is_assign, is_modify, is_call, is_wait}
use Rattle.flow_staterule.specs.declared.ways.Ways.{Ways}
use Rattle.flow_staterule.specs.Ways.{ways, sequence, both, follow, plain, looped}
use Rattle.flow_staterule.proofs.Passing.{past_two, ways_next, looked_next, ways_end, looked_end, branch_ways_next, branch_looked_next, branch_ways_end, branch_looked_end}
use Rattle.flow_staterule.proofs.EachWay.{waits_while, waits_loop, waits_if, waits_for, waits_try, waits_choose, ways_if, ways_for, ways_choose}
use Rattle.flow_staterule.proofs.ways.Looked.+ways.Goals as goal

-- the ways out of a statement by its kind, and the waits behind one that has none
ways_as : (s : Stmt) (put : Body → Body) (n m l : ℕ) (w u : Ways) → ((k : Body) → stmt_of s k ≡ put k) → m ≡ l → w ≡ u → ((k : Body) → ways n (put k) ≡ sequence u (ways l k))
    → (k : Body) → ways n (stmt_of s k) ≡ sequence w (ways m k)
ways_as s put n m l w u is me we h k = ap (ways n) (is k) ∙ h k ∙ sym (ap₂ (λ x y. sequence x (ways y k)) we me)

no_waits : (s : Stmt) (put : Body → Body) (n m : ℕ) → ((k : Body) → stmt_of s k ≡ put k) → m ≡ n → ((k : Body) → length (body_groups (put k)) ≡ length (body_groups k))
    → (k : Body) → n - length (body_groups (stmt_of s k)) ≡ m - length (body_groups k)
no_waits s put n m is me h k = ap (λ b. n - length (body_groups b)) (is k) ∙ ap (λ x. n - x) (h k) ∙ ap (λ x. x - length (body_groups k)) (sym me)

pub body-loop-stmt-preserved : goal.body-loop-stmt-preserved
body-loop-stmt-preserved t c = (
  ways_next c.args.stmts.now c.loop-stmt.stmt-index c.stmt-item.result _ _ _ _ _ _ (omega (arith, c.loop-stmt-test.true)) c.stmt-item.is c.sequence.ensures c.stmt-more.ensures.ways
      c.loop-stmt.invariant.0,
  looked_next c.args.stmts.now c.loop-stmt.stmt-index c.stmt-item.result _ _ _ (omega (arith, c.loop-stmt-test.true)) c.stmt-item.is c.stmt-more.ensures.looked c.loop-stmt.invariant.1,
)

pub body-returns-clause-ways : goal.body-returns-clause-ways
body-returns-clause-ways t c = ways_end c.args.stmts.now c.loop-stmt.stmt-index _ _ _ (omega (arith, c.loop-stmt-test.false)) c.loop-stmt.invariant.0

pub branches-loop-branch-preserved : goal.branches-loop-branch-preserved
branches-loop-branch-preserved t c = (
  branch_ways_next c.args.branches.now c.loop-branch.branch-index c.branch-item.result _ _ _ _ _ _ (omega (arith, c.loop-branch-test.true)) c.branch-item.is c.both.ensures c.branch-more.ensures.ways
      c.loop-branch.invariant.0,
  branch_looked_next c.args.branches.now c.loop-branch.branch-index c.branch-item.result _ _ _ (omega (arith, c.loop-branch-test.true)) c.branch-item.is c.branch-more.ensures.looked
      c.loop-branch.invariant.1,
)

pub branches-returns-clause-ways : goal.branches-returns-clause-ways
branches-returns-clause-ways t c = branch_ways_end c.args.branches.now c.loop-branch.branch-index _ _ _ (omega (arith, c.loop-branch-test.false)) c.loop-branch.invariant.0

pub stmt-returns-in-If-clause-ways : goal.stmt-returns-in-If-clause-ways
stmt-returns-in-If-clause-ways t c =
    ways_if c.args.stmt.now _ _ c.in-If.otherwise c.deref.result.now c.body-chosen.result.ways _ c.args.self.0 c.body-chosen.result.looked.0 _ c.in-If.is c.deref.ensures.value
    c.body-chosen.ensures.ways c.body-chosen.ensures.looked c.branching.ensures.ways c.branching.ensures.looked

pub stmt-returns-in-If-clause-looked : goal.stmt-returns-in-If-clause-looked
stmt-returns-in-If-clause-looked t c =
    waits_if c.args.stmt.now _ _ c.in-If.otherwise c.deref.result.now c.args.self.0 c.body-chosen.result.looked.0 _ c.in-If.is c.deref.ensures.value c.body-chosen.ensures.looked
    c.branching.ensures.looked

pub stmt-returns-in-For-clause-ways : goal.stmt-returns-in-For-clause-ways
stmt-returns-in-For-clause-ways t c =
    ways_for c.args.stmt.now c.in-For.init c.in-For.test c.in-For.step _ c.deref-in-For.result.now c.part-init.result.ways c.part-step.result.ways c.body-body.result.ways c.sequence.result
    c.args.self.0 c.part-init.result.looked.0 c.part-step.result.looked.0 _ c.in-For.is c.deref-in-For.ensures.value c.part-init.ensures.ways c.part-init.ensures.looked
    c.part-step.ensures.ways c.part-step.ensures.looked c.body-body.ensures.ways c.body-body.ensures.looked
    (c.sequence.ensures ∙ ap (sequence c.part-init.result.ways) (c.looped-in-For.ensures ∙ ap₂ looped c.leads_past.ensures c.with_step-round.ensures))

pub stmt-returns-in-For-clause-looked : goal.stmt-returns-in-For-clause-looked
stmt-returns-in-For-clause-looked t c =
    waits_for c.args.stmt.now c.in-For.init c.in-For.test c.in-For.step _ c.deref-in-For.result.now c.args.self.0 c.part-init.result.looked.0 c.part-step.result.looked.0 _
    c.in-For.is c.deref-in-For.ensures.value c.part-init.ensures.looked c.part-step.ensures.looked c.body-body.ensures.looked

pub stmt-returns-in-Try-clause-looked : goal.stmt-returns-in-Try-clause-looked
stmt-returns-in-Try-clause-looked t c =
    waits_try c.args.stmt.now _ _ _ _ c.deref-in-Try.result.now c.deref-in-Try-2.result.now c.args.self.0 c.body-body-in-Try.result.looked.0 _ c.in-Try.is
    c.deref-in-Try.ensures.value c.deref-in-Try-2.ensures.value c.body-body-in-Try.ensures.looked c.body-handler.ensures.looked

pub stmt-returns-in-Break-clause-ways : goal.stmt-returns-in-Break-clause-ways
stmt-returns-in-Break-clause-ways t c =
    ways_as c.args.stmt.now _ c.args.self.0 _ c.args.self.0 _ _ (λ k. is_break c.args.stmt.now k c.in-Break.is) (ap (λ l. l.0) c.none_of.ensures.looked) (c.none_of.ensures.ways ∙ c.breaking.ensures)
    (λ k. refl)

pub stmt-returns-in-Break-clause-looked : goal.stmt-returns-in-Break-clause-looked
stmt-returns-in-Break-clause-looked t c =
    no_waits c.args.stmt.now _ c.args.self.0 _ (λ k. is_break c.args.stmt.now k c.in-Break.is) (ap (λ l. l.0) c.none_of.ensures.looked) (λ k. refl)

pub stmt-returns-in-Continue-clause-ways : goal.stmt-returns-in-Continue-clause-ways
stmt-returns-in-Continue-clause-ways t c =
    ways_as c.args.stmt.now _ c.args.self.0 _ c.args.self.0 _ _ (λ k. is_continue c.args.stmt.now k c.in-Continue.is) (ap (λ l. l.0) c.none_of-in-Continue.ensures.looked)
    (c.none_of-in-Continue.ensures.ways ∙ c.continuing.ensures) (λ k. refl)

pub stmt-returns-in-Continue-clause-looked : goal.stmt-returns-in-Continue-clause-looked
stmt-returns-in-Continue-clause-looked t c =
    no_waits c.args.stmt.now _ c.args.self.0 _ (λ k. is_continue c.args.stmt.now k c.in-Continue.is) (ap (λ l. l.0) c.none_of-in-Continue.ensures.looked) (λ k. refl)

pub stmt-returns-in-Return-clause-ways : goal.stmt-returns-in-Return-clause-ways
stmt-returns-in-Return-clause-ways t c =
    ways_as c.args.stmt.now _ c.args.self.0 _ c.args.self.0 _ _ (λ k. is_return c.args.stmt.now _ k c.in-Return.is) (ap (λ l. l.0) c.none_of-in-Return.ensures.looked)
    (c.none_of-in-Return.ensures.ways ∙ c.node-in-Return.ensures) (λ k. refl)

pub stmt-returns-in-Return-clause-looked : goal.stmt-returns-in-Return-clause-looked
stmt-returns-in-Return-clause-looked t c =
    no_waits c.args.stmt.now _ c.args.self.0 _ (λ k. is_return c.args.stmt.now _ k c.in-Return.is) (ap (λ l. l.0) c.none_of-in-Return.ensures.looked) (λ k. refl)

pub stmt-returns-in-Throw-clause-ways : goal.stmt-returns-in-Throw-clause-ways
stmt-returns-in-Throw-clause-ways t c =
    ways_as c.args.stmt.now _ c.args.self.0 _ c.args.self.0 _ _ (λ k. is_throw c.args.stmt.now _ k c.in-Throw.is) (ap (λ l. l.0) c.none_of-in-Throw.ensures.looked)
    (c.none_of-in-Throw.ensures.ways ∙ c.node-in-Throw.ensures) (λ k. refl)

pub stmt-returns-in-Throw-clause-looked : goal.stmt-returns-in-Throw-clause-looked
stmt-returns-in-Throw-clause-looked t c =
    no_waits c.args.stmt.now _ c.args.self.0 _ (λ k. is_throw c.args.stmt.now _ k c.in-Throw.is) (ap (λ l. l.0) c.none_of-in-Throw.ensures.looked) (λ k. refl)

pub stmt-returns-in-Declare-clause-ways : goal.stmt-returns-in-Declare-clause-ways
stmt-returns-in-Declare-clause-ways t c =
    ways_as c.args.stmt.now _ c.args.self.0 _ c.args.self.0 _ _ (λ k. is_declare c.args.stmt.now _ _ k c.in-Declare.is) (ap (λ l. l.0) c.none_of-in-Declare.ensures.looked)
    (c.none_of-in-Declare.ensures.ways ∙ c.plain.ensures) (λ k. refl)

pub stmt-returns-in-Declare-clause-looked : goal.stmt-returns-in-Declare-clause-looked
stmt-returns-in-Declare-clause-looked t c =
    no_waits c.args.stmt.now _ c.args.self.0 _ (λ k. is_declare c.args.stmt.now _ _ k c.in-Declare.is) (ap (λ l. l.0) c.none_of-in-Declare.ensures.looked) (λ k. refl)

pub stmt-returns-in-Assign-clause-ways : goal.stmt-returns-in-Assign-clause-ways
stmt-returns-in-Assign-clause-ways t c =
    ways_as c.args.stmt.now _ c.args.self.0 _ c.args.self.0 _ _ (λ k. is_assign c.args.stmt.now _ _ k c.in-Assign.is) (ap (λ l. l.0) c.none_of-in-Assign.ensures.looked)
    (c.none_of-in-Assign.ensures.ways ∙ c.plain-in-Assign.ensures) (λ k. refl)

pub stmt-returns-in-Assign-clause-looked : goal.stmt-returns-in-Assign-clause-looked
stmt-returns-in-Assign-clause-looked t c =
    no_waits c.args.stmt.now _ c.args.self.0 _ (λ k. is_assign c.args.stmt.now _ _ k c.in-Assign.is) (ap (λ l. l.0) c.none_of-in-Assign.ensures.looked) (λ k. refl)

pub stmt-returns-in-Modify-clause-ways : goal.stmt-returns-in-Modify-clause-ways
stmt-returns-in-Modify-clause-ways t c =
    ways_as c.args.stmt.now _ c.args.self.0 _ c.args.self.0 _ _ (λ k. is_modify c.args.stmt.now _ _ k c.in-Modify.is) (ap (λ l. l.0) c.none_of-in-Modify.ensures.looked)
    (c.none_of-in-Modify.ensures.ways ∙ c.plain-in-Modify.ensures) (λ k. refl)

pub stmt-returns-in-Modify-clause-looked : goal.stmt-returns-in-Modify-clause-looked
stmt-returns-in-Modify-clause-looked t c =
    no_waits c.args.stmt.now _ c.args.self.0 _ (λ k. is_modify c.args.stmt.now _ _ k c.in-Modify.is) (ap (λ l. l.0) c.none_of-in-Modify.ensures.looked) (λ k. refl)

pub stmt-returns-in-Call-clause-ways : goal.stmt-returns-in-Call-clause-ways
stmt-returns-in-Call-clause-ways t c =
    ways_as c.args.stmt.now _ c.args.self.0 _ c.args.self.0 _ _ (λ k. is_call c.args.stmt.now _ _ k c.in-Call.is) (ap (λ l. l.0) c.none_of-in-Call.ensures.looked)
    (c.none_of-in-Call.ensures.ways ∙ c.plain-in-Call.ensures) (λ k. refl)

pub stmt-returns-in-Call-clause-looked : goal.stmt-returns-in-Call-clause-looked
stmt-returns-in-Call-clause-looked t c =
    no_waits c.args.stmt.now _ c.args.self.0 _ (λ k. is_call c.args.stmt.now _ _ k c.in-Call.is) (ap (λ l. l.0) c.none_of-in-Call.ensures.looked) (λ k. refl)

pub stmt-returns-in-While-clause-ways : goal.stmt-returns-in-While-clause-ways
stmt-returns-in-While-clause-ways t c =
    ways_as c.args.stmt.now _ c.args.self.0 _ _ _ _ (λ k. is_while c.args.stmt.now _ c.in-While.body k c.in-While.is) c.looped.ensures.looked c.looped.ensures.ways (λ k. refl)

pub stmt-returns-in-Loop-clause-ways : goal.stmt-returns-in-Loop-clause-ways
stmt-returns-in-Loop-clause-ways t c =
    ways_as c.args.stmt.now _ c.args.self.0 _ _ _ _ (λ k. is_loop c.args.stmt.now c.in-Loop.body k c.in-Loop.is) c.looped-in-Loop.ensures.looked c.looped-in-Loop.ensures.ways (λ k. refl)

pub stmt-returns-in-While-clause-looked : goal.stmt-returns-in-While-clause-looked
stmt-returns-in-While-clause-looked t c =
    waits_while c.args.stmt.now _ c.in-While.body _ _ c.in-While.is c.looped.ensures.looked

pub stmt-returns-in-Loop-clause-looked : goal.stmt-returns-in-Loop-clause-looked
stmt-returns-in-Loop-clause-looked t c =
    waits_loop c.args.stmt.now c.in-Loop.body _ _ c.in-Loop.is c.looped-in-Loop.ensures.looked

pub stmt-returns-in-Block-clause-ways : goal.stmt-returns-in-Block-clause-ways
stmt-returns-in-Block-clause-ways t c =
    ways_as c.args.stmt.now _ c.args.self.0 _ _ _ _ (λ k. is_block c.args.stmt.now c.in-Block.body k c.in-Block.is) c.joined.ensures.looked
    (c.joined.ensures.ways ∙ ap (λ w. both w (ways c.args.self.0 (body_of c.in-Block.body.items))) c.node.ensures) (λ k. refl)

pub stmt-returns-in-Block-clause-looked : goal.stmt-returns-in-Block-clause-looked
stmt-returns-in-Block-clause-looked t c k =
    ap (λ b. c.args.self.0 - length (body_groups b)) (is_block c.args.stmt.now c.in-Block.body k c.in-Block.is)
    ∙ past_two c.args.self.0 c.joined.result.looked.0 (body_groups (body_of c.in-Block.body.items)) (body_groups k) c.joined.ensures.looked

pub stmt-returns-in-Wait-clause-ways : goal.stmt-returns-in-Wait-clause-ways
stmt-returns-in-Wait-clause-ways t c =
    ways_as c.args.stmt.now _ c.args.self.0 _ _ _ _ (λ k. is_wait c.args.stmt.now _ k c.in-Wait.is) (ap (λ l. l.0) c.none_of-in-Wait.ensures.looked ∙ c.past_one-in-Wait.ensures)
    (c.none_of-in-Wait.ensures.ways ∙ c.plain-in-Wait.ensures ∙ ap plain c.waited-in-Wait.ensures) (λ k. refl)

pub stmt-returns-in-Choose-clause-ways : goal.stmt-returns-in-Choose-clause-ways
stmt-returns-in-Choose-clause-ways t c =
    ways_choose c.args.stmt.now c.in-Choose.branches c.deref-in-Choose.result.now c.branches-inner.result.ways c.follow.result c.args.self.0 c.past_one.result.0 c.branches-inner.result.looked.0
    c.in-Choose.is
    c.deref-in-Choose.ensures.value c.past_one.ensures c.branches-inner.ensures.ways c.branches-inner.ensures.looked
    (c.follow.ensures ∙ ap₂ follow c.waited.ensures (c.both-ways.ensures ∙ ap (λ w. both w c.branches-inner.result.ways) c.node-in-Choose.ensures))

pub stmt-returns-in-Choose-clause-looked : goal.stmt-returns-in-Choose-clause-looked
stmt-returns-in-Choose-clause-looked t c =
    waits_choose c.args.stmt.now c.in-Choose.branches c.deref-in-Choose.result.now c.args.self.0 c.past_one.result.0 c.branches-inner.result.looked.0 c.in-Choose.is
    c.deref-in-Choose.ensures.value c.past_one.ensures c.branches-inner.ensures.looked

pub body-returns-clause-looked : goal.body-returns-clause-looked
body-returns-clause-looked t c = looked_end c.args.stmts.now c.loop-stmt.stmt-index _ _ (omega (arith, c.loop-stmt-test.false)) c.loop-stmt.invariant.1

pub branches-returns-clause-looked : goal.branches-returns-clause-looked
branches-returns-clause-looked t c = branch_looked_end c.args.branches.now c.loop-branch.branch-index _ _ (omega (arith, c.loop-branch-test.false)) c.loop-branch.invariant.1
