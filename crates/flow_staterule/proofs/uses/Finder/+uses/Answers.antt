use Rattle.std.proofs.Common.{◌≡◌, [], ◌++◌, length, take, refl, sym, ap, ap₂, ◌∙◌, arith}
use Rattle.std.proofs.lemmas.Result.{IfOk-weaker}
use Rattle.flow_tree.specs.Body.{End}
use Rattle.flow_tree.specs.StmtView.{stmt_of, body_of, simple_of}
use Rattle.flow_staterule.specs.Ways.{ways, head}
use Rattle.flow_staterule.specs.Uses.{uses, declaring, behind, left}
use Rattle.flow_staterule.specs.View.{in_force, declared_after, found, known_behind, in_handler}
use Rattle.flow_staterule.proofs.Adding.{same_extends, body_next, body_end, branches_next, branches_end, none_behind, none_found, part_found}
use Rattle.flow_staterule.proofs.InForce.{take_twice, take_all}
use Rattle.flow_staterule.proofs.EachKind.{after_block, after_if, after_for, after_while, after_loop, after_break, after_continue, after_return, after_throw, after_try, after_choose, after_declare, after_assign, after_modify, after_call, after_wait}
use Rattle.flow_staterule.proofs.uses.Finder.+uses.Goals as goal

pub inside-returns-in_ok-scope-in-Block-clause-finds : goal.inside-returns-in_ok-scope-in-Block-clause-finds
inside-returns-in_ok-scope-in-Block-clause-finds t c =
    after_block _ _ _ c.args.stmt.now c.in-Block.body _ c.in-Block.is refl c.in_ok-scope-in-Block.ensures.uses c.in_ok-scope-in-Block.ensures.variables

pub inside-returns-in_ok-otherwise-in-If-clause-finds : goal.inside-returns-in_ok-otherwise-in-If-clause-finds
inside-returns-in_ok-otherwise-in-If-clause-finds t c =
    after_if _ c.expr.new.self c.scope-in-If.new.self _ _ c.args.stmt.now c.in-If.test c.in-If.chosen c.in-If.otherwise _ c.past.result c.in-If.is refl c.in_ok-expr-in-If.ensures.uses
    c.in_ok-expr-in-If.ensures.variables
    c.in_ok-scope-in-If.ensures.uses c.in_ok-scope-in-If.ensures.variables
    (c.past.ensures ∙ ap (λ l. record c.args.here { looked = record { 0 = left c.args.here.looked.0 (body_of l) } }) c.deref.ensures.value)
    c.in_ok-otherwise-in-If.ensures.uses c.in_ok-otherwise-in-If.ensures.variables

pub inside-returns-in_ok-scope-in-While-clause-finds : goal.inside-returns-in_ok-scope-in-While-clause-finds
inside-returns-in_ok-scope-in-While-clause-finds t c =
    after_while _ c.expr-in-While.new.self _ _ c.round-round.result c.args.stmt.now c.in-While.test c.in-While.body _ c.count.result c.in-While.is refl c.count.ensures.count
    (c.round-round.ensures ∙ ap (λ l. record c.args.here { point = behind c.count.result c.args.here.point (head (ways c.args.here.looked.0 (body_of l))) }) c.deref-in-While.ensures.value)
    c.in_ok-expr-in-While.ensures.uses c.in_ok-expr-in-While.ensures.variables c.in_ok-scope-in-While.ensures.uses c.in_ok-scope-in-While.ensures.variables

pub inside-returns-in_ok-scope-in-Loop-clause-finds : goal.inside-returns-in_ok-scope-in-Loop-clause-finds
inside-returns-in_ok-scope-in-Loop-clause-finds t c =
    after_loop _ _ _ c.round-round-in-Loop.result c.args.stmt.now c.in-Loop.body _ c.count-in-Loop.result c.in-Loop.is refl c.count-in-Loop.ensures.count
    (c.round-round-in-Loop.ensures ∙ ap (λ l. record c.args.here { point = behind c.count-in-Loop.result c.args.here.point (head (ways c.args.here.looked.0 (body_of l))) })
    c.deref-in-Loop.ensures.value)
    c.in_ok-scope-in-Loop.ensures.uses c.in_ok-scope-in-Loop.ensures.variables

pub inside-returns-in-Break-clause-finds : goal.inside-returns-in-Break-clause-finds
inside-returns-in-Break-clause-finds t c =
    after_break _ _ c.args.stmt.now c.in-Break.is

pub inside-returns-in-Continue-clause-finds : goal.inside-returns-in-Continue-clause-finds
inside-returns-in-Continue-clause-finds t c =
    after_continue _ _ c.args.stmt.now c.in-Continue.is

pub inside-returns-in_ok-maybe-in-Return-clause-finds : goal.inside-returns-in_ok-maybe-in-Return-clause-finds
inside-returns-in_ok-maybe-in-Return-clause-finds t c =
    after_return _ _ _ c.args.stmt.now c.in-Return.value c.in-Return.is c.in_ok-maybe-in-Return.ensures.uses c.in_ok-maybe-in-Return.ensures.variables

pub inside-returns-in_ok-thrown-in-Throw-clause-finds : goal.inside-returns-in_ok-thrown-in-Throw-clause-finds
inside-returns-in_ok-thrown-in-Throw-clause-finds t c =
    after_throw _ _ _ c.args.stmt.now c.in-Throw.value c.in-Throw.is c.in_ok-thrown-in-Throw.ensures.uses c.in_ok-thrown-in-Throw.ensures.variables

pub inside-returns-in_ok-handled-in-Try-clause-finds : goal.inside-returns-in_ok-handled-in-Try-clause-finds
inside-returns-in_ok-handled-in-Try-clause-finds t c =
    let f = c.scope-in-Try.new.self in
    after_try _ f _ _ c.caught-caught.result c.args.stmt.now c.in-Try.body _ c.in-Try.error c.in-Try.handler _ _ c.in-Try.is refl refl c.in_ok-scope-in-Try.ensures.uses
    c.in_ok-scope-in-Try.ensures.variables
    (c.caught-caught.ensures ∙ ap (λ l. in_handler (length (in_force f.variables)) c.args.here (body_of l) c.in-Try.error) c.deref-in-Try.ensures.value) c.in_ok-handled-in-Try.ensures.uses
    c.in_ok-handled-in-Try.ensures.variables

pub inside-returns-in_ok-choose-in-Choose-clause-finds : goal.inside-returns-in_ok-choose-in-Choose-clause-finds
inside-returns-in_ok-choose-in-Choose-clause-finds t c =
    after_choose _ _ _ c.args.stmt.now c.in-Choose.branches _ c.in-Choose.is c.deref-in-Choose.ensures.value c.in_ok-choose-in-Choose.ensures.uses c.in_ok-choose-in-Choose.ensures.variables

pub inside-returns-in_ok-declare_into-in-Declare-clause-finds : goal.inside-returns-in_ok-declare_into-in-Declare-clause-finds
inside-returns-in_ok-declare_into-in-Declare-clause-finds t c =
    after_declare _ c.maybe-in-Declare.new.self _ _ c.args.stmt.now c.in-Declare.into c.in-Declare.value c.in-Declare.is c.in_ok-maybe-in-Declare.ensures.uses
    c.in_ok-maybe-in-Declare.ensures.variables refl c.in_ok-declare_into-in-Declare.ensures.declares

pub inside-returns-in_ok-expr-in-Assign-clause-finds : goal.inside-returns-in_ok-expr-in-Assign-clause-finds
inside-returns-in_ok-expr-in-Assign-clause-finds t c =
    after_assign _ (record { variables = c.args.self.now.variables; uses = c.add_target.new.found }) _ _ c.args.stmt.now c.in-Assign.target c.in-Assign.value c.in-Assign.is
    c.in_ok-add_target-in-Assign.ensures refl
    c.in_ok-expr-in-Assign.ensures.uses c.in_ok-expr-in-Assign.ensures.variables

pub inside-returns-in_ok-add_change-in-Modify-clause-finds : goal.inside-returns-in_ok-add_change-in-Modify-clause-finds
inside-returns-in_ok-add_change-in-Modify-clause-finds t c =
    after_modify _ (record { variables = c.args.self.now.variables; uses = c.add_target-in-Modify.new.found }) _ _ c.args.stmt.now c.in-Modify.target c.in-Modify.change c.in-Modify.is
    c.in_ok-add_target-in-Modify.ensures refl
    c.in_ok-add_change-in-Modify.ensures refl

pub inside-returns-in_ok-add_exprs-in-Call-clause-finds : goal.inside-returns-in_ok-add_exprs-in-Call-clause-finds
inside-returns-in_ok-add_exprs-in-Call-clause-finds t c =
    after_call _ (record { variables = c.args.self.now.variables; uses = c.add_base.new.found }) _ _ c.args.stmt.now c.in-Call.target c.in-Call.args _ c.in-Call.is c.deref-in-Call.ensures.value
    c.in_ok-add_base-in-Call.ensures refl
    c.in_ok-add_exprs-in-Call.ensures refl

pub inside-returns-in_ok-bind-in-Wait-clause-finds : goal.inside-returns-in_ok-bind-in-Wait-clause-finds
inside-returns-in_ok-bind-in-Wait-clause-finds t c =
    after_wait _ c.expr-in-Wait.new.self _ _ c.args.stmt.now c.in-Wait.waiting c.in-Wait.is c.in_ok-expr-in-Wait.ensures.uses c.in_ok-expr-in-Wait.ensures.variables
    c.in_ok-bind-in-Wait.ensures.uses c.in_ok-bind-in-Wait.ensures.variables

pub inside-returns-in_ok-scope-in-Block-clause-keeps : goal.inside-returns-in_ok-scope-in-Block-clause-keeps
inside-returns-in_ok-scope-in-Block-clause-keeps t c =
    same_extends c.args.self.now.variables c.scope.new.self.variables (c.in_ok-scope-in-Block.ensures.variables)

pub inside-returns-in_ok-otherwise-in-If-clause-keeps : goal.inside-returns-in_ok-otherwise-in-If-clause-keeps
inside-returns-in_ok-otherwise-in-If-clause-keeps t c =
    same_extends c.args.self.now.variables c.otherwise.new.self.variables (c.in_ok-otherwise-in-If.ensures.variables ∙ c.in_ok-scope-in-If.ensures.variables ∙ c.in_ok-expr-in-If.ensures.variables)

pub inside-returns-in_ok-scope-in-While-clause-keeps : goal.inside-returns-in_ok-scope-in-While-clause-keeps
inside-returns-in_ok-scope-in-While-clause-keeps t c =
    same_extends c.args.self.now.variables c.scope-in-While.new.self.variables (c.in_ok-scope-in-While.ensures.variables ∙ c.in_ok-expr-in-While.ensures.variables)

pub inside-returns-in_ok-scope-in-Loop-clause-keeps : goal.inside-returns-in_ok-scope-in-Loop-clause-keeps
inside-returns-in_ok-scope-in-Loop-clause-keeps t c =
    same_extends c.args.self.now.variables c.scope-in-Loop.new.self.variables (c.in_ok-scope-in-Loop.ensures.variables)

pub inside-returns-in_ok-maybe-in-Return-clause-keeps : goal.inside-returns-in_ok-maybe-in-Return-clause-keeps
inside-returns-in_ok-maybe-in-Return-clause-keeps t c =
    same_extends c.args.self.now.variables c.maybe-in-Return.new.self.variables (c.in_ok-maybe-in-Return.ensures.variables)

pub inside-returns-in_ok-thrown-in-Throw-clause-keeps : goal.inside-returns-in_ok-thrown-in-Throw-clause-keeps
inside-returns-in_ok-thrown-in-Throw-clause-keeps t c =
    same_extends c.args.self.now.variables c.thrown.new.self.variables (c.in_ok-thrown-in-Throw.ensures.variables)

pub inside-returns-in_ok-handled-in-Try-clause-keeps : goal.inside-returns-in_ok-handled-in-Try-clause-keeps
inside-returns-in_ok-handled-in-Try-clause-keeps t c =
    same_extends c.args.self.now.variables c.handled.new.self.variables (c.in_ok-handled-in-Try.ensures.variables ∙ c.in_ok-scope-in-Try.ensures.variables)

pub inside-returns-in_ok-choose-in-Choose-clause-keeps : goal.inside-returns-in_ok-choose-in-Choose-clause-keeps
inside-returns-in_ok-choose-in-Choose-clause-keeps t c =
    same_extends c.args.self.now.variables c.choose.new.self.variables (c.in_ok-choose-in-Choose.ensures.variables)

pub inside-returns-in_ok-expr-in-Assign-clause-keeps : goal.inside-returns-in_ok-expr-in-Assign-clause-keeps
inside-returns-in_ok-expr-in-Assign-clause-keeps t c =
    same_extends c.args.self.now.variables c.expr-in-Assign.new.self.variables (c.in_ok-expr-in-Assign.ensures.variables)

pub inside-returns-in_ok-scope-in-For-clause-finds : goal.inside-returns-in_ok-scope-in-For-clause-finds
inside-returns-in_ok-scope-in-For-clause-finds t c =
    let f = c.args.self.now in
    let same : c.leave.new.self.list.items ≡ c.args.self.now.variables.list.items =
    c.leave.ensures
    ∙ ap₂ (λ n l. take n l) c.count-count.ensures.items (c.in_ok-scope-in-For.ensures.variables ∙ c.in_ok-step-in-For.ensures.variables ∙ c.in_ok-maybe-in-For.ensures.variables)
    ∙ c.in_ok-begun-in-For.ensures.keeps in
    after_for f c.part.new.self c.maybe.new.self c.step.new.self c.scope-in-For.new.self (record { variables = c.leave.new.self; uses = c.scope-in-For.new.self.uses })
    c.args.here c.in_ok-begun-in-For.begun c.round-round-in-For.result.body c.round-round-in-For.result.step c.args.stmt.now c.in-For.init c.in-For.test c.in-For.step c.in-For.body c.in-For.body.items
    c.in-For.is refl c.in_ok-begun-in-For.ensures.uses c.in_ok-begun-in-For.ensures.behind c.in_ok-begun-in-For.ensures.variables c.round-round-in-For.ensures.body c.round-round-in-For.ensures.step
    c.in_ok-maybe-in-For.ensures.uses c.in_ok-maybe-in-For.ensures.variables c.in_ok-step-in-For.ensures.uses c.in_ok-step-in-For.ensures.variables c.in_ok-scope-in-For.ensures.uses refl
    (ap (declared_after []) same)

pub inside-returns-in_ok-scope-in-For-clause-keeps : goal.inside-returns-in_ok-scope-in-For-clause-keeps
inside-returns-in_ok-scope-in-For-clause-keeps t c =
    same_extends c.args.self.now.variables c.leave.new.self
    (c.leave.ensures
    ∙ ap₂ (λ n l. take n l) c.count-count.ensures.items (c.in_ok-scope-in-For.ensures.variables ∙ c.in_ok-step-in-For.ensures.variables ∙ c.in_ok-maybe-in-For.ensures.variables)
    ∙ c.in_ok-begun-in-For.ensures.keeps)

pub body-loop-stmt-init : goal.body-loop-stmt-init
body-loop-stmt-init t c = (refl, take_all c.args.self.now.variables.list.items)

pub body-loop-stmt-preserved : goal.body-loop-stmt-preserved
body-loop-stmt-preserved t c = (
  body_next c.loop-stmt.self c.stmt.new.self c.loop-stmt.next c.in_ok-next.next c.args.stmts.now c.loop-stmt.stmt-index c.stmt-item.result _ (omega (arith, c.loop-stmt-test.true)) c.stmt-item.is
      c.in_ok-next.ensures.finds c.in_ok-next.ensures.behind c.loop-stmt.invariant.0,
  take_twice c.args.self.now.variables.list.items c.loop-stmt.self.variables.list.items c.stmt.new.self.variables.list.items c.loop-stmt.invariant.1 c.in_ok-next.ensures.keeps,
)

pub body-returns-clause-uses : goal.body-returns-clause-uses
body-returns-clause-uses t c = body_end c.loop-stmt.self c.loop-stmt.next c.args.stmts.now c.loop-stmt.stmt-index _ (omega (arith, c.loop-stmt-test.false)) c.loop-stmt.invariant.0

pub body-returns-clause-keeps : goal.body-returns-clause-keeps
body-returns-clause-keeps t c = c.loop-stmt.invariant.1

pub choose-loop-branch-preserved : goal.choose-loop-branch-preserved
choose-loop-branch-preserved t c = (
  branches_next c.loop-branch.self c.branch-self.new.self c.args.here.point c.loop-branch.inner c.in_ok-inner.inner c.args.branches.now c.loop-branch.branch-index c.branch-item.result _
      (omega (arith, c.loop-branch-test.true)) c.branch-item.is
      c.in_ok-inner.ensures.uses c.loop-branch.invariant.0,
  c.in_ok-inner.ensures.variables ∙ c.loop-branch.invariant.1,
)

pub choose-returns-clause-uses : goal.choose-returns-clause-uses
choose-returns-clause-uses t c =
    branches_end c.loop-branch.self c.args.here.point c.loop-branch.inner c.args.branches.now c.loop-branch.branch-index _ (omega (arith, c.loop-branch-test.false)) c.loop-branch.invariant.0

pub choose-returns-clause-variables : goal.choose-returns-clause-variables
choose-returns-clause-variables t c = c.loop-branch.invariant.1

pub scope-returns-clause-uses : goal.scope-returns-clause-uses
scope-returns-clause-uses t c = c.in_ok-body.ensures.uses ∙ ap (λ l. found c.args.self.now c.args.here (body_of l)) c.deref.ensures.value

pub scope-returns-clause-variables : goal.scope-returns-clause-variables
scope-returns-clause-variables t c = c.leave.ensures ∙ ap (λ n. take n c.body.new.self.variables.list.items) c.count-count.ensures.items ∙ c.in_ok-body.ensures.keeps

pub step-returns-clause-uses : goal.step-returns-clause-uses
step-returns-clause-uses t c = c.in_ok-part.ensures.uses

pub step-returns-clause-variables : goal.step-returns-clause-variables
step-returns-clause-variables t c = c.leave.ensures ∙ ap (λ n. take n c.part.new.self.variables.list.items) c.count-count.ensures.items ∙ c.in_ok-part.ensures.keeps

pub handled-returns-clause-uses : goal.handled-returns-clause-uses
handled-returns-clause-uses t c =
    c.in_ok-scope.ensures.uses
    ∙ ap (λ vs. c.args.self.now.uses.items ++ uses c.args.here.looked.0 vs c.args.here.point c.args.here.caught (body_of c.args.handler.now.items)) c.in_ok-declare.ensures.declares

pub handled-returns-clause-variables : goal.handled-returns-clause-variables
handled-returns-clause-variables t c =
    c.leave.ensures ∙ ap₂ (λ n l. take n l) c.count-count.ensures.items c.in_ok-scope.ensures.variables ∙ c.in_ok-declare.ensures.keeps

pub part-returns-in-None-clause-behind : goal.part-returns-in-None-clause-behind
part-returns-in-None-clause-behind t c =
    let vs = in_force c.args.self.now.variables in
    none_behind c.args.here vs ∙ ap (λ o. known_behind vs c.args.here (simple_of o)) (sym c.in-None.is)

pub part-returns-in-None-clause-uses : goal.part-returns-in-None-clause-uses
part-returns-in-None-clause-uses t c =
    none_found c.args.self.now c.args.here ∙ ap (λ o. found c.args.self.now c.args.here (simple_of o)) (sym c.in-None.is)

pub part-returns-in-Some-clause-uses : goal.part-returns-in-Some-clause-uses
part-returns-in-Some-clause-uses t c =
    rw c.in-Some.is
    (IfOk-weaker c.stmt.result _ _
    (λ h finds. part_found c.args.self.now c.stmt.new.self c.args.here _ finds ∙ ap (λ s. found c.args.self.now c.args.here (stmt_of s End)) c.deref.ensures)
    c.stmt.ensures.finds)

pub part-returns-in-Some-clause-behind : goal.part-returns-in-Some-clause-behind
part-returns-in-Some-clause-behind t c = rw c.in-Some.is (rw c.deref.ensures at c.stmt.ensures.behind)

pub part-returns-in-Some-clause-variables : goal.part-returns-in-Some-clause-variables
part-returns-in-Some-clause-variables t c =
    rw c.in-Some.is
    (IfOk-weaker c.stmt.result _ _ (λ h finds. finds.variables ∙ ap (λ s. declaring (in_force c.args.self.now.variables) (stmt_of s End)) c.deref.ensures) c.stmt.ensures.finds)

pub otherwise-returns-in-Some-clause-uses : goal.otherwise-returns-in-Some-clause-uses
otherwise-returns-in-Some-clause-uses t c = rw c.in-Some.is c.scope.ensures.uses

pub part-returns-in-None-clause-keeps : goal.part-returns-in-None-clause-keeps
part-returns-in-None-clause-keeps t c = take_all c.args.self.now.variables.list.items

pub inside-returns-in-Break-clause-keeps : goal.inside-returns-in-Break-clause-keeps
inside-returns-in-Break-clause-keeps t c = take_all c.args.self.now.variables.list.items

pub inside-returns-in-Continue-clause-keeps : goal.inside-returns-in-Continue-clause-keeps
inside-returns-in-Continue-clause-keeps t c = take_all c.args.self.now.variables.list.items

pub inside-returns-in_ok-add_change-in-Modify-clause-keeps : goal.inside-returns-in_ok-add_change-in-Modify-clause-keeps
inside-returns-in_ok-add_change-in-Modify-clause-keeps t c = take_all c.args.self.now.variables.list.items

pub inside-returns-in_ok-add_exprs-in-Call-clause-keeps : goal.inside-returns-in_ok-add_exprs-in-Call-clause-keeps
inside-returns-in_ok-add_exprs-in-Call-clause-keeps t c = take_all c.args.self.now.variables.list.items

pub inside-returns-in_ok-declare_into-in-Declare-clause-keeps : goal.inside-returns-in_ok-declare_into-in-Declare-clause-keeps
inside-returns-in_ok-declare_into-in-Declare-clause-keeps t c =
    ap (λ l. take (length l) c.declare_into.new.self.list.items) (sym c.in_ok-maybe-in-Declare.ensures.variables)
    ∙ c.in_ok-declare_into-in-Declare.ensures.keeps ∙ c.in_ok-maybe-in-Declare.ensures.variables

pub inside-returns-in_ok-bind-in-Wait-clause-keeps : goal.inside-returns-in_ok-bind-in-Wait-clause-keeps
inside-returns-in_ok-bind-in-Wait-clause-keeps t c =
    ap (λ l. take (length l) c.bind.new.self.variables.list.items) (sym c.in_ok-expr-in-Wait.ensures.variables)
    ∙ c.in_ok-bind-in-Wait.ensures.keeps ∙ c.in_ok-expr-in-Wait.ensures.variables
