use Rattle.std.proofs.Common.{◌≡◌, ℕ, suc, ◌+◌, Bool, true, false, not, refl, ap, sym, ◌∙◌, arith}
use Rattle.std.proofs.lemmas.Result.{IfOk-weaker}
use Rattle.flow_tree.specs.declared.stmt.Stmt.{Stmt}
use Rattle.std.specs.declared.option.Option.{Option}
use Rattle.std.specs.declared.alloc.Global.{Global}
use Rattle.std.specs.declared.vec.Vec.{Vec}
use Rattle.flow_tree.specs.declared.expr.Expr.{Expr}
use Rattle.flow_tree.specs.declared.stmt.StmtKind.{StmtKind}
use Rattle.flow_tree.specs.declared.stmt.StmtKind.TheVariants as kind
use Rattle.flow_tree.specs.StmtView.{stmt_of, body_of, branches_of}
use Rattle.flow_tree.specs.Body.{Body, End}
use Rattle.flow_layout.proofs.StmtKinds.{is_if, is_if_else, is_for, is_try, is_break, is_continue, is_block, is_while, is_loop, is_return, is_throw, is_choose, is_declare, is_assign, is_modify, is_call, is_wait}
use Rattle.flow_split.specs.Counts.{blocks_in, locals_in, branch_blocks, branch_local_count, rest_blocks, ends_with}
use Rattle.flow_split.proofs.Sizes.{size_next, locals_next}
use Rattle.flow_split.proofs.counts.+size.Goals as goal

-- the size of a statement by its kind
blocks_as : (t : Bool) (s : Stmt) (put : Body → Body) (n : ℕ) → ((k : Body) → stmt_of s k ≡ put k) → ((k : Body) → blocks_in t (put k) ≡ n + rest_blocks (not (ends_with (put End))) t k)
    → (k : Body) → blocks_in t (stmt_of s k) ≡ n + rest_blocks (not (ends_with (stmt_of s End))) t k
blocks_as t s put n is h k = ap (blocks_in t) (is k) ∙ h k ∙ ap (λ b. n + rest_blocks (not (ends_with b)) t k) (sym (is End))

locals_as : (s : Stmt) (put : Body → Body) (n : ℕ) → ((k : Body) → stmt_of s k ≡ put k) → ((k : Body) → locals_in (put k) ≡ n + locals_in k) → (k : Body) → locals_in (stmt_of s k) ≡ n + locals_in k
locals_as s put n is h k = ap locals_in (is k) ∙ h k

nothing : (n m : ℕ) → n ≡ 0 → m ≡ n + m
nothing n m e = omega (arith, e)

plus : (n a m : ℕ) → n ≡ a → a + m ≡ n + m
plus n a m e = omega (arith, e)

one_more : (m : ℕ) → suc m ≡ 1 + m
one_more m = omega arith

plus_one : (n a b m : ℕ) → n ≡ a + 1 → a ≡ b → b + suc m ≡ n + m
plus_one n a b m e f = omega (arith, e, f)

plus_two : (n a b m : ℕ) → n ≡ a + 2 → a ≡ b → suc b + suc m ≡ n + m
plus_two n a b m e f = omega (arith, e, f)

plus_three : (n a b m : ℕ) → n ≡ a + 3 → a ≡ b → 1 + suc b + suc m ≡ n + m
plus_three n a b m e f = omega (arith, e, f)

plus_zero : (n a b m : ℕ) → n ≡ a + 0 → a ≡ b → b + m ≡ n + m
plus_zero n a b m e f = omega (arith, e, f)

plus_same : (n a b m : ℕ) → n ≡ a → a ≡ b → b + m ≡ n + m
plus_same n a b m e f = omega (arith, e, f)

for_blocks : (n i p a b x m : ℕ) → n ≡ i + p + (a + 3) + x → a ≡ b → i + x + suc b + suc p + suc m ≡ n + m
for_blocks n i p a b x m e f = omega (arith, e, f)

for_locals : (n i p a b m : ℕ) → n ≡ i + p + a → a ≡ b → i + p + b + m ≡ n + m
for_locals n i p a b m e f = omega (arith, e, f)

two_bodies : (n a b h g m : ℕ) → n ≡ a + 3 + h → a ≡ b → h ≡ g → suc b + suc g + suc m ≡ n + m
two_bodies n a b h g m e f i = omega (arith, e, f, i)

try_locals : (n a b h g m : ℕ) → n ≡ a + 1 + h → a ≡ b → h ≡ g → b + suc g + m ≡ n + m
try_locals n a b h g m e f i = omega (arith, e, f, i)

if_else_locals : (n a b h g m : ℕ) → n ≡ a + h → a ≡ b → h ≡ g → b + g + m ≡ n + m
if_else_locals n a b h g m e f i = omega (arith, e, f, i)

else_is : (s : StmtKind) (e : Expr) (b : Vec Stmt Global) (o p : Option (Vec Stmt Global)) → s ≡ kind.If e b o → o ≡ p → s ≡ kind.If e b p
else_is s e b o p is h = is ∙ ap (λ x. kind.If e b x) h

pub body_size-loop-stmt-preserved : goal.body_size-loop-stmt-preserved
body_size-loop-stmt-preserved t c = (
  size_next c.args.tried c.args.body.now c.loop-stmt.stmt-index c.stmt-item.result c.loop-stmt.goes_on _ _ _ _ _ _ (omega (arith, c.loop-stmt-test.true)) c.stmt-item.is
      (ap (λ n. n.blocks) c.in_ok-behind.ensures) (ap (λ n. n.blocks) c.in_ok-size.ensures) c.ends-goes_on.ensures c.in_ok-stmt_size.ensures.blocks c.loop-stmt.invariant.0,
  locals_next c.args.body.now c.loop-stmt.stmt-index c.stmt-item.result _ _ _ _ _ (omega (arith, c.loop-stmt-test.true)) c.stmt-item.is
      (ap (λ n. n.locals) c.in_ok-behind.ensures) (ap (λ n. n.locals) c.in_ok-size.ensures) c.in_ok-stmt_size.ensures.locals c.loop-stmt.invariant.1,
)

pub stmt_size-returns-in-Return-clause-blocks : goal.stmt_size-returns-in-Return-clause-blocks
stmt_size-returns-in-Return-clause-blocks t c = blocks_as c.args.tried c.args.stmt.now _ _ (λ k. is_return c.args.stmt.now _ k c.in-Return.is) (λ k. nothing _ _ (ap (λ n. n.blocks) c.none.ensures))

pub stmt_size-returns-in-Return-clause-locals : goal.stmt_size-returns-in-Return-clause-locals
stmt_size-returns-in-Return-clause-locals t c = locals_as c.args.stmt.now _ _ (λ k. is_return c.args.stmt.now _ k c.in-Return.is) (λ k. nothing _ _ (ap (λ n. n.locals) c.none.ensures))

pub stmt_size-returns-in-Throw-clause-blocks : goal.stmt_size-returns-in-Throw-clause-blocks
stmt_size-returns-in-Throw-clause-blocks t c = blocks_as c.args.tried c.args.stmt.now _ _ (λ k. is_throw c.args.stmt.now _ k c.in-Throw.is)
    (λ k. nothing _ _ (ap (λ n. n.blocks) c.none-in-Throw.ensures))

pub stmt_size-returns-in-Throw-clause-locals : goal.stmt_size-returns-in-Throw-clause-locals
stmt_size-returns-in-Throw-clause-locals t c = locals_as c.args.stmt.now _ _ (λ k. is_throw c.args.stmt.now _ k c.in-Throw.is) (λ k. nothing _ _ (ap (λ n. n.locals) c.none-in-Throw.ensures))

pub stmt_size-returns-in-Assign-clause-blocks : goal.stmt_size-returns-in-Assign-clause-blocks
stmt_size-returns-in-Assign-clause-blocks t c = blocks_as c.args.tried c.args.stmt.now _ _ (λ k. is_assign c.args.stmt.now _ _ k c.in-Assign.is)
    (λ k. nothing _ _ (ap (λ n. n.blocks) c.none-in-Assign.ensures))

pub stmt_size-returns-in-Assign-clause-locals : goal.stmt_size-returns-in-Assign-clause-locals
stmt_size-returns-in-Assign-clause-locals t c = locals_as c.args.stmt.now _ _ (λ k. is_assign c.args.stmt.now _ _ k c.in-Assign.is) (λ k. nothing _ _ (ap (λ n. n.locals) c.none-in-Assign.ensures))

pub stmt_size-returns-in-Modify-clause-blocks : goal.stmt_size-returns-in-Modify-clause-blocks
stmt_size-returns-in-Modify-clause-blocks t c = blocks_as c.args.tried c.args.stmt.now _ _ (λ k. is_modify c.args.stmt.now _ _ k c.in-Modify.is)
    (λ k. nothing _ _ (ap (λ n. n.blocks) c.none-in-Modify.ensures))

pub stmt_size-returns-in-Modify-clause-locals : goal.stmt_size-returns-in-Modify-clause-locals
stmt_size-returns-in-Modify-clause-locals t c = locals_as c.args.stmt.now _ _ (λ k. is_modify c.args.stmt.now _ _ k c.in-Modify.is) (λ k. nothing _ _ (ap (λ n. n.locals) c.none-in-Modify.ensures))

pub stmt_size-returns-in-Call-clause-blocks : goal.stmt_size-returns-in-Call-clause-blocks
stmt_size-returns-in-Call-clause-blocks t c = blocks_as c.args.tried c.args.stmt.now _ _ (λ k. is_call c.args.stmt.now _ _ k c.in-Call.is)
    (λ k. nothing _ _ (ap (λ n. n.blocks) c.none-in-Call.ensures))

pub stmt_size-returns-in-Call-clause-locals : goal.stmt_size-returns-in-Call-clause-locals
stmt_size-returns-in-Call-clause-locals t c = locals_as c.args.stmt.now _ _ (λ k. is_call c.args.stmt.now _ _ k c.in-Call.is) (λ k. nothing _ _ (ap (λ n. n.locals) c.none-in-Call.ensures))

pub stmt_size-returns-in-Break-clause-blocks : goal.stmt_size-returns-in-Break-clause-blocks
stmt_size-returns-in-Break-clause-blocks t c = blocks_as c.args.tried c.args.stmt.now _ _ (λ k. is_break c.args.stmt.now k c.in-Break.is) (λ k. plus _ _ _ (ap (λ n. n.blocks) c.exit_size.ensures))

pub stmt_size-returns-in-Break-clause-locals : goal.stmt_size-returns-in-Break-clause-locals
stmt_size-returns-in-Break-clause-locals t c = locals_as c.args.stmt.now _ _ (λ k. is_break c.args.stmt.now k c.in-Break.is) (λ k. nothing _ _ (ap (λ n. n.locals) c.exit_size.ensures))

pub stmt_size-returns-in-Continue-clause-blocks : goal.stmt_size-returns-in-Continue-clause-blocks
stmt_size-returns-in-Continue-clause-blocks t c = blocks_as c.args.tried c.args.stmt.now _ _ (λ k. is_continue c.args.stmt.now k c.in-Continue.is)
    (λ k. plus _ _ _ (ap (λ n. n.blocks) c.exit_size-in-Continue.ensures))

pub stmt_size-returns-in-Continue-clause-locals : goal.stmt_size-returns-in-Continue-clause-locals
stmt_size-returns-in-Continue-clause-locals t c = locals_as c.args.stmt.now _ _ (λ k. is_continue c.args.stmt.now k c.in-Continue.is)
    (λ k. nothing _ _ (ap (λ n. n.locals) c.exit_size-in-Continue.ensures))

pub stmt_size-returns-in-Declare-clause-blocks : goal.stmt_size-returns-in-Declare-clause-blocks
stmt_size-returns-in-Declare-clause-blocks t c = blocks_as c.args.tried c.args.stmt.now _ _ (λ k. is_declare c.args.stmt.now c.in-Declare.into _ k c.in-Declare.is) (λ k. nothing _ _ refl)

pub stmt_size-returns-in-Declare-clause-locals : goal.stmt_size-returns-in-Declare-clause-locals
stmt_size-returns-in-Declare-clause-locals t c = locals_as c.args.stmt.now _ _ (λ k. is_declare c.args.stmt.now c.in-Declare.into _ k c.in-Declare.is) (λ k. plus _ _ _ c.into_size.ensures)

pub stmt_size-returns-in-Wait-clause-blocks : goal.stmt_size-returns-in-Wait-clause-blocks
stmt_size-returns-in-Wait-clause-blocks t c = blocks_as c.args.tried c.args.stmt.now _ _ (λ k. is_wait c.args.stmt.now c.in-Wait.waiting k c.in-Wait.is) (λ k. one_more _)

pub stmt_size-returns-in-Wait-clause-locals : goal.stmt_size-returns-in-Wait-clause-locals
stmt_size-returns-in-Wait-clause-locals t c = locals_as c.args.stmt.now _ _ (λ k. is_wait c.args.stmt.now c.in-Wait.waiting k c.in-Wait.is) (λ k. plus _ _ _ c.maybe_size.ensures)

pub stmt_size-returns-in-Block-clause-blocks : goal.stmt_size-returns-in-Block-clause-blocks
stmt_size-returns-in-Block-clause-blocks t c =
    IfOk-weaker c.body_with.result _ _ (λ n e. blocks_as c.args.tried c.args.stmt.now _ n.blocks (λ k. is_block c.args.stmt.now c.in-Block.body k c.in-Block.is)
    (λ k. plus_one n.blocks _ _ _ e (ap (λ l. blocks_in c.args.tried (body_of l)) c.deref.ensures.value))) c.body_with.ensures.blocks

pub stmt_size-returns-in-Block-clause-locals : goal.stmt_size-returns-in-Block-clause-locals
stmt_size-returns-in-Block-clause-locals t c =
    IfOk-weaker c.body_with.result _ _ (λ n e. locals_as c.args.stmt.now _ n.locals (λ k. is_block c.args.stmt.now c.in-Block.body k c.in-Block.is)
    (λ k. plus_zero n.locals _ _ _ e (ap (λ l. locals_in (body_of l)) c.deref.ensures.value))) c.body_with.ensures.locals

pub stmt_size-returns-in-While-clause-blocks : goal.stmt_size-returns-in-While-clause-blocks
stmt_size-returns-in-While-clause-blocks t c =
    IfOk-weaker c.body_with-in-While.result _ _ (λ n e. blocks_as c.args.tried c.args.stmt.now _ n.blocks (λ k. is_while c.args.stmt.now _ c.in-While.body k c.in-While.is)
    (λ k. plus_three n.blocks _ _ _ e (ap (λ l. blocks_in false (body_of l)) c.deref-in-While.ensures.value))) c.body_with-in-While.ensures.blocks

pub stmt_size-returns-in-While-clause-locals : goal.stmt_size-returns-in-While-clause-locals
stmt_size-returns-in-While-clause-locals t c =
    IfOk-weaker c.body_with-in-While.result _ _ (λ n e. locals_as c.args.stmt.now _ n.locals (λ k. is_while c.args.stmt.now _ c.in-While.body k c.in-While.is)
    (λ k. plus_zero n.locals _ _ _ e (ap (λ l. locals_in (body_of l)) c.deref-in-While.ensures.value))) c.body_with-in-While.ensures.locals

pub stmt_size-returns-in-Loop-clause-blocks : goal.stmt_size-returns-in-Loop-clause-blocks
stmt_size-returns-in-Loop-clause-blocks t c =
    IfOk-weaker c.body_with-in-Loop.result _ _ (λ n e. blocks_as c.args.tried c.args.stmt.now _ n.blocks (λ k. is_loop c.args.stmt.now c.in-Loop.body k c.in-Loop.is)
    (λ k. plus_two n.blocks _ _ _ e (ap (λ l. blocks_in false (body_of l)) c.deref-in-Loop.ensures.value))) c.body_with-in-Loop.ensures.blocks

pub stmt_size-returns-in-Loop-clause-locals : goal.stmt_size-returns-in-Loop-clause-locals
stmt_size-returns-in-Loop-clause-locals t c =
    IfOk-weaker c.body_with-in-Loop.result _ _ (λ n e. locals_as c.args.stmt.now _ n.locals (λ k. is_loop c.args.stmt.now c.in-Loop.body k c.in-Loop.is)
    (λ k. plus_zero n.locals _ _ _ e (ap (λ l. locals_in (body_of l)) c.deref-in-Loop.ensures.value))) c.body_with-in-Loop.ensures.locals

pub stmt_size-returns-in-Choose-clause-blocks : goal.stmt_size-returns-in-Choose-clause-blocks
stmt_size-returns-in-Choose-clause-blocks t c =
    IfOk-weaker c.choose_size.result _ _ (λ n e. blocks_as c.args.tried c.args.stmt.now _ n.blocks (λ k. is_choose c.args.stmt.now c.in-Choose.branches k c.in-Choose.is)
    (λ k. plus_one n.blocks _ _ _ e (ap (λ l. branch_blocks c.args.tried (branches_of l)) c.deref-in-Choose.ensures.value))) c.choose_size.ensures.blocks

pub stmt_size-returns-in-Choose-clause-locals : goal.stmt_size-returns-in-Choose-clause-locals
stmt_size-returns-in-Choose-clause-locals t c =
    IfOk-weaker c.choose_size.result _ _ (λ n e. locals_as c.args.stmt.now _ n.locals (λ k. is_choose c.args.stmt.now c.in-Choose.branches k c.in-Choose.is)
    (λ k. plus_same n.locals _ _ _ e (ap (λ l. branch_local_count (branches_of l)) c.deref-in-Choose.ensures.value))) c.choose_size.ensures.locals

pub stmt_size-returns-in-For-clause-blocks : goal.stmt_size-returns-in-For-clause-blocks
stmt_size-returns-in-For-clause-blocks t c =
    IfOk-weaker c.for_size.result _ _ (λ n e. blocks_as c.args.tried c.args.stmt.now _ n.blocks (λ k. is_for c.args.stmt.now c.in-For.init c.in-For.test c.in-For.step c.in-For.body k c.in-For.is)
    (λ k. for_blocks n.blocks _ _ _ _ _ _ e (ap (λ l. blocks_in false (body_of l)) c.deref-in-For.ensures.value))) c.for_size.ensures.blocks

pub stmt_size-returns-in-For-clause-locals : goal.stmt_size-returns-in-For-clause-locals
stmt_size-returns-in-For-clause-locals t c =
    IfOk-weaker c.for_size.result _ _ (λ n e. locals_as c.args.stmt.now _ n.locals (λ k. is_for c.args.stmt.now c.in-For.init c.in-For.test c.in-For.step c.in-For.body k c.in-For.is)
    (λ k. for_locals n.locals _ _ _ _ _ e (ap (λ l. locals_in (body_of l)) c.deref-in-For.ensures.value))) c.for_size.ensures.locals

pub stmt_size-returns-in-Try-clause-blocks : goal.stmt_size-returns-in-Try-clause-blocks
stmt_size-returns-in-Try-clause-blocks t c =
    IfOk-weaker c.try_size.result _ _ (λ n e. blocks_as c.args.tried c.args.stmt.now _ n.blocks (λ k. is_try c.args.stmt.now c.in-Try.body _ _ c.in-Try.handler k c.in-Try.is)
    (λ k. two_bodies n.blocks _ _ _ _ _ e (ap (λ l. blocks_in true (body_of l)) c.deref-in-Try.ensures.value) (ap (λ l. blocks_in c.args.tried (body_of l)) c.deref-in-Try-2.ensures.value)))
    c.try_size.ensures.blocks

pub stmt_size-returns-in-Try-clause-locals : goal.stmt_size-returns-in-Try-clause-locals
stmt_size-returns-in-Try-clause-locals t c =
    IfOk-weaker c.try_size.result _ _ (λ n e. locals_as c.args.stmt.now _ n.locals (λ k. is_try c.args.stmt.now c.in-Try.body _ _ c.in-Try.handler k c.in-Try.is)
    (λ k. try_locals n.locals _ _ _ _ _ e (ap (λ l. locals_in (body_of l)) c.deref-in-Try.ensures.value) (ap (λ l. locals_in (body_of l)) c.deref-in-Try-2.ensures.value)))
    c.try_size.ensures.locals

pub stmt_size-returns-in-None-clause-blocks : goal.stmt_size-returns-in-None-clause-blocks
stmt_size-returns-in-None-clause-blocks t c =
    IfOk-weaker c.body_with-in-None.result _ _
    (λ n e. blocks_as c.args.tried c.args.stmt.now _ n.blocks (λ k. is_if c.args.stmt.now _ c.in-If.body k (else_is _ _ _ _ _ c.in-If.is c.in-None.is))
    (λ k. plus_two n.blocks _ _ _ e (ap (λ l. blocks_in c.args.tried (body_of l)) c.deref-in-None.ensures.value))) c.body_with-in-None.ensures.blocks

pub stmt_size-returns-in-None-clause-locals : goal.stmt_size-returns-in-None-clause-locals
stmt_size-returns-in-None-clause-locals t c =
    IfOk-weaker c.body_with-in-None.result _ _
    (λ n e. locals_as c.args.stmt.now _ n.locals (λ k. is_if c.args.stmt.now _ c.in-If.body k (else_is _ _ _ _ _ c.in-If.is c.in-None.is))
    (λ k. plus_zero n.locals _ _ _ e (ap (λ l. locals_in (body_of l)) c.deref-in-None.ensures.value))) c.body_with-in-None.ensures.locals

pub stmt_size-returns-in-Some-clause-blocks : goal.stmt_size-returns-in-Some-clause-blocks
stmt_size-returns-in-Some-clause-blocks t c =
    IfOk-weaker c.if_else_size.result _ _
    (λ n e. blocks_as c.args.tried c.args.stmt.now _ n.blocks (λ k. is_if_else c.args.stmt.now _ c.in-If.body _ k (else_is _ _ _ _ _ c.in-If.is c.in-Some.is))
    (λ k. two_bodies n.blocks _ _ _ _ _ e (ap (λ l. blocks_in c.args.tried (body_of l)) c.deref-in-Some.ensures.value) (ap (λ l. blocks_in c.args.tried (body_of l)) c.deref-in-Some-2.ensures.value)))
    c.if_else_size.ensures.blocks

pub stmt_size-returns-in-Some-clause-locals : goal.stmt_size-returns-in-Some-clause-locals
stmt_size-returns-in-Some-clause-locals t c =
    IfOk-weaker c.if_else_size.result _ _
    (λ n e. locals_as c.args.stmt.now _ n.locals (λ k. is_if_else c.args.stmt.now _ c.in-If.body _ k (else_is _ _ _ _ _ c.in-If.is c.in-Some.is))
    (λ k. if_else_locals n.locals _ _ _ _ _ e (ap (λ l. locals_in (body_of l)) c.deref-in-Some.ensures.value) (ap (λ l. locals_in (body_of l)) c.deref-in-Some-2.ensures.value)))
    c.if_else_size.ensures.locals
