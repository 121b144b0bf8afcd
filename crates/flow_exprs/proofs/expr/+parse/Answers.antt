use Rattle.std.proofs.Common.{◌≡◌, ◌+◌, max, refl, sym, ap, ◌∙◌, subst, arith}
use Rattle.std.proofs.lemmas.Result.{err_from_is_err_and}
use Rattle.flow_tree.specs.declared.expr.Op.TheVariants.{Sub}
use Rattle.flow_tree.specs.Tree.{ByName, indexed, NotExpr, NegExpr, BinaryExpr, ParenExpr, FieldExpr, MethodExpr, CallExpr, VarExpr}
use Rattle.flow_tree.specs.Grammar.{level}
use Rattle.flow_tree.specs.View.{expr_of, exprs_of}
use Rattle.flow_exprs.specs.declared.kind.Kind.TheVariants as kind
use Rattle.flow_exprs.specs.Answer.{ReadsExpr, ReadsArgs, Refuses}
use Rattle.flow_exprs.proofs.ExprSteps.{not_true, too_deep, at_the_end, op_is, name_reads, call_reads, call_refused, bracket_reads, bracket_refused, bracket_open, not_reads, minus_reads, not_refused, minus_refused, dot_deep, dot_short, field_goes, method_goes, method_refused, square_deep, index_refused, index_open, index_goes, right_deep, right_goes, right_refused, goes_on, goes_refused, Args, args_begin, args_none, args_more_is, args_end_is, args_bad, exprs_push, reads_is, goes_is, signs_refused, others_refused}
use Rattle.flow_exprs.proofs.expr.+parse.Goals as goal

pub arguments-returns-then-is_at : goal.arguments-returns-then-is_at
arguments-returns-then-is_at t c =
    subst (λ xs. ReadsArgs c.args.spots.now c.args.from c.args.depth (exprs_of xs) 0 (c.args.from + 1)) (sym c.new-args.ensures.items)
    (args_none c.args.spots.now c.args.from c.args.depth c.requires.shallow (c.if-is_at.ensures.kind.0 refl))

pub arguments-loop-args-init : goal.arguments-loop-args-init
arguments-loop-args-init t c =
    subst (λ xs. Args c.args.spots.now c.args.from c.args.depth (exprs_of xs) 0 c.args.from) (sym c.new-args.ensures.items)
    (args_begin c.args.spots.now c.args.from c.args.depth c.requires.within c.requires.shallow (λ e. not_true (c.if-is_at.ensures.kind.1 e)))

pub arguments-returns-then-is_at-2 : goal.arguments-returns-then-is_at-2
arguments-returns-then-is_at-2 t c =
    args_end_is c.args.spots.now c.args.from c.args.depth (exprs_of c.loop-args.args.items) c.loop-args.high c.loop-args.at (expr_of c.in_ok-read.read.expr) c.in_ok-read.read.high c.in_ok-read.read.to
    (exprs_of c.push.new.self.items) c.max-high.result
    c.loop-args.invariant c.in_ok-read.ensures (c.if-is_at-2.ensures.kind.0 refl) (ap exprs_of c.in_ok-push.ensures.items ∙ exprs_push c.loop-args.args.items c.in_ok-read.read.expr) c.max-high.ensures

pub arguments-returns-then-not-is_at : goal.arguments-returns-then-not-is_at
arguments-returns-then-not-is_at t c =
    args_bad c.args.spots.now c.args.from c.args.depth (exprs_of c.loop-args.args.items) c.loop-args.high c.loop-args.at (expr_of c.in_ok-read.read.expr) c.in_ok-read.read.high c.in_ok-read.read.to
    c.loop-args.invariant c.in_ok-read.ensures (λ e. not_true (c.if-is_at-2.ensures.kind.1 e)) (λ e. not_true (c.if-not-is_at.ensures.kind.1 e))

pub arguments-loop-args-preserved : goal.arguments-loop-args-preserved
arguments-loop-args-preserved t c =
    args_more_is c.args.spots.now c.args.from c.args.depth (exprs_of c.loop-args.args.items) c.loop-args.high c.loop-args.at
    (expr_of c.in_ok-read.read.expr) c.in_ok-read.read.high c.in_ok-read.read.to (exprs_of c.push.new.self.items) c.max-high.result
    c.loop-args.invariant c.in_ok-read.ensures (c.if-not-is_at.ensures.kind.0 refl) (ap exprs_of c.in_ok-push.ensures.items ∙ exprs_push c.loop-args.args.items c.in_ok-read.read.expr)
    c.max-high.ensures

pub bracket-returns-then-depth-gt-DEPTH : goal.bracket-returns-then-depth-gt-DEPTH
bracket-returns-then-depth-gt-DEPTH t c = too_deep c.args.spots.now c.args.from 6 c.args.depth kind.Open c.requires.here tt c.if-depth-gt-DEPTH.true

pub bracket-returns-in_err-of : goal.bracket-returns-in_err-of
bracket-returns-in_err-of t c =
    let p = err_from_is_err_and c.from_residual.result c.from_residual.ensures.1 in
    rw (p.1, p.2) (bracket_refused c.args.spots.now c.args.from c.args.depth c.in_err-of.field-0.0 c.requires.here c.if-depth-gt-DEPTH.false c.in_err-of.ensures)

pub bracket-returns-then-not-is_at : goal.bracket-returns-then-not-is_at
bracket-returns-then-not-is_at t c = bracket_open c.args.spots.now c.args.from c.args.depth (expr_of c.in_ok-of.of.expr) c.in_ok-of.of.high c.in_ok-of.of.to c.requires.here c.if-depth-gt-DEPTH.false
    c.in_ok-of.ensures (λ e. not_true (c.if-not-is_at.ensures.kind.1 e))

pub bracket-returns : goal.bracket-returns
bracket-returns t c =
    reads_is c.args.spots.now c.args.from 6 c.args.depth 8 (ParenExpr (expr_of c.in_ok-of.of.expr)) (expr_of c.in_ok-paren.field-0) (c.in_ok-of.of.high + 1)
    (c.in_ok-of.of.to + 1) c.in_ok-paren.ensures
    (bracket_reads c.args.spots.now c.args.from c.args.depth (expr_of c.in_ok-of.of.expr) c.in_ok-of.of.high c.in_ok-of.of.to c.requires.here c.if-depth-gt-DEPTH.false c.in_ok-of.ensures
    (c.if-not-is_at.ensures.kind.0 refl))

pub expression-returns-in_err-left-2 : goal.expression-returns-in_err-left-2
expression-returns-in_err-left-2 t c =
    let p = err_from_is_err_and c.from_residual-in_err-left-2.result c.from_residual-in_err-left-2.ensures.1 in
    let o = op_is c.args.spots.now c.args.least _ c.in-Some.op (sym c.in-Some.ensures.op) in
    rw (p.1, p.2) (goes_refused c.args.spots.now c.args.from c.args.least (level c.in-Some.op) c.args.depth 7
    (expr_of c.loop-op.left.expr) c.loop-op.left.high c.loop-op.left.to c.in_err-left-2.field-0.0 o.1 c.loop-op.invariant c.in_err-left-2.ensures)

pub expression-loop-op-preserved : goal.expression-loop-op-preserved
expression-loop-op-preserved t c =
    let o = op_is c.args.spots.now c.args.least _ c.in-Some.op (sym c.in-Some.ensures.op) in
    goes_on c.args.spots.now c.args.from c.args.least (level c.in-Some.op) c.args.depth 7 (expr_of c.loop-op.left.expr)
    (expr_of c.in_ok-left-2.left.expr) c.loop-op.left.high c.loop-op.left.to c.in_ok-left-2.left.high c.in_ok-left-2.left.to o.1 c.loop-op.invariant c.in_ok-left-2.ensures

pub minus-returns-then-depth-gt-DEPTH : goal.minus-returns-then-depth-gt-DEPTH
minus-returns-then-depth-gt-DEPTH t c = too_deep c.args.spots.now c.args.from 6 c.args.depth (kind.Op Sub) c.requires.sign tt c.if-depth-gt-DEPTH.true

pub minus-returns-in_err-of : goal.minus-returns-in_err-of
minus-returns-in_err-of t c =
    let p = err_from_is_err_and c.from_residual.result c.from_residual.ensures.1 in
    rw (p.1, p.2) (minus_refused c.args.spots.now c.args.from c.args.depth c.in_err-of.field-0.0 c.requires.sign c.if-depth-gt-DEPTH.false c.in_err-of.ensures)

pub minus-returns : goal.minus-returns
minus-returns t c =
    reads_is c.args.spots.now c.args.from 6 c.args.depth 7 (NegExpr (expr_of c.in_ok-of.of.expr)) (expr_of c.in_ok-neg.field-0) (c.in_ok-of.of.high + 1) c.in_ok-of.of.to c.in_ok-neg.ensures
    (minus_reads c.args.spots.now c.args.from c.args.depth (expr_of c.in_ok-of.of.expr) c.in_ok-of.of.high c.in_ok-of.of.to c.requires.sign c.if-depth-gt-DEPTH.false c.in_ok-of.ensures)

pub negated-returns-then-depth-gt-DEPTH : goal.negated-returns-then-depth-gt-DEPTH
negated-returns-then-depth-gt-DEPTH t c = too_deep c.args.spots.now c.args.from 6 c.args.depth kind.Not c.requires.sign tt c.if-depth-gt-DEPTH.true

pub negated-returns-in_err-of : goal.negated-returns-in_err-of
negated-returns-in_err-of t c =
    let p = err_from_is_err_and c.from_residual.result c.from_residual.ensures.1 in
    rw (p.1, p.2) (not_refused c.args.spots.now c.args.from c.args.depth c.in_err-of.field-0.0 c.requires.sign c.if-depth-gt-DEPTH.false c.in_err-of.ensures)

pub negated-returns : goal.negated-returns
negated-returns t c =
    reads_is c.args.spots.now c.args.from 6 c.args.depth 7 (NotExpr (expr_of c.in_ok-of.of.expr)) (expr_of c.in_ok-not.field-0) (c.in_ok-of.of.high + 1) c.in_ok-of.of.to c.in_ok-not.ensures
    (not_reads c.args.spots.now c.args.from c.args.depth (expr_of c.in_ok-of.of.expr) c.in_ok-of.of.high c.in_ok-of.of.to c.requires.sign c.if-depth-gt-DEPTH.false c.in_ok-of.ensures)

pub named-returns-then-depth-gt-DEPTH : goal.named-returns-then-depth-gt-DEPTH
named-returns-then-depth-gt-DEPTH t c = too_deep c.args.spots.now c.args.from 6 c.args.depth kind.Name c.requires.here tt c.if-depth-gt-DEPTH.true

pub named-returns-then-not-is_at : goal.named-returns-then-not-is_at
named-returns-then-not-is_at t c =
    let n = sym c.in_ok-name.ensures ∙ c.in-Some.is in
    reads_is c.args.spots.now c.args.from 6 c.args.depth 8 (VarExpr c.in-Some.name) (expr_of c.var.result) 1 (c.args.from + 1) c.var.ensures
    (name_reads c.args.spots.now c.args.from c.args.depth c.in-Some.name n (λ e. not_true (c.if-not-is_at.ensures.kind.1 e)) c.if-depth-gt-DEPTH.false)

pub named-returns-in_err-read : goal.named-returns-in_err-read
named-returns-in_err-read t c =
    let p = err_from_is_err_and c.from_residual-in_err-read.result c.from_residual-in_err-read.ensures.1 in
    let n = sym c.in_ok-name.ensures ∙ c.in-Some.is in
    rw (p.1, p.2) (call_refused c.args.spots.now c.args.from c.args.depth c.in-Some.name c.in_err-read.field-0.0 n (c.if-not-is_at.ensures.kind.0 refl) c.if-depth-gt-DEPTH.false c.in_err-read.ensures)

pub named-returns : goal.named-returns
named-returns t c =
    let n = sym c.in_ok-name.ensures ∙ c.in-Some.is in
    reads_is c.args.spots.now c.args.from 6 c.args.depth 8 (CallExpr c.in-Some.name (exprs_of c.in_ok-read.read.args.items)) (expr_of c.call.result)
    (c.in_ok-read.read.high + 1) c.in_ok-read.read.to c.call.ensures
    (call_reads c.args.spots.now c.args.from c.args.depth c.in-Some.name (exprs_of c.in_ok-read.read.args.items) c.in_ok-read.read.high c.in_ok-read.read.to n
    (c.if-not-is_at.ensures.kind.0 refl) c.if-depth-gt-DEPTH.false c.in_ok-read.ensures)

pub operand-returns-in_default : goal.operand-returns-in_default
operand-returns-in_default t c = at_the_end c.args.spots.now c.args.from 6 c.args.depth (sym c.in_default.ensures.kind)

pub primary-returns-in-Not : goal.primary-returns-in-Not
primary-returns-in-Not t c = signs_refused c.args.spots.now c.args.from 6 c.args.depth c.args.kind c.requires.here c.requires.unsigned c.in-Not.is

pub primary-returns-in-Close : goal.primary-returns-in-Close
primary-returns-in-Close t c = others_refused c.args.spots.now c.args.from 6 c.args.depth c.args.kind c.requires.here c.requires.unsigned c.in-Close.is

pub with_right-returns-then-depth-left-gt-DEPTH : goal.with_right-returns-then-depth-left-gt-DEPTH
with_right-returns-then-depth-left-gt-DEPTH t c = λ K f. right_deep c.args.spots.now c.args.left.to c.args.depth c.args.op (expr_of c.args.left.expr) K c.requires.sign (omega arith) f

pub with_right-returns-in_err-right : goal.with_right-returns-in_err-right
with_right-returns-in_err-right t c =
    let p = err_from_is_err_and c.from_residual.result c.from_residual.ensures.1 in
    let n : c.level_of.result + 1 ≡ level c.args.op + 1 = ap (λ x. x + 1) c.level_of.ensures in
    rw (p.1, p.2) (λ K f. right_refused c.args.spots.now c.args.left.to c.args.depth c.args.op (expr_of c.args.left.expr) c.in_err-right.field-0.0 K c.requires.sign (omega arith)
    (subst (λ m. Refuses c.args.spots.now (c.args.left.to + 1) m (c.args.depth + 1) c.in_err-right.field-0.0) n c.in_err-right.ensures) f)

pub with_right-returns : goal.with_right-returns
with_right-returns t c =
    let n : c.level_of.result + 1 ≡ level c.args.op + 1 = ap (λ x. x + 1) c.level_of.ensures in
    let r = subst (λ m. ReadsExpr c.args.spots.now (c.args.left.to + 1) m (c.args.depth + 1) m (expr_of c.in_ok-right.right.expr) c.in_ok-right.right.high c.in_ok-right.right.to) n
    c.in_ok-right.ensures in
    goes_is c.args.spots.now c.args.left.to (level c.args.op) c.args.depth 7 (expr_of c.args.left.expr) (expr_of c.in_ok-two.field-0)
    (BinaryExpr c.args.op (expr_of c.args.left.expr) (expr_of c.in_ok-right.right.expr)) (c.max.result + 1) (max c.args.left.high c.in_ok-right.right.high + 1) c.in_ok-right.right.to
    c.in_ok-two.ensures (ap (λ x. x + 1) c.max.ensures)
    (right_goes c.args.spots.now c.args.left.to c.args.depth c.args.op (expr_of c.args.left.expr) (expr_of c.in_ok-right.right.expr) c.args.left.high c.in_ok-right.right.high c.in_ok-right.right.to
    c.requires.sign c.requires.measured c.if-depth-left-gt-DEPTH.false r)

pub with_dot-returns-then-depth-left-gt-DEPTH : goal.with_dot-returns-then-depth-left-gt-DEPTH
with_dot-returns-then-depth-left-gt-DEPTH t c = λ K f. dot_deep c.args.spots.now c.args.left.to c.args.depth (expr_of c.args.left.expr) K c.requires.dot (omega arith) f.depth_is

pub with_dot-returns-in_default : goal.with_dot-returns-in_default
with_dot-returns-in_default t c = λ K f. dot_short c.args.spots.now c.args.left.to c.args.depth (expr_of c.args.left.expr) K c.requires.dot (omega arith) f.depth_is f.fits_is
    (sym c.in_ok-name.ensures ∙ c.in_default.is)

pub with_dot-returns-then-not-is_at : goal.with_dot-returns-then-not-is_at
with_dot-returns-then-not-is_at t c =
    goes_is c.args.spots.now c.args.left.to 6 c.args.depth 8 (expr_of c.args.left.expr) (expr_of c.in_ok-field.field-0) (FieldExpr (expr_of c.args.left.expr) c.in-Some.name) (c.args.left.high + 1)
    (c.args.left.high + 1) (c.args.left.to + 2) c.in_ok-field.ensures refl
    (field_goes c.args.spots.now c.args.left.to c.args.depth (expr_of c.args.left.expr) c.args.left.high c.in-Some.name c.requires.dot c.requires.measured c.if-depth-left-gt-DEPTH.false
    (sym c.in_ok-name.ensures ∙ c.in-Some.is) (λ e. not_true (c.if-not-is_at.ensures.kind.1 e)))

pub with_dot-returns-in_err-read : goal.with_dot-returns-in_err-read
with_dot-returns-in_err-read t c =
    let p = err_from_is_err_and c.from_residual-in_err-read.result c.from_residual-in_err-read.ensures.1 in
    let n = sym c.in_ok-name.ensures ∙ c.in-Some.is in
    rw (p.1, p.2) (λ K f. method_refused c.args.spots.now c.args.left.to c.args.depth (expr_of c.args.left.expr) c.in-Some.name c.in_err-read.field-0.0 K c.requires.dot (omega arith) n
    (c.if-not-is_at.ensures.kind.0 refl) c.in_err-read.ensures f)

pub with_dot-returns : goal.with_dot-returns
with_dot-returns t c =
    goes_is c.args.spots.now c.args.left.to 6 c.args.depth 8 (expr_of c.args.left.expr) (expr_of c.in_ok-method.field-0)
    (MethodExpr (expr_of c.args.left.expr) (ByName c.in-Some.name) (exprs_of c.in_ok-read.read.args.items)) (c.max.result + 1)
    (max c.args.left.high c.in_ok-read.read.high + 1) c.in_ok-read.read.to c.in_ok-method.ensures (ap (λ x. x + 1) c.max.ensures)
    (method_goes c.args.spots.now c.args.left.to c.args.depth (expr_of c.args.left.expr) c.args.left.high c.in-Some.name
    (exprs_of c.in_ok-read.read.args.items) c.in_ok-read.read.high c.in_ok-read.read.to c.requires.dot c.requires.measured c.if-depth-left-gt-DEPTH.false (sym c.in_ok-name.ensures ∙ c.in-Some.is)
    (c.if-not-is_at.ensures.kind.0 refl) c.in_ok-read.ensures)

pub with_index-returns-then-depth-base-gt-DEPTH : goal.with_index-returns-then-depth-base-gt-DEPTH
with_index-returns-then-depth-base-gt-DEPTH t c = λ K f. square_deep c.args.spots.now c.args.base.to c.args.depth (expr_of c.args.base.expr) K c.requires.square (omega arith) f.depth_is

pub with_index-returns-in_err-at : goal.with_index-returns-in_err-at
with_index-returns-in_err-at t c =
    let p = err_from_is_err_and c.from_residual.result c.from_residual.ensures.1 in
    rw (p.1, p.2) (λ K f. index_refused c.args.spots.now c.args.base.to c.args.depth (expr_of c.args.base.expr) c.in_err-at.field-0.0 K c.requires.square (omega arith) c.in_err-at.ensures f)

pub with_index-returns-then-not-is_at : goal.with_index-returns-then-not-is_at
with_index-returns-then-not-is_at t c = λ K f. index_open c.args.spots.now c.args.base.to c.args.depth (expr_of c.args.base.expr) (expr_of c.in_ok-at.at.expr) c.in_ok-at.at.high c.in_ok-at.at.to K
    c.requires.square (omega arith) c.in_ok-at.ensures (λ e. not_true (c.if-not-is_at.ensures.kind.1 e)) f

pub with_index-returns : goal.with_index-returns
with_index-returns t c =
    goes_is c.args.spots.now c.args.base.to 6 c.args.depth 8 (expr_of c.args.base.expr) (expr_of c.in_ok-index.field-0)
    (indexed (expr_of c.args.base.expr) (expr_of c.in_ok-at.at.expr)) (c.max.result + 1) (max c.args.base.high c.in_ok-at.at.high + 1) (c.in_ok-at.at.to + 1)
    c.in_ok-index.ensures (ap (λ x. x + 1) c.max.ensures)
    (index_goes c.args.spots.now c.args.base.to c.args.depth (expr_of c.args.base.expr) (expr_of c.in_ok-at.at.expr) c.args.base.high c.in_ok-at.at.high c.in_ok-at.at.to
    c.requires.square c.requires.measured c.if-depth-base-gt-DEPTH.false c.in_ok-at.ensures (c.if-not-is_at.ensures.kind.0 refl))
