use Rattle.std.proofs.Common.{refl, sym}
use Rattle.std.proofs.lemmas.Result.{err_from_is_err_and}
use Rattle.flow_tree.specs.View.{type_of}
use Rattle.flow_exprs.proofs.ExprSteps.{not_true}
use Rattle.flow_exprs.proofs.TypeSteps.{type_at_end, other_type, argument_deep, argument_open, argument_refused, argument_unclosed, argument_reads}
use Rattle.flow_exprs.proofs.ty.+types.Goals as goal

pub argument-returns-then-depth-gt-DEPTH : goal.argument-returns-then-depth-gt-DEPTH
argument-returns-then-depth-gt-DEPTH t c = argument_deep c.args.spots.now c.args.from c.args.depth c.args.kind c.requires.here c.requires.wraps c.if-depth-gt-DEPTH.true

pub argument-returns-then-not-is_at : goal.argument-returns-then-not-is_at
argument-returns-then-not-is_at t c = argument_open c.args.spots.now c.args.from c.args.depth c.args.kind c.requires.here c.requires.wraps c.if-depth-gt-DEPTH.false
    (λ e. not_true (c.if-not-is_at.ensures.kind.1 e))

pub argument-returns-in_err-of : goal.argument-returns-in_err-of
argument-returns-in_err-of t c =
    let p = err_from_is_err_and c.from_residual.result c.from_residual.ensures.1 in
    rw (p.1, p.2) (argument_refused c.args.spots.now c.args.from c.args.depth c.args.kind c.in_err-of.field-0.0 c.requires.here c.requires.wraps c.if-depth-gt-DEPTH.false
    (c.if-not-is_at.ensures.kind.0 refl) c.in_err-of.ensures)

pub argument-returns-then-not-is_at-2 : goal.argument-returns-then-not-is_at-2
argument-returns-then-not-is_at-2 t c = argument_unclosed c.args.spots.now c.args.from c.args.depth c.args.kind
    (type_of c.in_ok-of.of.ty) c.in_ok-of.of.to c.requires.here c.requires.wraps c.if-depth-gt-DEPTH.false (c.if-not-is_at.ensures.kind.0 refl) c.in_ok-of.ensures
    (λ e. not_true (c.if-not-is_at-2.ensures.kind.1 e))

pub argument-returns : goal.argument-returns
argument-returns t c = argument_reads c.args.spots.now c.args.from c.args.depth c.args.kind (type_of c.in_ok-of.of.ty) (type_of c.in_ok-wrap.field-0) c.in_ok-of.of.to c.requires.here c.requires.wraps
    c.if-depth-gt-DEPTH.false (c.if-not-is_at.ensures.kind.0 refl) c.in_ok-of.ensures (c.if-not-is_at-2.ensures.kind.0 refl) c.in_ok-wrap.ensures

pub read-returns-in_default : goal.read-returns-in_default
read-returns-in_default t c = type_at_end c.args.spots.now c.args.from c.args.depth (sym c.in_default.ensures.kind)

pub read-returns-in-Less : goal.read-returns-in-Less
read-returns-in-Less t c = other_type c.args.spots.now c.args.from c.args.depth c.in-Some.kind (sym c.in-Some.ensures.kind) c.in-Less.is
