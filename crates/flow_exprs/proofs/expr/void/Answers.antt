use Rattle.std.proofs.Common.{refl}
use Rattle.flow_exprs.specs.declared.kind.Kind.TheVariants.{Void}
use Rattle.flow_exprs.proofs.ExprSteps.{too_deep, void_reads, void_no_open, void_no_close, not_true}
use Rattle.flow_exprs.proofs.expr.void.Goals as goal

pub returns-then-depth-gt-DEPTH : goal.returns-then-depth-gt-DEPTH
returns-then-depth-gt-DEPTH c = too_deep c.args.spots.now c.args.from 6 c.args.depth Void c.requires.here tt c.if-depth-gt-DEPTH.true

pub returns : goal.returns
returns c = rw c.void_value.ensures (void_reads c.args.spots.now c.args.from c.args.depth c.requires.here (c.if-not-is_at.ensures.kind.0 refl)
    (c.if-not-is_at-2.ensures.kind.0 refl) c.if-depth-gt-DEPTH.false)

pub returns-then-not-is_at : goal.returns-then-not-is_at
returns-then-not-is_at c = void_no_open c.args.spots.now c.args.from c.args.depth c.requires.here (λ e. not_true (c.if-not-is_at.ensures.kind.1 e)) c.if-depth-gt-DEPTH.false

pub returns-then-not-is_at-2 : goal.returns-then-not-is_at-2
returns-then-not-is_at-2 c = void_no_close c.args.spots.now c.args.from c.args.depth c.requires.here (c.if-not-is_at.ensures.kind.0 refl)
    (λ e. not_true (c.if-not-is_at-2.ensures.kind.1 e)) c.if-depth-gt-DEPTH.false
