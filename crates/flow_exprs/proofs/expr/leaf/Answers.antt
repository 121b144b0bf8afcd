use Rattle.std.proofs.Common.{sym, ap, ◌∙◌}
use Rattle.std.specs.Option.{option_map}
use Rattle.flow_tree.specs.View.{expr_of}
use Rattle.flow_exprs.specs.declared.kind.Kind.TheVariants.{Leaf}
use Rattle.flow_exprs.proofs.ExprSteps.{too_deep, leaf_reads}
use Rattle.flow_exprs.proofs.expr.leaf.Goals as goal

pub returns-then-depth-gt-DEPTH : goal.returns-then-depth-gt-DEPTH
returns-then-depth-gt-DEPTH c = too_deep c.args.spots.now c.args.from 6 c.args.depth Leaf c.requires.here tt c.if-depth-gt-DEPTH.true

pub returns : goal.returns
returns c = leaf_reads c.args.spots.now c.args.from c.args.depth (expr_of c.in-Some.expr) c.requires.here (sym c.in_ok-expr.ensures ∙ ap (option_map expr_of) c.in-Some.is) c.if-depth-gt-DEPTH.false
