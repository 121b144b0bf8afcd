use Rattle.std.proofs.Common.{sym, ap, ◌∙◌}
use Rattle.std.specs.Option.{option_map}
use Rattle.flow_tree.specs.View.{type_of}
use Rattle.flow_exprs.proofs.TypeSteps.{plain_deep, plain_reads}
use Rattle.flow_exprs.proofs.ty.plain.Goals as goal

pub returns-then-depth-gt-DEPTH : goal.returns-then-depth-gt-DEPTH
returns-then-depth-gt-DEPTH c = plain_deep c.args.spots.now c.args.from c.args.depth c.requires.here c.if-depth-gt-DEPTH.true

pub returns : goal.returns
returns c = plain_reads c.args.spots.now c.args.from c.args.depth (type_of c.in-Some.ty) c.requires.here (sym c.in_ok-ty.ensures ∙ ap (option_map type_of) c.in-Some.is) c.if-depth-gt-DEPTH.false
