use Rattle.std.proofs.Common.{◌∙◌}
use Rattle.flow_types.proofs.Levels.{replicated_marks}
use Rattle.flow_types.proofs.holding.unmarked.Goals as goal

pub returns : goal.returns
returns c = c.in_ok-vec.ensures.items_if_clones_equal (λ y h. h) ∙ replicated_marks c.args.count
