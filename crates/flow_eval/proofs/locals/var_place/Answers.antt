use Rattle.std.proofs.Common.{sym, ◌∙◌}
use Rattle.flow_eval.proofs.Lookups.{position_vars}
use Rattle.flow_eval.proofs.locals.var_place.Goals as goal

pub returns : goal.returns
returns c = c.var_position.ensures ∙ sym (position_vars c.args.vars.now c.args.name.now)
