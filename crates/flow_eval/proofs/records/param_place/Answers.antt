use Rattle.std.proofs.Common.{sym, ◌∙◌}
use Rattle.flow_eval.proofs.Lookups.{position_params}
use Rattle.flow_eval.proofs.records.param_place.Goals as goal

pub returns : goal.returns
returns c = c.place_named.ensures ∙ sym (position_params c.args.params.now c.args.name.now)
