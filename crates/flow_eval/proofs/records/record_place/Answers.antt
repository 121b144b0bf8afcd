use Rattle.std.proofs.Common.{sym, ◌∙◌}
use Rattle.flow_eval.proofs.Lookups.{position_records}
use Rattle.flow_eval.proofs.records.record_place.Goals as goal

pub returns : goal.returns
returns c = c.place_named.ensures ∙ sym (position_records c.args.records.now c.args.name.now)
