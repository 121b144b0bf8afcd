use Rattle.flow_types.proofs.Holders.{holders_all}
use Rattle.flow_types.proofs.top_names.holders.Goals as goal

pub returns : goal.returns
returns c = holders_all c.in_ok-uses.uses.items c.args.meanings.now.entries c.in_ok-uses.ensures c.deref.result.now c.deref.ensures.value c.settled.result c.settled.ensures
