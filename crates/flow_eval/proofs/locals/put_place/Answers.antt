use Rattle.std.proofs.Common.{◌<◌, length, arith, map}
use Rattle.flow_tree.specs.DeclView.{record_of}
use Rattle.flow_value.specs.View.{value_of}
use Rattle.flow_eval.proofs.Lookups.{put_back_at}
use Rattle.flow_eval.proofs.locals.put_place.Goals as goal

pub returns : goal.returns
returns c =
    let lt : c.args.k < length c.args.vars.now.items = omega (arith, c.len.ensures) in
    put_back_at (map record_of c.args.records.now) c.args.vars.now.items c.args.k c.index_mut.result.now c.put_var.new.var c.args.path.now
    (value_of c.args.value) c.put_var.result lt c.index_mut.ensures.value c.put_var.ensures
