use Rattle.std.proofs.Common.{decimal}
use Rattle.flow_gen.specs.Generator.{main_begin, main_clients, main_end}
use Rattle.flow_gen.proofs.Pieces.{three_pieces}
use Rattle.flow_gen.proofs.put_main.Goals as goal

pub returns : goal.returns
returns c =
    three_pieces c.args.text.now.items main_begin main_clients main_end (decimal c.args.n) _ _ _ c.in_ok-put_counted.ensures c.in_ok-put_counted-2.ensures
    c.in_ok-extend_from_slice.ensures.items
