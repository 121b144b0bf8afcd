use Rattle.flow_show.proofs.Texts.{for_line}
use Rattle.flow_show.proofs.source.Source.put_for.Goals as goal

pub returns : goal.returns
returns c =
    for_line c.args.level _ _ _ _ _ _ _ _ _ _ _ _ _ c.in_ok-put_indent.ensures c.in_ok-put.ensures c.in_ok-put_part.ensures c.in_ok-put-2.ensures c.in_ok-put_maybe.ensures
    c.in_ok-put-3.ensures c.in_ok-put_part-2.ensures c.in_ok-put-4.ensures c.in_ok-put-5.ensures
