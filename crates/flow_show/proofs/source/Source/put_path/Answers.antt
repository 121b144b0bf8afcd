use Rattle.std.proofs.lemmas.List.{take_rest}
use Rattle.flow_show.proofs.Texts.{path_step}
use Rattle.flow_show.proofs.source.Source.put_path.Goals as goal

pub returns-in_ok-put_more_names : goal.returns-in_ok-put_more_names
returns-in_ok-put_more_names c =
    path_step c.args.path.now _ c.first-item.result _ _ _ _ c.in-len1-up.len_at_least c.first-item.is (take_rest c.args.path.now 1)
    c.in_ok-put.ensures c.bytes.ensures.bytes c.in_ok-put_more_names.ensures
