use Rattle.flow_tree.specs.DeclView.{actor_of}
use Rattle.flow_show.proofs.Texts.{whole_routine}
use Rattle.flow_show.proofs.source.Source.put_actor.Goals as goal

pub returns : goal.returns
returns c =
    whole_routine (actor_of c.args.actor.now) _ _ _ _ c.in_ok-put_actor_result.ensures c.in_ok-put_routine.ensures
