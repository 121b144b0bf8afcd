use Rattle.flow_headline.proofs.laws.referenced.Goals as goal

pub returns : goal.returns
returns c = c.actors_at_boundaries_are_referred.ensures
