use Rattle.flow_step_refinement.proofs.Effects.Decoded.{path_seen}
use Rattle.flow_step_refinement.proofs.laws.effects.texts.aims_match_paths.Goals as goal

pub returns : goal.returns
returns c = path_seen
