use Rattle.flow_world_refinement.proofs.Views.Views.{views_shown}
use Rattle.flow_world_refinement.proofs.laws.views.heap_represents_views.Goals as goal

pub returns : goal.returns
returns c = views_shown
