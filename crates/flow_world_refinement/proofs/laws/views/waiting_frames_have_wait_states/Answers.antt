use Rattle.flow_world_refinement.proofs.Views.Waiting.{start_waits, event_waits}
use Rattle.flow_world_refinement.proofs.laws.views.waiting_frames_have_wait_states.Goals as goal

pub returns-clause-start : goal.returns-clause-start
returns-clause-start c = start_waits

pub returns-clause-event : goal.returns-clause-event
returns-clause-event c = event_waits
