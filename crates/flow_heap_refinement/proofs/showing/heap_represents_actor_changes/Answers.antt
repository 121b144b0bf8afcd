use Rattle.flow_heap_refinement.proofs.Acted.{actor_kept, actor_moved, frame_kept, frame_moved, started_shown, finished_shown}
use Rattle.flow_heap_refinement.proofs.showing.heap_represents_actor_changes.Goals as goal

pub returns-clause-kept : goal.returns-clause-kept
returns-clause-kept c = actor_kept

pub returns-clause-moved : goal.returns-clause-moved
returns-clause-moved c = actor_moved

pub returns-clause-frame_kept : goal.returns-clause-frame_kept
returns-clause-frame_kept c = frame_kept

pub returns-clause-frame_moved : goal.returns-clause-frame_moved
returns-clause-frame_moved c = frame_moved

pub returns-clause-started : goal.returns-clause-started
returns-clause-started c = started_shown

pub returns-clause-finished : goal.returns-clause-finished
returns-clause-finished c = finished_shown
