use Rattle.flow_heapstate.specs.State.{parts_kept}
use Rattle.flow_heapstate.proofs.Judged.{sound_decided}
use Rattle.flow_heapstate.proofs.judging.is_sound.Goals as goal

pub returns : goal.returns
returns c = sound_decided (parts_kept c.args.state.now) c.is_sound_with.result c.is_sound_with.ensures
