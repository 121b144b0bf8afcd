use Rattle.std.proofs.Common.{map, length, ◌≤◌, arith}
use Rattle.flow_saved.specs.Saved.{process_saved}
use Rattle.flow_world.proofs.Told.{processes_all}
use Rattle.flow_world.proofs.saving.processes_told.Goals as goal

pub returns-clause-told : goal.returns-clause-told
returns-clause-told c =
    let over : length c.args.places.now ≤ c.loop-place.place-index = omega (arith, c.loop-place-test.false) in
    processes_all c.args.places.now c.args.disks.now c.loop-place.place-index (map process_saved c.loop-place.told.items) over c.loop-place.invariant.told
