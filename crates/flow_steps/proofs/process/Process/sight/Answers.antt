use Rattle.flow_steps.specs.Seen.{contents_seen}
use Rattle.flow_steps.proofs.Sights.{same_sight}
use Rattle.flow_steps.proofs.process.Process.sight.Goals as goal

pub returns : goal.returns
returns c =
    same_sight contents_seen (record { setting = c.setting.result; fields = c.fields.result; places = c.places_held.result }) c.args.code.now c.args.actor.0 c.args.self.now
    c.setting.ensures c.fields.ensures (rw c.frames.ensures at c.places_held.ensures)
