use Rattle.std.proofs.Common.{refl, sym, ap, ◌∙◌}
use Rattle.std.specs.Option.{option_map}
use Rattle.flow_value.specs.declared.value.Value.{Value}
use Rattle.flow_numbered.specs.Numbered.{Store, thing}
use Rattle.flow_frame.specs.Frames.{FrameTree, standing_of}
use Rattle.flow_steps.proofs.Straying.{stands_nowhere}
use Rattle.flow_steps.proofs.process.Process.stand_of.Goals as goal

pub returns-in-None-clause-stuck : goal.returns-in-None-clause-stuck
returns-in-None-clause-stuck c =
    stands_nowhere c.args.code.now.classes.items c.args.actor.0 c.args.self.now.heap c.in-Some.at
    (ap (λ (fs : Store (FrameTree Value)). option_map standing_of (thing fs.things c.args.actor.0)) (sym c.frames.ensures) ∙ sym c.standing.ensures ∙ c.in-Some.is) (c.in-None.ensures.nowhere refl)
