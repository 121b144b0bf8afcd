use Rattle.std.proofs.Common.{rules, ◌≡◌, true, false, IfErr, sym, subst}
use Rattle.flow_world.specs.Around.{Puts, no_line}
use Rattle.flow_world.specs.FaultedLines.{Telling, tells, whole}
use Rattle.flow_world.specs.BreakingTraces.{FramesFail}
use Rattle.flow_world.specs.Worlds.{world_seen}
use Rattle.flow_world.specs.Tracing.{lines_if}
use Rattle.flow_world.proofs.frames.put_frames_if.Goals as goal

pub returns-else-with_frames-clause-puts : goal.returns-else-with_frames-clause-puts
returns-else-with_frames-clause-puts g c =
    let without : c.args.with_frames ≡ false = search rules in
    subst (λ b. Puts (tells g.L.LineOut.puts) (whole c.args.out.now) (lines_if b (world_seen c.args.world.now)) (whole c.args.out.now)) (sym without) no_line

pub returns-then-with_frames-clause-fails : goal.returns-then-with_frames-clause-fails
returns-then-with_frames-clause-fails g c =
    let asked : c.args.with_frames ≡ true = search rules in
    let w = world_seen c.args.world.now in
    subst (λ b. IfErr c.tell_frames.result (λ f. (t : Telling _) × (t.out ≡ c.tell_frames.new.out) × FramesFail g.L.LineOut.puts b w (whole c.args.out.now) f t)) (sym asked)
    c.tell_frames.ensures.fails
