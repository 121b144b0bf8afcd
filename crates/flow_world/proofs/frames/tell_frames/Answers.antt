use Rattle.std.proofs.Common.{rules, true, IfOk, IfErr}
use Rattle.std.proofs.lemmas.Result.{IfErr-weaker, IfOk-weaker}
use Rattle.flow_world.specs.Around.{Puts}
use Rattle.flow_world.specs.FaultedLines.{Telling, tells, whole}
use Rattle.flow_world.specs.Worlds.{world_seen}
use Rattle.flow_world.proofs.MovedEvents.{lines_by}
use Rattle.flow_world.proofs.Telling.{if_ok, on_ok, told_whole, told_part, told_fails}
use Rattle.flow_world.proofs.Putting.{on_err_map}
use Rattle.flow_world.proofs.Framing.{frames_broke, frames_told}
use Rattle.flow_world.proofs.MovedBreaking.{lines_part_by}
use Rattle.flow_world.specs.BreakingTraces.{FramesFail}
use Rattle.flow_world.specs.Tracing.{world_lines}
use Rattle.flow_world.proofs.frames.tell_frames.Goals as goal

pub returns-clause-puts : goal.returns-clause-puts
returns-clause-puts g c =
    let puts = g.L.LineOut.puts in
    let lines = world_lines (world_seen c.args.world.now) in
    let last = c.put_frames-done.new.out in
    let t : Telling _ = record { out = last.out.now; fault = last.fault } in
    let told : IfOk c.put_frames-done.result (λ x. Puts (tells puts) (whole c.args.out.now) lines t) =
    IfOk-weaker c.put_frames-done.result _ _ (λ x p. lines_by (λ k. record { out = k.out.now; fault = k.fault }) _ (tells puts) (λ a b l p. p) _ last lines p)
    (if_ok _ c.put_frames-done.result c.put_frames-done.ensures.puts) in
    on_ok _ c.unless_failed.result (told_whole (λ x z. Puts (tells puts) (whole c.args.out.now) lines z) t _ c.put_frames-done.result c.unless_failed.result
    (search rules) c.unless_failed.ensures told)

pub returns-clause-part : goal.returns-clause-part
returns-clause-part g c = λ failed.
    let puts = g.L.LineOut.puts in
    let lines = world_lines (world_seen c.args.world.now) in
    let last = c.put_frames-done.new.out in
    let t : Telling _ = record { out = last.out.now; fault = last.fault } in
    let told : IfOk c.put_frames-done.result (λ x. Puts (tells puts) (whole c.args.out.now) lines t) =
    IfOk-weaker c.put_frames-done.result _ _ (λ x p. lines_by (λ k. record { out = k.out.now; fault = k.fault }) _ (tells puts) (λ a b l p. p) _ last lines p)
    (if_ok _ c.put_frames-done.result c.put_frames-done.ensures.puts) in
    (told_part (λ x z. Puts (tells puts) (whole c.args.out.now) lines z) t _ c.put_frames-done.result c.unless_failed.result
    (search rules) c.unless_failed.ensures c.put_frames-done.ensures.cause told failed).1

pub returns-clause-fails : goal.returns-clause-fails
returns-clause-fails g c =
    let puts = g.L.LineOut.puts in
    let w = world_seen c.args.world.now in
    let lines = world_lines w in
    let last = c.put_frames-done.new.out in
    let t : Telling _ = record { out = last.out.now; fault = last.fault } in
    let told : IfOk c.put_frames-done.result (λ x. Puts (tells puts) (whole c.args.out.now) lines t) =
    IfOk-weaker c.put_frames-done.result _ _ (λ x p. lines_by (λ k. record { out = k.out.now; fault = k.fault }) _ (tells puts) (λ a b l p. p) _ last lines p)
    (if_ok _ c.put_frames-done.result c.put_frames-done.ensures.puts) in
    let broke : IfErr c.put_frames-done.result (λ f. FramesFail puts true w (whole c.args.out.now) f t) =
    frames_broke puts w (whole c.args.out.now) t c.put_frames-done.result
    (on_err_map c.put_frames-done.result (λ p. lines_part_by (λ k. record { out = k.out.now; fault = k.fault }) _ (tells puts) (λ a b l r p. p) _ last lines p) c.put_frames-done.ensures.part)
    c.put_frames-done.ensures.stuck in
    IfErr-weaker c.unless_failed.result _ _ (λ f x. (t, (search rules), x))
    (told_fails (λ x z. Puts (tells puts) (whole c.args.out.now) lines z) (λ f z. FramesFail puts true w (whole c.args.out.now) f z) t
    c.put_frames-done.result c.unless_failed.result c.unless_failed.ensures broke told
    (λ f x fault is failed p. frames_told puts w (whole c.args.out.now) t f fault is p))
