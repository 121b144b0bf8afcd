use Rattle.std.proofs.Common.{◌+◌, ◌++◌, map, sym, ap, ◌∙◌, arith}
use Rattle.std.proofs.KnownBytes.{Appends-trans}
use Rattle.flow_base.proofs.Growing.{grows_trans}
use Rattle.flow_class.specs.View.{class_of}
use Rattle.flow_heapstate.specs.State.{actor_kept}
use Rattle.flow_show.proofs.Writing.{part_behind}
use Rattle.flow_debug.specs.Waits.{waits_seen}
use Rattle.flow_debug.specs.Writing.{told_lines}
use Rattle.flow_debug.proofs.Writing.{lines_from, next_lines, ahead_next}
use Rattle.flow_debug.proofs.write.write_actors.Goals as goal

pub returns-in_err-write_actor-clause-part : goal.returns-in_err-write_actor-clause-part
returns-in_err-write_actor-clause-part g c =
    let l = c.loop-frame.invariant in
    let waits = waits_seen c.args.waits.now in
    let classes = map class_of c.args.classes.now in
    let p = c.args.process.0 in
    let x = c.frame-item.result in
    part_behind _ _ _ _ l.text (told_lines waits classes p (actor_kept x)) (lines_from waits classes p (c.loop-frame.frame-index + 1) c.args.frames.now)
    (sym l.ahead ∙ ap (λ z. l.text ++ z) (next_lines waits classes p c.args.frames.now c.loop-frame.frame-index x c.loop-frame-test.true c.frame-item.is)) l.written c.write_actor.ensures.part

pub loop-frame-preserved : goal.loop-frame-preserved
loop-frame-preserved g c =
    let l = c.loop-frame.invariant in
    let waits = waits_seen c.args.waits.now in
    let classes = map class_of c.args.classes.now in
    let p = c.args.process.0 in
    let x = c.frame-item.result in record {
      text = l.text ++ told_lines waits classes p (actor_kept x);
      written = Appends-trans _ _ _ l.text (told_lines waits classes p (actor_kept x)) l.written c.in_ok-write_actor.ensures.whole;
      ahead = ahead_next waits classes p c.args.frames.now c.loop-frame.frame-index x l.text c.loop-frame-test.true c.frame-item.is l.ahead;
      handed = grows_trans _ _ _ l.handed c.write_actor.ensures.handed;
      kept = omega (arith, l.kept, c.write_actor.ensures.cause.kept);
    }
