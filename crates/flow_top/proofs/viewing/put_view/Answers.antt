use Rattle.std.proofs.Common.{ℕ, ◌+◌, ◌<◌, ◌≤◌, ◌++◌, length, sym, ap, subst, ◌∙◌, append_assoc, arith}
use Rattle.std.proofs.KnownBytes.{Appends-trans}
use Rattle.std.specs.Io.KnownBytes.{Appends}
use Rattle.flow_base.specs.Bytes.{AppendsPart}
use Rattle.flow_base.proofs.Growing.{grows_trans}
use Rattle.flow_show.proofs.Writing.{part_behind}
use Rattle.flow_world.specs.Worlds.{world_seen}
use Rattle.flow_debug.specs.ViewText.{view_head}
use Rattle.flow_debug.specs.Waits.{waits_seen}
use Rattle.flow_top.specs.Debugged.{process_text}
use Rattle.flow_top.proofs.Places.{lines_from, next_lines, ahead_next, rise_at, whole}
use Rattle.flow_top.proofs.Reporting.{whole_part}
use Rattle.flow_top.proofs.viewing.put_view.Goals as goal

pub returns-in_err-write_whole-clause-part : goal.returns-in_err-write_whole-clause-part
returns-in_err-write_whole-clause-part g c = λ can.
    let lines = lines_from (waits_seen c.args.waits.now) (world_seen c.args.world.now) 0 in
    let head_is = c.deref.ensures.value ∙ c.in-Ok.ensures ∙ ap (λ (p : ℕ × ℕ). view_head p.0 p.1) c.at-ran.ensures in
    let p = subst (AppendsPart _ _) head_is c.write_whole.ensures.part in
    (p.0, p.1 ++ lines, ap (λ l. l ++ lines) p.2 ∙ append_assoc p.0 p.1 lines, p.3)

pub returns-in_err-put_process-clause-part : goal.returns-in_err-put_process-clause-part
returns-in_err-put_process-clause-part g c = λ can.
    let waits = waits_seen c.args.waits.now in
    let v = world_seen c.args.world.now in
    let n = c.loop-number.number in
    let x = c.loop-number.invariant.written can in
    let lt : n < length v.places = omega (arith, c.loop-number-test.true, c.processes-number-end.ensures, can.0) in
    let head = view_head v.ran v.outside.time in
    let head_is = c.deref.ensures.value ∙ c.in-Ok.ensures ∙ ap (λ (p : ℕ × ℕ). view_head p.0 p.1) c.at-ran.ensures in
    let first = subst (Appends _ _) head_is c.in_ok-write_whole.ensures.whole in
    part_behind _ _ _ (head ++ lines_from waits v 0) (head ++ x.0) (process_text waits v n) (lines_from waits v (n + 1))
    (ap (λ l. head ++ l) (sym x.2 ∙ ap (λ l. x.0 ++ l) (next_lines waits v n lt)) ∙ sym (append_assoc head x.0 (process_text waits v n ++ lines_from waits v (n + 1))))
    (Appends-trans _ _ _ head x.0 first x.1) (c.put_process.ensures.part (rise_at v.places n can.1 lt))

pub loop-number-preserved : goal.loop-number-preserved
loop-number-preserved g c =
    let waits = waits_seen c.args.waits.now in
    let v = world_seen c.args.world.now in
    let n = c.loop-number.number in
    record {
      written = λ can.
          let x = c.loop-number.invariant.written can in
          let lt : n < length v.places = omega (arith, c.loop-number-test.true, c.processes-number-end.ensures, can.0) in
          (x.0 ++ process_text waits v n, Appends-trans _ _ _ x.0 (process_text waits v n) x.1 (c.in_ok-put_process.ensures.whole (rise_at v.places n can.1 lt)), ahead_next waits v n x.0 lt x.2);
      handed = grows_trans _ _ _ c.loop-number.invariant.handed c.put_process.ensures.handed;
      kept = omega (arith, c.loop-number.invariant.kept, c.put_process.ensures.cause.kept);
    }

pub returns-clause-whole : goal.returns-clause-whole
returns-clause-whole g c = λ can.
    let waits = waits_seen c.args.waits.now in
    let v = world_seen c.args.world.now in
    let x = c.loop-number.invariant.written can in
    let le : length v.places ≤ c.loop-number.number = omega (arith, c.loop-number-test.false, c.processes-number-end.ensures, can.0) in
    let head_is = c.deref.ensures.value ∙ c.in-Ok.ensures ∙ ap (λ (p : ℕ × ℕ). view_head p.0 p.1) c.at-ran.ensures in
    whole waits v _ _ _ (view_head v.ran v.outside.time) x.0 c.loop-number.number le x.2 (subst (Appends _ _) head_is c.in_ok-write_whole.ensures.whole) x.1

pub returns-clause-part : goal.returns-clause-part
returns-clause-part g c = λ can.
    let waits = waits_seen c.args.waits.now in
    let v = world_seen c.args.world.now in
    let x = c.loop-number.invariant.written can in
    let le : length v.places ≤ c.loop-number.number = omega (arith, c.loop-number-test.false, c.processes-number-end.ensures, can.0) in
    let head_is = c.deref.ensures.value ∙ c.in-Ok.ensures ∙ ap (λ (p : ℕ × ℕ). view_head p.0 p.1) c.at-ran.ensures in
    whole_part _ _ (view_head v.ran v.outside.time ++ lines_from waits v 0)
    (whole waits v _ _ _ (view_head v.ran v.outside.time) x.0 c.loop-number.number le x.2 (subst (Appends _ _) head_is c.in_ok-write_whole.ensures.whole) x.1)
