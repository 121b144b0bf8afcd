use Rattle.std.proofs.Common.{◌++◌, take, drop, arith}
use Rattle.std.proofs.KnownBytes.{Appends-trans}
use Rattle.flow_base.proofs.Growing.{grows_trans}
use Rattle.flow_show.proofs.Writing.{part_behind, split_at, split_later}
use Rattle.flow_show.proofs.show.write_lines.Goals as goal

pub returns-in_err-write_whole-clause-part : goal.returns-in_err-write_whole-clause-part
returns-in_err-write_whole-clause-part g c =
    let (done, split, appended) = c.loop-rest.invariant.written in
    let rest = c.loop-rest.rest.now in
    let n = c.line_length-count.result in
    part_behind _ _ _ _ done (take n rest) (drop n rest) (split_at _ done rest n split) appended c.write_whole.ensures.part

pub loop-rest-preserved : goal.loop-rest-preserved
loop-rest-preserved g c =
    let (done, split, appended) = c.loop-rest.invariant.written in
    let rest = c.loop-rest.rest.now in
    let n = c.line_length-count.result in
    record {
      written = (done ++ take n rest, split_later _ done rest n split, Appends-trans _ _ _ _ _ appended c.in_ok-write_whole.ensures.whole);
      handed = grows_trans _ _ _ c.loop-rest.invariant.handed c.write_whole.ensures.handed;
      kept = omega (arith, c.loop-rest.invariant.kept, c.write_whole.ensures.cause.kept);
    }
