use Rattle.std.proofs.Common.{rules, ◌≡◌, subst}
use Rattle.flow_base.specs.Bytes.{AppendsPart}
use Rattle.flow_chart.specs.Picture.{picture}
use Rattle.flow_chart.proofs.chart_out.write_picture.Goals as goal

pub returns-clause-part : goal.returns-clause-part
returns-clause-part g c =
    let bytes : c.bytes.result.now ≡ picture c.args.processes c.args.drawing.now = search rules in
    subst (AppendsPart (g.S.Sink.seen c.args.out.now).written (g.S.Sink.seen c.write_whole.new.out).written) bytes c.write_whole.ensures.part
