use Rattle.std.proofs.Common.{Ok, ◌+◌, subst}
use Rattle.std.proofs.lemmas.Result.{IfOk-weaker}
use Rattle.flow_base.specs.Seen.{Opening, opened}
use Rattle.flow_base.specs.Bytes.{AreFirst}
use Rattle.flow_base.proofs.Reading.{reads_from, opened_last}
use Rattle.flow_base.proofs.input.read_file.Goals as goal

pub returns-in-Ok-clause-within : goal.returns-in-Ok-clause-within
returns-in-Ok-clause-within g c =
    let before = g.F.Files.seen c.args.files.now in
    let middle = g.F.Files.seen c.open_file.new.self in
    let after = g.F.Files.seen c.read_past.new.files in
    let (bytes, short, reads) = c.read_past.ensures.within in
    opened bytes short (reads_from before middle after c.args.name.now bytes c.in-Ok.file c.in-Ok.ensures.opens c.in-Ok.ensures.asked c.read_past.ensures.asked reads)

pub returns-in-Ok-clause-read : goal.returns-in-Ok-clause-read
returns-in-Ok-clause-read g c =
    let before = g.F.Files.seen c.args.files.now in
    let middle = g.F.Files.seen c.open_file.new.self in
    let after = g.F.Files.seen c.read_past.new.files in
    IfOk-weaker c.read_past.result _ _ (λ v reads. reads_from before middle after c.args.name.now v.items c.in-Ok.file c.in-Ok.ensures.opens c.in-Ok.ensures.asked c.read_past.ensures.asked reads)
    c.read_past.ensures.read

pub returns-in-Ok-clause-bytes : goal.returns-in-Ok-clause-bytes
returns-in-Ok-clause-bytes g c =
    let before = g.F.Files.seen c.args.files.now in
    IfOk-weaker c.read_past.result _ _
    (λ v first. (
      c.in-Ok.ensures.opens.there,
      subst (λ (o : Opening). AreFirst (c.args.limit + 1) o.left v.items)
          (opened_last before (g.F.Files.seen c.open_file.new.self) c.args.name.now c.in-Ok.file c.in-Ok.ensures.opens) first,
    ))
    c.read_past.ensures.bytes
