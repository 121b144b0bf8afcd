use Rattle.std.proofs.Common.{◌∙◌, ap, ap₂, sym, take, drop}
use Rattle.flow_simdisk.specs.declared.ask.DiskReply.TheVariants.{Text}
use Rattle.flow_simdisk.specs.Asks.{ReadCall}
use Rattle.flow_simdisk.specs.Disk.{seen_bytes, file_named}
use Rattle.flow_simdisk.proofs.Naming.{served_done}
use Rattle.flow_simdisk.proofs.disk.Disk.read.Goals as goal

pub returns-clause-served : goal.returns-clause-served
returns-clause-served c =
    let old = c.args.self.now in
    let x = c.args.name.now in
    let bytes = c.in_ok-new.ensures ∙ c.part-bytes.ensures.part ∙ ap (λ bs. take c.args.count (drop c.args.offset bs))
    (c.seen.ensures.bytes ∙ ap (λ d. seen_bytes (file_named d.files x)) c.fails.ensures.fewer) in
    ap₂ (λ d bs. (d, Text bs)) c.fails.ensures.fewer bytes ∙ served_done (ReadCall x c.args.offset c.args.count) old.fails old.files (sym c.fails.ensures.fails ∙ c.if-fails.false)
