use Rattle.std.proofs.Common.{◌≡◌, ◌≢◌, [], ◌+◌, length, ap, ◌∙◌, rules}
use Rattle.std.specs.Prelude.{max, vec_len}
use Rattle.flow_simdisk.specs.Disk.{over}
use Rattle.flow_simdisk.proofs.Overlays.{put_written}
use Rattle.flow_simdisk.proofs.file.keep.Goals as goal

pub returns-in_ok-resize-clause-written : goal.returns-in_ok-resize-clause-written
returns-in_ok-resize-clause-written c =
    let xs = c.args.left.now.items in
    let ys = c.args.bytes.now in
    let n = c.max.result in
    let e : n ≡ max (length xs) (c.args.offset + length ys) = search rules in
    let here : vec_len c.args.left.now ≡ length xs = search rules in
    let some : ys ≢ [] = search rules in
    c.put_over.ensures ∙ ap (λ bs. over bs c.args.offset ys) c.in_ok-resize.ensures.items ∙ put_written xs c.args.offset ys n (vec_len c.args.left.now) e here some
