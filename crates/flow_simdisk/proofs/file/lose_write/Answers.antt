use Rattle.std.proofs.Common.{◌≡◌, ◌∙◌, ◌∷◌, [], ◌++◌, take, ap, ap₂}
use Rattle.flow_draw.specs.Words.{word_in}
use Rattle.flow_simdisk.specs.Disk.{fate, written, kept_of}
use Rattle.flow_simdisk.proofs.Losses.{fate_later, asked_both}
use Rattle.flow_simdisk.proofs.Naming.{on_ok}
use Rattle.flow_simdisk.proofs.file.lose_write.Goals as goal

pub returns-clause-lost : goal.returns-clause-lost
returns-clause-lost c =
    let w = c.args.write.now in
    let before = c.args.fates.now.items in
    on_ok c.keep.result
    (λ done start qs was.
    let same = ap (λ d. fate (word_in d) 0 w) was ∙ fate_later start qs w in
    let kept : c.draw_fate-kept.result ≡ (fate (word_in start) _ w).kept = c.draw_fate-kept.ensures.kept ∙ ap (λ f. f.kept) same in (
      done ∙ ap₂ (λ n bs. written c.args.left.now.items w.offset (take n bs)) kept c.bytes.ensures.bytes,
      c.in_ok-push.ensures.items ∙ ap (λ k. before ++ k ∷ []) c.in_ok-note.ensures ∙ ap (λ n. before ++ kept_of c.args.name.now w n ∷ []) kept,
      asked_both start c.args.draws.now _ qs _ _ was (ap (λ f. f.asked) same) c.draw_fate-kept.ensures.drawn,
    ))
    c.keep.ensures.written
