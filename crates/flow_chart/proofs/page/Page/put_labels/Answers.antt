use Rattle.std.proofs.Common.{◌≡◌, ◌+◌, ◌*◌, ◌++◌, ap, ◌∙◌, codes, decimal, arith}
use Rattle.flow_chart.specs.Elements.{element_bytes}
use Rattle.flow_chart.specs.Picture.{label, plain_text}
use Rattle.flow_chart.proofs.Gathered.{labels_next}
use Rattle.flow_chart.proofs.page.Page.put_labels.Goals as goal

pub loop-process-preserved : goal.loop-process-preserved
loop-process-preserved c =
    let i = c.loop-process.process in
    let old = c.loop-process.self in
    let text : c.deref.result.now ≡ codes "process " ++ decimal i =
    c.deref.ensures.value ∙ c.in_ok-text.ensures ∙ ap (λ n. codes "process " ++ decimal n) c.from.ensures in
    let made : c.plain_text.new.self ≡ old ++ element_bytes (label i) =
    c.in_ok-plain_text.ensures
    ∙ ap (λ n. old ++ element_bytes (plain_text (175 + 190 * n) 20 c.deref.result.now)) c.from-in-loop-process.ensures
    ∙ ap (λ t. old ++ element_bytes (plain_text (175 + 190 * i) 20 t)) text in
    labels_next c.args.processes i old c.plain_text.new.self _ (omega (arith, c.loop-process-test.true)) made c.loop-process.invariant
