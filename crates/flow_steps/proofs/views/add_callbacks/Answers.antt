use Rattle.std.proofs.Common.{◌+◌, ◌++◌, map, drop, sym, ap, ◌∙◌, arith}
use Rattle.std.proofs.lemmas.List.{append_assoc, append-nil, drop_more, drop_all}
use Rattle.flow_steps.specs.Views.{callback_view}
use Rattle.flow_steps.proofs.views.add_callbacks.Goals as goal

pub loop-held-preserved : goal.loop-held-preserved
loop-held-preserved c =
    let i = c.loop-held.held-index in
    let all = c.args.callbacks.now in
    let told = callback_view c.args.actor.0 in
    let old = c.loop-held.views.items in
    let rest = map told (drop (i + 1) all) in
    ap (λ vs. vs ++ rest) c.in_ok-push.ensures.items ∙ append_assoc old _ rest
    ∙ ap (λ hs. old ++ map told hs) (sym (drop_more all i _ c.loop-held-test.true)) ∙ c.loop-held.invariant

pub returns : goal.returns
returns c =
    let i = c.loop-held.held-index in
    let all = c.args.callbacks.now in
    let told = callback_view c.args.actor.0 in
    let old = c.loop-held.views.items in
    sym (append-nil old) ∙ ap (λ hs. old ++ map told hs) (sym (drop_all i all (omega (arith, c.loop-held-test.false)))) ∙ c.loop-held.invariant
