use Rattle.std.proofs.Common.{◌+◌, get_or, sym, ap, take}
use Rattle.flow_validate.specs.Following.{passed, touched}
use Rattle.flow_validate.proofs.Passing.{passed_more, taken_all, seen_as}
use Rattle.flow_validate.proofs.window.Passage.through.Goals as goal

pub loop-touch-preserved : goal.loop-touch-preserved
loop-touch-preserved c = λ s h.
    let i = c.loop-touch.touch-index in
    let ts = c.args.touches.now in
    seen_as c.args.window c.touched-passage.result (λ q. touched q (get_or ts i _) (passed q (take i ts) (s q))) (λ q. passed q (take (i + 1) ts) (s q))
    (λ q. sym (passed_more q ts i _ (s q) c.loop-touch-test.true))
    (c.touched-passage.ensures (λ q. passed q (take i ts) (s q)) (c.loop-touch.invariant s h))

pub returns : goal.returns
returns c = λ s h.
    let ts = c.args.touches.now in
    seen_as c.args.window c.loop-touch.passage (λ q. passed q (take c.loop-touch.touch-index ts) (s q)) (λ q. passed q ts (s q))
    (λ q. ap (λ l. passed q l (s q)) (taken_all ts c.loop-touch.touch-index c.loop-touch-test.false)) (c.loop-touch.invariant s h)
