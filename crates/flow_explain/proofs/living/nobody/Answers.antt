use Rattle.std.proofs.Common.{◌≡◌, [], ap, ◌∙◌, replicate, arith}
use Rattle.flow_explain.proofs.Lives.{one_more}
use Rattle.flow_explain.proofs.living.nobody.Goals as goal

pub loop-process-preserved : goal.loop-process-preserved
loop-process-preserved c =
    one_more (λ m. m.entries) _ _ c.loop-process._process c.new.result c.in_ok-push.ensures.items c.new.ensures.empty c.loop-process.invariant

pub returns : goal.returns
returns c =
    let all : c.loop-process._process ≡ 256 = omega arith in
    c.loop-process.invariant ∙ ap (λ n. replicate n []) all
