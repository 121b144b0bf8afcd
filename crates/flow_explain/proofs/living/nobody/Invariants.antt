use Rattle.std.proofs.Common.{◌≡◌, [], map, replicate}
use Rattle.flow_explain.proofs.living.nobody.Given as goal

abbrev pub invariant-loop-process : goal.invariant-loop-process
invariant-loop-process l = map (λ m. m.entries) l.living.items ≡ replicate l._process []
