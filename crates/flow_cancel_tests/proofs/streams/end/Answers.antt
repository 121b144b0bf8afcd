use Rattle.std.proofs.Common.{ℕ}
use Rattle.flow_stream.specs.Streams.{StreamTree}
use Rattle.flow_numbered.specs.Numbered.{thing}
use Rattle.flow_cancel_tests.proofs.Guards.{endless}
use Rattle.flow_cancel_tests.proofs.streams.end.Goals as goal

pub end-requires-clause-endless : goal.end-requires-clause-endless
end-requires-clause-endless c = endless (λ (s : StreamTree ℕ). s.end) (thing c.args.streams.now.things 1) c.ended.result c.ended.ensures c.if-ended.false
