use Rattle.std.proofs.Common.{◌≡◌, length, map}
use Rattle.flow_ast.specs.TypingNames.{named}
use Rattle.flow_ast.proofs.predefined.named.Given as goal

abbrev pub invariant-loop-rows : goal.invariant-loop-rows
invariant-loop-rows g l = named (map (λ row. (row.0.now, row.1)) l.rows) l.name ≡ named (map (λ row. (row.0.now, row.1)) l.initial.rows) l.name

abbrev pub decreases-loop-rows : goal.decreases-loop-rows
decreases-loop-rows g l = length l.rows
