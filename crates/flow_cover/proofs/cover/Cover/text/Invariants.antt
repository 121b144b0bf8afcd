use Rattle.std.proofs.Common.{[]}
use Rattle.std.specs.Prelude.{slice_get}
use Rattle.flow_cover.specs.Covers.{branch_line, branches_of, count_of}
use Rattle.flow_cover.proofs.Numbering.{Ahead}
use Rattle.flow_cover.proofs.cover.Cover.text.Given as goal

abbrev pub invariant-loop-place : goal.invariant-loop-place
invariant-loop-place l = Ahead (λ k b. branch_line b (count_of (slice_get l.runs k))) (branches_of l.self) 0 l.place l.place [] l.text.items
