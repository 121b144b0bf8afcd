use Rattle.std.proofs.Common.{rules, ◌≡◌, ◌<◌, ◌++◌, [], length, get_or, ap, ◌∙◌}
use Rattle.std.specs.Prelude.{slice_get}
use Rattle.flow_cover.specs.Covers.{branch_line, branches_of, count_of}
use Rattle.flow_cover.proofs.Numbering.{next_ahead}
use Rattle.flow_cover.proofs.cover.Cover.text.Goals as goal

pub loop-place-preserved : goal.loop-place-preserved
loop-place-preserved c =
    let lt : c.loop-place.place < length (branches_of c.args.self.now) = search rules in
    next_ahead (λ k b. branch_line b (count_of (slice_get c.args.runs.now k))) (branches_of c.args.self.now) 0 c.loop-place.place c.loop-place.place
    c.branch-item.result c.branch-item.result [] _ _ lt
    (c.branch-item.is ∙ ap (λ l. get_or l c.loop-place.place c.branch-item.result) c.branches-branch-items.ensures) c.loop-place.invariant
    (c.in_ok-push_branch.ensures ∙ ap (λ n. c.loop-place.text.items ++ branch_line c.branch-item.result n) c.count_at.ensures)
