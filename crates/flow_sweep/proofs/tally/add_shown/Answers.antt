use Rattle.std.proofs.Common.{rules, ◌≡◌, ◌<◌, ◌≤◌, length, get_or, ap, ◌∙◌}
use Rattle.std.specs.Prelude.{slice_get}
use Rattle.std.proofs.lemmas.List.{get_or_default}
use Rattle.flow_sweep.specs.Sweeps.{counted}
use Rattle.flow_sweep.proofs.Counting.{one_counted, all_counted}
use Rattle.flow_sweep.proofs.tally.add_shown.Goals as goal

pub loop-k-preserved : goal.loop-k-preserved
loop-k-preserved c =
    let shown = c.args.shown.now in
    let counts = c.loop-k.counts.items in
    let lt : c.loop-k.k < length counts = search rules in
    let is = c.in_ok-counts.ensures ∙ ap (counted (slice_get shown c.loop-k.k)) (c.index.ensures ∙ get_or_default counts c.loop-k.k _ 0 lt) in
    one_counted shown c.args.counts.now.items counts c.loop-k.k _ lt is c.loop-k.invariant

pub returns : goal.returns
returns c =
    let counts = c.loop-k.counts.items in
    let all : length counts ≤ c.loop-k.k = search rules in
    all_counted c.args.shown.now c.args.counts.now.items counts c.loop-k.k all c.loop-k.invariant
