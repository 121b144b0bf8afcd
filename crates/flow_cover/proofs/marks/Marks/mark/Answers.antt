use Rattle.std.proofs.Common.{rules, ◌≡◌, ◌<◌, ◌≤◌, false, ◌||◌, length, get_or, ap, ap₂, ◌∙◌}
use Rattle.std.specs.Prelude.{slice_get}
use Rattle.std.proofs.lemmas.List.{get_or_default}
use Rattle.flow_cover.specs.Covers.{takes_one}
use Rattle.flow_cover.proofs.Marking.{one_marked, all_marked}
use Rattle.flow_cover.proofs.marks.Marks.mark.Goals as goal

pub loop-k-preserved : goal.loop-k-preserved
loop-k-preserved c =
    let line = c.args.line.now in
    let branches = c.args.branches.now in
    let taken = c.loop-k.self-inside.taken.items in
    let lt : c.loop-k.k < length taken = search rules in
    let now : c.index.result.now ≡ get_or taken c.loop-k.k false = c.index.ensures ∙ get_or_default taken c.loop-k.k _ false lt in
    let takes = c.takes_at-takes.ensures ∙ ap (λ s. takes_one s line (slice_get branches c.loop-k.k)) c.loop-k.invariant.0 in
    (c.loop-k.invariant.0, one_marked c.args.self.now.telling line branches c.args.self.now.taken taken c.loop-k.k _ lt (ap₂ (λ m n. m || n) now takes) c.loop-k.invariant.1)

pub returns : goal.returns
returns c =
    let taken = c.loop-k.self-inside.taken.items in
    let all : length taken ≤ c.loop-k.k = search rules in
    ap₂ (λ s t. record { telling = s; taken = t }) c.loop-k.invariant.0
    (all_marked c.args.self.now.telling c.args.line.now c.args.branches.now c.args.self.now.taken taken c.loop-k.k all c.loop-k.invariant.1)
