use Rattle.std.proofs.Common.{◌+◌, ◌++◌, map, drop, sym, ap, ◌∙◌}
use Rattle.std.proofs.lemmas.List.{append_assoc, map-append}
use Rattle.flow_value.specs.View.{ref_of}
use Rattle.flow_heapstate.specs.Referring.{waits_of}
use Rattle.flow_heapstate.proofs.Building.{drop_next}
use Rattle.flow_heapstate.proofs.references.add_waits.Goals as goal

pub loop-waiter-preserved : goal.loop-waiter-preserved
loop-waiter-preserved c =
    let i = c.loop-waiter._waiter-index in
    let all = c.args.waiters.now in
    let n = c.args.cell.0 in
    let old = c.loop-waiter.found.items in
    let rest = waits_of n (drop (i + 1) all) in
    let split = drop_next all i (record { actor = record { 0 = 0 }; callback = 0 }) c.loop-waiter-test.true in
    ap (λ xs. map ref_of xs ++ rest) c.in_ok-push.ensures.items ∙ ap (λ rs. rs ++ rest) (map-append ref_of old _)
    ∙ append_assoc (map ref_of old) _ rest ∙ ap (λ ws. map ref_of old ++ waits_of n ws) (sym split) ∙ c.loop-waiter.invariant
