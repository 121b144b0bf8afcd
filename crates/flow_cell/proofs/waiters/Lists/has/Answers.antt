use Rattle.std.proofs.Common.{◌≡◌, Some, refl, sym, ap, ◌∙◌, is_some}
use Rattle.flow_cell.specs.Lines.{links_of, newest_of, waiters_at}
use Rattle.flow_cell.specs.Waiting.{spot_of, has_waiter}
use Rattle.flow_cell.specs.Lines.{list_ends}
use Rattle.flow_cell.proofs.Queues.{told_waits}
use Rattle.flow_cell.proofs.waiters.Lists.has.Goals as goal

pub returns-in-Listed : goal.returns-in-Listed
returns-in-Listed c ends are =
    let l = c.args.self.now in
    let e = c.in-Listed.field-0.value in
    let known : c.contains_key.result ≡ is_some (newest_of l (spot_of c.args.cell.0 c.args.waiter)) = c.contains_key.ensures ∙ ap (λ s. is_some (newest_of l s)) c.new.ensures in
    let here = are.here ∙ ap (λ ws. Some (list_ends ws)) c.in-Listed.is in
    known ∙ told_waits ends (links_of l) (newest_of l) are.queues c.args.cell.0 e (spot_of c.args.cell.0 c.args.waiter) here refl
    ∙ ap (λ ws. has_waiter (waiters_at (links_of l) ws) c.args.waiter) (sym c.in-Listed.is)
