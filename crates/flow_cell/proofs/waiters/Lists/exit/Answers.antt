use Rattle.std.proofs.Common.{◌≡◌, ℕ, Some, refl, sym, ap, ◌∙◌, true, arith}
use Rattle.flow_numbered.specs.declared.links.Link.{Link}
use Rattle.flow_cell.specs.Waiting.{has_waiter, spot_waiter}
use Rattle.flow_cell.specs.Lines.{IsIn, line, links_of, newest_of, list_ends, waiters_at}
use Rattle.flow_cell.specs.declared.waiter.Waiter.{Waiter}
use Rattle.flow_cell.specs.declared.queue.Spot.{Spot}
use Rattle.flow_cell.specs.declared.queue.Waiting.{Waiting}
use Rattle.flow_cell.specs.declared.waiters.Lists.{Lists}
use Rattle.flow_cell.specs.declared.waiters.Waiters.{Waiters}
use Rattle.flow_cell.specs.declared.waiters.Waiters.TheVariants.{Listed}
use Rattle.flow_cell.proofs.Queues.{key_there}
use Rattle.flow_cell.proofs.Lines.{list_shorter}
use Rattle.flow_cell.proofs.waiters.Lists.exit.Goals as goal

-- the newest link of a waiter in a list
found : (l : Lists) (ws : Waiters) (b : _) (n : ℕ) (spot : Spot) (w : Waiter) → ws ≡ Listed b → spot ≡ record { cell = n; actor = w.actor.0; callback = w.callback } → IsIn n (line l ws)
    → has_waiter (waiters_at (links_of l) ws) w ≡ true
    → (k : ℕ) × (newest_of l spot ≡ Some k) × ((m : Link Waiting) × (links_of l k ≡ Some m))
found l ws b n spot w is names known waits =
    key_there known.0 (links_of l) (newest_of l) known.1.queues n b.value spot (known.1.here ∙ ap (λ x. Some (list_ends x)) is) (ap (λ (s : Spot). s.cell) names)
    (ap (λ s. has_waiter (waiters_at (links_of l) (Listed b)) (spot_waiter s)) names ∙ ap (λ x. has_waiter (waiters_at (links_of l) x) w) (sym is) ∙ waits)

pub leave-requires-clause-there : goal.leave-requires-clause-there
leave-requires-clause-there c =
    let link = found c.args.self.now c.args.waiters.now _ c.args.cell.0 c.new.result c.args.waiter c.in-Listed.is c.new.ensures c.requires.cell c.requires.waits in
    rw link.1 refl

pub leave-requires-clause-link : goal.leave-requires-clause-link
leave-requires-clause-link c =
    let link = found c.args.self.now c.args.waiters.now _ c.args.cell.0 c.new.result c.args.waiter c.in-Listed.is c.new.ensures c.requires.cell c.requires.waits in
    λ key is. let same : link.0 ≡ key = cc (is, link.1) in rw (← same, link.2.1) refl

pub returns-in-Listed : goal.returns-in-Listed
returns-in-Listed c =
    let l = c.args.self.now in
    let link = found l c.args.waiters.now _ c.args.cell.0 c.new.result c.args.waiter c.in-Listed.is c.new.ensures c.requires.cell c.requires.waits in
    let lent : c.deref_mut.result.now ≡ c.in-Listed.ends.value = grind arith in
    let shorter = list_shorter c.args.cell.0 link.0 link.2.0 (links_of l) _ (newest_of l) _ c.deref_mut.result.now _ c.new.result (ap (λ (s : Spot). s.cell) c.new.ensures) link.1 link.2.1
    (c.leave.ensures.links link.0 link.1 link.2.0 link.2.1) (c.leave.ensures.ends link.0 link.1 link.2.0 link.2.1) (c.leave.ensures.newest link.0 link.1 link.2.0 link.2.1) in
    rw c.in-Listed.is (rw (lent, c.new.ensures) at shorter)
