use Rattle.std.proofs.Common.{◌≡◌, [], ◌∷◌, ◌++◌, sym, ap, ◌∙◌, arith}
use Rattle.flow_cancel.specs.Leaving.{leave_all}
use Rattle.flow_cancel.proofs.Drops.{leave_last}
use Rattle.flow_cancel.proofs.heap.Heap.withdraw.Goals as goal

pub loop-held-preserved : goal.loop-held-preserved
loop-held-preserved c =
    let i = c.args.actor.0 in
    let items : c.loop-held.callbacks.items ≡ c.pop.new.self.items ++ c.in-Some.held ∷ [] = grind arith in
    ap (leave_all i c.pop.new.self.items) (c.in_ok-leave.ensures) ∙ sym (leave_last i c.pop.new.self.items c.in-Some.held c.loop-held.self)
    ∙ ap (λ xs. leave_all i xs c.loop-held.self) (sym items) ∙ c.loop-held.invariant
