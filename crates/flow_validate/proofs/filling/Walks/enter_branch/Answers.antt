use Rattle.std.proofs.Common.{[], ◌∷◌, ◌-◌, bit_and}
use Rattle.flow_class.specs.View.{callback_of}
use Rattle.flow_validate.specs.WalkStates.{standing, plain_way, branch_way, Entered}
use Rattle.flow_validate.proofs.Entering.{ok_then}
use Rattle.flow_validate.proofs.Ways.{branch_entered}
use Rattle.flow_validate.proofs.filling.Walks.enter_branch.Goals as goal

pub returns : goal.returns
returns c =
    ok_then c.enter.result
    (Entered (standing c.args.self.now) (standing c.enter.new.self) (plain_way (bit_and c.args.empty (18446744073709551615 - c.into_bit.result)) c.args.callback.now.block ∷ []))
    (Entered (standing c.args.self.now) (standing c.enter.new.self) (branch_way c.args.window c.args.empty (callback_of c.args.callback.now) ∷ []))
    (branch_entered (standing c.args.self.now) (standing c.enter.new.self) c.args.window (callback_of c.args.callback.now) c.args.empty c.into_bit.result c.into_bit.type_inv c.into_bit.ensures)
    c.enter.ensures
