use Rattle.std.proofs.Common.{[], ◌∷◌}
use Rattle.flow_validate.specs.WalkStates.{standing, plain_way, Entered}
use Rattle.flow_validate.proofs.Entering.{entered_then, ok_then}
use Rattle.flow_validate.proofs.filling.Walks.enter_both.Goals as goal

pub returns : goal.returns
returns c =
    ok_then c.enter-2.result (Entered (standing c.enter.new.self) (standing c.enter-2.new.self) (plain_way c.args.empty c.args.fails ∷ [])) _
    (entered_then (standing c.args.self.now) (standing c.enter.new.self) (standing c.enter-2.new.self) (plain_way c.args.empty c.args.holds ∷ [])
    (plain_way c.args.empty c.args.fails ∷ []) c.in_ok-enter.ensures)
    c.enter-2.ensures
