use Rattle.std.proofs.Common.{[], ◌∷◌, ◌-◌, List, ℕ, bit_and, bit_or, sym, subst}
use Rattle.flow_class.specs.View.{class_of, catcher_of}
use Rattle.flow_valid.specs.Filling.{dropped}
use Rattle.flow_validate.specs.Following.{AreBits}
use Rattle.std.specs.Option.{option_map}
use Rattle.std.specs.declared.option.Option.{Option}
use Rattle.flow_class.specs.declared.class.Catcher.{Catcher}
use Rattle.flow_validate.specs.WalkStates.{standing, plain_way, handler_ways, Entered}
use Rattle.flow_validate.proofs.Entering.{ok_then}
use Rattle.flow_validate.proofs.Ways.{handler_entered}
use Rattle.flow_validate.proofs.filling.Walks.enter_handler.Goals as goal

pub returns : goal.returns
returns c =
    let old = standing c.args.self.now in
    let new = standing c.enter.new.self in
    let bits = bit_and (bit_or c.args.thrown c.locals_among.result) (18446744073709551615 - c.error_bit.result) in
    let drops = subst (λ (ns : List ℕ). AreBits c.args.window c.locals_among.result (dropped ns)) c.deref.ensures.value c.locals_among.ensures in
    ok_then c.enter.result (Entered old new (plain_way bits c.in-Some.catcher.block ∷ []))
    (Entered old new (handler_ways (class_of c.args.class.now) c.args.window (option_map catcher_of c.args.catcher.now) c.args.thrown))
    (λ h. subst (λ (o : Option Catcher). Entered old new (handler_ways (class_of c.args.class.now) c.args.window (option_map catcher_of o) c.args.thrown)) (sym c.in-Some.is)
    (handler_entered old new (class_of c.args.class.now) c.args.window (catcher_of c.in-Some.catcher) c.args.thrown c.locals_among.result c.error_bit.result c.error_bit.type_inv drops
    (c.error_bit.ensures (class_of c.args.class.now)) h))
    c.enter.ensures
