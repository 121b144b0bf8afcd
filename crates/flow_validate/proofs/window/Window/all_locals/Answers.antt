use Rattle.std.proofs.Common.{◌+◌, if◌then◌else◌, ap, sym, ◌∙◌}
use Rattle.flow_class.specs.declared.class.Slotted.TheVariants as place
use Rattle.flow_valid.specs.Filling.{is_local}
use Rattle.flow_validate.proofs.Bits.{has_max}
use Rattle.flow_validate.proofs.window.Window.all_locals.Goals as goal

pub returns-then-self : goal.returns-then-self
returns-then-self c = λ j lt.
    has_max j lt
    ∙ sym (ap (λ b. is_local (if b then place.Local (c.args.self.first + j) else place.Slot (c.args.self.first + j))) c.if-self.true)
