use Rattle.std.proofs.Common.{◌+◌, not, if◌then◌else◌, ap, sym, ◌∙◌}
use Rattle.flow_class.specs.declared.class.Slotted.TheVariants as place
use Rattle.flow_validate.specs.Apart.{is_parameter_of}
use Rattle.flow_validate.proofs.Bits.{has_max}
use Rattle.flow_validate.proofs.window.Window.without.Goals as goal

pub returns-then-self : goal.returns-then-self
returns-then-self c = λ j lt.
    has_max j lt
    ∙ sym (ap (λ b. not (is_parameter_of c.args.params (if b then place.Local (c.args.self.first + j) else place.Slot (c.args.self.first + j)))) c.if-self.true)
