use Rattle.std.proofs.Common.{ap, ◌∙◌}
use Rattle.flow_types.specs.MapView.{vars_of}
use Rattle.flow_class.specs.View.{class_of}
use Rattle.flow_validate.specs.Apart.{types_fit_in}
use Rattle.flow_validate.proofs.Verdicts.{class_seen}
use Rattle.flow_validate.proofs.validate.is_typed.Goals as goal

pub returns : goal.returns
returns c = λ r sees.
    let class = class_of c.args.class.now in
    c.types_fit.ensures ∙ ap (types_fit_in class) (class_seen r c.args.names.now class (vars_of c.in_ok-variables.field-0) sees c.in_ok-variables.ensures)
