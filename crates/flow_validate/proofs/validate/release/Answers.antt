use Rattle.flow_validate.proofs.Whole.{released}
use Rattle.flow_validate.proofs.validate.release.Goals as goal

pub returns : goal.returns
returns c = λ r h.
    let p = c.in_ok-records.field-0 in
    released c.args.gathered p.records.items p.functions.items r h c.in_ok-records.ensures.records c.in_ok-records.ensures.functions
