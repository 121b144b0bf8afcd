use Rattle.flow_front.proofs.Judging.{checked_verdict, typed_text, state_verdict}
use Rattle.flow_front.proofs.verdict.judge.Goals as goal

pub returns-in-Ok : goal.returns-in-Ok
returns-in-Ok c = λ text is.
    let typed = typed_text text c.args.program c.in-Ok.typed is c.in-Ok.ensures.checked c.in-Ok.ensures.program in
    state_verdict text c.in-Ok.typed c.check_state.result typed c.check_state.ensures

pub returns-in-Err : goal.returns-in-Err
returns-in-Err c = λ text is. checked_verdict text c.args.program c.in-Err.fault is c.in-Err.ensures.checked
