use Rattle.std.proofs.Common.{◌≡◌, subst}
use Rattle.std.specs.Prelude.{IfOk}
use Rattle.flow_top.proofs.Reading.{generated_is, not_generated}
use Rattle.flow_top.proofs.source.generated.Goals as goal

pub returns-in-Ok : goal.returns-in-Ok
returns-in-Ok c = λ own files is. generated_is files own c.in-Ok.text (subst (λ r. IfOk r (λ v. v.items ≡ own)) c.in-Ok.is is)

pub returns-in-Err : goal.returns-in-Err
returns-in-Err c = λ own files is. not_generated files own
