use Rattle.std.proofs.Common.{map, subst}
use Rattle.flow_class.specs.View.{class_of}
use Rattle.flow_validate.specs.Sizes.{AreFew}
use Rattle.flow_validate_tests.proofs.judged.is_judged.Goals as goal

pub validate-requires-clause-few : goal.validate-requires-clause-few
validate-requires-clause-few c = subst (λ l. AreFew (map class_of l)) c.deref.ensures.value (c.are_few.ensures.few c.if-not-are_few.false)
