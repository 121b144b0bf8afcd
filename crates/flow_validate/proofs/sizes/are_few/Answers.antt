use Rattle.std.proofs.Common.{map, sym, subst, ◌∙◌}
use Rattle.std.proofs.lemmas.List.{take_all}
use Rattle.flow_class.specs.View.{class_of}
use Rattle.flow_validate.specs.Sizes.{HasFewPlaces, AreFew}
use Rattle.flow_validate.proofs.Most.{class_at, all_more}
use Rattle.flow_validate.proofs.sizes.are_few.Goals as goal

pub loop-class-preserved : goal.loop-class-preserved
loop-class-preserved c =
    all_more HasFewPlaces c.args.classes.now c.loop-class.class-index c.class-item.result c.loop-class-test.true c.class-item.is
    (c.has_few_places.ensures.few c.if-not-has_few_places.false) c.loop-class.invariant

pub returns-then-not-has_few_places-clause-all : goal.returns-then-not-has_few_places-clause-all
returns-then-not-has_few_places-clause-all c = λ few.
    let at = class_at c.args.classes.now c.loop-class.class-index c.class-item.result c.loop-class-test.true c.class-item.is in
    sym c.if-not-has_few_places.true ∙ c.has_few_places.ensures.all (few c.loop-class.class-index (class_of c.class-item.result) at)

pub returns-clause-few : goal.returns-clause-few
returns-clause-few c = λ _.
    subst (λ l. AreFew (map class_of l)) (take_all c.loop-class.class-index c.args.classes.now c.loop-class-test.false) c.loop-class.invariant
