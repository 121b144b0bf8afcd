use Rattle.std.proofs.Common.{◌≤◌, length, map, subst, arith}
use Rattle.std.proofs.lemmas.List.{length-map}
use Rattle.flow_class.specs.View.{class_of}
use Rattle.flow_validate.specs.Verdicts.{ClassTold}
use Rattle.flow_validate.proofs.Most.{class_at}
use Rattle.flow_validate.proofs.Verdicts.{class_breaks, sound_more, sound_all}
use Rattle.flow_validate.proofs.validate.judge_classes.Goals as goal

pub class_rule-requires-clause-few : goal.class_rule-requires-clause-few
class_rule-requires-clause-few c =
    let class = c.index-classes-place.result in
    c.requires.few c.loop-place.place (class_of class) (class_at c.args.classes.now c.loop-place.place class c.loop-place-test.true c.index-classes-place.is)

pub class_rule-requires-clause-places : goal.class_rule-requires-clause-places
class_rule-requires-clause-places c =
    let class = c.index-classes-place.result in
    c.requires.places c.loop-place.place (class_of class) (class_at c.args.classes.now c.loop-place.place class c.loop-place-test.true c.index-classes-place.is)

pub returns-in-Some-clause-refused : goal.returns-in-Some-clause-refused
returns-in-Some-clause-refused c = λ r sees classes heads.
    let class = c.index-classes-place.result in
    let at = class_at c.args.classes.now c.loop-place.place class c.loop-place-test.true c.index-classes-place.is in
    rw c.number.ensures
    (class_breaks c.args.names.now (map class_of c.args.classes.now) c.loop-place.place (class_of class) c.in-Some.rule r sees classes heads at
    (subst (ClassTold r (class_of class)) c.in-Some.is (c.in_ok-rule.ensures r sees)) c.loop-place.invariant)

pub loop-place-preserved : goal.loop-place-preserved
loop-place-preserved c =
    let class = c.index-classes-place.result in
    let at = class_at c.args.classes.now c.loop-place.place class c.loop-place-test.true c.index-classes-place.is in
    sound_more c.args.names.now (map class_of c.args.classes.now) c.loop-place.place (class_of class) at
    (λ r sees. subst (ClassTold r (class_of class)) c.in_default.is (c.in_ok-rule.ensures r sees)) c.loop-place.invariant

pub returns-clause-sound : goal.returns-clause-sound
returns-clause-sound c = λ r sees classes.
    let le : length (map class_of c.args.classes.now) ≤ c.loop-place.place = omega (arith, c.loop-place-test.false, length-map c.args.classes.now class_of) in
    sound_all c.args.names.now (map class_of c.args.classes.now) c.loop-place.place r sees classes le c.loop-place.invariant
