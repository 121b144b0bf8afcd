use Rattle.std.proofs.Common.{length, arith}
use Rattle.std.proofs.lemmas.List.{length-map}
use Rattle.flow_tree.specs.DeclView.{slot_of}
use Rattle.flow_class.specs.Classes.{ClassTree}
use Rattle.flow_class.specs.View.{class_of}
use Rattle.flow_validate.proofs.Most.{class_at, most_more}
use Rattle.flow_validate.proofs.types.most_slots.Goals as goal

pub overflow_cast-len : goal.overflow_cast-len
overflow_cast-len c =
    let class = c.class-item.result in
    let few = c.requires c.loop-class.class-index (class_of class) (class_at c.args.classes.now c.loop-class.class-index class c.loop-class-test.true c.class-item.is) in
    omega (arith, few.slots, length-map class.slots.items slot_of, c.len.ensures, class.slots.ok.0)

pub loop-class-preserved : goal.loop-class-preserved
loop-class-preserved c =
    let class = c.class-item.result in
    most_more (λ (x : ClassTree). length x.slots) c.args.classes.now c.loop-class.class-index class c.loop-class.most c.max-most.result
    c.loop-class-test.true c.class-item.is (omega (arith, c.max-most.ensures)) (omega (arith, c.max-most.ensures, length-map class.slots.items slot_of, c.len.ensures, class.slots.ok.0))
    c.loop-class.invariant
