use Rattle.std.proofs.Common.{List, map, ap}
use Rattle.std.proofs.lemmas.Result.{IfOk-weaker}
use Rattle.flow_class.specs.declared.class.Block.{Block}
use Rattle.flow_class.specs.View.{class_of, block_of}
use Rattle.flow_validate.specs.declared.touch.Touches.{Touches}
use Rattle.flow_validate.specs.Joined.{AreJoined}
use Rattle.flow_validate.specs.Small.{small_block}
use Rattle.flow_validate.specs.WalkStates.{HoldsTouches}
use Rattle.flow_validate.proofs.Plain.{all_plain}
use Rattle.flow_validate.proofs.filling.all_touches.Goals as goal

pub returns : goal.returns
returns c =
    let class = class_of c.args.class.now in
    let all = map (small_block class) (map block_of c.deref.result.now) in
    let same = ap (λ (l : List Block). map (small_block class) (map block_of l)) c.deref.ensures.value in
    IfOk-weaker c.of.result (λ (t : Touches). AreJoined t all) (HoldsTouches class)
    (λ t h. (all, h, all_plain class c.requires.few c.requires.named all same))
    c.of.ensures
