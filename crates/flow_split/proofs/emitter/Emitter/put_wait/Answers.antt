use Rattle.std.proofs.lemmas.Result.{on_ok_weaker}
use Rattle.flow_split.specs.Contexts.{names_in, slots_in, around_of}
use Rattle.flow_split.proofs.Exits.{wait_emits}
use Rattle.flow_split.proofs.emitter.Emitter.put_wait.Goals as goal

pub returns : goal.returns
returns c =
    on_ok_weaker c.declare_maybe.result
    (λ h at. wait_emits (names_in c.args.context.now) (slots_in c.args.context.now) (around_of c.args.around.now) _ _ _ _ at _ _ _ c.requires c.in_ok-block.ensures c.in_ok-callbacks.ensures
    c.in_ok-wait_for.ensures c.begin.ensures h)
    c.declare_maybe.ensures
