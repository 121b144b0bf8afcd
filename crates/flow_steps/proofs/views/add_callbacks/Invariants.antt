use Rattle.std.proofs.Common.{◌≡◌, ◌++◌, map, drop}
use Rattle.flow_steps.specs.Views.{callback_view}
use Rattle.flow_steps.proofs.views.add_callbacks.Given as goal

abbrev pub invariant-loop-held : goal.invariant-loop-held
invariant-loop-held l =
    let told = callback_view l.actor.0 in
    l.views.items ++ map told (drop l.held-index l.callbacks) ≡ l.initial.views.items ++ map told l.callbacks
