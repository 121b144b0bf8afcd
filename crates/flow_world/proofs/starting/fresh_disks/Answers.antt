use Rattle.std.proofs.Common.{[], ◌∷◌, ◌++◌, ap₂, ◌∙◌}
use Rattle.std.proofs.lemmas.List.{replicate_more}
use Rattle.flow_world.proofs.starting.fresh_disks.Goals as goal

pub loop-number-preserved : goal.loop-number-preserved
loop-number-preserved c =
    c.in_ok-push.ensures.items ∙ ap₂ (λ ds d. ds ++ d ∷ []) c.loop-number.invariant c.in_ok-new.ensures
    ∙ replicate_more c.loop-number._number (record { fails = 0; files = [] })
