use Rattle.flow_worldfile.specs.Worlds.{seen}
use Rattle.flow_shrink.specs.Editing.{IsLeastBy}
use Rattle.flow_shrink.proofs.Passing.{moved}
use Rattle.flow_shrink.proofs.shrinking.shrink_by.Goals as goal

pub returns-clause-shrinks : goal.returns-clause-shrinks
returns-clause-shrinks g c = (
  c.in_ok-stopped.ensures.stopped.0 c.if-not-stopped.false,
  moved g.R.Runner.means _ _ _ _ c.args.limit (λ S. IsLeastBy (g.E.Edits.edit c.args.edits.now) S (seen c.args.world) (seen c.try_all.new.world))
      c.in_ok-stopped.ensures.kept c.in_ok-stopped.ensures.begun c.in_ok-try_all.ensures.least,
)
