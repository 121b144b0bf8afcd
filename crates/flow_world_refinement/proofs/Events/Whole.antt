-- Each event of a world in memory that runs valid classes is the next event of the definitions.
use Rattle.std.specs.Prelude.{Result}
use Rattle.flow_base.specs.declared.fault.OutFault.{OutFault}
use Rattle.flow_trace.specs.declared.line.Line.{Line}
use Rattle.flow_class.specs.Classes.{RawTree}
use Rattle.flow_world_refinement.proofs.Effects.Doing.{deeds_follow}
use Rattle.flow_world_refinement.proofs.Effects.Settling.{stays_settled}
use Rattle.flow_world_refinement.proofs.Effects.Vanishing.{loss_follows}
use Rattle.flow_world_refinement.specs.Events as law
use Rattle.flow_world_refinement.proofs.Events.Joined as joined
use Rattle.flow_world_refinement.proofs.Events.Lost.{lost_follows}

module _ {A : Type 0} (puts : A → Line → Result (Unit {0}) OutFault → A → Type 0) (r : RawTree) where
  pub happening : law.Happening puts r
  happening = joined.happening r puts (λ code. deeds_follow puts r code) (stays_settled r) (lost_follows r puts (loss_follows r))

  pub spent_happening : law.SpentHappening puts r
  spent_happening = joined.spent_happening r puts (λ code. deeds_follow puts r code) (stays_settled r) (lost_follows r puts (loss_follows r))
