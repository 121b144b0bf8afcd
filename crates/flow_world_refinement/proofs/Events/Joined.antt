-- Whatever comes next in memory is the next event of the definitions.
use Rattle.std.proofs.Common.{◌≡◌, Bool, true, false, Some, refl, subst}
use Rattle.std.specs.Prelude.{Result}
use Rattle.flow_base.specs.declared.fault.OutFault.{OutFault}
use Rattle.flow_trace.specs.declared.line.Line.{Line}
use Rattle.flow_class.specs.Classes.{RawTree}
use Rattle.flow_code.specs.declared.program.Code.{Code}
use Rattle.flow_meaning.specs.Frame.{Frame}
use Rattle.flow_meaning.specs.World.{World, Next, Nothing, Script, Event as ComesEvent, next_of}
use Rattle.flow_machine.specs.declared.host.Burst as burst_end
use Rattle.flow_machine.specs.declared.host.Burst.TheVariants.{Rested, Spent}
use Rattle.flow_world.specs.Ending.{Seen, next}
use Rattle.flow_world.specs.Happening.{Happens, Comes, LineComes, EventComes, begins}
use Rattle.flow_world_refinement.specs.Order.Showing.{WorldRepresents}
use Rattle.flow_world_refinement.specs.Order.Coming.{NextMatches}
use Rattle.flow_world_refinement.proofs.Order.Next.{same_next}
use Rattle.flow_burst_refinement.specs.Enabled.Tasking.{IsProgram}
use Rattle.flow_world_refinement.specs.Effects.Actions.{ActionRefines}
use Rattle.flow_world_refinement.specs.Effects.Quiescence.{Quiescent, StaysQuiescent}
use Rattle.flow_world_refinement.specs.Invariants.{WorldInvariant}
use Rattle.flow_world_refinement.specs.Events as law
use Rattle.flow_world_refinement.proofs.Events.Lines.{Event, LossFollows, line_event}
use Rattle.flow_world_refinement.proofs.Events.Events.{pending_event}

module _ (r : RawTree) {A : Type 0} (puts : A → Line → Result (Unit {0}) OutFault → A → Type 0) (deeds : (code : Code) → ActionRefines puts r code) (still : StaysQuiescent r)
    (loss : LossFollows r puts) where
  any_event : (w v : Seen) (m : World Frame) (a b : A) (e : burst_end.Burst) → IsProgram r w.code → WorldRepresents (Quiescent r) w m → WorldInvariant r m → Happens puts w a e v b
      → Event r puts e m a v b
  any_event w v m a b e program s lasting h =
      by_next h.scripted (next_of m.out) refl (subst (λ n. NextMatches w n (next_of m.out) m.out) h.comes (same_next (Quiescent r) w m s)) h.comes h.does
    where
      by_next : (scripted : Bool) (x : Next) → next_of m.out ≡ x → NextMatches w (Some (h.time, scripted)) x m.out → next w ≡ Some (h.time, scripted)
          → Comes puts scripted (begins h.time w) a e h.left b
          → Event r puts e m a v b
      by_next true Nothing q n next_is d = elim n [ ]
      by_next false Nothing q n next_is d = elim n [ ]
      by_next true (ComesEvent x left) q n next_is d = elim n [ ]
      by_next false (Script t k left) q n next_is d = elim n [ ]
      by_next true (Script t k left) q n next_is d =
          line_event r puts w v m a b e program s lasting h (deeds w.code) still loss t k left n q next_is (subst (λ ls. LineComes puts ls (begins h.time w) a e h.left b) n.are d)
      by_next false (ComesEvent x left) q n next_is d =
          pending_event r puts w v m a b e program s lasting h (deeds w.code) still loss x left n.0 q n.1 (subst (λ es. EventComes puts es (begins h.time w) a e h.left b) n.0.are d)

  pub happening : law.Happening puts r
  happening w v m a b program s lasting h = any_event w v m a b Rested program s lasting h

  pub spent_happening : law.SpentHappening puts r
  spent_happening w v m a b program s lasting h = any_event w v m a b Spent program s lasting h
