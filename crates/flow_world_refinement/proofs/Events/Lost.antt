-- A loss of power by the script.
use Rattle.std.proofs.Common.{false, [], ◌∷◌, refl, sym, ap₂, ◌∙◌, subst}
use Rattle.std.specs.Prelude.{Result, Ok, slice_set}
use Rattle.flow_base.specs.declared.fault.OutFault.{OutFault}
use Rattle.flow_trace.specs.declared.line.Line.{Line}
use Rattle.flow_trace.specs.declared.line.Line.TheVariants as line
use Rattle.flow_class.specs.Classes.{RawTree}
use Rattle.flow_meaning.specs.Burst.{live, rests}
use Rattle.flow_meaning.specs.Frame.{Frame}
use Rattle.flow_meaning.specs.Outside.{process_id}
use Rattle.flow_meaning.specs.World.{Begun, killed, ready}
use Rattle.flow_world.specs.Around.{Puts, no_line, more_lines}
use Rattle.flow_world.specs.Happening.{ends}
use Rattle.flow_world.proofs.Putting.{puts_more}
use Rattle.flow_world_refinement.specs.Order.Showing.{WorldRepresents}
use Rattle.flow_world_refinement.specs.Effects.Quiescence.{Quiescent}
use Rattle.flow_world_refinement.specs.Effects.Vanishing.{PowerGone}
use Rattle.flow_world_refinement.specs.Effects.Vanishing as deeds
use Rattle.flow_world_refinement.proofs.Events.Placing.{place_of}
use Rattle.flow_world_refinement.proofs.Events.Acting.{Follows, shown_at, shown_after}
use Rattle.flow_world_refinement.proofs.Events.Lines.{LossFollows}

pub lost_follows : (r : RawTree) {A : Type 0} (puts : A → Line → Result (Unit {0}) OutFault → A → Type 0) → deeds.LossFollows r → LossFollows r puts
lost_follows r {A} puts law m u v o p a b e s active t = subst (λ z. Follows r puts m begun a z (ends z v) b) (sym t.rests) (record {
  left = live begun.place.proc begun.out;
  bursts = rests gone.rests;
  lines = puts_more puts a b b begun.head [] (subst (λ ls. Puts puts a ls b) (sym gone.lines) (more_lines told t.kept)) no_line;
  ends = (
    refl,
    subst (λ z. WorldRepresents (Quiescent r) (record z { ended = false }) (record { places = slice_set m.places begun.out.active begun.place; out = begun.out })) (sym t.vanishes.left)
        (shown_after r m u o p t.vanishes.gone t.left begun.place begun.out s gone.shows gone.outside gone.stays.file gone.stays.ran gone.stays.script (gone.stays.active ∙ sym active)),
  );
})
  where
    head : Line
    head = line.Kill o.ran o.time (process_id p.0)

    begun : Begun Frame
    begun = killed (head ∷ []) p.0 (ready m p.0) o

    told : puts a head (Ok tt) t.between
    told = subst (λ l. puts a l (Ok tt) t.between) (ap₂ (λ n i. line.Kill n i p) s.ran s.outside.time) t.told

    gone : PowerGone r m.out.file.turns p (place_of m.places p.0) o (head ∷ []) t.vanishes.gone t.left t.fates
    gone =
        law m.out.file.turns p (place_of m.places p.0) o (head ∷ []) t.vanishes.place t.vanishes.gone u.outside t.lost t.left t.fates
        (shown_at r m u o p t.vanishes.place s t.vanishes.there) s.outside t.loses t.forgotten t.vanishes.goes
