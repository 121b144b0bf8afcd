-- The event that comes next begins: in memory and by the definitions.
use Rattle.std.proofs.Common.{◌≡◌, ℕ, suc, ◌+◌, ◌∷◌, refl, sym, ◌∙◌, subst, arith}
use Rattle.flow_worldfile.specs.declared.directive.Order.{Order}
use Rattle.flow_timers.specs.Pending.{Pending}
use Rattle.flow_class.specs.Classes.{RawTree}
use Rattle.flow_meaning.specs.Frame.{Frame}
use Rattle.flow_meaning.specs.Outside.{What}
use Rattle.flow_meaning.specs.World.{World, counted, process_of, process_in, with_left}
use Rattle.flow_world.specs.Changes.{with_events}
use Rattle.flow_world.specs.Ending.{Seen}
use Rattle.flow_world.specs.Happening.{begins, with_outside}
use Rattle.flow_world.specs.Laws.{first_left, event_taken}
use Rattle.flow_world.specs.Representing.{OutsideRepresents}
use Rattle.flow_world.proofs.Events.{event_is_taken, on_time}
use Rattle.flow_world_refinement.specs.Order.Showing.{WorldRepresents}
use Rattle.flow_world_refinement.specs.Order.Coming.{LineNext, EventNext}
use Rattle.flow_world_refinement.specs.Effects.Quiescence.{Quiescent}
use Rattle.flow_world_refinement.proofs.Events.Acting.{Going}

module _ (r : RawTree) (w : Seen) (m : World Frame) (s : WorldRepresents (Quiescent r) w m) where
  one_more : w.ran + 1 ≡ suc m.out.ran
  one_more = omega (arith, s.ran)

  pub line_begins : (time t : ℕ) (k : Order) (left : _) (n : LineNext time w.script t k left)
      → Going r m (record (begins time w) { script = n.rest }) (counted t (process_of k) (record m.out { script = left }))
  line_begins time t k left n = record {
    places = s.places;
    outside = on_time w.outside m.out time t (process_of k) left n.same s.outside;
    script = n.shows;
    ran = one_more;
    bound = s.bound;
    turns = s.turns;
    file = refl;
  }

  pub event_begins : (time : ℕ) (x : Pending What) (left : _) (n : EventNext w time x) → m.out.events.pending ≡ x ∷ left
      → Going r m (with_outside (with_events n.rest (begins time w).outside) (begins time w)) (counted x.time (process_in x.what) (with_left m.out left))
  event_begins time x left n pending = record {
    places = s.places;
    outside = on_time (with_events n.rest w.outside) (with_left m.out left) time x.time (process_in x.what) m.out.script (sym n.at ∙ n.shows.time) taken;
    script = s.script;
    ran = one_more;
    bound = s.bound;
    turns = s.turns;
    file = refl;
  }
    where
      taken : OutsideRepresents (with_events n.rest w.outside) (with_left m.out left)
      taken =
          subst (λ es. OutsideRepresents (with_events (first_left es) w.outside) (with_left m.out left)) n.are
          (subst (λ es. OutsideRepresents (event_taken w.outside) (with_left m.out (first_left es))) pending (event_is_taken w.outside m.out s.outside))
