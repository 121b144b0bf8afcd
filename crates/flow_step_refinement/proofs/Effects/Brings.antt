-- What is brought to a process in memory at the begin of an event is brought to the process that it shows.
use Rattle.std.proofs.Common.{ℕ, [], ◌++◌, sym, ap, refl}
use Rattle.flow_value.specs.declared.value.Kind.TheVariants as kind
use Rattle.flow_value.specs.declared.value.Outcome.TheVariants as outcome
use Rattle.flow_value.specs.Values.{GoodOutcome}
use Rattle.flow_value.specs.View.{value_of}
use Rattle.flow_class.specs.Classes.{RawTree}
use Rattle.flow_meaning.specs.Process.{Drop, Proc}
use Rattle.flow_meaning.specs.Work.{pushed, fill}
use Rattle.flow_meaning.specs.Deliver.{begin, closed_request, vanish}
use Rattle.flow_meaning.specs.Step.{on_core}
use Rattle.flow_meaning.specs.Frame.{Frame}
use Rattle.flow_heap_refinement.specs.Counted.{nothing_in_hand}
use Rattle.flow_heap_refinement.specs.Rested.{Rested}
use Rattle.flow_heap_refinement.proofs.Starting.{vanished_rests}
use Rattle.flow_steps.specs.declared.process.Process.{Process}
use Rattle.flow_steps.specs.Doing.{begun, turned, vanished}
use Rattle.flow_steps.specs.Holding.{on_heap, outcome_refs}
use Rattle.flow_steps.specs.Delivering.{content_brought, answered}
use Rattle.flow_operation_refinement.specs.Matching.{told, shows}
use Rattle.flow_operation_refinement.proofs.Working.{turn_taken}
use Rattle.flow_operation_refinement.proofs.Brought.{all_there_by, there_by, sendable_by, content_follows, request_follows, main_follows}
use Rattle.flow_step_refinement.specs.Effects.Events as law
use Rattle.flow_step_refinement.proofs.Effects.Arriving.{element_sent}

module _ (r : RawTree) (m : Process) (p : Proc Frame) (now turns : ℕ) where
  abbrev start : Process
  start = begun now turns m

  abbrev begins : Proc Frame
  begins = on_core (begin turns) p

  pub event_begins : law.EventBegins r m p now turns
  event_begins b = record {
    holds = record {
      shows = record {
        cells = b.holds.shows.cells;
        actors = b.holds.shows.actors;
        tasks = b.holds.shows.tasks;
        made = b.holds.shows.made;
        started = b.holds.shows.started;
        main = b.holds.shows.main;
        ports = b.holds.shows.ports;
        requests = b.holds.shows.requests;
      };
      counted = b.holds.counted;
    };
    left = refl;
    lines = sym (ap (λ o. [] ++ told o) b.asked);
    unspent = refl;
    goes = refl;
  }

  pub delivered : law.Delivered r m p now turns
  delivered k o b is_open to there =
      let s = request_follows r [] nothing_in_hand start begins k (event_begins b) is_open in
      let q : Proc Frame = on_core (λ c. pushed (Drop kind.Promise k) (record c { requests = closed_request k c.requests })) begins in
      content_follows r [] nothing_in_hand (on_heap (answered k) start) q kind.Promise k o s (all_there_by p q (outcome_refs o) refl there) (sendable_by p q kind.Promise k refl to)

  pub arrived : law.Arrived r m p now turns
  arrived k v b to there =
      turn_taken r [] nothing_in_hand start begins nothing_in_hand (on_heap (content_brought kind.PromiseStream k (outcome.Value v)))
      (λ d. fill k (GoodOutcome (value_of v)) d) (event_begins b) (λ n e s.
      let o = on_core (λ c. record c { left = n }) begins in
      shows (element_sent r [] nothing_in_hand (turned start) o k v s
      (all_there_by p o (outcome_refs (outcome.Value v)) refl there) (there_by p o (kind.PromiseStream, k) refl to)))

  pub stopped : law.Stopped r m p now turns
  stopped b = shows (main_follows r [] nothing_in_hand start begins (event_begins b))

pub vanishes : law.Vanished
vanishes r m p b =
    let rested : Rested r (vanished m).heap (vanish p) = vanished_rests r m.heap p b.holds.shows in (
      rested,
      record { holds = record { shows = rested.running.shows; counted = rested.running.counted }; asked = b.asked },
    )
