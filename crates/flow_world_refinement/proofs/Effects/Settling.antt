-- A process in memory between events has nothing left to do.
use Rattle.std.proofs.Common.{refl, ap}
use Rattle.std.specs.declared.alloc.Global.{Global}
use Rattle.flow_class.specs.Classes.{RawTree}
use Rattle.flow_meaning.specs.Burst.{advanced}
use Rattle.flow_meaning.specs.Class.{classes}
use Rattle.flow_meaning.specs.Outside.{host}
use Rattle.flow_meaning.specs.Deliver.{begin, idle}
use Rattle.flow_meaning.specs.Step.{step_tasks, on_core}
use Rattle.flow_heap_refinement.proofs.Starting.{idle_rests}
use Rattle.flow_steps.specs.Doing.{never_ran}
use Rattle.flow_step_refinement.proofs.Effects.Brings.{event_begins}
use Rattle.flow_world_refinement.specs.Effects.Quiescence as law
use Rattle.flow_world_refinement.specs.Effects.Quiescence.{Quiescent}

pub stays_settled : (r : RawTree) → law.StaysQuiescent r
stays_settled r turns m p out s = (
  ap (λ ts. advanced host out (step_tasks (classes r) (host.supply out) ts (on_core (begin turns) p))) s.tasks,
  record {
    resting = record {
      shown = record { holds = (event_begins r m p 0 turns s.resting.shown).holds; asked = s.resting.shown.asked };
      sorted = s.resting.sorted;
      poised = s.resting.poised;
    };
    tasks = s.tasks;
  },
)

-- a process that never ran
pub settled_first : (r : RawTree) (memory : Global) → Quiescent r (never_ran memory) idle
settled_first r memory =
    let z = idle_rests r in
    record {
      resting = record {
        shown = record { holds = record { shows = z.running.shows; counted = z.running.counted }; asked = refl };
        sorted = z.running.sorted;
        poised = λ i a at. absurd (cc (at));
      };
      tasks = refl;
    }
