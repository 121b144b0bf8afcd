-- Without a cell, an actor or a task a process rests.
use Rattle.std.proofs.Common.{refl, arith}
use Rattle.flow_class.specs.Classes.{RawTree}
use Rattle.flow_cancel.specs.Heap.{no_heap}
use Rattle.flow_meaning.specs.Deliver.{idle}
use Rattle.flow_heap_refinement.specs.Representing.{Represents, nobody}
use Rattle.flow_heap_refinement.specs.Starting as law
use Rattle.flow_heap_refinement.proofs.Beside.{vanished_shown}

nobody_there : (r : RawTree) → Represents r no_heap idle
nobody_there r = record {
  cells = λ k. tt;
  actors = λ i. nobody refl refl refl refl;
  tasks = tt;
  made = refl;
  started = refl;
  main = refl;
  ports = λ k. refl;
  requests = refl;
}

pub vanished_rests : law.VanishedRests
vanished_rests r h p s = record {
  running = record {
    shows = vanished_shown r h p s;
    counted = λ x k. omega arith;
    agree = λ i k. refl;
    orderly = record { actors = λ i. refl; paired = tt; waiting = tt; numbered = tt };
    numbers = record { ports = tt; cells = tt; requests = tt };
    sorted = record { cells = omega arith; streams = omega arith; actors = omega arith; frames = omega arith; ports = λ k. refl };
    owned = record { result = λ i k e a b. absurd (cc (a)); request = λ k a. absurd (cc (a)); port = λ q k a. absurd (cc (a)) };
    cared = record { awake = λ i e a b. absurd (cc (a)); wanted = λ i k e a b c. absurd (cc (a)) };
    referenced = λ k c a. absurd (cc (a));
  };
  rest = record {
    orderly = record { actors = λ i. refl; paired = tt; waiting = tt; numbered = tt };
    no_tasks = refl;
    suspended = λ i e a. absurd (cc (a));
  };
  referred = tt;
}

pub idle_rests : law.IdleRests
idle_rests r = vanished_rests r no_heap idle (nobody_there r)
