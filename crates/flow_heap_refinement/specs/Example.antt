-- A `main` that waits for a timer: the heap, the process, and that the one shows the other.
use Rattle.std.specs.Prelude.{true, false, [], ◌∷◌}
use Rattle.std.specs.declared.option.Option.TheVariants.{None, Some}
use Rattle.flow_tree.specs.Tree.{VoidType, VoidExpr}
use Rattle.flow_value.specs.declared.value.Kind.TheVariants as kind
use Rattle.flow_class.specs.Classes.{ChooseLast, ClassTree, RawTree}
use Rattle.flow_cancel.specs.Heap.{HeapTree, actor_id, cell_id, nothing}
use Rattle.flow_meaning.specs.Cells.{Single}
use Rattle.flow_meaning.specs.Process.{Proc}
use Rattle.flow_meaning.specs.Deliver.{idle_core}
use Rattle.flow_meaning.specs.Frame.{Frame}
use Rattle.flow_heap_refinement.specs.Rested.{Rested}

abbrev pub waiting_class : ClassTree
waiting_class = record {
  name = [];
  returns = VoidType;
  params = 0;
  slots = [];
  locals = [];
  blocks = record { catcher = None; body = []; last = ChooseLast 1 } ∷ [];
  groups = (record { next = false; operand = VoidExpr; into = None; block = 0 } ∷ []) ∷ [];
}

abbrev pub waiting_classes : RawTree
waiting_classes = record { records = []; functions = []; classes = waiting_class ∷ [] }

-- cell 1 is the result of `main`, cell 2 the timer's
abbrev pub waiting_heap : HeapTree
waiting_heap = record {
  tasks = [];
  cells = record {
    things =
        (1, record { content = None; references = record { promises = 1; futures = 1 }; waiters = [] })
        ∷ (
          2,
          record {
            content =
                None;
            references = record { promises = 1; futures = 1 };
            waiters = record { actor = actor_id 1; callback = 0 } ∷ [];
          },
        ) ∷ [];
    greatest = 2;
  };
  streams = nothing;
  frames = record {
    things = (
      1,
      record {
        class =
            0;
        state = 1;
        block = 0;
        instruction = 0;
        places = [];
        callbacks = record { callback = 0; cell = cell_id 2 } ∷ [];
      },
    ) ∷ [];
    greatest = 1;
  };
  actors = record { things = (1, record { result = Some (cell_id 1); marked = false }) ∷ []; greatest = 1 };
  made = 2;
  main = Some (cell_id 1);
  ports = [];
  requests = 2 ∷ [];
}

abbrev pub waiting_process : Proc Frame
waiting_process = record {
  core = record idle_core {
    cells = (1, Single None []) ∷ (2, Single None (record { actor = 1; branch = 0 } ∷ [])) ∷ [];
    made = 2;
    entries = (
      1,
      record {
        class =
            0;
        result = Some 1;
        marked = false;
        suspended = true;
        spot = record { group = 1; first = 0 };
        operands = (kind.Future, 2) ∷ [];
      },
    ) ∷ [];
    started = 1;
    main = Some 1;
    requests = 2 ∷ [];
  };
  actors = (
    1,
    record {
      code =
          waiting_class;
      mem = record { slots = []; locals = [] };
      block = 0;
      instr = 0;
      state = 1;
    },
  ) ∷ [];
}

abbrev pub WaitingRests : Type 0
WaitingRests = Rested waiting_classes waiting_heap waiting_process
