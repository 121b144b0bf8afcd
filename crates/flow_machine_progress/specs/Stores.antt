-- No promise is to be stored as the result of an effect: what makes one puts it in place in the same step.
use Rattle.std.specs.Prelude.{ℕ, List, [], ◌∷◌}
use Rattle.flow_base.specs.declared.ids.ProcId.{ProcId}
use Rattle.flow_value.specs.declared.value.Kind.{Kind}
use Rattle.flow_value.specs.declared.value.Kind.TheVariants as kind
use Rattle.flow_value.specs.declared.value.Outcome.{Outcome}
use Rattle.flow_value.specs.Values.{ValueTree, CompositeValue, ListWhole, RefValue}
use Rattle.flow_value.specs.View.{value_of}
use Rattle.flow_code.specs.declared.program.Code.{Code}
use Rattle.flow_trace.specs.declared.line.Line.{Line}
use Rattle.flow_cancel.specs.declared.task.Task.{Task}
use Rattle.flow_cancel.specs.declared.task.Task.TheVariants as task
use Rattle.flow_cancel.specs.Heap.{HeapTree}
use Rattle.flow_numbered.specs.Numbered.{Numbered}
use Rattle.flow_meaning.specs.Burst.{Host}
use Rattle.flow_steps.specs.declared.call.Call.{Call}
use Rattle.flow_steps.specs.declared.process.Process.{Process}
use Rattle.flow_steps.specs.Delivering.{brought}
use Rattle.flow_steps.specs.Tasks.{TopTaken, IsDone, MainCalled}
use Rattle.flow_machine.specs.Serving.{Served}

-- a value is no promise, neither of a single result nor of a stream, and no vector, which is put in place like one
abbrev pub NoPromise : ValueTree → Type 0
NoPromise (RefValue kind.Promise k) = ⊥
NoPromise (RefValue kind.PromiseStream k) = ⊥
NoPromise (CompositeValue ListWhole vs) = ⊥
NoPromise v = Unit {0}

-- what a task stores, if it stores something, is none; so it is with these tasks, and with those of a heap
abbrev pub StoresNone : Task → Type 0
StoresNone (task.Store i v) = NoPromise (value_of v.value)
StoresNone t = Unit {0}

abbrev pub AllStoreNone : List Task → Type 0
AllStoreNone [] = Unit {0}
AllStoreNone (t ∷ ts) = StoresNone t × AllStoreNone ts

abbrev pub NoPromiseStored : HeapTree → Type 0
NoPromiseStored h = AllStoreNone h.tasks

-- Each task, done in memory, keeps it.
abbrev pub TaskStoresNone : Type 0
TaskStoresNone =
    (code : Code) (t : Task) (m start n : Process) → NoPromiseStored m.heap → TopTaken t m start → IsDone code t start n
    → NoPromiseStored n.heap

-- So does what the world makes of a call.
module _ {A W : Type 0} (serves : Host W) (shows : A → Numbered ℕ → W → Type 0) (wrote : A → List Line → A → Type 0) where
  abbrev pub ServedStoresNone : Type 0
  ServedStoresNone =
      (count : ℕ) (c : Call) (m n : Process) (a b : A) → Served serves shows wrote count c m a n b
      → NoPromiseStored m.heap → NoPromiseStored n.heap

-- And so do what the world brings, and the call of `main`.
abbrev pub DeliveredStoresNone : Type 0
DeliveredStoresNone =
    (kd : Kind) (k : ℕ) (o : Outcome) (m : Process) → NoPromiseStored m.heap → NoPromiseStored (brought kd k o m).heap

abbrev pub MainStoresNone : Type 0
MainStoresNone = (code : Code) (me : ProcId) (m n : Process) → MainCalled code me m n → NoPromiseStored m.heap → NoPromiseStored n.heap
