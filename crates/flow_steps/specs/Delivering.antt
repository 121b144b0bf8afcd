-- What comes to the heap of a process from outside, what is made in it, and where its actors go.
use Rattle.std.specs.Prelude.{◌≡◌, ℕ, nat_lt, Bool, false, if◌then◌else◌}
use Rattle.std.specs.Option.{is_some}
use Rattle.std.specs.declared.option.Option.{Option}
use Rattle.std.specs.declared.option.Option.TheVariants.{None, Some}
use Rattle.flow_base.specs.ErrorNumbers.{already_set}
use Rattle.flow_base.specs.declared.ids.ActorId.{ActorId}
use Rattle.flow_base.specs.declared.ids.CellId.{CellId}
use Rattle.flow_value.specs.declared.value.Value.{Value}
use Rattle.flow_value.specs.declared.value.Value.TheVariants.{Ref}
use Rattle.flow_value.specs.declared.value.Outcome.{Outcome}
use Rattle.flow_value.specs.declared.value.Kind.{Kind}
use Rattle.flow_value.specs.declared.value.Kind.TheVariants as kind
use Rattle.flow_value.specs.declared.value.Outcome.TheVariants as outcome
use Rattle.flow_numbered.specs.Numbered.{thing}
use Rattle.flow_cell.specs.declared.counts.Side.TheVariants.{Promise}
use Rattle.flow_cell.specs.Cells.{CellTree, released}
use Rattle.flow_stream.specs.Streams.{StreamTree}
use Rattle.flow_stream.specs.declared.head.Head.{Head}
use Rattle.flow_stream.specs.declared.head.Head.TheVariants as head
use Rattle.flow_frame.specs.Frames.{FrameTree}
use Rattle.flow_trace.specs.declared.line.Line.{Line}
use Rattle.flow_trace.specs.declared.line.Line.TheVariants as line
use Rattle.flow_cancel.specs.declared.task.Task.TheVariants as task
use Rattle.flow_cancel.specs.Heap.{HeapTree, cell_id, pushed, next_cell, with_result, with_stream, with_number, without_number, finished}
use Rattle.flow_heap_refinement.specs.Changes.{cell_put}
use Rattle.flow_heap_refinement.specs.Holds.{hold, hold_all, filled_in}
use Rattle.flow_steps.specs.declared.process.Process.{Process}
use Rattle.flow_steps.specs.Doing.{turned, telling, doing}
use Rattle.flow_steps.specs.declared.call.Goal.{Goal}
use Rattle.flow_steps.specs.Holding.{on_heap, outcome_refs, refs_dropped, futures_of, lost, Gives}

-- a cell gets content from outside, where a turn is left
abbrev pub content_brought : Kind → (cell : ℕ) → Outcome → HeapTree → HeapTree
content_brought kd k o h = filled_in kd k o (hold_all (outcome_refs o) h)

abbrev pub brought : Kind → (cell : ℕ) → Outcome → Process → Process
brought kd k o p = if nat_lt 0 p.left then on_heap (content_brought kd k o) (turned p) else turned p

-- an open request is answered: its promise is to be dropped
abbrev pub answered : (cell : ℕ) → HeapTree → HeapTree
answered k h = pushed (task.Drop kind.Promise (cell_id k)) (record h { requests = without_number h.requests k })

-- the hold on the result of `main` is dropped, if there is one
abbrev pub main_dropped : Option CellId → HeapTree → HeapTree
main_dropped None h = h
main_dropped (Some k) h = pushed (task.Drop kind.Future k) (record h { main = None })

-- a new cell for a kind of reference
abbrev pub made : Kind → HeapTree → HeapTree
made kind.Promise h = with_result (next_cell h) h
made kind.Future h = with_result (next_cell h) h
made kind.PromiseStream h = with_stream (next_cell h) h
made kind.FutureStream h = with_stream (next_cell h) h

-- a frame goes on at a block and an instruction
abbrev pub gone_to : (block instruction : ℕ) → FrameTree Value → FrameTree Value
gone_to b i f = record f { state = 0; block = b; instruction = i }

-- a cell has an open request, or is the stream of a port
abbrev pub requested : (cell : ℕ) → HeapTree → HeapTree
requested k h = record h { requests = with_number h.requests k }

abbrev pub heard : (cell : ℕ) → HeapTree → HeapTree
heard k h = record h { ports = with_number h.ports k }

-- A new single result for which the world has an open request is given: the request is its promise.
pub record OpenGiven (g : Goal) (i : ActorId) (k : CellId) (before after : Process) : Type 0 where
  pub number : k.0 ≡ next_cell before.heap
  pub between : Process
  pub given : Gives g i (Ref kind.Future k) (on_heap (made kind.Future) before) between
  pub requested_then : after ≡ on_heap (requested k.0) (on_heap (hold kind.Promise k.0) between)

-- A new stream for a port is given: the port is its promise.
pub record PortGiven (g : Goal) (i : ActorId) (k : CellId) (before after : Process) : Type 0 where
  pub number : k.0 ≡ next_cell before.heap
  pub between : Process
  pub given : Gives g i (Ref kind.FutureStream k) (on_heap (made kind.FutureStream) before) between
  pub heard_then : after ≡ on_heap (heard k.0) (on_heap (hold kind.PromiseStream k.0) between)

-- what an actor takes from a stream as a head of it
abbrev pub head_of : Outcome → Head Value
head_of (outcome.Value v) = head.Item v
head_of (outcome.Error e) = head.End e

-- the promise of a single result counts no more; and, where a turn is left, the result is set and fires
abbrev pub promise_ended : (cell : ℕ) → Option (CellTree Outcome) → HeapTree → HeapTree
promise_ended k None h = h
promise_ended k (Some c) h = cell_put k (record c { references = released Promise c.references }) h

abbrev pub without_promise : (cell : ℕ) → HeapTree → HeapTree
without_promise k h = promise_ended k (thing h.cells.things k) h

abbrev pub result_set : (cell : ℕ) → Outcome → Process → Process
result_set k o p = if nat_lt 0 p.left then on_heap (filled_in kind.Future k o) (on_heap (without_promise k) (turned p)) else turned p

-- the line of an actor's end
abbrev pub end_line : ActorId → Outcome → Line
end_line i (outcome.Value v) = line.Finish i
end_line i (outcome.Error e) = line.Fail i e

-- The outcome of an actor goes to its result, where it has one that a future refers to. Otherwise the result loses the actor's
-- promise, and the outcome is dropped.
abbrev pub ended_in : (cell : ℕ) → Outcome → Process → Process
ended_in k o p =
    if nat_lt 0 (futures_of (thing p.heap.cells.things k)) then result_set k o p
    else on_heap (refs_dropped (outcome_refs o)) (lost kind.Promise k p)

abbrev pub ended_with : Option CellId → Outcome → Process → Process
ended_with None o p = on_heap (refs_dropped (outcome_refs o)) p
ended_with (Some k) o p = ended_in k.0 o p

-- where a turn is left, with the line; and the actor is gone before
abbrev pub closing : ActorId → Outcome → Option CellId → Process → Process
closing i o r p = if nat_lt 0 p.left then telling (end_line i o) (ended_with r o (turned p)) else turned p

abbrev pub closed : ActorId → Outcome → Option CellId → Process → Process
closed i o r p = closing i o r (on_heap (finished i.0) p)

-- whether nothing more can be sent into a cell
abbrev pub is_set : Option (CellTree Outcome) → Bool
is_set None = false
is_set (Some c) = is_some c.content

abbrev pub is_ended : Option (StreamTree Value) → Bool
is_ended None = false
is_ended (Some s) = is_some s.end

abbrev pub complete_at : Kind → (cell : ℕ) → HeapTree → Bool
complete_at kind.Promise k h = is_set (thing h.cells.things k)
complete_at kind.Future k h = is_set (thing h.cells.things k)
complete_at kind.PromiseStream k h = is_ended (thing h.streams.things k)
complete_at kind.FutureStream k h = is_ended (thing h.streams.things k)

-- An actor sends into a cell: that nothing more can be sent is thrown; else, where a turn is left, the cell gets the outcome and
-- fires before the actor goes on.
abbrev pub sent_into : ActorId → Kind → (cell : ℕ) → Outcome → HeapTree → HeapTree
sent_into i kd k o h = filled_in kd k o (pushed (task.Run i) (hold_all (outcome_refs o) h))

abbrev pub sending : ActorId → Kind → (cell : ℕ) → Outcome → Process → Process
sending i kd k o p =
    if complete_at kd k p.heap then doing (task.Throw i (record { 0 = already_set })) p
    else if nat_lt 0 p.left then on_heap (sent_into i kd k o) (turned p) else turned p
