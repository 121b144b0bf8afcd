-- What is done to a heap beside its frames, where no task is taken off.
use Rattle.std.proofs.Common.{◌≡◌, inr, ℕ, true, false, List, [], ◌∷◌, refl, ◌∙◌}
use Rattle.std.specs.declared.option.Option.{Option}
use Rattle.std.specs.declared.option.Option.TheVariants.{None, Some}
use Rattle.flow_value.specs.declared.value.Value.{Value}
use Rattle.flow_value.specs.declared.value.Outcome.{Outcome}
use Rattle.flow_value.specs.declared.value.Kind.{Kind}
use Rattle.flow_value.specs.declared.value.Kind.TheVariants as kind
use Rattle.flow_numbered.specs.Numbered.{thing}
use Rattle.flow_cell.specs.declared.counts.Side.{Side}
use Rattle.flow_cell.specs.declared.counts.Side.TheVariants.{Promise, Future}
use Rattle.flow_cell.specs.declared.waiter.Waiter.{Waiter}
use Rattle.flow_cell.specs.Cells.{CellTree}
use Rattle.flow_stream.specs.Streams.{StreamTree}
use Rattle.flow_frame.specs.declared.held.Held.{Held}
use Rattle.flow_cancel.specs.declared.task.Task.{Task}
use Rattle.flow_cancel.specs.Heap.{HeapTree, pushed}
use Rattle.flow_cancel.specs.Dropping.{drops}
use Rattle.flow_cancel.specs.Leaving.{leave_stream_at, leave_cell_at, waiter_of, leave_one, leave_all}
use Rattle.flow_meaning.specs.Cells.{Ref}
use Rattle.flow_heap_refinement.specs.Changes.{cell_put, stream_put}
use Rattle.flow_heap_refinement.specs.Holds.{held_cell, held_stream, hold, hold_all, set_cell, send_stream, filled_in}
use Rattle.flow_steps.specs.Delivering.{made, promise_ended, without_promise}
use Rattle.flow_steps.specs.Waiting.{Registered, stream_awaited, awaited, register, register_all, registered_then}
use Rattle.flow_step_refinement.specs.Resuming.{IsEnding}

pub record Aside (h g : HeapTree) : Type 0 where
  pub frames : g.frames ≡ h.frames
  pub ends : (i : ℕ) → IsEnding i h.tasks → IsEnding i g.tasks

pub still : (h : HeapTree) → Aside h h
still h = record { frames = refl; ends = λ i e. e }

pub and_then : (h g k : HeapTree) → Aside h g → Aside g k → Aside h k
and_then h g k a b = record { frames = b.frames ∙ a.frames; ends = λ i e. b.ends i (a.ends i e) }

pub pushing : (t : Task) (h : HeapTree) → Aside h (pushed t h)
pushing t h = record { frames = refl; ends = λ i e. inr e }

drops_end : (i : ℕ) (rs : List Ref) (ts : List Task) → IsEnding i ts → IsEnding i (drops rs ts)
drops_end i [] ts e = e
drops_end i (r ∷ rs) ts e = inr (drops_end i rs ts e)

pub dropping_refs : (rs : List Ref) (h : HeapTree) → Aside h (record h { tasks = drops rs h.tasks })
dropping_refs rs h = record { frames = refl; ends = λ i e. drops_end i rs h.tasks e }

pub making : (kd : Kind) (h : HeapTree) → Aside h (made kd h)
making kind.Promise h = record { frames = refl; ends = λ i e. e }
making kind.Future h = record { frames = refl; ends = λ i e. e }
making kind.PromiseStream h = record { frames = refl; ends = λ i e. e }
making kind.FutureStream h = record { frames = refl; ends = λ i e. e }

-- references that count
holding_cell : (s : Side) (k : ℕ) (x : Option (CellTree Outcome)) (h : HeapTree) → Aside h (held_cell s k x h)
holding_cell s k None h = still h
holding_cell s k (Some c) h = record { frames = refl; ends = λ i e. e }

holding_stream : (s : Side) (k : ℕ) (x : Option (StreamTree Value)) (h : HeapTree) → Aside h (held_stream s k x h)
holding_stream s k None h = still h
holding_stream s k (Some c) h = record { frames = refl; ends = λ i e. e }

pub holding : (kd : Kind) (k : ℕ) (h : HeapTree) → Aside h (hold kd k h)
holding kind.Promise k h = holding_cell Promise k (thing h.cells.things k) h
holding kind.Future k h = holding_cell Future k (thing h.cells.things k) h
holding kind.PromiseStream k h = holding_stream Promise k (thing h.streams.things k) h
holding kind.FutureStream k h = holding_stream Future k (thing h.streams.things k) h

pub holding_all : (rs : List Ref) (h : HeapTree) → Aside h (hold_all rs h)
holding_all [] h = still h
holding_all (r ∷ rs) h = and_then h (hold r.0 r.1 h) (hold_all rs (hold r.0 r.1 h)) (holding r.0 r.1 h) (holding_all rs (hold r.0 r.1 h))

-- content
fires : (kd : Kind) (k : ℕ) (h g : HeapTree) (t : Task) → Aside h g → Aside h (pushed t (hold kd k g))
fires kd k h g t a = and_then h g (pushed t (hold kd k g)) a (and_then g (hold kd k g) (pushed t (hold kd k g)) (holding kd k g) (pushing t (hold kd k g)))

setting : (k : ℕ) (o : Outcome) (x : Option (CellTree Outcome)) (h : HeapTree) → Aside h (set_cell k o x h)
setting k o None h = still h
setting k o (Some m) h = fires kind.Future k h (cell_put k (record m { content = Some o }) h) _ (record { frames = refl; ends = λ i e. e })

sending : (k : ℕ) (o : Outcome) (x : Option (StreamTree Value)) (h : HeapTree) → Aside h (send_stream k o x h)
sending k o None h = still h
sending k o (Some m) h = fires kind.FutureStream k h (stream_put k _ h) _ (record { frames = refl; ends = λ i e. e })

pub filling : (kd : Kind) (k : ℕ) (o : Outcome) (h : HeapTree) → Aside h (filled_in kd k o h)
filling kind.Promise k o h = setting k o (thing h.cells.things k) h
filling kind.Future k o h = setting k o (thing h.cells.things k) h
filling kind.PromiseStream k o h = sending k o (thing h.streams.things k) h
filling kind.FutureStream k o h = sending k o (thing h.streams.things k) h

promise_ending : (k : ℕ) (x : Option (CellTree Outcome)) (h : HeapTree) → Aside h (promise_ended k x h)
promise_ending k None h = still h
promise_ending k (Some c) h = record { frames = refl; ends = λ i e. e }

pub losing_promise : (k : ℕ) (h : HeapTree) → Aside h (without_promise k h)
losing_promise k h = promise_ending k (thing h.cells.things k) h

-- operands that leave their cells
leaving_stream : (k : ℕ) (w : Waiter) (o : Option (StreamTree Value)) (h : HeapTree) → Aside h (record h { streams = leave_stream_at k w o h.streams })
leaving_stream k w o h = record { frames = refl; ends = λ i e. e }

leaving_cell : (k : ℕ) (w : Waiter) (o : Option (CellTree Outcome)) (h : HeapTree) → Aside h (leave_cell_at k w o h)
leaving_cell k w None h = leaving_stream k w (thing h.streams.things k) h
leaving_cell k w (Some c) h = record { frames = refl; ends = λ i e. e }

pub leaving_all : (j : ℕ) (xs : List Held) (h : HeapTree) → Aside h (leave_all j xs h)
leaving_all j [] h = still h
leaving_all j (x ∷ xs) h =
    let g = leave_all j xs h in
    let k = leave_cell_at x.cell.0 (waiter_of j x) (thing g.cells.things x.cell.0) g in
    and_then h g (leave_one j x g) (leaving_all j xs h) (and_then g k (leave_one j x g) (leaving_cell x.cell.0 (waiter_of j x) (thing g.cells.things x.cell.0) g) (pushing _ k))

-- and come to wait there
awaiting_stream : (k : ℕ) (w : Waiter) (s : StreamTree Value) (o : Option Waiter) (h : HeapTree) → Aside h (stream_awaited k w s o h).1
awaiting_stream k w s None h = record { frames = refl; ends = λ i e. e }
awaiting_stream k w s (Some v) h = still h

awaiting : (k : ℕ) (w : Waiter) (c : Option (CellTree Outcome)) (s : Option (StreamTree Value)) (h : HeapTree) → Aside h (awaited k w c s h).1
awaiting k w (Some c) s h = record { frames = refl; ends = λ i e. e }
awaiting k w None (Some s) h = awaiting_stream k w s s.waiter h
awaiting k w None None h = still h

pub registering : (j : ℕ) (xs : List Held) (h : HeapTree) → Aside h (register_all j xs h).1
registering j [] h = still h
registering j (x ∷ xs) h = by_first (register j x h) (awaiting x.cell.0 (waiter_of j x) (thing h.cells.things x.cell.0) (thing h.streams.things x.cell.0) h) (λ g. registering j xs g)
  where
    by_first : (r : Registered) → Aside h r.1 → ((g : HeapTree) → Aside g (register_all j xs g).1) → Aside h (registered_then (register_all j xs) r).1
    by_first (true, g) a rest = and_then h g (register_all j xs g).1 a (rest g)
    by_first (false, g) a rest = a
