-- What each task that is done in memory keeps.
use Rattle.std.proofs.Common.{◌≡◌, ℕ, Bool, true, false, if◌then◌else◌, refl, sym, subst, ◌∙◌}
use Rattle.std.specs.Prelude.{nat_lt}
use Rattle.std.specs.declared.option.Option.{Option}
use Rattle.std.specs.declared.option.Option.TheVariants.{None, Some}
use Rattle.flow_base.specs.declared.ids.ActorId.{ActorId}
use Rattle.flow_base.specs.declared.ids.CellId.{CellId}
use Rattle.flow_base.specs.declared.ids.ErrorCode.{ErrorCode}
use Rattle.flow_value.specs.declared.value.Value.{Value}
use Rattle.flow_value.specs.declared.value.Outcome.{Outcome}
use Rattle.flow_value.specs.declared.value.Outcome.TheVariants as outcome
use Rattle.flow_value.specs.declared.value.Kind.{Kind}
use Rattle.flow_value.specs.declared.value.Kind.TheVariants as kind
use Rattle.flow_code.specs.declared.class.Catcher.{Catcher}
use Rattle.flow_code.specs.declared.program.Code.{Code}
use Rattle.flow_numbered.specs.Numbered.{Numbered, thing}
use Rattle.flow_cell.specs.declared.counts.Side.{Side}
use Rattle.flow_cell.specs.declared.counts.Side.TheVariants.{Promise, Future}
use Rattle.flow_cell.specs.declared.counts.Loss.{Loss}
use Rattle.flow_cell.specs.declared.counts.Loss.TheVariants as loss
use Rattle.flow_cell.specs.declared.waiter.Waiter.{Waiter}
use Rattle.flow_cell.specs.Cells.{CellTree, released}
use Rattle.flow_cell.specs.Cells as cells
use Rattle.flow_stream.specs.Streams.{StreamTree}
use Rattle.flow_cancel.specs.declared.actors.Note.{Note}
use Rattle.flow_cancel.specs.declared.task.Task as stack
use Rattle.flow_cancel.specs.declared.task.Task.TheVariants as task
use Rattle.flow_cancel.specs.declared.task.Dropped.TheVariants as after
use Rattle.flow_cancel.specs.Heap.{HeapTree, has_number, owner, pushed, finished}
use Rattle.flow_cancel.specs.Dropping.{broken_if_not, cancel_if_not, cancel_owner, freed_cell, cell_lost, cell_less, drop_cell, freed_stream, unheard, stream_lost, stream_less, drop_stream, dropping}
use Rattle.flow_cancel.specs.Leaving.{withdrawn}
use Rattle.flow_heap_refinement.specs.Holds.{filled_in}
use Rattle.flow_steps.specs.declared.process.Process.{Process}
use Rattle.flow_steps.specs.Doing.{turned, doing, telling}
use Rattle.flow_steps.specs.Holding.{on_heap, with_heap, broken, filled_broken, lost_by, lost, refs_dropped, outcome_refs, futures_of}
use Rattle.flow_steps.specs.Delivering.{without_promise, result_set, ended_in, ended_with, closing, closed}
use Rattle.flow_steps.specs.Points.{values, next_stand, place_put, places_emptied, lost_from}
use Rattle.flow_steps.specs.Tasks.{bound, Given, TopTaken, with_error, dropped_places, caught, failed, Raises, FiresAt, IsDone}
use Rattle.flow_burst_refinement.specs.Invariants.Staying as law
use Rattle.flow_burst_refinement.specs.Invariants.Staying.{Stays}
use Rattle.flow_burst_refinement.proofs.Invariants.Rising.{HeapStays, still, and_then, other_tasks, push_stays, cell_put_stays, stream_put_stays, cell_gone_stays, stream_gone_stays, finished_stays, filled_stays, without_promise_stays, frame_stays, emptied_stays, lost_from_stays, withdrawn_stays}
use Rattle.flow_burst_refinement.proofs.Invariants.Quiet.{Calm, Quiet, Speaks, calm_then, quiet_then, then_speaks, quiet_speaks, tells, speaks_stay, after_calm, quiet_is, speaks_is, on_heap_quiet, turned_quiet, doing_quiet, noted_quiet, left_over, stopped_speaks, branch_speaks, keeps_after, After, step_after, runs_speak, goes_on_speak}

-- a cell is broken
broken_speaks : (kd : Kind) (k : ℕ) (m : Process) → m.asked ≡ None → Speaks m (broken kd k m)
broken_speaks kd k m none = by_turn (nat_lt 0 m.left)
  where
    by_turn : (b : Bool) → Speaks m (if b then filled_broken kd k (turned m) else turned m)
    by_turn false = quiet_speaks m (turned m) none (turned_quiet m)
    by_turn true =
        let a = turned m in
        let f = filled_in kd k _ in
        tells m (on_heap f a) _ (calm_then m a (on_heap f a) (turned_quiet m).calm (on_heap_quiet f a (filled_stays kd k _ a.heap)).calm)

-- what a loss leads to, where it is that of no port
with_heap_quiet : (h : HeapTree) (m : Process) → HeapStays m.heap h → Quiet m (with_heap h m)
with_heap_quiet h m a = record { calm = record { time = refl; heap = a }; asked = refl }

module _ (kd : Kind) (k : ℕ) (m : Process) (none : m.asked ≡ None) where
  nothing_lost : (h : HeapTree) → HeapStays m.heap h → Speaks m (lost_by kd k (h, after.Nothing) m)
  nothing_lost h a = quiet_speaks m (with_heap h m) none (with_heap_quiet h m a)

  freed_lost : (h : HeapTree) → HeapStays m.heap h → Speaks m (lost_by kd k (h, after.Freed) m)
  freed_lost h a = quiet_speaks m (with_heap h m) none (with_heap_quiet h m a)

  broken_lost : (complete : Bool) (h : HeapTree) → HeapStays m.heap h → Speaks m (lost_by kd k (h, broken_if_not complete) m)
  broken_lost true h a = nothing_lost h a
  broken_lost false h a = then_speaks m (with_heap h m) _ (with_heap_quiet h m a).calm (broken_speaks kd k (with_heap h m) none)

  cancel_lost : (notes : Numbered Note) (o : Option ℕ) (h : HeapTree) → HeapStays m.heap h → Speaks m (lost_by kd k (h, cancel_owner notes o) m)
  cancel_lost notes None h a = nothing_lost h a
  cancel_lost notes (Some i) h a = by_note (thing notes i)
    where
      by_mark : (b : Bool) → Speaks m (lost_by kd k (h, (if b then after.Nothing else after.Cancel (record { 0 = i }))) m)
      by_mark true = nothing_lost h a
      by_mark false = then_speaks m (with_heap h m) _ (with_heap_quiet h m a).calm (stopped_speaks i (with_heap h m))

      by_note : (x : Option Note) → Speaks m (lost_by kd k (h, cancel_if_not i x) m)
      by_note None = nothing_lost h a
      by_note (Some n) = by_mark n.marked

  -- a reference to a single result
  freed_cell_stays : (c : CellTree Outcome) → HeapStays m.heap (freed_cell k m.heap (Some c))
  freed_cell_stays c = and_then m.heap _ (freed_cell k m.heap (Some c)) (cell_gone_stays k m.heap) (other_tasks _ _)

  cell_lost_speaks : (c : CellTree Outcome) (l : Loss) → Speaks m (lost_by kd k (cell_lost k c m.heap l) m)
  cell_lost_speaks c loss.Kept = nothing_lost _ (cell_put_stays k c m.heap)
  cell_lost_speaks c loss.LastPromise = broken_lost _ _ (cell_put_stays k c m.heap)
  cell_lost_speaks c loss.LastFuture = cancel_lost m.heap.actors.things (owner k m.heap.actors.things) _ (cell_put_stays k c m.heap)
  cell_lost_speaks c loss.Gone = freed_lost _ (freed_cell_stays c)

  drop_cell_speaks : (s : Side) (o : Option (CellTree Outcome)) → Speaks m (lost_by kd k (drop_cell s k m.heap o) m)
  drop_cell_speaks s None = nothing_lost m.heap (still m.heap)
  drop_cell_speaks s (Some c) = cell_lost_speaks (cell_less s c) (cells.loss s (released s c.references))

  -- a reference to a stream
  stream_freed_stays : (s : StreamTree Value) → HeapStays m.heap (freed_stream k m.heap (Some s))
  stream_freed_stays s = and_then m.heap _ (freed_stream k m.heap (Some s)) (stream_gone_stays k m.heap) (other_tasks _ _)

  unheard_stays : (s : StreamTree Value) (port : Bool) → Stays m (lost_by kd k (unheard k s m.heap port) m)
  unheard_stays s false = speaks_stay m _ (nothing_lost _ (stream_put_stays k s m.heap))
  unheard_stays s true = record {
    time = refl;
    rise = λ r. let q = (stream_gone_stays k m.heap).rise r in record { cells = q.cells; streams = q.streams; actors = q.actors; frames = q.frames };
    ports = refl;
  }

  stream_lost_stays : (s : StreamTree Value) (l : Loss) → Stays m (lost_by kd k (stream_lost k s m.heap l) m)
  stream_lost_stays s loss.Kept = speaks_stay m _ (nothing_lost _ (stream_put_stays k s m.heap))
  stream_lost_stays s loss.LastPromise = speaks_stay m _ (broken_lost _ _ (stream_put_stays k s m.heap))
  stream_lost_stays s loss.LastFuture = unheard_stays s (has_number m.heap.ports k)
  stream_lost_stays s loss.Gone = speaks_stay m _ (freed_lost _ (stream_freed_stays s))

  drop_stream_stays : (d : Side) (o : Option (StreamTree Value)) → Stays m (lost_by kd k (drop_stream d k m.heap o) m)
  drop_stream_stays d None = speaks_stay m _ (nothing_lost m.heap (still m.heap))
  drop_stream_stays d (Some s) = stream_lost_stays (stream_less d s) (cells.loss d (released d s.references))

lost_stays : (kd : Kind) (k : ℕ) (m : Process) → m.asked ≡ None → Stays m (lost kd k m)
lost_stays kind.Promise k m none = speaks_stay m _ (drop_cell_speaks kind.Promise k m none Promise (thing m.heap.cells.things k))
lost_stays kind.Future k m none = speaks_stay m _ (drop_cell_speaks kind.Future k m none Future (thing m.heap.cells.things k))
lost_stays kind.PromiseStream k m none = drop_stream_stays kind.PromiseStream k m none Promise (thing m.heap.streams.things k)
lost_stays kind.FutureStream k m none = drop_stream_stays kind.FutureStream k m none Future (thing m.heap.streams.things k)

-- an actor ends
result_calm : (k : ℕ) (o : Outcome) (m : Process) → Calm m (result_set k o m)
result_calm k o m = by_turn (nat_lt 0 m.left)
  where
    by_turn : (b : Bool) → Calm m (if b then on_heap (filled_in kind.Future k o) (on_heap (without_promise k) (turned m)) else turned m)
    by_turn false = (turned_quiet m).calm
    by_turn true =
        let a = turned m in
        let b = on_heap (without_promise k) a in
        calm_then m a _ (turned_quiet m).calm (calm_then a b _ (on_heap_quiet (without_promise k) a (without_promise_stays k a.heap)).calm
        (on_heap_quiet (filled_in kind.Future k o) b (filled_stays kind.Future k o b.heap)).calm)

ended_calm : (r : Option CellId) (o : Outcome) (m : Process) → m.asked ≡ None → Calm m (ended_with r o m)
ended_calm None o m none = (on_heap_quiet (refs_dropped (outcome_refs o)) m (other_tasks m.heap _)).calm
ended_calm (Some k) o m none = by_futures (nat_lt 0 (futures_of (thing m.heap.cells.things k.0)))
  where
    by_futures : (b : Bool) → Calm m (if b then result_set k.0 o m else on_heap (refs_dropped (outcome_refs o)) (lost kind.Promise k.0 m))
    by_futures true = result_calm k.0 o m
    by_futures false =
        let a = lost kind.Promise k.0 m in
        calm_then m a _ (drop_cell_speaks kind.Promise k.0 m none Promise (thing m.heap.cells.things k.0)).calm (on_heap_quiet (refs_dropped (outcome_refs o)) a (other_tasks a.heap _)).calm

closed_speaks : (i : ActorId) (o : Outcome) (r : Option CellId) (m : Process) → m.asked ≡ None → Speaks m (closed i o r m)
closed_speaks i o r m none = then_speaks m a (closing i o r a) (on_heap_quiet (finished i.0) m (finished_stays i.0 m.heap)).calm (by_turn (nat_lt 0 m.left))
  where
    a : Process
    a = on_heap (finished i.0) m

    by_turn : (b : Bool) → Speaks a (if b then telling (Rattle.flow_steps.specs.Delivering.end_line i o) (ended_with r o (turned a)) else turned a)
    by_turn true = tells a (ended_with r o (turned a)) _ (calm_then a (turned a) _ (turned_quiet a).calm (ended_calm r o (turned a) ((turned_quiet a).asked ∙ none)))
    by_turn false = quiet_speaks a (turned a) none (turned_quiet a)

-- an error is thrown
caught_stays : (i : ActorId) (c : Catcher) (e : ErrorCode) (h : HeapTree) → HeapStays h (caught i c e h)
caught_stays i c e h =
    let one = pushed _ h in
    let two = dropped_places i.0 c.drops.items one in
    let three = with_error i.0 c.error e two in
    let four = withdrawn i.0 three in
    and_then h one _ (push_stays _ h)
    (and_then one two _ (and_then one (places_emptied i.0 c.drops.items one) two (emptied_stays i.0 c.drops.items one) (other_tasks _ _))
    (and_then two three _ (error_stays c.error two) (and_then three four _ (withdrawn_stays i.0 three) (frame_stays _ i.0 four))))
  where
    error_stays : (o : Option ℕ) (g : HeapTree) → HeapStays g (with_error i.0 o e g)
    error_stays None g = still g
    error_stays (Some n) g = frame_stays _ i.0 g

raises_quiet : (i : ActorId) (c : Option Catcher) (e : ErrorCode) (m n : Process) → Raises i c e m n → Quiet m n
raises_quiet i (Some c) e m n h = quiet_is m n _ h (on_heap_quiet (caught i c e) m (caught_stays i c e m.heap))
raises_quiet i None e m n h =
    let one = pushed h.task m.heap in
    let two = lost_from i.0 0 one in
    quiet_is m n _ h.fails (on_heap_quiet (failed i h.task) m (and_then m.heap one _ (push_stays h.task m.heap) (and_then one two _ (lost_from_stays i.0 0 one) (withdrawn_stays i.0 two))))

-- a value is given
pub bound_stays : (i : ℕ) (o : Option ℕ) (v : Value) (h : HeapTree) → HeapStays h (bound i o v h)
bound_stays i None v h = still h
bound_stays i (Some n) v h = frame_stays _ i h

given_speaks : (code : Code) (i : ActorId) (b : ℕ) (o : Outcome) (m n : Process) → m.asked ≡ None → Given code i b o m n → Speaks m n
given_speaks code i b (outcome.Error e) m n none h = quiet_speaks m n none (quiet_is m n _ h (doing_quiet _ m))
given_speaks code i b (outcome.Value v) m n none h =
    let f = bound i.0 h.branch.into v in
    let a = on_heap f m in
    let quiet = on_heap_quiet f m (bound_stays i.0 h.branch.into v m.heap) in
    then_speaks m a n quiet.calm (goes_on_speak code h.pace a h.between n (quiet.asked ∙ none) (left_over _ _ a h.between h.pace none h.after) h.further)

pub popped_quiet : (t : stack.Task) (m start : Process) → TopTaken t m start → Quiet m start
popped_quiet t m start taken = quiet_is m start _ taken.rest (on_heap_quiet (λ (h : HeapTree). record h { tasks = taken.tasks }) m (other_tasks m.heap taken.tasks))

fires_stay : (code : Code) (kd : Kind) (k : CellId) (w : Option Waiter) (m n : Process) → m.asked ≡ None → FiresAt code kd k w m n → Stays m n
fires_stay code kd k None m n none h = subst (Stays m) (sym h) (lost_stays kd k.0 m none)
fires_stay code kd k (Some w) m n none h =
    let a = doing (task.Fire k) m in speaks_stay m n (then_speaks m a n (doing_quiet _ m).calm (branch_speaks h.stand h.branch k a n none h.takes))

done_stays : (code : Code) (t : stack.Task) (m n : Process) → m.asked ≡ None → IsDone code t m n → Stays m n
done_stays code (task.Run i) m n none h = speaks_stay m n (runs_speak code h.stand m n none h.runs)
done_stays code (task.Give i b o) m n none h = speaks_stay m n (given_speaks code i b o.value m n none h)
done_stays code (task.Throw i e) m n none h = speaks_stay m n (speaks_is m n _ h.told (tells m h.between _ (raises_quiet i _ e m h.between h.raises).calm))
done_stays code (task.Catch i e) m n none h = speaks_stay m n (speaks_is m n _ h (tells m (doing _ m) _ (doing_quiet _ m).calm))
done_stays code (task.Fire k) m n none h = fires_stay code h.kind k _ m n none h.fires
done_stays code (task.Drop kd k) m n none h = subst (Stays m) (sym h) (by_turn (nat_lt 0 m.left))
  where
    by_turn : (b : Bool) → Stays m (if b then lost kd k.0 (turned m) else turned m)
    by_turn true = after_calm m (turned m) _ (turned_quiet m).calm (lost_stays kd k.0 (turned m) ((turned_quiet m).asked ∙ none))
    by_turn false = speaks_stay m _ (quiet_speaks m (turned m) none (turned_quiet m))
done_stays code (task.Store i v) m n none h =
    let put = quiet_is m h.between _ h.assigns.put (on_heap_quiet (place_put i.0 h.aim.place h.assigns.root) m (frame_stays _ i.0 m.heap)) in
    let f = dropping (values h.old) in
    let a = on_heap f h.between in
    speaks_stay m n (quiet_speaks m n none (quiet_is m n _ h.goes (quiet_then m a _ (quiet_then m h.between a put (on_heap_quiet f h.between (other_tasks h.between.heap _)))
    (noted_quiet (next_stand h.stand) a))))
done_stays code (task.Keep i b k) m n none h =
    let start = popped_quiet (task.Run i) m h.start h.next in
    let one = start.asked ∙ none in
    speaks_stay m n (then_speaks m h.start n start.calm (goes_on_speak code h.pace h.start h.between n one (keeps_after h.stand _ h.start h.between h.pace one h.keeps) h.further))
done_stays code (task.Close i o) m n none h = speaks_stay m n (speaks_is m n _ h.closes (closed_speaks i o.value h.note.result m none))

pub step_stays : law.StepStays
step_stays code s m n pace none h = by_pace pace (step_after code s m n pace none h)
  where
    by_pace : (pace : _) → After pace m n → Stays m n
    by_pace (Rattle.flow_steps.specs.declared.next.Pace.TheVariants.On t) a = speaks_stay m n (quiet_speaks m n none a)
    by_pace Rattle.flow_steps.specs.declared.next.Pace.TheVariants.Off a = speaks_stay m n a

pub runs_stay : law.RunsStay
runs_stay code s m n none h = speaks_stay m n (runs_speak code s m n none h)

pub task_stays : law.TaskStays
task_stays code t m start n none taken h =
    let a = popped_quiet t m start taken in after_calm m start n a.calm (done_stays code t start n (a.asked ∙ none) h)
