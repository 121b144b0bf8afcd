-- Each task keeps that actors are poised.
use Rattle.std.proofs.Common.{◌≡◌, inl, inr, ℕ, pos, nat_lt, Bool, true, false, List, [], ◌∷◌, if◌then◌else◌, refl, sym, ap, subst, ◌∙◌}
use Rattle.std.specs.Prelude.{slice_get}
use Rattle.std.specs.declared.option.Option.{Option}
use Rattle.std.specs.declared.option.Option.TheVariants.{None, Some}
use Rattle.flow_base.specs.declared.ids.ActorId.{ActorId}
use Rattle.flow_base.specs.declared.ids.CellId.{CellId}
use Rattle.flow_base.specs.declared.ids.ErrorCode.{ErrorCode}
use Rattle.flow_value.specs.declared.value.Value.{Value}
use Rattle.flow_value.specs.declared.value.Value.TheVariants as value
use Rattle.flow_value.specs.declared.value.Outcome.{Outcome}
use Rattle.flow_value.specs.declared.value.Outcome.TheVariants as outcome
use Rattle.flow_value.specs.declared.value.Kind.{Kind}
use Rattle.flow_value.specs.declared.value.Kind.TheVariants as kind
use Rattle.flow_code.specs.declared.class.Catcher.{Catcher}
use Rattle.flow_code.specs.declared.program.Code.{Code}
use Rattle.flow_numbered.specs.Numbered.{thing, IsRising}
use Rattle.flow_cell.specs.declared.counts.Side.{Side}
use Rattle.flow_cell.specs.declared.counts.Side.TheVariants.{Promise, Future}
use Rattle.flow_cell.specs.declared.counts.Loss.{Loss}
use Rattle.flow_cell.specs.declared.counts.Loss.TheVariants as loss
use Rattle.flow_cell.specs.declared.waiter.Waiter.{Waiter}
use Rattle.flow_cell.specs.Cells.{CellTree, released}
use Rattle.flow_cell.specs.Cells as cells
use Rattle.flow_stream.specs.Streams.{StreamTree}
use Rattle.flow_frame.specs.declared.held.Held.{Held}
use Rattle.flow_cancel.specs.declared.task.Task as stack
use Rattle.flow_cancel.specs.declared.task.Task.TheVariants as task
use Rattle.flow_cancel.specs.declared.task.Dropped.TheVariants as after
use Rattle.flow_cancel.specs.Heap.{HeapTree, has_number, pushed, finished}
use Rattle.flow_cancel.specs.Dropping.{Lost, refs_in, cell_lost, cell_less, drop_cell, unheard, stream_lost, stream_less, drop_stream, dropped, dropping}
use Rattle.flow_cancel.specs.Leaving.{withdrawn}
use Rattle.flow_heap_refinement.specs.Holds.{hold, filled_in}
use Rattle.flow_steps.specs.declared.frames.ControlPoint.{ControlPoint}
use Rattle.flow_steps.specs.declared.next.Pace.{Pace}
use Rattle.flow_steps.specs.declared.next.Pace.TheVariants.{On}
use Rattle.flow_steps.specs.declared.process.Process.{Process}
use Rattle.flow_steps.specs.Doing.{turned, doing, telling}
use Rattle.flow_steps.specs.Holding.{on_heap, with_heap, broken, filled_broken, lost_by, lost, outcome_refs, refs_dropped, futures_of}
use Rattle.flow_steps.specs.Acting.{some_values, with_args}
use Rattle.flow_steps.specs.Delivering.{made, without_promise, result_set, ended_with, closing}
use Rattle.flow_steps.specs.Points.{values, GoesTo, IsAtPoint, next_stand, places_emptied, lost_from, place_put}
use Rattle.flow_steps.specs.Stepping.{IsClose}
use Rattle.flow_steps.specs.Tasks.{bound, Given, TopTaken, with_error, dropped_places, caught, failed, Raises, FiresAt, IsDone, main_waits, main_starts}
use Rattle.flow_steps.specs.Waiting.{KeepsOperand, kept_marked, kept_unready, kept_ready}
use Rattle.flow_step_refinement.specs.Continuing.{InClass}
use Rattle.flow_step_refinement.proofs.Onward.{goes_after}
use Rattle.flow_step_refinement.specs.Resuming as law
use Rattle.flow_step_refinement.specs.Resuming.{Ends, IsEnding, Fine, in_no_state, is_waiting, is_ending, NoStaleWaits, Branched}
use Rattle.flow_step_refinement.proofs.Resuming.Aside.{Aside, and_then, still, pushing, dropping_refs, making, holding, holding_all, filling, losing_promise}
use Rattle.flow_step_refinement.proofs.Resuming.Framed.{PoisedBut, all_but_none, but_none, aside_but, place_but, gone_poised, emptied_but, lost_from_but, lost_from_ends, withdrawn_but, withdrawn_ends, ending_poised, started_poised, finished_poised}
use Rattle.flow_step_refinement.proofs.Resuming.Steps.{aside_poised, good_is, turned_good, doing_good, noted_good, left_over, gives_good, stopped_good, branch_good, keeps_good, runs_good, goes_on_good}

-- what the loss of a reference leaves
cell_losing : (k : ℕ) (c : CellTree Outcome) (h : HeapTree) (l : Loss) → Aside h (cell_lost k c h l).0
cell_losing k c h loss.Kept = record { frames = refl; ends = λ i e. e }
cell_losing k c h loss.LastPromise = record { frames = refl; ends = λ i e. e }
cell_losing k c h loss.LastFuture = record { frames = refl; ends = λ i e. e }
cell_losing k c h loss.Gone = record { frames = refl; ends = λ i e. (dropping_refs _ h).ends i e }

dropping_cell : (s : Side) (k : ℕ) (h : HeapTree) (o : Option (CellTree Outcome)) → Aside h (drop_cell s k h o).0
dropping_cell s k h None = still h
dropping_cell s k h (Some c) = cell_losing k (cell_less s c) h (cells.loss s (released s c.references))

unhearing : (k : ℕ) (s : StreamTree Value) (h : HeapTree) (port : Bool) → Aside h (unheard k s h port).0
unhearing k s h false = record { frames = refl; ends = λ i e. e }
unhearing k s h true = record { frames = refl; ends = λ i e. (dropping_refs _ h).ends i e }

stream_losing : (k : ℕ) (s : StreamTree Value) (h : HeapTree) (l : Loss) → Aside h (stream_lost k s h l).0
stream_losing k s h loss.Kept = record { frames = refl; ends = λ i e. e }
stream_losing k s h loss.LastPromise = record { frames = refl; ends = λ i e. e }
stream_losing k s h loss.LastFuture = unhearing k s h (has_number h.ports k)
stream_losing k s h loss.Gone = record { frames = refl; ends = λ i e. (dropping_refs _ h).ends i e }

dropping_stream : (d : Side) (k : ℕ) (h : HeapTree) (o : Option (StreamTree Value)) → Aside h (drop_stream d k h o).0
dropping_stream d k h None = still h
dropping_stream d k h (Some s) = stream_losing k (stream_less d s) h (cells.loss d (released d s.references))

losing : (kd : Kind) (k : ℕ) (h : HeapTree) → Aside h (dropped kd k h).0
losing kind.Promise k h = dropping_cell Promise k h (thing h.cells.things k)
losing kind.Future k h = dropping_cell Future k h (thing h.cells.things k)
losing kind.PromiseStream k h = dropping_stream Promise k h (thing h.streams.things k)
losing kind.FutureStream k h = dropping_stream Future k h (thing h.streams.things k)

broken_good : (kd : Kind) (k : ℕ) (m : Process) → NoStaleWaits m.heap → NoStaleWaits (broken kd k m).heap
broken_good kd k m p = by_turn (nat_lt 0 m.left)
  where
    by_turn : (b : Bool) → NoStaleWaits (if b then filled_broken kd k (turned m) else turned m).heap
    by_turn false = turned_good m p
    by_turn true = aside_poised (turned m).heap _ (filling kd k _ (turned m).heap) (turned_good m p)

lost_by_good : (kd : Kind) (k : ℕ) (l : Lost) (m : Process) → NoStaleWaits l.0 → NoStaleWaits (lost_by kd k l m).heap
lost_by_good kd k (h, after.Nothing) m p = p
lost_by_good kd k (h, after.Freed) m p = p
lost_by_good kd k (h, after.PortFreed) m p = p
lost_by_good kd k (h, after.Broken) m p = broken_good kd k (with_heap h m) p
lost_by_good kd k (h, after.Cancel a) m p = stopped_good a.0 (with_heap h m) p

lost_good : (kd : Kind) (k : ℕ) (m : Process) → NoStaleWaits m.heap → NoStaleWaits (lost kd k m).heap
lost_good kd k m p = lost_by_good kd k (dropped kd k m.heap) m (aside_poised m.heap (dropped kd k m.heap).0 (losing kd k m.heap) p)

-- an actor ends
result_good : (k : ℕ) (o : Outcome) (m : Process) → NoStaleWaits m.heap → NoStaleWaits (result_set k o m).heap
result_good k o m p = by_turn (nat_lt 0 m.left)
  where
    by_turn : (b : Bool) → NoStaleWaits (if b then on_heap (filled_in kind.Future k o) (on_heap (without_promise k) (turned m)) else turned m).heap
    by_turn false = turned_good m p
    by_turn true =
        let h = (turned m).heap in
        let g = without_promise k h in
        aside_poised h (filled_in kind.Future k o g) (and_then h g (filled_in kind.Future k o g) (losing_promise k h) (filling kind.Future k o g)) (turned_good m p)

ended_good : (r : Option CellId) (o : Outcome) (m : Process) → NoStaleWaits m.heap → NoStaleWaits (ended_with r o m).heap
ended_good None o m p = aside_poised m.heap _ (dropping_refs (outcome_refs o) m.heap) p
ended_good (Some k) o m p = by_futures (nat_lt 0 (futures_of (thing m.heap.cells.things k.0)))
  where
    by_futures : (b : Bool) → NoStaleWaits (if b then result_set k.0 o m else on_heap (refs_dropped (outcome_refs o)) (lost kind.Promise k.0 m)).heap
    by_futures true = result_good k.0 o m p
    by_futures false = aside_poised (lost kind.Promise k.0 m).heap _ (dropping_refs (outcome_refs o) (lost kind.Promise k.0 m).heap) (lost_good kind.Promise k.0 m p)

closing_good : (i : ActorId) (o : Outcome) (r : Option CellId) (m : Process) → NoStaleWaits m.heap → NoStaleWaits (closing i o r m).heap
closing_good i o r m p = by_turn (nat_lt 0 m.left)
  where
    by_turn : (b : Bool) → NoStaleWaits (if b then telling (Rattle.flow_steps.specs.Delivering.end_line i o) (ended_with r o (turned m)) else turned m).heap
    by_turn true = ended_good r o (turned m) (turned_good m p)
    by_turn false = turned_good m p

-- an error is thrown
error_but : (o : Option ℕ) (i : ℕ) (n : Option ℕ) (e : ErrorCode) (h : HeapTree) → PoisedBut o h → PoisedBut o (with_error i n e h)
error_but o i None e h p = p
error_but o i (Some n) e h p = place_but o i n _ h p

caught_poised : (i : ActorId) (c : Catcher) (e : ErrorCode) (h : HeapTree) → PoisedBut (Some i.0) h → NoStaleWaits (caught i c e h)
caught_poised i c e h p =
    let o : Option ℕ = Some i.0 in
    let one = pushed (task.Catch i e) h in
    let places = places_emptied i.0 c.drops.items one in
    let two = dropped_places i.0 c.drops.items one in
    let three = with_error i.0 c.error e two in
    gone_poised i.0 c.block 0 (withdrawn i.0 three)
    (withdrawn_but i.0 three
    (error_but o i.0 c.error e two
    (aside_but o places two (dropping_refs _ places)
    (emptied_but o i.0 c.drops.items one (aside_but o h one (pushing (task.Catch i e) h) p)))))

close_ends : (i : ActorId) (o : Outcome) (t : stack.Task) → IsClose i o t → Ends i.0 t
close_ends i o (task.Close j x) is = ap (λ (a : ActorId). a.0) is.0
close_ends i o (task.Run j) is = absurd is
close_ends i o (task.Give j b v) is = absurd is
close_ends i o (task.Throw j v) is = absurd is
close_ends i o (task.Catch j v) is = absurd is
close_ends i o (task.Fire k) is = absurd is
close_ends i o (task.Drop kd k) is = absurd is
close_ends i o (task.Store j v) is = absurd is
close_ends i o (task.Keep j n k) is = absurd is

failed_poised : (i : ActorId) (t : stack.Task) (h : HeapTree) → Ends i.0 t → PoisedBut (Some i.0) h → NoStaleWaits (failed i t h)
failed_poised i t h end p =
    let o : Option ℕ = Some i.0 in
    let one = pushed t h in
    let two = lost_from i.0 0 one in
    ending_poised i.0 (failed i t h) (withdrawn_ends i.0 i.0 two (lost_from_ends i.0 i.0 0 one (inl end)))
    (withdrawn_but i.0 two (lost_from_but o i.0 0 one (aside_but o h one (pushing t h) p)))

raised_good : (i : ActorId) (c : Option Catcher) (e : ErrorCode) (m n : Process) → Raises i c e m n → PoisedBut (Some i.0) m.heap → NoStaleWaits n.heap
raised_good i (Some c) e m n h p = good_is n _ h (caught_poised i c e m.heap p)
raised_good i None e m n h p = good_is n _ h.fails (failed_poised i h.task m.heap (close_ends i _ h.task h.closes) p)

-- where actors stand
stands_in : (code : Code) (i : ActorId) (m : Process) (s : ControlPoint) → (now : IsAtPoint code.classes.items i m s) → InClass code now.frame.class s
stands_in code i m s now = record { class = now.stands.class; block = now.stands.block }

goes_in : (code : Code) (k : ℕ) (s t : ControlPoint) (b n : ℕ) → InClass code k s → GoesTo s b n t → InClass code k t
goes_in code k s t b n within to =
    let same : t.class ≡ s.class = ap (λ (y : ControlPoint). y.class) to.same in record {
      class = within.class ∙ ap (λ y. Some y.now) (sym same);
      block = ap (λ y. slice_get y.now.blocks.items t.place) same ∙ ap (λ (y : ControlPoint). slice_get s.class.now.blocks.items y.place) to.same ∙ to.at;
    }

stays_there : (s t : ControlPoint) (x : Held) (m n : Process) (pace : Pace) → pace ≡ On t → KeepsOperand s x m pace n → s ≡ t
stays_there s t x m n pace on (kept_unready q unmarked unready is) = let e : s ≡ t = cc (on) in e
stays_there s t x m n pace on (kept_marked q marked is) = absurd (cc (on))
stays_there s t x m n pace on (kept_ready q b unmarked ready at takes) = absurd (cc (on))

-- a task is taken off
popped_but : (o : Option ℕ) (t : stack.Task) (m start : Process) → ((i : ℕ) → (o ≡ Some i → ⊥) → Ends i t → ⊥) → TopTaken t m start → NoStaleWaits m.heap → PoisedBut o start.heap
popped_but o t m start none taken p = subst (λ (y : Process). PoisedBut o y.heap) (sym taken.rest) off
  where
    fine : (i : ℕ) (a : _) → (o ≡ Some i → ⊥) → Fine i a m.heap.tasks → Fine i a taken.tasks
    fine i a out (in_no_state e) = in_no_state e
    fine i a out (is_waiting e) = is_waiting e
    fine i a out (is_ending e) = by_first (subst (IsEnding i) taken.top e)
      where
        by_first : IsEnding i (t ∷ taken.tasks) → Fine i a taken.tasks
        by_first (inl end) = absurd (none i out end)
        by_first (inr end) = is_ending end

    off : PoisedBut o (record m.heap { tasks = taken.tasks })
    off i a out at = fine i a out (p i a at)

start_frames : (t : stack.Task) (m start : Process) → TopTaken t m start → start.heap.frames ≡ m.heap.frames
start_frames t m start taken = ap (λ (y : Process). y.heap.frames) taken.rest

bound_good : (i : ℕ) (o : Option ℕ) (v : Value) (m : Process) → NoStaleWaits m.heap → NoStaleWaits (on_heap (bound i o v) m).heap
bound_good i None v m p = p
bound_good i (Some n) v m p = all_but_none (place_put i n (Some v) m.heap) (place_but None i n (Some v) m.heap (but_none m.heap p))

module _ (code : Code) (branched : Branched code.classes.items) where
  given_good : (i : ActorId) (b : ℕ) (o : Outcome) (m n : Process) → Given code i b o m n → NoStaleWaits m.heap → NoStaleWaits n.heap
  given_good i b (outcome.Error e) m n h p = good_is n _ h (doing_good (task.Throw i e) m p)
  given_good i b (outcome.Value v) m n h p =
      goes_on_good code branched h.pace h.stands.frame.class
      (λ t on.
      subst (InClass code h.stands.frame.class) (goes_after h.goes t _ _ h.between h.pace h.after on)
      (goes_in code h.stands.frame.class h.stand h.goes h.branch.block 0 (stands_in code i m h.stand h.stands) h.to))
      h.between n h.further (left_over _ _ (on_heap (bound i.0 h.branch.into v) m) h.between h.pace h.after (bound_good i.0 h.branch.into v m p))

  fires_good : (kd : Kind) (k : CellId) (w : Option Waiter) (m n : Process) → FiresAt code kd k w m n → NoStaleWaits m.heap → NoStaleWaits n.heap
  fires_good kd k None m n h p = good_is n _ h (lost_good kd k.0 m p)
  fires_good kd k (Some w) m n h p = branch_good h.stand h.branch k (doing (task.Fire k) m) n h.takes (doing_good (task.Fire k) m p)

  drop_good : (kd : Kind) (k : ℕ) (m : Process) → NoStaleWaits m.heap → NoStaleWaits (if nat_lt 0 m.left then lost kd k (turned m) else turned m).heap
  drop_good kd k m p = by_turn (nat_lt 0 m.left)
    where
      by_turn : (b : Bool) → NoStaleWaits (if b then lost kd k (turned m) else turned m).heap
      by_turn true = lost_good kd k (turned m) (turned_good m p)
      by_turn false = turned_good m p

  by_task : (t : stack.Task) (m start n : Process) → IsRising 0 m.heap.frames.things m.heap.frames.greatest → NoStaleWaits m.heap → TopTaken t m start → IsDone code t start n → NoStaleWaits n.heap
  by_task (task.Run i) m start n rising p taken h =
      runs_good code branched h.stand h.stands.frame.class (stands_in code i start h.stand h.stands) start n h.runs
      (all_but_none start.heap (popped_but None (task.Run i) m start (λ j out end. end) taken p))
  by_task (task.Give i b o) m start n rising p taken h =
      given_good i b o.value start n h (all_but_none start.heap (popped_but None (task.Give i b o) m start (λ j out end. end) taken p))
  by_task (task.Throw i e) m start n rising p taken h =
      good_is n _ h.told (raised_good i _ e start h.between h.raises (popped_but (Some i.0) (task.Throw i e) m start (λ j out end. out (ap (λ y. Some y) end)) taken p))
  by_task (task.Catch i e) m start n rising p taken h =
      good_is n _ h (doing_good (task.Run i) start (all_but_none start.heap (popped_but None (task.Catch i e) m start (λ j out end. end) taken p)))
  by_task (task.Fire k) m start n rising p taken h =
      fires_good h.kind k _ start n h.fires (all_but_none start.heap (popped_but None (task.Fire k) m start (λ j out end. end) taken p))
  by_task (task.Drop kd k) m start n rising p taken h =
      good_is n _ h (drop_good kd k.0 start (all_but_none start.heap (popped_but None (task.Drop kd k) m start (λ j out end. end) taken p)))
  by_task (task.Store i v) m start n rising p taken h =
      let there = all_but_none start.heap (popped_but None (task.Store i v) m start (λ j out end. end) taken p) in
      let put_there = good_is h.between _ h.assigns.put (all_but_none (place_put i.0 h.aim.place h.assigns.root start.heap)
      (place_but None i.0 h.aim.place h.assigns.root start.heap (but_none start.heap there))) in
      good_is n _ h.goes
      (noted_good (next_stand h.stand) (on_heap (dropping (values h.old)) h.between)
      (aside_poised h.between.heap (dropping (values h.old) h.between.heap) (dropping_refs (refs_in (values h.old)) h.between.heap) put_there))
  by_task (task.Keep i c k) m start n rising p taken h =
      let there = all_but_none start.heap (popped_but None (task.Keep i c k) m start (λ j out end. end) taken p) in
      let next = all_but_none h.start.heap (popped_but None (task.Run i) start h.start (λ j out end. end) h.next there) in
      goes_on_good code branched h.pace h.stands.frame.class
      (λ t on. subst (InClass code h.stands.frame.class) (stays_there h.stand t _ h.start h.between h.pace on h.keeps) (stands_in code i h.start h.stand h.stands))
      h.between n h.further (keeps_good h.stand _ h.start h.between h.pace h.keeps next)
  by_task (task.Close i o) m start n rising p taken h =
      let same = start_frames (task.Close i o) m start taken in
      let rises = subst (λ fs. IsRising 0 fs.things fs.greatest) (sym same) rising in
      good_is n _ h.closes
      (closing_good i o.value h.note.result (on_heap (finished i.0) start)
      (finished_poised i.0 start.heap rises (popped_but (Some i.0) (task.Close i o) m start (λ j out end. out (ap (λ y. Some y) end)) taken p)))

pub task_keeps : law.TaskKeeps
task_keeps code t m start n branched rising p taken h = by_task code branched t m start n rising p taken h

pub aside_keeps : law.AsideKeeps
aside_keeps h g frames ends p = aside_poised h g (record { frames = frames; ends = ends }) p

pub gives_keeps : law.GivesKeeps
gives_keeps g i v m n h p = gives_good g i v m n h p

pub main_keeps : law.MainKeeps
main_keeps code me m n (main_waits t e) p = good_is n (turned m) e (turned_good m p)
main_keeps code me m n (main_starts t h) p =
    let a = turned m in
    let args : List Value = value.Int (pos me.0) ∷ [] in
    let held : HeapTree → HeapTree = λ g. record (hold kind.Future h.cell.0 g) { main = Some h.cell } in
    let beside = and_then a.heap (made kind.Future a.heap) (with_args args a.heap) (making kind.Future a.heap) (holding_all (refs_in args) (made kind.Future a.heap)) in
    let enrolled = good_is h.between _ h.enrols.made
    (started_poised h.class h.enrols.of.places (some_values args) (Some h.cell) (with_args args a.heap) (aside_poised a.heap (with_args args a.heap) beside (turned_good m p))) in
    let one = holding kind.Future h.cell.0 h.between.heap in
    good_is n _ h.starts.told
    (doing_good (task.Run h.actor) (on_heap held h.between) (aside_poised h.between.heap (held h.between.heap) (record { frames = one.frames; ends = one.ends }) enrolled))
