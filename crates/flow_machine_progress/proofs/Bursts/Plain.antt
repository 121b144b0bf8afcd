-- A task that needs no step of an actor doesn't go astray, in a process that runs a valid program.
use Rattle.std.proofs.Common.{◌≡◌, inl, inr, ◌<◌, ◌+◌, ℕ, Bool, true, false, List, [], ◌∷◌, ◌++◌, length, length-append, map, if◌then◌else◌, refl, sym, ap, ◌∙◌, subst, arith}
use Rattle.std.specs.Prelude.{slice_get}
use Rattle.std.specs.Option.{option_map}
use Rattle.std.specs.declared.option.Option.{Option}
use Rattle.std.specs.declared.option.Option.TheVariants.{None, Some}
use Rattle.flow_base.specs.declared.ids.ActorId.{ActorId}
use Rattle.flow_base.specs.declared.ids.CellId.{CellId}
use Rattle.flow_base.specs.declared.ids.ErrorCode.{ErrorCode}
use Rattle.flow_value.specs.declared.value.Kind.{Kind}
use Rattle.flow_value.specs.declared.value.Kind.TheVariants as kind
use Rattle.flow_value.specs.declared.value.Value.{Value}
use Rattle.flow_value.specs.declared.value.Outcome.{Outcome}
use Rattle.flow_value.specs.View.{value_of, outcome_of}
use Rattle.flow_class.specs.Classes.{ChooseLast, CatcherTree, RawTree}
use Rattle.flow_class.specs.Code.{Last, Nothing, fetch, catcher_at}
use Rattle.flow_code.specs.declared.class.Catcher.{Catcher}
use Rattle.flow_code.specs.declared.program.Code.{Code}
use Rattle.flow_code.specs.View.{group_numbered}
use Rattle.flow_trace.specs.declared.line.Line.{Line}
use Rattle.flow_numbered.specs.Numbered as stored
use Rattle.flow_cell.specs.declared.waiter.Waiter as memory
use Rattle.flow_cell.specs.Cells.{CellTree}
use Rattle.flow_stream.specs.Streams.{StreamTree}
use Rattle.flow_frame.specs.Frames.{FrameTree}
use Rattle.flow_cancel.specs.declared.actors.Note.{Note}
use Rattle.flow_cancel.specs.declared.task.Task as stack
use Rattle.flow_cancel.specs.declared.task.Task.TheVariants as task
use Rattle.flow_cancel.specs.Heap.{HeapTree, actor_id, finished}
use Rattle.flow_numbered.specs.Numbered.{thing}
use Rattle.flow_meaning.specs.Requests.{Spot}
use Rattle.flow_meaning.specs.Cells.{PromiseSide, FutureSide, side_of, Waiter, Cell, Single, Stream, waiters}
use Rattle.flow_meaning.specs.Process.{Task, Drop, Fire, Throw, Close, Entry, Proc}
use Rattle.flow_meaning.specs.References.{one, refs_in, value_in}
use Rattle.flow_meaning.specs.Orderly.{tasks_of}
use Rattle.flow_meaning.specs.Work as work
use Rattle.flow_meaning.specs.Step.{popped, on_core}
use Rattle.flow_meaning.specs.Views.{spot_at}
use Rattle.flow_meaning.specs.Frame.{Frame}
use Rattle.flow_meaning.proofs.Shifts.{throw_of, close_of, same_of}
use Rattle.flow_heap_refinement.specs.Representing.{CellRepresents, spot_of_actor, wait_spot, waiter_in, cell_number}
use Rattle.flow_heap_refinement.specs.Acting.{without_actor}
use Rattle.flow_heap_refinement.specs.Counted.{count_at, references, nothing_in_hand}
use Rattle.flow_heap_refinement.specs.Rested.{Sorted}
use Rattle.flow_heap_refinement.specs.Holds.{There, with_refs}
use Rattle.flow_heap_refinement.proofs.Cells.{as_single}
use Rattle.flow_heap_refinement.proofs.Losing.{unwaited, one_is}
use Rattle.flow_heap_refinement.proofs.Referring.{of_gone}
use Rattle.flow_progress.specs.Fitting.{PostureFits, Waiting}
use Rattle.flow_progress.proofs.StepFits.{actor_here}
use Rattle.flow_steps.specs.declared.frames.ControlPoint.{ControlPoint}
use Rattle.flow_steps.specs.declared.process.Process.{Process}
use Rattle.flow_steps.specs.Doing.{doing}
use Rattle.flow_steps.specs.Holding.{outcome_refs, kind_in, futures_of, on_heap}
use Rattle.flow_steps.specs.Points.{IsAtPoint}
use Rattle.flow_steps.specs.Waiting.{ready_at}
use Rattle.flow_steps.specs.Tasks.{cell_waiter, stream_waiter, waiter_by, next_waiter}
use Rattle.flow_steps.specs.Stuck.{HasNoPoint, FrameMissing, LosesStuck}
use Rattle.flow_steps.specs.StuckWaits.{NoBranchOf, no_wait, no_group, before_first, NothingTaken, ReadyStuck}
use Rattle.flow_steps.specs.StuckTasks.{nowhere, standing, LeavesStuck, RaisedStuck, WaiterStuck, FiresStuckAt, FiresStuck, no_cell, fires_stuck, EndsStuck, ClosesStuck, forgets_stuck, ends_stuck, TaskStuck}
use Rattle.flow_operation_refinement.specs.Matching.{ProcessRepresents, Sound, with_task}
use Rattle.flow_operation_refinement.specs.Placing.{Acts, HasLocals}
use Rattle.flow_operation_refinement.specs.Coded.{CodedBy, AtHome}
use Rattle.flow_operation_refinement.specs.Taking.{AtWait}
use Rattle.flow_operation_refinement.specs.Tasking.{Suspended, MayFire}
use Rattle.flow_operation_refinement.specs.Throwing.{SameCatcher, CatcherFits, MayThrow}
use Rattle.flow_operation_refinement.specs.Closing.{MayClose}
use Rattle.flow_operation_refinement.specs.Stepped.{TopOff, IsEnabled}
use Rattle.flow_operation_refinement.proofs.Brought.{found_single, all_there_by}
use Rattle.flow_operation_refinement.proofs.Doing.{top_follows}
use Rattle.flow_operation_refinement.proofs.Ended.{in_hand, Lone, futures_seen, forgotten, lone}
use Rattle.flow_operation_refinement.proofs.Firing.{next_same}
use Rattle.flow_operation_refinement.proofs.Losing.{losing_of}
use Rattle.flow_operation_refinement.proofs.Parting.{acts_by}
use Rattle.flow_operation_refinement.proofs.Stands.{as_many}
use Rattle.flow_operation_refinement.proofs.Working.{as_many_shown, task_done}
use Rattle.flow_step_refinement.proofs.Decodes.{begins_in_code}
use Rattle.flow_burst_refinement.specs.Invariants.Allowed.{IsPlain, IsValidCode, BetweenTasks}
use Rattle.flow_burst_refinement.proofs.Invariants.Acting.{by_code, acts_at, waiting_there, either_there}
use Rattle.flow_burst_refinement.proofs.Invariants.Homes.{at_home}
use Rattle.flow_burst_refinement.proofs.Invariants.Off.{unfinished}
use Rattle.flow_burst_refinement.proofs.Invariants.Tasks.{task_allowed}
use Rattle.flow_burst_refinement.specs.Enabled.Tasking.{IsProgram}
use Rattle.flow_machine_progress.specs.Lookups.{AllBelow, ErrorBelow}
use Rattle.flow_machine_progress.proofs.Lookups.References.{some_none}
use Rattle.flow_machine_progress.proofs.Lookups.Standing.{group_found}
use Rattle.flow_machine_progress.proofs.Lookups.Losing.{loss_found}
use Rattle.flow_machine_progress.proofs.Lookups.Closing.{forget_found, handler_found}
use Rattle.flow_machine_progress.proofs.Lookups.Ending.{end_found}
use Rattle.flow_machine_progress.proofs.Lookups.Taking.{taken_by}
use Rattle.flow_machine_progress.proofs.Bursts.Somewhere.{somewhere, stands_there}
use Rattle.flow_machine_progress.specs.Bursts.SimpleTasks as law

-- the oldest waiter of a cell, in memory and in the process
record Oldest (spots : ℕ → Spot) (ws : List Waiter) (w : memory.Waiter) : Type 0 where
  waiter : Waiter
  others : List Waiter
  is : ws ≡ waiter ∷ others
  same : waiter_in spots waiter ≡ w

first_of : (spots : ℕ → Spot) (ws : List Waiter) (w : memory.Waiter) → slice_get (map (waiter_in spots) ws) 0 ≡ Some w → Oldest spots ws w
first_of spots [] w e = absurd (cc (e))
first_of spots (x ∷ xs) w e = record { waiter = x; others = xs; is = refl; same = cc (e) }

only_of : (spots : ℕ → Spot) (x : Option Waiter) (q : _) (d : _) (w : memory.Waiter) → option_map (waiter_in spots) x ≡ Some w → Oldest spots (waiters (Stream q d x)) w
only_of spots None q d w e = absurd (cc (e))
only_of spots (Some x) q d w e = record { waiter = x; others = []; is = refl; same = cc (e) }

of_cell : (spots : ℕ → Spot) (a : Option (CellTree Outcome)) (b : Option (StreamTree Value)) (c : Cell) (w : memory.Waiter) → CellRepresents spots a b (Some c)
    → cell_waiter a ≡ Some w → Oldest spots (waiters c) w
of_cell spots None b c w s e = absurd (cc (e))
of_cell spots (Some m) None (Single o ws) w s e = first_of spots ws w (ap (λ l. slice_get l 0) (sym s.1) ∙ e)
of_cell spots (Some m) None (Stream q d x) w s e = absurd s
of_cell spots (Some m) (Some n) c w s e = absurd s

of_stream : (spots : ℕ → Spot) (a : Option (CellTree Outcome)) (b : Option (StreamTree Value)) (c : Cell) (w : memory.Waiter) → CellRepresents spots a b (Some c)
    → stream_waiter b ≡ Some w → Oldest spots (waiters c) w
of_stream spots a None c w s e = absurd (cc (e))
of_stream spots None (Some m) (Stream q d x) w s e = only_of spots x q d w (sym s.2 ∙ e)
of_stream spots None (Some m) (Single o ws) w s e = absurd s
of_stream spots (Some m) (Some n) c w s e = absurd s

if_some : {A : Type 0} (b : Bool) (o : Option A) (x : A) → (if b then o else None) ≡ Some x → (b ≡ true) × (o ≡ Some x)
if_some true o x e = (refl, e)
if_some false o x e = absurd (cc (e))

-- a cell that is there has a kind
kind_there : (spots : ℕ → Spot) (a : Option (CellTree Outcome)) (b : Option (StreamTree Value)) (c : Cell) → CellRepresents spots a b (Some c) → kind_in a b ≡ None → ⊥
kind_there spots None None c s e = s
kind_there spots None (Some m) c s e = cc (e)
kind_there spots (Some m) b c s e = cc (e)

-- the places of a frame, and those that its catch part names
places_long : (m : FrameTree Value) (f : Frame) → map (option_map value_of) m.places ≡ f.mem.slots ++ f.mem.locals → length f.mem.slots ≡ length f.code.slots
    → length m.places ≡ length f.code.slots + length f.mem.locals
places_long m f e slots =
    let a = sym (as_many (option_map value_of) m.places) ∙ ap length e ∙ length-append f.mem.slots f.mem.locals in omega (arith, a, slots)

all_below : (l n : ℕ) (f : Frame) (ns : List ℕ) → l ≡ n + length f.mem.locals → HasLocals f ns → AllBelow l (map (λ k. n + k) ns)
all_below l n f [] long has = tt
all_below l n f (k ∷ ks) long has = (let a = has.0 in omega (arith, a, long), all_below l n f ks long has.1)

error_below : (l n : ℕ) (f : Frame) (o : Option ℕ) → l ≡ n + length f.mem.locals → ((k : ℕ) → o ≡ Some k → k < length f.mem.locals) → ErrorBelow l (option_map (λ k. n + k) o)
error_below l n f None long has = tt
error_below l n f (Some k) long has = let a = has k refl in omega (arith, a, long)

-- an error leaves an actor
leaves_well : (r : RawTree) (h : HeapTree) (p : Proc Frame) (i : ℕ) (e : Entry) (f : Frame) → Acts r h p i e f → (a : Option Catcher) (b : Option CatcherTree)
    → SameCatcher (length f.code.slots) a b → ((t : CatcherTree) → b ≡ Some t → CatcherFits f t) → LeavesStuck i a h → ⊥
leaves_well r h p i e f acts None None same fits gone = some_none (sym acts.framed ∙ gone)
leaves_well r h p i e f acts (Some c) None same fits gone = same
leaves_well r h p i e f acts None (Some t) same fits gone = same
leaves_well r h p i e f acts (Some c) (Some t) same fits gone =
    let slots = length f.code.slots in
    let l = length acts.memory.places in
    let long = places_long acts.memory f acts.stands.places acts.stands.slots in
    let fit = fits t refl in
    handler_found i c h acts.memory acts.framed (subst (AllBelow l) (sym same.2) (all_below l slots f t.drops long fit.drops))
    (subst (ErrorBelow l) (sym same.1) (error_below l slots f t.error long (λ k z. (fit.error k z).0))) gone

module _ (r : RawTree) (code : Code) (program : IsProgram r code) (ls : List Line) (m : Process) (p : Proc Frame) (now : BetweenTasks r ls m p) (start : Process) where
  -- an actor that stands at an instruction stands somewhere in memory, and where that is a wait, its group is there
  module _ (x : Process) (q : Proc Frame) (i : ℕ) (e : Entry) (f : Frame) (acts : Acts r x.heap q i e f) where
    abbrev home : AtHome f.code
    home = at_home r program.whole.valid.valid acts.memory.class f.code acts.stands.code

    abbrev here : CodedBy r code.classes.items
    here = by_code r code program.whole.valid program.coded

    stands_well : (fetch f.code f.block f.instr ≡ Nothing → ⊥) → HasNoPoint code.classes.items i x.heap → ⊥
    stands_well there lost = stands_there r program.whole code program.coded x.heap q i e f acts there lost

    group_in : (s : ControlPoint) → IsAtPoint code.classes.items (actor_id i) x s → (g : ℕ) → fetch f.code f.block f.instr ≡ Last (ChooseLast g) → group_numbered g s.class.now.groups.items ≡ None → ⊥
    group_in s stands g fetched none =
        let cs = (somewhere r program.whole acts.memory.class f acts.stands.code (λ none. let a = fetched in cc (a, none))).group g fetched in
        group_found r code.classes.items here s.class.now f (begins_in_code r code.classes.items x q i e f s here acts stands).class home g fetched cs.0 cs.1 none

  -- what a task holds comes to hand
  module _ (t : stack.Task) (o : TopOff r ls t start p) where
    abbrev left : Proc Frame
    left = popped o.below p

    held_by : (u : Task) → o.top ≡ u → ProcessRepresents r ls (with_task u nothing_in_hand) start left
    held_by u is = subst (λ v. ProcessRepresents r ls (with_task v nothing_in_hand) start left) is o.shown

    tops : (u : Task) → o.top ≡ u → p.core.tasks ≡ u ∷ o.below
    tops u is = o.tasks ∙ ap (λ v. v ∷ o.below) is

    -- a reference that is dropped
    drops_well : (kd : Kind) (k : CellId) → o.top ≡ Drop kd k.0 → Sound left → Sorted start.heap → There left (kd, k.0) → LosesStuck kd k.0 start.heap → ⊥
    drops_well kd k is sound sorted there stuck =
        let shown = as_many_shown r ls (with_task (Drop kd k.0) nothing_in_hand) (λ z j. one z j (side_of kd) k.0) start left (λ z j. omega arith) (held_by (Drop kd k.0) is) in
        loss_found r start.heap left kd k.0 there.cell (losing_of r ls start left kd k.0 shown sound sorted there) stuck

    -- an error
    throws_well : (i : ActorId) (err : ErrorCode) → o.top ≡ Throw i.0 err.0 → (e : Entry) (f : Frame) → Acts r start.heap left i.0 e f → MayThrow code start left i e f → RaisedStuck code i start → ⊥
    throws_well i err is e f acts may (standing s stands gone) =
        leaves_well r start.heap left i.0 e f acts s.block.now.catcher (catcher_at f.code f.block) (may.stands s stands).1 may.fits gone
    throws_well i err is e f acts may (nowhere lost) =
        let u = Throw i.0 err.0 in
        let a = actor_here r now.kept.types i.0 u o.below p.core p.actors now.kept.orderly (tops u is) (throw_of i.0 err.0) now.kept.fits in
        let there = either_there r now.kept.types a.frame a.doing.1 in
        let here = acts_at r start.heap left i.0 a.entry a.frame (held_by u is).holds.shows a.at a.stands there in
        stands_well start left i.0 a.entry a.frame here there lost

    -- a waiter that takes its branch
    waits_at : (i : ℕ) (e : Entry) (f : Frame) → thing p.core.entries i ≡ Some e → thing p.actors i ≡ Some f → e.suspended ≡ true → Waiting r now.kept.types f
    waits_at i e f at acting asleep =
        let x = unfinished r p now.kept i e at in
        let parked = subst (λ b. PostureFits r now.kept.types b x.fits.class e x.frame (tasks_of i p.core.tasks)) asleep x.fits.posture in
        subst (Waiting r now.kept.types) (same_of (sym x.acting ∙ acting)) parked.1

    module _ (k : CellId) (is : o.top ≡ Fire k.0) (may : MayFire code r start left k.0) where
      abbrev after : Process
      after = doing (task.Fire k) start

      abbrev fired : Proc Frame
      fired = on_core (work.pushed (Fire k.0)) left

      abbrev spots : ℕ → Spot
      spots = spot_of_actor left.actors

      shown_after : ProcessRepresents r ls nothing_in_hand after fired
      shown_after = task_done r ls nothing_in_hand start left (task.Fire k) (Fire k.0) (held_by (Fire k.0) is) refl

      takes_well : ready_at k.0 after.heap ≡ true → NothingTaken k.0 after.heap → ⊥
      takes_well is_ready nothing =
          taken_by r nothing_in_hand after.heap fired k.0 may.cell shown_after.holds
          (record { at = may.takeable.at; there = λ x z. all_there_by left fired (refs_in (value_in x)) refl (may.takeable.there x z) }) is_ready nothing

      waiter_well : (w : Waiter) → Suspended code r start left w → ready_at k.0 after.heap ≡ true → WaiterStuck code k (waiter_in spots w) after → ⊥
      waiter_well w sus is_ready stuck = by_stand stuck
        where
          acts : Acts r after.heap fired w.actor sus.entry sus.frame
          acts = acts_by r start.heap after.heap left fired w.actor sus.entry sus.frame refl refl refl refl sus.acts

          waits : Waiting r now.kept.types sus.frame
          waits = waits_at w.actor sus.entry sus.frame sus.acts.entered sus.acts.acting sus.suspended

          here : spots w.actor ≡ wait_spot sus.frame
          here = ap (spot_at wait_spot) sus.acts.acting

          no_branch : (s : ControlPoint) → IsAtPoint code.classes.items (actor_id w.actor) after s → AtWait s sus.frame sus.group → NoBranchOf s ((spots w.actor).first + w.branch) → ⊥
          no_branch s stands at (no_wait none) = none sus.group at.last
          no_branch s stands at (no_group g last none) =
              let same : g ≡ sus.group = let a = at.last in cc (a, last) in
              group_in after fired w.actor sus.entry sus.frame acts s stands sus.group at.fetched (subst (λ n. group_numbered n s.class.now.groups.items ≡ None) same none)
          no_branch s stands at (before_first g of last found less) =
              let same : g ≡ sus.group = let a = at.last in cc (a, last) in
              let first = at.first of (subst (λ n. group_numbered n s.class.now.groups.items ≡ Some of) same found) in
              let same_first = ap (λ (y : Spot). y.first) here in omega (arith, first, same_first, less)

          ready : (s : ControlPoint) → IsAtPoint code.classes.items (actor_id w.actor) after s → AtWait s sus.frame sus.group
              → ReadyStuck s (record { callback = (spots w.actor).first + w.branch; cell = k }) after.heap → s.actor ≡ actor_id w.actor → ⊥
          ready s stands at (inl none) same = no_branch s stands at none
          ready s stands at (inr (inl none)) same = none sus.group at.last
          ready s stands at (inr (inr (inl nothing))) same = takes_well is_ready nothing
          ready s stands at (inr (inr (inr gone))) same =
              some_none (sym acts.framed ∙ subst (λ (j : ActorId). FrameMissing j.0 after.heap) same gone)

          by_stand : WaiterStuck code k (waiter_in spots w) after → ⊥
          by_stand (nowhere lost) = stands_well after fired w.actor sus.entry sus.frame acts (waiting_there r now.kept.types sus.frame waits) lost
          by_stand (standing s stands not_ready) =
              let both = sus.stands s (record { frame = stands.frame; at = stands.at; stands = stands.stands }) in ready s stands both.1 not_ready both.0.actor

      -- a cell that fires
      shown_cell : CellRepresents spots (stored.thing start.heap.cells.things k.0) (stored.thing start.heap.streams.things k.0) (Some may.cell)
      shown_cell = subst (CellRepresents spots (stored.thing start.heap.cells.things k.0) (stored.thing start.heap.streams.things k.0)) may.takeable.at (o.shown.holds.shows.cells k.0)

      oldest : (kd : Kind) (w : memory.Waiter) → waiter_by kd k.0 start.heap ≡ Some w → Oldest spots (waiters may.cell) w
      oldest kind.Promise w e = of_cell spots _ _ may.cell w shown_cell e
      oldest kind.Future w e = of_cell spots _ _ may.cell w shown_cell e
      oldest kind.PromiseStream w e = of_stream spots _ _ may.cell w shown_cell e
      oldest kind.FutureStream w e = of_stream spots _ _ may.cell w shown_cell e

      fires_well : Sound left → Sorted start.heap → FiresStuck code k start → ⊥
      fires_well sound sorted (no_cell none) = kind_there spots _ _ may.cell shown_cell none
      fires_well sound sorted (fires_stuck kd at stuck) = by_waiter (next_waiter kd k.0 start.heap) refl stuck
        where
          by_waiter : (x : Option memory.Waiter) → next_waiter kd k.0 start.heap ≡ x → FiresStuckAt code kd k x start → ⊥
          by_waiter None e stuck =
              let same = next_same r start.heap left o.shown.holds.shows k.0 kd may.cell may.takeable.at at in
              let shown = as_many_shown r ls (with_task (Fire k.0) nothing_in_hand) (λ z j. one z j FutureSide k.0) start left (λ z j. omega arith) (held_by (Fire k.0) is) in
              let shown_by = subst (λ d. ProcessRepresents r ls (λ z j. one z j d k.0) start left) (sym same.2) shown in
              let there : There left (kd, k.0) = record { cell = may.cell; at = may.takeable.at; right = same.1 } in
              loss_found r start.heap left kd k.0 may.cell (losing_of r ls start left kd k.0 shown_by sound sorted there) stuck
          by_waiter (Some w) e stuck =
              let both = if_some (ready_at k.0 start.heap) (waiter_by kd k.0 start.heap) w e in
              let x = oldest kd w both.1 in
              waiter_well x.waiter (may.waits x.waiter x.others x.is) both.0 (subst (λ v. WaiterStuck code k v after) (sym x.same) stuck)

    -- the end of an actor
    module _ (i : ActorId) (v : Outcome) (is : o.top ≡ Close i.0 (outcome_of v)) (sound : Sound left) (sorted : Sorted start.heap) (may : MayClose r start.heap left i.0 v) where
      abbrev ended : Process
      ended = on_heap (finished i.0) start

      abbrev rest : Proc Frame
      rest = without_actor i.0 left

      closing : ProcessRepresents r ls (with_refs (outcome_refs v) nothing_in_hand) start left
      closing = held_by (Close i.0 (outcome_of v)) is

      module _ (k : CellId) (own : may.actor.entry.result ≡ Some k.0) where
        alone : Lone rest v k.0
        alone = lone r ls start left i v closing sound sorted may k.0 own

        shown_rest : ProcessRepresents r ls (in_hand v (Some k.0)) ended rest
        shown_rest = subst (λ y. ProcessRepresents r ls (in_hand v y) ended rest) own (forgotten r ls start left i v closing sound sorted may)

        ends_well : EndsStuck (Some k) ended.heap → ⊥
        ends_well stuck =
            let cell = found_single r ended.heap rest k.0 None alone.waiters shown_rest.holds.shows alone.at in
            let streams = stored.thing ended.heap.streams.things k.0 in
            let view = as_single (spot_of_actor rest.actors) cell.0 streams (thing rest.core.cells k.0)
            (subst (λ c. CellRepresents (spot_of_actor rest.actors) c streams (thing rest.core.cells k.0)) cell.1 (shown_rest.holds.shows.cells k.0)) in
            let same : Single (option_map outcome_of cell.0.content) view.waiters ≡ Single None alone.waiters = let a = view.cell in let b = alone.at in cc (a, b) in
            let unset = none_by cell.0.content (let a = same in cc (a)) in
            let waiting : view.waiters ≡ alone.waiters = let a = same in cc (a) in
            let one_promise : cell.0.references.promises ≡ 1 =
            let a = sym (ap (λ x. count_at PromiseSide x streams) cell.1) ∙ shown_rest.holds.counted PromiseSide k.0 in
            let b = alone.promises in
            let c = alone.apart PromiseSide in
            let d = one_is PromiseSide k.0 in omega (arith, a, b, c, d) in
            let futures : cell.0.references.futures ≡ references FutureSide k.0 rest = sym (ap futures_of cell.1) ∙ futures_seen r ls v k.0 ended rest shown_rest alone in
            end_found k ended.heap cell.0 cell.1 unset one_promise
            (λ f.
            let unheard = sym futures ∙ f in
            let none = unwaited k.0 alone.waiters (let a = of_gone rest FutureSide k.0 k.0 (Single None alone.waiters) alone.at in omega (arith, a, unheard)) in
            ap (λ ws. slice_get ws 0) (view.waiting ∙ ap (map (waiter_in (spot_of_actor rest.actors))) (waiting ∙ none))) stuck
          where
            none_by : (c : Option Outcome) → option_map outcome_of c ≡ None → c ≡ None
            none_by None e = refl
            none_by (Some x) e = absurd (cc (e))

      closes_well : ClosesStuck i.0 start.heap → ⊥
      closes_well (forgets_stuck stuck) =
          let u = Close i.0 (outcome_of v) in
          let a = actor_here r now.kept.types i.0 u o.below p.core p.actors now.kept.orderly (tops u is) (close_of i.0 (outcome_of v)) now.kept.fits in
          forget_found r start.heap left i.0 may.actor (same_of (sym may.actor.acting ∙ a.stands) ∙ a.doing.1) may.operands stuck
      closes_well (ends_stuck n noted stuck) = by_result may.actor.note.result may.actor.same.result (subst (λ (y : Note). EndsStuck y.result ended.heap) (same_of (sym noted ∙ may.actor.noted)) stuck)
        where
          by_result : (y : Option CellId) → may.actor.entry.result ≡ option_map cell_number y → EndsStuck y ended.heap → ⊥
          by_result None e stuck = stuck
          by_result (Some k) e stuck = ends_well k e stuck

  abbrev run : IsValidCode r code
  run = record { valid = program.whole.valid; coded = program.coded }

  by_task : (t : stack.Task) (o : TopOff r ls t start p) → IsPlain t → IsEnabled code r start (popped o.below p) t → TaskStuck code t start → ⊥
  by_task (task.Drop kd k) o plain may stuck = drops_well (task.Drop kd k) o kd k o.same may.sound may.sorted may.may stuck
  by_task (task.Fire k) o plain may stuck = fires_well (task.Fire k) o k o.same may.may may.sound may.sorted stuck
  by_task (task.Throw i err) o plain may stuck = throws_well (task.Throw i err) o i err o.same may.may.0 may.may.1.0 may.may.1.1.0 may.may.1.1.1 stuck
  by_task (task.Catch i err) o plain may stuck = stuck
  by_task (task.Close i v) o plain may stuck = closes_well (task.Close i v) o i v.value o.same may.sound may.sorted may.may stuck
  by_task (task.Run i) o plain may stuck = plain
  by_task (task.Give i b v) o plain may stuck = plain
  by_task (task.Store i v) o plain may stuck = plain
  by_task (task.Keep i n k) o plain may stuck = plain

pub plain_well : law.SimpleTaskNeverStuck
plain_well r code ls m start p t program now taken plain stuck =
    let o = top_follows r ls m p t start now.shown taken in
    by_task r code program ls m p now start t o plain (task_allowed r code (run r code program ls m p now start) ls m p now t start o.top o.below taken o.tasks plain) stuck
