-- Where tasks, and what the world brings, go astray.
use Rattle.std.proofs.Common.{◌≡◌, ℕ, pos, false, List, [], ◌∷◌, slice_get, inl, inr, refl, ap, sym, ◌∙◌, subst}
use Rattle.std.specs.Option.{IsSomeAnd, is_some}
use Rattle.std.specs.declared.option.Option.{Option}
use Rattle.std.specs.declared.option.Option.TheVariants.{None, Some}
use Rattle.flow_base.specs.declared.ids.ActorId.{ActorId}
use Rattle.flow_base.specs.declared.ids.CellId.{CellId}
use Rattle.flow_base.specs.declared.ids.ErrorCode.{ErrorCode}
use Rattle.flow_base.specs.declared.ids.ProcId.{ProcId}
use Rattle.flow_value.specs.declared.value.Value.{Value}
use Rattle.flow_value.specs.declared.value.Value.TheVariants as value
use Rattle.flow_value.specs.declared.value.Outcome.{Outcome}
use Rattle.flow_value.specs.declared.value.Kind.{Kind}
use Rattle.flow_value.specs.declared.value.Kind.TheVariants as kind
use Rattle.flow_code.specs.declared.class.Aim.{Aim}
use Rattle.flow_code.specs.declared.class.Branch.{Branch}
use Rattle.flow_code.specs.declared.class.Group.{Group}
use Rattle.flow_code.specs.declared.class.Last.TheVariants as last
use Rattle.flow_code.specs.declared.program.Code.{Code}
use Rattle.flow_code.specs.View.{group_numbered}
use Rattle.flow_numbered.specs.Numbered.{thing}
use Rattle.flow_cell.specs.declared.counts.Side.TheVariants.{Promise}
use Rattle.flow_cell.specs.declared.waiter.Waiter.{Waiter}
use Rattle.flow_cell.specs.Cells.{CellTree, released}
use Rattle.flow_cancel.specs.declared.actors.Note.{Note}
use Rattle.flow_cancel.specs.declared.task.Task.{Task}
use Rattle.flow_cancel.specs.declared.task.Task.TheVariants as task
use Rattle.flow_cancel.specs.Heap.{HeapTree, finished, pushed}
use Rattle.flow_cancel.specs.Dropping.{dropping}
use Rattle.flow_cancel.specs.Leaving.{withdrawn}
use Rattle.flow_cancel.proofs.Puts.{found_put}
use Rattle.flow_heap_refinement.specs.Changes.{cell_put}
use Rattle.flow_heap_refinement.specs.Holds.{hold_all}
use Rattle.flow_steps.specs.declared.frames.ControlPoint.{ControlPoint}
use Rattle.flow_steps.specs.declared.next.Pace.{Pace}
use Rattle.flow_steps.specs.declared.process.Process.{Process}
use Rattle.flow_steps.specs.Doing.{turned, doing}
use Rattle.flow_steps.specs.Holding.{on_heap, kind_in, outcome_refs}
use Rattle.flow_steps.specs.Points.{IsAtPoint, GoesTo, places_emptied, values, Assigns}
use Rattle.flow_steps.specs.Stepping.{OnAfter}
use Rattle.flow_steps.specs.Tasks.{BranchAt, bound_over, bound, with_error, next_waiter}
use Rattle.flow_steps.specs.Acting.{Enrols}
use Rattle.flow_steps.specs.Stuck.{MayNotSet, MayNotFill, FrameMissing, SomePlaceMissing, HasNoPoint, no_frame}
use Rattle.flow_steps.specs.StuckWaits.{NoBranchOf, TakesStuck}
use Rattle.flow_steps.specs.StuckCalls.{EnrolsStuck}
use Rattle.flow_steps.specs.StuckSteps.{GoesStuck}
use Rattle.flow_steps.specs.StuckTasks.{StandsStuck, nowhere, standing, NoBranchAt, no_group_at, not_in_group, NoPlaceFor, BranchStuck, goes_there, StoredStuck, WaiterStuck, FiresStuckAt, FiresStuck, no_cell, fires_stuck, NoPromise, ResultStuck, EndsStuck, ClosesStuck, ends_stuck, MainStartsStuck, enrols_stuck, BringStuck}
use Rattle.flow_steps.proofs.Before.{with_frame_still, withdrawn_still}
use Rattle.flow_steps.proofs.Afterwards.{place_stays_emptied, frame_stays_emptied, places_by_frames, fill_still}
use Rattle.flow_steps.proofs.Amiss.{turned_heap}

-- no branch of a number where an actor stands
pub no_group_found : (s : ControlPoint) (n group : ℕ) → s.block.now.last ≡ last.Choose group → None ≡ group_numbered group s.class.now.groups.items → NoBranchAt s n
no_group_found s n group w e = no_group_at group w (sym e)

pub not_found : (s : ControlPoint) (n group : ℕ) (g : Group) → s.block.now.last ≡ last.Choose group → Some g ≡ group_numbered group s.class.now.groups.items
    → None ≡ slice_get g.branches.items n → NoBranchAt s n
not_found s n group g w e none = not_in_group group g w (sym e) (sym none)

-- a frame that isn't there after a value went into its place, or was assigned, wasn't before
bound_still : (i : ℕ) (into : Option ℕ) (v : Value) (h : HeapTree) → FrameMissing i (bound i into v h) → FrameMissing i h
bound_still i None v h none = none
bound_still i (Some n) v h none = with_frame_still _ i i h none

pub goes_nowhere : (code : Code) (i : ActorId) (n : ℕ) (v : Value) (s t : ControlPoint) (b : Branch) (p one : Process) → IsAtPoint code.classes.items i p s → GoesTo s b.block 0 t
    → one ≡ on_heap (bound i.0 b.into v) p → FrameMissing t.actor.0 one.heap → StandsStuck code.classes.items i p (BranchStuck code i n v p)
goes_nowhere code i n v s t b p one at g e none =
    let same : t.actor ≡ i = ap (λ (x : ControlPoint). x.actor) g.same ∙ at.stands.actor in
    let missing = subst (λ (a : ActorId). FrameMissing a.0 one.heap) same none in
    nowhere (no_frame (bound_still i.0 b.into v p.heap (subst (λ (x : Process). FrameMissing i.0 x.heap) e missing)))

pub value_goes_stuck : (code : Code) (i : ActorId) (n : ℕ) (v : Value) (s t : ControlPoint) (b : Branch) (vs : List Value) (pace : Pace) (p one between : Process)
    → IsAtPoint code.classes.items i p s → BranchAt s n b → vs ≡ bound_over i.0 b.into v p.heap → one ≡ on_heap (bound i.0 b.into v) p
    → GoesTo s b.block 0 t → OnAfter t vs one pace between → GoesStuck code pace between → StandsStuck code.classes.items i p (BranchStuck code i n v p)
value_goes_stuck code i n v s t b vs pace p one between at is o e g a m =
    standing s at
    (goes_there b t pace between is g (subst (λ x. OnAfter t (bound_over i.0 b.into v p.heap) x pace between) e (subst (λ l. OnAfter t l one pace between) o a)) m)

pub stored_nowhere : (code : Code) (i : ActorId) (aim : Aim) (v : Value) (old : Option Value) (s : ControlPoint) (p one two : Process) → IsAtPoint code.classes.items i p s
    → Assigns code.fields i aim v p old one → two ≡ on_heap (dropping (values old)) one → FrameMissing s.actor.0 two.heap → StoredStuck code i p
stored_nowhere code i aim v old s p one two at a e none =
    let missing = subst (λ (k : ActorId). FrameMissing k.0 two.heap) at.stands.actor none in
    nowhere (no_frame (with_frame_still _ i.0 i.0 p.heap (subst (λ (x : Process). FrameMissing i.0 x.heap) (e ∙ ap (on_heap (dropping (values old))) a.put) missing)))

-- an error that leaves an actor
pub error_place_still : (i : ℕ) (place : Option ℕ) (t : Task) (ns : List ℕ) (vs : List Value) (h h1 h2 h3 : HeapTree) → h1 ≡ pushed t h → h2 ≡ places_emptied i ns h1
    → h3 ≡ dropping vs h2 → NoPlaceFor i place h3 → NoPlaceFor i place h
error_place_still i None t ns vs h h1 h2 h3 e f g none = none
error_place_still i (Some n) t ns vs h h1 h2 h3 e f g none =
    place_stays_emptied i n ns (pushed t h) (subst (λ x. NoPlaceFor i (Some n) x) (g ∙ ap (dropping vs) (f ∙ ap (places_emptied i ns) e)) none)

error_still : (i : ℕ) (place : Option ℕ) (e : ErrorCode) (h : HeapTree) → FrameMissing i (with_error i place e h) → FrameMissing i h
error_still i None e h none = none
error_still i (Some n) e h none = with_frame_still _ i i h none

pub caught_still : (i : ℕ) (place : Option ℕ) (e : ErrorCode) (t : Task) (ns : List ℕ) (vs : List Value) (h h1 h2 h3 h4 : HeapTree) → h1 ≡ pushed t h
    → h2 ≡ places_emptied i ns h1 → h3 ≡ dropping vs h2 → h4 ≡ with_error i place e h3 → FrameMissing i h4 → FrameMissing i h
caught_still i place e t ns vs h h1 h2 h3 h4 a b c d none =
    frame_stays_emptied i i ns (pushed t h)
    (subst (λ x. FrameMissing i x) (c ∙ ap (dropping vs) (b ∙ ap (places_emptied i ns) a)) (error_still i place e h3 (subst (λ x. FrameMissing i x) d none)))

pub left_caught : (i : ℕ) (h4 h5 : HeapTree) → h5 ≡ withdrawn i h4 → FrameMissing i h5 → FrameMissing i h4
left_caught i h4 h5 e none = withdrawn_still i i h4 (subst (λ x. FrameMissing i x) e none)

pub variables_still : (i : ℕ) (t : Task) (ms ns : List ℕ) (h h1 : HeapTree) → ms ≡ ns → h1 ≡ pushed t h → SomePlaceMissing i ms h1 → SomePlaceMissing i ns h
variables_still i t ms ns h h1 same e is =
    subst (λ l. SomePlaceMissing i l h) same (places_by_frames i ms h1 h (ap (λ (x : HeapTree). x.frames) e) is)

-- the result of an actor
none_missing : (k : ℕ) (o : Option (CellTree Outcome)) → is_some o ≡ false → NoPromise o
none_missing k None e = tt
none_missing k (Some c) e = absurd (cc (e))

pub set_after : (k : ℕ) (p q : Process) → IsSomeAnd (thing p.heap.cells.things k) (λ c. q ≡ on_heap (cell_put k (record c { references = released Promise c.references })) p)
    → MayNotFill kind.Future k q.heap → MayNotSet (thing p.heap.cells.things k)
set_after k p q is m = by (thing p.heap.cells.things k) refl is
  where
    by : (o : Option (CellTree Outcome)) → thing p.heap.cells.things k ≡ o
        → IsSomeAnd o (λ c. q ≡ on_heap (cell_put k (record c { references = released Promise c.references })) p) → MayNotSet o
    by None at is = tt
    by (Some c) at is =
        subst MayNotSet (found_put p.heap.cells.things k c (record c { references = released Promise c.references }) at)
        (subst (λ (x : Process). MayNotSet (thing x.heap.cells.things k)) is m)

pub result_after : (k : ℕ) (p on q : Process) → on ≡ turned p → IsSomeAnd (thing on.heap.cells.things k) (λ c. q ≡ on_heap (cell_put k (record c { references = released Promise c.references })) on)
    → MayNotFill kind.Future k q.heap → ResultStuck k p.heap
result_after k p on q t is m =
    inr (subst (λ (h : HeapTree). MayNotSet (thing h.cells.things k)) (ap (λ (x : Process). x.heap) t ∙ turned_heap p) (set_after k on q is m))

pub turned_on : (P : HeapTree → Type 0) (p on : Process) → on ≡ turned p → P on.heap → P p.heap
turned_on P p on t is = subst P (ap (λ (x : Process). x.heap) t ∙ turned_heap p) is

pub closes_stuck : (i : ℕ) (r : Option CellId) (p gone : Process) → gone ≡ on_heap (finished i) p → IsSomeAnd (thing p.heap.actors.things i) (λ n. r ≡ n.result)
    → EndsStuck r gone.heap → ClosesStuck i p.heap
closes_stuck i r p gone e is m = by (thing p.heap.actors.things i) refl is
  where
    by : (o : Option Note) → thing p.heap.actors.things i ≡ o → IsSomeAnd o (λ n. r ≡ n.result) → ClosesStuck i p.heap
    by None at is = absurd is
    by (Some n) at is = ends_stuck n at (subst (λ k. EndsStuck k (finished i p.heap)) is (subst (λ (x : Process). EndsStuck r x.heap) e m))

-- a fire
pub fires_stuck_by : (code : Code) (k : CellId) (kd : Kind) (w : Option Waiter) (p : Process) → Some kd ≡ kind_in (thing p.heap.cells.things k.0) (thing p.heap.streams.things k.0)
    → w ≡ next_waiter kd k.0 p.heap → FiresStuckAt code kd k w p → FiresStuck code k p
fires_stuck_by code k kd w p e is m = fires_stuck kd (sym e) (subst (λ x. FiresStuckAt code kd k x p) is m)

-- its waiter, with the fire pushed
pub waiter_nowhere : (code : Code) (k : CellId) (w : Waiter) (p : Process) (h : HeapTree) → h ≡ pushed (task.Fire k) p.heap → HasNoPoint code.classes.items w.actor.0 h
    → WaiterStuck code k w (doing (task.Fire k) p)
waiter_nowhere code k w p h e m = nowhere (subst (λ x. HasNoPoint code.classes.items w.actor.0 x) e m)

pub waiter_stuck : (code : Code) (k : CellId) (w : Waiter) (s : ControlPoint) (p : Process) (h : HeapTree) → h ≡ pushed (task.Fire k) p.heap
    → IsAtPoint code.classes.items w.actor (record p { heap = h }) s → NoBranchOf s w.callback → WaiterStuck code k w (doing (task.Fire k) p)
waiter_stuck code k w s p h e at m = standing s (subst (λ x. IsAtPoint code.classes.items w.actor (record p { heap = x }) s) e at) (inl m)

pub waiter_takes_stuck : (code : Code) (k : CellId) (w : Waiter) (s : ControlPoint) (p : Process) (h : HeapTree) → h ≡ pushed (task.Fire k) p.heap
    → IsAtPoint code.classes.items w.actor (record p { heap = h }) s → TakesStuck s k.0 h → WaiterStuck code k w (doing (task.Fire k) p)
waiter_takes_stuck code k w s p h e at m =
    standing s (subst (λ x. IsAtPoint code.classes.items w.actor (record p { heap = x }) s) e at) (inr (subst (TakesStuck s k.0) e m))

pub nothing_to_fire : (code : Code) (k : CellId) (p : Process) → None ≡ kind_in (thing p.heap.cells.things k.0) (thing p.heap.streams.things k.0) → FiresStuck code k p
nothing_to_fire code k p e = no_cell (sym e)

-- content that is brought
pub brought_stuck : (kd : Kind) (k : ℕ) (o : Outcome) (p on held : Process) → on ≡ turned p → held ≡ on_heap (hold_all (outcome_refs o)) on
    → MayNotFill kd k held.heap → BringStuck kd k o p.heap
brought_stuck kd k o p on held t e m =
    let same = ap (λ (x : Process). x.heap) e ∙ ap (λ (x : Process). hold_all (outcome_refs o) x.heap) t ∙ ap (hold_all (outcome_refs o)) (turned_heap p) in
    inr (fill_still kd (outcome_refs o) k p.heap (subst (MayNotFill kd k) same m))

-- `main`
pub main_enrols_stuck : (code : Code) (me : ProcId) (class : ℕ) (args : List Value) (h : HeapTree) → Some class ≡ code.main → args ≡ value.Int (pos me.0) ∷ []
    → EnrolsStuck code class args h → MainStartsStuck code me h
main_enrols_stuck code me class args h is e m = enrols_stuck class (sym is) (subst (λ l. EnrolsStuck code class l h) e m)

pub main_no_class : (code : Code) (class : ℕ) (args : List Value) (i : ActorId) (k : CellId) (p q : Process) → Enrols code class args i k p q → slice_get code.classes.items class ≡ None → ⊥
main_no_class code class args i k p q is none = cc (is.at, none)
