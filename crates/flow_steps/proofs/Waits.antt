-- What branches take, and how actors leave their waits.
use Rattle.std.proofs.Common.{◌≡◌, ℕ, ◌+◌, ◌<◌, ◌≤◌, Bool, true, false, nat_lt, List, ◌∷◌, length, drop, get_or, slice_get, refl, ap, sym, subst, ◌∙◌, if◌then◌else◌, Result, Ok, Err, IfOk, OnOk}
use Rattle.std.proofs.lemmas.Bool.{false≢true}
use Rattle.std.proofs.lemmas.List.{drop_more, drop_all}
use Rattle.std.proofs.lemmas.Result.{IfOk-weaker}
use Rattle.std.specs.Option.{IsSomeAnd, ForSome, is_some}
use Rattle.std.specs.declared.option.Option.{Option}
use Rattle.std.specs.declared.option.Option.TheVariants.{None, Some}
use Rattle.flow_base.specs.ErrorNumbers.{operation_cancelled, second_waiter}
use Rattle.flow_base.specs.declared.ids.CellId.{CellId}
use Rattle.flow_value.specs.declared.value.Value.{Value}
use Rattle.flow_value.specs.declared.value.Outcome.{Outcome}
use Rattle.flow_value.specs.declared.value.Kind.{Kind}
use Rattle.flow_value.specs.declared.value.Kind.TheVariants as kind
use Rattle.flow_value.specs.View.{outcome_of}
use Rattle.flow_code.specs.declared.class.Group.{Group}
use Rattle.flow_code.specs.declared.class.Last.TheVariants as last
use Rattle.flow_code.specs.View.{group_numbered}
use Rattle.flow_numbered.specs.Numbered.{Store, thing, with_thing}
use Rattle.flow_cell.specs.Cells.{CellTree}
use Rattle.flow_stream.specs.Streams.{StreamTree, head, tail}
use Rattle.flow_frame.specs.declared.held.Held.{Held}
use Rattle.flow_trace.specs.declared.line.Line.TheVariants as line
use Rattle.flow_cancel.specs.declared.task.Task.{Task}
use Rattle.flow_cancel.specs.declared.task.Task.TheVariants as task
use Rattle.flow_cancel.specs.Heap.{HeapTree}
use Rattle.flow_heap_refinement.specs.Changes.{stream_put}
use Rattle.flow_heap_refinement.specs.Holds.{hold_all}
use Rattle.flow_steps.specs.declared.errors.Fault.{Fault}
use Rattle.flow_steps.specs.declared.frames.ControlPoint.{ControlPoint}
use Rattle.flow_steps.specs.declared.process.Process.{Process}
use Rattle.flow_steps.specs.declared.next.Pace.TheVariants.{On, Off}
use Rattle.flow_steps.specs.Doing.{turned, telling}
use Rattle.flow_steps.specs.Seen.{content_in}
use Rattle.flow_steps.specs.Holding.{on_heap, with_heap, outcome_refs, kind_in}
use Rattle.flow_steps.specs.Delivering.{head_of}
use Rattle.flow_steps.specs.Points.{lost_from}
use Rattle.flow_stream.specs.Streams.{or_waiter}
use Rattle.flow_stream.specs.declared.head.Wait.{Wait}
use Rattle.flow_stream.specs.declared.head.Wait.TheVariants.{Added, Busy}
use Rattle.flow_cell.specs.declared.waiter.Waiter.{Waiter}
use Rattle.flow_cancel.specs.Leaving.{waiter_of}
use Rattle.flow_numbered.proofs.Things.{with_same}
use Rattle.std.proofs.lemmas.Option.{same_Some, slice_get-get_or, slice_get_within}
use Rattle.flow_steps.specs.Waiting.{stream_awaited, awaited, BranchOf, Takes, copied, popped, IsGive, BranchTaken, TakesBranch, no_turn, takes_branch, left_for, callbacks_of, Registered, register, register_all, registered_then, Registers, first_ready, ready_at, marked_at, operand_kept, KeepsOperand, kept_marked, kept_unready, kept_ready, suspended_at, Waits, waits_ready, waits_refused, waits_suspended}

-- the branch of a number
pub branch_is : (s : ControlPoint) (callback branch number : ℕ) (g : Group) → s.block.now.last ≡ last.Choose number
    → Some g ≡ group_numbered number s.class.now.groups.items → callback ≡ g.first + branch → BranchOf s callback branch
branch_is s callback branch number g w e c = record { number = number; group = g; waits = w; of_number = sym e; counted = c }

-- a copy, or the first of a stream
pub copy_taken : (k : ℕ) (r : Result Outcome Fault) (p q : Process) → IfOk r (λ o. content_in p.heap.cells k ≡ Some (outcome_of o))
    → IfOk r (λ o. q ≡ on_heap (hold_all (outcome_refs o)) p) → IfOk r (λ o. Takes k o p q)
copy_taken k (Ok o) p q c e = copied c e
copy_taken k (Err x) p q c e = e

abbrev pub is_stream : Option Kind → Bool
is_stream (Some kind.PromiseStream) = true
is_stream (Some kind.FutureStream) = true
is_stream _ = false

pub no_result : (c : Option (CellTree Outcome)) (s : Option (StreamTree Value)) (kd : Kind) → is_stream (Some kd) ≡ true → Some kd ≡ kind_in c s → c ≡ None
no_result None s kd is e = refl
no_result (Some c) s kd is e = absurd (false≢true (sym (ap is_stream e) ∙ is))

pub first_taken : (k : ℕ) (r : Result Outcome Fault) (p q : Process) → thing p.heap.cells.things k ≡ None
    → IfOk r (λ o. IsSomeAnd (thing p.heap.streams.things k) (λ s. head s.queue s.end ≡ head_of o))
    → OnOk r (IsSomeAnd (thing p.heap.streams.things k) (λ s. q ≡ on_heap (stream_put k (record s { queue = tail s.queue })) p))
    → IfOk r (λ o. Takes k o p q)
first_taken k (Err x) p q none c e = e
first_taken k (Ok o) p q none c e = by (thing p.heap.streams.things k) refl c e
  where
    by : (s : Option (StreamTree Value)) → thing p.heap.streams.things k ≡ s → IsSomeAnd s (λ s. head s.queue s.end ≡ head_of o)
        → IsSomeAnd s (λ s. q ≡ on_heap (stream_put k (record s { queue = tail s.queue })) p) → Takes k o p q
    by (Some s) is c e = popped s none is c e
    by None is c e = absurd c

-- a branch that took what its cell gives
pub branch_taken : (s : ControlPoint) (b group : ℕ) (cell : CellId) (o : Outcome) (t : Task) (p between left q : Process)
    → s.block.now.last ≡ last.Choose group → Takes cell.0 o p between → IsGive s.actor b o t
    → left ≡ on_heap (left_for s t) between → q ≡ telling (line.Take s.actor group b) left → BranchTaken s b cell p q
branch_taken s b group cell o t p between left q w takes g l e = record {
  group = group;
  outcome = o;
  task = t;
  between = between;
  waits = w;
  takes = takes;
  gives = g;
  leaves = e ∙ ap (telling (line.Take s.actor group b)) l;
}

-- operands from one on
abbrev pub registered_after : (actor : ℕ) → List Held → (done : ℕ) → HeapTree → Registered
registered_after i xs k h = register_all i (drop k xs) h

pub one_registered : (i : ℕ) (xs : List Held) (k : ℕ) (d : Held) (h g : HeapTree) → k < length xs → register i (get_or xs k d) h ≡ (true, g)
    → registered_after i xs (k + 1) g ≡ registered_after i xs k h
one_registered i xs k d h g lt e =
    sym (ap (λ l. register_all i l h) (drop_more xs k d lt) ∙ ap (registered_then (register_all i (drop (k + 1) xs))) e)

pub one_refused : (i : ℕ) (xs : List Held) (k : ℕ) (d : Held) (h g : HeapTree) → k < length xs → register i (get_or xs k d) h ≡ (false, g)
    → registered_after i xs k h ≡ (false, g)
one_refused i xs k d h g lt e = ap (λ l. register_all i l h) (drop_more xs k d lt) ∙ ap (registered_then (register_all i (drop (k + 1) xs))) e

pub all_registered : (i : ℕ) (xs : List Held) (k : ℕ) (h : HeapTree) → length xs ≤ k → registered_after i xs k h ≡ (true, h)
all_registered i xs k h le = ap (λ l. register_all i l h) (drop_all k xs le)

-- what a registration comes to
pub registers_by : (r : Registered) (b : Bool) (p q : Process) (h : HeapTree) → r ≡ (b, h) → q ≡ with_heap h p → Registers r b p q
registers_by r b p q h e is = (sym (ap (λ (x : Registered). x.0) e), is ∙ ap (λ (x : Registered). with_heap x.1 p) (sym e))

-- the first that is ready, from one on
pub one_unready : (xs : List Held) (k : ℕ) (d : Held) (h : HeapTree) → k < length xs → ready_at (get_or xs k d).cell.0 h ≡ false
    → first_ready h (drop (k + 1) xs) ≡ first_ready h (drop k xs)
one_unready xs k d h lt e = sym (ap (first_ready h) (drop_more xs k d lt) ∙ unready)
  where
    unready : first_ready h (get_or xs k d ∷ drop (k + 1) xs) ≡ first_ready h (drop (k + 1) xs)
    unready = rw e refl

pub one_ready : (xs : List Held) (k : ℕ) (d : Held) (h : HeapTree) → k < length xs → ready_at (get_or xs k d).cell.0 h ≡ true
    → first_ready h (drop k xs) ≡ Some (get_or xs k d)
one_ready xs k d h lt e = ap (first_ready h) (drop_more xs k d lt) ∙ ready
  where
    ready : first_ready h (get_or xs k d ∷ drop (k + 1) xs) ≡ Some (get_or xs k d)
    ready = rw e refl

pub none_ready : (xs : List Held) (k : ℕ) (h : HeapTree) → length xs ≤ k → first_ready h (drop k xs) ≡ None
none_ready xs k h le = ap (first_ready h) (drop_all k xs le)

-- a branch that is taken, or isn't for want of a turn
pub untaken : (s : ControlPoint) (b : ℕ) (cell : CellId) (p q : Process) → false ≡ nat_lt 0 p.left → q ≡ turned p → TakesBranch s b cell p q
untaken s b cell p q t e = no_turn (sym t) e

pub taken_by : (s : ControlPoint) (b : ℕ) (cell : CellId) (r : Result (Unit {0}) Fault) (p mid q : Process) → true ≡ nat_lt 0 p.left → mid ≡ turned p
    → OnOk r (BranchTaken s b cell mid q) → OnOk r (TakesBranch s b cell p q)
taken_by s b cell r p mid q t e is = IfOk-weaker r _ _ (λ x i. takes_branch (sym t) (subst (λ y. BranchTaken s b cell y q) e i)) is

-- an operand that is kept
pub kept_cancelled : (s : ControlPoint) (x : Held) (p mid q : Process) → true ≡ marked_at s.actor.0 p.heap → mid ≡ on_heap (operand_kept s.actor.0 x) p
    → q ≡ on_heap (left_for s (task.Throw s.actor (record { 0 = operation_cancelled }))) mid → KeepsOperand s x p Off q
kept_cancelled s x p mid q m e f = kept_marked q (sym m) (f ∙ ap (on_heap (left_for s (task.Throw s.actor (record { 0 = operation_cancelled })))) e)

pub kept_on : (s : ControlPoint) (x : Held) (p q : Process) → false ≡ marked_at s.actor.0 p.heap → false ≡ ready_at x.cell.0 p.heap
    → q ≡ on_heap (operand_kept s.actor.0 x) p → KeepsOperand s x p (On s) q
kept_on s x p q m r e = kept_unready q (sym m) (sym r) e

pub kept_taken : (s : ControlPoint) (x : Held) (b : ℕ) (p mid q : Process) → false ≡ marked_at s.actor.0 p.heap → true ≡ ready_at x.cell.0 p.heap
    → mid ≡ on_heap (operand_kept s.actor.0 x) p → BranchOf s x.callback b → TakesBranch s b x.cell mid q → KeepsOperand s x p Off q
kept_taken s x b p mid q m r e of t = kept_ready q b (sym m) (sym r) of (subst (λ y. TakesBranch s b x.cell y q) e t)

-- a wait that begins
pub wait_takes : (s : ControlPoint) (g : ℕ) (x : Held) (b : ℕ) (r : Result (Unit {0}) Fault) (p q : Process) → Some x ≡ first_ready p.heap (callbacks_of s.actor.0 p.heap)
    → BranchOf s x.callback b → OnOk r (TakesBranch s b x.cell p q) → OnOk r (Waits s g p q)
wait_takes s g x b r p q e of t = IfOk-weaker r _ _ (λ _ is. waits_ready x b (sym e) of is) t

told : (r : Registered) (b : Bool) → b ≡ r.0 → r ≡ (b, r.1)
told (true, h) true e = refl
told (false, h) false e = refl
told (true, h) false e = absurd (false≢true e)
told (false, h) true e = absurd (false≢true (sym e))

pub wait_refused : (s : ControlPoint) (g : ℕ) (r : Result (Unit {0}) Fault) (p mid q : Process) → None ≡ first_ready p.heap (callbacks_of s.actor.0 p.heap)
    → Registers (register_all s.actor.0 (callbacks_of s.actor.0 p.heap) p.heap) false p mid
    → OnOk r (q ≡ on_heap (left_for s (task.Throw s.actor (record { 0 = second_waiter }))) mid) → OnOk r (Waits s g p q)
wait_refused s g r p mid q e reg l =
    let all = register_all s.actor.0 (callbacks_of s.actor.0 p.heap) p.heap in
    IfOk-weaker r _ _ (λ _ is. waits_refused all.1 (sym e) (told all false reg.0)
    (is ∙ ap (on_heap (left_for s (task.Throw s.actor (record { 0 = second_waiter })))) reg.1)) l

pub wait_suspended : (s : ControlPoint) (g : ℕ) (p mid one two q : Process) → None ≡ first_ready p.heap (callbacks_of s.actor.0 p.heap)
    → Registers (register_all s.actor.0 (callbacks_of s.actor.0 p.heap) p.heap) true p mid
    → one ≡ on_heap (lost_from s.actor.0 s.class.now.slots) mid → two ≡ on_heap (suspended_at s.actor.0 g) one
    → q ≡ telling (line.Wait s.actor g) two → Waits s g p q
wait_suspended s g p mid one two q e reg l f t =
    let all = register_all s.actor.0 (callbacks_of s.actor.0 p.heap) p.heap in
    waits_suspended all.1 (sym e) (told all true reg.0)
    (t ∙ ap (telling (line.Wait s.actor g)) (f ∙ ap (on_heap (suspended_at s.actor.0 g)) (l ∙ ap (on_heap (lost_from s.actor.0 s.class.now.slots)) reg.1)))

abbrev is_busy : Wait → Bool
is_busy Added = false
is_busy Busy = true

-- a stream at which nobody waits, and one at which somebody does
module _ (i : ℕ) (x : Held) (p : Process) (new : Store (StreamTree Value)) (none : is_some (thing p.heap.cells.things x.cell.0) ≡ false)
    (some : is_some (thing p.heap.streams.things x.cell.0) ≡ true) where
  abbrev awaits : Bool → Type 0
  awaits b = Registers (register i x p.heap) b p (on_heap (λ h. record h { streams = new }) p)

  at_stream : (b : Bool) → ((s : StreamTree Value) → thing p.heap.streams.things x.cell.0 ≡ Some s
      → Registers (stream_awaited x.cell.0 (waiter_of i x) s s.waiter p.heap) b p (on_heap (λ h. record h { streams = new }) p)) → awaits b
  at_stream b go = by (thing p.heap.cells.things x.cell.0) (thing p.heap.streams.things x.cell.0) none some go
    where
      by : (c : Option (CellTree Outcome)) (o : Option (StreamTree Value)) → is_some c ≡ false → is_some o ≡ true
          → ((s : StreamTree Value) → o ≡ Some s → Registers (stream_awaited x.cell.0 (waiter_of i x) s s.waiter p.heap) b p (on_heap (λ h. record h { streams = new }) p))
          → Registers (awaited x.cell.0 (waiter_of i x) c o p.heap) b p (on_heap (λ h. record h { streams = new }) p)
      by None (Some s) n m go = go s refl
      by None None n m go = absurd (false≢true m)
      by (Some c) o n m go = absurd (false≢true (sym n))

  pub stream_added : ForSome (thing p.heap.streams.things x.cell.0) (λ s. Added ≡ (if is_some s.waiter then Busy else Added))
      → ForSome (thing p.heap.streams.things x.cell.0) (λ s. new ≡ with_thing p.heap.streams x.cell.0 (record s { waiter = or_waiter s.waiter (waiter_of i x) }))
      → Registers (register i x p.heap) true p (on_heap (λ h. record h { streams = new }) p)
  stream_added a w = at_stream true (λ s is. free s s.waiter (a s is) (w s is))
    where
      free : (s : StreamTree Value) (o : Option Waiter) → Added ≡ (if is_some o then Busy else Added)
          → new ≡ with_thing p.heap.streams x.cell.0 (record s { waiter = or_waiter o (waiter_of i x) })
          → Registers (stream_awaited x.cell.0 (waiter_of i x) s o p.heap) true p (on_heap (λ h. record h { streams = new }) p)
      free s None a w = (refl, ap (λ n. record p { heap = record p.heap { streams = n } }) w)
      free s (Some old) a w = absurd (false≢true (ap is_busy a))

  pub stream_busy : ForSome (thing p.heap.streams.things x.cell.0) (λ s. Busy ≡ (if is_some s.waiter then Busy else Added))
      → ForSome (thing p.heap.streams.things x.cell.0) (λ s. new ≡ with_thing p.heap.streams x.cell.0 (record s { waiter = or_waiter s.waiter (waiter_of i x) }))
      → Registers (register i x p.heap) false p (on_heap (λ h. record h { streams = new }) p)
  stream_busy a w = at_stream false (λ s is. taken s s.waiter (a s is) (w s is ∙ stays s s.waiter (a s is) is))
    where
      stays : (s : StreamTree Value) (o : Option Waiter) → Busy ≡ (if is_some o then Busy else Added) → thing p.heap.streams.things x.cell.0 ≡ Some (record s { waiter = o })
          → with_thing p.heap.streams x.cell.0 (record s { waiter = or_waiter o (waiter_of i x) }) ≡ p.heap.streams
      stays s None a is = absurd (false≢true (sym (ap is_busy a)))
      stays s (Some old) a is = with_same p.heap.streams x.cell.0 (record s { waiter = Some old }) is

      taken : (s : StreamTree Value) (o : Option Waiter) → Busy ≡ (if is_some o then Busy else Added) → new ≡ p.heap.streams
          → Registers (stream_awaited x.cell.0 (waiter_of i x) s o p.heap) false p (on_heap (λ h. record h { streams = new }) p)
      taken s None a e = absurd (false≢true (sym (ap is_busy a)))
      taken s (Some old) a e = (refl, ap (λ n. record p { heap = record p.heap { streams = n } }) e)

-- frames stay as they are
pub frames_stay : (i : ℕ) (x : Held) (h : HeapTree) → (register i x h).1.frames ≡ h.frames
frames_stay i x h = by (thing h.cells.things x.cell.0) (thing h.streams.things x.cell.0)
  where
    waits : (s : StreamTree Value) (o : Option Waiter) → (stream_awaited x.cell.0 (waiter_of i x) s o h).1.frames ≡ h.frames
    waits s None = refl
    waits s (Some old) = refl

    by : (c : Option (CellTree Outcome)) (o : Option (StreamTree Value)) → (awaited x.cell.0 (waiter_of i x) c o h).1.frames ≡ h.frames
    by (Some c) o = refl
    by None (Some s) = waits s s.waiter
    by None None = refl

-- an operand more is registered, or refused, after those before
pub held_here : (xs : List Held) (k : ℕ) (x : Held) → Some x ≡ slice_get xs k → x ≡ get_or xs k x
held_here xs k x e = same_Some x (get_or xs k x) (e ∙ slice_get-get_or xs k x (slice_get_within xs k x (sym e)))

pub next_registered : (i : ℕ) (xs : List Held) (k : ℕ) (x : Held) (h g : HeapTree) (b : Bool) (p q : Process) → p.heap ≡ h → Some x ≡ slice_get xs k → Registers (register i x h) b p q → b ≡ true
    → registered_after i xs (k + 1) q.heap ≡ registered_after i xs k h
next_registered i xs k x h g b p q at e reg yes_ =
    let lt : k < length xs = slice_get_within xs k x (sym e) in
    let here : x ≡ get_or xs k x = held_here xs k x e in
    one_registered i xs k x h q.heap lt
    (ap (λ y. register i y h) (sym here) ∙ told (register i x h) true (sym yes_ ∙ reg.0) ∙ ap (λ (y : Process). (true, y.heap)) (sym reg.1))

pub next_refused : (i : ℕ) (xs : List Held) (k : ℕ) (x : Held) (h : HeapTree) (all : Registered) (b : Bool) (p0 p q : Process) → p ≡ record p0 { heap = h } → Some x ≡ slice_get xs k
    → Registers (register i x h) b p q → b ≡ false → registered_after i xs k h ≡ all → Registers all false p0 q
next_refused i xs k x h all b p0 p q at e reg no_ inv =
    let lt : k < length xs = slice_get_within xs k x (sym e) in
    let here : x ≡ get_or xs k x = held_here xs k x e in
    let is : registered_after i xs k h ≡ (false, (register i x h).1) =
    one_refused i xs k x h (register i x h).1 lt (ap (λ y. register i y h) (sym here) ∙ told (register i x h) false (sym no_ ∙ reg.0)) in
    registers_by all false p0 q (register i x h).1 (sym inv ∙ is) (reg.1 ∙ ap (with_heap (register i x h).1) at)
