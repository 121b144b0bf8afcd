-- An actor of a heap leaves its wait, or is cancelled, as that of the process that the heap shows.
use Rattle.std.proofs.Common.{◌≡◌, ℕ, zero, suc, ◌+◌, nat_eq, Bool, true, false, List, [], ◌∷◌, if◌then◌else◌, refl, sym, ap, ◌∙◌, subst, arith}
use Rattle.std.specs.Option.{option_map}
use Rattle.std.specs.declared.option.Option.{Option}
use Rattle.std.specs.declared.option.Option.TheVariants.{None, Some}
use Rattle.flow_base.specs.ErrorNumbers.{operation_cancelled}
use Rattle.flow_value.specs.declared.value.Value.{Value}
use Rattle.flow_class.specs.Classes.{RawTree}
use Rattle.flow_numbered.specs.Numbered as stored
use Rattle.flow_frame.specs.Frames.{FrameTree}
use Rattle.flow_cancel.specs.declared.actors.Note.{Note}
use Rattle.flow_cancel.specs.declared.task.Task as stack
use Rattle.flow_cancel.specs.declared.task.Task.TheVariants as task
use Rattle.flow_cancel.specs.Heap as memory
use Rattle.flow_cancel.specs.Heap.{HeapTree, actor_id, next_cell, next_actor}
use Rattle.flow_cancel.specs.Leaving as leaving
use Rattle.flow_cancel.specs.Leaving.{leave_all, without_callbacks, withdrawn, withdrawn_from, waits, suspended_in, suspended, marked_in, cancelled_by, cancelled}
use Rattle.flow_numbered.specs.Numbered.{Numbered, thing, put}
use Rattle.flow_meaning.specs.Cells.{Ref, Waiter, Cell, Single, Stream, as_list, without, without_one, left_by}
use Rattle.flow_meaning.specs.Requests.{Spot}
use Rattle.flow_meaning.specs.Process.{Throw, Entry, Proc}
use Rattle.flow_meaning.specs.Work.{pushed, drops, left_cells, running, marked, cancel_by}
use Rattle.flow_meaning.specs.Step.{kept_by, on_core, proc}
use Rattle.flow_meaning.specs.Views.{spot_at}
use Rattle.flow_meaning.specs.Frame.{Frame}
use Rattle.flow_meaning.proofs.Posture.{each_number, thing_put, thing_put_other}
use Rattle.flow_heap_refinement.specs.Representing.{Represents, CellRepresents, held_from, OneActor, stands, ended, FrameRepresents, Position, here, at_wait, wait_spot, spot_of_actor}
use Rattle.flow_heap_refinement.specs.Counted.{branches_of, branches_at, waiters_at}
use Rattle.flow_heap_refinement.specs.Acting.{At}
use Rattle.flow_heap_refinement.specs.Leaving as change
use Rattle.flow_heap_refinement.specs.Leaving.{RightKinds, MayLeave, first_part, left_wait}
use Rattle.flow_heap_refinement.proofs.Tasks.{tasks_aside, tasks_same}
use Rattle.flow_heap_refinement.proofs.Finds.{stored_put}
use Rattle.flow_heap_refinement.proofs.Actors.{entry_put, note_put}
use Rattle.flow_heap_refinement.proofs.Leaving.{less, less_one, less_as_list, all_left}
use Rattle.flow_heap_refinement.proofs.Withdrawn.{less_maybe, cell_less, Left, leave_these}
use Rattle.flow_heap_refinement.proofs.Shown.{pushed_shown}

-- cells that an actor has left
pub found_left : (i : ℕ) (cs : Numbered Cell) (k : ℕ) → thing (left_cells i cs) k ≡ option_map (left_by i) (thing cs k)
found_left i [] k = refl
found_left i (x ∷ xs) k = by_test (nat_eq k x.0) (found_left i xs k)
  where
    by_test : (t : Bool) → thing (left_cells i xs) k ≡ option_map (left_by i) (thing xs k)
        → (if t then Some (left_by i x.1) else thing (left_cells i xs) k) ≡ option_map (left_by i) (if t then Some x.1 else thing xs k)
    by_test true e = refl
    by_test false e = e

same_list : (v w : Option Waiter) → as_list v ≡ as_list w → v ≡ w
same_list None None e = refl
same_list None (Some w) e = absurd (cc)
same_list (Some v) None e = absurd (cc)
same_list (Some v) (Some w) e = ap Some (cc (e))

without_list : (w : Option Waiter) (i : ℕ) → as_list (without_one w i) ≡ without (as_list w) i
without_list None i = refl
without_list (Some w) i = by_test (nat_eq w.actor i)
  where
    by_test : (t : Bool) → as_list (if t then None else Some w) ≡ (if t then [] else w ∷ [])
    by_test true = refl
    by_test false = refl

less_list : (i : ℕ) (bs : List ℕ) (w : Option Waiter) → as_list (less_maybe i bs w) ≡ less i bs (as_list w)
less_list i [] w = refl
less_list i (b ∷ bs) w = one (less_maybe i bs w) (less_list i bs w)
  where
    one : (v : Option Waiter) → as_list v ≡ less i bs (as_list w) → as_list (less_one i b v) ≡ less i (b ∷ bs) (as_list w)
    one v e = less_as_list i b v (less i bs (as_list w)) e

cell_left : (i k n : ℕ) (rs : List Ref) (c : Option Cell) → branches_of i (waiters_at c) ≡ branches_at k 0 (first_part n rs) → cell_less i (branches_at k 0 rs) c ≡ option_map (left_by i) c
cell_left i k n rs None e = refl
cell_left i k n rs (Some (Single v ws)) e = ap (λ x. Some (Single v x)) (all_left i k n rs ws e)
cell_left i k n rs (Some (Stream q x w)) e =
    ap (λ y. Some (Stream q x y)) (same_list (less_maybe i (branches_at k 0 rs) w) (without_one w i) (less_list i (branches_at k 0 rs) w ∙ all_left i k n rs (as_list w) e ∙ sym (without_list w i)))

-- an actor's callbacks are its operands
pub held_as : (r : RawTree) (n : Note) (m : FrameTree Value) (e : Entry) (f : Frame) → OneActor r n m e f → m.callbacks ≡ held_from (wait_spot f).first e.operands
held_as r n m e f o = by_frame o.frame
  where
    by_frame : FrameRepresents r m e f → m.callbacks ≡ held_from (wait_spot f).first e.operands
    by_frame (stands s) = s.callbacks
    by_frame (ended x) = x.callbacks ∙ ap (held_from (wait_spot f).first) (sym x.operands)

waits_for_none : (n : ℕ) → waits n [] ≡ false
waits_for_none zero = refl
waits_for_none (suc n) = refl

pub suspended_as : (r : RawTree) (n : Note) (m : FrameTree Value) (e : Entry) (f : Frame) → OneActor r n m e f → waits m.state m.callbacks ≡ e.suspended
suspended_as r n m e f o = by_frame o.frame
  where
    by_frame : FrameRepresents r m e f → waits m.state m.callbacks ≡ e.suspended
    by_frame (stands s) = s.suspended
    by_frame (ended x) = ap (waits m.state) x.callbacks ∙ waits_for_none m.state ∙ sym x.suspended

-- without its callbacks it runs
runs : (r : RawTree) (n : Note) (m : FrameTree Value) (e : Entry) (f : Frame) → OneActor r n m e f → OneActor r n (record m { callbacks = [] }) (running e) f
runs r n m e f o = record { class = o.class; result = o.result; marked = o.marked; frame = by_frame o.frame }
  where
    position : Position m f → Position (record m { callbacks = [] }) f
    position (here a b c) = here a b c
    position (at_wait g a b) = at_wait g a b

    by_frame : FrameRepresents r m e f → FrameRepresents r (record m { callbacks = [] }) (running e) f
    by_frame (stands s) = stands (record {
      code = s.code;
      places = s.places;
      slots = s.slots;
      position = position s.position;
      callbacks = refl;
      suspended = waits_for_none m.state;
      spot = λ x. absurd (cc);
    })
    by_frame (ended x) = ended (record {
      frame = x.frame;
      places = x.places;
      callbacks = refl;
      operands = refl;
      suspended = refl;
    })

marks : (r : RawTree) (n : Note) (m : FrameTree Value) (e : Entry) (f : Frame) → OneActor r n m e f → OneActor r (record n { marked = true }) m (marked e) f
marks r n m e f o = record { class = o.class; result = o.result; marked = refl; frame = by_frame o.frame }
  where
    by_frame : FrameRepresents r m e f → FrameRepresents r m (marked e) f
    by_frame (stands s) = stands (record {
      code = s.code;
      places = s.places;
      slots = s.slots;
      position = s.position;
      callbacks = s.callbacks;
      suspended = s.suspended;
      spot = s.spot;
    })
    by_frame (ended x) = ended (record {
      frame = x.frame;
      places = x.places;
      callbacks = x.callbacks;
      operands = x.operands;
      suspended = x.suspended;
    })

-- what is put twice
pub put_twice : (es : Numbered Entry) (i : ℕ) (a b : Entry) → put (put es i a) i b ≡ put es i b
put_twice [] i a b = refl
put_twice (x ∷ xs) i a b = by_test (nat_eq i x.0) refl (put_twice xs i a b)
  where
    by_test : (t : Bool) → nat_eq i x.0 ≡ t → put (put xs i a) i b ≡ put xs i b → put (if t then (x.0, a) ∷ xs else x ∷ put xs i a) i b ≡ (if t then (x.0, b) ∷ xs else x ∷ put xs i b)
    by_test true e k = ap (λ t. if t then (x.0, b) ∷ xs else (x.0, a) ∷ put xs i b) e
    by_test false e k = ap (λ t. if t then (x.0, b) ∷ put xs i a else x ∷ put (put xs i a) i b) e ∙ ap (λ ys. x ∷ ys) k

module _ (r : RawTree) (h : HeapTree) (p : Proc Frame) where
  abbrev spots : ℕ → Spot
  spots = spot_of_actor p.actors

  kept_others : (i : ℕ) (e : Entry) (j : ℕ) → (i ≡ j → ⊥) → (spots j ≡ spots j) × (kept_by (thing (put p.core.entries i e) j) ≡ kept_by (thing p.core.entries j))
  kept_others i e j n = (refl, ap kept_by (thing_put_other p.core.entries i j e n))

  pub withdrawn_shown : change.Withdrawn r h p
  withdrawn_shown i s at may =
      subst (λ o. Represents r (withdrawn_from i o h) (on_core (left_wait i at.entry) p)) (sym at.framed)
      (subst (λ hs. Represents r (leave_all i hs g) (on_core (left_wait i at.entry) p)) (sym (held_as r at.note at.memory at.entry at.frame at.same))
      (whole (leave_all i (held_from (wait_spot at.frame).first at.entry.operands) g)
      (leave_these spots i kept g p.core.cells p.core.tasks s.cells
      (tasks_aside spots spots (λ j. kept_by (thing p.core.entries j)) kept i (kept_others i (running at.entry)) h.tasks p.core.tasks may.keeps s.tasks)
      at.entry.operands 0 (wait_spot at.frame).first (first_is (ap (λ o. (spot_at wait_spot o).first) (sym at.acting))) may.kinds)))
    where
      g : HeapTree
      g = without_callbacks i at.memory h

      kept : ℕ → ℕ
      kept j = kept_by (thing (put p.core.entries i (running at.entry)) j)

      first_is : {x y : ℕ} → x ≡ y → x ≡ y + 0
      first_is e = omega (arith, e)

      whole : (d : HeapTree) → Left spots i kept d g (λ k. cell_less i (branches_at k 0 at.entry.operands) (thing p.core.cells k)) (drops at.entry.operands p.core.tasks)
          → Represents r d (on_core (left_wait i at.entry) p)
      whole d l = record {
        cells = λ k. subst (λ c. CellRepresents spots (stored.thing d.cells.things k) (stored.thing d.streams.things k) c)
            (cell_left i k may.many at.entry.operands (thing p.core.cells k) (may.waits k) ∙ sym (found_left i p.core.cells k)) (l.cells k);
        actors = λ j. rw (l.beside.actors, l.beside.frames)
            (entry_put r h.actors.things h.frames.things p.core.entries p.actors s.actors i at (record at.memory { callbacks = [] }) (running at.entry)
            (runs r at.note at.memory at.entry at.frame at.same) j);
        tasks = l.tasks;
        made = rw (l.beside.made, l.beside.cells, l.beside.streams) s.made;
        started = rw (l.beside.actors, l.beside.frames) s.started;
        main = rw l.beside.main s.main;
        ports = λ k. rw l.beside.ports (s.ports k);
        requests = rw l.beside.requests s.requests;
      }

  -- an actor is marked
  abbrev with_mark : (actor : ℕ) → Entry → Proc Frame
  with_mark i e = on_core (λ c. record c { entries = put c.entries i (marked e) }) p

  kept_marked : (i : ℕ) (e : Entry) → thing p.core.entries i ≡ Some e → (j : ℕ) → (spots j ≡ spots j) × (kept_by (thing (put p.core.entries i (marked e)) j) ≡ kept_by (thing p.core.entries j))
  kept_marked i e at =
      each_number i (λ j. (spots j ≡ spots j) × (kept_by (thing (put p.core.entries i (marked e)) j) ≡ kept_by (thing p.core.entries j)))
      (refl, ap kept_by (thing_put p.core.entries i e (marked e) at) ∙ sym (ap kept_by at))
      (λ j n. (refl, ap kept_by (thing_put_other p.core.entries i j (marked e) n)))

  mark_shown : (i : ℕ) (s : Represents r h p) (at : At r h p i) → Represents r (leaving.marked i h) (with_mark i at.entry)
  mark_shown i s at =
      subst (λ o. Represents r (record h { actors = marked_in i o h.actors }) (with_mark i at.entry)) (sym at.noted) (record {
        cells = s.cells;
        actors = note_put r h.actors.things h.frames.things p.core.entries p.actors s.actors i at (record at.note { marked = true }) (marked at.entry)
            (marks r at.note at.memory at.entry at.frame at.same);
        tasks = tasks_same spots spots (λ j. kept_by (thing p.core.entries j)) (λ j. kept_by (thing (put p.core.entries i (marked at.entry)) j))
            (kept_marked i at.entry at.entered) h.tasks p.core.tasks s.tasks;
        made = s.made;
        started = s.started;
        main = s.main;
        ports = s.ports;
        requests = s.requests;
      })

module _ (r : RawTree) (h : HeapTree) (p : Proc Frame) where
  abbrev thrown : (actor : ℕ) → stack.Task
  thrown i = task.Throw (actor_id i) (record { 0 = operation_cancelled })

  -- the actor after it was marked
  abbrev marked_at : (i : ℕ) (at : At r h p i) → At r (memory.pushed (thrown i) (leaving.marked i h)) (on_core (pushed (Throw i operation_cancelled)) (with_mark r h p i at.entry)) i
  marked_at i at = record {
    note = record at.note { marked = true };
    memory = at.memory;
    entry = marked at.entry;
    frame = at.frame;
    noted = ap (λ o. stored.thing (marked_in i o h.actors).things i) at.noted ∙ stored_put h.actors.things i at.note (record at.note { marked = true }) at.noted;
    framed = at.framed;
    entered = thing_put p.core.entries i at.entry (marked at.entry) at.entered;
    acting = at.acting;
    same = marks r at.note at.memory at.entry at.frame at.same;
  }

  gone : (i : ℕ) → Represents r h p → (at : At r h p i) → MayLeave i at.entry.operands p.core
      → Represents r (withdrawn i (memory.pushed (thrown i) (leaving.marked i h)))
      (on_core (left_wait i (marked at.entry)) (on_core (pushed (Throw i operation_cancelled)) (with_mark r h p i at.entry)))
  gone i s at may =
      withdrawn_shown r (memory.pushed (thrown i) (leaving.marked i h)) (on_core (pushed (Throw i operation_cancelled)) (with_mark r h p i at.entry)) i
      (pushed_shown r (leaving.marked i h) (with_mark r h p i at.entry) (thrown i) (Throw i operation_cancelled) (mark_shown r h p i s at) refl)
      (marked_at i at)
      (record { keeps = may.keeps; kinds = may.kinds; many = may.many; waits = may.waits })

  pub cancelled_shown : change.Cancelled r h p
  cancelled_shown i s at may =
      subst (λ b. Represents r (cancelled_by b i (leaving.marked i h)) (on_core (cancel_by at.entry.suspended i at.entry) p))
      (sym (ap suspended_in at.framed ∙ suspended_as r at.note at.memory at.entry at.frame at.same)) (by_flag at.entry.suspended refl)
    where
      by_flag : (b : Bool) → at.entry.suspended ≡ b → Represents r (cancelled_by b i (leaving.marked i h)) (on_core (cancel_by b i at.entry) p)
      by_flag false e = mark_shown r h p i s at
      by_flag true e =
          subst (λ es. Represents r (withdrawn i (memory.pushed (thrown i) (leaving.marked i h)))
          (proc (record p.core { cells = left_cells i p.core.cells; entries = es; tasks = drops at.entry.operands (Throw i operation_cancelled ∷ p.core.tasks) }) p.actors))
          (put_twice p.core.entries i (marked at.entry) (running (marked at.entry))) (gone i s at (may e))
