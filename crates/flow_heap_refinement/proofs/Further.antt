-- An actor leaves its wait or is cancelled, and a reference is lost, with the references in hand.
use Rattle.std.proofs.Common.{◌≡◌, ℕ, zero, suc, Bool, true, false, List, [], ◌∷◌, length, if◌then◌else◌, refl, sym, ap, ◌∙◌, subst, arith}
use Rattle.std.specs.declared.option.Option.{Option}
use Rattle.std.specs.declared.option.Option.TheVariants.{None, Some}
use Rattle.flow_base.specs.ErrorNumbers.{operation_cancelled, broken_promise}
use Rattle.flow_value.specs.declared.value.Kind.{Kind}
use Rattle.flow_value.specs.declared.value.Value.{Value}
use Rattle.flow_value.specs.declared.value.Outcome.{Outcome}
use Rattle.flow_value.specs.declared.value.Outcome.TheVariants as outcome
use Rattle.flow_value.specs.Values.{BadOutcome}
use Rattle.flow_class.specs.Classes.{RawTree}
use Rattle.flow_trace.specs.declared.line.Line.{Line}
use Rattle.flow_numbered.specs.Numbered as stored
use Rattle.flow_cell.specs.declared.waiter.Waiter as memory
use Rattle.flow_cell.specs.Cells.{CellTree}
use Rattle.flow_cell.specs.Waiting.{has_waiter, without_newest}
use Rattle.flow_stream.specs.Streams.{StreamTree}
use Rattle.flow_frame.specs.declared.held.Held.{Held}
use Rattle.flow_frame.specs.Frames.{FrameTree}
use Rattle.flow_cancel.specs.declared.task.Dropped.TheVariants as after
use Rattle.flow_cancel.specs.Heap.{HeapTree, actor_id}
use Rattle.flow_cancel.specs.Heap as heap
use Rattle.flow_cancel.specs.Dropping.{Lost, dropped}
use Rattle.flow_cancel.specs.Leaving as leaving
use Rattle.flow_cancel.specs.Leaving.{leave_cell_at, leave_stream_at, leave_all, withdrawn_from, withdrawn, is_waiter, suspended, cancelled_by, cancelled, marked_in}
use Rattle.flow_numbered.specs.Numbered.{thing, put}
use Rattle.flow_meaning.specs.Cells.{Side, PromiseSide, FutureSide, side_of, Ref, Cell, is_complete}
use Rattle.flow_meaning.specs.Process.{Throw, Entry, Core, Proc}
use Rattle.flow_meaning.specs.Lines.{cancel_line, broken_line}
use Rattle.flow_meaning.specs.Work.{writes, turn_of, pushed, drops, fill, left_cells, running, marked, cancel_by, cancel, owner}
use Rattle.flow_meaning.specs.Dropping.{Loss, Kept, Freed, Broken, Orphan, Unheard, promises_gone, futures_gone, loss, port_of, suffer, lose_cell}
use Rattle.flow_meaning.specs.Step.{proc, on_core}
use Rattle.flow_meaning.specs.Frame.{Frame}
use Rattle.flow_meaning.proofs.Posture.{each_number, thing_put, thing_put_other}
use Rattle.flow_heap_refinement.specs.Representing.{Represents}
use Rattle.flow_heap_refinement.specs.Counted.{kept_count, references, frames_hold, nothing_in_hand, branches_at, waiting_by, waiting_of, Agree}
use Rattle.flow_heap_refinement.specs.Acting.{NoKeep, At}
use Rattle.flow_heap_refinement.specs.Leaving.{MayLeave, first_part}
use Rattle.flow_heap_refinement.specs.Losing.{RightCell, Same, LossMatches}
use Rattle.flow_heap_refinement.specs.Holds as law
use Rattle.flow_heap_refinement.specs.Holds.{Holds, with_refs, lost_further, filled_in, MayWait}
use Rattle.flow_heap_refinement.proofs.Actors.{by_entry}
use Rattle.flow_heap_refinement.proofs.Left.{put_twice, withdrawn_shown, cancelled_shown}
use Rattle.flow_heap_refinement.proofs.Keeping.{cell_keeps, stream_keeps}
use Rattle.flow_heap_refinement.proofs.Referring.{of_left, of_entry}
use Rattle.flow_heap_refinement.proofs.Tidy.{agree_by}
use Rattle.flow_heap_refinement.proofs.Loss.{loss_follows}
use Rattle.flow_heap_refinement.proofs.Holds.{as_many, filled_holds}

-- a waiter that leaves changes no count
module _ (s : Side) (j : ℕ) where
  kept_at : (k : ℕ) (w : memory.Waiter) (h : HeapTree) (o : Option (CellTree Outcome)) → stored.thing h.cells.things k ≡ o → kept_count s j (leave_cell_at k w o h) ≡ kept_count s j h
  kept_at k w h (Some m) e = by_test (has_waiter m.waiters w)
    where
      by_test : (t : Bool) → kept_count s j (record h { cells = if t then stored.with_thing h.cells k (record m { waiters = without_newest m.waiters w }) else h.cells }) ≡ kept_count s j h
      by_test true = cell_keeps h s j k m (record m { waiters = without_newest m.waiters w }) e refl
      by_test false = refl
  kept_at k w h None e = by_stream (stored.thing h.streams.things k) refl
    where
      by_stream : (y : Option (StreamTree Value)) → stored.thing h.streams.things k ≡ y → kept_count s j (record h { streams = leave_stream_at k w y h.streams }) ≡ kept_count s j h
      by_stream None f = refl
      by_stream (Some m) f = by_test (is_waiter w m.waiter)
        where
          by_test : (t : Bool) → kept_count s j (record h { streams = if t then stored.with_thing h.streams k (record m { waiter = None }) else h.streams }) ≡ kept_count s j h
          by_test true = stream_keeps h s j k m (record m { waiter = None }) f refl
          by_test false = refl

  kept_all : (i : ℕ) (hs : List Held) (h : HeapTree) → kept_count s j (leave_all i hs h) ≡ kept_count s j h
  kept_all i [] h = refl
  kept_all i (x ∷ xs) h =
      kept_at x.cell.0 (leaving.waiter_of i x) (leave_all i xs h) (stored.thing (leave_all i xs h).cells.things x.cell.0) refl ∙ kept_all i xs h

  pub kept_withdrawn : (i : ℕ) (h : HeapTree) → kept_count s j (withdrawn i h) ≡ kept_count s j h
  kept_withdrawn i h = by_frame (stored.thing h.frames.things i)
    where
      by_frame : (o : Option (FrameTree Value)) → kept_count s j (withdrawn_from i o h) ≡ kept_count s j h
      by_frame None = refl
      by_frame (Some f) = kept_all i f.callbacks (leaving.without_callbacks i f h)

  pub kept_cancelled : (i : ℕ) (h : HeapTree) → kept_count s j (cancelled i h) ≡ kept_count s j h
  kept_cancelled i h = by_flag (suspended i h)
    where
      by_flag : (b : Bool) → kept_count s j (cancelled_by b i (leaving.marked i h)) ≡ kept_count s j h
      by_flag true = kept_withdrawn i (heap.pushed _ (leaving.marked i h))
      by_flag false = refl

-- all operands are the first so many
all_of : (rs : List Ref) → first_part (length rs) rs ≡ rs
all_of [] = refl
all_of (r ∷ rs) = ap (λ xs. r ∷ xs) (all_of rs)

pub may_leave : (i : ℕ) (e : Entry) (c : Core) → MayWait c → thing c.entries i ≡ Some e → NoKeep i c.tasks → MayLeave i e.operands c
may_leave i e c w at n = by_flag e.suspended refl
  where
    by_flag : (b : Bool) → e.suspended ≡ b → MayLeave i e.operands c
    by_flag true f = record {
      keeps = n;
      kinds = w.kinds i e at;
      many = length e.operands;
      waits = λ k. w.agree i k ∙ ap (λ o. branches_at k 0 (waiting_of o)) at ∙ ap (λ b. branches_at k 0 (waiting_by b e.operands)) f ∙ ap (branches_at k 0) (sym (all_of e.operands));
    }
    by_flag false f = record {
      keeps = n;
      kinds = w.kinds i e at;
      many = 0;
      waits = λ k. w.agree i k ∙ ap (λ o. branches_at k 0 (waiting_of o)) at ∙ ap (λ b. branches_at k 0 (waiting_by b e.operands)) f;
    }

module _ (r : RawTree) (h : HeapTree) (p : Proc Frame) where
  pub wait_left : law.WaitLeft r h p
  wait_left x i hs w at n = record {
    shows = withdrawn_shown r h p i hs.shows at (may_leave i at.entry p.core w at.entered n);
    counted = λ s j.
        let a = kept_withdrawn s j i h in
        let b = of_left p s j i at.entry at.entered w.agree (w.kinds i at.entry at.entered) w.cells in
        let c = hs.counted s j in omega (arith, a, b, c);
  }

  -- lines and turns are seen in the process alone
  pub aside : (ls : List Line) (n : ℕ) → Represents r h p → Represents r h (on_core (λ c. record c { lines = ls; left = n }) p)
  aside ls n s = record { cells = s.cells; actors = s.actors; tasks = s.tasks; made = s.made; started = s.started; main = s.main; ports = s.ports; requests = s.requests }

-- a cancelled actor's references
cancel_references : (p : Proc Frame) (s : Side) (j i : ℕ) (e : Entry) → thing p.core.entries i ≡ Some e → MayWait p.core → references s j (on_core (cancel i e) p) ≡ references s j p
cancel_references p s j i e at w = by_flag e.suspended
  where
    q : Proc Frame
    q = on_core (λ c. record c { entries = put c.entries i (marked e) }) p

    marked_agree : Agree q.core
    marked_agree =
        agree_by p.core q.core (λ k. refl)
        (each_number i (λ j. waiting_of (thing (put p.core.entries i (marked e)) j) ≡ waiting_of (thing p.core.entries j))
        (ap waiting_of (thing_put p.core.entries i e (marked e) at) ∙ sym (ap waiting_of at))
        (λ j n. ap waiting_of (thing_put_other p.core.entries i j (marked e) n))) w.agree

    by_flag : (b : Bool) → references s j (on_core (λ c. cancel_by b i e (writes (cancel_line i) c)) p) ≡ references s j p
    by_flag false = let a = of_entry p s j i e (marked e) at in omega (arith, a)
    by_flag true =
        let a = of_entry p s j i e (marked e) at in
        let t = on_core (pushed (Throw i operation_cancelled)) q in
        let b = of_left t s j i (marked e) (thing_put p.core.entries i e (marked e) at) marked_agree (w.kinds i e at) w.cells in
        let c = ap (λ es. references s j (proc (record p.core { cells = left_cells i p.core.cells; entries = es; tasks = drops e.operands (Throw i operation_cancelled ∷ p.core.tasks) }) p.actors))
        (put_twice p.core.entries i (marked e) (running (marked e))) in
        omega (arith, a, b, c)

module _ (r : RawTree) (h : HeapTree) (p : Proc Frame) where
  pub actor_cancelled : law.ActorCancelled r h p
  actor_cancelled x i hs w at = record {
    shows = cancelled_shown r h (on_core (writes (cancel_line i)) p) i (aside r h p (writes (cancel_line i) p.core).lines p.core.left hs.shows) (same_actor at)
        (λ f. with_line (may_leave i at.entry p.core w at.entered (w.idle i at.entry at.entered f)));
    counted = λ s j. let a = kept_cancelled s j i h in let b = cancel_references p s j i at.entry at.entered w in let c = hs.counted s j in omega (arith, a, b, c);
  }
    where
      same_actor : (at : At r h p i) → At r h (on_core (writes (cancel_line i)) p) i
      same_actor at = at

      with_line : MayLeave i at.entry.operands p.core → MayLeave i at.entry.operands (writes (cancel_line i) p.core)
      with_line m = record { keeps = m.keeps; kinds = m.kinds; many = m.many; waits = m.waits }

-- a cell that is broken isn't complete
broken_open : (s : Side) (a b : ℕ) (c : Cell) (o : Option (ℕ × Entry)) (q : Option ℕ) → loss s a b c o q ≡ Broken → is_complete c ≡ false
broken_open PromiseSide zero zero c o q e = absurd (cc)
broken_open FutureSide zero zero c o q e = absurd (cc)
broken_open PromiseSide zero (suc b) c o q e = by_complete (is_complete c) e
  where
    by_complete : (t : Bool) → promises_gone t ≡ Broken → t ≡ false
    by_complete true f = absurd (cc)
    by_complete false f = refl
broken_open FutureSide zero (suc b) c o q e = absurd (cc)
broken_open PromiseSide (suc a) zero c o q e = absurd (cc)
broken_open PromiseSide (suc a) (suc b) c o q e = absurd (cc)
broken_open FutureSide (suc a) (suc b) c o q e = absurd (cc)
broken_open FutureSide (suc a) zero c o q e = by_owner o q e
  where
    by_owner : (o : Option (ℕ × Entry)) (q : Option ℕ) → futures_gone o q ≡ Broken → is_complete c ≡ false
    by_owner (Some x) q f = absurd (cc)
    by_owner None (Some port) f = absurd (cc)
    by_owner None None f = absurd (cc)

module _ (r : RawTree) (h : HeapTree) (p : Proc Frame) where
  abbrev same_of : (g : HeapTree) (q : Proc Frame) → Holds r nothing_in_hand g q → Same r g q
  same_of g q hs = (hs.shows, hs.counted)

  broken_done : (g : HeapTree) (kd : Kind) (k n : ℕ) (c : Cell) → Same r g p → thing p.core.cells k ≡ Some c → RightCell kd c → is_complete c ≡ false → p.core.left ≡ suc n
      → Same r (filled_in kd k (outcome.Error (record { 0 = broken_promise })) g) (on_core (suffer k Broken) p)
  broken_done g kd k n c s at t open_ left =
      subst (λ m. Same r (filled_in kd k (outcome.Error (record { 0 = broken_promise })) g) (on_core (λ d. turn_of m d (λ d. fill k (BadOutcome broken_promise) (writes (broken_line k) d))) p))
      (sym left)
      (same_of (filled_in kd k (outcome.Error (record { 0 = broken_promise })) g) (on_core (fill k (BadOutcome broken_promise)) q)
      (filled_holds r g q nothing_in_hand kd k c (outcome.Error (record { 0 = broken_promise }))
      (as_many r g q nothing_in_hand (with_refs [] nothing_in_hand) (λ s j. omega arith) (record { shows = aside r g p (writes (broken_line k) p.core).lines n s.0; counted = s.1 })) at t open_))
    where
      q : Proc Frame
      q = on_core (λ c. writes (broken_line k) (record c { left = n })) p

  cancel_done : (g : HeapTree) (i : ℕ) (e : Entry) → Same r g p → MayWait p.core → thing p.core.entries i ≡ Some e → Same r (cancelled i g) (on_core (cancel i e) p)
  cancel_done g i e s w at =
      let b = by_entry r (stored.thing g.actors.things i) (stored.thing g.frames.things i) (thing p.core.entries i) (thing p.actors i) e at (s.0.actors i) in
      let same : b.entry ≡ e = let x = b.entered in cc (x, at) in
      subst (λ y. Same r (cancelled i g) (on_core (cancel i y) p)) same
      (same_of (cancelled i g) (on_core (cancel i b.entry) p) (actor_cancelled r g p nothing_in_hand i (record { shows = s.0; counted = s.1 }) w b))

  done : (kd : Kind) (k n : ℕ) (c : Cell) (x : Lost) (y : Loss) → LossMatches r p k x y → MayWait p.core → thing p.core.cells k ≡ Some c → RightCell kd c → (y ≡ Broken → is_complete c ≡ false)
      → p.core.left ≡ suc n
      → Same r (lost_further kd k x) (on_core (suffer k y) p)
  done kd k n c (g, after.Nothing) Kept f w at t open_ left = f
  done kd k n c (g, after.Nothing) Freed f w at t open_ left = absurd f
  done kd k n c (g, after.Nothing) Broken f w at t open_ left = absurd f
  done kd k n c (g, after.Nothing) (Orphan i e) f w at t open_ left = absurd f
  done kd k n c (g, after.Nothing) (Unheard q) f w at t open_ left = absurd f
  done kd k n c (g, after.Freed) Kept f w at t open_ left = absurd f
  done kd k n c (g, after.Freed) Freed f w at t open_ left = f
  done kd k n c (g, after.Freed) Broken f w at t open_ left = absurd f
  done kd k n c (g, after.Freed) (Orphan i e) f w at t open_ left = absurd f
  done kd k n c (g, after.Freed) (Unheard q) f w at t open_ left = absurd f
  done kd k n c (g, after.Broken) Kept f w at t open_ left = absurd f
  done kd k n c (g, after.Broken) Freed f w at t open_ left = absurd f
  done kd k n c (g, after.Broken) Broken f w at t open_ left = broken_done g kd k n c f at t (open_ refl) left
  done kd k n c (g, after.Broken) (Orphan i e) f w at t open_ left = absurd f
  done kd k n c (g, after.Broken) (Unheard q) f w at t open_ left = absurd f
  done kd k n c (g, after.Cancel a) Kept f w at t open_ left = absurd f
  done kd k n c (g, after.Cancel a) Freed f w at t open_ left = absurd f
  done kd k n c (g, after.Cancel a) Broken f w at t open_ left = absurd f
  done kd k n c (g, after.Cancel a) (Orphan i e) f w at t open_ left = subst (λ b. Same r (cancelled b.0 g) (on_core (cancel i e) p)) (sym f.0) (cancel_done g i e f.2 w f.1)
  done kd k n c (g, after.Cancel a) (Unheard q) f w at t open_ left = absurd f
  done kd k n c (g, after.PortFreed) Kept f w at t open_ left = absurd f
  done kd k n c (g, after.PortFreed) Freed f w at t open_ left = absurd f
  done kd k n c (g, after.PortFreed) Broken f w at t open_ left = absurd f
  done kd k n c (g, after.PortFreed) (Orphan i e) f w at t open_ left = absurd f
  done kd k n c (g, after.PortFreed) (Unheard q) f w at t open_ left = f

  pub loss_done : law.LossDone r h p
  loss_done kd k n c l w left =
      let y = loss (side_of kd) (references PromiseSide k p) (references FutureSide k p) c (owner k p.core.entries) (port_of k p.core.ports) in
      subst (λ o. Same r (lost_further kd k (dropped kd k h)) (on_core (lose_cell (frames_hold p.actors) (side_of kd) k o) p)) (sym l.cell)
      (done kd k n c (dropped kd k h) y (loss_follows r h p kd k c l) w l.cell l.right
      (broken_open (side_of kd) (references PromiseSide k p) (references FutureSide k p) c (owner k p.core.entries) (port_of k p.core.ports)) left)
