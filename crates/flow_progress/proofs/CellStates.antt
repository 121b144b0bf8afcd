-- Cells of a process that fits: filled, taken from, and left by an actor.
use Rattle.std.proofs.Common.{◌≡◌, ℕ, nat_eq, Bool, true, false, List, [], ◌∷◌, ◌++◌, ◌⊎◌, inl, inr, if◌then◌else◌, refl, sym, ◌∙◌, subst}
use Rattle.std.specs.Option.{option_map}
use Rattle.std.specs.declared.option.Option.{Option}
use Rattle.std.specs.declared.option.Option.TheVariants.{None, Some}
use Rattle.flow_tree.specs.Tree.{TypeTree, FutureType, FutureStreamType}
use Rattle.flow_value.specs.Values.{ValueTree, OutcomeTree, GoodOutcome, BadOutcome}
use Rattle.flow_class.specs.Classes.{RawTree}
use Rattle.flow_numbered.specs.Numbered.{Numbered, thing, put}
use Rattle.flow_meaning.specs.Cells.{Waiter, Cell, Single, Stream, is_ready, waiters, filled, taken, after_taking, without, left_by}
use Rattle.flow_meaning.specs.Process.{Task, Entry, Core}
use Rattle.flow_meaning.specs.References.{refs_in}
use Rattle.flow_meaning.specs.Work.{running, drops, fill_cell, fill, leave_for, left_cells}
use Rattle.flow_meaning.specs.Orderly.{tasks_of, Rising}
use Rattle.flow_meaning.specs.Frame.{Frame}
use Rattle.flow_meaning.proofs.Posture.{each_number, thing_put_other, thing_put, drops_tasks, IsOf, own_task, other_task}
use Rattle.flow_meaning.proofs.Order.{rising_put, filled_waiters, taking_waiters}
use Rattle.flow_progress.specs.Asking.{HaveSome, OutcomeFits}
use Rattle.flow_progress.specs.Fitting.{CellTypes, typed_by, Fits, QueueFits, CellFits, CellAt, AllWaitFor, WaitersAt, ActorFits, ActorAt, ProcessFits}
use Rattle.flow_progress.proofs.States.{Fine, fine_same, FitsBut, put_back, own_fits, RefsExist, some_refs, drops_fit}
use Rattle.flow_progress.specs.Registering.{Among}
use Rattle.flow_progress.proofs.Registered.{awake_registered, entry_registered, cells_registered, put_keeps, left_keeps}

module _ (r : RawTree) (types : CellTypes) where
  -- a cell that has a type is there
  pub cell_there : (k : ℕ) (t : TypeTree) (o : Option Cell) → types k ≡ Some t → CellAt r types (types k) o → (cell : Cell) × (o ≡ Some cell) × CellFits r types cell t
  cell_there k t o e h = by_cell o (subst (λ x. CellAt r types x o) e h)
    where
      by_cell : (o : Option Cell) → CellAt r types (Some t) o → (cell : Cell) × (o ≡ Some cell) × CellFits r types cell t
      by_cell None h = absurd h
      by_cell (Some cell) h = (cell, refl, h)

  -- and a cell that is there has a type
  pub type_there : (k : ℕ) (cell : Cell) (o : Option TypeTree) → CellAt r types o (Some cell) → (t : TypeTree) × (o ≡ Some t) × CellFits r types cell t
  type_there k cell None h = absurd h
  type_there k cell (Some t) h = (t, refl, h)

  -- another cell of its type at the number of a cell
  pub put_cells : (c : Core) (k : ℕ) (t : TypeTree) (cell new : Cell) → thing c.cells k ≡ Some cell → types k ≡ Some t → CellFits r types new t → ((j : ℕ) → CellAt r types (types j) (thing c.cells j))
      → (j : ℕ) → CellAt r types (types j) (thing (put c.cells k new) j)
  put_cells c k t cell new at e f h =
      each_number k (λ j. CellAt r types (types j) (thing (put c.cells k new) j))
      (subst (λ o. CellAt r types (types k) o) (sym (thing_put c.cells k cell new at)) (subst (λ x. CellAt r types x (Some new)) (sym e) f))
      (λ j n. subst (CellAt r types (types j)) (sym (thing_put_other c.cells k j new n)) (h j))

  pub put_waiters : (c : Core) (xs : Numbered Frame) (k : ℕ) (cell new : Cell) → thing c.cells k ≡ Some cell → (WaitersAt r types xs (types k) (Some cell) → WaitersAt r types xs (types k) (Some new))
      → ((j : ℕ) → WaitersAt r types xs (types j) (thing c.cells j)) → (j : ℕ) → WaitersAt r types xs (types j) (thing (put c.cells k new) j)
  put_waiters c xs k cell new at f h =
      each_number k (λ j. WaitersAt r types xs (types j) (thing (put c.cells k new) j))
      (subst (WaitersAt r types xs (types k)) (sym (thing_put c.cells k cell new at)) (f (subst (WaitersAt r types xs (types k)) at (h k))))
      (λ j n. subst (WaitersAt r types xs (types j)) (sym (thing_put_other c.cells k j new n)) (h j))

  same_waiters : (xs : Numbered Frame) (o : Option TypeTree) (cell new : Cell) → waiters new ≡ waiters cell → WaitersAt r types xs o (Some cell) → WaitersAt r types xs o (Some new)
  same_waiters xs None cell new e h = tt
  same_waiters xs (Some t) cell new e h = subst (λ ws. AllWaitFor r types xs ws t) (sym e) h

  -- a send: the cell has what was sent
  queue_more : (vs : List ValueTree) (v : ValueTree) (u : TypeTree) → QueueFits r types vs u → Fits r types v u → QueueFits r types (vs ++ v ∷ []) u
  queue_more [] v u h k = (k, tt)
  queue_more (x ∷ vs) v u h k = (h.0, queue_more vs v u h.1 k)

  abbrev pub IsOfType : TypeTree → TypeTree → Type 0
  IsOfType t u = (t ≡ FutureType u) ⊎ (t ≡ FutureStreamType u)

  future_same : (t u v : TypeTree) → t ≡ FutureType v → IsOfType t u → v ≡ u
  future_same t u v e (inl f) = cc
  future_same t u v e (inr f) = absurd cc

  stream_same : (t u v : TypeTree) → t ≡ FutureStreamType v → IsOfType t u → v ≡ u
  stream_same t u v e (inl f) = absurd cc
  stream_same t u v e (inr f) = cc

  filled_fits : (cell : Cell) (t u : TypeTree) (o : OutcomeTree) → CellFits r types cell t → IsOfType t u → OutcomeFits r.records (typed_by types) o u → CellFits r types (filled cell o) t
  filled_fits (Single content ws) t u o h e f = (h.0, h.1, subst (OutcomeFits r.records (typed_by types) o) (sym (future_same t u h.0 h.1 e)) f)
  filled_fits (Stream q end w) t u (GoodOutcome v) h e f = (h.0, h.1, queue_more q v h.0 h.2 (subst (Fits r types v) (sym (stream_same t u h.0 h.1 e)) f))
  filled_fits (Stream q end w) t u (BadOutcome n) h e f = (h.0, h.1, h.2)

  filled_state : (k : ℕ) (o : OutcomeTree) (c : Core) (xs : Numbered Frame) (t u : TypeTree) (cell : Cell) → thing c.cells k ≡ Some cell → types k ≡ Some t → IsOfType t u
      → OutcomeFits r.records (typed_by types) o u → ProcessFits r types c xs
      → CellFits r types cell t → ProcessFits r types (fill_cell k o (Some cell) c) xs
  filled_state k o c xs t u cell at e i f p fits = record {
    cells = put_cells c k t cell (filled cell o) at e (filled_fits cell t u o fits i f) p.cells;
    waiting = put_waiters c xs k cell (filled cell o) at (same_waiters xs (types k) cell (filled cell o) (filled_waiters cell o)) p.waiting;
    actors = p.actors;
    work = ((t, e), p.work);
    ports = p.ports;
    main = p.main;
    requests = p.requests;
    numbered = rising_put c.cells 0 c.made k (filled cell o) p.numbered;
    framed = p.framed;
    registered = λ j. cells_registered j c.entries c.cells (put c.cells k (filled cell o)) (put_keeps j k c.cells cell (filled cell o) at (λ h. subst (Among j) (sym (filled_waiters cell o)) h))
        (p.registered j);
  }

  pub fill_fits : (k : ℕ) (o : OutcomeTree) (c : Core) (xs : Numbered Frame) (t u : TypeTree) → c.halted ≡ None → types k ≡ Some t → IsOfType t u → OutcomeFits r.records (typed_by types) o u
      → ProcessFits r types c xs
      → Fine r types (fill k o c).halted (fill k o c) xs
  fill_fits k o c xs t u go e i f p =
      let x = cell_there k t (thing c.cells k) e (p.cells k) in
      subst (λ y. Fine r types (fill_cell k o y c).halted (fill_cell k o y c) xs) (sym x.1)
      (fine_same r types c.halted (fill_cell k o (Some x.0) c) xs go (filled_state k o c xs t u x.0 x.1 e i f p x.2))

  -- what a branch takes from a cell that is ready
  pub taken_fits : (cell : Cell) (t u : TypeTree) → CellFits r types cell t → IsOfType t u → is_ready cell ≡ true
      → (o : OutcomeTree) × (taken cell ≡ Some o) × OutcomeFits r.records (typed_by types) o u
  taken_fits (Single None ws) t u h e g = absurd cc
  taken_fits (Single (Some o) ws) t u h e g = (o, refl, subst (OutcomeFits r.records (typed_by types) o) (future_same t u h.0 h.1 e) h.2)
  taken_fits (Stream [] None w) t u h e g = absurd cc
  taken_fits (Stream [] (Some n) w) t u h e g = (BadOutcome n, refl, tt)
  taken_fits (Stream (v ∷ vs) end w) t u h e g = (GoodOutcome v, refl, subst (Fits r types v) (stream_same t u h.0 h.1 e) h.2.0)

  after_fits : (cell : Cell) (t : TypeTree) → CellFits r types cell t → CellFits r types (after_taking cell) t
  after_fits (Single content ws) t h = h
  after_fits (Stream [] end w) t h = h
  after_fits (Stream (v ∷ vs) end w) t h = (h.0, h.1, h.2.1)

  pub taking_state : (k : ℕ) (cell : Cell) (t : TypeTree) (i : ℕ) (c : Core) (xs : Numbered Frame) → thing c.cells k ≡ Some cell → types k ≡ Some t → CellFits r types cell t → FitsBut r types i c xs
      → FitsBut r types i (record c { cells = put c.cells k (after_taking cell) }) xs
  taking_state k cell t i c xs at e fits p = record {
    cells = put_cells c k t cell (after_taking cell) at e (after_fits cell t fits) p.cells;
    waiting = put_waiters c xs k cell (after_taking cell) at (same_waiters xs (types k) cell (after_taking cell) (taking_waiters cell)) p.waiting;
    actors = p.actors;
    work = p.work;
    ports = p.ports;
    main = p.main;
    requests = p.requests;
    numbered = rising_put c.cells 0 c.made k (after_taking cell) p.numbered;
    framed = p.framed;
    registered = λ j n. cells_registered j c.entries c.cells (put c.cells k (after_taking cell))
        (put_keeps j k c.cells cell (after_taking cell) at (λ h. subst (Among j) (sym (taking_waiters cell)) h)) (p.registered j n);
  }

  -- an actor leaves all cells
  left_thing : (i : ℕ) (cells : Numbered Cell) (k : ℕ) → thing (left_cells i cells) k ≡ option_map (left_by i) (thing cells k)
  left_thing i [] k = refl
  left_thing i (x ∷ xs) k = by_test (nat_eq k x.0) (left_thing i xs k)
    where
      by_test : (b : Bool) → thing (left_cells i xs) k ≡ option_map (left_by i) (thing xs k)
          → (if b then Some (left_by i x.1) else thing (left_cells i xs) k) ≡ option_map (left_by i) (if b then Some x.1 else thing xs k)
      by_test true e = refl
      by_test false e = e

  left_fits : (i : ℕ) (cell : Cell) (t : TypeTree) → CellFits r types cell t → CellFits r types (left_by i cell) t
  left_fits i (Single content ws) t h = h
  left_fits i (Stream q end w) t h = h

  left_at : (i : ℕ) (o : Option TypeTree) (p : Option Cell) → CellAt r types o p → CellAt r types o (option_map (left_by i) p)
  left_at i None None h = h
  left_at i None (Some cell) h = absurd h
  left_at i (Some t) None h = absurd h
  left_at i (Some t) (Some cell) h = left_fits i cell t h

  without_waits : (i : ℕ) (xs : Numbered Frame) (ws : List Waiter) (t : TypeTree) → AllWaitFor r types xs ws t → AllWaitFor r types xs (without ws i) t
  without_waits i xs [] t h = tt
  without_waits i xs (w ∷ ws) t h = by_test (nat_eq w.actor i) (without_waits i xs ws t h.1)
    where
      by_test : (b : Bool) → AllWaitFor r types xs (without ws i) t → AllWaitFor r types xs (if b then without ws i else w ∷ without ws i) t
      by_test true k = k
      by_test false k = (h.0, k)

  left_waits : (i : ℕ) (xs : Numbered Frame) (cell : Cell) (t : TypeTree) → AllWaitFor r types xs (waiters cell) t → AllWaitFor r types xs (waiters (left_by i cell)) t
  left_waits i xs (Single content ws) t h = without_waits i xs ws t h
  left_waits i xs (Stream q end None) t h = h
  left_waits i xs (Stream q end (Some w)) t h = by_test (nat_eq w.actor i)
    where
      by_test : (b : Bool) → AllWaitFor r types xs (waiters (Stream q end (if b then None else Some w))) t
      by_test true = tt
      by_test false = h

  left_waiters : (i : ℕ) (xs : Numbered Frame) (o : Option TypeTree) (p : Option Cell) → WaitersAt r types xs o p → WaitersAt r types xs o (option_map (left_by i) p)
  left_waiters i xs None None h = tt
  left_waiters i xs None (Some cell) h = tt
  left_waiters i xs (Some t) None h = tt
  left_waiters i xs (Some t) (Some cell) h = left_waits i xs cell t h

  left_rising : (i : ℕ) (cells : Numbered Cell) (above n : ℕ) → Rising above n cells → Rising above n (left_cells i cells)
  left_rising i [] above n h = tt
  left_rising i (x ∷ xs) above n h = (h.0, h.1, left_rising i xs x.0 n h.2)

  -- and goes on by a task, its operands and these values dropped
  pub leave_state : (i : ℕ) (e e0 : Entry) (vs : List ValueTree) (t : Task) (c : Core) (xs : Numbered Frame) (f : Frame) → FitsBut r types i c xs → thing c.entries i ≡ Some e0 → thing xs i ≡ Some f
      → IsOf i t
      → RefsExist r types e.operands → HaveSome r.records (typed_by types) vs → ((ts : List Task) → ActorFits r types (running e) f (t ∷ ts)) → ProcessFits r types (leave_for i e vs t c) xs
  leave_state i e e0 vs t c xs f p at fr own ops some fits =
      let d = leave_for i e vs t c in
      let us = drops (refs_in vs) (t ∷ c.tasks) in
      let tasks : (j : ℕ) → tasks_of j d.tasks ≡ tasks_of j (t ∷ c.tasks) = λ j. drops_tasks j e.operands us ∙ drops_tasks j (refs_in vs) (t ∷ c.tasks) in
      put_back r types i d xs (record {
        cells = λ k. subst (CellAt r types (types k)) (sym (left_thing i c.cells k)) (left_at i (types k) (thing c.cells k) (p.cells k));
        waiting = λ k. subst (WaitersAt r types xs (types k)) (sym (left_thing i c.cells k)) (left_waiters i xs (types k) (thing c.cells k) (p.waiting k));
        actors = λ j n. subst (λ o. ActorAt r types o (thing xs j) (tasks_of j d.tasks)) (sym (thing_put_other c.entries i j (running e) n))
            (subst (ActorAt r types (thing c.entries j) (thing xs j)) (sym (tasks j ∙ other_task i j t c.tasks own n)) (p.actors j n));
        work = drops_fit r types e.operands us ops (drops_fit r types (refs_in vs) (t ∷ c.tasks) (some_refs r types vs some) (own_fits r types i t c.tasks own.own p.work));
        ports = p.ports;
        main = p.main;
        requests = p.requests;
        numbered = left_rising i c.cells 0 c.made p.numbered;
        framed = p.framed;
        registered = λ j n. entry_registered i j c.entries (left_cells i c.cells) (running e) n
            (cells_registered j c.entries c.cells (left_cells i c.cells) (left_keeps i j c.cells n) (p.registered j n));
      }) (subst (λ o. ActorAt r types o (thing xs i) (tasks_of i d.tasks)) (sym (thing_put c.entries i e0 (running e) at))
      (subst (λ o. ActorAt r types (Some (running e)) o (tasks_of i d.tasks)) (sym fr)
      (subst (ActorFits r types (running e) f) (sym (tasks i ∙ own_task i t c.tasks own)) (fits (tasks_of i c.tasks)))))
      (awake_registered i (put c.entries i (running e)) (left_cells i c.cells) (running e) (thing_put c.entries i e0 (running e) at) refl)
