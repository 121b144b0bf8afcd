-- An actor that has kept all its operands waits in memory as it does by the definitions.
use Rattle.std.proofs.Common.{◌≡◌, ℕ, suc, ◌+◌, Bool, true, false, List, [], ◌∷◌, length, if◌then◌else◌, refl, sym, ap, ◌∙◌, subst, arith}
use Rattle.std.proofs.lemmas.Bool.{false≢true}
use Rattle.std.specs.declared.option.Option.{Option}
use Rattle.std.specs.declared.option.Option.TheVariants.{None, Some}
use Rattle.flow_base.specs.ErrorNumbers.{second_waiter}
use Rattle.flow_base.specs.declared.ids.ActorId.{ActorId}
use Rattle.flow_value.specs.declared.value.Value.{Value}
use Rattle.flow_class.specs.Classes.{RawTree}
use Rattle.flow_code.specs.View.{group_numbered}
use Rattle.flow_trace.specs.declared.line.Line.{Line}
use Rattle.flow_trace.specs.declared.line.Line.TheVariants as line
use Rattle.flow_numbered.specs.Numbered as stored
use Rattle.flow_frame.specs.declared.held.Held.{Held}
use Rattle.flow_frame.specs.Frames.{FrameTree, in_state}
use Rattle.flow_cancel.specs.declared.task.Task.TheVariants as task
use Rattle.flow_cancel.specs.Heap.{HeapTree, cell_id}
use Rattle.flow_numbered.specs.Numbered.{Numbered, thing, put}
use Rattle.flow_meaning.specs.Cells.{Side, Ref, Cell}
use Rattle.flow_meaning.specs.Process.{Task, Throw, Entry, Proc}
use Rattle.flow_meaning.specs.References.{Scan, refs_in, value_in}
use Rattle.flow_meaning.specs.Lines.{wait_line}
use Rattle.flow_meaning.specs.Work as work
use Rattle.flow_meaning.specs.Work.{writes, running, leave_for, take_branch, is_ready_at, Registered, Refused, register, dropping_values}
use Rattle.flow_meaning.specs.React.{at_spot, suspend, wait_by, wait}
use Rattle.flow_meaning.specs.Step.{proc, on_core}
use Rattle.flow_meaning.specs.Frame.{Frame, lose}
use Rattle.flow_meaning.specs.Views.{spot_at}
use Rattle.flow_meaning.proofs.Posture.{each_number, thing_put, thing_put_other}
use Rattle.flow_heap_refinement.specs.Representing.{Represents, LiveFrameRepresents, OneActor, stands, Position, here, at_wait, spot_of_actor, spot_by, wait_spot, held_from}
use Rattle.flow_heap_refinement.specs.Counted.{references, waiting_of}
use Rattle.flow_heap_refinement.specs.Changes.{SameTask}
use Rattle.flow_heap_refinement.specs.Acting.{frame_put, put_actor}
use Rattle.flow_heap_refinement.specs.References.{entry_holds, frame_holds}
use Rattle.flow_heap_refinement.proofs.Tidy.{agree_by}
use Rattle.flow_heap_refinement.proofs.Acted.{actor_kept}
use Rattle.flow_heap_refinement.proofs.Finds.{stored_put}
use Rattle.flow_heap_refinement.proofs.Referring.{of_entry, of_frame}
use Rattle.flow_heap_refinement.proofs.Standing.{suspends}
use Rattle.flow_numbered.proofs.Things.{put_same}
use Rattle.flow_steps.specs.declared.frames.ControlPoint.{ControlPoint}
use Rattle.flow_steps.specs.declared.process.Process.{Process}
use Rattle.flow_steps.specs.Doing.{telling}
use Rattle.flow_steps.specs.Holding.{on_heap, with_heap}
use Rattle.flow_steps.specs.Points.{reframed, lost_from}
use Rattle.flow_steps.specs.Waiting as waiting
use Rattle.flow_steps.specs.Waiting.{ready_at, left_for, callbacks_in, callbacks_of, suspended_at, TakesBranch, Waits, waits_ready, waits_refused, waits_suspended}
use Rattle.flow_operation_refinement.specs.Matching.{ProcessRepresents, Matches, shows, with_task}
use Rattle.flow_operation_refinement.specs.Placing.{Acts, RepresentsActor}
use Rattle.flow_operation_refinement.specs.Taking.{PointMatches, AtWait, MayGo}
use Rattle.flow_operation_refinement.specs.Waiting.{MayAwait}
use Rattle.flow_operation_refinement.specs.Waiting as law
use Rattle.flow_operation_refinement.proofs.Working.{telling_shown}
use Rattle.flow_operation_refinement.proofs.Brought.{all_there_by}
use Rattle.flow_operation_refinement.proofs.Places.{at_of, as_many_stood}
use Rattle.flow_operation_refinement.proofs.Lost.{put_over}
use Rattle.flow_operation_refinement.proofs.Emptied.{locals_lost}
use Rattle.flow_operation_refinement.proofs.Parting.{acts_by}
use Rattle.flow_operation_refinement.proofs.Takings.{branch_follows}
use Rattle.flow_operation_refinement.proofs.Kept.{ready_same, kept_awake}
use Rattle.flow_operation_refinement.proofs.Commuting.{suspended_first}
use Rattle.flow_operation_refinement.proofs.Turned.{left_refused}
use Rattle.flow_operation_refinement.proofs.Registering.{with_cells, Waited, AllWait, all_wait, one_refused, all_waits, none_waited}

-- an actor with another entry and frame, at the same wait and with as many operands
module _ (r : RawTree) (h : HeapTree) (p : Proc Frame) (i : ℕ) (e g : Entry) (f k : Frame) (n : FrameTree Value) (shown : Represents r h p) (a : Acts r h p i e f) (now : LiveFrameRepresents r n g k)
    (class : n.class ≡ a.memory.class) (same_class : g.class ≡ e.class) (result : g.result ≡ e.result) (marked : g.marked ≡ e.marked) where
  restated_one : OneActor r a.note n g k
  restated_one = record { class = same_class ∙ a.class ∙ sym class; result = result ∙ a.result; marked = marked ∙ a.marked; frame = stands now }

  pub restated_shows : wait_spot k ≡ wait_spot f → length g.operands ≡ length e.operands → Represents r (frame_put i n h) (put_actor i g k p)
  restated_shows spot many =
      subst (λ ns. Represents r (record h { actors = record h.actors { things = ns }; frames = stored.with_thing h.frames i n }) (put_actor i g k p)) (put_same h.actors.things i a.note a.noted)
      (actor_kept r h p i a.note n g k shown (at_of r h p i e f a) restated_one spot many)

  pub restated_acts : Acts r (frame_put i n h) (put_actor i g k p) i g k
  restated_acts = record {
    note = a.note;
    memory = n;
    noted = a.noted;
    framed = stored_put h.frames.things i a.memory n a.framed;
    entered = thing_put p.core.entries i e g a.entered;
    acting = thing_put p.actors i f k a.acting;
    class = restated_one.class;
    result = restated_one.result;
    marked = restated_one.marked;
    stands = now;
  }

  pub restated_refs : (s : Side) (j : ℕ) → references s j (put_actor i g k p) + entry_holds s j e + frame_holds s j f ≡ references s j p + entry_holds s j g + frame_holds s j k
  restated_refs s j =
      let b = of_entry p s j i e g a.entered in
      let c = of_frame (on_core (λ d. record d { entries = put d.entries i g }) p) s j i f k a.acting in omega (arith, b, c)

-- the first operand that is ready
abbrev FirstSame : (first : ℕ) → (cells : Numbered Cell) → Option Held → Option (ℕ × ℕ) → Type 0
FirstSame n cs None None = Unit {0}
FirstSame n cs (Some x) (Some y) = (x.callback ≡ n + y.0) × (x.cell ≡ cell_id y.1) × (is_ready_at (thing cs y.1) ≡ true)
FirstSame n cs None (Some y) = ⊥
FirstSame n cs (Some x) None = ⊥

first_same : (r : RawTree) (h : HeapTree) (p : Proc Frame) (first : ℕ) → Represents r h p → (rs : List Ref) (b : ℕ)
    → FirstSame first p.core.cells (waiting.first_ready h (held_from (first + b) rs)) (work.first_ready p.core.cells b rs)
first_same r h p first s [] b = tt
first_same r h p first s (q ∷ rs) b = by_test (ready_at q.1 h) (is_ready_at (thing p.core.cells q.1)) (ready_same r h p s q.1) refl (first_same r h p first s rs (suc b))
  where
    by_test : (t u : Bool) → t ≡ u → is_ready_at (thing p.core.cells q.1) ≡ u
        → FirstSame first p.core.cells (waiting.first_ready h (held_from (first + suc b) rs)) (work.first_ready p.core.cells (suc b) rs)
        → FirstSame first p.core.cells (if t then Some (record { callback = first + b; cell = cell_id q.1 }) else waiting.first_ready h (held_from (suc (first + b)) rs))
        (if u then Some (b, q.1) else work.first_ready p.core.cells (suc b) rs)
    by_test true true e ready rest = (refl, refl, ready)
    by_test false false e ready rest =
        let n : first + suc b ≡ suc (first + b) = omega arith in
        subst (λ k. FirstSame first p.core.cells (waiting.first_ready h (held_from k rs)) (work.first_ready p.core.cells (suc b) rs)) n rest
    by_test true false e ready rest = absurd (cc)
    by_test false true e ready rest = absurd (cc)

module _ (r : RawTree) (ls : List Line) (m : Process) (p : Proc Frame) (x : Scan) (s : ControlPoint) (i group : ℕ) (e : Entry) (f : Frame) (st : RepresentsActor r ls x m p i e f)
    (none : m.asked ≡ None) (may : MayAwait s p i group e f) where
  abbrev spotted : Entry
  spotted = at_spot (wait_spot f) e

  abbrev waiting_frame : Frame
  waiting_frame = record f { state = suc group }

  abbrev first : ℕ
  first = (wait_spot f).first

  spot_group : (wait_spot f).group ≡ suc group
  spot_group = ap (λ y. (spot_by f.code y).group) may.wait.fetched

  spots_first : (spot_of_actor p.actors i).first ≡ first
  spots_first = ap (λ (o : Option Frame). (spot_at wait_spot o).first) st.acts.acting

  -- the operands in memory
  callbacks_are : callbacks_of i m.heap ≡ held_from (first + 0) e.operands
  callbacks_are = ap callbacks_in st.acts.framed ∙ st.acts.stands.callbacks ∙ ap (λ n. held_from n e.operands) (let a : first ≡ first + 0 = omega arith in a)

  -- it stands as before, in the state and with the spot of the wait
  position : Position st.acts.memory f → Position st.acts.memory waiting_frame
  position (here a b c) = here a b c
  position (at_wait g a b) = at_wait g a b

  stands_there : LiveFrameRepresents r st.acts.memory spotted waiting_frame
  stands_there =
      let a = st.acts.stands in record {
        code = a.code;
        places = a.places;
        slots = a.slots;
        position = position a.position;
        callbacks = a.callbacks;
        suspended = a.suspended;
        spot = λ y. refl;
      }

  there : RepresentsActor r ls x m (put_actor i spotted waiting_frame p) i spotted waiting_frame
  there =
      let same : frame_put i st.acts.memory m.heap ≡ m.heap = ap (λ ms. record m.heap { frames = record m.heap.frames { things = ms } }) (put_same m.heap.frames.things i st.acts.memory st.acts.framed)
      in record {
        shown = record {
          holds = record {
            shows = subst (λ h. Represents r h (put_actor i spotted waiting_frame p)) same
                (restated_shows r m.heap p i e spotted f waiting_frame st.acts.memory st.shown.holds.shows st.acts stands_there refl refl refl refl refl refl);
            counted = λ z j.
                let a = restated_refs r m.heap p i e spotted f waiting_frame st.acts.memory st.shown.holds.shows st.acts stands_there refl refl refl refl z j in
                let b = st.shown.holds.counted z j in omega (arith, a, b);
          };
          left = st.shown.left;
          lines = st.shown.lines;
          unspent = st.shown.unspent;
          goes = st.shown.goes;
        };
        acts = subst (λ h. Acts r h (put_actor i spotted waiting_frame p) i spotted waiting_frame) same
            (restated_acts r m.heap p i e spotted f waiting_frame st.acts.memory st.shown.holds.shows st.acts stands_there refl refl refl refl);
      }

  abbrev out_of : Option (ℕ × ℕ) → Proc Frame
  out_of o = proc (wait_by i (wait_spot f) spotted (lose f).0 o p.core) (put p.actors i (record (lose f).1 { state = suc group }))

  standing_there : PointMatches s i waiting_frame
  standing_there = record { actor = may.standing.actor; slots = may.standing.slots; place = may.standing.place }

  wait_there : AtWait s waiting_frame (suc group)
  wait_there = record { last = may.wait.last; fetched = may.wait.fetched; end = may.wait.end; first = may.wait.first }

  go_there : MayGo i spotted (put_actor i spotted waiting_frame p).core
  go_there = record {
    agree = agree_by p.core (put_actor i spotted waiting_frame p).core (λ k. refl)
        (each_number i (λ j. waiting_of (thing (put p.core.entries i spotted) j) ≡ waiting_of (thing p.core.entries j))
        (ap waiting_of (thing_put p.core.entries i e spotted st.acts.entered) ∙ sym (ap waiting_of st.acts.entered))
        (λ j d. ap waiting_of (thing_put_other p.core.entries i j spotted d))) may.go.agree;
    cells = may.go.cells;
    kinds = may.go.kinds;
    keeps = may.go.keeps;
  }

  -- the first that is ready is taken
  first_taken : (n : Process) (y : Held) (b : ℕ) (z : ℕ × ℕ) → FirstSame first p.core.cells (Some y) (Some z) → waiting.BranchOf s y.callback b → TakesBranch s b y.cell m n
      → Matches r ls x n (out_of (Some z))
  first_taken n y b z same at takes = by_cell (thing p.core.cells z.1) refl
    where
      number : at.number ≡ suc group
      number = let a = at.waits in let d = may.wait.last in cc (a, d)

      branch : b ≡ z.0
      branch =
          let c = may.wait.first at.group (subst (λ g. group_numbered g s.class.now.groups.items ≡ Some at.group) number at.of_number) in
          let d = at.counted in
          let u = same.0 in omega (arith, c, d, u)

      taken : TakesBranch s z.0 (record { 0 = z.1 }) m n
      taken = subst (λ k. TakesBranch s z.0 k m n) same.1 (subst (λ c. TakesBranch s c y.cell m n) branch takes)

      by_cell : (o : Option Cell) → thing p.core.cells z.1 ≡ o → Matches r ls x n (out_of (Some z))
      by_cell None h = let a = same.2 in let u : false ≡ true = sym (ap is_ready_at h) ∙ a in absurd (cc (u))
      by_cell (Some c) h =
          let out = branch_follows r ls m (put_actor i spotted waiting_frame p) i spotted waiting_frame x s (suc group) z.0 z.1 c n p.core.entries there
          (sym (put_over p.core.entries i spotted (running spotted))) none standing_there wait_there spot_group go_there
          (record { at = h; there = λ o k. all_there_by p (put_actor i spotted waiting_frame p) (refs_in (value_in o)) refl (may.contents z.1 c o h k) }) taken in
          subst (λ o. Matches r ls x n (proc (take_branch i z.0 z.1 spotted (lose f).0 o p.core) (put p.actors i (record (lose f).1 { state = suc group })))) (sym h)
          (subst (λ xs. Matches r ls x n (proc (take_branch i z.0 z.1 spotted (lose f).0 (Some c) p.core) xs)) (put_over p.actors i waiting_frame (record (lose f).1 { state = suc group })) out)

  -- or all wait
  module _ (k : HeapTree) (es : Numbered Cell) (w : Waited r m.heap p k es e.operands) where
    abbrev said : Line
    said = wait_line i (suc group)

    abbrev told_proc : Proc Frame
    told_proc = with_cells es (on_core (writes said) p)

    abbrev asleep : Entry
    asleep = record spotted { suspended = true }

    told_shows : Represents r k told_proc
    told_shows = let a = w.shows in
        record { cells = a.cells; actors = a.actors; tasks = a.tasks; made = a.made; started = a.started; main = a.main; ports = a.ports; requests = a.requests }

    told_acts : Acts r k told_proc i e f
    told_acts = acts_by r m.heap k p told_proc i e f w.frames w.actors refl refl st.acts

    stands_asleep : LiveFrameRepresents r (in_state (suc group) told_acts.memory) asleep waiting_frame
    stands_asleep = suspends r told_acts.memory e f group may.first may.others told_acts.stands spot_group may.operands

    asleep_proc : Proc Frame
    asleep_proc = put_actor i asleep waiting_frame told_proc

    fallen : RepresentsActor r ls x (telling said (with_heap (suspended_at i (suc group) k) m)) (put_actor i asleep waiting_frame told_proc) i asleep waiting_frame
    fallen =
        let n = in_state (suc group) told_acts.memory in
        let sh = restated_shows r k told_proc i e asleep f waiting_frame n told_shows told_acts stands_asleep refl refl refl refl refl refl in
        let line_told = telling_shown r ls x said m p st.shown none in
        subst (λ o. RepresentsActor r ls x (telling said (with_heap (reframed (in_state (suc group)) i o k) m)) (put_actor i asleep waiting_frame told_proc) i asleep waiting_frame)
        (sym told_acts.framed) (record {
          shown = record {
            holds = record {
              shows = sh;
              counted = λ z j.
                  let a = restated_refs r k told_proc i e asleep f waiting_frame n told_shows told_acts stands_asleep refl refl refl refl z j in
                  let b = st.shown.holds.counted z j in
                  let c = w.counts z j in
                  let d = w.refs z j in
                  let g = kept_awake z j e.suspended e.operands may.awake in omega (arith, a, b, c, d, g);
            };
            left = line_told.left;
            lines = line_told.lines;
            unspent = line_told.unspent;
            goes = line_told.goes;
          };
          acts = restated_acts r k told_proc i e asleep f waiting_frame n told_shows told_acts stands_asleep refl refl refl refl;
        })

    all_asleep : register i 0 e.operands (Registered p.core.cells) ≡ Registered es
        → ProcessRepresents r ls x (telling said (on_heap (λ g. suspended_at i (suc group) (lost_from i (length f.code.slots) g)) (with_heap k m))) (out_of None)
    all_asleep reg =
        let lost = locals_lost r ls (telling said (with_heap (suspended_at i (suc group) k) m)) (put_actor i asleep waiting_frame told_proc) i asleep waiting_frame x fallen in
        let ended : Frame = record (lose f).1 { state = suc group } in
        subst (λ q. ProcessRepresents r ls x (telling said (on_heap (λ g. suspended_at i (suc group) (lost_from i (length f.code.slots) g)) (with_heap k m)))
        (proc (suspend i (wait_spot f) spotted (lose f).0 q p.core) (put p.actors i ended))) (sym reg)
        (subst (λ g. ProcessRepresents r ls x (telling said (on_heap (λ g. suspended_at i (suc group) (lost_from i (length f.code.slots) g)) (with_heap k m)))
        (proc (dropping_values (lose f).0 (record (writes (wait_line i g) p.core) { cells = es; entries = put p.core.entries i asleep })) (put p.actors i ended))) (sym spot_group)
        (subst (λ h. ProcessRepresents r ls x (telling said (with_heap h m))
        (proc (dropping_values (lose f).0 (record (writes said p.core) { cells = es; entries = put p.core.entries i asleep })) (put p.actors i ended)))
        (sym (suspended_first i group (length f.code.slots) k))
        (subst (λ xs. ProcessRepresents r ls x (telling said (with_heap (lost_from i (length f.code.slots) (suspended_at i (suc group) k)) m))
        (proc (dropping_values (lose f).0 (record (writes said p.core) { cells = es; entries = put p.core.entries i asleep })) xs))
        (put_over p.actors i waiting_frame ended) lost.shown)))

  by_registration : (n : Process) (h : HeapTree) → waiting.register_all i (held_from (first + 0) e.operands) m.heap ≡ (true, h)
      → n ≡ telling (wait_line i (suc group)) (on_heap (λ g. suspended_at i (suc group) (lost_from i (length f.code.slots) g)) (with_heap h m))
      → AllWait r m.heap p i m.heap p.core.cells [] e.operands 0
      → Matches r ls x n (out_of None)
  by_registration n h reg is (one_refused k mem refused) =
      let mem2 = ap (λ u. waiting.register_all i (held_from (u + 0) e.operands) m.heap) (sym spots_first) ∙ mem in
      absurd (false≢true (ap (λ (y : waiting.Registered). y.0) (sym mem2 ∙ reg)))
  by_registration n h reg is (all_wait k es mem reg2 w) =
      let mem2 = ap (λ u. waiting.register_all i (held_from (u + 0) e.operands) m.heap) (sym spots_first) ∙ mem in
      let pair : (true, h) ≡ (true, k) = sym reg ∙ mem2 in
      let same : h ≡ k = ap (λ (y : waiting.Registered). y.1) pair in
      subst (λ z. Matches r ls x z (out_of None)) (sym is)
      (subst (λ g. Matches r ls x (telling (wait_line i (suc group)) (on_heap (λ g. suspended_at i (suc group) (lost_from i (length f.code.slots) g)) (with_heap g m))) (out_of None)) (sym same)
      (shows (all_asleep k es w reg2)))

  registration : AllWait r m.heap p i m.heap p.core.cells [] e.operands 0
  registration = all_waits r m.heap p i e.operands 0 m.heap p.core.cells [] (none_waited r m.heap p i st.shown.holds.shows may.go.cells) may.waitable

  -- a stream refuses
  refused_there : (h : HeapTree) → waiting.register_all i (held_from (first + 0) e.operands) m.heap ≡ (false, h) → AllWait r m.heap p i m.heap p.core.cells [] e.operands 0
      → register i 0 e.operands (Registered p.core.cells) ≡ Refused
  refused_there h reg (one_refused k mem refused) = refused
  refused_there h reg (all_wait k es mem reg2 w) =
      let mem2 = ap (λ u. waiting.register_all i (held_from (u + 0) e.operands) m.heap) (sym spots_first) ∙ mem in
      absurd (false≢true (ap (λ (y : waiting.Registered). y.0) (sym reg ∙ mem2)))

  refused_way : (n : Process) (h : HeapTree) (o : Option (ℕ × ℕ)) → FirstSame first p.core.cells None o → waiting.register_all i (held_from (first + 0) e.operands) m.heap ≡ (false, h)
      → n ≡ on_heap (left_for s (task.Throw s.actor (record { 0 = second_waiter }))) (with_heap h m) → Matches r ls x n (out_of o)
  refused_way n h (Some z) same reg is = absurd same
  refused_way n h None same reg is =
      let u : Task = Throw i second_waiter in
      let q : Proc Frame = put_actor i spotted waiting_frame p in
      let task_same : SameTask q (task.Throw s.actor (record { 0 = second_waiter })) u = ap (λ (k : ActorId). Throw k.0 second_waiter) (sym may.standing.actor) in
      let left = left_refused r ls m q i spotted waiting_frame x s (task.Throw s.actor (record { 0 = second_waiter })) u h
      (as_many_stood r ls x (with_task u x) m q i spotted waiting_frame (λ z j. omega arith) there) standing_there may.wait.end task_same go_there tt may.awake may.waitable reg in
      subst (λ y. Matches r ls x n (proc (suspend i (wait_spot f) spotted (lose f).0 y p.core) (put p.actors i (record (lose f).1 { state = suc group })))) (sym (refused_there h reg registration))
      (subst (λ z. Matches r ls x z (proc (leave_for i spotted (lose f).0 u p.core) (put p.actors i (record (lose f).1 { state = suc group })))) (sym is)
      (subst (λ xs. Matches r ls x (on_heap (left_for s (task.Throw s.actor (record { 0 = second_waiter }))) (with_heap h m))
      (proc (record (leave_for i spotted (lose f).0 u p.core) { entries = xs }) (put p.actors i (record (lose f).1 { state = suc group })))) (put_over p.core.entries i spotted (running spotted))
      (subst (λ xs. Matches r ls x (on_heap (left_for s (task.Throw s.actor (record { 0 = second_waiter }))) (with_heap h m)) (proc (leave_for i spotted (lose f).0 u q.core) xs))
      (put_over p.actors i waiting_frame (record (lose f).1 { state = suc group }))
      (shows left.shown))))

  -- each way
  ready_way : (n : Process) (y : Held) (b : ℕ) (o : Option (ℕ × ℕ)) → FirstSame first p.core.cells (Some y) o → waiting.BranchOf s y.callback b → TakesBranch s b y.cell m n
      → Matches r ls x n (out_of o)
  ready_way n y b None same at takes = absurd same
  ready_way n y b (Some z) same at takes = first_taken n y b z same at takes

  waiting_way : (n : Process) (h : HeapTree) (o : Option (ℕ × ℕ)) → FirstSame first p.core.cells None o → waiting.register_all i (held_from (first + 0) e.operands) m.heap ≡ (true, h)
      → n ≡ telling (wait_line i (suc group)) (on_heap (λ g. suspended_at i (suc group) (lost_from i (length f.code.slots) g)) (with_heap h m)) → Matches r ls x n (out_of o)
  waiting_way n h (Some z) same reg is = absurd same
  waiting_way n h None same reg is = by_registration n h reg is registration

  first_there : (c : List Held) → callbacks_of s.actor.0 m.heap ≡ c → callbacks_of s.actor.0 m.heap ≡ held_from (first + 0) e.operands
  first_there c a = ap (λ (k : ActorId). callbacks_of k.0 m.heap) may.standing.actor ∙ callbacks_are

  pub each_way : (n : Process) → Waits s (suc group) m n → Matches r ls x n (out_of (work.first_ready p.core.cells 0 e.operands))
  each_way n (waits_ready y b at branch takes) =
      let held = first_there (callbacks_of s.actor.0 m.heap) refl in
      let is : waiting.first_ready m.heap (held_from (first + 0) e.operands) ≡ Some y = ap (waiting.first_ready m.heap) (sym held) ∙ at in
      ready_way n y b (work.first_ready p.core.cells 0 e.operands)
      (subst (λ o. FirstSame first p.core.cells o (work.first_ready p.core.cells 0 e.operands)) is (first_same r m.heap p first st.shown.holds.shows e.operands 0)) branch takes
  each_way n (waits_refused h at reg is) =
      let held = first_there (callbacks_of s.actor.0 m.heap) refl in
      let reg2 : waiting.register_all i (held_from (first + 0) e.operands) m.heap ≡ (false, h) =
      ap (λ c. waiting.register_all i c m.heap) (sym held) ∙ ap (λ (k : ActorId). waiting.register_all k.0 (callbacks_of s.actor.0 m.heap) m.heap) (sym may.standing.actor) ∙ reg in
      let none_first : waiting.first_ready m.heap (held_from (first + 0) e.operands) ≡ None = ap (waiting.first_ready m.heap) (sym held) ∙ at in
      refused_way n h (work.first_ready p.core.cells 0 e.operands)
      (subst (λ o. FirstSame first p.core.cells o (work.first_ready p.core.cells 0 e.operands)) none_first (first_same r m.heap p first st.shown.holds.shows e.operands 0)) reg2 is
  each_way n (waits_suspended h at reg is) =
      let held = first_there (callbacks_of s.actor.0 m.heap) refl in
      let none_first : waiting.first_ready m.heap (held_from (first + 0) e.operands) ≡ None = ap (waiting.first_ready m.heap) (sym held) ∙ at in
      let reg2 : waiting.register_all i (held_from (first + 0) e.operands) m.heap ≡ (true, h) =
      ap (λ c. waiting.register_all i c m.heap) (sym held) ∙ ap (λ (k : ActorId). waiting.register_all k.0 (callbacks_of s.actor.0 m.heap) m.heap) (sym may.standing.actor) ∙ reg in
      let now : n ≡ telling (wait_line i (suc group)) (on_heap (λ g. suspended_at i (suc group) (lost_from i (length f.code.slots) g)) (with_heap h m)) =
      is
      ∙ ap (λ (k : ActorId). telling (line.Wait k (suc group)) (on_heap (λ g. suspended_at k.0 (suc group) (lost_from k.0 s.class.now.slots g)) (with_heap h m))) may.standing.actor
      ∙ ap (λ k. telling (wait_line i (suc group)) (on_heap (λ g. suspended_at i (suc group) (lost_from i k g)) (with_heap h m))) may.standing.slots in
      waiting_way n h (work.first_ready p.core.cells 0 e.operands)
      (subst (λ o. FirstSame first p.core.cells o (work.first_ready p.core.cells 0 e.operands)) none_first (first_same r m.heap p first st.shown.holds.shows e.operands 0)) reg2 now

pub wait_done : (r : RawTree) (ls : List Line) (m : Process) (p : Proc Frame) → law.WaitDone r ls m p
wait_done r ls m p x s i group e f n st none may waits =
    subst (λ o. Matches r ls x n (proc (wait i (wait_spot f) o (lose f).0 p.core) (put p.actors i (record (lose f).1 { state = suc group })))) (sym st.acts.entered)
    (each_way r ls m p x s i group e f st none may n waits)
