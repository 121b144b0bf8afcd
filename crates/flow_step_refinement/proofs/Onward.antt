-- An actor goes on with the turns that evaluation left.
use Rattle.std.proofs.Common.{◌≡◌, ℕ, zero, suc, false, List, [], ◌∷◌, map, refl, sym, ap, ◌∙◌, subst}
use Rattle.flow_value.specs.declared.value.Value.{Value}
use Rattle.flow_value.specs.Values.{ValueTree}
use Rattle.flow_value.specs.View.{value_of}
use Rattle.std.specs.declared.option.Option.TheVariants.{Some}
use Rattle.flow_class.specs.Classes.{RawTree}
use Rattle.flow_trace.specs.declared.line.Line.{Line}
use Rattle.flow_numbered.specs.Numbered as stored
use Rattle.flow_frame.specs.declared.held.Held.{Held}
use Rattle.flow_frame.specs.Frames.{FrameTree}
use Rattle.flow_cancel.specs.Heap.{HeapTree}
use Rattle.flow_cancel.specs.Leaving.{waits}
use Rattle.flow_meaning.specs.Requests.{Goes, Supply}
use Rattle.flow_meaning.specs.Cells.{Ref}
use Rattle.flow_meaning.specs.Evaluating.{asks}
use Rattle.flow_meaning.specs.Process.{Run, Entry, Proc}
use Rattle.flow_numbered.specs.Numbered.{put}
use Rattle.flow_meaning.specs.References.{Scan, refs_in}
use Rattle.flow_meaning.specs.Work as work
use Rattle.flow_meaning.specs.Work.{pushed}
use Rattle.flow_meaning.specs.Step.{view, proc, on_core}
use Rattle.flow_meaning.specs.Class.{next_step, class_names}
use Rattle.flow_meaning.specs.Frame.{Memory, Frame, go, next_instr}
use Rattle.flow_heap_refinement.specs.Representing.{LiveFrameRepresents, wait_spot, held_from}
use Rattle.flow_heap_refinement.specs.Acting.{put_frame}
use Rattle.flow_heap_refinement.specs.Holds.{with_refs, AllThere, hold_all}
use Rattle.flow_steps.specs.declared.frames.ControlPoint.{ControlPoint}
use Rattle.flow_steps.specs.declared.next.Pace.{Pace}
use Rattle.flow_steps.specs.declared.next.Pace.TheVariants.{On, Off}
use Rattle.flow_steps.specs.declared.process.Process.{Process}
use Rattle.flow_steps.specs.Holding.{on_heap}
use Rattle.flow_steps.specs.Evaluating.{with_left}
use Rattle.flow_steps.specs.Points.{next_stand}
use Rattle.flow_steps.specs.Stepping.{OnAfter, GoesOnAt}
use Rattle.flow_operation_refinement.specs.Placing.{Acts, RepresentsActor, with_memory}
use Rattle.flow_operation_refinement.specs.Continuing.{MayBeStale, MayMove}
use Rattle.flow_operation_refinement.specs.Carried.{Carries, StepsAs}
use Rattle.flow_operation_refinement.proofs.Working.{refs_held}
use Rattle.flow_operation_refinement.proofs.Brought.{all_there_by}
use Rattle.flow_operation_refinement.proofs.Parting.{acts_by}
use Rattle.flow_operation_refinement.proofs.Takings.{all_frames}
use Rattle.flow_operation_refinement.proofs.Gone as gone
use Rattle.flow_operation_refinement.proofs.Gone.{went_to, left_over, over_after}
use Rattle.flow_operation_refinement.proofs.Carrying.{old, may, after_values, at_block, with_turns, asked}
use Rattle.flow_step_refinement.specs.Continuing.{no_more, then_on, GoesBy, moves, Onward}

-- the same frame in memory
pub same_memory : (r : RawTree) (h g : HeapTree) (p q : Proc Frame) (i : ℕ) (d e : Entry) (f k : Frame) → g.frames ≡ h.frames → (a : Acts r h p i d f) → (b : Acts r g q i e k) → b.memory ≡ a.memory
same_memory r h g p q i d e f k same a b =
    let x : stored.thing h.frames.things i ≡ Some b.memory = ap (λ (ms : stored.Store (FrameTree Value)). stored.thing ms.things i) (sym same) ∙ b.framed in
    let y = a.framed in cc (x, y)

-- an actor without operands is not suspended
nothing_waits : (n : ℕ) (xs : List Held) → xs ≡ [] → waits n xs ≡ false
nothing_waits zero xs e = refl
nothing_waits (suc n) [] e = refl
nothing_waits (suc n) (x ∷ xs) e = absurd (cc (e))

pub awake_without : (r : RawTree) (m : FrameTree Value) (e : Entry) (f : Frame) → LiveFrameRepresents r m e f → e.operands ≡ [] → e.suspended ≡ false
awake_without r m e f s none =
    sym s.suspended ∙ nothing_waits m.state m.callbacks (s.callbacks ∙ ap (held_from (wait_spot f).first) none)

module _ (r : RawTree) (ls : List Line) (m : Process) (p : Proc Frame) (i : ℕ) (e : Entry) (f : Frame) (x : Scan) where
  -- references come to hand
  pub with_held : (qs : List Ref) → RepresentsActor r ls x m p i e f → AllThere p qs → RepresentsActor r ls (with_refs qs x) (on_heap (hold_all qs) m) p i e f
  with_held qs st there = record {
    shown = refs_held r ls x m p qs st.shown there;
    acts = acts_by r m.heap (hold_all qs m.heap) p p i e f (all_frames qs m.heap).0 (all_frames qs m.heap).1 refl refl st.acts;
  }

  module _ (s : ControlPoint) (st : MayBeStale r ls x s m p i e f) where
    -- with other turns
    abbrev pub stale_left : (n : ℕ) → MayBeStale r ls x s (with_left n m) (on_core (λ c. record c { left = n }) p) i e f
    stale_left n = record {
      block = st.block;
      instr = st.instr;
      state = st.state;
      stood = with_turns r ls m (put_frame i (old r ls m p i e f x s st) p) i e (old r ls m p i e f x s st) x n st.stood;
      told = st.told;
      acting = st.acting;
      standing = st.standing;
      instruction = st.instruction;
      free = record { waits = st.free.waits; keeps = st.free.keeps };
      operands = st.operands;
    }

    -- with references that come to hand
    abbrev pub stale_held : (qs : List Ref) → AllThere p qs → MayBeStale r ls (with_refs qs x) s (on_heap (hold_all qs) m) p i e f
    stale_held qs there = record {
      block = st.block;
      instr = st.instr;
      state = st.state;
      stood =
          let q : Proc Frame = put_frame i (old r ls m p i e f x s st) p in record {
            shown = refs_held r ls x m q qs st.stood.shown (all_there_by p q qs refl there);
            acts = acts_by r m.heap (hold_all qs m.heap) q q i e (old r ls m p i e f x s st) (all_frames qs m.heap).0 (all_frames qs m.heap).1 refl refl st.stood.acts;
          };
      told = st.told;
      acting = st.acting;
      standing = st.standing;
      instruction = st.instruction;
      free = record { waits = st.free.waits; keeps = st.free.keeps };
      operands = st.operands;
    }

    -- it goes on at the begin of a block
    pub enters : (w : Supply) (left b : ℕ) (pace : Pace) (n : Process)
        → next_step (class_names r) (view w i p.core) f ≡ asks left Goes (go b f.mem f) → GoesOnAt s b (with_left left m) pace n
        → StepsAs r ls x w p i e pace n
    enters w left b pace n next goes =
        let q : Proc Frame = on_core (λ c. record c { left = left }) p in
        let m1 : Process = with_left left m in
        let st1 = stale_left left in
        let o = old r ls m1 q i e f x s st1 in record {
          after = on_core (pushed (Run i)) (put_frame i (go b f.mem f) q);
          steps = asked r ls m p i e f w (asks left Goes (go b f.mem f)) st.stood.shown.goes st.acting next;
          carries = at_block r ls m1 q i e f x s st1 (go b f.mem f) pace n
              (went_to r ls m1 (put_frame i o q) i e o x s b pace n st1.stood (may r ls m1 q i e f x s st1) goes);
        }

module _ (r : RawTree) (ls : List Line) (m : Process) (p : Proc Frame) (i : ℕ) (e : Entry) (f : Frame) (x : Scan) (s : ControlPoint) (st : MayBeStale r ls x s m p i e f) where
  abbrev before : Frame
  before = old r ls m p i e f x s st

  -- It goes on at the next instruction with other memory, after values that are left over are dropped.
  pub carries_over : (mem : Memory) (us : List ValueTree) (vs : List Value) (m1 : Process) (pace : Pace) (n : Process)
      → RepresentsActor r ls (with_refs (refs_in us) x) m1 (put_frame i (with_memory mem before) (put_frame i before p)) i e (with_memory mem before)
      → refs_in (map value_of vs) ≡ refs_in us → OnAfter (next_stand s) vs m1 pace n
      → Carries r ls x i e pace n (proc (work.dropping (refs_in us) (pushed (Run i) p.core)) (put p.actors i (next_instr mem f)))
  carries_over mem us vs m1 pace n stood same after =
      let seen : Proc Frame = put_frame i before p in
      let k : Frame = with_memory mem before in
      let q : Proc Frame = put_frame i k seen in
      let t = next_stand s in
      let rs = refs_in us in
      let g : Frame = record k { block = s.place; instr = suc s.instruction; state = f.state } in
      let may1 : MayMove s q i e k = record {
        actor = st.standing.actor;
        slots = st.standing.slots;
        free = record { waits = st.free.waits; keeps = st.free.keeps };
        operands = st.operands;
      } in
      let to : gone.Stands s s.place (suc s.instruction) t = record { actor = refl; class = refl; place = refl; instruction = refl; noted = refl } in
      let stood1 = subst (λ us. RepresentsActor r ls (with_refs us x) m1 q i e k) (sym same) stood in
      let over = left_over r ls m1 q i e k x s t s.place (suc s.instruction) f.state vs pace n stood1 may1 to after in
      let there = over_after r ls m m1 seen i e before k g x t (refs_in (map value_of vs)) rs pace n same over in
      let here : g ≡ next_instr mem f = ap (λ b. record g { block = b }) st.standing.place ∙ ap (λ y. record g { block = f.block; instr = suc y }) st.instruction in
      subst (λ y. Carries r ls x i e pace n (proc (work.dropping rs (pushed (Run i) p.core)) (put p.actors i y))) here
      (after_values r ls m p i e f x s st t rs g pace n there)

-- where an actor goes on after values are left over
pub goes_after : (u t : ControlPoint) (vs : List Value) (p n : Process) (pace : Pace) → OnAfter u vs p pace n → pace ≡ On t → u ≡ t
goes_after u t [] p n pace after on =
    let same : On u ≡ On t = sym after.0 ∙ on in cc (same)
goes_after u t (v ∷ vs) p n pace after on = absurd (let a = after.0 in cc (a, on))

pub later_after : (s t : ControlPoint) (vs : List Value) (p n : Process) (pace : Pace) → OnAfter (next_stand s) vs p pace n → pace ≡ On t → t.noted ≡ false
later_after s t vs p n pace after on = ap (λ (y : ControlPoint). y.noted) (sym (goes_after (next_stand s) t vs p n pace after on))

-- a step of an actor that is free is a row of steps
module _ (r : RawTree) (ls : List Line) (x : Scan) (w : Supply) (p : Proc Frame) (i : ℕ) (e : Entry) where
  pub carried : (pace : Pace) (n : Process) (q : Proc Frame) → ((t : ControlPoint) → pace ≡ On t → t.noted ≡ false) → Carries r ls x i e pace n q → Onward r ls x i e.class pace n q
  carried (On t) n q later c = record {
    process = put_frame i c.1.0 c.0;
    entry = e;
    frame = c.1.0;
    runs = c.1.1.0;
    same = refl;
    next = moves c.1.1.1 (λ h. let a = later t refl in absurd (cc (a, h)));
  }
  carried Off n q later c = c

  pub one_step : (pace : Pace) (n : Process) → ((t : ControlPoint) → pace ≡ On t → t.noted ≡ false) → StepsAs r ls x w p i e pace n → GoesBy r ls x w i e.class (on_core (pushed (Run i)) p) pace n
  one_step pace n later s = record {
    after = s.after;
    steps = then_on (on_core (pushed (Run i)) p) s.after s.after s.steps (no_more s.after);
    onward = carried pace n s.after later s.carries;
  }
