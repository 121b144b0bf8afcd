-- An actor that waits for nothing goes on elsewhere, or is over.
use Rattle.std.proofs.Common.{◌≡◌, ℕ, nat_eq, Bool, true, false, List, [], ◌∷◌, ◌++◌, map, if◌then◌else◌, refl, sym, ap, ◌∙◌, subst, arith}
use Rattle.std.specs.Option.{option_map}
use Rattle.std.specs.declared.option.Option.{Option}
use Rattle.std.specs.declared.option.Option.TheVariants.{None, Some}
use Rattle.flow_value.specs.declared.value.Value.{Value}
use Rattle.flow_value.specs.Values.{ValueTree}
use Rattle.flow_value.specs.View.{value_of}
use Rattle.flow_class.specs.Classes.{RawTree}
use Rattle.flow_trace.specs.declared.line.Line.{Line}
use Rattle.flow_frame.specs.Frames.{FrameTree, all_empty}
use Rattle.flow_numbered.specs.Numbered.{thing}
use Rattle.flow_meaning.specs.Cells.{Side, Waiter, Cell, Single, Stream, as_list, without, without_one, left_by}
use Rattle.flow_meaning.specs.Process.{Entry, Core, Proc}
use Rattle.flow_meaning.specs.References.{Scan}
use Rattle.flow_meaning.specs.Frame.{Memory, Frame, blanks, over, occ_memory}
use Rattle.flow_meaning.proofs.Posture.{thing_put}
use Rattle.flow_heap_refinement.specs.Representing.{Represents, LiveFrameRepresents, OneActor, stands, here}
use Rattle.flow_heap_refinement.specs.Counted.{branches_of, waiters_at}
use Rattle.flow_heap_refinement.specs.Acting.{Free, frame_put, put_frame}
use Rattle.flow_heap_refinement.specs.Leaving.{left_wait}
use Rattle.flow_heap_refinement.proofs.Acted.{frame_moved}
use Rattle.flow_heap_refinement.proofs.Finds.{stored_put}
use Rattle.flow_heap_refinement.proofs.Holding.{all_held, memory_held}
use Rattle.flow_heap_refinement.proofs.Left.{found_left}
use Rattle.flow_heap_refinement.proofs.Referring.{of_frame}
use Rattle.flow_heap_refinement.proofs.Standing.{goes_on, is_over}
use Rattle.flow_numbered.proofs.Things.{put_same}
use Rattle.flow_steps.specs.declared.process.Process.{Process}
use Rattle.flow_steps.specs.Holding.{on_heap}
use Rattle.flow_steps.specs.Delivering.{gone_to}
use Rattle.flow_steps.specs.Points.{reframed, gone}
use Rattle.flow_operation_refinement.specs.Matching.{ProcessRepresents}
use Rattle.flow_operation_refinement.specs.Placing.{RepresentsActor, with_memory, nothing_in}
use Rattle.flow_operation_refinement.specs.Taking.{MayGo}
use Rattle.flow_operation_refinement.proofs.Working.{changed}
use Rattle.flow_operation_refinement.proofs.Places.{at_of}
use Rattle.flow_operation_refinement.proofs.Parting.{no_keep_under}

-- who left all cells waits nowhere
none_left : (i : ℕ) (ws : List Waiter) → branches_of i (without ws i) ≡ []
none_left i [] = refl
none_left i (w ∷ ws) = by_test (nat_eq w.actor i) refl (none_left i ws)
  where
    by_test : (t : Bool) → nat_eq w.actor i ≡ t → branches_of i (without ws i) ≡ [] → branches_of i (if t then without ws i else w ∷ without ws i) ≡ []
    by_test true e h = h
    by_test false e h = ap (λ t. if t then w.branch ∷ branches_of i (without ws i) else branches_of i (without ws i)) e ∙ h

one_left : (i : ℕ) (w : Option Waiter) → branches_of i (as_list (without_one w i)) ≡ []
one_left i None = refl
one_left i (Some w) = by_test (nat_eq w.actor i) refl
  where
    by_test : (t : Bool) → nat_eq w.actor i ≡ t → branches_of i (as_list (if t then None else Some w)) ≡ []
    by_test true e = refl
    by_test false e = ap (λ t. if t then w.branch ∷ [] else []) e

nobody_left : (i : ℕ) (c : Option Cell) → branches_of i (waiters_at (option_map (left_by i) c)) ≡ []
nobody_left i None = refl
nobody_left i (Some (Single o ws)) = none_left i ws
nobody_left i (Some (Stream q d w)) = one_left i w

pub free_left : (i : ℕ) (e : Entry) (c : Core) → MayGo i e c → Free i (left_wait i e c)
free_left i e c go = record {
  waits = λ k. ap (λ o. branches_of i (waiters_at o)) (found_left i c.cells k) ∙ nobody_left i (thing c.cells k);
  keeps = no_keep_under i e.operands c.tasks go.keeps;
}

module _ (r : RawTree) (ls : List Line) (x : Scan) (m : Process) (p : Proc Frame) (i : ℕ) (e : Entry) (f : Frame) where
  -- a free actor goes on at a block and an instruction of it, whatever the state of its frame says
  abbrev gone_frame : (block instruction state : ℕ) → Frame
  gone_frame b n k = record f { block = b; instr = n; state = k }

  stands_gone : (b n k : ℕ) (mem : FrameTree Value) → LiveFrameRepresents r mem e f → e.operands ≡ [] → LiveFrameRepresents r (gone_to b n mem) e (gone_frame b n k)
  stands_gone b n k mem s none =
      let a = goes_on r mem e f b n s none in
      record { code = a.code; places = a.places; slots = a.slots; position = here refl refl refl; callbacks = a.callbacks; suspended = a.suspended; spot = a.spot }

  pub goes_in : (b n k : ℕ) → RepresentsActor r ls x m p i e f → e.operands ≡ [] → Free i p.core
      → RepresentsActor r ls x (on_heap (gone i b n) m) (put_frame i (record f { block = b; instr = n; state = k }) p) i e (record f { block = b; instr = n; state = k })
  goes_in b n k s none free =
      let a = s.acts in
      let told = gone_to b n a.memory in
      let g : Frame = gone_frame b n k in
      let now : LiveFrameRepresents r told e g = stands_gone b n k a.memory a.stands none in
      let same : OneActor r a.note told e g = record { class = a.class; result = a.result; marked = a.marked; frame = stands now } in
      subst (λ o. RepresentsActor r ls x (on_heap (reframed (gone_to b n) i o) m) (put_frame i g p) i e g) (sym a.framed) (record {
        shown = changed r ls x x m p (put_frame i g p) (frame_put i told m.heap) s.shown (record {
          shows = frame_moved r m.heap p i told g s.shown.holds.shows (at_of r m.heap p i e f a) same free;
          counted = λ z j. let c = of_frame p z j i f g a.acting in let d = s.shown.holds.counted z j in omega (arith, c, d);
        }) refl refl refl;
        acts = record {
          note = a.note;
          memory = told;
          noted = a.noted;
          framed = stored_put m.heap.frames.things i a.memory told a.framed;
          entered = a.entered;
          acting = thing_put p.actors i f g a.acting;
          class = a.class;
          result = a.result;
          marked = a.marked;
          stands = now;
        };
      })

  pub goes_to : (b n : ℕ) → RepresentsActor r ls x m p i e f → e.operands ≡ [] → Free i p.core
      → RepresentsActor r ls x (on_heap (gone i b n) m) (put_frame i (record f { block = b; instr = n; state = 0 }) p) i e (record f { block = b; instr = n; state = 0 })
  goes_to b n s none free = goes_in b n 0 s none free

-- a frame whose places are all empty holds nothing
blank_held : {A : Type 0} (s : Side) (j : ℕ) (xs : List A) → all_held s j (blanks xs) ≡ 0
blank_held s j [] = refl
blank_held s j (x ∷ xs) = let a = blank_held s j xs in omega (arith, a)

nothing_held : (s : Side) (j : ℕ) (m : Memory) → occ_memory s j (nothing_in m) ≡ 0
nothing_held s j m =
    let a = memory_held s j (nothing_in m) in let b = blank_held s j m.locals in let c = blank_held s j m.slots in omega (arith, a, b, c)

empty_places : (xs : List (Option Value)) (ys zs : List (Option ValueTree)) → map (option_map value_of) xs ≡ blanks ys ++ blanks zs → all_empty xs ≡ true
empty_places [] ys zs h = refl
empty_places (None ∷ xs) [] [] h = absurd (cc)
empty_places (None ∷ xs) [] (z ∷ zs) h = empty_places xs [] zs (let a : map (option_map value_of) xs ≡ blanks zs = cc (h) in a)
empty_places (None ∷ xs) (y ∷ ys) zs h = empty_places xs ys zs (let a : map (option_map value_of) xs ≡ blanks ys ++ blanks zs = cc (h) in a)
empty_places (Some v ∷ xs) [] [] h = absurd (cc)
empty_places (Some v ∷ xs) [] (z ∷ zs) h = absurd (cc)
empty_places (Some v ∷ xs) (y ∷ ys) zs h = absurd (cc)

module _ (r : RawTree) (ls : List Line) (x : Scan) (m : Process) (p : Proc Frame) (i : ℕ) (e : Entry) (f : Frame) where
  -- a free actor that runs, and whose frame holds nothing, is over
  pub is_over_shown : RepresentsActor r ls x m p i e (with_memory (nothing_in f.mem) f) → e.operands ≡ [] → e.suspended ≡ false → Free i p.core → ProcessRepresents r ls x m (put_frame i over p)
  is_over_shown s none awake free =
      let a = s.acts in
      let g : Frame = with_memory (nothing_in f.mem) f in
      let one : OneActor r a.note a.memory e g = record { class = a.class; result = a.result; marked = a.marked; frame = stands a.stands } in
      let ended = is_over r a.memory e g a.note one awake none (empty_places a.memory.places f.mem.slots f.mem.locals a.stands.places) in
      let moved = frame_moved r m.heap p i a.memory over s.shown.holds.shows (at_of r m.heap p i e g a) ended free in
      let same : frame_put i a.memory m.heap ≡ m.heap = ap (λ ms. record m.heap { frames = record m.heap.frames { things = ms } }) (put_same m.heap.frames.things i a.memory a.framed) in
      changed r ls x x m p (put_frame i over p) m.heap s.shown (record {
        shows = subst (λ h. Represents r h (put_frame i over p)) same moved;
        counted = λ z j.
            let c = of_frame p z j i g over a.acting in
            let d = s.shown.holds.counted z j in
            let k = nothing_held z j f.mem in omega (arith, c, d, k);
      }) refl refl refl
