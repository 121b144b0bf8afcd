-- The places of a frame in memory and of the frame that it shows.
use Rattle.std.proofs.Common.{◌≡◌, ℕ, ◌+◌, List, [], ◌∷◌, length, refl, sym, ap, ◌∙◌, subst, arith}
use Rattle.std.specs.Option.{option_map}
use Rattle.std.specs.declared.option.Option.{Option}
use Rattle.std.specs.declared.option.Option.TheVariants.{None, Some}
use Rattle.flow_value.specs.declared.value.Value.{Value}
use Rattle.flow_value.specs.View.{value_of}
use Rattle.flow_class.specs.declared.class.Slotted.{Slotted}
use Rattle.flow_class.specs.declared.class.Slotted.TheVariants.{Slot, Local}
use Rattle.flow_class.specs.Classes.{RawTree}
use Rattle.flow_trace.specs.declared.line.Line.{Line}
use Rattle.flow_frame.specs.Frames as frames
use Rattle.flow_frame.specs.Frames.{FrameTree, with_place}
use Rattle.flow_cancel.specs.Heap.{HeapTree}
use Rattle.flow_cancel.specs.Dropping as dropping
use Rattle.flow_meaning.specs.Cells.{Side}
use Rattle.flow_meaning.specs.Process.{Entry, Proc}
use Rattle.flow_meaning.specs.References.{Scan, refs_in}
use Rattle.flow_meaning.specs.Step.{on_core}
use Rattle.flow_meaning.specs.Work as work
use Rattle.flow_meaning.specs.Variables.{filled}
use Rattle.flow_meaning.specs.Frame.{Frame, read, write}
use Rattle.flow_meaning.proofs.Posture.{thing_put}
use Rattle.flow_heap_refinement.specs.Representing.{LiveFrameRepresents, OneActor, stands, wait_spot}
use Rattle.flow_heap_refinement.specs.Acting.{At, frame_put, put_frame}
use Rattle.flow_heap_refinement.specs.FrameChanges.{HasPlace, number_in}
use Rattle.flow_heap_refinement.specs.Holding.{InMemory}
use Rattle.flow_heap_refinement.specs.References.{frame_holds}
use Rattle.flow_heap_refinement.specs.Holds.{with_refs}
use Rattle.flow_heap_refinement.proofs.Finds.{stored_put}
use Rattle.flow_heap_refinement.proofs.Acted.{frame_kept}
use Rattle.flow_heap_refinement.proofs.Referring.{of_frame}
use Rattle.flow_heap_refinement.proofs.Standing.{place_read, place_written}
use Rattle.flow_heap_refinement.proofs.Holding.{of_written}
use Rattle.flow_steps.specs.declared.process.Process.{Process}
use Rattle.flow_steps.specs.Holding.{on_heap, refs_dropped}
use Rattle.flow_steps.specs.Points.{reframed, place_held, place_put, values, place_lost}
use Rattle.flow_operation_refinement.specs.Placing.{Acts, RepresentsActor, Exchanged, with_memory}
use Rattle.flow_operation_refinement.specs.Placing as law
use Rattle.flow_operation_refinement.proofs.Working.{changed, as_many_shown, refs_dropped_shown}

-- all that stands at an actor's number
abbrev pub at_of : (r : RawTree) (h : HeapTree) (p : Proc Frame) (i : ℕ) (e : Entry) (f : Frame) → Acts r h p i e f → At r h p i
at_of r h p i e f a = record {
  note = a.note;
  memory = a.memory;
  entry = e;
  frame = f;
  noted = a.noted;
  framed = a.framed;
  entered = a.entered;
  acting = a.acting;
  same = record { class = a.class; result = a.result; marked = a.marked; frame = stands a.stands };
}

-- other references in hand, as many
pub as_many_stood : (r : RawTree) (ls : List Line) (x y : Scan) (m : Process) (p : Proc Frame) (i : ℕ) (e : Entry) (f : Frame) → ((s : Side) (j : ℕ) → x s j ≡ y s j) → RepresentsActor r ls x m p i e f
    → RepresentsActor r ls y m p i e f
as_many_stood r ls x y m p i e f same s = record { shown = as_many_shown r ls x y m p same s.shown; acts = s.acts }

module _ (r : RawTree) (ls : List Line) (x y : Scan) (m : Process) (p : Proc Frame) (i : ℕ) (e : Entry) (f : Frame) where
  -- the frame of an actor is another, at the same wait
  pub framed_anew : (s : RepresentsActor r ls x m p i e f) (n : FrameTree Value) (g : Frame) → LiveFrameRepresents r n e g → n.class ≡ s.acts.memory.class → wait_spot g ≡ wait_spot f
      → ((z : Side) (j : ℕ) → x z j + frame_holds z j f ≡ y z j + frame_holds z j g)
      → RepresentsActor r ls y (on_heap (frame_put i n) m) (put_frame i g p) i e g
  framed_anew s n g now same spot hand =
      let a = s.acts in
      let one : OneActor r a.note n e g = record { class = a.class ∙ sym same; result = a.result; marked = a.marked; frame = stands now } in record {
        shown = changed r ls x y m p (put_frame i g p) (frame_put i n m.heap) s.shown (record {
          shows = frame_kept r m.heap p i n g s.shown.holds.shows (at_of r m.heap p i e f a) one spot;
          counted = λ z j.
              let b = of_frame p z j i f g a.acting in
              let c = s.shown.holds.counted z j in
              let d = hand z j in omega (arith, b, c, d);
        }) refl refl refl;
        acts = record {
          note = a.note;
          memory = n;
          noted = a.noted;
          framed = stored_put m.heap.frames.things i a.memory n a.framed;
          entered = a.entered;
          acting = thing_put p.actors i f g a.acting;
          class = one.class;
          result = a.result;
          marked = a.marked;
          stands = now;
        };
      }

pub in_memory : (f : Frame) (q : Slotted) → HasPlace f q → InMemory f.mem q
in_memory f (Slot n) l = l
in_memory f (Local n) l = l

module _ (r : RawTree) (ls : List Line) (m : Process) (p : Proc Frame) (i : ℕ) (e : Entry) (f : Frame) where
  pub place_seen : law.PlaceSeen r ls m p i e f
  place_seen x q s l =
      ap (λ o. option_map value_of (frames.held_in (number_in (length f.code.slots) q) o)) s.acts.framed
      ∙ place_read r s.acts.memory e f q s.acts.stands l

  pub place_changed : law.PlacePut r ls m p i e f
  place_changed x y q v s l hand =
      let n = with_place s.acts.memory (number_in (length f.code.slots) q) v in
      let g = with_memory (write f.mem q (option_map value_of v)) f in
      subst (λ o. RepresentsActor r ls y (on_heap (reframed (λ k. with_place k (number_in (length f.code.slots) q) v) i o) m) (put_frame i g p) i e g) (sym s.acts.framed)
      (framed_anew r ls x y m p i e f s n g (place_written r s.acts.memory e f q v s.acts.stands l) refl refl
      (λ z j. let a = of_written z j f.mem q (option_map value_of v) (in_memory f q l) in let b = hand z j in omega (arith, a, b)))

  -- a place is emptied, and what it held is dropped
  pub dropped_values : (o : Option Value) (h : HeapTree) → dropping.dropping (values o) h ≡ refs_dropped (refs_in (filled (option_map value_of o ∷ []))) h
  dropped_values None h = refl
  dropped_values (Some v) h = refl

  pub one_lost : (x : Scan) (q : Slotted) → RepresentsActor r ls x m p i e f → HasPlace f q
      → RepresentsActor r ls x (on_heap (place_lost i (number_in (length f.code.slots) q)) m)
      (on_core (work.dropping (refs_in (filled (read f.mem q ∷ [])))) (put_frame i (with_memory (write f.mem q None) f) p)) i e (with_memory (write f.mem q None) f)
  one_lost x q s l =
      let g = with_memory (write f.mem q None) f in
      let n = number_in (length f.code.slots) q in
      let rs = refs_in (filled (read f.mem q ∷ [])) in
      let t = place_changed x (with_refs rs x) q None s l (λ z j. omega arith) in
      let is : place_lost i n m.heap ≡ refs_dropped rs (place_put i n None m.heap) =
      dropped_values (place_held i n m.heap) (place_put i n None m.heap) ∙ ap (λ o. refs_dropped (refs_in (filled (o ∷ []))) (place_put i n None m.heap)) (place_seen x q s l) in
      subst (λ h. RepresentsActor r ls x (record m { heap = h }) (on_core (work.dropping rs) (put_frame i g p)) i e g) (sym is) (record {
        shown = refs_dropped_shown r ls x (on_heap (place_put i n None) m) (put_frame i g p) rs t.shown;
        acts = record {
          note = t.acts.note;
          memory = t.acts.memory;
          noted = t.acts.noted;
          framed = t.acts.framed;
          entered = t.acts.entered;
          acting = t.acts.acting;
          class = t.acts.class;
          result = t.acts.result;
          marked = t.acts.marked;
          stands = t.acts.stands;
        };
      })
