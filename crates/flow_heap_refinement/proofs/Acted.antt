-- An actor of a heap and of the process that it shows.
use Rattle.std.proofs.Common.{◌≡◌, ℕ, suc, ◌+◌, nat_eq, Bool, true, false, List, [], ◌∷◌, ◌++◌, map, length, refl, sym, ap, ◌∙◌, subst, arith}
use Rattle.std.specs.Prelude.{max, slice_get}
use Rattle.std.specs.Option.{option_map}
use Rattle.std.specs.declared.option.Option.{Option}
use Rattle.std.specs.declared.option.Option.TheVariants.{None, Some}
use Rattle.flow_value.specs.declared.value.Value.{Value}
use Rattle.flow_value.specs.declared.value.Outcome.{Outcome}
use Rattle.flow_value.specs.Values.{ValueTree}
use Rattle.flow_value.specs.View.{value_of}
use Rattle.flow_class.specs.Classes.{ClassTree, RawTree}
use Rattle.flow_numbered.specs.Numbered as stored
use Rattle.flow_numbered.proofs.Things.{put_same}
use Rattle.flow_cell.specs.Cells.{CellTree}
use Rattle.flow_frame.specs.Frames.{FrameTree, fresh, padded}
use Rattle.flow_cancel.specs.Heap.{HeapTree, cell_id, next_cell, next_actor, new_note, promised, promised_at, promised_in}
use Rattle.flow_numbered.specs.Numbered.{Numbered, thing, added, put, removed}
use Rattle.flow_meaning.specs.Requests.{Spot}
use Rattle.flow_meaning.specs.Process.{Entry, Proc}
use Rattle.flow_meaning.specs.Step.{kept_by, entry_of}
use Rattle.flow_meaning.specs.Views.{spot_at}
use Rattle.flow_meaning.specs.Frame.{Frame, blanks}
use Rattle.flow_meaning.proofs.Posture.{each_number, thing_put, thing_put_other, thing_added, thing_removed_other}
use Rattle.flow_heap_refinement.specs.Representing.{Represents, OneActor, cell_number, stands, here, wait_spot, spot_of_actor}
use Rattle.flow_heap_refinement.specs.Acting as change
use Rattle.flow_heap_refinement.specs.Acting.{Free, At, actor_put, put_actor, frame_put, put_frame, blank, with_actor, without_actor}
use Rattle.flow_heap_refinement.proofs.Tasks.{tasks_aside, tasks_same}
use Rattle.flow_heap_refinement.proofs.Waits.{cells_aside, cells_same}
use Rattle.flow_heap_refinement.proofs.Cells.{CellsRepresent, single_kept}
use Rattle.flow_heap_refinement.proofs.Actors.{ActorsRepresent, actor_put as put_all, actor_added, actor_gone}
use Rattle.flow_heap_refinement.proofs.Finds.{none_above}

-- what is put again where it stood changes nothing
pub same_put : {A : Type 0} (xs : Numbered A) (n : ℕ) (a : A) → thing xs n ≡ Some a → put xs n a ≡ xs
same_put [] n a e = refl
same_put (x ∷ xs) n a e = at_head (nat_eq n x.0) refl (λ t. same_put xs n a t)
  where
    at_head : (t : Bool) → nat_eq n x.0 ≡ t → (thing xs n ≡ Some a → put xs n a ≡ xs) → put (x ∷ xs) n a ≡ x ∷ xs
    at_head true g rest = let is : x.1 ≡ a = cc (rw g at e) in rw g (ap (λ v. (x.0, v) ∷ xs) (cc (is)))
    at_head false g rest = rw g (ap (λ ys. x ∷ ys) (rest (rw g at e)))

module _ (r : RawTree) (h : HeapTree) (p : Proc Frame) where
  abbrev spots : ℕ → Spot
  spots = spot_of_actor p.actors

  abbrev kept : ℕ → ℕ
  kept i = kept_by (thing p.core.entries i)

  -- where the others stand, and how many operands they have kept
  others : (i : ℕ) (e : Entry) (f : Frame) (j : ℕ) → (i ≡ j → ⊥) → (spot_of_actor (put p.actors i f) j ≡ spots j) × (kept_by (thing (put p.core.entries i e) j) ≡ kept j)
  others i e f j n = (ap (spot_at wait_spot) (thing_put_other p.actors i j f n), ap kept_by (thing_put_other p.core.entries i j e n))

  pub actor_moved : change.ActorMoved r h p
  actor_moved i n m e f s at now free = record {
    cells = cells_aside spots (spot_of_actor (put p.actors i f)) i (λ j d. (others i e f j d).0) h.cells.things h.streams.things p.core.cells free.waits s.cells;
    actors = put_all r h.actors.things h.frames.things p.core.entries p.actors s.actors i at n m e f now;
    tasks = tasks_aside spots (spot_of_actor (put p.actors i f)) kept (λ j. kept_by (thing (put p.core.entries i e) j)) i (others i e f) h.tasks p.core.tasks free.keeps s.tasks;
    made = s.made;
    started = s.started;
    main = s.main;
    ports = s.ports;
    requests = s.requests;
  }

  all_same : (i : ℕ) (e : Entry) (f : Frame) (at : At r h p i) → wait_spot f ≡ wait_spot at.frame → length e.operands ≡ length at.entry.operands
      → (j : ℕ) → (spot_of_actor (put p.actors i f) j ≡ spots j) × (kept_by (thing (put p.core.entries i e) j) ≡ kept j)
  all_same i e f at a b =
      each_number i (λ j. (spot_of_actor (put p.actors i f) j ≡ spots j) × (kept_by (thing (put p.core.entries i e) j) ≡ kept j)) (
        ap (spot_at wait_spot) (thing_put p.actors i at.frame f at.acting) ∙ a ∙ sym (ap (spot_at wait_spot) at.acting),
        ap kept_by (thing_put p.core.entries i at.entry e at.entered) ∙ b ∙ sym (ap kept_by at.entered),
      )
      (others i e f)

  pub actor_kept : change.ActorKept r h p
  actor_kept i n m e f s at now a b = record {
    cells = cells_same spots (spot_of_actor (put p.actors i f)) (λ j. (all_same i e f at a b j).0) h.cells.things h.streams.things p.core.cells s.cells;
    actors = put_all r h.actors.things h.frames.things p.core.entries p.actors s.actors i at n m e f now;
    tasks = tasks_same spots (spot_of_actor (put p.actors i f)) kept (λ j. kept_by (thing (put p.core.entries i e) j)) (all_same i e f at a b) h.tasks p.core.tasks s.tasks;
    made = s.made;
    started = s.started;
    main = s.main;
    ports = s.ports;
    requests = s.requests;
  }

  -- only the frame
  same_actor : (i : ℕ) (m : FrameTree Value) (f : Frame) (at : At r h p i) → Represents r (actor_put i at.note m h) (put_actor i at.entry f p) → Represents r (frame_put i m h) (put_frame i f p)
  same_actor i m f at s =
      let a = put_same h.actors.things i at.note at.noted in
      let b = same_put p.core.entries i at.entry at.entered in
      subst (λ es. Represents r (frame_put i m h) (record p { core = record p.core { entries = es }; actors = put p.actors i f })) b
      (subst (λ ns. Represents r (record h { actors = record h.actors { things = ns }; frames = stored.with_thing h.frames i m }) (put_actor i at.entry f p)) a s)

  pub frame_moved : change.FrameMoved r h p
  frame_moved i m f s at now free = same_actor i m f at (actor_moved i at.note m at.entry f s at now free)

  pub frame_kept : change.FrameKept r h p
  frame_kept i m f s at now a = same_actor i m f at (actor_kept i at.note m at.entry f s at now a refl)

  -- an actor starts
  abbrev no_values : ℕ → List (Option ValueTree)
  no_values n = map (option_map value_of) (padded n [])

  blank_places : {A : Type 0} (ys : List A) → no_values (length ys) ≡ blanks ys
  blank_places [] = refl
  blank_places (y ∷ ys) = ap (λ zs. None ∷ zs) (blank_places ys)

  blanks_stand : {A B : Type 0} (xs : List A) (ys : List B) → no_values (length xs + length ys) ≡ blanks xs ++ blanks ys
  blanks_stand [] ys = let e : 0 + length ys ≡ length ys = omega arith in ap no_values e ∙ blank_places ys
  blanks_stand (x ∷ xs) ys =
      let e : suc (length xs) + length ys ≡ suc (length xs + length ys) = omega arith in ap no_values e ∙ ap (λ zs. None ∷ zs) (blanks_stand xs ys)

  as_many : {A : Type 0} (xs : List A) → length (blanks xs) ≡ length xs
  as_many [] = refl
  as_many (x ∷ xs) = ap suc (as_many xs)

  result_stands : (result : Option ℕ) → result ≡ option_map cell_number (option_map cell_id result)
  result_stands None = refl
  result_stands (Some k) = refl

  new_actor : (class places : ℕ) (result : Option ℕ) (c : ClassTree) → slice_get r.classes class ≡ Some c → places ≡ length c.slots + length c.locals
      → OneActor r (new_note (option_map cell_id result)) (fresh class places) (entry_of class result) (blank c)
  new_actor class places result c e n = record {
    class = refl;
    result = result_stands result;
    marked = refl;
    frame = stands (record {
      code = e;
      places = ap no_values n ∙ blanks_stand c.slots c.locals;
      slots = as_many c.slots;
      position = here refl refl refl;
      callbacks = refl;
      suspended = refl;
      spot = λ x. absurd (cc);
    });
  }

  promise_more : (k : ℕ) (o : Option (CellTree Outcome)) → stored.thing h.cells.things k ≡ o → CellsRepresent spots h.cells.things h.streams.things p.core.cells
      → CellsRepresent spots (promised_at k o h.cells).things h.streams.things p.core.cells
  promise_more k None e all = all
  promise_more k (Some m) e all = single_kept spots h.cells.things h.streams.things p.core.cells all k m (promised m) e refl refl

  -- a result that there is has one promise more
  promise_counted : (result : Option ℕ) → CellsRepresent spots h.cells.things h.streams.things p.core.cells
      → CellsRepresent spots (promised_in (option_map cell_id result) h.cells).things h.streams.things p.core.cells
  promise_counted None all = all
  promise_counted (Some k) all = promise_more k (stored.thing h.cells.things k) refl all

  other_new : (e : Entry) (f : Frame) (j : ℕ) → (suc p.core.started ≡ j → ⊥)
      → (spot_of_actor (added p.actors (suc p.core.started) f) j ≡ spots j) × (kept_by (thing (added p.core.entries (suc p.core.started) e) j) ≡ kept j)
  other_new e f j n = (ap (spot_at wait_spot) (thing_added p.actors (suc p.core.started) j f n), ap kept_by (thing_added p.core.entries (suc p.core.started) j e n))

  next_number : (a b c d : ℕ) → c ≡ suc (max a b) → c ≡ suc d → suc (max c c) ≡ suc (suc d)
  next_number a b c d e f = grind arith

  pub started_shown : change.Started r h p
  started_shown class places result c s e n rising free =
      let i = suc p.core.started in
      let f = blank c in
      let g = entry_of class result in
      let note = new_note (option_map cell_id result) in record {
        cells = cells_aside spots (spot_of_actor (added p.actors i f)) i (λ j d. (other_new g f j d).0) (promised_in (option_map cell_id result) h.cells).things h.streams.things p.core.cells
            free.waits
            (promise_counted result s.cells);
        actors = subst (λ x. ActorsRepresent r (stored.added h.actors.things x note) (stored.added h.frames.things x (fresh class places)) (added p.core.entries i g)
            (added p.actors i f)) (sym s.started)
            (actor_added r h.actors.things h.frames.things p.core.entries p.actors s.actors i (none_above p.core.entries 0 p.core.started i rising (omega arith)) note
            (fresh class places) g f
            (new_actor class places result c e n));
        tasks = tasks_aside spots (spot_of_actor (added p.actors i f)) kept (λ j. kept_by (thing (added p.core.entries i g) j)) i (other_new g f) h.tasks p.core.tasks free.keeps s.tasks;
        made = same_result result ∙ s.made;
        started = next_number h.actors.greatest h.frames.greatest (next_actor h) p.core.started refl s.started;
        main = s.main;
        ports = s.ports;
        requests = s.requests;
      }
    where
      same_made : (k : ℕ) (o : Option (CellTree Outcome)) → suc (max h.made (max (promised_at k o h.cells).greatest h.streams.greatest)) ≡ next_cell h
      same_made k None = refl
      same_made k (Some m) = refl

      same_result : (x : Option ℕ) → suc (max h.made (max (promised_in (option_map cell_id x) h.cells).greatest h.streams.greatest)) ≡ next_cell h
      same_result None = refl
      same_result (Some k) = same_made k (stored.thing h.cells.things k)

  -- an actor is finished
  other_left : (i j : ℕ) → (i ≡ j → ⊥) → (spot_of_actor (removed p.actors i) j ≡ spots j) × (kept_by (thing (removed p.core.entries i) j) ≡ kept j)
  other_left i j n = (ap (spot_at wait_spot) (thing_removed_other p.actors i j n), ap kept_by (thing_removed_other p.core.entries i j n))

  pub finished_shown : change.Finished r h p
  finished_shown i most s at free nr mr er fr = record {
    cells = cells_aside spots (spot_of_actor (removed p.actors i)) i (λ j d. (other_left i j d).0) h.cells.things h.streams.things p.core.cells free.waits s.cells;
    actors = actor_gone r h.actors.things h.frames.things p.core.entries p.actors s.actors i h.actors.greatest h.frames.greatest p.core.started most nr mr er fr;
    tasks = tasks_aside spots (spot_of_actor (removed p.actors i)) kept (λ j. kept_by (thing (removed p.core.entries i) j)) i (other_left i) h.tasks p.core.tasks free.keeps s.tasks;
    made = s.made;
    started = s.started;
    main = s.main;
    ports = s.ports;
    requests = s.requests;
  }
