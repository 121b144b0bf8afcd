-- A new actor in memory, with its arguments in its first places, is one in the process.
use Rattle.std.proofs.Common.{◌≡◌, ◌≤◌, ℕ, suc, ◌+◌, List, [], ◌∷◌, ◌++◌, map, length, refl, sym, ap, ◌∙◌, subst, arith}
use Rattle.std.specs.Prelude.{max, slice_get, drop}
use Rattle.std.specs.Option.{option_map}
use Rattle.std.specs.declared.option.Option.{Option}
use Rattle.std.specs.declared.option.Option.TheVariants.{None, Some}
use Rattle.flow_value.specs.declared.value.Kind.TheVariants as kind
use Rattle.flow_value.specs.declared.value.Value.{Value}
use Rattle.flow_value.specs.declared.value.Outcome.{Outcome}
use Rattle.flow_value.specs.Values.{ValueTree, refs_of}
use Rattle.flow_value.specs.View.{value_of}
use Rattle.flow_class.specs.Classes.{ClassTree, RawTree}
use Rattle.flow_trace.specs.declared.line.Line.{Line}
use Rattle.flow_numbered.specs.Numbered as stored
use Rattle.flow_cell.specs.Cells.{CellTree}
use Rattle.flow_frame.specs.Frames.{padded, holding}
use Rattle.flow_cancel.specs.Heap.{HeapTree, cell_id, next_actor, with_new, new_note, started_holding}
use Rattle.flow_numbered.specs.Numbered.{thing, added}
use Rattle.flow_meaning.specs.Cells.{Side, PromiseSide}
use Rattle.flow_meaning.specs.Requests.{Spot}
use Rattle.flow_meaning.specs.Process.{Entry, Proc}
use Rattle.flow_meaning.specs.References.{Scan, count, count_maybe, refs_in}
use Rattle.flow_meaning.specs.Orderly.{Rising}
use Rattle.flow_meaning.specs.Step.{kept_by, entry_of}
use Rattle.flow_meaning.specs.Views.{spot_at}
use Rattle.flow_meaning.specs.Class.{begun}
use Rattle.flow_meaning.specs.Frame.{Frame, blanks}
use Rattle.flow_meaning.proofs.Posture.{thing_added}
use Rattle.flow_heap_refinement.specs.Representing.{cell_number, Represents, OneActor, stands, here, wait_spot, spot_of_actor}
use Rattle.flow_heap_refinement.specs.Acting.{Free, with_actor}
use Rattle.flow_heap_refinement.specs.References.{frame_holds}
use Rattle.flow_heap_refinement.specs.Holds.{with_refs, hold}
use Rattle.flow_heap_refinement.proofs.Tasks.{tasks_aside}
use Rattle.flow_heap_refinement.proofs.Waits.{cells_aside}
use Rattle.flow_heap_refinement.proofs.Actors.{ActorsRepresent, actor_added}
use Rattle.flow_heap_refinement.proofs.Finds.{none_above}
use Rattle.flow_heap_refinement.proofs.Holding.{all_held, memory_held}
use Rattle.flow_heap_refinement.proofs.Sums.{count_joined}
use Rattle.flow_heap_refinement.proofs.Referring.{of_new_actor}
use Rattle.flow_steps.specs.declared.process.Process.{Process}
use Rattle.flow_steps.specs.Holding.{on_heap}
use Rattle.flow_steps.specs.Acting.{some_values}
use Rattle.flow_operation_refinement.specs.Matching.{ProcessRepresents}
use Rattle.flow_operation_refinement.proofs.Working.{changed, ref_held}
use Rattle.flow_step_refinement.specs.Effects.Starting as law

-- the places of a frame that begins: arguments, and then nothing
none_in : {A : Type 0} (xs : List A) → map (option_map value_of) (padded (length xs) []) ≡ blanks xs
none_in [] = refl
none_in (x ∷ xs) = ap (λ zs. None ∷ zs) (none_in xs)

none_over : {A B : Type 0} (xs : List A) (ys : List B) → map (option_map value_of) (padded (length xs + length ys) []) ≡ blanks xs ++ blanks ys
none_over [] ys = let e : 0 + length ys ≡ length ys = omega arith in ap (λ n. map (option_map value_of) (padded n [])) e ∙ none_in ys
none_over (x ∷ xs) ys =
    let e : suc (length xs) + length ys ≡ suc (length xs + length ys) = omega arith in
    ap (λ n. map (option_map value_of) (padded n [])) e ∙ ap (λ zs. None ∷ zs) (none_over xs ys)

filled_in : {A B : Type 0} (vs : List Value) (xs : List A) (ys : List B) → length vs ≤ length xs
    → map (option_map value_of) (padded (length xs + length ys) (some_values vs)) ≡ (map Some (map value_of vs) ++ blanks (drop (length vs) xs)) ++ blanks ys
filled_in [] xs ys l = none_over xs ys
filled_in (v ∷ vs) [] ys l = absurd (omega (arith, l))
filled_in (v ∷ vs) (x ∷ xs) ys l =
    let e : suc (length xs) + length ys ≡ suc (length xs + length ys) = omega arith in
    ap (λ n. map (option_map value_of) (padded n (some_values (v ∷ vs)))) e ∙ ap (λ zs. Some (value_of v) ∷ zs) (filled_in vs xs ys (omega (arith, l)))

as_many : {A : Type 0} (xs : List A) → length (blanks xs) ≡ length xs
as_many [] = refl
as_many (x ∷ xs) = ap suc (as_many xs)

filled_length : {A : Type 0} (vs : List Value) (xs : List A) → length vs ≤ length xs → length (map Some (map value_of vs) ++ blanks (drop (length vs) xs)) ≡ length xs
filled_length [] xs l = as_many xs
filled_length (v ∷ vs) [] l = absurd (omega (arith, l))
filled_length (v ∷ vs) (x ∷ xs) l = ap suc (filled_length vs xs (omega (arith, l)))

-- and what they hold
blank_held : {A : Type 0} (s : Side) (j : ℕ) (xs : List A) → all_held s j (blanks xs) ≡ 0
blank_held s j [] = refl
blank_held s j (x ∷ xs) = let a = blank_held s j xs in omega (arith, a)

args_held : {A : Type 0} (s : Side) (j : ℕ) (us : List ValueTree) (xs : List A) → all_held s j (map Some us ++ blanks xs) ≡ count s j (refs_in us)
args_held s j [] xs = blank_held s j xs
args_held s j (u ∷ us) xs =
    let a = args_held s j us xs in
    let b = count_joined s j (refs_of u) (refs_in us) in
    let c = count_joined s j (refs_of u) [] in omega (arith, a, b, c)

begun_holds : (s : Side) (j : ℕ) (c : ClassTree) (us : List ValueTree) → frame_holds s j (begun c us) ≡ count s j (refs_in us)
begun_holds s j c us =
    let a = memory_held s j (begun c us).mem in
    let b = blank_held s j c.locals in
    let d = args_held s j us (drop c.params c.slots) in omega (arith, a, b, d)

-- memory with one actor more
abbrev entered : (class places : ℕ) (result : Option ℕ) → List Value → HeapTree → HeapTree
entered class places result vs h = record h {
  frames = with_new h.frames (next_actor h) (holding class places (some_values vs));
  actors = with_new h.actors (next_actor h) (new_note (option_map cell_id result));
}

module _ (r : RawTree) (h : HeapTree) (p : Proc Frame) where
  abbrev spots : ℕ → Spot
  spots = spot_of_actor p.actors

  abbrev kept : ℕ → ℕ
  kept i = kept_by (thing p.core.entries i)

  numbered : (o : Option ℕ) → o ≡ option_map cell_number (option_map cell_id o)
  numbered None = refl
  numbered (Some k) = refl

  new_actor : (class places : ℕ) (result : Option ℕ) (c : ClassTree) (vs : List Value) → slice_get r.classes class ≡ Some c → places ≡ length c.slots + length c.locals → length vs ≤ length c.slots
      → length vs ≡ c.params
      → OneActor r (new_note (option_map cell_id result)) (holding class places (some_values vs)) (entry_of class result) (begun c (map value_of vs))
  new_actor class places result c vs e n l taken = record {
    class = refl;
    result = numbered result;
    marked = refl;
    frame = stands (record {
      code = e;
      places = ap (λ z. map (option_map value_of) (padded z (some_values vs))) n ∙ filled_in vs c.slots c.locals l
          ∙ ap (λ z. (map Some (map value_of vs) ++ blanks (drop z c.slots)) ++ blanks c.locals) taken;
      slots = ap (λ z. length (map Some (map value_of vs) ++ blanks (drop z c.slots))) (sym taken) ∙ filled_length vs c.slots l;
      position = here refl refl refl;
      callbacks = refl;
      suspended = refl;
      spot = λ x. absurd (cc);
    });
  }

  other_new : (e : Entry) (f : Frame) (j : ℕ) → (suc p.core.started ≡ j → ⊥)
      → (spot_of_actor (added p.actors (suc p.core.started) f) j ≡ spots j) × (kept_by (thing (added p.core.entries (suc p.core.started) e) j) ≡ kept j)
  other_new e f j n = (ap (spot_at wait_spot) (thing_added p.actors (suc p.core.started) j f n), ap kept_by (thing_added p.core.entries (suc p.core.started) j e n))

  next_number : (a b c d : ℕ) → c ≡ suc (max a b) → c ≡ suc d → suc (max c c) ≡ suc (suc d)
  next_number a b c d e f = grind arith

  entered_shown : (class places : ℕ) (result : Option ℕ) (c : ClassTree) (vs : List Value) → Represents r h p → slice_get r.classes class ≡ Some c → places ≡ length c.slots + length c.locals
      → length vs ≤ length c.slots → length vs ≡ c.params → Rising 0 p.core.started p.core.entries → Free (suc p.core.started) p.core
      → Represents r (entered class places result vs h) (with_actor class result (begun c (map value_of vs)) p)
  entered_shown class places result c vs s e n l taken rising free =
      let i = suc p.core.started in
      let f = begun c (map value_of vs) in
      let g = entry_of class result in record {
        cells = cells_aside spots (spot_of_actor (added p.actors i f)) i (λ j d. (other_new g f j d).0) h.cells.things h.streams.things p.core.cells free.waits s.cells;
        actors = subst (λ x. ActorsRepresent r (stored.added h.actors.things x (new_note (option_map cell_id result))) (stored.added h.frames.things x (holding class places (some_values vs)))
            (added p.core.entries i g) (added p.actors i f)) (sym s.started)
            (actor_added r h.actors.things h.frames.things p.core.entries p.actors s.actors i (none_above p.core.entries 0 p.core.started i rising (omega arith)) (new_note (option_map cell_id result))
            (holding class places (some_values vs)) g f
            (new_actor class places result c vs e n l taken));
        tasks = tasks_aside spots (spot_of_actor (added p.actors i f)) kept (λ j. kept_by (thing (added p.core.entries i g) j)) i (other_new g f) h.tasks p.core.tasks free.keeps s.tasks;
        made = s.made;
        started = next_number h.actors.greatest h.frames.greatest (next_actor h) p.core.started refl s.started;
        main = s.main;
        ports = s.ports;
        requests = s.requests;
      }

-- the promise of its result counts, where it has one
held_first : (class places k : ℕ) (vs : List Value) (h : HeapTree) (o : Option (CellTree Outcome)) → stored.thing h.cells.things k ≡ o
    → entered class places (Some k) vs (hold kind.Promise k h) ≡ started_holding class places (some_values vs) (Some (cell_id k)) h
held_first class places k vs h None e = cc (e)
held_first class places k vs h (Some m) e = cc (e)

module _ (r : RawTree) (ls : List Line) (x : Scan) (m : Process) (p : Proc Frame) where
  -- an actor comes, with its arguments and its result from hand
  came_in : (y : Scan) (class places : ℕ) (result : Option ℕ) (c : ClassTree) (vs : List Value) → ProcessRepresents r ls y m p → slice_get r.classes class ≡ Some c
      → places ≡ length c.slots + length c.locals → length vs ≤ length c.slots → length vs ≡ c.params → Rising 0 p.core.started p.core.entries → Free (suc p.core.started) p.core
      → ((z : Side) (j : ℕ) → y z j ≡ count_maybe z j PromiseSide result + count z j (refs_in (map value_of vs)) + x z j)
      → ProcessRepresents r ls x (on_heap (entered class places result vs) m) (with_actor class result (begun c (map value_of vs)) p)
  came_in y class places result c vs s e n l taken rising free hand =
      let us = map value_of vs in
      changed r ls y x m p (with_actor class result (begun c us) p) (entered class places result vs m.heap) s
      (record {
        shows = entered_shown r m.heap p class places result c vs s.holds.shows e n l taken rising free;
        counted = λ z j.
            let a = of_new_actor p z j (suc p.core.started) (entry_of class result) (begun c us) in
            let b = begun_holds z j c us in
            let g = hand z j in
            let d = s.holds.counted z j in omega (arith, a, b, d, g);
      }) refl refl refl

module _ (r : RawTree) (ls : List Line) (x : Scan) (m : Process) (p : Proc Frame) where
  pub actor_holds : law.ActorHolds r ls x m p
  actor_holds class places None c vs s e n l taken rising free there =
      came_in r ls x m p (with_refs (refs_in (map value_of vs)) x) class places None c vs s e n l taken rising free (λ z j. omega arith)
  actor_holds class places (Some k) c vs s e n l taken rising free there =
      let held = ref_held r ls (with_refs (refs_in (map value_of vs)) x) m p (kind.Promise, k) s (there k refl) in
      subst (λ z. ProcessRepresents r ls x (record m { heap = z }) (with_actor class (Some k) (begun c (map value_of vs)) p)) (held_first class places k vs m.heap (stored.thing m.heap.cells.things k) refl)
      (came_in r ls x (on_heap (hold kind.Promise k) m) p (with_refs ((kind.Promise, k) ∷ []) (with_refs (refs_in (map value_of vs)) x)) class places (Some k) c vs held e n l taken rising free
      (λ z j. omega arith))
