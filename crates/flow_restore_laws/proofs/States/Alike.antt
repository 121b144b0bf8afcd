-- A heap that rests with the parts of another one shows the same process.
use Rattle.std.proofs.Common.{◌≡◌, ℕ, suc, zero, nat_eq, Bool, true, false, List, [], ◌∷◌, refl, sym, ap, ap₂, ◌∙◌, subst, arith, if◌then◌else◌}
use Rattle.std.specs.Prelude.{IsSome, slice_get}
use Rattle.std.proofs.lemmas.Bool.Decides.{nat_tests}
use Rattle.std.specs.List.{AllByRecursion}
use Rattle.std.specs.Option.{option_map}
use Rattle.std.specs.declared.option.Option.{Option}
use Rattle.std.specs.declared.option.Option.TheVariants.{None, Some}
use Rattle.flow_value.specs.declared.value.Value.{Value}
use Rattle.flow_value.specs.declared.value.Outcome.{Outcome}
use Rattle.flow_class.specs.Classes.{RawTree}
use Rattle.flow_numbered.specs.Numbered.{Numbered, thing}
use Rattle.flow_cell.specs.Cells.{CellTree, count_of}
use Rattle.flow_stream.specs.Streams.{StreamTree}
use Rattle.flow_frame.specs.declared.held.Held.{Held}
use Rattle.flow_frame.specs.Frames.{FrameTree}
use Rattle.flow_cancel.specs.declared.actors.Note.{Note}
use Rattle.flow_cancel.specs.Heap.{HeapTree, has_number}
use Rattle.flow_cancel.specs.Leaving.{waits}
use Rattle.flow_heapstate.specs.State.{CellPart, StreamPart, ActorPart, Parts, cell_part, stream_part, actor_part, result_noted, parts_of, IsAtRest, Rests}
use Rattle.flow_heapstate.specs.Referring.{references}
use Rattle.flow_heapstate.specs.Sound.{cell_times, stream_times, cell_at, stream_at, actor_at, SoundHeap, RestsWith}
use Rattle.flow_heapstate.specs.Judging.{is_sound}
use Rattle.flow_heapstate.proofs.Judged.{sound_decided}
use Rattle.flow_meaning.specs.Requests.{Spot}
use Rattle.flow_meaning.specs.Cells.{Side, Cell, Single, Stream}
use Rattle.flow_meaning.specs.Process.{Entry, Proc}
use Rattle.flow_meaning.specs.Step.{kept_by}
use Rattle.flow_meaning.specs.Frame.{Frame}
use Rattle.flow_meaning.proofs.InOrder.{no_thing}
use Rattle.flow_meaning.proofs.Shifts.{same_of}
use Rattle.flow_heap_refinement.specs.Counted.{memory_side, count_at, kept_count}
use Rattle.flow_heap_refinement.specs.Rested.{InNumbers, Sorted, Rested}
use Rattle.flow_heap_refinement.specs.Representing.{cell_number, error_number, spot_of_actor, CellRepresents, Position, here, at_wait, FrameRepresents, stands, ended, ActorRepresents, nobody, somebody, TasksRepresent, Represents}
use Rattle.flow_step_refinement.specs.Resuming.{NoStaleWaits, is_waiting}
use Rattle.flow_steps.specs.declared.process.Process.{Process}
use Rattle.flow_restore_laws.specs.States.Restored.{Increase, HeapInOrder, ProcessesRestored}
use Rattle.flow_restore_laws.proofs.States.Standing.{no_true}
use Rattle.flow_restore_laws.proofs.States.Waiting.{part_at}
use Rattle.flow_restore_laws.proofs.States.Counting.{noted_has}
use Rattle.flow_restore_laws.proofs.States.Ordered.{rises, increase, same_numbers, once, none_noted, restored_in_order}

-- what holds of all holds of the thing at a number
all_at : {A : Type 0} (Q : ℕ × A → Type 0) (xs : Numbered A) → AllByRecursion Q xs → (n : ℕ) (a : A) → thing xs n ≡ Some a → Q (n, a)
all_at Q [] h n a e = absurd (no_thing e)
all_at Q (x ∷ xs) h n a e = by_test (nat_eq n x.0) refl e (λ z. all_at Q xs h.1 n a z)
  where
    by_test : (t : Bool) → nat_eq n x.0 ≡ t → (if t then Some x.1 else thing xs n) ≡ Some a → (thing xs n ≡ Some a → Q (n, a)) → Q (n, a)
    by_test true z e rest = let is : x.0 ≡ n = grind (arith, nat_tests, z) in subst Q (ap₂ (λ m b. (m, b)) is (same_of e)) h.0
    by_test false z e rest = rest e

-- two options that tell the same are there or not, both
data Alike {A P : Type 0} (f g : A → P) (x y : Option A) : Type 0 where
  neither : x ≡ None → y ≡ None → Alike f g x y
  both : (a b : A) → x ≡ Some a → y ≡ Some b → f a ≡ g b → Alike f g x y

alike : {A P : Type 0} (f g : A → P) (x y : Option A) → option_map f x ≡ option_map g y → Alike f g x y
alike f g None None e = neither refl refl
alike f g None (Some b) e = absurd (cc (e))
alike f g (Some a) None e = absurd (cc (e))
alike f g (Some a) (Some b) e = both a b refl refl (same_of e)

-- who waits is in a state, and has a callback
no_state : (state : ℕ) (xs : List Held) → waits state xs ≡ true → state ≡ 0 → ⊥
no_state zero xs e z = no_true e
no_state (suc n) xs e z = omega (arith, z)

pub no_callback : (state : ℕ) (xs : List Held) → waits state xs ≡ true → xs ≡ [] → ⊥
no_callback zero xs e z = no_true e
no_callback (suc n) [] e z = no_true e
no_callback (suc n) (x ∷ xs) e z = absurd (cc (z))

-- each actor at rest waits
pub sleeps : (k : HeapTree) → Rests k → (i : ℕ) (m : FrameTree Value) → thing k.frames.things i ≡ Some m → IsAtRest k (i, m)
sleeps k s i m e = all_at (IsAtRest k) k.frames.things s.at_rest i m e

module _ (h g : HeapTree) (u : RestsWith (parts_of h) h) (t : RestsWith (parts_of h) g) where
  abbrev as_cell : HeapTree → ℕ → CellTree Outcome → CellPart
  as_cell k n m = cell_part k.requests (n, m)

  abbrev as_stream : HeapTree → ℕ → StreamTree Value → StreamPart
  as_stream k n m = stream_part k.ports (n, m)

  abbrev as_actor : HeapTree → ℕ → FrameTree Value → ActorPart
  as_actor k i m = actor_part k.actors.things (i, m)

  cells_alike : (n : ℕ) → Alike (as_cell g n) (as_cell h n) (thing g.cells.things n) (thing h.cells.things n)
  cells_alike n =
      alike (as_cell g n) (as_cell h n) (thing g.cells.things n) (thing h.cells.things n)
      (sym (part_at (λ y. y.cell) (cell_part g.requests) (λ y. refl) g.cells.things n) ∙ ap (λ q. cell_at q n) t.parts ∙ part_at (λ y. y.cell) (cell_part h.requests) (λ y. refl) h.cells.things n)

  streams_alike : (n : ℕ) → Alike (as_stream g n) (as_stream h n) (thing g.streams.things n) (thing h.streams.things n)
  streams_alike n =
      alike (as_stream g n) (as_stream h n) (thing g.streams.things n) (thing h.streams.things n)
      (sym (part_at (λ y. y.cell) (stream_part g.ports) (λ y. refl) g.streams.things n) ∙ ap (λ q. stream_at q n) t.parts ∙ part_at (λ y. y.cell) (stream_part h.ports) (λ y. refl) h.streams.things n)

  actors_alike : (i : ℕ) → Alike (as_actor g i) (as_actor h i) (thing g.frames.things i) (thing h.frames.things i)
  actors_alike i =
      alike (as_actor g i) (as_actor h i) (thing g.frames.things i) (thing h.frames.things i)
      (sym (part_at (λ y. y.actor) (actor_part g.actors.things) (λ y. refl) g.frames.things i) ∙ ap (λ q. actor_at q i) t.parts
      ∙ part_at (λ y. y.actor) (actor_part h.actors.things) (λ y. refl) h.frames.things i)

  -- the cells
  single_shown : (spots : ℕ → Spot) (n : ℕ) (m l : CellTree Outcome) (x : Option Cell) → as_cell g n m ≡ as_cell h n l → CellRepresents spots (Some l) None x → CellRepresents spots (Some m) None x
  single_shown spots n m l None e s = absurd s
  single_shown spots n m l (Some (Single content ws)) e s = (s.0 ∙ sym (ap (λ (q : CellPart). q.content) e), ap (λ (q : CellPart). q.waiters) e ∙ s.1)
  single_shown spots n m l (Some (Stream q y w)) e s = absurd s

  stream_shown : (spots : ℕ → Spot) (n : ℕ) (m l : StreamTree Value) (x : Option Cell) → as_stream g n m ≡ as_stream h n l → CellRepresents spots None (Some l) x → CellRepresents spots None (Some m) x
  stream_shown spots n m l None e s = absurd s
  stream_shown spots n m l (Some (Single content ws)) e s = absurd s
  stream_shown spots n m l (Some (Stream q y w)) e s =
      (s.0 ∙ sym (ap (λ (q : StreamPart). q.queue) e), s.1 ∙ sym (ap (λ (q : StreamPart). option_map error_number q.end) e), ap (λ (q : StreamPart). q.waiter) e ∙ s.2)

  cell_shown : (spots : ℕ → Spot) (n : ℕ) (x : Option Cell) → CellRepresents spots (thing h.cells.things n) (thing h.streams.things n) x
      → CellRepresents spots (thing g.cells.things n) (thing g.streams.things n) x
  cell_shown spots n x s = by_case (cells_alike n) (streams_alike n)
    where
      here_too : {a b : Option (CellTree Outcome)} {c d : Option (StreamTree Value)} → a ≡ b → c ≡ d → CellRepresents spots a c x → CellRepresents spots b d x
      here_too {a} {b} {c} {d} e f s = subst (λ o. CellRepresents spots b o x) f (subst (λ o. CellRepresents spots o c x) e s)

      by_case : Alike (as_cell g n) (as_cell h n) (thing g.cells.things n) (thing h.cells.things n) → Alike (as_stream g n) (as_stream h n) (thing g.streams.things n) (thing h.streams.things n)
          → CellRepresents spots (thing g.cells.things n) (thing g.streams.things n) x
      by_case (neither a b) (neither c d) = here_too (b ∙ sym a) (d ∙ sym c) s
      by_case (both m l a b e) (neither c d) = here_too (sym a) (sym c) (single_shown spots n m l x e (here_too b d s))
      by_case (neither a b) (both m l c d e) = here_too (sym a) (sym c) (stream_shown spots n m l x e (here_too b d s))
      by_case (both m l a b e) (both i j c d f) = absurd (never x (here_too b d s))
        where
          never : (o : Option Cell) → CellRepresents spots (Some l) (Some j) o → ⊥
          never None s = s
          never (Some (Single content ws)) s = s
          never (Some (Stream q y w)) s = s

  -- which numbers are noted
  requests_same : (k : ℕ) → has_number g.requests k ≡ has_number h.requests k
  requests_same k = by_case (cells_alike k)
    where
      by_case : Alike (as_cell g k) (as_cell h k) (thing g.cells.things k) (thing h.cells.things k) → has_number g.requests k ≡ has_number h.requests k
      by_case (neither a b) = none_noted g.cells.things g.requests t.rests.requests k a ∙ sym (none_noted h.cells.things h.requests u.rests.requests k b)
      by_case (both m l a b e) = ap (λ (q : CellPart). q.requested) e

  ports_same : (k : ℕ) → has_number g.ports k ≡ has_number h.ports k
  ports_same k = by_case (streams_alike k)
    where
      by_case : Alike (as_stream g k) (as_stream h k) (thing g.streams.things k) (thing h.streams.things k) → has_number g.ports k ≡ has_number h.ports k
      by_case (neither a b) = none_noted g.streams.things g.ports t.rests.ports k a ∙ sym (none_noted h.streams.things h.ports u.rests.ports k b)
      by_case (both m l a b e) = ap (λ (q : StreamPart). q.port) e

  -- the counts
  count_same : (s : Side) (k : ℕ) → kept_count s k g ≡ kept_count s k h
  count_same s k = by_case (cells_alike k) (streams_alike k)
    where
      by_case : Alike (as_cell g k) (as_cell h k) (thing g.cells.things k) (thing h.cells.things k) → Alike (as_stream g k) (as_stream h k) (thing g.streams.things k) (thing h.streams.things k)
          → kept_count s k g ≡ kept_count s k h
      by_case (neither a b) (neither c d) = ap₂ (count_at s) a c ∙ sym (ap₂ (count_at s) b d)
      by_case (both m l a b e) c =
          ap (λ o. count_at s o (thing g.streams.things k)) a ∙ ap (count_of (memory_side s)) (t.cells k m a ∙ sym (u.cells k l b))
          ∙ sym (ap (λ o. count_at s o (thing h.streams.things k)) b)
      by_case (neither a b) (both m l c d e) =
          ap₂ (count_at s) a c ∙ ap (count_of (memory_side s)) (t.streams k m c ∙ sym (u.streams k l d)) ∙ sym (ap₂ (count_at s) b d)

  -- the actors
  module _ (r : RawTree) where
    frame_shown : (i : ℕ) (m l : FrameTree Value) (e : Entry) (f : Frame) → as_actor g i m ≡ as_actor h i l → waits l.state l.callbacks ≡ true → FrameRepresents r l e f → FrameRepresents r m e f
    frame_shown i m l e f same asleep (ended x) = absurd (no_callback l.state l.callbacks asleep x.callbacks)
    frame_shown i m l e f same asleep (stands x) =
        let class : m.class ≡ l.class = ap (λ (q : ActorPart). q.class) same in
        let state : m.state ≡ l.state = ap (λ (q : ActorPart). q.state) same in
        let callbacks : m.callbacks ≡ l.callbacks = ap (λ (q : ActorPart). q.callbacks) same in
        stands (record {
          code = subst (λ n. slice_is n) (sym class) x.code;
          places = ap (λ (q : ActorPart). q.places) same ∙ x.places;
          slots = x.slots;
          position = by_position state x.position;
          callbacks = callbacks ∙ x.callbacks;
          suspended = ap₂ waits state callbacks ∙ x.suspended;
          spot = x.spot;
        })
      where
        slice_is : ℕ → Type 0
        slice_is n = slice_get r.classes n ≡ Some f.code

        by_position : m.state ≡ l.state → Position l f → Position m f
        by_position z (here a b c) = absurd (no_state l.state l.callbacks asleep a)
        by_position z (at_wait k a b) = at_wait k (z ∙ a) (z ∙ b)

    actor_shown : (i : ℕ) (e : Option Entry) (f : Option Frame) → ActorRepresents r (thing h.actors.things i) (thing h.frames.things i) e f
        → ActorRepresents r (thing g.actors.things i) (thing g.frames.things i) e f
    actor_shown i e f s = by_case (actors_alike i) s
      where
        nobody_noted : (o : Option Note) → thing g.actors.things i ≡ o → thing g.frames.things i ≡ None → o ≡ None
        nobody_noted None a b = refl
        nobody_noted (Some n) a b = absurd (no_true (subst IsSome b (all_at (λ x. IsSome (thing g.frames.things x.0)) g.actors.things t.rests.framed i n a)))

        by_case : Alike (as_actor g i) (as_actor h i) (thing g.frames.things i) (thing h.frames.things i) → ActorRepresents r (thing h.actors.things i) (thing h.frames.things i) e f
            → ActorRepresents r (thing g.actors.things i) (thing g.frames.things i) e f
        by_case (neither a b) (nobody c d x y) = nobody (nobody_noted (thing g.actors.things i) refl a) a x y
        by_case (neither a b) (somebody x) = absurd (no_thing (sym b ∙ x.framed))
        by_case (both m l a b same) (nobody c d x y) = absurd (no_thing (sym d ∙ b))
        by_case (both m l a b same) (somebody x) =
            let new = sleeps g t.rests i m a in
            let old = sleeps h u.rests i l b in
            let memory : x.memory ≡ l = same_of (sym x.framed ∙ b) in
            let note : x.note ≡ old.0 = same_of (sym x.noted ∙ old.1) in
            let result : new.0.result ≡ x.note.result =
            sym (ap result_noted new.1) ∙ ap (λ (q : ActorPart). q.result) same ∙ ap result_noted x.noted in
            let class : x.entry.class ≡ l.class = x.same.class ∙ ap (λ (z : FrameTree Value). z.class) memory in
            somebody (record {
              note = new.0;
              memory = m;
              entry = x.entry;
              frame = x.frame;
              noted = new.1;
              framed = a;
              entered = x.entered;
              acting = x.acting;
              same = record {
                class = class ∙ sym (ap (λ (q : ActorPart). q.class) same);
                result = x.same.result ∙ ap (option_map cell_number) (sym result);
                marked = x.same.marked ∙ ap (λ (z : Note). z.marked) note ∙ old.2 ∙ sym new.2;
                frame = frame_shown i m l x.entry x.frame same old.3 (subst (λ z. FrameRepresents r z x.entry x.frame) memory x.same.frame);
              };
            })

    pub shown_again : (p : Proc Frame) → Represents r h p → InNumbers p.core → HeapInOrder g → Represents r g p
    shown_again p s numbers order = record {
      cells = λ k. cell_shown (spot_of_actor p.actors) k (thing p.core.cells k) (s.cells k);
      actors = λ i. actor_shown i (thing p.core.entries i) (thing p.actors i) (s.actors i);
      tasks = subst (λ ts. TasksRepresent (spot_of_actor p.actors) (λ i. kept_by (thing p.core.entries i)) ts p.core.tasks) (u.rests.no_task ∙ sym t.rests.no_task) s.tasks;
      made = ap (λ (q : Parts). suc q.cells_made) t.parts ∙ s.made;
      started = ap (λ (q : Parts). suc q.actors_made) t.parts ∙ s.started;
      main = s.main ∙ ap (λ (q : Parts). option_map cell_number q.main) (sym t.parts);
      ports = λ k. ports_same k ∙ s.ports k;
      requests = s.requests ∙ same_numbers h.requests g.requests (subst Increase s.requests (increase 0 p.core.requests (rises 0 p.core.made p.core.requests numbers.requests))) order.requests
          (λ k. sym (noted_has h.requests k) ∙ sym (requests_same k) ∙ noted_has g.requests k);
    }

    pub poised_again : NoStaleWaits g
    poised_again i a e = is_waiting (sleeps g t.rests i a e).3

    pub sorted_again : HeapInOrder g → Sorted g
    sorted_again order = record {
      cells = t.rests.cells_rise;
      streams = t.rests.streams_rise;
      actors = order.actors;
      frames = t.rests.frames_rise;
      ports = once g.ports order.ports;
    }

    pub rested_again : (p : Proc Frame) → Rested r h p → HeapInOrder g → Rested r g p
    rested_again p s order = record {
      running = record {
        shows = shown_again p s.running.shows s.running.numbers order;
        counted = λ x k. count_same x k ∙ s.running.counted x k;
        agree = s.running.agree;
        orderly = s.running.orderly;
        numbers = s.running.numbers;
        sorted = sorted_again order;
        owned = s.running.owned;
        cared = s.running.cared;
        referenced = s.running.referenced;
      };
      rest = s.rest;
      referred = s.referred;
    }

-- the process
pub processes_restored : ProcessesRestored
processes_restored r m n p s told made =
    let h = m.process.heap in
    let g = n.process.heap in
    let again : RestsWith (parts_of h) g = subst (λ q. RestsWith q g) made.told made.rests.heap in
    let filled = restored_in_order made.state (subst SoundHeap (sym made.told) told.sound) in
    let rested = rested_again h g told.rests again r p s.rested (subst HeapInOrder (sym made.made) filled.1) in
    let sound : SoundHeap (parts_of g) = subst SoundHeap (sym again.parts) told.sound in (
      record {
        settled = record {
          resting = record {
            shown = record {
              holds = record { shows = rested.running.shows; counted = rested.running.counted };
              asked = ap (λ (x : Process). x.asked) made.rests.process;
            };
            sorted = rested.running.sorted;
            poised = poised_again h g told.rests again r;
          };
          tasks = s.settled.tasks;
        };
        rested = rested;
      },
      record {
        rise = record { cells = again.rests.cells_rise; streams = again.rests.streams_rise; frames = again.rests.frames_rise };
        sound = sound;
        judged = (sound_decided (parts_of g) (is_sound (parts_of g)) refl).1 sound;
        rests = record {
          rests = again.rests;
          parts = refl;
          cells = λ k c e. again.cells k c e ∙ ap (λ q. cell_times k (references q)) (sym again.parts);
          streams = λ k c e. again.streams k c e ∙ ap (λ q. stream_times k (references q)) (sym again.parts);
        };
      },
    )
