-- The parts of a heap at rest are sound.
use Rattle.std.proofs.Common.{◌≡◌, ◌<◌, ◌≤◌, ℕ, ◌+◌, ◌^◌, nat_eq, Bool, true, false, List, [], ◌∷◌, map, length, if◌then◌else◌, IsSome, refl, sym, ap, ◌∙◌, subst, arith, length-append}
use Rattle.std.specs.List.{AllByRecursion}
use Rattle.std.specs.Option.{option_map}
use Rattle.std.specs.declared.option.Option.{Option}
use Rattle.std.specs.declared.option.Option.TheVariants.{None, Some}
use Rattle.flow_base.specs.declared.ids.CellId.{CellId}
use Rattle.flow_value.specs.declared.value.Kind.TheVariants as kind
use Rattle.flow_value.specs.declared.value.Value.{Value}
use Rattle.flow_value.specs.declared.value.Outcome.{Outcome}
use Rattle.flow_value.specs.Values.{ValueTree, OutcomeTree}
use Rattle.flow_value.specs.View.{value_of, outcome_of}
use Rattle.flow_class.specs.Classes.{ClassTree, RawTree}
use Rattle.flow_numbered.specs.Numbered as stored
use Rattle.flow_numbered.specs.Numbered.{Numbered, thing}
use Rattle.flow_cell.specs.declared.waiter.Waiter as memory
use Rattle.flow_cell.specs.Cells.{CellTree}
use Rattle.flow_stream.specs.Streams.{StreamTree}
use Rattle.flow_frame.specs.Frames.{FrameTree}
use Rattle.flow_cancel.specs.Heap.{HeapTree, has_number, last_cell, last_actor}
use Rattle.flow_heapstate.specs.State.{CellPart, StreamPart, cell_part, stream_part, actor_part, place_of, result_noted, parts_of}
use Rattle.flow_heapstate.specs.Referring as parts
use Rattle.flow_heapstate.specs.Referring.{noted, named, result_refs, times}
use Rattle.flow_heapstate.specs.Sound.{RiseTo, cell_at, stream_at, value_refs, results, IsNamed, IsWaiting, SoundCell, SoundStream, OwnResult, SoundActor, SoundHeap}
use Rattle.flow_meaning.specs.Cells as meaning
use Rattle.flow_meaning.specs.Cells.{PromiseSide, FutureSide, Ref, Waiter, Cell, Single, Stream, is_ready, as_list, waiters}
use Rattle.flow_meaning.specs.Process.{Proc}
use Rattle.flow_meaning.specs.References.{one, in_ports}
use Rattle.flow_meaning.specs.Dropping.{port_of}
use Rattle.flow_meaning.specs.Frame.{Frame}
use Rattle.flow_meaning.proofs.Posture.{same_number}
use Rattle.flow_meaning.proofs.InOrder.{no_thing}
use Rattle.flow_meaning.proofs.Shifts.{same_of}
use Rattle.flow_heap_refinement.specs.Counted.{references, waiters_at}
use Rattle.flow_heap_refinement.specs.Holds.{AllThere}
use Rattle.flow_heap_refinement.specs.Losing.{RightCell}
use Rattle.flow_heap_refinement.specs.Rested.{IsUnset, IsStream, has}
use Rattle.flow_heap_refinement.specs.Representing.{cell_number, error_number, waiter_in}
use Rattle.flow_invariants.specs.OpenPorts.{IsOpen, Open}
use Rattle.flow_invariants.specs.Fires.{is_due, NobodyDue}
use Rattle.flow_restore_laws.specs.States.Heaps.{HaveFewerPlaces, Fitting, HeapsSound}
use Rattle.flow_restore_laws.proofs.States.Totals.{all_by, rising}
use Rattle.flow_restore_laws.proofs.States.Standing as standing
use Rattle.flow_restore_laws.proofs.States.Standing.{no_true, unmarked, unset_is, spots, SingleAt, single_at, single_back, StreamAt, stream_back, ActorStands, actor_stands}
use Rattle.flow_restore_laws.proofs.States.Leading.{parts_lead}
use Rattle.flow_restore_laws.proofs.States.Counting.{noted_has}
use Rattle.flow_restore_laws.proofs.States.Times.{among, times_counted, requested_refs, ported_refs, noted_once, promises_split, ports_split}
use Rattle.flow_restore_laws.proofs.States.Waiting.{part_at, waiters_call, callbacks_wait}

-- the numbers of parts rise
rise : {A P : Type 0} (part : ℕ × A → P) (number : P → ℕ) → ((x : ℕ × A) → number (part x) ≡ x.0) → (low most n : ℕ) (xs : Numbered A) → stored.IsRising low xs most → most ≤ n
    → RiseTo low (map number (map part xs)) n
rise part number same low most n [] h l = omega (arith, h, l)
rise part number same low most n (x ∷ xs) h l =
    (subst (λ k. low < k) (sym (same x)) h.0, subst (λ k. RiseTo k (map number (map part xs)) n) (sym (same x)) (rise part number same x.0 most n xs h.1 l))

-- what is set has no waiter, where nobody is due
set_alone : (o : Option OutcomeTree) (ws : List Waiter) → is_due (Some (Single o ws)) ≡ false → IsSome o → ws ≡ []
set_alone None ws e s = absurd (no_true s)
set_alone (Some x) [] e s = refl
set_alone (Some x) (w ∷ ws) e s = absurd (no_true (sym e))

ready_alone : (q : List ValueTree) (e : Option ℕ) (w : Waiter) → is_due (Some (Stream q e (Some w))) ≡ false → (q ≡ []) × (e ≡ None)
ready_alone [] None w d = (refl, refl)
ready_alone [] (Some e) w d = absurd (no_true (sym d))
ready_alone (v ∷ vs) e w d = absurd (no_true (sym d))

-- what memory holds is none where the process has none
none_of : {A B : Type 0} (f : A → B) (o : Option A) → option_map f o ≡ None → o ≡ None
none_of f None e = refl
none_of f (Some a) e = absurd (no_thing (sym e))

some_of : {A B : Type 0} (f : A → B) (o : Option A) → IsSome (option_map f o) → (a : A) × (o ≡ Some a)
some_of f None e = absurd (no_true e)
some_of f (Some a) e = (a, refl)

open_end : (x : Option Cell) → IsOpen x → (q : List ValueTree) (e : Option ℕ) (w : Option Waiter) → x ≡ Some (Stream q e w) → e ≡ None
open_end None u q e w z = absurd u
open_end (Some (Single o ws)) u q e w z = absurd u
open_end (Some (Stream v None y)) u q e w z = cc
open_end (Some (Stream v (Some x) y)) u q e w z = absurd u

-- a port counts
port_counts : (n : ℕ) (xs : Numbered ℕ) → meaning.is_some (port_of n xs) ≡ true → 0 < in_ports PromiseSide n xs
port_counts n [] e = absurd (no_true e)
port_counts n (x ∷ xs) e = by_test (nat_eq n x.1) refl e (port_counts n xs)
  where
    by_test : (t : Bool) → nat_eq n x.1 ≡ t → meaning.is_some (if t then Some x.0 else port_of n xs) ≡ true → (meaning.is_some (port_of n xs) ≡ true → 0 < in_ports PromiseSide n xs)
        → 0 < one PromiseSide n PromiseSide x.1 + in_ports PromiseSide n xs
    by_test true g f rest = let a : one PromiseSide n PromiseSide x.1 ≡ 1 = ap (λ t. if t then 1 else 0) g in omega (arith, a)
    by_test false g f rest = let a = rest f in omega (arith, a)

port_is : (o : Option ℕ) → meaning.is_some o ≡ true → (q : ℕ) × (o ≡ Some q)
port_is None e = absurd (no_true e)
port_is (Some q) e = (q, refl)

module _ (r : RawTree) (h : HeapTree) (p : Proc Frame) (few : HaveFewerPlaces r) (f : Fitting r h p) (due : NobodyDue p.core) (heard : Open p.core) where
  cell_is : (n : ℕ) → cell_at (parts_of h) n ≡ option_map (λ m. cell_part h.requests (n, m)) (thing h.cells.things n)
  cell_is n = part_at (λ y. y.cell) (cell_part h.requests) (λ y. refl) h.cells.things n

  stream_is : (n : ℕ) → stream_at (parts_of h) n ≡ option_map (λ m. stream_part h.ports (n, m)) (thing h.streams.things n)
  stream_is n = part_at (λ y. y.cell) (stream_part h.ports) (λ y. refl) h.streams.things n

  -- each reference leads to what its kind says
  single_named : (n : ℕ) (o : Option OutcomeTree) (ws : List Waiter) → thing p.core.cells n ≡ Some (Single o ws) → IsSome (cell_at (parts_of h) n)
  single_named n o ws e = let m = single_back r h p f n o ws e in subst IsSome (sym (cell_is n ∙ ap (option_map (λ m. cell_part h.requests (n, m))) m.1)) refl

  stream_named : (n : ℕ) (q : List ValueTree) (x : Option ℕ) (w : Option Waiter) → thing p.core.cells n ≡ Some (Stream q x w) → IsSome (stream_at (parts_of h) n)
  stream_named n q x w e = let m = stream_back r h p f n q x w e in subst IsSome (sym (stream_is n ∙ ap (option_map (λ m. stream_part h.ports (n, m))) m.1)) refl

  by_cell : (x : Ref) (c : Cell) → thing p.core.cells x.1 ≡ Some c → RightCell x.0 c → IsNamed (parts_of h) x
  by_cell (kind.Promise, n) (Single o ws) e t = single_named n o ws e
  by_cell (kind.Future, n) (Single o ws) e t = single_named n o ws e
  by_cell (kind.PromiseStream, n) (Stream q x w) e t = stream_named n q x w e
  by_cell (kind.FutureStream, n) (Stream q x w) e t = stream_named n q x w e
  by_cell (kind.Promise, n) (Stream q x w) e t = absurd t
  by_cell (kind.Future, n) (Stream q x w) e t = absurd t
  by_cell (kind.PromiseStream, n) (Single o ws) e t = absurd t
  by_cell (kind.FutureStream, n) (Single o ws) e t = absurd t

  all_named : (rs : List Ref) → AllThere p rs → AllByRecursion (IsNamed (parts_of h)) rs
  all_named [] t = tt
  all_named (x ∷ rs) t = (by_cell x t.0.cell t.0.at t.0.right, all_named rs t.1)

  -- a single result that is unset in the process
  unset_at : (n : ℕ) (m : CellTree Outcome) → thing h.cells.things n ≡ Some m → IsUnset (thing p.core.cells n) → option_map outcome_of m.content ≡ None
  unset_at n m e u =
      let s = single_at r h p f n m e in
      let x = unset_is (thing p.core.cells n) u in
      sym s.content_is ∙ same (same_of (sym s.at ∙ x.1))
    where
      same : {o' : Option OutcomeTree} {w w' : List Waiter} → Single o' w ≡ Single None w' → o' ≡ None
      same z = cc

  sound_cell : (n : ℕ) (m : CellTree Outcome) → thing h.cells.things n ≡ Some m → SoundCell (parts_of h) (cell_part h.requests (n, m))
  sound_cell n m e =
      let s = single_at r h p f n m e in
      let c : Cell = Single s.content s.waiters in
      let promises = times_counted r h p n c kind.Promise f s.at tt in
      let futures = times_counted r h p n c kind.Future f s.at tt in
      let some = f.rested.running.referenced n c s.at in
      record {
        apart = stream_is n ∙ ap (option_map (λ m. stream_part h.ports (n, m))) s.apart;
        referenced = omega (arith, promises, futures, some);
        alone = λ set. s.waiters_are ∙ ap (map (waiter_in (spots r h p f))) (set_alone s.content s.waiters (sym (ap is_due s.at) ∙ due n) (subst IsSome (sym s.content_is) set));
        waiters = subst (AllByRecursion (IsWaiting (parts_of h) n)) (sym s.waiters_are) (waiters_call r h p f n s.waiters (ap waiters_at s.at));
        unset = λ asked. unset_at n m e (own asked).0;
        own = λ asked. let a = once asked in let b = split asked in omega (arith, a, b, promises, (own asked).1);
        unnamed = λ asked. let a = once asked in let b = split asked in omega (arith, a, b, promises, (own asked).1);
      }
    where
      own : has_number h.requests n ≡ true → IsUnset (thing p.core.cells n) × (references PromiseSide n p ≡ 1)
      own asked = f.rested.running.owned.request n (ap (has n) f.rested.running.shows.requests ∙ sym (noted_has h.requests n) ∙ asked)

      -- the request is one of the promises
      once : has_number h.requests n ≡ true → 1 ≤ times kind.Promise n (requested_refs (parts_of h))
      once asked =
          let a = among kind.Promise n (λ (c : CellPart). noted c.requested kind.Promise c.cell) (cell_part h.requests) h.cells.things n m e in
          let b = noted_once kind.Promise n (has_number h.requests n) refl asked in omega (arith, a, b)

      split : has_number h.requests n ≡ true → times kind.Promise n (parts.references (parts_of h))
          ≡ times kind.Promise n (results (parts_of h)) + (times kind.Promise n (value_refs (parts_of h)) + times kind.Promise n (requested_refs (parts_of h)))
      split asked = promises_split n (parts_of h)

  sound_stream : (n : ℕ) (m : StreamTree Value) → thing h.streams.things n ≡ Some m → SoundStream (parts_of h) (stream_part h.ports (n, m))
  sound_stream n m e =
      let s = standing.stream_at r h p f n m e in
      let c : Cell = Stream s.queue s.end s.waiter in
      let promises = times_counted r h p n c kind.PromiseStream f s.at tt in
      let futures = times_counted r h p n c kind.FutureStream f s.at tt in
      let some = f.rested.running.referenced n c s.at in
      record {
        referenced = omega (arith, promises, futures, some);
        alone = λ set. idle s (some_of (waiter_in (spots r h p f)) s.waiter (subst IsSome s.waiter_is set));
        waiter = λ w is. called s w is;
        open_port = λ ported. none_of error_number m.end
            (sym s.end_is ∙ open_end (thing p.core.cells n) (heard n (port_counts n p.core.ports (own_port ported))) s.queue s.end s.waiter s.at);
        unnamed = λ ported. let a = once ported in let b = ports_split n (parts_of h) in let d = (own ported).1 in omega (arith, a, b, promises, d);
      }
    where
      own_port : has_number h.ports n ≡ true → meaning.is_some (port_of n p.core.ports) ≡ true
      own_port ported = sym (f.rested.running.shows.ports n) ∙ ported

      own : has_number h.ports n ≡ true → IsStream (thing p.core.cells n) × (references PromiseSide n p ≡ 1)
      own ported = let q = port_is (port_of n p.core.ports) (own_port ported) in f.rested.running.owned.port q.0 n q.1

      once : has_number h.ports n ≡ true → 1 ≤ times kind.PromiseStream n (ported_refs (parts_of h))
      once ported =
          let a = among kind.PromiseStream n (λ (s : StreamPart). noted s.port kind.PromiseStream s.cell) (stream_part h.ports) h.streams.things n m e in
          let b = noted_once kind.PromiseStream n (has_number h.ports n) refl ported in omega (arith, a, b)

      idle : (s : StreamAt r h p f n m) → (w : Waiter) × (s.waiter ≡ Some w) → (map value_of m.queue ≡ []) × (m.end ≡ None)
      idle s w =
          let d : is_due (Some (Stream s.queue s.end (Some w.0))) ≡ false = sym (ap (λ o. is_due (Some (Stream s.queue s.end o))) w.1) ∙ sym (ap is_due s.at) ∙ due n in
          let a = ready_alone s.queue s.end w.0 d in (sym s.queue_is ∙ a.0, none_of error_number m.end (sym s.end_is ∙ a.1))

      called : (s : StreamAt r h p f n m) (w : memory.Waiter) → m.waiter ≡ Some w → IsWaiting (parts_of h) n w
      called s w is = by_waiter s.waiter (sym s.waiter_is ∙ is) (waiters_call r h p f n (as_list s.waiter) (ap waiters_at s.at))
        where
          by_waiter : (o : Option Waiter) → option_map (waiter_in (spots r h p f)) o ≡ Some w → AllByRecursion (IsWaiting (parts_of h) n) (map (waiter_in (spots r h p f)) (as_list o))
              → IsWaiting (parts_of h) n w
          by_waiter None z t = absurd (no_thing z)
          by_waiter (Some v) z t = subst (IsWaiting (parts_of h) n) (same_of z) t.0

  sound_actor : (i : ℕ) (m : FrameTree Value) → thing h.frames.things i ≡ Some m → SoundActor (parts_of h) (actor_part h.actors.things (i, m))
  sound_actor i m e =
      let a = actor_stands r h p f i m e in
      record {
        suspended = a.stands.suspended ∙ a.asleep;
        callbacks = callbacks_wait r h p f i m e;
        result = λ k is. own a k is;
        few = places a;
      }
    where
      places : (a : ActorStands r h p f i m) → length (map place_of m.places) < 2 ^ 32
      places a =
          let b = ap length a.stands.places in
          let c = length-append a.frame.mem.slots a.frame.mem.locals in
          let d = a.holds.slots in
          let g = a.holds.locals in
          let k = ap (λ (x : ClassTree). length x.slots + length x.locals) a.code in
          let l = few a.entry.class a.class a.is in omega (arith, b, c, d, g, k, l)

      own : (a : ActorStands r h p f i m) (k : CellId) → result_noted (thing h.actors.things i) ≡ Some k → OwnResult (parts_of h) k.0
      own a k is =
          let noted : a.note.result ≡ Some k = sym (ap result_noted a.noted) ∙ is in
          let result : a.entry.result ≡ Some k.0 = a.same.result ∙ ap (option_map cell_number) noted in
          let owned = f.rested.running.owned.result i k.0 a.entry a.entered result in
          let x = unset_is (thing p.core.cells k.0) owned.0 in
          let back = single_back r h p f k.0 None x.0 x.1 in
          let promises = times_counted r h p k.0 (Single None x.0) kind.Promise f x.1 tt in
          let futures = times_counted r h p k.0 (Single None x.0) kind.Future f x.1 tt in
          let split = promises_split k.0 (parts_of h) in
          let mine = once k is in
          let wanted = f.rested.running.cared.wanted i k.0 a.entry a.entered (unmarked r h p f i m a) result in
          record {
            cell = cell_part h.requests (k.0, back.0);
            there = cell_is k.0 ∙ ap (option_map (λ m. cell_part h.requests (k.0, m))) back.1;
            unset = unset_at k.0 back.0 back.1 owned.0;
            own = omega (arith, promises, split, mine, owned.1);
            awaited = omega (arith, futures, wanted);
            unnamed = omega (arith, promises, split, mine, owned.1);
          }
        where
          -- it is one of the promises
          once : (k : CellId) → result_noted (thing h.actors.things i) ≡ Some k → 1 ≤ times kind.Promise k.0 (results (parts_of h))
          once k is =
              let b = among kind.Promise k.0 result_refs (actor_part h.actors.things) h.frames.things i m e in
              let c = ap (λ o. times kind.Promise k.0 (named o kind.Promise)) is in
              let d : times kind.Promise k.0 ((kind.Promise, k.0) ∷ []) ≡ 1 = ap (λ t. if t then 1 else 0) (same_number k.0) in omega (arith, b, c, d)

  heap_sound : SoundHeap (parts_of h)
  heap_sound =
      let sorted = f.rested.running.sorted in
      record {
        cells_rise = rise (cell_part h.requests) (λ c. c.cell) (λ x. refl) 0 h.cells.greatest (last_cell h) h.cells.things sorted.cells (grind arith);
        streams_rise = rise (stream_part h.ports) (λ s. s.cell) (λ x. refl) 0 h.streams.greatest (last_cell h) h.streams.things sorted.streams (grind arith);
        actors_rise = rise (actor_part h.actors.things) (λ a. a.actor) (λ x. refl) 0 h.frames.greatest (last_actor h) h.frames.things sorted.frames (grind arith);
        named = all_named (parts.references (parts_of h)) (parts_lead r h p f);
        cells = all_by (SoundCell (parts_of h)) (cell_part h.requests) h.cells.things 0 h.cells.greatest (rising 0 h.cells.greatest h.cells.greatest h.cells.things sorted.cells (omega arith))
            sound_cell;
        streams = all_by (SoundStream (parts_of h)) (stream_part h.ports) h.streams.things 0 h.streams.greatest
            (rising 0 h.streams.greatest h.streams.greatest h.streams.things sorted.streams (omega arith)) sound_stream;
        actors = all_by (SoundActor (parts_of h)) (actor_part h.actors.things) h.frames.things 0 h.frames.greatest
            (rising 0 h.frames.greatest h.frames.greatest h.frames.things sorted.frames (omega arith)) sound_actor;
      }

pub heaps_sound : HeapsSound
heaps_sound r h p few f due heard = heap_sound r h p few f due heard
