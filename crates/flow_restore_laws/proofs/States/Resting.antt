-- A heap at rest rests with its parts, and counts each reference in them and no other.
use Rattle.std.proofs.Common.{◌≡◌, ℕ, true, List, [], ◌∷◌, map, IsSome, refl, sym, ap, ap₂, ◌∙◌, subst, arith}
use Rattle.std.specs.List.{AllByRecursion}
use Rattle.std.specs.declared.option.Option.{Option}
use Rattle.std.specs.declared.option.Option.TheVariants.{None, Some}
use Rattle.flow_value.specs.declared.value.Kind.TheVariants as kind
use Rattle.flow_value.specs.declared.value.Value.{Value}
use Rattle.flow_value.specs.declared.value.Outcome.{Outcome}
use Rattle.flow_class.specs.Classes.{RawTree}
use Rattle.flow_numbered.specs.Numbered.{Numbered, thing, IsRising}
use Rattle.flow_cell.specs.Cells.{CellTree}
use Rattle.flow_stream.specs.Streams.{StreamTree}
use Rattle.flow_frame.specs.Frames.{FrameTree}
use Rattle.flow_cancel.specs.declared.task.Task as stack
use Rattle.flow_cancel.specs.declared.actors.Note.{Note}
use Rattle.flow_cancel.specs.Heap.{HeapTree, has_number}
use Rattle.flow_heapstate.specs.State.{parts_of, NumbersRise, IsAtRest, Rests}
use Rattle.flow_heapstate.specs.Referring.{references}
use Rattle.flow_heapstate.specs.Sound.{cell_times, stream_times, RestsWith}
use Rattle.flow_heapstate.proofs.Numbers.{all_there}
use Rattle.flow_heapstate.proofs.Recounting.{counts_same}
use Rattle.flow_meaning.specs.Requests.{Spot}
use Rattle.flow_meaning.specs.Cells.{PromiseSide, FutureSide, Cell, Single, Stream, is_some}
use Rattle.flow_meaning.specs.Process.{Task, Proc}
use Rattle.flow_meaning.specs.Dropping.{port_of}
use Rattle.flow_meaning.specs.Frame.{Frame}
use Rattle.flow_meaning.proofs.InOrder.{no_thing}
use Rattle.flow_heap_refinement.specs.Counted.{count_at}
use Rattle.flow_heap_refinement.specs.Rested.{has}
use Rattle.flow_heap_refinement.specs.Representing.{TasksRepresent, ActorRepresents, nobody, somebody}
use Rattle.flow_restore_laws.specs.States.Heaps.{Fitting}
use Rattle.flow_restore_laws.proofs.States.Totals.{all_by, rising}
use Rattle.flow_restore_laws.proofs.States.Standing.{no_true, unmarked, unset_is, stream_is, single_at, single_back, stream_at, stream_back, actor_stands}
use Rattle.flow_restore_laws.proofs.States.Counting.{noted_has}
use Rattle.flow_restore_laws.proofs.States.Times.{times_counted}

-- each number that is there
some_there : {A : Type 0} (o : Option A) (a : A) → o ≡ Some a → IsSome o
some_there o a e = subst IsSome (sym e) refl

-- what holds of the thing at each number holds of all
same_list : {A : Type 0} (xs : List A) → map (λ x. x) xs ≡ xs
same_list [] = refl
same_list (x ∷ xs) = ap (λ ys. x ∷ ys) (same_list xs)

pub all_things : {A : Type 0} (Q : ℕ × A → Type 0) (xs : Numbered A) (most : ℕ) → IsRising 0 xs most → ((k : ℕ) (a : A) → thing xs k ≡ Some a → Q (k, a)) → AllByRecursion Q xs
all_things Q xs most up g = subst (AllByRecursion Q) (same_list xs) (all_by Q (λ x. x) xs 0 most (rising 0 most most xs up (omega arith)) g)

module _ (r : RawTree) (h : HeapTree) (p : Proc Frame) (f : Fitting r h p) where
  no_task : h.tasks ≡ []
  no_task = by_tasks _ _ h.tasks p.core.tasks f.rested.rest.no_tasks f.rested.running.shows.tasks
    where
      by_tasks : (spots : ℕ → Spot) (kept : ℕ → ℕ) (ts : List stack.Task) (us : List Task) → us ≡ [] → TasksRepresent spots kept ts us → ts ≡ []
      by_tasks spots kept [] us e s = refl
      by_tasks spots kept (t ∷ ts) [] e s = absurd s
      by_tasks spots kept (t ∷ ts) (u ∷ us) e s = absurd (cc (e))

  at_rest : (i : ℕ) (m : FrameTree Value) → thing h.frames.things i ≡ Some m → IsAtRest h (i, m)
  at_rest i m e =
      let a = actor_stands r h p f i m e in
      (a.note, a.noted, sym a.same.marked ∙ unmarked r h p f i m a, a.stands.suspended ∙ a.asleep)

  framed : (i : ℕ) (n : Note) → thing h.actors.things i ≡ Some n → IsSome (thing h.frames.things i)
  framed i n e = by_case (f.rested.running.shows.actors i)
    where
      by_case : ActorRepresents r (thing h.actors.things i) (thing h.frames.things i) (thing p.core.entries i) (thing p.actors i) → IsSome (thing h.frames.things i)
      by_case (nobody a b c d) = absurd (no_thing (sym a ∙ e))
      by_case (somebody s) = some_there (thing h.frames.things i) s.memory s.framed

  ported : (k : ℕ) → has_number h.ports k ≡ true → IsSome (thing h.streams.things k)
  ported k e = by_port (port_of k p.core.ports) refl (sym (f.rested.running.shows.ports k) ∙ e)
    where
      by_port : (o : Option ℕ) → port_of k p.core.ports ≡ o → is_some o ≡ true → IsSome (thing h.streams.things k)
      by_port None z t = absurd (no_true t)
      by_port (Some q) z t =
          let s = stream_is (thing p.core.cells k) (f.rested.running.owned.port q k z).0 in
          let m = stream_back r h p f k s.0 s.1 s.2 s.3 in some_there (thing h.streams.things k) m.0 m.1

  requested : (k : ℕ) → has_number h.requests k ≡ true → IsSome (thing h.cells.things k)
  requested k e =
      let own = f.rested.running.owned.request k (ap (has k) f.rested.running.shows.requests ∙ sym (noted_has h.requests k) ∙ e) in
      let s = unset_is (thing p.core.cells k) own.0 in
      let m = single_back r h p f k None s.0 s.1 in some_there (thing h.cells.things k) m.0 m.1

  pub numbers_rise : NumbersRise h
  numbers_rise = let s = f.rested.running.sorted in record { cells = s.cells; streams = s.streams; frames = s.frames }

  rests : Rests h
  rests =
      let s = f.rested.running.sorted in
      record {
        no_task = no_task;
        cells_rise = s.cells;
        streams_rise = s.streams;
        frames_rise = s.frames;
        at_rest = all_things (IsAtRest h) h.frames.things h.frames.greatest s.frames at_rest;
        framed = all_things (λ x. IsSome (thing h.frames.things x.0)) h.actors.things h.actors.greatest s.actors framed;
        ports = all_there h.ports (λ k. IsSome (thing h.streams.things k)) ported;
        requests = all_there h.requests (λ k. IsSome (thing h.cells.things k)) requested;
      }

  -- the counts are those of the references among the parts
  cell_counts : (n : ℕ) (c : CellTree Outcome) → thing h.cells.things n ≡ Some c → c.references ≡ cell_times n (references (parts_of h))
  cell_counts n c e =
      let s = single_at r h p f n c e in
      let x : Cell = Single s.content s.waiters in
      let seen = ap₂ (count_at PromiseSide) e s.apart in
      let seen_too = ap₂ (count_at FutureSide) e s.apart in
      let a = f.rested.running.counted PromiseSide n in
      let b = f.rested.running.counted FutureSide n in
      let u = times_counted r h p n x kind.Promise f s.at tt in
      let v = times_counted r h p n x kind.Future f s.at tt in
      counts_same c.references (cell_times n (references (parts_of h))) (omega (arith, seen, a, u)) (omega (arith, seen_too, b, v))

  stream_counts : (n : ℕ) (c : StreamTree Value) → thing h.streams.things n ≡ Some c → c.references ≡ stream_times n (references (parts_of h))
  stream_counts n c e =
      let s = stream_at r h p f n c e in
      let x : Cell = Stream s.queue s.end s.waiter in
      let seen = ap₂ (count_at PromiseSide) s.apart e in
      let seen_too = ap₂ (count_at FutureSide) s.apart e in
      let a = f.rested.running.counted PromiseSide n in
      let b = f.rested.running.counted FutureSide n in
      let u = times_counted r h p n x kind.PromiseStream f s.at tt in
      let v = times_counted r h p n x kind.FutureStream f s.at tt in
      counts_same c.references (stream_times n (references (parts_of h))) (omega (arith, seen, a, u)) (omega (arith, seen_too, b, v))

  pub rests_with : RestsWith (parts_of h) h
  rests_with = record { rests = rests; parts = refl; cells = cell_counts; streams = stream_counts }
