-- What stands at a number of a heap at rest, and in the process that it shows.
use Rattle.std.proofs.Common.{◌≡◌, ℕ, true, false, List, map, refl, sym, ◌∙◌, subst, Bool}
use Rattle.std.specs.Prelude.{slice_get}
use Rattle.std.specs.Option.{option_map}
use Rattle.std.specs.declared.option.Option.{Option}
use Rattle.std.specs.declared.option.Option.TheVariants.{None, Some}
use Rattle.flow_value.specs.declared.value.Value.{Value}
use Rattle.flow_value.specs.declared.value.Outcome.{Outcome}
use Rattle.flow_value.specs.Values.{ValueTree, OutcomeTree}
use Rattle.flow_value.specs.View.{value_of, outcome_of}
use Rattle.flow_class.specs.Classes.{ClassTree, RawTree}
use Rattle.flow_numbered.specs.Numbered.{thing}
use Rattle.flow_cell.specs.Cells.{CellTree}
use Rattle.flow_stream.specs.Streams.{StreamTree}
use Rattle.flow_frame.specs.Frames.{FrameTree}
use Rattle.flow_cancel.specs.declared.actors.Note.{Note}
use Rattle.flow_cancel.specs.Heap.{HeapTree}
use Rattle.flow_meaning.specs.Requests.{Spot}
use Rattle.flow_meaning.specs.Cells.{Waiter, Cell, Single, Stream}
use Rattle.flow_meaning.specs.Process.{Entry, Proc}
use Rattle.flow_meaning.specs.Orderly.{tasks_of}
use Rattle.flow_meaning.specs.Frame.{Frame}
use Rattle.flow_meaning.proofs.InOrder.{no_thing}
use Rattle.flow_meaning.proofs.Shifts.{same_of}
use Rattle.flow_heap_refinement.specs.Representing.{error_number, spot_of_actor, waiter_in, CellRepresents, ActorRepresents, nobody, somebody, OneActor, FrameRepresents, stands, ended, LiveFrameRepresents}
use Rattle.flow_heap_refinement.specs.Rested.{IsUnset, IsStream}
use Rattle.flow_progress.specs.Places.{HoldsTypes}
use Rattle.flow_progress.specs.Fitting.{typed_by, PostureFits, ActorAt, ActorFits}
use Rattle.flow_restore_laws.specs.States.Heaps.{Fitting}

pub no_true : false ≡ true → ⊥
no_true e = cc

-- a cell that is an unset single result, and one that is a stream
pub unset_is : (x : Option Cell) → IsUnset x → (ws : List Waiter) × (x ≡ Some (Single None ws))
unset_is None u = absurd u
unset_is (Some (Single None ws)) u = (ws, refl)
unset_is (Some (Single (Some o) ws)) u = absurd u
unset_is (Some (Stream q e w)) u = absurd u

pub stream_is : (x : Option Cell) → IsStream x → (q : List ValueTree) × (e : Option ℕ) × (w : Option Waiter) × (x ≡ Some (Stream q e w))
stream_is None u = absurd u
stream_is (Some (Single o ws)) u = absurd u
stream_is (Some (Stream q e w)) u = (q, e, w, refl)

module _ (r : RawTree) (h : HeapTree) (p : Proc Frame) (f : Fitting r h p) where
  abbrev pub spots : ℕ → Spot
  spots = spot_of_actor p.actors

  -- a single result
  pub record SingleAt (n : ℕ) (m : CellTree Outcome) : Type 0 where
    pub content : Option OutcomeTree
    pub waiters : List Waiter
    pub at : thing p.core.cells n ≡ Some (Single content waiters)
    pub apart : thing h.streams.things n ≡ None
    pub content_is : content ≡ option_map outcome_of m.content
    pub waiters_are : m.waiters ≡ map (waiter_in spots) waiters

  pub single_at : (n : ℕ) (m : CellTree Outcome) → thing h.cells.things n ≡ Some m → SingleAt n m
  single_at n m e = by_case (thing h.streams.things n) (thing p.core.cells n) refl refl
      (subst (λ o. CellRepresents spots o (thing h.streams.things n) (thing p.core.cells n)) e (f.rested.running.shows.cells n))
    where
      by_case : (s : Option (StreamTree Value)) (c : Option Cell) → thing h.streams.things n ≡ s → thing p.core.cells n ≡ c → CellRepresents spots (Some m) s c → SingleAt n m
      by_case None None a b s = absurd s
      by_case None (Some (Single content ws)) a b s = record { content = content; waiters = ws; at = b; apart = a; content_is = s.0; waiters_are = s.1 }
      by_case None (Some (Stream q x w)) a b s = absurd s
      by_case (Some t) None a b s = absurd s
      by_case (Some t) (Some (Single content ws)) a b s = absurd s
      by_case (Some t) (Some (Stream q x w)) a b s = absurd s

  pub single_back : (n : ℕ) (content : Option OutcomeTree) (ws : List Waiter) → thing p.core.cells n ≡ Some (Single content ws) → (m : CellTree Outcome) × (thing h.cells.things n ≡ Some m)
  single_back n content ws e = by_case (thing h.cells.things n) (thing h.streams.things n) refl
      (subst (CellRepresents spots (thing h.cells.things n) (thing h.streams.things n)) e (f.rested.running.shows.cells n))
    where
      by_case : (c : Option (CellTree Outcome)) (s : Option (StreamTree Value)) → thing h.cells.things n ≡ c → CellRepresents spots c s (Some (Single content ws))
          → (m : CellTree Outcome) × (thing h.cells.things n ≡ Some m)
      by_case None None a s = absurd s
      by_case None (Some t) a s = absurd s
      by_case (Some m) None a s = (m, a)
      by_case (Some m) (Some t) a s = absurd s

  -- a stream
  pub record StreamAt (n : ℕ) (m : StreamTree Value) : Type 0 where
    pub queue : List ValueTree
    pub end : Option ℕ
    pub waiter : Option Waiter
    pub at : thing p.core.cells n ≡ Some (Stream queue end waiter)
    pub apart : thing h.cells.things n ≡ None
    pub queue_is : queue ≡ map value_of m.queue
    pub end_is : end ≡ option_map error_number m.end
    pub waiter_is : m.waiter ≡ option_map (waiter_in spots) waiter

  pub stream_at : (n : ℕ) (m : StreamTree Value) → thing h.streams.things n ≡ Some m → StreamAt n m
  stream_at n m e = by_case (thing h.cells.things n) (thing p.core.cells n) refl refl
      (subst (λ o. CellRepresents spots (thing h.cells.things n) o (thing p.core.cells n)) e (f.rested.running.shows.cells n))
    where
      by_case : (s : Option (CellTree Outcome)) (c : Option Cell) → thing h.cells.things n ≡ s → thing p.core.cells n ≡ c → CellRepresents spots s (Some m) c → StreamAt n m
      by_case None None a b s = absurd s
      by_case None (Some (Single content ws)) a b s = absurd s
      by_case None (Some (Stream q x w)) a b s = record { queue = q; end = x; waiter = w; at = b; apart = a; queue_is = s.0; end_is = s.1; waiter_is = s.2 }
      by_case (Some t) None a b s = absurd s
      by_case (Some t) (Some (Single content ws)) a b s = absurd s
      by_case (Some t) (Some (Stream q x w)) a b s = absurd s

  pub stream_back : (n : ℕ) (q : List ValueTree) (x : Option ℕ) (w : Option Waiter) → thing p.core.cells n ≡ Some (Stream q x w) → (m : StreamTree Value) × (thing h.streams.things n ≡ Some m)
  stream_back n q x w e = by_case (thing h.cells.things n) (thing h.streams.things n) refl
      (subst (CellRepresents spots (thing h.cells.things n) (thing h.streams.things n)) e (f.rested.running.shows.cells n))
    where
      by_case : (c : Option (CellTree Outcome)) (s : Option (StreamTree Value)) → thing h.streams.things n ≡ s → CellRepresents spots c s (Some (Stream q x w))
          → (m : StreamTree Value) × (thing h.streams.things n ≡ Some m)
      by_case None None a s = absurd s
      by_case None (Some t) a s = (t, a)
      by_case (Some m) None a s = absurd s
      by_case (Some m) (Some t) a s = absurd s

  -- an unfinished actor: it is suspended, and its frame holds what its class says
  pub record ActorStands (i : ℕ) (m : FrameTree Value) : Type 0 where
    pub note : Note
    pub entry : Entry
    pub frame : Frame
    pub noted : thing h.actors.things i ≡ Some note
    pub entered : thing p.core.entries i ≡ Some entry
    pub acting : thing p.actors i ≡ Some frame
    pub same : OneActor r note m entry frame
    pub stands : LiveFrameRepresents r m entry frame
    pub asleep : entry.suspended ≡ true
    pub class : ClassTree
    pub is : slice_get r.classes entry.class ≡ Some class
    pub code : frame.code ≡ class
    pub holds : HoldsTypes r.records (typed_by f.types) frame.code frame.mem

  fits_at : (i : ℕ) (e : Entry) (g : Frame) → thing p.core.entries i ≡ Some e → thing p.actors i ≡ Some g → ActorFits r f.types e g (tasks_of i p.core.tasks)
  fits_at i e g a b =
      subst (λ o. ActorAt r f.types (Some e) o (tasks_of i p.core.tasks)) b
      (subst (λ o. ActorAt r f.types o (thing p.actors i) (tasks_of i p.core.tasks)) a (f.fits.actors i))

  built : (i : ℕ) (m : FrameTree Value) (n : Note) (e : Entry) (g : Frame) → thing h.actors.things i ≡ Some n → thing p.core.entries i ≡ Some e → thing p.actors i ≡ Some g → OneActor r n m e g
      → ActorStands i m
  built i m n e g a b c o =
      let asleep = f.rested.rest.suspended i e b in
      let x = fits_at i e g b c in
      let posture = subst (λ t. PostureFits r f.types t x.class e g (tasks_of i p.core.tasks)) asleep x.posture in
      record {
        note = n;
        entry = e;
        frame = g;
        noted = a;
        entered = b;
        acting = c;
        same = o;
        stands = by_frame asleep o.frame;
        asleep = asleep;
        class = x.class;
        is = x.is;
        code = posture.0;
        holds = posture.1.holds;
      }
    where
      by_frame : e.suspended ≡ true → FrameRepresents r m e g → LiveFrameRepresents r m e g
      by_frame asleep (stands s) = s
      by_frame asleep (ended x) = absurd (no_true (sym x.suspended ∙ asleep))

  pub actor_stands : (i : ℕ) (m : FrameTree Value) → thing h.frames.things i ≡ Some m → ActorStands i m
  actor_stands i m e = by_case (f.rested.running.shows.actors i)
    where
      by_case : ActorRepresents r (thing h.actors.things i) (thing h.frames.things i) (thing p.core.entries i) (thing p.actors i) → ActorStands i m
      by_case (nobody a b c d) = absurd (no_thing (sym b ∙ e))
      by_case (somebody s) =
          built i m s.note s.entry s.frame s.noted s.entered s.acting (subst (λ x. OneActor r s.note x s.entry s.frame) (same_of (sym s.framed ∙ e)) s.same)

  -- it isn't marked
  pub unmarked : (i : ℕ) (m : FrameTree Value) (a : ActorStands i m) → a.entry.marked ≡ false
  unmarked i m a = by_mark a.entry.marked refl
    where
      by_mark : (b : Bool) → a.entry.marked ≡ b → b ≡ false
      by_mark true z = absurd (no_true (sym (f.rested.running.cared.awake i a.entry a.entered z) ∙ a.asleep))
      by_mark false z = refl

  -- where the process has an actor, memory has its frame
  pub actor_back : (i : ℕ) (e : Entry) → thing p.core.entries i ≡ Some e → (m : FrameTree Value) × (thing h.frames.things i ≡ Some m)
  actor_back i e at = by_case (f.rested.running.shows.actors i)
    where
      by_case : ActorRepresents r (thing h.actors.things i) (thing h.frames.things i) (thing p.core.entries i) (thing p.actors i) → (m : FrameTree Value) × (thing h.frames.things i ≡ Some m)
      by_case (nobody a b c d) = absurd (no_thing (sym c ∙ at))
      by_case (somebody s) = (s.memory, s.framed)

  -- where memory has no frame, there is no actor
  pub nobody_there : (i : ℕ) → thing h.frames.things i ≡ None → (thing p.core.entries i ≡ None) × (thing p.actors i ≡ None)
  nobody_there i none = by_case (f.rested.running.shows.actors i)
    where
      by_case : ActorRepresents r (thing h.actors.things i) (thing h.frames.things i) (thing p.core.entries i) (thing p.actors i) → (thing p.core.entries i ≡ None) × (thing p.actors i ≡ None)
      by_case (nobody a b c d) = (c, d)
      by_case (somebody s) = absurd (no_thing (sym none ∙ s.framed))
