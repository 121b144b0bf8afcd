-- An actor changes in memory and in the process.
use Rattle.std.proofs.Common.{◌≡◌, ℕ}
use Rattle.std.specs.declared.option.Option.{Option}
use Rattle.std.specs.declared.option.Option.TheVariants.{None, Some}
use Rattle.flow_value.specs.declared.value.Value.{Value}
use Rattle.flow_class.specs.Classes.{RawTree}
use Rattle.flow_numbered.specs.Numbered as stored
use Rattle.flow_frame.specs.Frames.{FrameTree}
use Rattle.flow_cancel.specs.declared.actors.Note.{Note}
use Rattle.flow_numbered.specs.Numbered.{Numbered, thing, added, put, removed}
use Rattle.flow_meaning.specs.Process.{Entry}
use Rattle.flow_meaning.specs.Orderly.{Rising}
use Rattle.flow_meaning.specs.Frame.{Frame}
use Rattle.flow_meaning.proofs.Posture.{each_number, thing_put, thing_put_other, thing_added, thing_removed_other}
use Rattle.flow_heap_refinement.specs.Representing.{OneActor, Somebody, ActorRepresents, nobody, somebody}
use Rattle.flow_heap_refinement.proofs.Finds.{stored_other, stored_put, stored_added, stored_new, stored_removed, stored_gone, thing_new, thing_removed}

abbrev pub ActorsRepresent : RawTree → stored.Numbered Note → stored.Numbered (FrameTree Value) → Numbered Entry → Numbered Frame → Type 0
ActorsRepresent r ns ms es fs = (i : ℕ) → ActorRepresents r (stored.thing ns i) (stored.thing ms i) (thing es i) (thing fs i)

-- an actor that stands in one of the four stands in all
module _ (r : RawTree) (n : Option Note) (m : Option (FrameTree Value)) (e : Option Entry) (f : Option Frame) where
  pub by_note : (x : Note) → n ≡ Some x → ActorRepresents r n m e f → Somebody r n m e f
  by_note x h (nobody a b c d) = absurd (cc (h, a))
  by_note x h (somebody s) = s

  pub by_memory : (x : FrameTree Value) → m ≡ Some x → ActorRepresents r n m e f → Somebody r n m e f
  by_memory x h (nobody a b c d) = absurd (cc (h, b))
  by_memory x h (somebody s) = s

  pub by_entry : (x : Entry) → e ≡ Some x → ActorRepresents r n m e f → Somebody r n m e f
  by_entry x h (nobody a b c d) = absurd (cc (h, c))
  by_entry x h (somebody s) = s

  pub by_frame : (x : Frame) → f ≡ Some x → ActorRepresents r n m e f → Somebody r n m e f
  by_frame x h (nobody a b c d) = absurd (cc (h, d))
  by_frame x h (somebody s) = s

  -- and one that doesn't stand among the entries stands nowhere
  pub no_note : e ≡ None → ActorRepresents r n m e f → n ≡ None
  no_note h (nobody a b c d) = a
  no_note h (somebody s) = absurd (let x = s.entered in cc (h, x))

  pub no_memory : e ≡ None → ActorRepresents r n m e f → m ≡ None
  no_memory h (nobody a b c d) = b
  no_memory h (somebody s) = absurd (let x = s.entered in cc (h, x))

  pub no_frame : e ≡ None → ActorRepresents r n m e f → f ≡ None
  no_frame h (nobody a b c d) = d
  no_frame h (somebody s) = absurd (let x = s.entered in cc (h, x))

module _ (r : RawTree) (ns : stored.Numbered Note) (ms : stored.Numbered (FrameTree Value)) (es : Numbered Entry) (fs : Numbered Frame) (all : ActorsRepresent r ns ms es fs) (i : ℕ) where
  -- an actor changes
  pub actor_put : (s : Somebody r (stored.thing ns i) (stored.thing ms i) (thing es i) (thing fs i)) (n : Note) (m : FrameTree Value) (e : Entry) (f : Frame) → OneActor r n m e f
      → ActorsRepresent r (stored.put ns i n) (stored.put ms i m) (put es i e) (put fs i f)
  actor_put s n m e f now =
      each_number i (λ j. ActorRepresents r (stored.thing (stored.put ns i n) j) (stored.thing (stored.put ms i m) j) (thing (put es i e) j) (thing (put fs i f) j))
      (somebody (record {
        note = n;
        memory = m;
        entry = e;
        frame = f;
        noted = stored_put ns i s.note n s.noted;
        framed = stored_put ms i s.memory m s.framed;
        entered = thing_put es i s.entry e s.entered;
        acting = thing_put fs i s.frame f s.acting;
        same = now;
      }))
      (λ j differ. rw (stored_other ns i j n differ, stored_other ms i j m differ, thing_put_other es i j e differ, thing_put_other fs i j f differ) (all j))

  -- what memory notes of it and its frame in the process stay
  pub entry_put : (s : Somebody r (stored.thing ns i) (stored.thing ms i) (thing es i) (thing fs i)) (m : FrameTree Value) (e : Entry) → OneActor r s.note m e s.frame
      → ActorsRepresent r ns (stored.put ms i m) (put es i e) fs
  entry_put s m e now =
      each_number i (λ j. ActorRepresents r (stored.thing ns j) (stored.thing (stored.put ms i m) j) (thing (put es i e) j) (thing fs j))
      (somebody (record {
        note = s.note;
        memory = m;
        entry = e;
        frame = s.frame;
        noted = s.noted;
        framed = stored_put ms i s.memory m s.framed;
        entered = thing_put es i s.entry e s.entered;
        acting = s.acting;
        same = now;
      }))
      (λ j differ. rw (stored_other ms i j m differ, thing_put_other es i j e differ) (all j))

  -- what memory notes of it and its entry change
  pub note_put : (s : Somebody r (stored.thing ns i) (stored.thing ms i) (thing es i) (thing fs i)) (n : Note) (e : Entry) → OneActor r n s.memory e s.frame
      → ActorsRepresent r (stored.put ns i n) ms (put es i e) fs
  note_put s n e now =
      each_number i (λ j. ActorRepresents r (stored.thing (stored.put ns i n) j) (stored.thing ms j) (thing (put es i e) j) (thing fs j))
      (somebody (record {
        note = n;
        memory = s.memory;
        entry = e;
        frame = s.frame;
        noted = stored_put ns i s.note n s.noted;
        framed = s.framed;
        entered = thing_put es i s.entry e s.entered;
        acting = s.acting;
        same = now;
      }))
      (λ j differ. rw (stored_other ns i j n differ, thing_put_other es i j e differ) (all j))

  -- a new actor
  pub actor_added : thing es i ≡ None → (n : Note) (m : FrameTree Value) (e : Entry) (f : Frame) → OneActor r n m e f
      → ActorsRepresent r (stored.added ns i n) (stored.added ms i m) (added es i e) (added fs i f)
  actor_added none n m e f now =
      each_number i (λ j. ActorRepresents r (stored.thing (stored.added ns i n) j) (stored.thing (stored.added ms i m) j) (thing (added es i e) j) (thing (added fs i f) j))
      (somebody (record {
        note = n;
        memory = m;
        entry = e;
        frame = f;
        noted = stored_new ns i n (no_note r (stored.thing ns i) (stored.thing ms i) (thing es i) (thing fs i) none (all i));
        framed = stored_new ms i m (no_memory r (stored.thing ns i) (stored.thing ms i) (thing es i) (thing fs i) none (all i));
        entered = thing_new es i e none;
        acting = thing_new fs i f (no_frame r (stored.thing ns i) (stored.thing ms i) (thing es i) (thing fs i) none (all i));
        same = now;
      }))
      (λ j differ. rw (stored_added ns i j n differ, stored_added ms i j m differ, thing_added es i j e differ, thing_added fs i j f differ) (all j))

  -- an actor is gone
  pub actor_gone : (a b c d : ℕ) → stored.IsRising 0 ns a → stored.IsRising 0 ms b → Rising 0 c es → Rising 0 d fs
      → ActorsRepresent r (stored.removed ns i) (stored.removed ms i) (removed es i) (removed fs i)
  actor_gone a b c d nr mr er fr =
      each_number i (λ j. ActorRepresents r (stored.thing (stored.removed ns i) j) (stored.thing (stored.removed ms i) j) (thing (removed es i) j) (thing (removed fs i) j))
      (nobody (stored_gone ns a i nr) (stored_gone ms b i mr) (thing_removed es 0 c i er) (thing_removed fs 0 d i fr))
      (λ j differ. rw (stored_removed ns i j differ, stored_removed ms i j differ, thing_removed_other es i j differ, thing_removed_other fs i j differ) (all j))
