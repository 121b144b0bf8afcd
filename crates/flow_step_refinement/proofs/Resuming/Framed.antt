-- What is done to the frames of a heap.
use Rattle.std.proofs.Common.{◌≡◌, ◌⊎◌, inl, inr, ℕ, zero, suc, ◌-◌, nat_eq, Bool, true, false, List, [], ◌∷◌, ◌++◌, length, if◌then◌else◌, refl, sym, ap, ◌∙◌, subst}
use Rattle.std.specs.declared.option.Option.{Option}
use Rattle.std.specs.declared.option.Option.TheVariants.{None, Some}
use Rattle.flow_value.specs.declared.value.Value.{Value}
use Rattle.flow_base.specs.ErrorNumbers.{operation_cancelled}
use Rattle.flow_base.specs.declared.ids.CellId.{CellId}
use Rattle.flow_numbered.specs.Numbered.{Numbered, thing, added, IsRising}
use Rattle.flow_frame.specs.declared.held.Held.{Held}
use Rattle.flow_frame.specs.Frames.{FrameTree, with_place, with_callback, in_state}
use Rattle.flow_frame.specs.Frames as frames
use Rattle.flow_cancel.specs.declared.task.Task.{Task}
use Rattle.flow_cancel.specs.declared.task.Task.TheVariants as task
use Rattle.flow_cancel.specs.Heap.{HeapTree, actor_id, next_actor, pushed, started_holding, finished}
use Rattle.flow_cancel.specs.Leaving.{waits, withdrawn_from, withdrawn, marked, cancelled_by, cancelled, suspended}
use Rattle.flow_meaning.proofs.Posture.{each_number}
use Rattle.flow_heap_refinement.specs.Acting.{frame_put}
use Rattle.flow_heap_refinement.proofs.Finds.{stored_other, stored_put, stored_removed, stored_gone}
use Rattle.flow_steps.specs.Delivering.{gone_to}
use Rattle.flow_steps.specs.Points.{reframed, with_frame, gone, noting, places_emptied, place_put, place_lost, places_lost, losing_from, lost_from}
use Rattle.flow_steps.specs.Waiting.{callbacks_in, callbacks_of, suspended_at}
use Rattle.flow_step_refinement.specs.Resuming.{IsEnding, Fine, in_no_state, is_waiting, is_ending, NoStaleWaits}
use Rattle.flow_step_refinement.proofs.Resuming.Aside.{Aside, pushing, dropping_refs, leaving_all}

-- all frames but that of an actor, if there is one, are fine
abbrev pub PoisedBut : Option ℕ → HeapTree → Type 0
PoisedBut o h = (i : ℕ) (a : FrameTree Value) → (o ≡ Some i → ⊥) → thing h.frames.things i ≡ Some a → Fine i a h.tasks

pub fine_in : (i : ℕ) (a : FrameTree Value) (ts us : List Task) → (IsEnding i ts → IsEnding i us) → Fine i a ts → Fine i a us
fine_in i a ts us more (in_no_state e) = in_no_state e
fine_in i a ts us more (is_waiting e) = is_waiting e
fine_in i a ts us more (is_ending e) = is_ending (more e)

pub all_but_none : (h : HeapTree) → PoisedBut None h → NoStaleWaits h
all_but_none h p i a at = p i a (λ e. absurd (cc (e))) at

pub but_none : (h : HeapTree) → NoStaleWaits h → PoisedBut None h
but_none h p i a out at = p i a at

pub but_one : (k : ℕ) (h : HeapTree) → NoStaleWaits h → PoisedBut (Some k) h
but_one k h p i a out at = p i a at

pub aside_but : (o : Option ℕ) (h g : HeapTree) → Aside h g → PoisedBut o h → PoisedBut o g
aside_but o h g s p i a out at =
    fine_in i a h.tasks g.tasks (s.ends i) (p i a out (ap (λ (fs : _). thing fs.things i) (sym s.frames) ∙ at))

-- a frame that changes, with what its actor waits for
record Tame (F : FrameTree Value → FrameTree Value) : Type 0 where
  state : (a : FrameTree Value) → (F a).state ≡ a.state
  waits : (a : FrameTree Value) → waits a.state a.callbacks ≡ true → waits (F a).state (F a).callbacks ≡ true

tame_place : (n : ℕ) (v : Option Value) → Tame (λ f. with_place f n v)
tame_place n v = record { state = λ a. refl; waits = λ a h. h }

waits_more : (n : ℕ) (xs : List Held) (x : Held) → waits n xs ≡ true → waits n (xs ++ x ∷ []) ≡ true
waits_more zero xs x h = absurd (cc (h))
waits_more (suc n) [] x h = absurd (cc (h))
waits_more (suc n) (y ∷ ys) x h = refl

tame_callback : (x : Held) → Tame (λ f. with_callback f x)
tame_callback x = record { state = λ a. refl; waits = λ a h. waits_more a.state a.callbacks x h }

fine_tame : (F : FrameTree Value → FrameTree Value) → Tame F → (i : ℕ) (a : FrameTree Value) (ts : List Task) → Fine i a ts → Fine i (F a) ts
fine_tame F tame i a ts (in_no_state e) = in_no_state (tame.state a ∙ e)
fine_tame F tame i a ts (is_waiting e) = is_waiting (tame.waits a e)
fine_tame F tame i a ts (is_ending e) = is_ending e

-- one frame is put, which is fine, or not asked for
one_put : (o : Option ℕ) (k : ℕ) (f n : FrameTree Value) (h : HeapTree) → thing h.frames.things k ≡ Some f → ((o ≡ Some k → ⊥) → Fine k n h.tasks)
    → ((i : ℕ) (a : FrameTree Value) → (k ≡ i → ⊥) → (o ≡ Some i → ⊥) → thing h.frames.things i ≡ Some a → Fine i a h.tasks) → PoisedBut o (frame_put k n h)
one_put o k f n h at fine others i =
    each_number k (λ i. (a : FrameTree Value) → (o ≡ Some i → ⊥) → thing (frame_put k n h).frames.things i ≡ Some a → Fine i a h.tasks)
    (λ a out there. let same : Some n ≡ Some a = sym (stored_put h.frames.things k f n at) ∙ there in let is : n ≡ a = cc (same) in subst (λ y. Fine k y h.tasks) is (fine out))
    (λ i differ a out there. others i a differ out (sym (stored_other h.frames.things k i n differ) ∙ there)) i

framed_but : (F : FrameTree Value → FrameTree Value) → Tame F → (o : Option ℕ) (k : ℕ) (h : HeapTree) → PoisedBut o h → PoisedBut o (with_frame F k h)
framed_but F tame o k h p = by_frame (thing h.frames.things k) refl
  where
    by_frame : (x : Option (FrameTree Value)) → thing h.frames.things k ≡ x → PoisedBut o (reframed F k x h)
    by_frame None at = p
    by_frame (Some f) at = one_put o k f (F f) h at (λ out. fine_tame F tame k f h.tasks (p k f out at)) (λ i a differ out there. p i a out there)

pub place_but : (o : Option ℕ) (k n : ℕ) (v : Option Value) (h : HeapTree) → PoisedBut o h → PoisedBut o (place_put k n v h)
place_but o k n v h p = framed_but (λ f. with_place f n v) (tame_place n v) o k h p

pub callback_but : (o : Option ℕ) (k : ℕ) (x : Held) (h : HeapTree) → PoisedBut o h → PoisedBut o (with_frame (λ f. with_callback f x) k h)
callback_but o k x h p = framed_but (λ f. with_callback f x) (tame_callback x) o k h p

-- it goes on elsewhere
pub gone_poised : (k b n : ℕ) (h : HeapTree) → PoisedBut (Some k) h → NoStaleWaits (gone k b n h)
gone_poised k b n h p = by_frame (thing h.frames.things k) refl
  where
    other : (i : ℕ) → (k ≡ i → ⊥) → Some k ≡ Some i → ⊥
    other i differ e = differ (cc (e))

    by_frame : (x : Option (FrameTree Value)) → thing h.frames.things k ≡ x → NoStaleWaits (reframed (gone_to b n) k x h)
    by_frame None at =
        each_number k (λ i. (a : FrameTree Value) → thing h.frames.things i ≡ Some a → Fine i a h.tasks)
        (λ a there. absurd (let e : None ≡ Some a = sym at ∙ there in cc (e)))
        (λ i differ a there. p i a (other i differ) there)
    by_frame (Some f) at =
        all_but_none (frame_put k (gone_to b n f) h) (one_put None k f (gone_to b n f) h at (λ out. in_no_state refl) (λ i a differ out there. p i a (other i differ) there))

pub told_poised : (t : Bool) (k b n : ℕ) (h : HeapTree) → NoStaleWaits h → NoStaleWaits (noting t k b n h)
told_poised true k b n h p = p
told_poised false k b n h p = gone_poised k b n h (but_one k h p)

-- places
pub emptied_but : (o : Option ℕ) (k : ℕ) (ns : List ℕ) (h : HeapTree) → PoisedBut o h → PoisedBut o (places_emptied k ns h)
emptied_but o k [] h p = p
emptied_but o k (n ∷ ns) h p = emptied_but o k ns (place_put k n None h) (place_but o k n None h p)

lost_but : (o : Option ℕ) (k n m : ℕ) (h : HeapTree) → PoisedBut o h → PoisedBut o (places_lost k n m h)
lost_but o k n zero h p = p
lost_but o k n (suc m) h p =
    lost_but o k (suc n) m (place_lost k n h) (aside_but o (place_put k n None h) (place_lost k n h) (dropping_refs _ (place_put k n None h)) (place_but o k n None h p))

pub lost_from_but : (o : Option ℕ) (k n : ℕ) (h : HeapTree) → PoisedBut o h → PoisedBut o (lost_from k n h)
lost_from_but o k n h p = by_frame (thing h.frames.things k)
  where
    by_frame : (x : Option (FrameTree Value)) → PoisedBut o (losing_from k n x h)
    by_frame None = p
    by_frame (Some f) = lost_but o k n (length f.places - n) h p

-- an actor leaves its wait
pub withdrawn_but : (k : ℕ) (h : HeapTree) → PoisedBut (Some k) h → PoisedBut (Some k) (withdrawn k h)
withdrawn_but k h p = by_frame (thing h.frames.things k) refl
  where
    by_frame : (x : Option (FrameTree Value)) → thing h.frames.things k ≡ x → PoisedBut (Some k) (withdrawn_from k x h)
    by_frame None at = p
    by_frame (Some f) at =
        let g = frame_put k (record f { callbacks = [] }) h in
        aside_but (Some k) g (withdrawn_from k (Some f) h) (leaving_all k f.callbacks g)
        (one_put (Some k) k f (record f { callbacks = [] }) h at (λ out. absurd (out refl)) (λ i a differ out there. p i a out there))

pub withdrawn_ends : (k i : ℕ) (h : HeapTree) → IsEnding i h.tasks → IsEnding i (withdrawn k h).tasks
withdrawn_ends k i h e = by_frame (thing h.frames.things k)
  where
    by_frame : (x : Option (FrameTree Value)) → IsEnding i (withdrawn_from k x h).tasks
    by_frame None = e
    by_frame (Some f) = (leaving_all k f.callbacks (frame_put k (record f { callbacks = [] }) h)).ends i e

-- it is to be thrown an error, or to end
pub ending_poised : (k : ℕ) (h : HeapTree) → IsEnding k h.tasks → PoisedBut (Some k) h → NoStaleWaits h
ending_poised k h e p i =
    each_number k (λ i. (a : FrameTree Value) → thing h.frames.things i ≡ Some a → Fine i a h.tasks) (λ a there. is_ending e)
    (λ i differ a there. p i a (λ s. differ (cc (s))) there) i

marking : (k : ℕ) (h : HeapTree) → Aside h (marked k h)
marking k h = record { frames = refl; ends = λ i e. e }

pub cancelled_poised : (k : ℕ) (h : HeapTree) → NoStaleWaits h → NoStaleWaits (cancelled k h)
cancelled_poised k h p = by_wait (suspended k h) (marked k h) (all_but_none (marked k h) (aside_but None h (marked k h) (marking k h) (but_none h p)))
  where
    by_wait : (b : Bool) (g : HeapTree) → NoStaleWaits g → NoStaleWaits (cancelled_by b k g)
    by_wait false g q = q
    by_wait true g q =
        let t : Task = task.Throw (actor_id k) (record { 0 = operation_cancelled }) in
        let one = pushed t g in
        ending_poised k (cancelled_by true k g) (withdrawn_ends k k one (inl refl))
        (withdrawn_but k one (aside_but (Some k) g one (pushing t g) (but_one k g q)))

-- it waits for all its operands
pub suspended_poised : (k n : ℕ) (h : HeapTree) → (some : (x : Held) × ((xs : List Held) × (callbacks_of k h ≡ x ∷ xs))) → NoStaleWaits h → NoStaleWaits (suspended_at k n h)
suspended_poised k n h some p = by_frame (thing h.frames.things k) refl
  where
    fine : (n : ℕ) (f : FrameTree Value) → thing h.frames.things k ≡ Some f → Fine k (in_state n f) h.tasks
    fine zero f at = in_no_state refl
    fine (suc n) f at =
        let held : f.callbacks ≡ some.0 ∷ some.1.0 = sym (ap callbacks_in at) ∙ some.1.1 in
        is_waiting (ap (waits (suc n)) held)

    by_frame : (x : Option (FrameTree Value)) → thing h.frames.things k ≡ x → NoStaleWaits (reframed (in_state n) k x h)
    by_frame None at = p
    by_frame (Some f) at =
        all_but_none (frame_put k (in_state n f) h) (one_put None k f (in_state n f) h at (λ out. fine n f at) (λ i a differ out there. p i a there))

-- an actor starts
added_is : (xs : Numbered (FrameTree Value)) (n : ℕ) (x : FrameTree Value) (i : ℕ) (a : FrameTree Value) → thing (added xs n x) i ≡ Some a → (x ≡ a) ⊎ (thing xs i ≡ Some a)
added_is [] n x i a e = by_test (nat_eq i n) e
  where
    by_test : (t : Bool) → (if t then Some x else None) ≡ Some a → (x ≡ a) ⊎ (None ≡ Some a)
    by_test true h = inl (cc (h))
    by_test false h = inr h
added_is (y ∷ ys) n x i a e = by_test (nat_eq i y.0) refl e (added_is ys n x i a)
  where
    by_test : (t : Bool) → nat_eq i y.0 ≡ t → (if t then Some y.1 else thing (added ys n x) i) ≡ Some a → (thing (added ys n x) i ≡ Some a → (x ≡ a) ⊎ (thing ys i ≡ Some a))
        → (x ≡ a) ⊎ ((if nat_eq i y.0 then Some y.1 else thing ys i) ≡ Some a)
    by_test true is h rest = inr (ap (λ b. if b then Some y.1 else thing ys i) is ∙ h)
    by_test false is h rest = by_rest (rest h)
      where
        by_rest : (x ≡ a) ⊎ (thing ys i ≡ Some a) → (x ≡ a) ⊎ ((if nat_eq i y.0 then Some y.1 else thing ys i) ≡ Some a)
        by_rest (inl s) = inl s
        by_rest (inr s) = inr (ap (λ b. if b then Some y.1 else thing ys i) is ∙ s)

pub started_poised : (class places : ℕ) (xs : List (Option Value)) (o : Option CellId) (h : HeapTree) → NoStaleWaits h → NoStaleWaits (started_holding class places xs o h)
started_poised class places xs o h p i a at = by_new (added_is h.frames.things (next_actor h) (frames.holding class places xs) i a at)
  where
    by_new : (frames.holding class places xs ≡ a) ⊎ (thing h.frames.things i ≡ Some a) → Fine i a h.tasks
    by_new (inl s) = in_no_state (ap (λ (y : FrameTree Value). y.state) (sym s))
    by_new (inr s) = p i a s

-- and is finished
pub finished_poised : (k : ℕ) (h : HeapTree) → IsRising 0 h.frames.things h.frames.greatest → PoisedBut (Some k) h → NoStaleWaits (finished k h)
finished_poised k h rising p i =
    each_number k (λ i. (a : FrameTree Value) → thing (finished k h).frames.things i ≡ Some a → Fine i a h.tasks)
    (λ a there. absurd (let e : None ≡ Some a = sym (stored_gone h.frames.things h.frames.greatest k rising) ∙ there in cc (e)))
    (λ i differ a there. p i a (λ s. differ (cc (s))) (sym (stored_removed h.frames.things k i differ) ∙ there)) i

-- what an actor waits for stays where its places are emptied
frame_callbacks : (F : FrameTree Value → FrameTree Value) → ((a : FrameTree Value) → (F a).callbacks ≡ a.callbacks) → (k : ℕ) (h : HeapTree) → callbacks_of k (with_frame F k h) ≡ callbacks_of k h
frame_callbacks F same k h = by_frame (thing h.frames.things k) refl
  where
    by_frame : (x : Option (FrameTree Value)) → thing h.frames.things k ≡ x → callbacks_of k (reframed F k x h) ≡ callbacks_of k h
    by_frame None at = refl
    by_frame (Some f) at = ap callbacks_in (stored_put h.frames.things k f (F f) at) ∙ same f ∙ sym (ap callbacks_in at)

lost_callbacks : (k n m : ℕ) (h : HeapTree) → callbacks_of k (places_lost k n m h) ≡ callbacks_of k h
lost_callbacks k n zero h = refl
lost_callbacks k n (suc m) h = lost_callbacks k (suc n) m (place_lost k n h) ∙ frame_callbacks (λ f. with_place f n None) (λ a. refl) k h

pub lost_from_callbacks : (k n : ℕ) (h : HeapTree) → callbacks_of k (lost_from k n h) ≡ callbacks_of k h
lost_from_callbacks k n h = by_frame (thing h.frames.things k)
  where
    by_frame : (x : Option (FrameTree Value)) → callbacks_of k (losing_from k n x h) ≡ callbacks_of k h
    by_frame None = refl
    by_frame (Some f) = lost_callbacks k n (length f.places - n) h

-- and tasks stay
lost_ends_in : (i k n m : ℕ) (h : HeapTree) → IsEnding i h.tasks → IsEnding i (places_lost k n m h).tasks
lost_ends_in i k n zero h e = e
lost_ends_in i k n (suc m) h e =
    lost_ends_in i k (suc n) m (place_lost k n h)
    ((dropping_refs _ (place_put k n None h)).ends i (put_ends (thing h.frames.things k)))
  where
    put_ends : (x : Option (FrameTree Value)) → IsEnding i (reframed (λ f. with_place f n None) k x h).tasks
    put_ends None = e
    put_ends (Some f) = e

pub lost_from_ends : (i k n : ℕ) (h : HeapTree) → IsEnding i h.tasks → IsEnding i (lost_from k n h).tasks
lost_from_ends i k n h e = by_frame (thing h.frames.things k)
  where
    by_frame : (x : Option (FrameTree Value)) → IsEnding i (losing_from k n x h).tasks
    by_frame None = e
    by_frame (Some f) = lost_ends_in i k n (length f.places - n) h e
