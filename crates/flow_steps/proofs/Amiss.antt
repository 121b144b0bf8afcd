-- Where operands, branches, waits and call statements go astray.
use Rattle.std.proofs.Common.{◌≡◌, ◌⊎◌, ℕ, zero, suc, ◌+◌, ◌<◌, nat_eq, nat_lt, Bool, true, false, List, [], ◌∷◌, length, map, drop, slice_get, inl, inr, refl, ap, sym, ◌∙◌, subst, arith, if◌then◌else◌}
use Rattle.std.proofs.lemmas.Bool.{false≢true}
use Rattle.std.proofs.lemmas.Bool.Decides.{nat_tests}
use Rattle.std.proofs.lemmas.List.{drop_more}
use Rattle.std.proofs.lemmas.Option.{slice_get_within}
use Rattle.std.specs.Option.{ForSome, is_some}
use Rattle.std.specs.declared.option.Option.{Option}
use Rattle.std.specs.declared.option.Option.TheVariants.{None, Some}
use Rattle.flow_ast.specs.declared.predefined.Method.{Method}
use Rattle.flow_base.specs.declared.ids.CellId.{CellId}
use Rattle.flow_value.specs.declared.value.Value.{Value}
use Rattle.flow_value.specs.declared.value.Outcome.{Outcome}
use Rattle.flow_value.specs.declared.value.Kind.{Kind}
use Rattle.flow_value.specs.declared.value.Kind.TheVariants as kind
use Rattle.flow_value.specs.View.{value_of, outcome_of}
use Rattle.flow_eval.specs.Answers.{arg}
use Rattle.flow_code.specs.declared.class.Group.{Group}
use Rattle.flow_code.specs.declared.class.Last.TheVariants as last
use Rattle.flow_code.specs.View.{group_numbered}
use Rattle.flow_numbered.specs.Numbered.{Store, thing, with_thing}
use Rattle.flow_numbered.proofs.Things.{thing_put}
use Rattle.flow_cell.specs.declared.counts.Side.{Side}
use Rattle.flow_cell.specs.declared.counts.Side.TheVariants as side
use Rattle.flow_cell.specs.declared.waiter.Waiter.{Waiter}
use Rattle.flow_cell.specs.Cells.{CellTree, held}
use Rattle.flow_stream.specs.Streams.{StreamTree, head}
use Rattle.flow_stream.specs.declared.head.Head.TheVariants.{Nothing}
use Rattle.flow_frame.specs.declared.held.Held.{Held}
use Rattle.flow_frame.specs.Frames.{FrameTree, with_callback}
use Rattle.flow_cancel.specs.declared.task.Task.{Task}
use Rattle.flow_cancel.specs.Heap.{HeapTree, pushed}
use Rattle.flow_cancel.specs.Leaving.{waiter_of, withdrawn}
use Rattle.flow_meaning.specs.Cells.{Ref}
use Rattle.flow_meaning.specs.Evaluating.{sent}
use Rattle.flow_meaning.specs.Lines.{print_line}
use Rattle.flow_heap_refinement.specs.Holds.{hold, hold_all, held_cell, held_stream}
use Rattle.flow_steps.specs.declared.frames.ControlPoint.{ControlPoint}
use Rattle.flow_steps.specs.declared.process.Process.{Process}
use Rattle.flow_steps.specs.Doing.{turned}
use Rattle.flow_steps.specs.Holding.{outcome_refs, kind_in}
use Rattle.flow_steps.specs.Delivering.{complete_at, is_set, is_ended}
use Rattle.flow_steps.specs.Points.{reframed, lost_from, values}
use Rattle.flow_steps.specs.Waiting.{Takes, copied, popped, operand_kept, Registered, awaited, stream_awaited, register, register_all, registered_then, Registers}
use Rattle.flow_steps.specs.Stuck.{Missing, SomeMissing, MayNotSet, MayNotSend, MayNotFill, FrameMissing}
use Rattle.flow_steps.specs.StuckWaits.{NoBranchOf, no_group, before_first, NoCopy, NoCopyIn, NoHead, NothingIn, NothingTaken, TakesStuck, NoCell, SomeNoCell}
use Rattle.flow_steps.specs.StuckRequests.{SendsStuck, cell_missing, refers_stuck, MethodStuck}
use Rattle.flow_steps.proofs.Waits.{is_stream, held_here, frames_stay}
use Rattle.flow_steps.proofs.Before.{some_none, held_frames, put_still, with_frame_still, lost_still, withdrawn_still}

-- no branch of a number
pub no_group_there : (s : ControlPoint) (callback g : ℕ) → s.block.now.last ≡ last.Choose g → None ≡ group_numbered g s.class.now.groups.items → NoBranchOf s callback
no_group_there s callback g w e = no_group g w (sym e)

pub begins_later : (s : ControlPoint) (callback g : ℕ) (of : Group) → s.block.now.last ≡ last.Choose g → Some of ≡ group_numbered g s.class.now.groups.items → callback < of.first
    → NoBranchOf s callback
begins_later s callback g of w e lt = before_first g of w (sym e) lt

-- nothing to take
pub nothing_set : (k : ℕ) (h : HeapTree) → ForSome (thing h.cells.things k) (λ (c : CellTree Outcome). None ≡ c.content) → NoCopyIn (thing h.cells.things k) h
nothing_set k h none = by (thing h.cells.things k) none
  where
    by : (o : Option (CellTree Outcome)) → ForSome o (λ c. None ≡ c.content) → NoCopyIn o h
    by None none = tt
    by (Some c) none = subst (λ o. NoCopy o h) (none c refl) tt

pub copy_missing : (k : ℕ) (o copy : Outcome) (h : HeapTree) → ForSome (thing h.cells.things k) (λ (c : CellTree Outcome). Some o ≡ c.content)
    → outcome_of copy ≡ outcome_of o → SomeMissing (outcome_refs copy) h → NoCopyIn (thing h.cells.things k) h
copy_missing k o copy h some same m = by (thing h.cells.things k) some
  where
    by : (c : Option (CellTree Outcome)) → ForSome c (λ c. Some o ≡ c.content) → NoCopyIn c h
    by None some = tt
    by (Some c) some = subst (λ x. NoCopy x h) (some c refl) (rw same at m)

pub nothing_first : (k : ℕ) (h : HeapTree) → ForSome (thing h.streams.things k) (λ (s : StreamTree Value). Nothing ≡ head s.queue s.end)
    → NoHead (thing h.streams.things k)
nothing_first k h none = by (thing h.streams.things k) none
  where
    by : (o : Option (StreamTree Value)) → ForSome o (λ s. Nothing ≡ head s.queue s.end) → NoHead o
    by None none = tt
    by (Some s) none = sym (none s refl)

pub copy_stuck : (k : ℕ) (kd : Kind) (h : HeapTree) → is_stream (Some kd) ≡ false → Some kd ≡ kind_in (thing h.cells.things k) (thing h.streams.things k)
    → NoCopyIn (thing h.cells.things k) h → NothingTaken k h
copy_stuck k kd h is e m = by (thing h.cells.things k) (thing h.streams.things k) e m
  where
    by : (c : Option (CellTree Outcome)) (s : Option (StreamTree Value)) → Some kd ≡ kind_in c s → NoCopyIn c h → NothingIn c s h
    by (Some c) s e m = m
    by None (Some s) e m = absurd (false≢true (sym is ∙ ap is_stream e))
    by None None e m = tt

pub first_stuck_at : (k : ℕ) (kd : Kind) (h : HeapTree) → is_stream (Some kd) ≡ true → Some kd ≡ kind_in (thing h.cells.things k) (thing h.streams.things k)
    → NoHead (thing h.streams.things k) → NothingTaken k h
first_stuck_at k kd h is e m = by (thing h.cells.things k) (thing h.streams.things k) e m
  where
    by : (c : Option (CellTree Outcome)) (s : Option (StreamTree Value)) → Some kd ≡ kind_in c s → NoHead s → NothingIn c s h
    by (Some c) s e m = absurd (false≢true (sym (ap is_stream e) ∙ is))
    by None s e m = m

pub nothing_there : (k : ℕ) (h : HeapTree) → None ≡ kind_in (thing h.cells.things k) (thing h.streams.things k) → NothingTaken k h
nothing_there k h e = by (thing h.cells.things k) (thing h.streams.things k) e
  where
    by : (c : Option (CellTree Outcome)) (s : Option (StreamTree Value)) → None ≡ kind_in c s → NothingIn c s h
    by (Some c) s e = absurd (some_none (sym e))
    by None (Some s) e = absurd (some_none (sym e))
    by None None e = tt

-- a turn leaves the heap
pub turned_heap : (p : Process) → (turned p).heap ≡ p.heap
turned_heap p = by (nat_lt 0 p.left) refl
  where
    by : (b : Bool) → nat_lt 0 p.left ≡ b → (turned p).heap ≡ p.heap
    by true e = rw e refl
    by false e = rw e refl

-- what leaves a wait
pub left_still : (i n m : ℕ) (t : Task) (h h1 h2 : HeapTree) → h1 ≡ pushed t h → h2 ≡ lost_from i n h1 → FrameMissing m h2 → FrameMissing m h
left_still i n m t h h1 h2 e f none = lost_still i n m (pushed t h) (subst (λ x. FrameMissing m x) (f ∙ ap (lost_from i n) e) none)

pub departed_still : (i n m : ℕ) (t : Task) (h h1 h2 h3 : HeapTree) → h1 ≡ pushed t h → h2 ≡ lost_from i n h1 → h3 ≡ withdrawn i h2 → FrameMissing m h3 → FrameMissing m h
departed_still i n m t h h1 h2 h3 e f g none = left_still i n m t h h1 h2 e f (withdrawn_still i m h2 (subst (λ x. FrameMissing m x) g none))

-- what a branch takes leaves frames
pub takes_still : (k i : ℕ) (o : Outcome) (p q : Process) → Takes k o p q → FrameMissing i q.heap → FrameMissing i p.heap
takes_still k i o p q (copied c e) none =
    let same : q.heap.frames ≡ p.heap.frames = ap (λ (x : Process). x.heap.frames) e ∙ held_frames (outcome_refs o) p.heap in
    sym (ap (λ (f : Store (FrameTree Value)). thing f.things i) same) ∙ none
takes_still k i o p q (popped s a b c e) none = sym (ap (λ (x : Process). thing x.heap.frames.things i) e) ∙ none

-- a frame that changes leaves cells
cell_apart : (fs : Store (FrameTree Value)) (s : Side) (k : ℕ) (o : Option (CellTree Outcome)) (h : HeapTree) → held_cell s k o (record h { frames = fs }) ≡ record (held_cell s k o h) { frames = fs }
cell_apart fs s k None h = refl
cell_apart fs s k (Some c) h = refl

stream_apart : (fs : Store (FrameTree Value)) (s : Side) (k : ℕ) (o : Option (StreamTree Value)) (h : HeapTree)
    → held_stream s k o (record h { frames = fs }) ≡ record (held_stream s k o h) { frames = fs }
stream_apart fs s k None h = refl
stream_apart fs s k (Some c) h = refl

one_apart : (fs : Store (FrameTree Value)) (kd : Kind) (k : ℕ) (h : HeapTree) → hold kd k (record h { frames = fs }) ≡ record (hold kd k h) { frames = fs }
one_apart fs kind.Promise k h = cell_apart fs side.Promise k (thing h.cells.things k) h
one_apart fs kind.Future k h = cell_apart fs side.Future k (thing h.cells.things k) h
one_apart fs kind.PromiseStream k h = stream_apart fs side.Promise k (thing h.streams.things k) h
one_apart fs kind.FutureStream k h = stream_apart fs side.Future k (thing h.streams.things k) h

one_missing : (fs : Store (FrameTree Value)) (kd : Kind) (k : ℕ) (h : HeapTree) → Missing kd k (record h { frames = fs }) → Missing kd k h
one_missing fs kind.Promise k h m = m
one_missing fs kind.Future k h m = m
one_missing fs kind.PromiseStream k h m = m
one_missing fs kind.FutureStream k h m = m

missing_apart : (fs : Store (FrameTree Value)) (rs : List Ref) (h : HeapTree) → SomeMissing rs (record h { frames = fs }) → SomeMissing rs h
missing_apart fs [] h m = m
missing_apart fs (r ∷ rs) h (inl m) = inl (one_missing fs r.0 r.1 h m)
missing_apart fs (r ∷ rs) h (inr m) = inr (missing_apart fs rs (hold r.0 r.1 h) (subst (SomeMissing rs) (one_apart fs r.0 r.1 h) m))

nothing_apart : (fs : Store (FrameTree Value)) (k : ℕ) (h : HeapTree) → NothingTaken k (record h { frames = fs }) → NothingTaken k h
nothing_apart fs k h m = by (thing h.cells.things k) (thing h.streams.things k) m
  where
    copy : (o : Option Outcome) → NoCopy o (record h { frames = fs }) → NoCopy o h
    copy None m = tt
    copy (Some o) m = missing_apart fs (outcome_refs o) h m

    by : (c : Option (CellTree Outcome)) (s : Option (StreamTree Value)) → NothingIn c s (record h { frames = fs }) → NothingIn c s h
    by (Some c) s m = copy c.content m
    by None s m = m

nothing_kept : (i k : ℕ) (x : Held) (h : HeapTree) → NothingTaken k (operand_kept i x h) → NothingTaken k h
nothing_kept i k x h m = by (thing h.frames.things i) m
  where
    by : (o : Option (FrameTree Value)) → NothingTaken k (reframed (λ f. with_callback f x) i o h) → NothingTaken k h
    by None m = m
    by (Some f) m = nothing_apart (with_thing h.frames i (with_callback f x)) k h m

pub kept_takes : (s : ControlPoint) (i k : ℕ) (x : Held) (h : HeapTree) → TakesStuck s k (operand_kept i x h) → TakesStuck s k h
kept_takes s i k x h (inl m) = inl m
kept_takes s i k x h (inr (inl m)) = inr (inl (nothing_kept i k x h m))
kept_takes s i k x h (inr (inr m)) = inr (inr (with_frame_still (λ f. with_callback f x) i s.actor.0 h m))

-- waiters leave cells
pub is_none : {A : Type 0} (o : Option A) → is_some o ≡ false → o ≡ None
is_none None e = refl
is_none (Some a) e = absurd (false≢true (sym e))

cell_still : (i k : ℕ) (x : Held) (h : HeapTree) → NoCell k (register i x h).1 → NoCell k h
cell_still i k x h m = by (thing h.cells.things x.cell.0) (thing h.streams.things x.cell.0) m
  where
    waits : (s : StreamTree Value) (o : Option Waiter) → NoCell k (stream_awaited x.cell.0 (waiter_of i x) s o h).1 → NoCell k h
    waits s None m = (m.0, put_still h.streams.things x.cell.0 k _ m.1)
    waits s (Some old) m = m

    by : (c : Option (CellTree Outcome)) (o : Option (StreamTree Value)) → NoCell k (awaited x.cell.0 (waiter_of i x) c o h).1 → NoCell k h
    by (Some c) o m = (put_still h.cells.things x.cell.0 k _ m.0, m.1)
    by None (Some s) m = waits s s.waiter m
    by None None m = m

some_still : (i : ℕ) (x : Held) (xs : List Held) (h : HeapTree) → SomeNoCell xs (register i x h).1 → SomeNoCell xs h
some_still i x [] h m = m
some_still i x (y ∷ ys) h (inl m) = inl (cell_still i y.cell.0 x h m)
some_still i x (y ∷ ys) h (inr m) = inr (some_still i x ys h m)

pub no_cell_step : (i : ℕ) (xs : List Held) (k : ℕ) (x : Held) (h new : HeapTree) (X : Type 0) → Some x ≡ slice_get xs k → new ≡ (register i x h).1
    → (SomeNoCell (drop k xs) h → X) → SomeNoCell (drop (k + 1) xs) new → X
no_cell_step i xs k x h new X e is on m =
    let lt : k < length xs = slice_get_within xs k x (sym e) in
    on (subst (λ l. SomeNoCell l h) (sym (drop_more xs k x lt)) (inr (some_still i x (drop (k + 1) xs) h (subst (SomeNoCell (drop (k + 1) xs)) is m))))

pub no_cell_here : (xs : List Held) (k : ℕ) (x : Held) (h : HeapTree) (X : Type 0) → Some x ≡ slice_get xs k → (SomeNoCell (drop k xs) h → X) → NoCell x.cell.0 h → X
no_cell_here xs k x h X e on m =
    let lt : k < length xs = slice_get_within xs k x (sym e) in
    on (subst (λ l. SomeNoCell l h) (sym (drop_more xs k x lt)) (inl (subst (λ (y : Held). NoCell y.cell.0 h) (held_here xs k x e) m)))

pub get_none : {A : Type 0} (xs : List A) (k : ℕ) → k < length xs → slice_get xs k ≡ None → ⊥
get_none [] k lt e = omega (arith, lt)
get_none (x ∷ xs) zero lt e = some_none e
get_none (x ∷ xs) (suc k) lt e = let less : k < length xs = omega (arith, lt) in get_none xs k less e

registered_frames : (i : ℕ) (xs : List Held) (h : HeapTree) → (register_all i xs h).1.frames ≡ h.frames
registered_frames i [] h = refl
registered_frames i (x ∷ xs) h = by (register i x h) (frames_stay i x h) (λ g. registered_frames i xs g)
  where
    by : (r : Registered) → r.1.frames ≡ h.frames → ((g : HeapTree) → (register_all i xs g).1.frames ≡ g.frames) → (registered_then (register_all i xs) r).1.frames ≡ h.frames
    by (true, g) e on = on g ∙ e
    by (false, g) e on = e

pub registered_still : (i m : ℕ) (xs : List Held) (b : Bool) (p q : Process) → Registers (register_all i xs p.heap) b p q → FrameMissing m q.heap → FrameMissing m p.heap
registered_still i m xs b p q reg none =
    let same : q.heap.frames ≡ p.heap.frames = ap (λ (x : Process). x.heap.frames) reg.1 ∙ registered_frames i xs p.heap in
    sym (ap (λ (f : Store (FrameTree Value)). thing f.things m) same) ∙ none

-- references leave contents
set_cell_still : (s : Side) (n k : ℕ) (o : Option (CellTree Outcome)) (h : HeapTree) → thing h.cells.things n ≡ o → MayNotSet (thing (held_cell s n o h).cells.things k)
    → MayNotSet (thing h.cells.things k)
set_cell_still s n k None h at m = m
set_cell_still s n k (Some c) h at m =
    by (nat_eq k n) refl (subst MayNotSet (thing_put h.cells.things n c (record c { references = held s c.references }) k at) m)
  where
    by : (t : Bool) → nat_eq k n ≡ t → MayNotSet (if nat_eq k n then Some (record c { references = held s c.references }) else thing h.cells.things k) → MayNotSet (thing h.cells.things k)
    by true g m =
        let same : k ≡ n = grind (arith, nat_tests) in
        subst MayNotSet (sym (ap (thing h.cells.things) same ∙ at)) (rw g at m)
    by false g m = rw g at m

send_stream_still : (s : Side) (n k : ℕ) (o : Option (StreamTree Value)) (h : HeapTree) → thing h.streams.things n ≡ o → MayNotSend (thing (held_stream s n o h).streams.things k)
    → MayNotSend (thing h.streams.things k)
send_stream_still s n k None h at m = m
send_stream_still s n k (Some c) h at m =
    by (nat_eq k n) refl (subst MayNotSend (thing_put h.streams.things n c (record c { references = held s c.references }) k at) m)
  where
    by : (t : Bool) → nat_eq k n ≡ t → MayNotSend (if nat_eq k n then Some (record c { references = held s c.references }) else thing h.streams.things k) → MayNotSend (thing h.streams.things k)
    by true g m =
        let same : k ≡ n = grind (arith, nat_tests) in
        subst MayNotSend (sym (ap (thing h.streams.things) same ∙ at)) (rw g at m)
    by false g m = rw g at m

cells_stay : (s : Side) (n : ℕ) (o : Option (StreamTree Value)) (h : HeapTree) → (held_stream s n o h).cells ≡ h.cells
cells_stay s n None h = refl
cells_stay s n (Some c) h = refl

streams_stay : (s : Side) (n : ℕ) (o : Option (CellTree Outcome)) (h : HeapTree) → (held_cell s n o h).streams ≡ h.streams
streams_stay s n None h = refl
streams_stay s n (Some c) h = refl

set_still : (kd : Kind) (n k : ℕ) (h : HeapTree) → MayNotSet (thing (hold kd n h).cells.things k) → MayNotSet (thing h.cells.things k)
set_still kind.Promise n k h m = set_cell_still side.Promise n k (thing h.cells.things n) h refl m
set_still kind.Future n k h m = set_cell_still side.Future n k (thing h.cells.things n) h refl m
set_still kind.PromiseStream n k h m = subst (λ (s : Store (CellTree Outcome)). MayNotSet (thing s.things k)) (cells_stay side.Promise n (thing h.streams.things n) h) m
set_still kind.FutureStream n k h m = subst (λ (s : Store (CellTree Outcome)). MayNotSet (thing s.things k)) (cells_stay side.Future n (thing h.streams.things n) h) m

send_still : (kd : Kind) (n k : ℕ) (h : HeapTree) → MayNotSend (thing (hold kd n h).streams.things k) → MayNotSend (thing h.streams.things k)
send_still kind.Promise n k h m = subst (λ (s : Store (StreamTree Value)). MayNotSend (thing s.things k)) (streams_stay side.Promise n (thing h.cells.things n) h) m
send_still kind.Future n k h m = subst (λ (s : Store (StreamTree Value)). MayNotSend (thing s.things k)) (streams_stay side.Future n (thing h.cells.things n) h) m
send_still kind.PromiseStream n k h m = send_stream_still side.Promise n k (thing h.streams.things n) h refl m
send_still kind.FutureStream n k h m = send_stream_still side.Future n k (thing h.streams.things n) h refl m

pub set_all_still : (rs : List Ref) (k : ℕ) (h : HeapTree) → MayNotSet (thing (hold_all rs h).cells.things k) → MayNotSet (thing h.cells.things k)
set_all_still [] k h m = m
set_all_still (r ∷ rs) k h m = set_still r.0 r.1 k h (set_all_still rs k (hold r.0 r.1 h) m)

pub send_all_still : (rs : List Ref) (k : ℕ) (h : HeapTree) → MayNotSend (thing (hold_all rs h).streams.things k) → MayNotSend (thing h.streams.things k)
send_all_still [] k h m = m
send_all_still (r ∷ rs) k h m = send_still r.0 r.1 k h (send_all_still rs k (hold r.0 r.1 h) m)

unset_missing : (o : Option (CellTree Outcome)) → is_set o ≡ false → MayNotSet o → o ≡ None
unset_missing None e m = refl
unset_missing (Some c) e m = absurd (false≢true (sym e ∙ m))

unended_missing : (o : Option (StreamTree Value)) → is_ended o ≡ false → MayNotSend o → o ≡ None
unended_missing None e m = refl
unended_missing (Some s) e m = absurd (false≢true (sym e ∙ m))

pub unfilled_missing : (kd : Kind) (k : ℕ) (rs : List Ref) (t : Task) (h : HeapTree) → complete_at kd k h ≡ false → MayNotFill kd k (pushed t (hold_all rs h)) → Missing kd k h
unfilled_missing kind.Promise k rs t h e m = unset_missing (thing h.cells.things k) e (set_all_still rs k h m)
unfilled_missing kind.Future k rs t h e m = unset_missing (thing h.cells.things k) e (set_all_still rs k h m)
unfilled_missing kind.PromiseStream k rs t h e m = unended_missing (thing h.streams.things k) e (send_all_still rs k h m)
unfilled_missing kind.FutureStream k rs t h e m = unended_missing (thing h.streams.things k) e (send_all_still rs k h m)

-- what isn't printed
pub nothing_printed : (i : ℕ) (vs : List Value) → slice_get vs 0 ≡ None → print_line i (arg (map value_of vs) 0) ≡ None
nothing_printed i [] e = refl
nothing_printed i (v ∷ vs) e = absurd (some_none e)

-- what isn't sent
to_sends : (m : Method) (kd : Kind) (k : ℕ) (arg : Option Value) (h : HeapTree) (o : Outcome) → sent m (map value_of (values arg)) ≡ Some (outcome_of o)
    → Missing kd k h ⊎ SomeMissing (outcome_refs o) h → SendsStuck m kd k arg h
to_sends m kd k arg h o s (inl x) = cell_missing x
to_sends m kd k arg h o s (inr x) = refers_stuck o s x

pub sends_stuck : (m : Method) (kd : Kind) (k : CellId) (arg : Option Value) (h : HeapTree) (o : Outcome) → (kd ≡ kind.Promise) ⊎ (kd ≡ kind.PromiseStream)
    → sent m (map value_of (values arg)) ≡ Some (outcome_of o) → Missing kd k.0 h ⊎ SomeMissing (outcome_refs o) h → MethodStuck m kd k arg h
sends_stuck m kd k arg h o (inl e) s x =
    subst (λ d. MethodStuck m d k arg h) (sym e)
    (to_sends m kind.Promise k.0 arg h o s (subst (λ d. Missing d k.0 h ⊎ SomeMissing (outcome_refs o) h) e x))
sends_stuck m kd k arg h o (inr e) s x =
    subst (λ d. MethodStuck m d k arg h) (sym e)
    (to_sends m kind.PromiseStream k.0 arg h o s (subst (λ d. Missing d k.0 h ⊎ SomeMissing (outcome_refs o) h) e x))
