-- References that come to count, one by one.
use Rattle.std.proofs.Common.{◌≡◌, ℕ, suc, ◌+◌, ◌<◌, ◌≤◌, false, List, [], ◌∷◌, ◌++◌, length, drop, get_or, inl, inr, refl, ap, sym, ◌∙◌, subst, add-one}
use Rattle.std.proofs.lemmas.Bool.{false≢true}
use Rattle.std.proofs.lemmas.List.{drop_all}
use Rattle.flow_value.specs.declared.value.Value.{Value}
use Rattle.flow_value.specs.declared.value.Outcome.{Outcome}
use Rattle.flow_value.specs.declared.value.Kind.TheVariants as kind
use Rattle.std.specs.Option.{IsSome, IsSomeAnd, ForSome}
use Rattle.std.specs.Prelude.{Result, Ok, Err}
use Rattle.std.specs.declared.option.Option.{Option}
use Rattle.std.specs.declared.option.Option.TheVariants.{None, Some}
use Rattle.flow_base.specs.declared.ids.ActorId.{ActorId}
use Rattle.flow_base.specs.declared.ids.CellId.{CellId}
use Rattle.flow_value.specs.declared.value.Value.TheVariants.{Ref}
use Rattle.flow_numbered.specs.Numbered.{Store, thing, put, with_thing}
use Rattle.flow_cell.specs.declared.counts.Side.{Side}
use Rattle.flow_cell.specs.declared.counts.Side.TheVariants.{Promise}
use Rattle.flow_cell.specs.Cells.{CellTree, held, released}
use Rattle.flow_stream.specs.Streams.{StreamTree}
use Rattle.flow_cancel.specs.declared.actors.Note.{Note}
use Rattle.flow_cancel.specs.declared.task.Task.{Task}
use Rattle.flow_cancel.specs.declared.task.Task.TheVariants as task
use Rattle.flow_value.specs.Values.{refs_of, refs_of_all, any_may_refer}
use Rattle.flow_value.proofs.References.{no_part_refs}
use Rattle.flow_value.specs.View.{value_of, values_of}
use Rattle.flow_cancel.specs.Heap.{HeapTree, cell_id, next_cell, finished}
use Rattle.flow_cancel.specs.Dropping.{drops}
use Rattle.flow_cancel.proofs.Puts.{found_put}
use Rattle.flow_meaning.specs.Cells as cells
use Rattle.flow_code.proofs.Resolved.Maps.{drop_more}
use Rattle.flow_heap_refinement.specs.Changes.{cell_put, stream_put}
use Rattle.flow_heap_refinement.specs.Holds.{hold, hold_all, held_cell, held_stream, set_cell, send_stream, sent}
use Rattle.flow_steps.specs.declared.call.Goal.{Goal}
use Rattle.flow_steps.specs.declared.process.Process.{Process}
use Rattle.flow_steps.specs.Doing.{doing}
use Rattle.flow_steps.specs.Delivering.{made, requested, heard, OpenGiven, PortGiven, promise_ended, without_promise, closing, closed}
use Rattle.flow_steps.specs.declared.errors.Fault.{Fault}
use Rattle.flow_steps.specs.declared.errors.Fault.TheVariants as fault
use Rattle.flow_steps.specs.Stuck.{IfStuck, OnStuck, CellMissing, StreamMissing, SomeMissing}
use Rattle.flow_steps.specs.Holding.{on_heap, cell_holding, stream_holding, result_filled, stream_filled, value_refs, IsGiving, Gives}

pub hold_append : (rs ss : List cells.Ref) (h : HeapTree) → hold_all (rs ++ ss) h ≡ hold_all ss (hold_all rs h)
hold_append [] ss h = refl
hold_append (r ∷ rs) ss h = hold_append rs ss (hold r.0 r.1 h)

no_more : (rs : List cells.Ref) → rs ++ [] ≡ rs
no_more [] = refl
no_more (r ∷ rs) = ap (λ l. r ∷ l) (no_more rs)

-- the references of fields from one on
abbrev pub fields_held : List Value → HeapTree → HeapTree
fields_held vs h = hold_all (refs_of_all (values_of vs)) h

pub fields_step : (vs : List Value) (i : ℕ) (d : Value) (old new all : HeapTree) → i < length vs
    → new ≡ hold_all (refs_of (value_of (get_or vs i d))) old
    → fields_held (drop i vs) old ≡ all
    → fields_held (drop (i + 1) vs) new ≡ all
fields_step vs i d old new all lt put inv =
    rw add-one
    (ap (fields_held (drop (suc i) vs)) put
    ∙ sym (hold_append (refs_of (value_of (get_or vs i d))) (refs_of_all (values_of (drop (suc i) vs))) old)
    ∙ ap (λ l. fields_held l old) (sym (drop_more vs i d lt))
    ∙ inv)

pub fields_end : (vs : List Value) (i : ℕ) (old all : HeapTree) → length vs ≤ i → fields_held (drop i vs) old ≡ all → old ≡ all
fields_end vs i old all le inv = ap (λ l. fields_held l old) (sym (drop_all i vs le)) ∙ inv

-- what can't refer leaves the process as it is
pub nothing_counts : (vs : List Value) (p : Process) → any_may_refer (values_of vs) ≡ false → p ≡ on_heap (hold_all (refs_of_all (values_of vs))) p
nothing_counts vs p e = ap (λ rs. on_heap (hold_all rs) p) (sym (no_part_refs (values_of vs) e))

-- a reference of the first of two rows is missing, or, once all of those count, one of the second
pub missing_first : (qs rs : List cells.Ref) (h : HeapTree) → SomeMissing qs h → SomeMissing (qs ++ rs) h
missing_first [] rs h m = absurd m
missing_first (q ∷ qs) rs h (inl m) = inl m
missing_first (q ∷ qs) rs h (inr m) = inr (missing_first qs rs (hold q.0 q.1 h) m)

pub missing_later : (qs rs : List cells.Ref) (h : HeapTree) → SomeMissing rs (hold_all qs h) → SomeMissing (qs ++ rs) h
missing_later [] rs h m = m
missing_later (q ∷ qs) rs h m = inr (missing_later qs rs (hold q.0 q.1 h) m)

-- so of the fields from one on
abbrev pub fields_missing : List Value → HeapTree → Type 0
fields_missing vs h = SomeMissing (refs_of_all (values_of vs)) h

pub field_missing : (vs : List Value) (i : ℕ) (d : Value) (h : HeapTree) (X : Type 0) → i < length vs → (fields_missing (drop i vs) h → X)
    → SomeMissing (refs_of (value_of (get_or vs i d))) h → X
field_missing vs i d h X lt on m =
    on (subst (λ l. fields_missing l h) (sym (drop_more vs i d lt)) (missing_first (refs_of (value_of (get_or vs i d))) (refs_of_all (values_of (drop (suc i) vs))) h m))

pub missing_step : (vs : List Value) (i : ℕ) (d : Value) (old new : HeapTree) (X : Type 0) → i < length vs → new ≡ hold_all (refs_of (value_of (get_or vs i d))) old
    → (fields_missing (drop i vs) old → X) → fields_missing (drop (i + 1) vs) new → X
missing_step vs i d old new X lt put on m =
    let here : fields_missing (drop (suc i) vs) new = subst (λ k. fields_missing (drop k vs) new) (add-one i) m in
    on (subst (λ l. fields_missing l old) (sym (drop_more vs i d lt))
    (missing_later (refs_of (value_of (get_or vs i d))) (refs_of_all (values_of (drop (suc i) vs))) old (subst (λ g. fields_missing (drop (suc i) vs) g) put here)))

pub value_alone : (v : Value) (h : HeapTree) → hold_all (refs_of (value_of v)) h ≡ hold_all (refs_of (value_of v) ++ []) h
value_alone v h = ap (λ rs. hold_all rs h) (sym (no_more (refs_of (value_of v))))

-- a count that rises
pub cell_counted : (s : Side) (k : ℕ) (h : HeapTree) (new : Store (CellTree Outcome)) → IsSome (thing h.cells.things k)
    → ForSome (thing h.cells.things k) (λ c. new ≡ with_thing h.cells k (record c { references = held s c.references }))
    → record h { cells = new } ≡ cell_holding s k h
cell_counted s k h new is q = by (thing h.cells.things k) is q
  where
    by : (o : Option (CellTree Outcome)) → IsSome o → ForSome o (λ c. new ≡ with_thing h.cells k (record c { references = held s c.references })) → record h { cells = new } ≡ held_cell s k o h
    by (Some m) is q = ap (λ c. record h { cells = c }) (q m refl)
    by None is q = absurd (false≢true is)

pub stream_counted : (s : Side) (k : ℕ) (h : HeapTree) (new : Store (StreamTree Value)) → IsSome (thing h.streams.things k)
    → ForSome (thing h.streams.things k) (λ c. new ≡ with_thing h.streams k (record c { references = held s c.references }))
    → record h { streams = new } ≡ stream_holding s k h
stream_counted s k h new is q = by (thing h.streams.things k) is q
  where
    by : (o : Option (StreamTree Value)) → IsSome o → ForSome o (λ c. new ≡ with_thing h.streams k (record c { references = held s c.references })) → record h { streams = new } ≡ held_stream s k o h
    by (Some m) is q = ap (λ c. record h { streams = c }) (q m refl)
    by None is q = absurd (false≢true is)

-- content, the reference of the fire, and the fire
pub result_filled_by : (k : ℕ) (o : Outcome) (p set held all : Process)
    → IsSomeAnd (thing p.heap.cells.things k) (λ c. set ≡ on_heap (cell_put k (record c { content = Some o })) p)
    → held ≡ on_heap (hold kind.Future k) set → all ≡ doing (task.Fire (cell_id k)) held
    → all ≡ on_heap (result_filled k o) p
result_filled_by k o p set held all is e f = f ∙ ap (doing (task.Fire (cell_id k))) e ∙ by (thing p.heap.cells.things k) is
  where
    by : (c : Option (CellTree Outcome)) → IsSomeAnd c (λ c. set ≡ on_heap (cell_put k (record c { content = Some o })) p)
        → doing (task.Fire (cell_id k)) (on_heap (hold kind.Future k) set) ≡ on_heap (λ h. set_cell k o c h) p
    by (Some m) q = ap (λ s. doing (task.Fire (cell_id k)) (on_heap (hold kind.Future k) s)) q
    by None q = absurd q

pub stream_filled_by : (k : ℕ) (o : Outcome) (p set held all : Process)
    → IsSomeAnd (thing p.heap.streams.things k) (λ s. set ≡ on_heap (stream_put k (sent o s)) p)
    → held ≡ on_heap (hold kind.FutureStream k) set → all ≡ doing (task.Fire (cell_id k)) held
    → all ≡ on_heap (stream_filled k o) p
stream_filled_by k o p set held all is e f = f ∙ ap (doing (task.Fire (cell_id k))) e ∙ by (thing p.heap.streams.things k) is
  where
    by : (c : Option (StreamTree Value)) → IsSomeAnd c (λ s. set ≡ on_heap (stream_put k (sent o s)) p)
        → doing (task.Fire (cell_id k)) (on_heap (hold kind.FutureStream k) set) ≡ on_heap (λ h. send_stream k o c h) p
    by (Some m) q = ap (λ s. doing (task.Fire (cell_id k)) (on_heap (hold kind.FutureStream k) s)) q
    by None q = absurd q

-- So the cell, or the stream, that got content is not missing.
pub if_stuck_weaker : (e : Fault) (X Y : Type 0) → (X → Y) → IfStuck e X → IfStuck e Y
if_stuck_weaker fault.OutOfMemory X Y h m = tt
if_stuck_weaker fault.Stuck X Y h m = h m

pub on_stuck_weaker : {T : Type 0} (r : Result T Fault) (X Y : Type 0) → (X → Y) → OnStuck r X → OnStuck r Y
on_stuck_weaker (Ok t) X Y h m = tt
on_stuck_weaker (Err e) X Y h m = if_stuck_weaker e X Y h m

pub set_there : (k : ℕ) (o : Outcome) (p q : Process) → IsSomeAnd (thing p.heap.cells.things k) (λ c. q ≡ on_heap (cell_put k (record c { content = Some o })) p)
    → CellMissing k q.heap → ⊥
set_there k o p q is missing = by (thing p.heap.cells.things k) refl is
  where
    by : (c : Option (CellTree Outcome)) → thing p.heap.cells.things k ≡ c → IsSomeAnd c (λ c. q ≡ on_heap (cell_put k (record c { content = Some o })) p) → ⊥
    by None at is = absurd is
    by (Some m) at is =
        let there = found_put p.heap.cells.things k m (record m { content = Some o }) at in
        let now = ap (λ (x : Process). thing x.heap.cells.things k) is in cc (there, now, missing)

pub sent_there : (k : ℕ) (o : Outcome) (p q : Process) → IsSomeAnd (thing p.heap.streams.things k) (λ s. q ≡ on_heap (stream_put k (sent o s)) p)
    → StreamMissing k q.heap → ⊥
sent_there k o p q is missing = by (thing p.heap.streams.things k) refl is
  where
    by : (c : Option (StreamTree Value)) → thing p.heap.streams.things k ≡ c → IsSomeAnd c (λ s. q ≡ on_heap (stream_put k (sent o s)) p) → ⊥
    by None at is = absurd is
    by (Some m) at is =
        let there = found_put p.heap.streams.things k m (sent o m) at in
        let now = ap (λ (x : Process). thing x.heap.streams.things k) is in cc (there, now, missing)

pub set_stuck : (e : Fault) (X : Type 0) (k : ℕ) (o : Outcome) (p q : Process) → IsSomeAnd (thing p.heap.cells.things k) (λ c. q ≡ on_heap (cell_put k (record c { content = Some o })) p)
    → IfStuck e (CellMissing k q.heap) → IfStuck e X
set_stuck e X k o p q is m = if_stuck_weaker e (CellMissing k q.heap) X (λ n. absurd (set_there k o p q is n)) m

pub send_stuck : (e : Fault) (X : Type 0) (k : ℕ) (o : Outcome) (p q : Process) → IsSomeAnd (thing p.heap.streams.things k) (λ s. q ≡ on_heap (stream_put k (sent o s)) p)
    → IfStuck e (StreamMissing k q.heap) → IfStuck e X
send_stuck e X k o p q is m = if_stuck_weaker e (StreamMissing k q.heap) X (λ n. absurd (sent_there k o p q is n)) m

-- a result that is given
pub given_all : (g : Goal) (i : ActorId) (v : Value) (t : Task) (p held on all : Process) → IsGiving g i v t
    → held ≡ on_heap (hold_all (value_refs v)) p → on ≡ doing (task.Run i) held → all ≡ doing t on
    → Gives g i v p all
given_all g i v t p held on all is e f q = record {
  task = t;
  giving = is;
  given_by = q ∙ ap (doing t) (f ∙ ap (doing (task.Run i)) e);
}

-- nothing but the heap is changed
pub kept_but_heap : (p q r : Process) (f : HeapTree → HeapTree) → q ≡ record p { heap = q.heap } → r ≡ on_heap f q → r ≡ record p { heap = r.heap }
kept_but_heap p q r f e g = g ∙ ap (λ (x : Process). record x { heap = f q.heap }) e ∙ sym (ap (λ (x : Process). record p { heap = x.heap }) g)

-- the references of one value are dropped
pub value_dropped : (v : Value) (ts : List Task) → drops (refs_of (value_of v)) ts ≡ drops (refs_of (value_of v) ++ []) ts
value_dropped v ts = ap (λ rs. drops rs ts) (sym (no_more (refs_of (value_of v))))

-- a result for which the world has an open request, or the stream of a port
pub open_given : (g : Goal) (i : ActorId) (k : CellId) (p between held all : Process) → k.0 ≡ next_cell p.heap
    → Gives g i (Ref kind.Future k) (on_heap (made kind.Future) p) between
    → held ≡ on_heap (hold kind.Promise k.0) between
    → all ≡ on_heap (requested k.0) held
    → OpenGiven g i k p all
open_given g i k p between held all n is e f = record { number = n; between = between; given = is; requested_then = f ∙ ap (on_heap (requested k.0)) e }

pub port_given : (g : Goal) (i : ActorId) (k : CellId) (p between held all : Process) → k.0 ≡ next_cell p.heap
    → Gives g i (Ref kind.FutureStream k) (on_heap (made kind.FutureStream) p) between
    → held ≡ on_heap (hold kind.PromiseStream k.0) between
    → all ≡ on_heap (heard k.0) held
    → PortGiven g i k p all
port_given g i k p between held all n is e f = record { number = n; between = between; given = is; heard_then = f ∙ ap (on_heap (heard k.0)) e }

-- the promise of a single result that is there counts no more
pub promise_ended_by : (k : ℕ) (p q : Process) → IsSomeAnd (thing p.heap.cells.things k) (λ c. q ≡ on_heap (cell_put k (record c { references = released Promise c.references })) p)
    → q ≡ on_heap (without_promise k) p
promise_ended_by k p q is = by (thing p.heap.cells.things k) is
  where
    by : (o : Option (CellTree Outcome)) → IsSomeAnd o (λ c. q ≡ on_heap (cell_put k (record c { references = released Promise c.references })) p) → q ≡ on_heap (promise_ended k o) p
    by (Some m) is = is
    by None is = absurd is

-- an actor that is closed with the result that is noted of it
pub closed_by : (i : ActorId) (o : Outcome) (r : Option CellId) (n : Option Note) (p gone all : Process) → IsSomeAnd n (λ m. r ≡ m.result)
    → gone ≡ on_heap (finished i.0) p → all ≡ closing i o r gone
    → IsSomeAnd n (λ m. all ≡ closed i o m.result p)
closed_by i o r (Some m) p gone all is e f = f ∙ ap (closing i o r) e ∙ ap (λ k. closed i o k p) is
closed_by i o r None p gone all is e f = absurd is
